-- How tasks stand, looked up by name and by position.
use Rattle.std.proofs.Common.{◌≡◌, ℕ, zero, suc, ◌+◌, List, [], ◌∷◌, length, Bool, true, false, cond, Option, Some, None, refl, sym, ap, ◌∙◌, arith}
use Rattle.std.specs.Prelude.{bytes_eq, option_map, slice_get}
use Rattle.wf_manifest.specs.declared.calls.Task.{Task}
use Rattle.wf_manifest.specs.declared.calls.Dag.{Dag}
use Rattle.wf_manifest.specs.Valid.{HasRank}
use Rattle.scopes.specs.Substitution.{Scope}
use Rattle.meaning.specs.declared.lines.Place.{Place}
use Rattle.meaning.specs.Answers.{Answers}
use Rattle.meaning.specs.Lines.{numbered}
use Rattle.meaning.specs.Steps.{Caller}
use Rattle.meaning.specs.Dags.{Standing, waiting, look, Standings, standing, standings}
use Rattle.growth.specs.Rounds.{RoundsSettle}
use Rattle.dag_plan.specs.Order.{first}
use Rattle.dag_template.specs.declared.stands.Stand.{Stand}
use Rattle.dag_template.specs.Stands.{waits, stand_of}
use Rattle.dag_template.proofs.Solving.{solve}
use Rattle.dag_board.specs.Boards.{stood, name_at}

later_of : (o : Option ℕ) (p : ℕ) → option_map suc o ≡ Some p → (q : ℕ) × (p ≡ suc q) × (o ≡ Some q)
later_of None p e = absurd cc
later_of (Some q) p e = (q, (let same : suc q ≡ p = cc e in sym same), refl)

none_later : (o : Option ℕ) → option_map suc o ≡ None → o ≡ None
none_later None e = refl
none_later (Some q) e = absurd cc

-- a name that is no task's
pub no_stand : (ts : List Task) (xs : List Stand) (n : List ℕ) → first ts n ≡ None → stand_of ts xs n ≡ waits
no_stand [] xs n e = refl
no_stand (t ∷ ts) [] n e = refl
no_stand (t ∷ ts) (x ∷ xs) n e = go (bytes_eq t.call.name n) (no_stand ts xs n) e
  where
    go : (b : Bool) → (first ts n ≡ None → stand_of ts xs n ≡ waits) → cond b (Some 0) (option_map suc (first ts n)) ≡ None → cond b x (stand_of ts xs n) ≡ waits
    go true rest k = absurd cc
    go false rest k = rest (none_later (first ts n) k)

pub named_at : (ts : List Task) (p : ℕ) (t : Task) → slice_get ts p ≡ Some t → name_at ts p ≡ t.call.name
named_at [] p t at = absurd cc
named_at (u ∷ us) zero t at = let same : u ≡ t = cc at in ap (λ (x : Task). x.call.name) same
named_at (u ∷ us) (suc p) t at = named_at us p t at

module _ (g : ℕ → Task → Standing) where
  abbrev rows : ℕ → List Task → Standings
  rows i us = numbered (λ j t. (t, g j t)) i us

  rows_none : (i : ℕ) (us : List Task) (n : List ℕ) → first us n ≡ None → look (rows i us) n ≡ waiting
  rows_none i [] n e = refl
  rows_none i (u ∷ us) n e = go (bytes_eq u.call.name n) (rows_none (suc i) us n) e
    where
      go : (b : Bool) → (first us n ≡ None → look (rows (suc i) us) n ≡ waiting) → cond b (Some 0) (option_map suc (first us n)) ≡ None →
          cond b (g i u) (look (rows (suc i) us) n) ≡ waiting
      go true rest k = absurd cc
      go false rest k = rest (none_later (first us n) k)

  rows_look : (i : ℕ) (us : List Task) (n : List ℕ) (p : ℕ) → first us n ≡ Some p → look (rows i us) n ≡ stood (rows i us) p
  rows_look i [] n p e = absurd cc
  rows_look i (u ∷ us) n p e = go (bytes_eq u.call.name n) (rows_look (suc i) us n) e
    where
      go : (b : Bool) → ((q : ℕ) → first us n ≡ Some q → look (rows (suc i) us) n ≡ stood (rows (suc i) us) q) →
          cond b (Some 0) (option_map suc (first us n)) ≡ Some p → cond b (g i u) (look (rows (suc i) us) n) ≡ stood (rows i (u ∷ us)) p
      go true rest k = let here : 0 ≡ p = cc k in ap (stood (rows i (u ∷ us))) here
      go false rest k =
          let (q, is, later) = later_of (first us n) p k in
          rest q later ∙ ap (stood (rows i (u ∷ us))) (sym is)

  rows_stood : (i : ℕ) (us : List Task) (p : ℕ) (t : Task) → slice_get us p ≡ Some t → stood (rows i us) p ≡ g (i + p) t
  rows_stood i [] p t e = absurd cc
  rows_stood i (u ∷ us) zero t e =
      let same : u ≡ t = cc e in
      let place : i ≡ i + 0 = omega arith in
      λ j. g (place j) (same j)
  rows_stood i (u ∷ us) (suc p) t e =
      let place : suc i + p ≡ i + suc p = omega arith in
      rows_stood (suc i) us p t e ∙ ap (λ (q : ℕ). g q t) place

  rows_long : (i : ℕ) (us : List Task) → length (rows i us) ≡ length us
  rows_long i [] = refl
  rows_long i (u ∷ us) = ap suc (rows_long (suc i) us)

-- ---- the standings of a DAG

module _ (A : Answers) (called : Caller) (place : Place) (scope : Scope) (d : Dag) (settle : RoundsSettle) (h : HasRank d.tasks) where
  abbrev pub ss : Standings
  ss = standings A called place scope d

  abbrev by_all : ℕ → Task → Standing
  by_all i t = standing A called place scope d (look ss) i t

  pub rows_are : ss ≡ numbered (λ i t. (t, by_all i t)) 0 d.tasks
  rows_are = solve A called place scope d h settle

  pub look_none : (n : List ℕ) → first d.tasks n ≡ None → look ss n ≡ waiting
  look_none n e = ap (λ (xs : Standings). look xs n) rows_are ∙ rows_none by_all 0 d.tasks n e

  pub look_stood : (n : List ℕ) (p : ℕ) → first d.tasks n ≡ Some p → look ss n ≡ stood ss p
  look_stood n p e =
      ap (λ (xs : Standings). look xs n) rows_are ∙ rows_look by_all 0 d.tasks n p e
      ∙ sym (ap (λ (xs : Standings). stood xs p) rows_are)

  pub stood_is : (p : ℕ) (t : Task) → slice_get d.tasks p ≡ Some t → stood ss p ≡ by_all p t
  stood_is p t e =
      let here : 0 + p ≡ p = omega arith in
      ap (λ (xs : Standings). stood xs p) rows_are ∙ rows_stood by_all 0 d.tasks p t e ∙ ap (λ (q : ℕ). by_all q t) here

  pub long : length ss ≡ length d.tasks
  long = ap (λ (xs : Standings). length xs) rows_are ∙ rows_long by_all 0 d.tasks
