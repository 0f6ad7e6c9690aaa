-- What the tasks of a DAG made is found by their positions.
use Rattle.std.proofs.Common.{◌≡◌, ℕ, zero, suc, ◌+◌, ◌<◌, ◌≤◌, ◌==◌, List, [], ◌∷◌, ◌++◌, Bool, true, false, not, ◌||◌, cond, length, drop, map, Option, Some, None, codes, refl, sym, ap, ◌∙◌, subst, arith}
use Rattle.std.specs.Prelude.{slice_get}
use Rattle.std.specs.List.{list_all}
use Rattle.std.proofs.lemmas.Bool.{eq-eqb, ne_eqb}
use Rattle.tree_types.specs.declared.path.Sel.{Sel}
use Rattle.tree_types.specs.declared.path.Sel.TheVariants.{Task as task_sel}
use Rattle.depends_expr.specs.Expression.{Expression}
use Rattle.depends_expr.specs.Truth.{truth, named}
use Rattle.wf_manifest.specs.declared.calls.Call.{Call}
use Rattle.wf_manifest.specs.declared.calls.Task.{Task}
use Rattle.wf_manifest.specs.declared.calls.Dag.{Dag}
use Rattle.scopes.specs.Substitution.{Scope}
use Rattle.meaning.specs.declared.lines.Place.{Place}
use Rattle.meaning.specs.Answers.{Sels, Answers}
use Rattle.meaning.specs.Lines.{numbered, Made, row_in}
use Rattle.meaning.specs.Steps.{Caller}
use Rattle.meaning.specs.Dags.{awaited, is_meant, Standing, waiting, ready, exists, is_over, result_of, Look, look, Standings, task_place, tags_before, free_by, decided_by, waits_by, meant, meant_by, standing, with_standing, rounds, standings, task_then, tasks_below}
use Rattle.dag_board.specs.Boards.{stood, made_of}
use Rattle.dag_stays.specs.Over.{IsOwn, AreOwn}
use Rattle.dag_stays.specs.ByTask.{task_is, is_of_task, task_if, one_if, by_task}

-- ---- a task's node stands at its selector

-- calls stand at their places
abbrev pub StandsHere : Caller → Type 0
StandsHere called = (prefix : List ℕ) (p : Place) (s : Scope) (c : Call) → (called prefix p s c).own.node.path.sels ≡ p.sels

module _ (A : Answers) (called : Caller) (here : StandsHere called) (place : Place) (scope : Scope) (d : Dag) where
  module _ (at : Look) (i : ℕ) (t : Task) where
    own_free : (seen : Scope) (b : Bool) → IsOwn place.sels i (free_by A called place scope d seen i t b)
    own_free seen false = tt
    own_free seen true = here (codes "tasks.") (task_place place i t) (seen ++ scope) t.call

    own_decided : (e : Expression) (b : Bool) → IsOwn place.sels i (decided_by A called place scope d at i t e b)
    own_decided e false = refl
    own_decided e true = own_free (tags_before at (named e)) (not d.fail_fast || A.begun (task_place place i t).sels)

    own_waits : (e : Expression) (b : Bool) → IsOwn place.sels i (waits_by A called place scope d at i t e b)
    own_waits e false = tt
    own_waits e true = own_decided e (truth (λ n. result_of (at n)) e)

    own_meant : (w : Option Expression) → IsOwn place.sels i (meant A called place scope d at i t w)
    own_meant None = own_free [] (not d.fail_fast || A.begun (task_place place i t).sels)
    own_meant (Some e) = own_waits e (list_all (λ n. is_over (at n)) (named e))

    own_by : (b : Bool) → IsOwn place.sels i (meant_by A called place scope d at i t b)
    own_by false = tt
    own_by true = own_meant (awaited d.tasks t)

    pub own_standing : IsOwn place.sels i (standing A called place scope d at i t)
    own_standing = own_by (is_meant d t)

  own_numbered : (at : Look) (i : ℕ) (ts : List Task) → AreOwn place.sels i (numbered (with_standing A called place scope d at) i ts)
  own_numbered at i [] = tt
  own_numbered at i (t ∷ ts) = (own_standing at i t, own_numbered at (suc i) ts)

  own_rounds : (n : ℕ) → AreOwn place.sels 0 (rounds A called place scope d n)
  own_rounds zero = tt
  own_rounds (suc n) = own_numbered (look (rounds A called place scope d n)) 0 d.tasks

  pub own_standings : AreOwn place.sels 0 (standings A called place scope d)
  own_standings = own_rounds (length d.tasks)

-- ---- found by position

pub last_sel : (at : Sels) (s : Sel) → slice_get (at ++ s ∷ []) (length at) ≡ Some s
last_sel [] s = refl
last_sel (a ∷ at) s = last_sel at s

same_number : (i : ℕ) → (i == i) ≡ true
same_number i = eq-eqb i i refl

-- whether a task's own call is the one that is looked for
pub is_sought : (at : Sels) (i j : ℕ) (m : Made) → m.own.node.path.sels ≡ at ++ task_sel j ∷ [] → is_of_task (length at) i m ≡ (j == i)
is_sought at i j m own = ap (λ (p : Sels). task_is i (slice_get p (length at))) own ∙ ap (task_is i) (last_sel at (task_sel j))

module _ (doomed : Bool) (place : Place) where
  abbrev depth : ℕ
  depth = length place.sels

  abbrev made_in : ℕ → Standings → List Made
  made_in j ss = row_in (tasks_below doomed place j ss)

  -- none of a later task is the one that is looked for
  none_first : (i n j : ℕ) (ss : Standings) → i < j → AreOwn place.sels j ss → by_task depth i (suc n) (made_in j ss) ≡ None ∷ by_task depth (suc i) n (made_in j ss)
  none_first i n j [] lt own = refl
  none_first i n j (s ∷ ss) lt own = by_standing (none_first i n (suc j) ss (omega (arith, lt)) own.1) doomed s.1 own.0
    where
      by_standing : by_task depth i (suc n) (made_in (suc j) ss) ≡ None ∷ by_task depth (suc i) n (made_in (suc j) ss) → (b : Bool) (x : Standing) → IsOwn place.sels j x →
          by_task depth i (suc n) (row_in (task_then b (task_place place j s.0) x (tasks_below doomed place (suc j) ss))) ≡ None ∷ by_task depth (suc i) n (row_in (task_then b (task_place place j s.0) x (tasks_below doomed place (suc j) ss)))
      by_standing later true waiting h = later
      by_standing later false waiting h = later
      by_standing later true ready h = later
      by_standing later false ready h = later
      by_standing later b (exists m branch seen) h =
          ap (λ (x : Bool). cond x (Some m ∷ by_task depth (suc i) n (made_in (suc j) ss)) (None ∷ by_task depth (suc i) n (m ∷ (made_in (suc j) ss))))
          (is_sought place.sels i j m h ∙ ne_eqb j i (λ e. omega (arith, lt, e)))

  pub found_by_task : (i : ℕ) (ss : Standings) → AreOwn place.sels i ss → by_task depth i (length ss) (made_in i ss) ≡ map (λ s. made_of s.1) ss
  found_by_task i [] own = refl
  found_by_task i (s ∷ ss) own =
      let others = found_by_task (suc i) ss own.1 in
      by_standing others (none_first i (length ss) (suc i) ss (omega arith) own.1 ∙ ap (λ (ms : List (Option Made)). None ∷ ms) others) doomed s.1 own.0
    where
      by_standing : by_task depth (suc i) (length ss) (made_in (suc i) ss) ≡ map (λ y. made_of y.1) ss → by_task depth i (suc (length ss)) (made_in (suc i) ss) ≡ None ∷ map (λ y. made_of y.1) ss → (b : Bool) (x : Standing) → IsOwn place.sels i x →
          by_task depth i (suc (length ss)) (row_in (task_then b (task_place place i s.0) x (tasks_below doomed place (suc i) ss))) ≡ made_of x ∷ map (λ y. made_of y.1) ss
      by_standing others none true waiting h = none
      by_standing others none false waiting h = none
      by_standing others none true ready h = none
      by_standing others none false ready h = none
      by_standing others none b (exists m branch seen) h =
          ap (λ (x : Bool). cond x (Some m ∷ by_task depth (suc i) (length ss) (made_in (suc i) ss)) (None ∷ by_task depth (suc i) (length ss) (m ∷ (made_in (suc i) ss))))
          (is_sought place.sels i i m h ∙ same_number i)
          ∙ ap (λ (ms : List (Option Made)). Some m ∷ ms) others

-- what stands at a position
pub slice_made : (ss : Standings) (p : ℕ) → p < length ss → slice_get (map (λ s. made_of s.1) ss) p ≡ Some (made_of (stood ss p))
slice_made [] p lt = absurd (omega (arith, lt))
slice_made (s ∷ ss) zero lt = refl
slice_made (s ∷ ss) (suc p) lt = slice_made ss p (omega (arith, lt))

-- ---- one task more

module _ (depth : ℕ) where
  pub first_is : (i n : ℕ) (ms : List Made) (one : Option Made) → task_if depth i (slice_get ms 0) ≡ one → by_task depth i (suc n) ms ≡ one ∷ by_task depth (suc i) n (drop (one_if one) ms)
  first_is i n [] one is = subst (λ (o : Option Made). None ∷ by_task depth (suc i) n [] ≡ o ∷ by_task depth (suc i) n (drop (one_if o) [])) is refl
  first_is i n (m ∷ ms) one is = subst (λ (o : Option Made). by_task depth i (suc n) (m ∷ ms) ≡ o ∷ by_task depth (suc i) n (drop (one_if o) (m ∷ ms))) is (by_test (is_of_task depth i m))
    where
      by_test : (b : Bool) → cond b (Some m ∷ by_task depth (suc i) n ms) (None ∷ by_task depth (suc i) n (m ∷ ms)) ≡ cond b (Some m) None ∷ by_task depth (suc i) n (drop (one_if (cond b (Some m) None)) (m ∷ ms))
      by_test true = refl
      by_test false = refl

  at_place : (ms : List Made) (at : ℕ) → slice_get (drop at ms) 0 ≡ slice_get ms at
  at_place [] zero = refl
  at_place [] (suc at) = refl
  at_place (m ∷ ms) zero = refl
  at_place (m ∷ ms) (suc at) = at_place ms at

  drop_none : {X : Type 0} (n : ℕ) → ◌≡◌ {A = List X} (drop n []) []
  drop_none zero = refl
  drop_none (suc n) = refl

  drop_more : {X : Type 0} (ms : List X) (at n : ℕ) → drop n (drop at ms) ≡ drop (at + n) ms
  drop_more ms zero n = let same : n ≡ 0 + n = omega arith in ap (λ (k : ℕ). drop k ms) same
  drop_more [] (suc at) n = drop_none n ∙ sym (drop_none (suc at + n))
  drop_more (m ∷ ms) (suc at) n = let same : suc (at + n) ≡ suc at + n = omega arith in drop_more ms at n ∙ ap (λ (k : ℕ). drop k (m ∷ ms)) same

  pub next_is : (i n at : ℕ) (ms : List Made) (one : Option Made) → one ≡ task_if depth i (slice_get ms at) → by_task depth i (suc n) (drop at ms) ≡ one ∷ by_task depth (suc i) n (drop (at + one_if one) ms)
  next_is i n at ms one is =
      first_is i n (drop at ms) one (ap (task_if depth i) (at_place ms at) ∙ sym is)
      ∙ ap (λ (xs : List Made). one ∷ by_task depth (suc i) n xs) (drop_more ms at (one_if one))

pub one_most : (o : Option Made) → one_if o ≤ 1
one_most None = omega arith
one_most (Some m) = omega arith
