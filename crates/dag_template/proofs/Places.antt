-- Tasks that are looked up by their positions.
use Rattle.std.proofs.Common.{◌≡◌, ℕ, zero, suc, ◌<◌, List, [], ◌∷◌, length, map, get_or, Bool, true, false, cond, ◌&&◌, Option, Some, None, refl, sym, ap, ◌∙◌, subst, arith}
use Rattle.std.specs.Prelude.{bytes_eq, option_map}
use Rattle.std.specs.List.{All, AllByRecursion}
use Rattle.std.proofs.lemmas.List.{length-map}
use Rattle.std.proofs.lemmas.List.Elements.{All-from_recursion}
use Rattle.wf_manifest.specs.declared.calls.Task.{Task}
use Rattle.depends_expr.specs.Expression.{Expression}
use Rattle.depends_expr.specs.Truth.{names_of}
use Rattle.task_order.specs.Orders.{waited_in, waited}
use Rattle.meaning.specs.Dags.{Names}
use Rattle.dag_plan.specs.Order.{first}
use Rattle.dag_plan.specs.Plans.{AreAt}
use Rattle.dag_template.specs.declared.stands.Stand.{Stand}
use Rattle.dag_template.specs.Stands.{waits, stand_of, covers, covers_of, covers_at, is_met, are_met, are_met_at, Sight, verdict_by, verdict_named, verdict_waiting, verdict}

-- the first task passes or the position is one of a later task
abbrev FirstOf : Bool → ℕ → Option ℕ → Type 0
FirstOf b p later = cond b (Some 0) (option_map suc later) ≡ Some p

later_of : (o : Option ℕ) (p : ℕ) → option_map suc o ≡ Some p → (q : ℕ) × (p ≡ suc q) × (o ≡ Some q)
later_of None p e = absurd cc
later_of (Some q) p e = (q, (let same : suc q ≡ p = cc e in sym same), refl)

pub first_low : (ts : List Task) (n : List ℕ) (p : ℕ) → first ts n ≡ Some p → p < length ts
first_low [] n p e = absurd cc
first_low (t ∷ ts) n p e = go (bytes_eq t.call.name n) (first_low ts n) e
  where
    go : (b : Bool) → ((q : ℕ) → first ts n ≡ Some q → q < length ts) → FirstOf b p (first ts n) → p < suc (length ts)
    go true rest k = let here : 0 ≡ p = cc k in omega arith
    go false rest k =
        let (q, is, later) = later_of (first ts n) p k in
        let low : q < length ts = rest q later in
        omega arith

pub looked_at : (ts : List Task) (ss : List Stand) (n : List ℕ) (p : ℕ) → length ts ≡ length ss → first ts n ≡ Some p → stand_of ts ss n ≡ get_or ss p waits
looked_at [] ss n p long e = absurd cc
looked_at (t ∷ ts) [] n p long e = absurd (omega (arith, long))
looked_at (t ∷ ts) (s ∷ ss) n p long e = go (bytes_eq t.call.name n) (λ q k. looked_at ts ss n q (omega (arith, long)) k) e
  where
    go : (b : Bool) → ((q : ℕ) → first ts n ≡ Some q → stand_of ts ss n ≡ get_or ss q waits) → FirstOf b p (first ts n) →
        cond b s (stand_of ts ss n) ≡ get_or (s ∷ ss) p waits
    go true rest k = let here : 0 ≡ p = cc k in ap (λ (x : ℕ). get_or (s ∷ ss) x waits) here
    go false rest k =
        let (q, is, later) = later_of (first ts n) p k in
        rest q later ∙ ap (λ (x : ℕ). get_or (s ∷ ss) x waits) (sym is)

pub covers_looked : (ts : List Task) (n : List ℕ) (p : ℕ) → first ts n ≡ Some p → covers_of ts n ≡ covers_at ts p
covers_looked [] n p e = absurd cc
covers_looked (t ∷ ts) n p e = go (bytes_eq t.call.name n) (λ q k. covers_looked ts n q k) e
  where
    go : (b : Bool) → ((q : ℕ) → first ts n ≡ Some q → covers_of ts n ≡ covers_at ts q) → FirstOf b p (first ts n) →
        cond b (covers t.call.continue_on) (covers_of ts n) ≡ covers_at (t ∷ ts) p
    go true rest k = let here : 0 ≡ p = cc k in ap (covers_at (t ∷ ts)) here
    go false rest k =
        let (q, is, later) = later_of (first ts n) p k in
        rest q later ∙ ap (covers_at (t ∷ ts)) (sym is)

module _ (ts : List Task) where
  pub same_length : (ns : Names) (ps : List ℕ) → AreAt ts ns ps → length ns ≡ length ps
  same_length ns ps at =
      sym (length-map ns (first ts)) ∙ ap (λ (os : List (Option ℕ)). length os) at ∙ length-map ps (λ (p : ℕ). Some p)

  all_low : (ns : Names) (ps : List ℕ) → AreAt ts ns ps → AllByRecursion (λ p. p < length ts) ps
  all_low ns [] at = tt
  all_low [] (p ∷ ps) at = absurd cc
  all_low (n ∷ ns) (p ∷ ps) at =
      let here : first ts n ≡ Some p = cc at in
      let rest : map (first ts) ns ≡ map Some ps = cc at in
      (first_low ts n p here, all_low ns ps rest)

  pub places_low : (ns : Names) (ps : List ℕ) → AreAt ts ns ps → All (λ p. p < length ts) ps
  places_low ns ps at = All-from_recursion (λ p. p < length ts) ps (all_low ns ps at)

  pub all_looked : (ss : List Stand) (ns : Names) (ps : List ℕ) → length ts ≡ length ss → AreAt ts ns ps → map (stand_of ts ss) ns ≡ map (λ p. get_or ss p waits) ps
  all_looked ss [] [] long at = refl
  all_looked ss [] (p ∷ ps) long at = absurd cc
  all_looked ss (n ∷ ns) [] long at = absurd cc
  all_looked ss (n ∷ ns) (p ∷ ps) long at =
      let here : first ts n ≡ Some p = cc at in
      let rest : map (first ts) ns ≡ map Some ps = cc at in
      λ i. looked_at ts ss n p long here i ∷ all_looked ss ns ps long rest i

  pub met_looked : (ns : Names) (ps : List ℕ) (ss : List Stand) → AreAt ts ns ps → are_met_at ts ps ss ≡ are_met ts ns ss
  met_looked [] [] ss at = refl
  met_looked [] (p ∷ ps) ss at = absurd cc
  met_looked (n ∷ ns) [] ss at = absurd cc
  met_looked (n ∷ ns) (p ∷ ps) [] at = refl
  met_looked (n ∷ ns) (p ∷ ps) (s ∷ ss) at =
      let here : first ts n ≡ Some p = cc at in
      let rest : map (first ts) ns ≡ map Some ps = cc at in
      let covered : covers_at ts p ≡ covers_of ts n = sym (covers_looked ts n p here) in
      λ i. is_met (covered i) s.result && met_looked ns ps ss rest i

pub covers_got : (ts : List Task) (p : ℕ) (t : Task) → p < length ts → covers (get_or ts p t).call.continue_on ≡ covers_at ts p
covers_got [] p t low = absurd (omega (arith, low))
covers_got (u ∷ us) zero t low = refl
covers_got (u ∷ us) (suc p) t low = covers_got us p t (omega (arith, low))

-- ---- by how those stand that a task waits for

module _ (ts : List Task) (of : Sight) (t : Task) (ps : List ℕ) (found : List Stand) (at : AreAt ts (waited t) ps) (is : map of (waited t) ≡ found) where
  waits_are : (o : Option Expression) (dependencies : Option Names) → t.depends ≡ o → t.dependencies ≡ dependencies → AreAt ts (waited_in o dependencies) ps
  waits_are o dependencies e f = subst (λ (x : Option Expression). AreAt ts (waited_in x dependencies) ps) e (subst (λ (y : Option Names). AreAt ts (waited_in t.depends y) ps) f at)

  found_are : (o : Option Expression) (dependencies : Option Names) → t.depends ≡ o → t.dependencies ≡ dependencies → map of (waited_in o dependencies) ≡ found
  found_are o dependencies e f = subst (λ (x : Option Expression). map of (waited_in x dependencies) ≡ found) e (subst (λ (y : Option Names). map of (waited_in t.depends y) ≡ found) f is)

  pub names_found : (e : Expression) → t.depends ≡ Some e → map of (names_of e) ≡ found
  names_found e says = found_are (Some e) t.dependencies says refl

  pub verdict_depends : (e : Expression) → t.depends ≡ Some e → verdict_named of e ≡ verdict ts of t
  verdict_depends e says = ap (λ (x : Option Expression). verdict_waiting ts of x t.dependencies) (sym says)

  pub verdict_dependencies :
      (ns : Names) → t.depends ≡ None → t.dependencies ≡ Some ns → verdict_by found (are_met_at ts ps found) ≡ verdict ts of t
  verdict_dependencies ns none says =
      ap (verdict_by found) (met_looked ts ns ps found (waits_are None (Some ns) none says))
      ∙ ap (λ (xs : List Stand). verdict_by xs (are_met ts ns xs)) (sym (found_are None (Some ns) none says))
      ∙ (λ i. verdict_waiting ts of (let back : None ≡ t.depends = sym none in back i) (let back : Some ns ≡ t.dependencies = sym says in back i))
