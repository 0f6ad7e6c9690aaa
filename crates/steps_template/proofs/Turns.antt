-- One turn of the loop over groups.
use Rattle.std.proofs.Common.{◌≡◌, ℕ, suc, ◌+◌, ◌<◌, List, [], ◌∷◌, length, get_or, drop, Bool, true, false, cond, refl, ap, sym, ◌∙◌, drop-cons, arith}
use Rattle.std.specs.Prelude.{if◌then◌else◌}
use Rattle.std.proofs.lemmas.List.Sums.{take_while-cons}
use Rattle.tree_types.specs.declared.phase.Phase.{Phase}
use Rattle.tree_types.specs.Phases.{is_succeeded}
use Rattle.steps_template.specs.declared.groups.GroupState.{GroupState}
use Rattle.steps_template.specs.declared.groups.StepsStep.{StepsStep}
use Rattle.steps_template.specs.declared.groups.StepsStep.TheVariants.{Open}
use Rattle.steps_template.specs.Groups.{group_phase, made_groups, steps_phase, stopped, opened, next_by, next_behind, next_from}

-- behind a made group of this phase the rest decides, where it Succeeded
abbrev pub after : Phase → StepsStep → StepsStep
after p rest = if is_succeeded p then rest else stopped p

first_phase :
    (p q : Phase) (i : ℕ) (left : List GroupState) (s : Bool) → is_succeeded p ≡ s →
    next_by (if s then q else p) i left ≡ (if s then next_by q i left else stopped p)
first_phase p q i left true e = refl
first_phase p q i left false e = ap (λ (b : Bool). if b then opened i left else stopped p) e

first_made :
    (i : ℕ) (g : GroupState) (gs made : List GroupState) →
    next_behind i (g ∷ made) (g ∷ gs) ≡ after (group_phase g.members) (next_behind (suc i) made gs)
first_made i g gs made =
    let p : Phase = group_phase g.members in
    let left : List GroupState = drop (length made) gs in
    let place : i + suc (length made) ≡ suc i + length made = omega arith in
    first_phase p (steps_phase made) (i + suc (length made)) left (is_succeeded p) refl
    ∙ ap (λ (n : ℕ). after p (next_by (steps_phase made) n left)) place

turn_by :
    (i : ℕ) (g : GroupState) (gs : List GroupState) (made : Bool) →
    next_behind i (cond made (g ∷ made_groups gs) []) (g ∷ gs)
    ≡ (if made then after (group_phase g.members) (next_from (suc i) gs) else Open i)
turn_by i g gs true = first_made i g gs (made_groups gs)
turn_by i g gs false = let same : i + 0 ≡ i = omega arith in ap Open same

pub turn :
    (i : ℕ) (g : GroupState) (gs : List GroupState) →
    next_from i (g ∷ gs) ≡ (if g.made then after (group_phase g.members) (next_from (suc i) gs) else Open i)
turn i g gs =
    ap (λ (made : List GroupState). next_behind i made (g ∷ gs)) (take_while-cons (λ (x : GroupState). x.made) g gs)
    ∙ turn_by i g gs g.made

module _ (gs : List GroupState) (i : ℕ) (g : GroupState) (lt : i < length gs) (is : g ≡ get_or gs i g) where
  abbrev rest : StepsStep
  rest = next_from (suc i) (drop (suc i) gs)

  turn_at : next_from i (drop i gs) ≡ (if g.made then after (group_phase g.members) rest else Open i)
  turn_at =
      let split : drop i gs ≡ g ∷ drop (suc i) gs = drop-cons gs i g lt ∙ ap (λ (x : GroupState). x ∷ drop (suc i) gs) (sym is) in
      ap (next_from i) split ∙ turn i g (drop (suc i) gs)

  pub opens : g.made ≡ false → next_from i (drop i gs) ≡ Open i
  opens e = turn_at ∙ ap (λ (b : Bool). if b then after (group_phase g.members) rest else Open i) e

  by_phase :
      (p : Phase) (s : Bool) → g.made ≡ true → p ≡ group_phase g.members → is_succeeded p ≡ s →
      next_from i (drop i gs) ≡ (if s then rest else stopped p)
  by_phase p s e is_its q =
      turn_at ∙ ap (λ (b : Bool). if b then after (group_phase g.members) rest else Open i) e
      ∙ ap (λ (x : Phase). after x rest) (sym is_its) ∙ ap (λ (b : Bool). if b then rest else stopped p) q

  pub stops :
      (p : Phase) → g.made ≡ true → p ≡ group_phase g.members → is_succeeded p ≡ false → next_from i (drop i gs) ≡ stopped p
  stops p e is_its q = by_phase p false e is_its q

  pub goes_on :
      (p : Phase) → g.made ≡ true → p ≡ group_phase g.members → is_succeeded p ≡ true →
      next_from i (drop i gs) ≡ next_from (suc i) (drop (suc i) gs)
  goes_on p e is_its q = by_phase p true e is_its q
