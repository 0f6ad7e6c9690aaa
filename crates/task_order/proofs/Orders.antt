-- A walk from each place in turn puts all of them in order.
use Rattle.std.proofs.Common.{◌≡◌, ◌≢◌, ℕ, ◌+◌, ◌<◌, List, [], ◌∷◌, ◌++◌, length, get_or, set, sym, ap, ◌∙◌, subst, inl, inr, arith}
use Rattle.std.proofs.lemmas.List.{get_or_default}
use Rattle.task_order.specs.declared.stage.Stage.{Stage}
use Rattle.task_order.specs.declared.stage.Stage.TheVariants.{New, Open}
use Rattle.task_order.specs.declared.walk.Walk.{Walk}
use Rattle.task_order.specs.Inside.Walks.{stage, IsSound, KeepsMet}
use Rattle.task_order.proofs.Among.{same_or}
use Rattle.task_order.proofs.Walks.{stage_before, sound_begun}
use Rattle.task_order.proofs.Goings.{same_sound}

-- what an element that was read says of a stage
pub new_read : (stages : List Stage) (v : ℕ) (x : Stage) → x ≡ get_or stages v x → x ≡ New → stage stages v ≡ New
new_read stages v x at is = ap (λ y. get_or stages v y) (sym is) ∙ sym at ∙ is

pub stage_differs : (stages : List Stage) (v : ℕ) (x s : Stage) → v < length stages → x ≡ get_or stages v x → x ≢ s → stage stages v ≢ s
stage_differs stages v x s below at differs is = differs (at ∙ get_or_default stages v x New below ∙ is)

pub begun_sound : (waits : List (List ℕ)) (old new : Walk) (v : ℕ) → IsSound waits old → old.trail.items ≡ [] → v < length waits → stage old.stages.items v ≡ New
    → new.stages.items ≡ set old.stages.items v Open → new.passed.items ≡ old.passed.items → new.order.items ≡ old.order.items → new.trail.items ≡ old.trail.items ++ v ∷ [] → IsSound waits new
begun_sound waits old new v s none below is_new stages_are passed_are order_is trail_is =
    same_sound waits (set old.stages.items v Open) new.stages.items old.passed.items new.passed.items old.order.items new.order.items (old.trail.items ++ v ∷ []) new.trail.items stages_are passed_are order_is trail_is
    (sound_begun waits old.stages.items old.passed.items old.order.items old.trail.items s v below is_new (λ i low. absurd (omega (arith, ap length none, low))))

pub met_more : (old begun ended : Walk) (place : ℕ) → ((v : ℕ) → v < place → stage old.stages.items v ≢ New) → place < length old.stages.items → begun.stages.items ≡ set old.stages.items place Open → KeepsMet begun ended → (v : ℕ) → v < place + 1 → stage ended.stages.items v ≢ New
met_more old begun ended place met below stages_are keeps v low is =
    let was : stage (set old.stages.items place Open) v ≡ New = subst (λ ss. stage ss v ≡ New) stages_are (keeps v is) in
    let (other, before) = stage_before old.stages.items place v Open New below (λ e. absurd cc) was in
    met v (lower other) before
  where
    lower : v ≢ place → v < place
    lower other = omega arith

pub met_already : (walk : Walk) (place : ℕ) → ((v : ℕ) → v < place → stage walk.stages.items v ≢ New) → stage walk.stages.items place ≢ New → (v : ℕ) → v < place + 1 → stage walk.stages.items v ≢ New
met_already walk place met here v low =
    elim (same_or v place) [
      | inl same ↦ subst (λ u. stage walk.stages.items u ≢ New) (sym same) here
      | inr other ↦ met v (lower other)
    ]
  where
    lower : v ≢ place → v < place
    lower other = omega arith
