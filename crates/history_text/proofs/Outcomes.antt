-- An outcome by its phase.
use Rattle.std.proofs.Common.{◌≡◌, Some, true, IsTrue, refl, ap}
use mathlib.Core.Bool.{Bool-set}
use Rattle.tree_types.specs.Phases.{is_end}
use Rattle.tree_types.specs.declared.phase.Phase.{Phase}
use Rattle.tree_types.specs.declared.phase.Phase.TheVariants.{Pending, Running, Succeeded, Skipped, Failed, Error, Omitted}
use Rattle.history_text.specs.declared.left.Left.{Left}
use Rattle.history_text.specs.Inside.Reading.{outcome_by}

-- that a phase ends a pod is told in one way
pub made : (phase : Phase) (left : Left) (h : IsTrue (is_end phase))
    → outcome_by phase left ≡ Some (record { phase = phase; result = left.result; params = left.params; transient = left.transient; begin = left.begin; finish = left.finish; ended = h })
made Succeeded left h =
    ap (λ (e : IsTrue (is_end Succeeded)). Some (record { phase = Succeeded; result = left.result; params = left.params; transient = left.transient; begin = left.begin; finish = left.finish; ended = e }))
    (Bool-set true true refl h)
made Failed left h =
    ap (λ (e : IsTrue (is_end Failed)). Some (record { phase = Failed; result = left.result; params = left.params; transient = left.transient; begin = left.begin; finish = left.finish; ended = e }))
    (Bool-set true true refl h)
made Error left h =
    ap (λ (e : IsTrue (is_end Error)). Some (record { phase = Error; result = left.result; params = left.params; transient = left.transient; begin = left.begin; finish = left.finish; ended = e }))
    (Bool-set true true refl h)
made Pending left h = absurd (cc)
made Running left h = absurd (cc)
made Skipped left h = absurd (cc)
made Omitted left h = absurd (cc)
