-- Phases: which are over, which are ends of a pod, and which of two is worse.
use Rattle.std.specs.Prelude.{ℕ, Bool, true, false, List, [], ◌∷◌, codes}
use Rattle.tree_types.specs.declared.phase.Phase.{Phase}
use Rattle.tree_types.specs.declared.phase.Phase.TheVariants.{Pending, Running, Succeeded, Skipped, Failed, Error, Omitted}

-- Succeeded, Skipped, Failed, Error and Omitted are fulfilled (field reference, NodeStatus)
abbrev pub fulfilled : Phase → Bool
fulfilled Pending = false
fulfilled Running = false
fulfilled _ = true

-- how a pod can end
abbrev pub is_end : Phase → Bool
is_end Succeeded = true
is_end Failed = true
is_end Error = true
is_end _ = false

abbrev pub is_succeeded : Phase → Bool
is_succeeded Succeeded = true
is_succeeded _ = false

abbrev pub is_skipped : Phase → Bool
is_skipped Skipped = true
is_skipped _ = false

abbrev pub is_failed : Phase → Bool
is_failed Failed = true
is_failed _ = false

abbrev pub is_error : Phase → Bool
is_error Error = true
is_error _ = false

abbrev pub is_omitted : Phase → Bool
is_omitted Omitted = true
is_omitted _ = false

-- own: Error if one is Error, else Failed if one is Failed, else Succeeded
abbrev pub worst : Phase → Phase → Phase
worst Error _ = Error
worst _ Error = Error
worst Failed _ = Failed
worst _ Failed = Failed
worst _ _ = Succeeded

-- the worst of several; of none, Succeeded
abbrev pub worst_of : List Phase → Phase
worst_of [] = Succeeded
worst_of (p ∷ ps) = worst p (worst_of ps)

-- the word of a phase (field reference, NodeStatus)
abbrev pub phase_text : Phase → List ℕ
phase_text Pending = codes "Pending"
phase_text Running = codes "Running"
phase_text Succeeded = codes "Succeeded"
phase_text Skipped = codes "Skipped"
phase_text Failed = codes "Failed"
phase_text Error = codes "Error"
phase_text Omitted = codes "Omitted"
