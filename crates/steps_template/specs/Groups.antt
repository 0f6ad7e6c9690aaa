-- What follows the groups of a steps template that are made (Argo, "Steps"; field reference, `WorkflowStep`).
-- The phases of groups and of the whole, and the moment at which the next group begins, are this project's own.
use Rattle.std.specs.Prelude.{ℕ, ◌+◌, List, [], ◌∷◌, length, map, drop, Some, if◌then◌else◌}
use Rattle.std.specs.List.{list_all, take_while}
use Rattle.tree_types.specs.declared.phase.Phase.{Phase}
use Rattle.tree_types.specs.declared.phase.Phase.TheVariants.{Running, Succeeded}
pub use Rattle.tree_types.specs.Phases.{is_succeeded, worst_of}
use Rattle.wf_manifest.specs.declared.calls.ContinueOn.{ContinueOn}
use Rattle.meaning.specs.Steps.{covered}
use Rattle.steps_template.specs.declared.groups.Member.{Member}
use Rattle.steps_template.specs.declared.groups.GroupState.{GroupState}
use Rattle.steps_template.specs.declared.groups.StepsStep.{StepsStep}
use Rattle.steps_template.specs.declared.groups.StepsStep.TheVariants.{Open, Wait, Over}

-- the failures of a member that its group does not count
abbrev pub continue_on : Member → ContinueOn
continue_on m = record { failed = m.covers_failed; error = m.covers_error }

-- the phase of a member as its group sees it
abbrev pub member_phase : Member → Phase
member_phase m = covered (Some (continue_on m)) m.phase

-- the worst of its members once all are finished, Running before
abbrev pub group_phase : List Member → Phase
group_phase ms = if list_all (λ m. m.finished) ms then worst_of (map member_phase ms) else Running

-- the groups up to the first that is not made
abbrev pub made_groups : List GroupState → List GroupState
made_groups gs = take_while (λ g. g.made) gs

-- the phase of the first group that did not succeed, else Succeeded
abbrev pub steps_phase : List GroupState → Phase
steps_phase [] = Succeeded
steps_phase (g ∷ gs) = if is_succeeded (group_phase g.members) then steps_phase gs else group_phase g.members

-- a Running group is waited for, and any other that did not succeed ends the template with its phase
abbrev pub stopped : Phase → StepsStep
stopped Running = Wait
stopped phase = Over phase

-- behind groups that Succeeded the first of those that are left, at this position, is opened
abbrev pub opened : ℕ → List GroupState → StepsStep
opened i [] = Over Succeeded
opened i (g ∷ gs) = Open i

abbrev pub next_by : Phase → ℕ → List GroupState → StepsStep
next_by phase i left = if is_succeeded phase then opened i left else stopped phase

-- what follows these groups, the first of which is group i, where these are made
abbrev pub next_behind : ℕ → List GroupState → List GroupState → StepsStep
next_behind i made gs = next_by (steps_phase made) (i + length made) (drop (length made) gs)

abbrev pub next_from : ℕ → List GroupState → StepsStep
next_from i gs = next_behind i (made_groups gs) gs

-- what follows the groups of a template
abbrev pub next : List GroupState → StepsStep
next gs = next_from 0 gs
