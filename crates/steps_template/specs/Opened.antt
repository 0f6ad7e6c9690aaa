-- The groups of a steps template that the meaning lists are those that are opened.
use Rattle.std.specs.Prelude.{◌≡◌, ◌<◌, ℕ, zero, suc, List, [], ◌∷◌, ◌++◌, length, map, true, false}
use Rattle.tree_types.specs.declared.phase.Phase.{Phase}
use Rattle.tree_types.specs.declared.phase.Phase.TheVariants.{Running}
use Rattle.wf_manifest.specs.declared.calls.Call.{Call}
use Rattle.scopes.specs.Substitution.{Scope}
use Rattle.meaning.specs.declared.lines.Place.{Place}
use Rattle.meaning.specs.Steps.{Caller, Member as Made_member, covers_failed, covers_error, group_tags, members_at, groups_from, group_phase, steps_phase}
use Rattle.steps_template.specs.declared.groups.Member.{Member}
use Rattle.steps_template.specs.declared.groups.GroupState.{GroupState}
use Rattle.steps_template.specs.declared.groups.StepsStep.{StepsStep}
use Rattle.steps_template.specs.declared.groups.StepsStep.TheVariants.{Open, Wait, Over}
use Rattle.steps_template.specs.Groups.{stopped, next}

-- how a member stands
abbrev pub seen : Made_member → Member
seen m = record {
  phase = m.1.own.node.phase;
  finished = m.1.own.finished;
  covers_failed = covers_failed m.0.continue_on;
  covers_error = covers_error m.0.continue_on;
}

abbrev pub made_state : List Made_member → GroupState
made_state ms = record { made = true; members = map seen ms }

abbrev pub unmade_state : List Call → GroupState
unmade_state cs = record { made = false; members = [] }

module _ (called : Caller) (place : Place) where
  -- how the groups from group i on stand where so many of them are made
  abbrev pub states : ℕ → ℕ → Scope → List (List Call) → List GroupState
  states k i scope [] = []
  states zero i scope (cs ∷ gs) = unmade_state cs ∷ map unmade_state gs
  states (suc k) i scope (cs ∷ gs) =
      let ms = members_at called place i scope cs in
      made_state ms ∷ states k (suc i) (group_tags ms ++ scope) gs

-- While fewer groups are made than the meaning lists, the next one is opened. Once all these are made, none is: the
-- template waits for a Running one, or is over with the phase that the meaning gives it.
pub record Follows (called : Caller) (place : Place) (scope : Scope) (gs : List (List Call)) (k : ℕ) : Type 0 where
  pub opens : k < length (groups_from called place 0 scope gs).all → next (states called place k 0 scope gs) ≡ Open k
  pub stops :
      k ≡ length (groups_from called place 0 scope gs).all →
      next (states called place k 0 scope gs) ≡ stopped (steps_phase (groups_from called place 0 scope gs).all)

abbrev pub GroupsFollow : Type 0
GroupsFollow =
    (called : Caller) (place : Place) (scope : Scope) (gs : List (List Call)) (k : ℕ) → Follows called place scope gs k

-- the phase of groups that are made, by what follows them: while one is waited for, they run
abbrev pub phase_told : StepsStep → Phase
phase_told (Over phase) = phase
phase_told Wait = Running
phase_told (Open i) = Running

-- what follows a group alone tells the phase that the meaning gives the group
abbrev pub TellsGroup : Type 0
TellsGroup = (ms : List Made_member) → phase_told (next (made_state ms ∷ [])) ≡ group_phase ms
