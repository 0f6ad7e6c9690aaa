-- Steps: groups one after the other, the members of a group side by side
-- (Argo, "Steps"; field reference, `WorkflowStep`).
-- The phases of groups and of the whole, and the moment at which the next group begins, are this project's own.
use Rattle.std.specs.Prelude.{ℕ, suc, List, [], ◌∷◌, ◌++◌, Bool, true, false, Option, Some, None, if◌then◌else◌, codes, map, flat_map}
use Rattle.tree_types.specs.declared.path.Sel.TheVariants.{Group, Step}
use Rattle.tree_types.specs.declared.phase.Phase.{Phase}
use Rattle.tree_types.specs.declared.phase.Phase.TheVariants.{Running, Succeeded, Skipped, Failed, Error}
use Rattle.tree_types.specs.declared.node.Kind.TheVariants as kind
use Rattle.tree_types.specs.declared.node.Note.TheVariants as note
use Rattle.tree_types.specs.Phases.{is_succeeded, worst_of}
use Rattle.node_names.specs.declared.seg.Seg.TheVariants as seg
use Rattle.wf_manifest.specs.declared.templates.OutputDecl.{OutputDecl}
use Rattle.wf_manifest.specs.declared.calls.ContinueOn.{ContinueOn}
use Rattle.wf_manifest.specs.declared.calls.Call.{Call}
use Rattle.scopes.specs.Substitution.{Scope}
use Rattle.meaning.specs.declared.lines.Place.{Place}
use Rattle.meaning.specs.Lines.{numbered, below, Made, row_of, no_outputs, node, made, all_finished, tags_of}
use Rattle.meaning.specs.Outputs.{computed, ended_node}

-- what a call makes: with the prefix of its tags, at a place, in a scope
abbrev pub Caller : Type 0
Caller = List ℕ → Place → Scope → Call → Made

-- ---- what a phase counts above (field reference, `ContinueOn`)

abbrev pub covers_failed : Option ContinueOn → Bool
covers_failed None = false
covers_failed (Some c) = c.failed

abbrev pub covers_error : Option ContinueOn → Bool
covers_error None = false
covers_error (Some c) = c.error

-- a covered failure and a skipped node count as Succeeded
abbrev pub covered : Option ContinueOn → Phase → Phase
covered on Failed = if covers_failed on then Succeeded else Failed
covered on Error = if covers_error on then Succeeded else Error
covered on Skipped = Succeeded
covered on phase = phase

-- ---- a group

-- a member of a group: the call, and what it made
abbrev pub Member : Type 0
Member = Call × Made

abbrev pub member_place : Place → ℕ → Call → Place
member_place group i c = below group (Step i) (seg.Call c.name)

module _ (called : Caller) where
  abbrev pub member : Place → Scope → ℕ → Call → Member
  member group scope i c = (c, called (codes "steps.") (member_place group i c) scope c)

  abbrev pub members : Place → Scope → List Call → List Member
  members group scope cs = numbered (member group scope) 0 cs

abbrev pub makings : List Member → List Made
makings ms = map (λ m. m.1) ms

-- the phase of a member as its group sees it
abbrev pub member_phase : Member → Phase
member_phase m = covered m.0.continue_on m.1.own.node.phase

-- the worst of its members once all are finished, Running before
abbrev pub group_phase : List Member → Phase
group_phase ms = if all_finished (makings ms) then worst_of (map member_phase ms) else Running

abbrev pub group_made : Place → List Member → Made
group_made place ms =
    made (node place kind.StepGroup (group_phase ms) note.None no_outputs) [] (row_of (makings ms))

abbrev pub group_tags : List Member → Scope
group_tags ms = flat_map (λ m. tags_of (codes "steps." ++ m.0.name) m.1) ms

-- ---- the groups that exist, and the scope behind them

pub record Groups : Type 0 where
  pub all : List Made
  pub scope : Scope

-- a group and those that follow it
abbrev pub before_groups : Made → Groups → Groups
before_groups g rest = record rest { all = g ∷ rest.all }

abbrev pub group_place : Place → ℕ → Place
group_place place i = below place (Group i) (seg.Group i)

-- a group with these tags; the next ones exist exactly where it is Succeeded: finished without an uncovered failure
abbrev pub groups_by : Made → Scope → Scope → (Scope → Groups) → Bool → Groups
groups_by g tags scope rest true = before_groups g (rest (tags ++ scope))
groups_by g tags scope rest false = record { all = g ∷ []; scope = tags ++ scope }

module _ (called : Caller) (place : Place) where
  abbrev pub members_at : ℕ → Scope → List Call → List Member
  members_at i scope cs = members called (group_place place i) scope cs

  -- the groups from group i on
  abbrev pub groups_from : ℕ → Scope → List (List Call) → Groups
  groups_from i scope [] = record { all = []; scope = scope }
  groups_from i scope (cs ∷ gs) =
      let ms = members_at i scope cs in
      groups_by (group_made (group_place place i) ms) (group_tags ms) scope
      (λ inner. groups_from (suc i) inner gs) (is_succeeded (group_phase ms))

-- the phase of the first group that did not succeed, else Succeeded
abbrev pub steps_phase : List Made → Phase
steps_phase [] = Succeeded
steps_phase (g ∷ gs) = if is_succeeded g.own.node.phase then steps_phase gs else g.own.node.phase

abbrev pub steps_by : Place → List OutputDecl → Groups → Made
steps_by place declared groups =
    made (ended_node place kind.Steps (steps_phase groups.all) note.None no_outputs (computed groups.scope declared)) []
    (row_of groups.all)

abbrev pub steps_made : Caller → Place → Scope → List OutputDecl → List (List Call) → Made
steps_made called place scope declared gs = steps_by place declared (groups_from called place 0 scope gs)
