-- What the functions of a walk answer.
use Rattle.std.specs.Prelude.{◌≡◌, ℕ, ◌+◌, ◌<◌, List, [], ◌∷◌, Option, Some, None, Result, Ok, Err, ◌++◌, codes}
use denote.Ref.{Bor}
use Rattle.tree_types.specs.declared.path.LockId.{LockId}
use Rattle.tree_types.specs.declared.node.Kind.{Kind}
use Rattle.tree_types.specs.declared.node.Note.TheVariants as note
use Rattle.tree_types.specs.declared.phase.Phase.TheVariants.{Pending, Error}
use Rattle.tree_types.specs.declared.want.Want.TheVariants as want
use Rattle.wf_manifest.specs.declared.calls.Hook.{Hook}
use Rattle.wf_manifest.specs.declared.templates.Template.{Template}
use Rattle.scopes.specs.Substitution.{Scope}
use Rattle.scopes.specs.Values.{HasValuesOf}
use Rattle.meaning.specs.declared.lines.Place.{Place}
use Rattle.meaning.specs.Answers.{path, Answers}
use Rattle.meaning.specs.Lines.{Made, nothing, no_outputs, node, made, alone}
use Rattle.meaning.specs.Steps.{Caller, Member, Groups, group_made, group_tags}
use Rattle.meaning.specs.Calls.{kind_of, memo_made, then_hook}
use Rattle.tree_state.specs.declared.refused.TreeRefused.{TreeRefused}
use Rattle.tree_state.specs.declared.refused.TreeRefused.TheVariants.{TooLarge, Memory}
use Rattle.tree_state.specs.Counting.{count, Gives}
use Rattle.call_texts.specs.declared.halt.Halt.{Halt}
use Rattle.call_texts.specs.declared.halt.Halt.TheVariants.{Fault, Memory as NoMemory}
use Rattle.row_states.specs.Rows.{count_row}
use Rattle.tree_walk.specs.declared.over.Listed.{Listed}
use Rattle.tree_walk.specs.declared.over.Listed.TheVariants.{Steps, Tasks}
use Rattle.tree_walk.specs.declared.over.After.{After}
use Rattle.tree_walk.specs.declared.over.Row.{Row}
use Rattle.tree_walk.specs.declared.over.Group.{Group}

-- an Error node for a fault; want of memory makes none
abbrev pub GivesHalted : ℕ → ℕ → Result Made TreeRefused → Place → Kind → Halt → Type 0
GivesHalted before after result place k (Fault fault) = Gives before after result (alone place k Error fault)
GivesHalted before after result place k NoMemory = result ≡ Err Memory

-- calls in a row, for which the room is taken; or there is too little room for them
abbrev pub GivesRow : ℕ → ℕ → Result (List Made) TreeRefused → List Made → Type 0
GivesRow before after (Ok states) ms = (states ≡ ms) × (after + count_row ms ≡ before)
GivesRow before after (Err TooLarge) ms = before < count_row ms
GivesRow before after (Err Memory) ms = Unit {0}

-- the groups that are kept
abbrev pub groups_kept : Row → Groups
groups_kept row = record { all = row.states; scope = row.scope }

-- groups, and a scope with the values of the one behind them
abbrev pub GivesGroups : ℕ → ℕ → Result Row TreeRefused → Groups → Type 0
GivesGroups before after (Ok row) groups =
    (row.states ≡ groups.all) × HasValuesOf row.scope groups.scope × (after + count_row groups.all ≡ before)
GivesGroups before after (Err TooLarge) groups = before < count_row groups.all
GivesGroups before after (Err Memory) groups = Unit {0}

-- the node of a group over its members, and their tags
abbrev pub group_seen : Place → List Member → Group → Type 0
group_seen place ms group = (group.state ≡ group_made place ms) × HasValuesOf group.tags (group_tags ms)

-- a group, for which the room is taken; or there is too little room for it
abbrev pub GivesGroup : ℕ → ℕ → Result Group TreeRefused → Place → List Member → Type 0
GivesGroup before after (Ok group) place ms = group_seen place ms group × (after + count (group_made place ms) ≡ before)
GivesGroup before after (Err TooLarge) place ms = before < count (group_made place ms)
GivesGroup before after (Err Memory) place ms = Unit {0}

-- the template's node behind its lock: it waits for this one, if any
abbrev pub behind_lock : Answers → Caller → Place → Scope → Template → Option (Bor LockId) → Made
behind_lock A called place scope t None = memo_made A called place scope t t.memoize
behind_lock A called place scope t (Some l) =
    made (node place (kind_of t) Pending (note.Waiting l.now) no_outputs) (want.Lock (path place.sels) l.now ∷ []) nothing

-- the prefix of the tags of steps or tasks
abbrev pub prefix_of : Listed → List ℕ
prefix_of Steps = codes "steps."
prefix_of Tasks = codes "tasks."

-- by what the tags of a call begin
abbrev pub label_of : After → List ℕ
label_of after = prefix_of after.of ++ after.name.now

-- how many depths an exit hook goes down
abbrev pub hook_depth : Option (Bor Hook) → ℕ
hook_depth None = 0
hook_depth (Some h) = 1

-- a call with its exit hook behind it, if the hook is made
abbrev pub AddsHook : Made → Result Made TreeRefused → Result Made TreeRefused → Type 0
AddsHook b (Ok h) (Ok both) = both ≡ then_hook b h
AddsHook b (Ok h) (Err refused) = refused ≡ Memory
AddsHook b (Err refused) result = result ≡ Err refused
