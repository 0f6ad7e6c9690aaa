-- What is kept of groups of steps that are made again: their tags only as far as something sees them.
use Rattle.std.specs.Prelude.{◌≡◌, ◌⊎◌, ℕ, ◌+◌, ◌<◌, List, [], ◌∷◌, ◌++◌, Bool, true, false, Result, Ok, Err, if◌then◌else◌, codes, take}
use Rattle.tree_types.specs.Phases.{is_succeeded}
use Rattle.wf_manifest.specs.declared.calls.Call.{Call}
use Rattle.wf_manifest.specs.declared.templates.OutputDecl.{OutputDecl}
use Rattle.scopes.specs.Substitution.{Scope}
use Rattle.scopes.specs.Values.{HasValuesOf}
use Rattle.meaning.specs.declared.lines.Place.{Place}
use Rattle.meaning.specs.Outputs.{computed}
use Rattle.meaning.specs.Steps.{Caller, Member, Groups, group_made, group_tags, groups_from, steps_phase}
use Rattle.mentions.specs.Mentions.{group_asks}
use Rattle.mentions.specs.Unasked.{HasOtherValuesOf}
use Rattle.tree_state.specs.declared.refused.TreeRefused.{TreeRefused}
use Rattle.tree_state.specs.declared.refused.TreeRefused.TheVariants.{TooLarge, Memory}
use Rattle.tree_state.specs.Counting.{count}
use Rattle.row_states.specs.Rows.{count_row}
use Rattle.tree_walk.specs.declared.over.Row.{Row}
use Rattle.tree_walk.specs.declared.over.Group.{Group}
use Rattle.tree_change.specs.declared.front.Front.{Front}

-- the node of a group over its members, and their tags where it Succeeded
abbrev pub group_kept : Place → List Member → Group → Type 0
group_kept place ms group =
    (group.state ≡ group_made place ms)
    × (is_succeeded group.state.own.node.phase ≡ true → HasValuesOf group.tags (group_tags ms))

-- a group, for which the room is taken; or there is too little room for it
abbrev pub KeepsGroup : ℕ → ℕ → Result Group TreeRefused → Place → List Member → Type 0
KeepsGroup before after (Ok group) place ms = group_kept place ms group × (after + count (group_made place ms) ≡ before)
KeepsGroup before after (Err TooLarge) place ms = before < count (group_made place ms)
KeepsGroup before after (Err Memory) place ms = Unit {0}

-- ---- groups that are gone through, one after the other

-- so many groups of a template, and the scope behind them
abbrev pub first_groups : Caller → Place → Scope → List (List Call) → ℕ → Groups
first_groups called place scope gs n = groups_from called place 0 scope (take n gs)

-- one group more: its tags stand over those of the others, where these are there
abbrev pub with_group : Front → Group → Front
with_group front group = record front {
  row = record {
    states = front.row.states ++ group.state ∷ [];
    scope = if front.tagged then group.tags ++ front.row.scope else front.row.scope;
  };
}

-- a scope with the values of the one behind groups; without their tags that of their template
abbrev pub IsSeen : Bool → Scope → Scope → Scope → Type 0
IsSeen true here scope behind = HasValuesOf here behind
IsSeen false here scope behind = here ≡ scope

abbrev pub IsFront : Front → Scope → Groups → Type 0
IsFront front scope groups = (front.row.states ≡ groups.all) × IsSeen front.tagged front.row.scope scope groups.scope

-- all groups that exist: the scope behind them counts where all Succeeded
abbrev pub IsEnd : Front → Scope → Groups → Type 0
IsEnd front scope groups =
    (front.row.states ≡ groups.all)
    × (is_succeeded (steps_phase groups.all) ≡ true → IsSeen front.tagged front.row.scope scope groups.scope)

-- all groups that exist, for which the room is taken; or there is too little room for them
abbrev pub KeepsFront : ℕ → ℕ → Result Front TreeRefused → Scope → Groups → Type 0
KeepsFront before after (Ok front) scope groups = IsEnd front scope groups × (after + count_row groups.all ≡ before)
KeepsFront before after (Err TooLarge) scope groups = before < count_row groups.all
KeepsFront before after (Err Memory) scope groups = Unit {0}

-- ---- what is seen of the tags

-- the calls of a group see all tags, or all that they ask for
abbrev pub SeesAlike : Scope → Scope → List Call → Type 0
SeesAlike here behind cs =
    HasValuesOf here behind
    ⊎ (HasOtherValuesOf (codes "steps.") here behind × (group_asks (codes "steps.") cs ≡ false))

-- the declared outputs say what they say behind the groups, where all Succeeded
abbrev pub IsSaid : Row → List OutputDecl → Groups → Type 0
IsSaid row declared groups =
    (row.states ≡ groups.all)
    × (is_succeeded (steps_phase groups.all) ≡ true → computed row.scope declared ≡ computed groups.scope declared)
