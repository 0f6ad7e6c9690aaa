-- Tags that are not asked for do not matter.
use Rattle.std.specs.Prelude.{◌≡◌, ℕ, List, ◌++◌, false, nat_eq, codes}
use Rattle.std.specs.List.{starts_with}
use Rattle.wf_manifest.specs.declared.calls.Call.{Call}
use Rattle.wf_manifest.specs.declared.calls.Dag.{Dag}
use Rattle.wf_manifest.specs.declared.templates.OutputDecl.{OutputDecl}
use Rattle.wf_manifest.specs.declared.manifest.Manifest.{Manifest}
use Rattle.scopes.specs.Substitution.{Scope, value_in}
use Rattle.meaning.specs.declared.lines.Place.{Place}
use Rattle.meaning.specs.Answers.{Answers}
use Rattle.meaning.specs.Outputs.{computed}
use Rattle.meaning.specs.Steps.{Caller, Member, members, group_tags}
use Rattle.meaning.specs.Dags.{Names, look, tags_before, standings}
use Rattle.meaning.specs.Calls.{calls}
use Rattle.mentions.specs.Mentions.{call_asks, group_asks, outputs_ask}

-- a scope gives each tag that does not begin with the prefix the value that the other one gives it
abbrev pub HasOtherValuesOf : List ℕ → Scope → Scope → Type 0
HasOtherValuesOf prefix scope around =
    (tag : List ℕ) → starts_with nat_eq tag prefix ≡ false → value_in scope tag ≡ value_in around tag

-- ---- the laws

-- what a call makes, with any number of depths left
abbrev pub UnaskedInCalls : Type 0
UnaskedInCalls =
    (m : Manifest) (A : Answers) (g : Scope) (left : ℕ) (prefix label : List ℕ) (place : Place) (scope around : Scope)
    (c : Call) → HasOtherValuesOf prefix scope around → call_asks prefix c ≡ false →
    calls m A g left label place scope c ≡ calls m A g left label place around c

-- what the calls of a group make
abbrev pub UnaskedInGroups : Type 0
UnaskedInGroups =
    (m : Manifest) (A : Answers) (g : Scope) (left : ℕ) (prefix : List ℕ) (group : Place) (scope around : Scope)
    (cs : List Call) → HasOtherValuesOf prefix scope around → group_asks prefix cs ≡ false →
    members (calls m A g left) group scope cs ≡ members (calls m A g left) group around cs

-- what declared outputs are computed as
abbrev pub UnaskedInOutputs : Type 0
UnaskedInOutputs =
    (prefix : List ℕ) (scope around : Scope) (ds : List OutputDecl) → HasOtherValuesOf prefix scope around →
    outputs_ask prefix ds ≡ false → computed scope ds ≡ computed around ds

-- the tags of a group, which all begin with `steps.`
abbrev pub GroupTagsBeginSo : Type 0
GroupTagsBeginSo =
    (ms : List Member) (scope : Scope) → HasOtherValuesOf (codes "steps.") (group_tags ms ++ scope) scope

-- the tags of the ancestors of a task, wherever the tasks of its DAG stand, which all begin with `tasks.`
abbrev pub TaskTagsBeginSo : Type 0
TaskTagsBeginSo =
    (A : Answers) (called : Caller) (place : Place) (scope : Scope) (d : Dag) (ns : Names) (around : Scope) →
    HasOtherValuesOf (codes "tasks.") (tags_before (look (standings A called place scope d)) ns ++ around) around
