-- What a call makes depends on what is recorded only by what is answered at its own path and below it.
use Rattle.std.specs.Prelude.{◌≡◌, ℕ, suc, ◌+◌, ◌<◌, ◌≤◌, List, [], ◌∷◌, ◌++◌, Bool, true, Option, Some, length, take, slice_get, All}
use Rattle.serde_json.specs.Data.{Data}
use Rattle.tree_types.specs.declared.path.Sel.{Sel}
use Rattle.tree_types.specs.declared.path.Sel.TheVariants.{Group, Step, Item, Attempt, Task as task_sel}
use Rattle.tag_text.specs.declared.part.Part.{Part}
use Rattle.wf_manifest.specs.declared.calls.Argument.{Argument}
use Rattle.wf_manifest.specs.declared.calls.Hook.{Hook}
use Rattle.wf_manifest.specs.declared.calls.Call.{Call}
use Rattle.wf_manifest.specs.declared.calls.Task.{Task}
use Rattle.wf_manifest.specs.declared.calls.Dag.{Dag}
use Rattle.wf_manifest.specs.declared.templates.OutputDecl.{OutputDecl}
use Rattle.wf_manifest.specs.declared.templates.Memoize.{Memoize}
use Rattle.wf_manifest.specs.declared.templates.Retry.{Retry}
use Rattle.wf_manifest.specs.declared.templates.Template.{Template}
use Rattle.wf_manifest.specs.declared.manifest.Manifest.{Manifest}
use Rattle.scopes.specs.Substitution.{Scope}
use Rattle.meaning.specs.declared.lines.Place.{Place}
use Rattle.meaning.specs.Answers.{Sels, Answers}
use Rattle.meaning.specs.Lines.{Made}
use Rattle.meaning.specs.Pods.{pod_made, attempts_from}
use Rattle.meaning.specs.Suspends.{suspend_made}
use Rattle.meaning.specs.Steps.{Caller, member, member_place, members, groups_from}
use Rattle.meaning.specs.Dags.{parents, Look, look, task_place, begun_task, standing, standings, dag_made}
use Rattle.meaning.specs.Calls.{body_made, memo_made, template_made, call_of_template, hook_place, hook_made, hooked, one_made, item_place, item_made, items_made, calls}
use Rattle.meaning.specs.Trees.{top_call_within}
use Rattle.locality.specs.Paths.{IsOff}
use Rattle.locality.specs.Answered.{SameBelow, SameBut}

-- two callers make the same of a call where the same is answered at its path and below it
abbrev pub SameCallers : Answers → Answers → Caller → Caller → Type 0
SameCallers A B called other =
    (prefix : List ℕ) (place : Place) (scope : Scope) (c : Call) → SameBelow A B place.sels →
    called prefix place scope c ≡ other prefix place scope c

-- the same is answered at and below these children of a place: so many of them, from number i on
abbrev pub SameChildren : Answers → Answers → Place → (ℕ → Sel) → ℕ → ℕ → Type 0
SameChildren A B place child i n = (j : ℕ) → i ≤ j → j < i + n → SameBelow A B (place.sels ++ child j ∷ [])

-- ---- calls

-- with any number of depths left
abbrev pub CallsAreLocal : Type 0
CallsAreLocal =
    (m : Manifest) (A B : Answers) (g : Scope) (left : ℕ) → SameCallers A B (calls m A g left) (calls m B g left)

-- so a call off the one path that changed makes what it made
abbrev pub CallsOffStay : Type 0
CallsOffStay =
    (m : Manifest) (A B : Answers) (changed : Sels) (g : Scope) (left : ℕ) (prefix : List ℕ) (place : Place) (scope : Scope)
    (c : Call) → SameBut A B changed → IsOff changed place.sels →
    calls m A g left prefix place scope c ≡ calls m B g left prefix place scope c

-- the entrypoint and the exit handler
abbrev pub TopCallsAreLocal : Type 0
TopCallsAreLocal =
    (left : ℕ) (m : Manifest) (A B : Answers) (g : Scope) (place : Place) (template : List ℕ) → SameBelow A B place.sels →
    top_call_within left m A g place template ≡ top_call_within left m B g place template

abbrev pub TopCallsOffStay : Type 0
TopCallsOffStay =
    (left : ℕ) (m : Manifest) (A B : Answers) (changed : Sels) (g : Scope) (place : Place) (template : List ℕ) →
    SameBut A B changed → IsOff changed place.sels →
    top_call_within left m A g place template ≡ top_call_within left m B g place template

-- a call of a template with arguments, and what follows the template's node
abbrev pub CallsOfTemplatesAreLocal : Type 0
CallsOfTemplatesAreLocal =
    (m : Manifest) (A B : Answers) (g : Scope) (called other : Caller) (place : Place) (scope : Scope) (name : List ℕ)
    (given : List Argument) (follow later : Made → Made) → SameCallers A B called other → SameBelow A B place.sels →
    ((b : Made) → follow b ≡ later b) →
    call_of_template m A g called place scope name given follow ≡ call_of_template m B g other place scope name given later

-- a call without a loop, or one item of a call
abbrev pub SingleCallsAreLocal : Type 0
SingleCallsAreLocal =
    (m : Manifest) (A B : Answers) (g : Scope) (called other : Caller) (prefix : List ℕ) (place : Place) (scope : Scope)
    (c : Call) → SameCallers A B called other → SameBelow A B place.sels →
    one_made m A g called prefix place scope c ≡ one_made m B g other prefix place scope c

-- ---- what hangs on a call

-- an exit hook, behind the same node
abbrev pub HooksAreLocal : Type 0
HooksAreLocal =
    (m : Manifest) (A B : Answers) (g : Scope) (called other : Caller) (label : List ℕ) (place : Place) (scope : Scope)
    (h : Hook) (b : Made) → SameCallers A B called other → SameBelow A B (hook_place place).sels →
    hook_made m A g called label place scope h b ≡ hook_made m B g other label place scope h b

-- a node with its exit hook, where it has one that runs
abbrev pub HookedAreLocal : Type 0
HookedAreLocal =
    (m : Manifest) (A B : Answers) (g : Scope) (called other : Caller) (label : List ℕ) (place : Place) (scope : Scope)
    (h : Option Hook) (b : Made) → SameCallers A B called other → SameBelow A B (hook_place place).sels →
    hooked m A g called label place scope h b ≡ hooked m B g other label place scope h b

-- an item of a loop, whatever is answered of the others
abbrev pub ItemsAreLocal : Type 0
ItemsAreLocal =
    (m : Manifest) (A B : Answers) (g : Scope) (called other : Caller) (prefix : List ℕ) (place : Place) (scope : Scope)
    (c : Call) (i : ℕ) (d : Data) → SameCallers A B called other → SameBelow A B (item_place place i d).sels →
    item_made m A g called prefix place scope c i d ≡ item_made m B g other prefix place scope c i d

-- all items of a loop
abbrev pub LoopsAreLocal : Type 0
LoopsAreLocal =
    (m : Manifest) (A B : Answers) (g : Scope) (called other : Caller) (prefix : List ℕ) (place : Place) (scope : Scope)
    (c : Call) (ds : List Data) → SameCallers A B called other → SameChildren A B place Item 0 (length ds) →
    items_made m A g called prefix place scope c ds ≡ items_made m B g other prefix place scope c ds

-- ---- templates

-- a template's node
abbrev pub TemplatesAreLocal : Type 0
TemplatesAreLocal =
    (A B : Answers) (called other : Caller) (place : Place) (scope : Scope) (t : Template) → SameCallers A B called other →
    SameBelow A B place.sels → template_made A called place scope t ≡ template_made B other place scope t

-- the same behind its lock, with its memoized answer
abbrev pub MemosAreLocal : Type 0
MemosAreLocal =
    (A B : Answers) (called other : Caller) (place : Place) (scope : Scope) (t : Template) (c : Option Memoize) →
    SameCallers A B called other → SameBelow A B place.sels →
    memo_made A called place scope t c ≡ memo_made B other place scope t c

-- a template's body, behind its lock and its memoized answer
abbrev pub BodiesAreLocal : Type 0
BodiesAreLocal =
    (A B : Answers) (called other : Caller) (place : Place) (scope : Scope) (t : Template) → SameCallers A B called other →
    SameBelow A B place.sels → body_made A called place scope t ≡ body_made B other place scope t

-- ---- steps

-- a member of a group, whatever is answered of the others
abbrev pub MembersAreLocal : Type 0
MembersAreLocal =
    (A B : Answers) (called other : Caller) (group : Place) (scope : Scope) (i : ℕ) (c : Call) →
    SameCallers A B called other → SameBelow A B (member_place group i c).sels →
    member called group scope i c ≡ member other group scope i c

-- all members of a group
abbrev pub GroupsAreLocal : Type 0
GroupsAreLocal =
    (A B : Answers) (called other : Caller) (group : Place) (scope : Scope) (cs : List Call) →
    SameCallers A B called other → SameChildren A B group Step 0 (length cs) →
    members called group scope cs ≡ members other group scope cs

-- these groups, and the scope behind them
abbrev pub StepsAreLocal : Type 0
StepsAreLocal =
    (A B : Answers) (called other : Caller) (place : Place) (i : ℕ) (scope : Scope) (gs : List (List Call)) →
    SameCallers A B called other → SameChildren A B place Group i (length gs) →
    groups_from called place i scope gs ≡ groups_from other place i scope gs

-- the first groups, whatever is answered of those behind them
abbrev pub FirstGroupsAreLocal : Type 0
FirstGroupsAreLocal =
    (A B : Answers) (called other : Caller) (place : Place) (i : ℕ) (scope : Scope) (gs : List (List Call)) (n : ℕ) →
    SameCallers A B called other → SameChildren A B place Group i n →
    take n (groups_from called place i scope gs).all ≡ take n (groups_from other place i scope gs).all

-- ---- DAGs

-- a task that begins, behind the same tags
abbrev pub BegunTasksAreLocal : Type 0
BegunTasksAreLocal =
    (A B : Answers) (called other : Caller) (place : Place) (scope : Scope) (d : Dag) (seen : Scope) (i : ℕ) (t : Task) →
    SameCallers A B called other → SameBelow A B (task_place place i t).sels →
    begun_task A called place scope d seen i t ≡ begun_task B other place scope d seen i t

-- a task, where the tasks stand the same that it waits for
abbrev pub TasksAreLocal : Type 0
TasksAreLocal =
    (A B : Answers) (called other : Caller) (place : Place) (scope : Scope) (d : Dag) (at by : Look) (i : ℕ) (t : Task) →
    SameCallers A B called other → SameBelow A B (task_place place i t).sels → All (λ n. at n ≡ by n) (parents d.tasks t) →
    standing A called place scope d at i t ≡ standing B other place scope d by i t

-- the tasks of these names: below each of them the same is answered, and each that it waits for is one of them
pub record AreKept (A B : Answers) (place : Place) (ts : List Task) (kept : List ℕ → Bool) : Type 0 where
  pub below : (i : ℕ) (t : Task) → slice_get ts i ≡ Some t → kept t.call.name ≡ true → SameBelow A B (task_place place i t).sels
  pub awaited : (i : ℕ) (t : Task) → slice_get ts i ≡ Some t → kept t.call.name ≡ true → All (λ n. kept n ≡ true) (parents ts t)

-- such a task stands the same, whatever is answered of the other tasks
abbrev pub KeptTasksAreLocal : Type 0
KeptTasksAreLocal =
    (A B : Answers) (called other : Caller) (place : Place) (scope : Scope) (d : Dag) (kept : List ℕ → Bool)
    (name : List ℕ) → SameCallers A B called other → AreKept A B place d.tasks kept → kept name ≡ true →
    look (standings A called place scope d) name ≡ look (standings B other place scope d) name

-- a DAG, whatever is answered at its own path
abbrev pub DagsAreLocal : Type 0
DagsAreLocal =
    (A B : Answers) (called other : Caller) (place : Place) (scope : Scope) (ds : List OutputDecl) (d : Dag) →
    SameCallers A B called other → SameChildren A B place task_sel 0 (length d.tasks) →
    dag_made A called place scope ds d ≡ dag_made B other place scope ds d

-- ---- nodes without calls

abbrev pub PodsAreLocal : Type 0
PodsAreLocal =
    (A B : Answers) (place : Place) (ds : List OutputDecl) → SameBelow A B place.sels →
    pod_made A place ds ≡ pod_made B place ds

abbrev pub SuspendedAreLocal : Type 0
SuspendedAreLocal =
    (A B : Answers) (place : Place) (scope : Scope) (ds : List OutputDecl) (duration : Option (List Part)) →
    SameBelow A B place.sels → suspend_made A place scope ds duration ≡ suspend_made B place scope ds duration

-- the attempts from attempt k on, which n may follow
abbrev pub AttemptsAreLocal : Type 0
AttemptsAreLocal =
    (A B : Answers) (place : Place) (ds : List OutputDecl) (r : Retry) (n k : ℕ) (first : Option ℕ) →
    SameChildren A B place Attempt k (suc n) →
    attempts_from A place ds r n k first ≡ attempts_from B place ds r n k first

-- the first ones of them, whatever is answered of those behind them
abbrev pub FirstAttemptsAreLocal : Type 0
FirstAttemptsAreLocal =
    (A B : Answers) (place : Place) (ds : List OutputDecl) (r : Retry) (n k : ℕ) (first : Option ℕ) (tried : ℕ) →
    SameChildren A B place Attempt k tried →
    take tried (attempts_from A place ds r n k first).all ≡ take tried (attempts_from B place ds r n k first).all
