-- What a call makes depends on scopes only by the values that they give to tags.
use Rattle.std.specs.Prelude.{◌≡◌, ℕ, List, [], ◌∷◌, Option, Ok, Err}
use Rattle.wf_manifest.specs.declared.calls.Argument.{Argument}
use Rattle.wf_manifest.specs.declared.calls.Call.{Call}
use Rattle.wf_manifest.specs.declared.calls.Task.{Task}
use Rattle.wf_manifest.specs.declared.calls.Dag.{Dag}
use Rattle.wf_manifest.specs.declared.templates.Input.{Input}
use Rattle.wf_manifest.specs.declared.templates.Memoize.{Memoize}
use Rattle.wf_manifest.specs.declared.templates.Template.{Template}
use Rattle.wf_manifest.specs.declared.manifest.Manifest.{Manifest}
use Rattle.scopes.specs.Substitution.{Found, Scope}
use Rattle.scopes.specs.Values.{HasValuesOf}
use Rattle.meaning.specs.declared.lines.Place.{Place}
use Rattle.meaning.specs.Answers.{Answers}
use Rattle.meaning.specs.Lines.{Made}
use Rattle.meaning.specs.Steps.{Caller, Groups}
use Rattle.meaning.specs.Dags.{Standing, waiting, ready, exists, Look, Standings, begun_task}
use Rattle.meaning.specs.Calls.{template_scope, body_made, memo_made, template_made, call_of_template, calls}
use Rattle.meaning.specs.Trees.{top_call_within}

-- two callers make the same in scopes with the same values
abbrev pub Agree : Caller → Caller → Type 0
Agree called other =
    (prefix : List ℕ) (place : Place) (scope around : Scope) (c : Call) → HasValuesOf scope around →
    called prefix place scope c ≡ other prefix place around c

-- the same is done with what is made
abbrev pub FollowAlike : (Made → Made) → (Made → Made) → Type 0
FollowAlike follow later = (b : Made) → follow b ≡ later b

-- scopes with the same values, or the same fault
abbrev pub FoundAlike : Found Scope → Found Scope → Type 0
FoundAlike (Ok scope) (Ok around) = HasValuesOf scope around
FoundAlike (Err fault) (Err other) = fault ≡ other
FoundAlike _ _ = ⊥

-- the same groups, and behind them scopes with the same values
pub record GroupsAlike (groups others : Groups) : Type 0 where
  pub all : groups.all ≡ others.all
  pub scope : HasValuesOf groups.scope others.scope

-- a task stands the same, behind tags with the same values
abbrev pub StandAlike : Standing → Standing → Type 0
StandAlike waiting waiting = Unit {0}
StandAlike ready ready = Unit {0}
StandAlike (exists m branch seen) (exists n other before) = (m ≡ n) × (branch ≡ other) × HasValuesOf seen before
StandAlike _ _ = ⊥

-- the task of each name stands the same
abbrev pub LooksAlike : Look → Look → Type 0
LooksAlike at by = (n : List ℕ) → StandAlike (at n) (by n)

-- the same tasks, each of which stands the same
abbrev pub StandingsAlike : Standings → Standings → Type 0
StandingsAlike [] [] = Unit {0}
StandingsAlike (s ∷ ss) (u ∷ us) = (s.0 ≡ u.0) × StandAlike s.1 u.1 × StandingsAlike ss us
StandingsAlike _ _ = ⊥

-- ---- the laws

-- with any number of depths left
abbrev pub CallsAgree : Type 0
CallsAgree =
    (m : Manifest) (A : Answers) (g h : Scope) (left : ℕ) → HasValuesOf g h → Agree (calls m A g left) (calls m A h left)

-- the scope of a template's own texts, or the fault of its arguments and inputs
abbrev pub TemplateScopesAgree : Type 0
TemplateScopesAgree =
    (g h scope around : Scope) (given : List Argument) (inputs : List Input) → HasValuesOf g h → HasValuesOf scope around →
    FoundAlike (template_scope g scope given inputs) (template_scope h around given inputs)

-- a template's node
abbrev pub TemplatesAgree : Type 0
TemplatesAgree =
    (A : Answers) (called other : Caller) (place : Place) (scope around : Scope) (t : Template) → Agree called other →
    HasValuesOf scope around → template_made A called place scope t ≡ template_made A other place around t

-- a template's body, behind its lock and its memoized answer
abbrev pub BodiesAgree : Type 0
BodiesAgree =
    (A : Answers) (called other : Caller) (place : Place) (scope around : Scope) (t : Template) → Agree called other →
    HasValuesOf scope around → body_made A called place scope t ≡ body_made A other place around t

-- the same behind its lock, with its memoized answer
abbrev pub MemosAgree : Type 0
MemosAgree =
    (A : Answers) (called other : Caller) (place : Place) (scope around : Scope) (t : Template) (c : Option Memoize) →
    Agree called other → HasValuesOf scope around → memo_made A called place scope t c ≡ memo_made A other place around t c

-- a call of a template with arguments, and what follows the template's node
abbrev pub CallsOfTemplatesAgree : Type 0
CallsOfTemplatesAgree =
    (m : Manifest) (A : Answers) (g h : Scope) (called other : Caller) (place : Place) (scope around : Scope)
    (name : List ℕ) (given : List Argument) (follow later : Made → Made) → HasValuesOf g h → Agree called other →
    HasValuesOf scope around → FollowAlike follow later →
    call_of_template m A g called place scope name given follow ≡ call_of_template m A h other place around name given later

-- a task that begins, behind the tags of its ancestors
abbrev pub BegunTasksAgree : Type 0
BegunTasksAgree =
    (A : Answers) (called other : Caller) (place : Place) (scope around : Scope) (d : Dag) (seen before : Scope) (i : ℕ)
    (t : Task) → Agree called other → HasValuesOf scope around → HasValuesOf seen before →
    StandAlike (begun_task A called place scope d seen i t) (begun_task A other place around d before i t)

-- the entrypoint and the exit handler, whose scope the globals are
abbrev pub TopCallsAgree : Type 0
TopCallsAgree =
    (left : ℕ) (m : Manifest) (A : Answers) (g h : Scope) (place : Place) (template : List ℕ) → HasValuesOf g h →
    top_call_within left m A g place template ≡ top_call_within left m A h place template
