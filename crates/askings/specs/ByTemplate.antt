-- What a node asks for as its template says: the timer of its duration or of its next attempt, and a save.
use Rattle.std.specs.Prelude.{◌≡◌, ◌⊎◌, ◌≤◌, ℕ, suc, List, [], ◌∷◌, ◌++◌, length, Option, Some, None, Ok}
use Rattle.tree_types.specs.declared.path.Sel.TheVariants.{Attempt}
use Rattle.tree_types.specs.declared.phase.Phase.TheVariants.{Running, Succeeded}
use Rattle.tree_types.specs.declared.node.Kind.TheVariants as kind
use Rattle.tree_types.specs.declared.node.Note.{Note}
use Rattle.tree_types.specs.declared.node.Node.{Node}
use Rattle.tree_types.specs.declared.outcome.Outcome.{Outcome}
use Rattle.tree_types.specs.declared.outcome.Param.{Param}
use Rattle.tree_types.specs.declared.want.Want.{Want}
use Rattle.tree_types.specs.declared.want.Want.TheVariants as want
use Rattle.tag_text.specs.declared.part.Part.{Part}
use Rattle.wf_manifest.specs.declared.templates.Body.{Body}
use Rattle.wf_manifest.specs.declared.templates.Body.TheVariants as body
use Rattle.wf_manifest.specs.declared.templates.Memoize.{Memoize}
use Rattle.wf_manifest.specs.declared.templates.Retry.{Retry}
use Rattle.wf_manifest.specs.declared.manifest.Manifest.{Manifest}
use Rattle.scopes.specs.Substitution.{Scope, said, input_tags}
use Rattle.meaning.specs.Answers.{path, Sels, Answers}
use Rattle.meaning.specs.Lines.{later}
use Rattle.meaning.specs.Guards.{Spot, of_template, spot}
use Rattle.meaning.specs.Pods.{due_tick, attempt}
use Rattle.meaning.specs.Suspends.{seconds_of}
use Rattle.meaning.specs.Trees.{globals_of, main_made, status_tags, lines, nodes_in, wants_in}
use Rattle.growth.specs.Growth.{Among}
use Rattle.growth.specs.Ticks.{place_of}
use Rattle.askings.specs.Owners.{memo_at}

-- ---- what the template says whose node stands at a path

abbrev pub duration_in : Body → Option (List Part)
duration_in (body.Suspend duration) = duration
duration_in _ = None

abbrev pub duration_of_spot : Spot → Option (List Part)
duration_of_spot (of_template t hook) = duration_in t.body
duration_of_spot _ = None

abbrev pub duration_at : Manifest → Sels → Option (List Part)
duration_at m p = duration_of_spot (spot m p)

abbrev pub retry_of_spot : Spot → Option Retry
retry_of_spot (of_template t hook) = t.retry
retry_of_spot _ = None

abbrev pub retry_at : Manifest → Sels → Option Retry
retry_at m p = retry_of_spot (spot m p)

-- ---- the scope of a template's own texts

-- the workflow's tags, or those and `workflow.status`, as below the exit handler
abbrev pub AreGlobals : Manifest → Answers → Scope → Type 0
AreGlobals m A globals = (globals ≡ globals_of m) ⊎ (globals ≡ status_tags m (main_made m A))

-- its inputs, with some values, and the workflow's tags
pub record IsTemplateScope (m : Manifest) (A : Answers) (scope : Scope) : Type 0 where
  pub inputs : List Param
  pub globals : Scope
  pub are_globals : AreGlobals m A globals
  pub is : scope ≡ input_tags inputs ++ globals

-- ---- what is asked for

-- the timer of this duration, which in a template's scope is so many seconds
pub record AsksTimer (m : Manifest) (A : Answers) (ws : List Want) (n : Node) (duration : List Part) (armed : ℕ)
    : Type 0 where
  pub scope : Scope
  pub is_scope : IsTemplateScope m A scope
  pub seconds : ℕ
  pub read : seconds_of scope (Some duration) ≡ Ok (Some seconds)
  pub asked : Among (want.Timer n.path (later armed seconds)) ws

-- the pod of this attempt stands below the node
pub record AttemptStands (ns : List Node) (n : Node) (number : ℕ) : Type 0 where
  pub pod : Node
  pub stands : Among pod ns
  pub below : pod.path.sels ≡ n.path.sels ++ Attempt number ∷ []

-- an attempt of this node runs
abbrev pub AttemptRuns : List Node → Node → Type 0
AttemptRuns ns n = (number : ℕ) × (a : AttemptStands ns n number) × (a.pod.phase ≡ Running)

-- this attempt has ended, and the one behind it is due at this tick
pub record NextDue (m : Manifest) (A : Answers) (n : Node) (last tick : ℕ) : Type 0 where
  pub retry : Retry
  pub is : retry_at m n.path.sels ≡ Some retry
  pub outcome : Note × Outcome
  pub ended : A.outcome (attempt (place_of n) last) ≡ Some outcome
  pub due : tick ≡ due_tick retry.backoff outcome.1.finish (suc last)

-- the timer of the attempt behind the last one
pub record AsksNext (m : Manifest) (A : Answers) (ns : List Node) (ws : List Want) (n : Node) : Type 0 where
  pub last : ℕ
  pub stands : AttemptStands ns n last
  pub tick : ℕ
  pub due : NextDue m A n last tick
  pub asked : Among (want.Timer (path (n.path.sels ++ Attempt (suc last) ∷ [])) tick) ws

-- a save of the node's outputs in this cache, with its key as it reads in a template's scope
pub record AsksSave (m : Manifest) (A : Answers) (ws : List Want) (n : Node) (c : Memoize) : Type 0 where
  pub scope : Scope
  pub is_scope : IsTemplateScope m A scope
  pub key : List ℕ
  pub read : said scope c.key ≡ Ok key
  pub asked : Among (want.Save n.path c.cache key n.outputs) ws

-- A suspended node that runs, is armed and has a duration asks for its timer: one that runs was not resumed, and is not
-- due. A Retry node that runs, while none of its attempts does, asks for the timer of the next one. A node that missed
-- and then Succeeded asks for its save.
pub record AsksByTemplate (m : Manifest) (A : Answers) (ns : List Node) (ws : List Want) (n : Node) : Type 0 where
  pub timer :
      (duration : List Part) (armed : ℕ) → n.kind ≡ kind.Suspend → n.phase ≡ Running →
      duration_at m n.path.sels ≡ Some duration → A.armed n.path.sels ≡ Some armed →
      AsksTimer m A ws n duration armed
  pub next : n.kind ≡ kind.Retry → n.phase ≡ Running → (AttemptRuns ns n → ⊥) → AsksNext m A ns ws n
  pub save :
      (c : Memoize) → n.phase ≡ Succeeded → memo_at m n.path.sels ≡ Some c → A.memo n.path.sels ≡ Some None →
      AsksSave m A ws n c

-- what its template makes a node of a tree ask for, the tree asks for
abbrev pub TemplatesAsk : Type 0
TemplatesAsk =
    (m : Manifest) (A : Answers) (n : Node) → Among n (nodes_in (lines m A)) →
    AsksByTemplate m A (nodes_in (lines m A)) (wants_in (lines m A)) n

-- ---- how much is asked for

-- no more is asked for than there are nodes
abbrev pub WantsAreFew : Type 0
WantsAreFew =
    (m : Manifest) (A : Answers) → length (wants_in (lines m A)) ≤ length (nodes_in (lines m A))
