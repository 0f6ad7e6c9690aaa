-- Which paths that hold a lock a step may be about, by their nodes: a grant is of one that waits, a release of one that is over.
use Rattle.std.specs.Prelude.{◌≡◌, Bool, true, false, not, ◌&&◌, [], ◌∷◌, Option, Some, None}
use Rattle.std.specs.List.{find}
use Rattle.tree_types.specs.declared.path.Path.{Path}
use Rattle.tree_types.specs.declared.phase.Phase.{Phase}
use Rattle.tree_types.specs.declared.phase.Phase.TheVariants.{Pending}
use Rattle.tree_types.specs.declared.node.Note.{Note}
use Rattle.tree_types.specs.declared.node.Note.TheVariants.{Waiting}
use Rattle.tree_types.specs.declared.node.Node.{Node}
use Rattle.tree_types.specs.Phases.{fulfilled}
use Rattle.meaning.specs.Answers.{Sels, answers}
use Rattle.tree_order.specs.Order.{path_before}
use Rattle.law.specs.Contents.{Flow}
use Rattle.law.specs.Due.{is_at}
use Rattle.law.specs.Justified.{tree_of}
use Rattle.worker_job.specs.declared.held.Standing.{Standing}
use Rattle.worker_job.specs.declared.held.Standing.TheVariants as standing
use Rattle.worker_job.specs.declared.held.Held.{Held}
use Rattle.worker_job.specs.declared.held.Held.TheVariants as held

-- ---- nodes

abbrev pub waits_by : Phase → Note → Bool
waits_by Pending (Waiting l) = true
waits_by _ _ = false

-- the node waits for a lock
abbrev pub waits : Node → Bool
waits n = waits_by n.phase n.note

abbrev pub is_over : Node → Bool
is_over n = fulfilled n.phase

abbrev pub stands : (Node → Bool) → Option Node → Bool
stands so None = false
stands so (Some n) = so n

-- the node of a path stands so
abbrev pub stands_at : (Node → Bool) → Flow → Sels → Bool
stands_at so f p = stands so (find (is_at p) (tree_of f))

-- ---- paths

-- the node of a path waits for its lock, which is not granted
abbrev pub is_waiting : Flow → Sels → Bool
is_waiting f p = not ((answers f.journal).granted p) && stands_at waits f p

-- the node of a path may wait for its lock; for the workflow's own lock, whose path is empty, the root does
abbrev pub may_wait : Flow → Sels → Bool
may_wait f [] = true
may_wait f (s ∷ p) = is_waiting f (s ∷ p)

abbrev pub such : Standing → Flow → Path → Bool
such standing.Waiting f p = may_wait f p.sels
such standing.Over f p = stands_at is_over f p.sels

module _ (holds passes : Path → Bool) where
  -- this path holds a lock and passes a test, and of each other that does so too this is known
  abbrev pub IsOne : Path → (Path → Type 0) → Type 0
  IsOne p Other = (holds p ≡ true) × (passes p ≡ true) × ((q : Path) → holds q ≡ true → passes q ≡ true → Other q)

  -- what is told of the paths that hold a lock and pass a test: none does, this one alone does, or nothing
  abbrev pub TellsAlone : Held → Type 0
  TellsAlone held.Nothing = (p : Path) → holds p ≡ true → passes p ≡ false
  TellsAlone (held.One p) = IsOne p.now (λ q. q ≡ p.now)
  TellsAlone held.Unknown = Unit {0}

  -- or else: this one is the first of them in the order in which nodes stand
  abbrev pub TellsFirst : Held → Type 0
  TellsFirst held.Nothing = (p : Path) → holds p ≡ true → passes p ≡ false
  TellsFirst (held.One p) = IsOne p.now (λ q. path_before q.sels p.now.sels ≡ false)
  TellsFirst held.Unknown = Unit {0}
