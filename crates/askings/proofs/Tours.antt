-- A tour of a tree: what holds of the lines of a whole tree, if it holds of what a node asks for, of lines side by side,
-- and of the lines of a node and below it.
use Rattle.std.proofs.Common.{◌≡◌, refl, ap}
use Rattle.std.specs.Prelude.{ℕ, suc, List, [], ◌∷◌, ◌++◌, true, false, Some, None, Ok}
use Rattle.tree_types.specs.declared.path.Path.{Path}
use Rattle.tree_types.specs.declared.path.Sel.TheVariants.{Attempt}
use Rattle.tree_types.specs.declared.path.LockId.{LockId}
use Rattle.tree_types.specs.declared.phase.Phase.TheVariants.{Pending, Running, Succeeded}
use Rattle.tree_types.specs.declared.node.Kind.{Kind}
use Rattle.tree_types.specs.declared.node.Kind.TheVariants as kind
use Rattle.tree_types.specs.declared.node.Note.TheVariants as note
use Rattle.tree_types.specs.declared.node.Node.{Node}
use Rattle.tree_types.specs.declared.outcome.Outputs.{Outputs}
use Rattle.tree_types.specs.declared.want.Want.{Want}
use Rattle.tree_types.specs.Phases.{fulfilled, is_succeeded}
use Rattle.tag_text.specs.declared.part.Part.{Part as TagPart}
use Rattle.tree_types.specs.declared.want.Want.TheVariants as want
use Rattle.wf_manifest.specs.declared.templates.Memoize.{Memoize}
use Rattle.wf_manifest.specs.declared.manifest.Manifest.{Manifest}
use Rattle.meaning.specs.declared.lines.Place.{Place}
use Rattle.meaning.specs.declared.lines.Line.{Line}
use Rattle.meaning.specs.declared.lines.Line.TheVariants.{Stands, Asks, MayBegin}
use Rattle.meaning.specs.Answers.{path, Sels, Answers}
use Rattle.scopes.specs.Substitution.{Scope, said}
use Rattle.meaning.specs.Lines.{later, Made, lines_in, no_outputs, node, made, Parts}
use Rattle.meaning.specs.Pods.{running_pod}
use Rattle.meaning.specs.Suspends.{seconds_of}
use Rattle.meaning.specs.Guards.{lock_at}
use Rattle.meaning.specs.Trees.{pending_root, nodes_in}
use Rattle.growth.specs.Growth.{IsSave}
use Rattle.growth.proofs.Keeping.{not_both, At}
use Rattle.growth.proofs.Lines.{Every, Any, any_left, any_right, IsNode}
use Rattle.growth.proofs.OnePath.{paths}
use Rattle.growth.proofs.SoundBodies.{Topped}
use Rattle.askings.specs.Owners.{is_attempt, memo_at}
use Rattle.askings.specs.Ends.{SucceededByOutcome}
use Rattle.askings.specs.ByTemplate.{duration_at, IsTemplateScope, AttemptStands, AttemptRuns, NextDue}
use Rattle.askings.proofs.Walks.{Guarded}

-- the nodes of these lines stand in those
abbrev pub Part : List Line → List Line → Type 0
Part whole ls = (n : Node) → Any (IsNode n) ls → Any (IsNode n) whole

pub part_left : (whole ls ks : List Line) → Part whole (ls ++ ks) → Part whole ls
part_left whole ls ks f n h = f n (any_left (IsNode n) ls ks h)

pub part_right : (whole ls ks : List Line) → Part whole (ls ++ ks) → Part whole ks
part_right whole ls ks f n h = f n (any_right (IsNode n) ls ks h)

-- nothing but saves is asked for here
abbrev pub Quiet : Line → Type 0
Quiet (Asks w) = IsSave w
Quiet _ = Unit {0}

-- a node that waits for nothing itself, but for an attempt that runs, and that has Succeeded only as it may
pub record Idle (A : Answers) (whole : List Line) (n : Node) : Type 0 where
  pub suspended : n.kind ≡ kind.Suspend → n.phase ≡ Running → ⊥
  pub pod : n.kind ≡ kind.Pod → n.phase ≡ Running → ⊥
  pub pending : n.phase ≡ Pending → n.note ≡ note.None
  pub retry : n.kind ≡ kind.Retry → n.phase ≡ Running → AttemptRuns (nodes_in whole) n
  pub succeeded : SucceededByOutcome A n

-- so is one that is fulfilled
pub over_idle : (A : Answers) (whole : List Line) (n : Node) → fulfilled n.phase ≡ true → SucceededByOutcome A n → Idle A whole n
over_idle A whole n e s = record {
  suspended = λ k r. not_both (fulfilled n.phase) e (ap fulfilled r);
  pod = λ k r. not_both (fulfilled n.phase) e (ap fulfilled r);
  pending = λ r. not_both (fulfilled n.phase) e (ap fulfilled r);
  retry = λ k r. not_both (fulfilled n.phase) e (ap fulfilled r);
  succeeded = s;
}

-- this node needs no save
abbrev pub Unsaved : Manifest → Answers → Node → Type 0
Unsaved m A n = (c : Memoize) → n.phase ≡ Succeeded → memo_at m n.path.sels ≡ Some c → A.memo n.path.sels ≡ Some None → ⊥

-- so it is where it is not Succeeded
pub unsucceeded : (m : Manifest) (A : Answers) (n : Node) → is_succeeded n.phase ≡ false → Unsaved m A n
unsucceeded m A n e c s x y = not_both (is_succeeded n.phase) (ap is_succeeded s) e

-- and where what stands at its path is not memoized
pub unmemoized : (m : Manifest) (A : Answers) (n : Node) → memo_at m n.path.sels ≡ None → Unsaved m A n
unmemoized m A n e c s x y = absurd (cc (e, x))

-- lines of attempts
abbrev pub IsPod : Want → Type 0
IsPod (want.Pod p) = Unit {0}
IsPod _ = ⊥

abbrev pub Trial : Line → Type 0
Trial (Asks w) = IsPod w
Trial _ = Unit {0}

-- the lines of a node that asks for one thing
abbrev pub asking : Node → Want → List Line
asking n w = Stands n ∷ Asks w ∷ []

-- the lock that a path carries, if any, is granted
abbrev pub LockGranted : Manifest → Answers → Sels → Type 0
LockGranted m A p = (l : LockId) → lock_at m p ≡ Some l → A.granted p ≡ true

-- its node stands at this place, and it is finished when that node is fulfilled
pub record Headed (p : Place) (b : Made) : Type 0 where
  pub at : At p b.own.node
  pub over : b.own.finished ≡ fulfilled b.own.node.phase

pub made_headed : (p : Place) (n : Node) (ws : List Want) (parts : Parts) → At p n → Headed p (made n ws parts)
made_headed p n ws parts at = record { at = at; over = refl }

pub topped_headed : (A : Answers) (p : Place) (b : Made) → Topped paths A p b → Headed p b
topped_headed A p b t = record { at = t.at; over = t.over }

pub record Tour (m : Manifest) (A : Answers) (whole : List Line) : Type 1 where
  -- what is known below a node of its path
  pub Known : Sels → Type 0
  -- what holds of lines
  pub Good : List Line → Type 0
  pub none : Good []
  pub both : (ls ks : List Line) → Good ls → Good ks → Good (ls ++ ks)
  pub begins : (p : Path) → Good (MayBegin p ∷ [])
  pub stands : (n : Node) (ls : List Line) → Idle A whole n → Unsaved m A n → Good ls → Good (Stands n ∷ ls)
  -- what a node asks for
  pub pod : (p : Place) → A.outcome p ≡ None → Guarded Known p.sels → Part whole (lines_in (running_pod p)) → Good (lines_in (running_pod p))
  pub lock : (p : Place) (k : Kind) (l : LockId) → (p.sels ≡ [] → ⊥) → lock_at m p.sels ≡ Some l → A.granted p.sels ≡ false → let n : Node = node p k Pending (note.Waiting l) no_outputs in let w : Want = want.Lock (path p.sels) l in Part whole (asking n w) → Good (asking n w)
  pub look : (p : Place) (k : Kind) (c : Memoize) (key : List ℕ) → memo_at m p.sels ≡ Some c → let n : Node = node p k Pending (note.Looking c.cache) no_outputs in let w : Want = want.LookUp (path p.sels) c.cache key c.max_age in Part whole (asking n w) → Good (asking n w)
  pub arming : (p : Place) → is_attempt p.sels ≡ false → A.armed p.sels ≡ None → let n : Node = node p kind.Suspend Running note.None no_outputs in let w : Want = want.Arming (path p.sels) in Part whole (asking n w) → Good (asking n w)
  pub timer : (p : Place) (s : Scope) (duration : List TagPart) (armed seconds : ℕ) → IsTemplateScope m A s → is_attempt p.sels ≡ false → A.armed p.sels ≡ Some armed → duration_at m p.sels ≡ Some duration → seconds_of s (Some duration) ≡ Ok (Some seconds) → let n : Node = node p kind.Suspend Running note.None no_outputs in let w : Want = want.Timer (path p.sels) (later armed seconds) in Part whole (asking n w) → Good (asking n w)
  pub resting : (p : Place) (armed : ℕ) → is_attempt p.sels ≡ false → A.armed p.sels ≡ Some armed → duration_at m p.sels ≡ None → Good (Stands (node p kind.Suspend Running note.None no_outputs) ∷ [])
  pub retry : (p : Place) (last tick : ℕ) (ls : List Line) → let n : Node = node p kind.Retry Running note.None no_outputs in let w : Want = want.Timer (path (p.sels ++ Attempt (suc last) ∷ [])) tick in AttemptStands (nodes_in whole) n last → NextDue m A n last tick → Every Trial ls → Good ls → Part whole (Stands n ∷ (ls ++ Asks w ∷ [])) → Good (Stands n ∷ (ls ++ Asks w ∷ []))
  pub save : (n : Node) (p : Sels) (o : Outputs) (c : Memoize) (s : Scope) (key : List ℕ) (ls : List Line) → IsTemplateScope m A s → said s c.key ≡ Ok key → n.path ≡ path p → n.outputs ≡ o → n.phase ≡ Succeeded → memo_at m p ≡ Some c → SucceededByOutcome A n → Good ls → Part whole (Stands n ∷ ls) → Good (Stands n ∷ Asks (want.Save (path p) c.cache key o) ∷ ls)
  -- the workflow's own lock
  pub root : (l : LockId) → m.lock ≡ Some l → A.granted [] ≡ false → let n : Node = pending_root m (note.Waiting l) in let w : Want = want.Lock (path []) l in Part whole (asking n w) → Good (asking n w)
  pub own : LockGranted m A [] → Known []
  -- a node whose lock, if it has one, is granted, and what stands below it
  pub guarded : (p : Place) (b : Made) → LockGranted m A p.sels → Headed p b → (b.own.finished ≡ true → Every Quiet (lines_in b)) → Part whole (lines_in b) → (Known p.sels → Good (lines_in b)) → Good (lines_in b)
