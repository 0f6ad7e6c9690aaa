-- What speaks only of private code.
use Rattle.std.specs.Prelude.{◌≡◌, [], ◌∷◌, ◌++◌, Option, IfSome, IsTrue}
use Rattle.tree_types.specs.declared.fact.Fact.{Fact}
use Rattle.wf_manifest.specs.declared.manifest.Manifest.{Manifest}
use Rattle.meaning.specs.Answers.{Sels, Facts, answers}
use Rattle.locality.specs.Answered.{sels_of}
use Rattle.tree_walk.specs.Index.{IsReady}
use Rattle.tree_eval.specs.Whole.{Whole, whole}
use Rattle.tree_incr.specs.Workflows.{Workflow}
use Rattle.pod_laws.specs.NewPods.{IsAnswer, answered}
use Rattle.pod_laws.specs.NewLocks.{granted}
use Rattle.tree_incr.specs.NewPods.{TellsNewPods}
use Rattle.tree_incr.specs.NewLocks.{LastAddsNoLock}
use Rattle.tree_incr.specs.declared.answered.Answered.{Answered}
use Rattle.tree_incr.specs.declared.state.TreeState.TheInside.{Inside}

abbrev pub workflow_of : Inside → Workflow
workflow_of a = record { manifest = a.valid.value; facts = a.facts }

-- the tree that a manifest means over some facts
pub record IsTreeOf (t : Whole) (m : Manifest) (J : Facts) : Type 0 where
  pub meant : t ≡ whole m (answers J)

-- one fact more is recorded, of this path
pub record IsOneMore (J more : Facts) (changed : Option Sels) : Type 0 where
  pub fact : Fact
  pub added : more ≡ J ++ fact ∷ []
  pub path : changed ≡ sels_of fact

-- this many pods and locks the fact answers
pub record IsMany (f : Fact) (many : Answered) : Type 0 where
  pub pods : many.pods ≡ answered f
  pub locks : many.locks ≡ granted f

-- where there are numbers, the fact answers what the workflow asks for, and so many pods and locks
pub record IsAnsweredBy (w : Workflow) (f : Fact) (many : Option Answered) : Type 0 where
  pub counts : IfSome many (λ a. IsAnswer w.manifest w.facts f × IsMany f a)

-- the manifest may be walked over, the tree is what it means over the facts, and what is known of the last fact is right
pub record IsKept (a : Inside) : Type 0 where
  pub ready : IsReady a.valid.value a.positions.value
  pub tree : IsTreeOf a.tree.value a.valid.value a.facts
  pub new_pods : TellsNewPods a.new_pods (workflow_of a)
  pub adds_no_lock : IsTrue a.adds_no_lock → LastAddsNoLock (workflow_of a)
