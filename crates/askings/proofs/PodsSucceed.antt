-- A pod's node that Succeeded, and was answered by no cache, has an outcome that Succeeded.
use Rattle.std.proofs.Common.{subst}
use Rattle.std.proofs.Math.Logic.{inl, inr}
use Rattle.std.specs.Prelude.{List, [], ◌∷◌}
use Rattle.tree_types.specs.declared.node.Node.{Node}
use Rattle.tree_types.specs.declared.want.Want.TheVariants as want
use Rattle.wf_manifest.specs.declared.manifest.Manifest.{Manifest}
use Rattle.meaning.specs.declared.lines.Line.{Line}
use Rattle.meaning.specs.declared.lines.Line.TheVariants.{Stands, Asks, MayBegin}
use Rattle.meaning.specs.Answers.{Answers}
use Rattle.meaning.specs.Trees.{lines, nodes_in}
use Rattle.growth.specs.Growth.{Among}
use Rattle.growth.proofs.Lines.{Every, every_append}
use Rattle.askings.specs.Ends.{SucceededByOutcome, PodsSucceed}
use Rattle.askings.proofs.Tours.{Tour}
use Rattle.askings.proofs.TourCalls.{tour}

module _ (A : Answers) where
  abbrev Succeeds : Line → Type 0
  Succeeds (Stands n) = SucceededByOutcome A n
  Succeeds _ = Unit {0}

  succeeds : (m : Manifest) (whole : List Line) → Tour m A whole
  succeeds m whole = record {
    Known = λ q. Unit {0};
    Good = λ ls. Every Succeeds ls;
    none = tt;
    both = λ ls ks g h. every_append Succeeds ls ks g h;
    begins = λ p. (tt, tt);
    stands = λ n ls i u g. (i.succeeded, g);
    pod = λ p e g f. ((λ k r. absurd (cc r)), (tt, tt));
    lock = λ p k l x e u f. ((λ y r. absurd (cc r)), (tt, tt));
    look = λ p k c key e f. ((λ y r. absurd (cc r)), (tt, tt));
    arming = λ p a e f. ((λ k r. absurd (cc k)), (tt, tt));
    timer = λ p sc duration armed seconds own a e d r f. ((λ k r. absurd (cc k)), (tt, tt));
    resting = λ p armed a e d. ((λ k r. absurd (cc k)), tt);
    retry = λ p last tick ls x d t g f. ((λ y r. absurd (cc y)), every_append Succeeds ls (Asks (want.Timer _ tick) ∷ []) g (tt, tt));
    save = λ n p o c sc key ls own r e x s y z g f. (z, (tt, g));
    root = λ l e u f. ((λ k r. absurd (cc r)), (tt, tt));
    own = λ e. tt;
    guarded = λ p b e t q f h. h tt;
  }

  succeeds_of : (n : Node) (ls : List Line) → Every Succeeds ls → Among n (nodes_in ls) → SucceededByOutcome A n
  succeeds_of n [] h i = absurd i
  succeeds_of n (Asks w ∷ ls) h i = succeeds_of n ls h.1 i
  succeeds_of n (MayBegin p ∷ ls) h i = succeeds_of n ls h.1 i
  succeeds_of n (Stands o ∷ ls) h (inr i) = succeeds_of n ls h.1 i
  succeeds_of n (Stands o ∷ ls) h (inl e) = subst (SucceededByOutcome A) e h.0

pub pods_succeed : PodsSucceed
unfolding succeeds
pods_succeed m A n i = succeeds_of A n (lines m A) (tour m A (succeeds A m (lines m A))) i
