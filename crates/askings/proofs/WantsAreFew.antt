-- No more is asked for than there are nodes: each node asks for one thing at most.
use Rattle.std.proofs.Common.{◌≡◌, ◌+◌, ◌≤◌, arith, length}
use Rattle.std.specs.Prelude.{suc, List, [], ◌∷◌, ◌++◌}
use Rattle.tree_types.specs.declared.path.Sel.TheVariants.{Attempt}
use Rattle.tree_types.specs.declared.phase.Phase.TheVariants.{Running}
use Rattle.tree_types.specs.declared.node.Kind.TheVariants as kind
use Rattle.tree_types.specs.declared.node.Note.TheVariants as note
use Rattle.tree_types.specs.declared.node.Node.{Node}
use Rattle.tree_types.specs.declared.want.Want.{Want}
use Rattle.tree_types.specs.declared.want.Want.TheVariants as want
use Rattle.wf_manifest.specs.declared.manifest.Manifest.{Manifest}
use Rattle.meaning.specs.declared.lines.Line.{Line}
use Rattle.meaning.specs.declared.lines.Line.TheVariants.{Stands, Asks, MayBegin}
use Rattle.meaning.specs.Answers.{path, Answers}
use Rattle.meaning.specs.Lines.{no_outputs, node}
use Rattle.meaning.specs.Trees.{lines, nodes_in, wants_in}
use Rattle.askings.specs.ByTemplate.{WantsAreFew}
use Rattle.askings.proofs.Tours.{Tour}
use Rattle.askings.proofs.TourCalls.{tour}

nodes_of_both : (ls ks : List Line) → length (nodes_in (ls ++ ks)) ≡ length (nodes_in ls) + length (nodes_in ks)
nodes_of_both [] ks = omega arith
nodes_of_both (Stands n ∷ ls) ks = let h = nodes_of_both ls ks in omega arith
nodes_of_both (Asks w ∷ ls) ks = nodes_of_both ls ks
nodes_of_both (MayBegin p ∷ ls) ks = nodes_of_both ls ks

wants_of_both : (ls ks : List Line) → length (wants_in (ls ++ ks)) ≡ length (wants_in ls) + length (wants_in ks)
wants_of_both [] ks = omega arith
wants_of_both (Stands n ∷ ls) ks = wants_of_both ls ks
wants_of_both (Asks w ∷ ls) ks = let h = wants_of_both ls ks in omega arith
wants_of_both (MayBegin p ∷ ls) ks = wants_of_both ls ks

abbrev AreFew : List Line → Type 0
AreFew ls = length (wants_in ls) ≤ length (nodes_in ls)

both_few : (ls ks : List Line) → AreFew ls → AreFew ks → AreFew (ls ++ ks)
both_few ls ks g h = let n = nodes_of_both ls ks in let w = wants_of_both ls ks in omega arith

-- a node with one thing more behind its lines
one_behind : (n : Node) (w : Want) (ls : List Line) → AreFew ls → AreFew (Stands n ∷ (ls ++ Asks w ∷ []))
one_behind n w ls g = let x = nodes_of_both ls (Asks w ∷ []) in let y = wants_of_both ls (Asks w ∷ []) in omega arith

one_each : (n : Node) (w : Want) (ls : List Line) → AreFew ls → AreFew (Stands n ∷ Asks w ∷ ls)
one_each n w ls g = omega arith

more_nodes : (n : Node) (ls : List Line) → AreFew ls → AreFew (Stands n ∷ ls)
more_nodes n ls g = omega arith

few : (m : Manifest) (A : Answers) (whole : List Line) → Tour m A whole
few m A whole = record {
  Known = λ q. Unit {0};
  Good = AreFew;
  none = omega arith;
  both = both_few;
  begins = λ p. omega arith;
  stands = λ n ls i u g. more_nodes n ls g;
  pod = λ p e g f. omega arith;
  lock = λ p k l x e u f. omega arith;
  look = λ p k c key e f. omega arith;
  arming = λ p a e f. omega arith;
  timer = λ p sc duration armed seconds own a e d r f. omega arith;
  resting = λ p armed a e d. omega arith;
  retry = λ p last tick ls x d t g f. one_behind (node p kind.Retry Running note.None no_outputs) (want.Timer (path (p.sels ++ Attempt (suc last) ∷ [])) tick) ls g;
  save = λ n p o c sc key ls own r e x s y z g f. one_each n (want.Save (path p) c.cache key o) ls g;
  root = λ l e u f. omega arith;
  own = λ e. tt;
  guarded = λ p b e t q f h. h tt;
}

pub wants_are_few : WantsAreFew
unfolding few
wants_are_few m A = tour m A (few m A (lines m A))
