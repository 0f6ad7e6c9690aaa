-- Nothing that a fulfilled node guards asks for a pod: each path that guards it has a node that is not fulfilled.
use Rattle.std.proofs.Common.{◌≡◌, refl, sym, ◌∙◌, ap, subst}
use Rattle.std.proofs.Math.Logic.{inl, inr}
use Rattle.std.specs.Prelude.{List, [], ◌∷◌, Bool, true, false}
use Rattle.tree_types.specs.declared.path.Path.{Path}
use Rattle.tree_types.specs.declared.node.Node.{Node}
use Rattle.tree_types.specs.declared.want.Want.{Want}
use Rattle.tree_types.specs.declared.want.Want.TheVariants as want
use Rattle.tree_types.specs.Phases.{fulfilled}
use Rattle.wf_manifest.specs.declared.manifest.Manifest.{Manifest}
use Rattle.meaning.specs.declared.lines.Place.{Place}
use Rattle.meaning.specs.declared.lines.Line.{Line}
use Rattle.meaning.specs.declared.lines.Line.TheVariants.{Stands, Asks, MayBegin}
use Rattle.meaning.specs.Answers.{path, Sels, Answers}
use Rattle.meaning.specs.Trees.{lines, nodes_in, wants_in}
use Rattle.meaning.specs.Lines.{Made, lines_in}
use Rattle.growth.specs.Growth.{Among, IsSave}
use Rattle.growth.specs.Nodes.{Unlike}
use Rattle.growth.proofs.Lines.{Every, every_append, every_map, Any, IsNode}
use Rattle.growth.proofs.Keeping.{not_both}
use Rattle.growth.proofs.OnePath.{one_path}
use Rattle.growth.proofs.GrowingTrees.{among_nodes}
use Rattle.askings.specs.Locks.{OverAsksNot}
use Rattle.askings.proofs.Walks.{Guarded}
use Rattle.askings.proofs.Tours.{Part, Quiet, Headed, Tour}
use Rattle.askings.proofs.TourCalls.{tour}
use Rattle.askings.proofs.HasNode.{has_node}

module _ (m : Manifest) (A : Answers) (whole : List Line) where
  -- a node of this path stands there that is not fulfilled
  abbrev pub OpenAt : Sels → Type 0
  OpenAt [] = Unit {0}
  OpenAt (s ∷ q) = (n : Node) × Any (IsNode n) whole × (n.path.sels ≡ s ∷ q) × (fulfilled n.phase ≡ false)

  open_at : (q : Sels) (n : Node) → Any (IsNode n) whole → n.path.sels ≡ q → fulfilled n.phase ≡ false → OpenAt q
  open_at [] n i e f = tt
  open_at (s ∷ q) n i e f = (n, i, e, f)

  abbrev pub Under : Want → Type 0
  Under (want.Pod p) = Guarded OpenAt p.sels
  Under _ = Unit {0}

  abbrev pub Kept : Line → Type 0
  Kept (Asks w) = Under w
  Kept _ = Unit {0}

  save_under : (w : Want) → IsSave w → Under w
  save_under (want.Save p cache key outputs) s = tt
  save_under (want.Pod p) s = absurd s
  save_under (want.Lock p l) s = tt
  save_under (want.LookUp p cache key age) s = tt
  save_under (want.Arming p) s = tt
  save_under (want.Timer p tick) s = tt

  quiet_kept : (l : Line) → Quiet l → Kept l
  quiet_kept (Stands n) h = tt
  quiet_kept (MayBegin p) h = tt
  quiet_kept (Asks w) h = save_under w h

  -- below a node that is fulfilled no pod is asked for; one that is not is open
  guarded_kept : (p : Place) (b : Made) → Headed p b → (b.own.finished ≡ true → Every Quiet (lines_in b)) → Part whole (lines_in b) → (OpenAt p.sels → Every Kept (lines_in b)) → (x : Bool) → fulfilled b.own.node.phase ≡ x → Every Kept (lines_in b)
  guarded_kept p b t q f h true e = every_map Quiet Kept (lines_in b) quiet_kept (q (t.over ∙ e))
  guarded_kept p b t q f h false e =
      h (open_at p.sels b.own.node (f b.own.node (inl refl)) (ap (λ (x : Path). x.sels) t.at.path) e)

  pub opens : Tour m A whole
  opens = record {
    Known = OpenAt;
    Good = λ ls. Every Kept ls;
    none = tt;
    both = λ ls ks g h. every_append Kept ls ks g h;
    begins = λ p. (tt, tt);
    stands = λ n ls i u g. (tt, g);
    pod = λ p e g f. (tt, (g, tt));
    lock = λ p k l x e u f. (tt, (tt, tt));
    look = λ p k c key e f. (tt, (tt, tt));
    arming = λ p a e f. (tt, (tt, tt));
    timer = λ p sc duration armed seconds own a e d r f. (tt, (tt, tt));
    resting = λ p armed a e d. (tt, tt);
    retry = λ p last tick ls x d t g f. (tt, every_append Kept ls (Asks (want.Timer _ tick) ∷ []) g (tt, tt));
    save = λ n p o c sc key ls own r e x s y z g f. (tt, (tt, g));
    root = λ l e u f. (tt, (tt, tt));
    own = λ e. tt;
    guarded = λ p b e t q f h. guarded_kept p b t q f h (fulfilled b.own.node.phase) refl;
  }

abbrev KeptIn : Manifest → Answers → List Line → Line → Type 0
KeptIn m A whole l = Kept m A whole l

-- two nodes of one path are the same
pub same_node : (ns : List Node) → Unlike (λ (n : Node). n.path) ns → (n o : Node) → Among n ns → Among o ns → n.path ≡ o.path → n ≡ o
same_node [] u n o i j e = absurd i
same_node (k ∷ ns) u n o (inl a) (inl b) e = sym a ∙ b
same_node (k ∷ ns) u n o (inl a) (inr j) e = absurd (u.0 o j (sym e ∙ ap (λ (x : Node). x.path) (sym a)))
same_node (k ∷ ns) u n o (inr i) (inl b) e = absurd (u.0 n i (e ∙ ap (λ (x : Node). x.path) (sym b)))
same_node (k ∷ ns) u n o (inr i) (inr j) e = same_node ns u.1 n o i j e

module _ (m : Manifest) (A : Answers) where
  kept_of : (w : Want) (ls : List Line) → Every (KeptIn m A (lines m A)) ls → Among w (wants_in ls) → Under m A (lines m A) w
  kept_of w [] h i = absurd i
  kept_of w (Stands n ∷ ls) h i = kept_of w ls h.1 i
  kept_of w (MayBegin p ∷ ls) h i = kept_of w ls h.1 i
  kept_of w (Asks v ∷ ls) h (inl e) = subst (Under m A (lines m A)) e h.0
  kept_of w (Asks v ∷ ls) h (inr i) = kept_of w ls h.1 i

  under : (w : Want) → Among w (wants_in (lines m A)) → Under m A (lines m A) w
  unfolding opens
  under w i = kept_of w (lines m A) (tour m A (opens m A (lines m A))) i

pub over_asks_not : OverAsksNot
over_asks_not m A p [] over g i = let h = has_node m A (want.Pod p) i in absurd (cc (over h.0 h.1, ap fulfilled h.2.2))
over_asks_not m A p (s ∷ q) over g i =
    let o = under m A (want.Pod p) i (s ∷ q) g in
    let same : over.0 ≡ o.0 = same_node (nodes_in (lines m A)) (one_path m A) over.0 o.0 over.1 (among_nodes o.0 (lines m A) o.1) (ap path (over.2 ∙ sym o.2)) in
    not_both (fulfilled o.0.phase) (ap (λ (n : Node). fulfilled n.phase) (sym same) ∙ over.3) o.3
