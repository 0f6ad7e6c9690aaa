-- What is found in the tree that is kept.
use Rattle.std.proofs.Common.{◌≡◌, inl, inr, ℕ, zero, suc, ◌<◌, Bool, true, false, cond, List, [], ◌∷◌, length, get_or, Some, refl, sym, ap, ◌∙◌, subst, arith}
use Rattle.std.specs.List.{find}
use Rattle.std.proofs.lemmas.Slice.Eq.{bytes_eq-Decides}
use Rattle.tree_types.specs.declared.node.Node.{Node}
use Rattle.tree_types.proofs.Sels.{sels_same}
use Rattle.wf_manifest.specs.declared.manifest.Manifest.{Manifest}
use Rattle.wf_manifest.specs.Valid.{Valid}
use Rattle.meaning.specs.declared.lines.Line.{Line}
use Rattle.meaning.specs.Answers.{path, Answers, answers}
use Rattle.meaning.specs.Trees.{lines, nodes_in}
use Rattle.growth.specs.Growth.{Among}
use Rattle.growth.specs.Nodes.{Unlike, OnePath, ValidAreApart, OneName}
use Rattle.tree_state.specs.declared.clue.Clue.{Clue}
use Rattle.tree_state.specs.declared.clue.Clue.TheVariants as clue
use Rattle.tree_state.specs.Finding.{fits, IsFound}
use Rattle.tree_eval.specs.Whole.{Whole, lines_of, LinesAreMeant}
use Rattle.tree_incr.specs.declared.state.TreeState.TheInside.{Inside}
use Rattle.tree_incr.specs.Workflows.{Workflow}
use Rattle.tree_incr.specs.Inside.{workflow_of, IsKept}

-- ---- the lines of the tree that is kept are those that are meant

abbrev pub lines_by : Workflow → List Line
lines_by w = lines w.manifest (answers w.facts)

pub lines_kept : LinesAreMeant → (a : Inside) (w : Workflow) → IsKept a → workflow_of a ≡ w → (t : Whole) → t ≡ a.tree.value → lines_of t ≡ lines_by w
lines_kept law a w kept view t is =
    ap lines_of (is ∙ kept.tree.meant) ∙ law a.valid.value (answers a.facts) ∙ ap lines_by view

pub valid_of : (a : Inside) (w : Workflow) → IsKept a → workflow_of a ≡ w → Valid w.manifest
valid_of a w kept view = subst (λ (x : Workflow). Valid x.manifest) view kept.ready.valid

-- ---- one of a list that is told apart is the first that passes

among : {X : Type 0} (xs : List X) (x : X) (k : ℕ) → k < length xs → get_or xs k x ≡ x → Among x xs
among [] x k lt is = absurd (omega arith)
among (y ∷ ys) x zero lt is = inl is
among (y ∷ ys) x (suc k) lt is = inr (among ys x k (omega arith) is)

module _ {X : Type 0} (read : Node → X) (p : Node → Bool) (n : Node) (on : p n ≡ true) (same : (o : Node) → p o ≡ true → read o ≡ read n) where
  past : (x : Node) (ns : List Node) (b : Bool) → p x ≡ b → (read n ≡ read x → ⊥) → Some n ≡ find p ns → Some n ≡ find p (x ∷ ns)
  past x ns true is apart found = absurd (apart (sym (same x is)))
  past x ns false is apart found = found ∙ sym (ap (λ (b : Bool). cond b (Some x) (find p ns)) is)

  is_first : (ns : List Node) → Unlike read ns → Among n ns → Some n ≡ find p ns
  is_first [] apart has = absurd has
  is_first (x ∷ ns) apart (inl e) =
      ap (λ (m : Node). Some m) (sym e) ∙ sym (ap (λ (b : Bool). cond b (Some x) (find p ns)) (ap p e ∙ on))
  is_first (x ∷ ns) apart (inr later) =
      past x ns (p x) refl (apart.0 n later) (is_first ns apart.1 later)

-- ---- no two nodes have one path or name

module _ (m : Manifest) (A : Answers) (one : OnePath) (name : OneName) (apart : ValidAreApart) (valid : Valid m) where
  pub found_is_first : (c : Clue) (n : Node) → IsFound c (lines m A) n → Some n ≡ find (fits c) (nodes_in (lines m A))
  found_is_first (clue.Path p) n found =
      let ns = nodes_in (lines m A) in
      is_first (λ (k : Node). k.path) (fits (clue.Path p)) n found.0
      (λ o on. ap path (sels_same o.path.sels p.now on ∙ sym (sels_same n.path.sels p.now found.0)))
      ns (one m A) (among ns n found.1.0 found.1.1 found.1.2)
  found_is_first (clue.Name t) n found =
      let ns = nodes_in (lines m A) in
      is_first (λ (k : Node). k.name) (fits (clue.Name t)) n found.0
      (λ o on. (bytes_eq-Decides o.name t.now).0 on ∙ sym ((bytes_eq-Decides n.name t.now).0 found.0))
      ns (name m A (apart m valid)) (among ns n found.1.0 found.1.1 found.1.2)
