-- The kind of a template that is looked for by its name.
use Rattle.std.proofs.Common.{◌≡◌, ℕ, suc, ◌+◌, ◌<◌, true, false, cond, List, ◌∷◌, length, get_or, drop, drop-cons, Some, sym, ap, ◌∙◌, arith}
use Rattle.std.specs.Prelude.{bytes_eq}
use Rattle.std.specs.List.{find}
use Rattle.tree_types.specs.declared.node.Kind.{Kind}
use Rattle.wf_manifest.specs.declared.templates.Template.{Template}
use Rattle.meaning.specs.Calls.{kind_of, kind_found}

-- the kind of the first template of this name, from template i on
abbrev pub kind_from : List Template → List ℕ → ℕ → Kind
kind_from ts name i = kind_found (find (λ t. bytes_eq t.name name) (drop i ts))

kind_at : (ts : List Template) (name : List ℕ) (i : ℕ) (t : Template) → i < length ts → t ≡ get_or ts i t → kind_from ts name i ≡ kind_found (cond (bytes_eq t.name name) (Some t) (find (λ t. bytes_eq t.name name) (drop (i + 1) ts)))
kind_at ts name i t lt is =
    ap (λ xs. kind_found (find (λ t. bytes_eq t.name name) xs)) (drop-cons ts i t lt ∙ ap (λ y. y ∷ drop (suc i) ts) (sym is) ∙ ap (λ n. t ∷ drop n ts) next)
  where
    next : suc i ≡ i + 1
    next = omega arith

pub kind_here : (ts : List Template) (name : List ℕ) (i : ℕ) (t : Template) → i < length ts → t ≡ get_or ts i t → bytes_eq t.name name ≡ true → kind_of t ≡ kind_from ts name i
kind_here ts name i t lt is same =
    sym (kind_at ts name i t lt is ∙ ap (λ b. kind_found (cond b (Some t) (find (λ t. bytes_eq t.name name) (drop (i + 1) ts)))) same)

pub kind_next : (ts : List Template) (name : List ℕ) (i : ℕ) (t : Template) → i < length ts → t ≡ get_or ts i t → bytes_eq t.name name ≡ false → kind_from ts name (i + 1) ≡ kind_from ts name i
kind_next ts name i t lt is differs =
    sym (kind_at ts name i t lt is ∙ ap (λ b. kind_found (cond b (Some t) (find (λ t. bytes_eq t.name name) (drop (i + 1) ts)))) differs)
