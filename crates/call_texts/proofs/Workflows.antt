-- The scopes of a workflow as a whole.
use Rattle.std.proofs.Common.{◌≡◌, ℕ, ◌+◌, List, [], ◌∷◌, ◌++◌, map, drop, Some, refl, ap, sym, ◌∙◌, append_assoc}
use Rattle.std.specs.Prelude.{slice_get}
use Rattle.tree_types.specs.declared.outcome.Param.{Param}
use Rattle.wf_manifest.specs.declared.calls.Argument.{Argument}
use Rattle.wf_manifest.specs.declared.manifest.Manifest.{Manifest}
use Rattle.scopes.specs.Substitution.{Found, Scope, value_in, workflow_tags}
use Rattle.scopes.specs.Values.{HasValuesOf}
use Rattle.scopes.proofs.Said.{said_alike}
use Rattle.scopes.proofs.ValueIn.{drop_place}
use Rattle.meaning.specs.Trees.{found_or_empty, workflow_param}
use Rattle.call_texts.specs.Inside.Params.{param_in}

-- in a scope of the workflow's name alone the arguments say what the workflow's parameters are
pub params_alike : (m : Manifest) (scope : Scope) (given : List Argument) → HasValuesOf scope (workflow_tags m.name []) → map (param_in scope) given ≡ map (workflow_param m) given
params_alike m scope [] alike = refl
params_alike m scope (a ∷ given) alike =
    let one : param_in scope a ≡ workflow_param m a = ap (λ (found : Found (List ℕ)). record { name = a.name; value = found_or_empty found }) (said_alike scope (workflow_tags m.name []) a.value alike) in
    ap (λ (p : Param). p ∷ map (param_in scope) given) one ∙ ap (λ (ps : List Param). workflow_param m a ∷ ps) (params_alike m scope given alike)

-- in tags of one list of parameters or of an equal one
pub alone : (m : Manifest) (scope tags : Scope) (none : List Param) → scope ≡ tags → none ≡ [] → HasValuesOf tags (workflow_tags m.name none) → HasValuesOf scope (workflow_tags m.name [])
alone m scope tags none is empty alike q = ap (λ (s : Scope). value_in s q) is ∙ alike q ∙ ap (λ (ps : List Param). value_in (workflow_tags m.name ps) q) empty

-- one argument more
pub mapped_more : {A B : Type 0} (f : A → B) (xs : List A) (i : ℕ) (x : A) (y : B) (found new total : List B) → slice_get xs i ≡ Some x → y ≡ f x → new ≡ found ++ y ∷ []
    → found ++ map f (drop i xs) ≡ total → new ++ map f (drop (i + 1) xs) ≡ total
mapped_more {A = A} {B = B} f xs i x y found new total at is more so_far =
    ap (λ (ys : List B). ys ++ map f (drop (i + 1) xs)) (more ∙ ap (λ (z : B). found ++ z ∷ []) is)
    ∙ append_assoc found (f x ∷ []) (map f (drop (i + 1) xs))
    ∙ ap (λ (ys : List A). found ++ map f ys) (sym (drop_place xs i x at))
    ∙ so_far

-- one tag, put into none
pub one_tag : (tag tag_said value value_said : List ℕ) (tags none : Scope) → tag_said ≡ tag → value_said ≡ value → none ≡ [] → HasValuesOf tags ((tag_said, value_said) ∷ none) → HasValuesOf tags ((tag, value) ∷ [])
one_tag tag tag_said value value_said tags none one two empty has q =
    has q
    ∙ ap (λ (s : Scope). value_in ((tag_said, value_said) ∷ s) q) empty
    ∙ ap (λ (t : List ℕ). value_in ((t, value_said) ∷ []) q) one
    ∙ ap (λ (v : List ℕ). value_in ((tag, v) ∷ []) q) two
