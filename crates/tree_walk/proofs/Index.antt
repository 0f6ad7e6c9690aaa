-- One turn over the templates whose positions are kept.
use Rattle.std.proofs.Common.{◌≡◌, ℕ, suc, Bool, true, false, cond, List, ◌∷◌, drop, drop-cons, sym, ◌∙◌, ap, subst}
use Rattle.std.specs.Prelude.{Option, Some, slice_get, option_and_then, bytes_eq, ◌==◌}
use Rattle.std.specs.List.{find}
use Rattle.std.specs.Cmp.Lexicographic.{pointwise}
use Rattle.std.specs.HashMap.{get}
use Rattle.std.proofs.lemmas.Option.{slice_get_within, get_or_from_slice_get}
use Rattle.wf_manifest.specs.declared.templates.Template.{Template}
use Rattle.tree_walk.specs.Index.{Index, template_at, IsIndex}

-- what stands at a position is the first of what stands from there on
pub drop_at : {X : Type 0} (xs : List X) (j : ℕ) (x : X) → slice_get xs j ≡ Some x → drop j xs ≡ x ∷ drop (suc j) xs
drop_at xs j x e =
    drop-cons xs j x (slice_get_within xs j x e) ∙ ap (λ y. y ∷ drop (suc j) xs) (get_or_from_slice_get xs j x x e)

chosen : (ts : List Template) (j : ℕ) (t : Template) (o : Option ℕ) (f : Option Template) → slice_get ts j ≡ Some t → option_and_then (slice_get ts) o ≡ f → (b : Bool) → option_and_then (slice_get ts) (cond b (Some j) o) ≡ cond b (Some t) f
chosen ts j t o f here rest true = here
chosen ts j t o f here rest false = rest

-- the template at this position is found before those behind it
pub index_more : (old new : Index) (ts : List Template) (i j : ℕ) (t : Template) (name : List ℕ) → suc j ≡ i → slice_get ts j ≡ Some t → name ≡ t.name → ((q : List ℕ) → get (pointwise ◌==◌) new q ≡ cond (pointwise ◌==◌ name q) (Some j) (get (pointwise ◌==◌) old q)) → IsIndex old ts i → IsIndex new ts j
index_more old new ts i j t name next here named updates index q =
    let rest : template_at old ts q ≡ find (λ t. bytes_eq t.name q) (drop (suc j) ts) = subst (λ (k : ℕ). template_at old ts q ≡ find (λ t. bytes_eq t.name q) (drop k ts)) (sym next) (index q) in
    ap (λ o. option_and_then (slice_get ts) o) (updates q) ∙ ap (λ (n : List ℕ). option_and_then (slice_get ts) (cond (pointwise ◌==◌ n q) (Some j) (get (pointwise ◌==◌) old q))) named ∙ chosen ts j t (get (pointwise ◌==◌) old q) (find (λ t. bytes_eq t.name q) (drop (suc j) ts)) here rest (bytes_eq t.name q) ∙ ap (λ xs. find (λ t. bytes_eq t.name q) xs) (sym (drop_at ts j t here))
