-- A journal stays one where a fact of a new kind or path is added.
use Rattle.std.proofs.Common.{◌≡◌, refl, ◌∙◌, ap, sym, List, [], ◌∷◌, ◌++◌, Bool, false, IsTrue, subst}
use Rattle.std.specs.Prelude.{not, ◌&&◌, ◌||◌, Result, Ok, Err, OnOk, OnErr}
use Rattle.std.proofs.lemmas.List.Folds.{list_any-append}
use Rattle.std.proofs.Math.Bool.{or-false}
use Rattle.std.proofs.lemmas.Bool.{or_parts}
use Rattle.tree_types.specs.declared.fact.Fact.{Fact}
use Rattle.tree_types.specs.Journals.{is_alike, knows, comes_again, is_journal}

comes_again-push : (f x : Fact) (fs : List Fact) → is_alike f x ≡ false → comes_again f (fs ++ x ∷ []) ≡ comes_again f fs
comes_again-push f x fs apart =
    list_any-append (is_alike f) fs (x ∷ []) ∙ ap (λ b. comes_again f fs || (b || false)) apart ∙ or-false (comes_again f fs)

pub is_journal-push : (fs : List Fact) (x : Fact) → knows fs x ≡ false → is_journal (fs ++ x ∷ []) ≡ is_journal fs
is_journal-push [] x new = refl
is_journal-push (f ∷ fs) x new =
    let parts = or_parts (is_alike f x) (knows fs x) new in
    ap (λ b. not b && is_journal (fs ++ x ∷ [])) (comes_again-push f x fs parts.0)
    ∙ ap (λ b. not (comes_again f fs) && b) (is_journal-push fs x parts.1)

-- whatever the push answered, what is there now is a journal
pub is_journal-after_push : {E : Type 0} (r : Result (Unit {0}) E) (old new : List Fact) (x : Fact) → IsTrue (is_journal old) → knows old x ≡ false → OnOk r (new ≡ old ++ x ∷ []) → OnErr r (new ≡ old) → IsTrue (is_journal new)
is_journal-after_push (Ok u) old new x held fresh pushed kept =
    subst (λ (b : Bool). IsTrue b) (sym (ap is_journal pushed ∙ is_journal-push old x fresh)) held
is_journal-after_push (Err e) old new x held fresh pushed kept = subst (λ (fs : List Fact). IsTrue (is_journal fs)) (sym kept) held
