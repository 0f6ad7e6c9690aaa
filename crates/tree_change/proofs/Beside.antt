-- What stands beside the way down to a fact makes what it made.
use Rattle.std.proofs.Common.{◌≡◌, ℕ, zero, suc, List, [], ◌∷◌, ◌++◌, append_assoc, Some, sym, ap, ◌∙◌, subst, All}
use Rattle.std.specs.Prelude.{slice_get}
use Rattle.std.proofs.lemmas.List.Elements.{All-head, All-tail}
use Rattle.tree_types.specs.declared.path.Sel.{Sel}
use Rattle.wf_manifest.specs.declared.calls.Call.{Call}
use Rattle.scopes.specs.Substitution.{Scope}
use Rattle.meaning.specs.declared.lines.Place.{Place}
use Rattle.meaning.specs.Answers.{Sels, Answers}
use Rattle.meaning.specs.Lines.{Made, row_in}
use Rattle.meaning.proofs.Flattening.{row_in_row}
use Rattle.meaning.specs.Steps.{Caller, groups_from, steps_made}
use Rattle.locality.specs.Answered.{SameBut}
use Rattle.wf_manifest.specs.declared.templates.OutputDecl.{OutputDecl}

-- ---- on the way down

-- what is the same but at a path is so by the path as a place further down has it
pub same_below : (A B : Answers) (at below : Sels) (s : Sel) (rest others : Sels) → SameBut A B (at ++ rest) → rest ≡ s ∷ others → below ≡ at ++ s ∷ [] → SameBut A B (below ++ others)
same_below A B at below s rest others same is child =
    subst (λ (p : Sels). SameBut A B p)
    (ap (λ (r : Sels). at ++ r) is ∙ sym (append_assoc at (s ∷ []) others) ∙ ap (λ (p : Sels). p ++ others) (sym child))
    same

-- ---- what stood below a node

pub groups_were : (called : Caller) (place : Place) (scope : Scope) (declared : List OutputDecl) (gs : List (List Call)) (old : Made) → old ≡ steps_made called place scope declared gs →
    row_in old.parts ≡ (groups_from called place 0 scope gs).all
groups_were called place scope declared gs old is = ap (λ (b : Made). row_in b.parts) is ∙ row_in_row (groups_from called place 0 scope gs).all

-- ---- positions

pub all_at : {X : Type 0} (P : X → Type 0) (xs : List X) (i : ℕ) (x : X) → All P xs → slice_get xs i ≡ Some x → P x
all_at P [] i x all at = absurd (cc)
all_at P (y ∷ ys) zero x all at = let same : y ≡ x = cc in subst P same (All-head P y ys all)
all_at P (y ∷ ys) (suc i) x all at = all_at P ys i x (All-tail P y ys all) at
