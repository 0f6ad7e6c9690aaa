-- From what is said of a state below to what is said of the one above.
use Rattle.std.proofs.Common.{◌≡◌, [], ◌∷◌, ◌++◌, append_assoc, sym, ap, ◌∙◌, subst, Option, Some, None, Result, Ok, Err}
use Rattle.std.specs.Prelude.{IsTrue}
use Rattle.base_types.specs.declared.memory.Memory.{Memory}
use Rattle.tree_types.specs.declared.path.Sel.{Sel}
use Rattle.wf_manifest.specs.declared.templates.Retry.{Retry}
use Rattle.wf_manifest.specs.Valid.{limit_fits, retry_fits}
use Rattle.meaning.specs.Answers.{Sels}
use Rattle.meaning.specs.Lines.{Made}
use Rattle.tree_change.specs.Changes.{IfGiven}

-- what is said for each i gives what is to be said
pub given_by : {I : Type 0} (r : Result (Option Made) Memory) (P : I → Made → Type 0) (Q : Made → Type 0) → ((i : I) → IfGiven r (P i)) → ((z : Made) → ((i : I) → P i z) → Q z) → IfGiven r Q
given_by (Ok (Some z)) P Q said by = by z said
given_by (Ok None) P Q said by = tt
given_by (Err e) P Q said by = tt

-- what is said of a state that there is
pub given_some : (o : Option Made) (z : Made) (P : Made → Type 0) → o ≡ Some z → IfGiven (Ok o) P → P z
given_some o z P is said = subst (λ (x : Option Made). IfGiven (Ok x) P) is said

-- ---- paths

-- what a path has behind a place, by its first selector
pub begins : (changed at : Sels) (s t : Sel) (rest others : Sels) → changed ≡ at ++ rest → rest ≡ s ∷ others → s ≡ t → changed ≡ at ++ t ∷ others
begins changed at s t rest others way is first = way ∙ ap (λ (r : Sels). at ++ r) is ∙ ap (λ (u : Sel). at ++ u ∷ others) first

-- and behind the place one selector further down
pub further : (changed at : Sels) (s : Sel) (others : Sels) → changed ≡ at ++ s ∷ others → changed ≡ (at ++ s ∷ []) ++ others
further changed at s others way = way ∙ sym (append_assoc at (s ∷ []) others)

-- ---- what is found

pub some_same : {X : Type 0} (x y : X) (o : Option X) → o ≡ Some x → o ≡ Some y → x ≡ y
some_same x y o found is = cc

-- ---- retries are within their number

pub limit_of : (o : Option Retry) (r : Retry) → IsTrue (retry_fits o) → o ≡ Some r → IsTrue (limit_fits r.limit)
limit_of o r fits is = subst (λ (x : Option Retry). IsTrue (retry_fits x)) is fits
