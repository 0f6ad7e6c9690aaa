-- One turn of the reader of a list's members.
use Rattle.std.proofs.Common.{◌≡◌, ℕ, suc, ◌+◌, ◌<◌, List, [], ◌∷◌, ◌++◌, length, get_or, drop, Ok, Err, refl, sym, ap, subst, ◌∙◌, append_assoc, add-one, drop-cons}
use Rattle.std.proofs.lemmas.List.{append-nil}
use Rattle.serde_json.specs.View.{view, items_view}
use Rattle.serde_json.specs.declared.value.Value.{Value}
use Rattle.json_fields.specs.Paths.{Path, member_of}
use Rattle.field_kinds.specs.Reading.{Read, ◌>>=◌, Kind}
use Rattle.field_kinds.specs.declared.refused.KindRefused.{KindRefused}
use Rattle.field_kinds.specs.declared.refused.KindRefused.TheVariants.{Memory, Rule}
use Rattle.field_kinds.specs.Refusing.{Refuses}
use Rattle.field_kinds.specs.Kinds.{members}

-- what was read before, and what is still read
abbrev pub with_front : {A : Type 0} → List A → Read (List A) → Read (List A)
with_front front read = read >>= λ xs. Ok (front ++ xs)

regroup : {A : Type 0} (front : List A) (x : A) (read : Read (List A)) → with_front front (read >>= λ xs. Ok (x ∷ xs)) ≡ with_front (front ++ x ∷ []) read
regroup front x (Ok xs) = ap Ok (sym (append_assoc front (x ∷ []) xs))
regroup front x (Err e) = refl

module _ {A : Type 0} (kind : Kind A) (at : Path) (list : List Value) (i : ℕ) (value : Value) (front : List A) (whole : Read (List A)) (lt : i < length list) (item : value ≡ get_or list i value) (told : with_front front (members kind at i (items_view (drop i list))) ≡ whole) where
  split : drop i list ≡ value ∷ drop (suc i) list
  split = drop-cons list i value lt ∙ ap (λ x. x ∷ drop (suc i) list) (sym item)

  told_split : with_front front (members kind at i (items_view (value ∷ drop (suc i) list))) ≡ whole
  told_split = subst (λ xs. with_front front (members kind at i (items_view xs)) ≡ whole) split told

  pub goes_on : (x : A) → kind (member_of at i) (view value) ≡ Ok x → with_front (front ++ x ∷ []) (members kind at (i + 1) (items_view (drop (i + 1) list))) ≡ whole
  goes_on x e =
      rw add-one (sym (regroup front x (members kind at (suc i) (items_view (drop (suc i) list))))
      ∙ ap (λ r. with_front front (r >>= λ x. members kind at (suc i) (items_view (drop (suc i) list)) >>= λ xs. Ok (x ∷ xs))) (sym e)
      ∙ told_split)

  pub ends : (e : KindRefused) → Refuses e (kind (member_of at i) (view value)) → Refuses e whole
  ends Memory f = tt
  ends (Rule rule field) f =
      sym told_split ∙ ap (λ r. with_front front (r >>= λ x. members kind at (suc i) (items_view (drop (suc i) list)) >>= λ xs. Ok (x ∷ xs))) f

pub is_done : {A : Type 0} (kind : Kind A) (at : Path) (list : List Value) (i : ℕ) (front : List A) (whole : Read (List A)) → drop i list ≡ [] → with_front front (members kind at i (items_view (drop i list))) ≡ whole → whole ≡ Ok front
is_done kind at list i front whole e told =
    sym told ∙ ap (λ xs. with_front front (members kind at i (items_view xs))) e ∙ ap Ok (append-nil front)
