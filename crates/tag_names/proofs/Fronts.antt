-- Fronts of texts, and their first dots.
use Rattle.std.proofs.Common.{◌≡◌, ◌≢◌, ◌⊎◌, ℕ, suc, ◌<◌, ◌==◌, Bool, true, false, not, ◌||◌, cond, List, [], ◌∷◌, ◌++◌, length, get_or, drop, Option, Some, None, option_map, MatchOption, Bor, refl, sym, ap, ◌∙◌, inl, inr, arith, nat_eq}
use Rattle.std.specs.List.{starts_with, list_any}
use Rattle.std.specs.Str.Pattern.{FindsTextPrefix, StripsPrefix}
use Rattle.std.proofs.lemmas.Slice.Eq.{starts_is}
use Rattle.std.proofs.lemmas.Bool.{cases_Bool, eqb-true}
use Rattle.std.proofs.lemmas.Bool.Decides.{Decides-eqb}
use Rattle.tag_names.specs.Tags.{behind, longer, at_dot}
use Rattle.tag_names.specs.Spelling.{has_no_dot}

pub starts_so : (text front : List ℕ) → starts_with nat_eq text front ≡ true → text ≡ front ++ drop (length front) text
starts_so text front = (starts_is Decides-eqb text front (starts_with nat_eq text front) refl).0

starts_yes : (text front rest : List ℕ) → text ≡ front ++ rest → starts_with nat_eq text front ≡ true
starts_yes text front rest = (starts_is Decides-eqb text front (starts_with nat_eq text front) refl).1 rest

-- what the code strips
pub stripped : (front text : List ℕ) (r : Option (Bor (List ℕ))) → MatchOption r (FindsTextPrefix front text None) (λ x. StripsPrefix (FindsTextPrefix front) text x.now) → MatchOption r (behind front text ≡ None) (λ rest. behind front text ≡ Some rest.now)
stripped front text None lacks =
    elim (cases_Bool (starts_with nat_eq text front)) [
      | inl so ↦ absurd (lacks (drop (length front) text) (starts_so text front so))
      | inr otherwise ↦ ap (λ b. cond b (Some (drop (length front) text)) None) otherwise
    ]
stripped front text (Some x) (n, (long, split, at), is, all) =
    ap (λ b. cond b (Some (drop (length front) text)) None) (starts_yes text front (drop n text) split)
    ∙ ap (λ k. Some (drop k text)) (sym long)
    ∙ ap (λ t. Some t) (sym is)

-- ---- the first dot

dot_here : (b : ℕ) (bs : List ℕ) → (b == 46) ≡ true → at_dot (b ∷ bs) ≡ Some ([], bs)
dot_here b bs so = ap (λ t. cond t (Some ([], bs)) (option_map (longer b) (at_dot bs))) so

dot_later : (b : ℕ) (bs : List ℕ) → (b == 46) ≡ false → at_dot (b ∷ bs) ≡ option_map (longer b) (at_dot bs)
dot_later b bs otherwise = ap (λ t. cond t (Some ([], bs)) (option_map (longer b) (at_dot bs))) otherwise

no_dot : (b : ℕ) → b ≢ 46 → (b == 46) ≡ false
no_dot b differs =
    elim (cases_Bool (b == 46)) [
      | inl so ↦ absurd (differs (eqb-true b 46 so))
      | inr otherwise ↦ otherwise
    ]

dotless : (text : List ℕ) → ((i : ℕ) → i < length text → get_or text i 0 ≢ 46) → at_dot text ≡ None
dotless [] lacks = refl
dotless (b ∷ bs) lacks =
    dot_later b bs (no_dot b (lacks 0 (omega arith)))
    ∙ ap (option_map (longer b)) (dotless bs (λ i below. lacks (suc i) (omega arith)))

first_dot : (front back : List ℕ) → ((i : ℕ) → i < length front → get_or front i 0 ≢ 46) → at_dot (front ++ (46 ∷ back)) ≡ Some (front, back)
first_dot [] back lacks = dot_here 46 back refl
first_dot (b ∷ bs) back lacks =
    dot_later b (bs ++ (46 ∷ back)) (no_dot b (lacks 0 (omega arith)))
    ∙ ap (option_map (longer b)) (first_dot bs back (λ i below. lacks (suc i) (omega arith)))

-- where a text is split at its first dot
pub split_at_dot : (text : List ℕ) (r : Option (Bor (List ℕ) × Bor (List ℕ))) → MatchOption r ((i : ℕ) → i < length text → get_or text i 0 ≢ 46) (λ x. (text ≡ x.0.now ++ (46 ∷ x.1.now)) × ((i : ℕ) → i < length x.0.now → get_or x.0.now i 0 ≢ 46)) → MatchOption r (at_dot text ≡ None) (λ halves. at_dot text ≡ Some (halves.0.now, halves.1.now))
split_at_dot text None lacks = dotless text lacks
split_at_dot text (Some x) (is, lacks) = ap at_dot is ∙ first_dot x.0.now x.1.now lacks

-- a text has none, or stands around its first one
abbrev pub Halves : List ℕ → Type 0
Halves text = (at_dot text ≡ None) ⊎ ((front : List ℕ) × (back : List ℕ) × (at_dot text ≡ Some (front, back)) × (text ≡ front ++ (46 ∷ back)))

pub halves : (text : List ℕ) → Halves text
halves [] = inl refl
halves (b ∷ bs) =
    elim (cases_Bool (b == 46)) [
      | inl so ↦ inr ([], bs, dot_here b bs so, ap (λ n. n ∷ bs) (eqb-true b 46 so))
      | inr otherwise ↦ later b bs otherwise (halves bs)
    ]
  where
    later : (b : ℕ) (bs : List ℕ) → (b == 46) ≡ false → Halves bs → Halves (b ∷ bs)
    later b bs otherwise (inl none) = inl (dot_later b bs otherwise ∙ ap (option_map (longer b)) none)
    later b bs otherwise (inr (front, back, some, is)) =
        inr (b ∷ front, back, dot_later b bs otherwise ∙ ap (option_map (longer b)) some, ap (λ t. b ∷ t) is)

-- the first dot stands behind a name without one
pub dot_behind : (name back : List ℕ) → has_no_dot name ≡ true → at_dot (name ++ (46 ∷ back)) ≡ Some (name, back)
dot_behind [] back lacks = dot_here 46 back refl
dot_behind (b ∷ bs) back lacks =
    let apart = split (b == 46) (list_any (λ n. n == 46) bs) lacks in
    dot_later b (bs ++ (46 ∷ back)) apart.0 ∙ ap (option_map (longer b)) (dot_behind bs back apart.1)
  where
    split : (here there : Bool) → not (here || there) ≡ true → (here ≡ false) × (not there ≡ true)
    split true there e = absurd cc
    split false there e = (refl, e)
