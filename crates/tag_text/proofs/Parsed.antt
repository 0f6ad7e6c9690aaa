-- Reading a text tag by tag, without the count of tags.
use Rattle.std.proofs.Common.{◌≡◌, ℕ, zero, suc, ◌≤◌, ◌<◌, List, [], ◌∷◌, ◌++◌, length, Option, Some, None, Ok, Err, refl, sym, ap, ◌∙◌, inl, inr, append_assoc, length-append, arith}
use Rattle.tag_text.specs.declared.part.Part.{Part}
use Rattle.tag_text.specs.declared.refused.TagRefused.TheVariants.{Unclosed}
use Rattle.tag_text.specs.Parts.{Parsed, opening, closing, cut, trimmed, as_it_stands, tag_named, followed, tag_then, closed, opened, parsed_within, parsed}
use Rattle.tag_text.proofs.Cut.{cuts}

-- what stands behind a mark is shorter
pub cut_shorter : (m : ℕ) (ms text : List ℕ) (p : List ℕ × List ℕ) → cut (m ∷ ms) text ≡ Some p → length p.1 < length text
cut_shorter m ms text p e =
    elim (cuts m ms text) [
      | inl uncut ↦ absurd (let h = uncut.none in cc)
      | inr (front, back, is_cut) ↦
          let same : p.1 ≡ back = let h : Some p ≡ Some (front, back) = sym e ∙ is_cut.some in let pair : p ≡ (front, back) = cc in ap (λ q. q.1) pair in
          omega (arith, ap length same, ap length is_cut.is, length-append (front ++ (m ∷ ms)) back, length-append front (m ∷ ms))
    ]

closed_same : (f g : List ℕ → Parsed) (before : List ℕ) (o : Option (List ℕ × List ℕ)) → ((p : List ℕ × List ℕ) → o ≡ Some p → f p.1 ≡ g p.1) → closed f before o ≡ closed g before o
closed_same f g before None same = refl
closed_same f g before (Some p) same = ap (tag_then before (tag_named (trimmed p.0))) (same p refl)

opened_same : (f g : List ℕ → Parsed) (text : List ℕ) (o : Option (List ℕ × List ℕ)) → ((p : List ℕ × List ℕ) → o ≡ Some p → length p.1 < length text) → ((rest : List ℕ) → length rest < length text → f rest ≡ g rest) → opened f text o ≡ opened g text o
opened_same f g text None shorter same = refl
opened_same f g text (Some p) shorter same =
    closed_same f g p.0 (cut closing p.1) (λ q e. same q.1 (omega (arith, shorter p refl, cut_shorter 125 (125 ∷ []) p.1 q e)))

empty_within : (n : ℕ) → parsed_within n [] ≡ Ok []
empty_within zero = refl
empty_within (suc n) = refl

is_empty : (text : List ℕ) → length text ≤ 0 → text ≡ []
is_empty [] h = refl
is_empty (b ∷ bs) h = absurd (omega arith)

-- any count that is large enough serves
enough : (n m : ℕ) (text : List ℕ) → length text ≤ n → length text ≤ m → parsed_within n text ≡ parsed_within m text
enough zero m text p q = rw (is_empty text p) (sym (empty_within m))
enough (suc n) zero text p q = rw (is_empty text q) refl
enough (suc n) (suc m) text p q =
    opened_same (parsed_within n) (parsed_within m) text (cut opening text) (cut_shorter 123 (123 ∷ []) text)
    (λ rest shorter. enough n m rest (omega arith) (omega arith))

parsed_opened : (text : List ℕ) → parsed text ≡ opened parsed text (cut opening text)
parsed_opened text =
    enough (length text) (suc (length text)) text (omega arith) (omega arith)
    ∙ opened_same (parsed_within (length text)) parsed text (cut opening text) (cut_shorter 123 (123 ∷ []) text)
    (λ rest shorter. enough (length text) (length rest) rest (omega arith) (omega arith))

-- a text without a tag
pub parsed_plain : (text : List ℕ) → cut opening text ≡ None → parsed text ≡ Ok (as_it_stands text)
parsed_plain text e = parsed_opened text ∙ ap (opened parsed text) e

-- a text whose first tag is not closed
pub parsed_unclosed : (text before more : List ℕ) → cut opening text ≡ Some (before, more) → cut closing more ≡ None → parsed text ≡ Err Unclosed
parsed_unclosed text before more e h = parsed_opened text ∙ ap (opened parsed text) e ∙ ap (closed parsed before) h

-- a text with a closed tag
pub parsed_tag : (text before more inside after : List ℕ) → cut opening text ≡ Some (before, more) → cut closing more ≡ Some (inside, after) → parsed text ≡ tag_then before (tag_named (trimmed inside)) (parsed after)
parsed_tag text before more inside after e h = parsed_opened text ∙ ap (opened parsed text) e ∙ ap (closed parsed before) h

followed_twice : (front more : List Part) (left : Parsed) → followed front (followed more left) ≡ followed (front ++ more) left
followed_twice front more (Ok parts) = ap (λ (ps : List Part). Ok ps) (sym (append_assoc front more parts))
followed_twice front more (Err fault) = refl

-- a loop that has read the parts in front, and reads one more tag
pub goes_on : (front : List Part) (rest before more inside after : List ℕ) (tag : Part) (total : Parsed) → cut opening rest ≡ Some (before, more) → cut closing more ≡ Some (inside, after)
    → Ok tag ≡ tag_named (trimmed inside) → followed front (parsed rest) ≡ total → followed ((front ++ as_it_stands before) ++ tag ∷ []) (parsed after) ≡ total
goes_on front rest before more inside after tag total e h named so_far =
    ap (λ ps. followed ps (parsed after)) (append_assoc front (as_it_stands before) (tag ∷ []))
    ∙ sym (followed_twice front (as_it_stands before ++ tag ∷ []) (parsed after))
    ∙ ap (λ t. followed front (tag_then before t (parsed after))) named
    ∙ ap (followed front) (sym (parsed_tag rest before more inside after e h))
    ∙ so_far
