-- What the letter of a byte says of it.
use Rattle.std.specs.Prelude.{◌≡◌, ℕ, Bool, true, false, cond, not, ◌||◌, ◌==◌, IsTrue, refl}
use Rattle.std.proofs.Common.{ap, sym, ◌∙◌, inl, inr}
use Rattle.std.proofs.lemmas.Bool.{false≢true, or_cases, eqb-true, cond-true, cond_both}
use Rattle.base_types.specs.Bytes.{is_space}
use Rattle.connectives.specs.Reading.{kind}
use Rattle.connectives.proofs.ByteKinds.{ends_operand, end_byte}
use Rattle.when_expr.specs.declared.inner.Letter.{Letter}
use Rattle.when_expr.specs.declared.inner.Letter.TheVariants.{OfWord, Blank, Quote, Bang, Opening, Ending, Equals, Less, Greater}
use Rattle.when_expr.specs.Grammar.{is_quote, is_word_byte}
use Rattle.when_expr.specs.Inside.Operands.{letter, sign_letter}

pub space_letter : (b : ℕ) → IsTrue (is_space b) → letter b ≡ Blank
space_letter b h = cond-true (is_space b) Blank _ h

pub quote_letter : (b : ℕ) → IsTrue (is_quote b) → letter b ≡ Quote
quote_letter b h = elim (or_cases (b == 39) (b == 34) h) [ inl e ↦ ap letter (eqb-true b 39 e) | inr e ↦ ap letter (eqb-true b 34 e) ]

pub end_letter : (b : ℕ) → IsTrue (ends_operand (kind b)) → letter b ≡ Ending
end_letter b h = elim (end_byte b h) [ inl e ↦ ap letter e | inr f ↦ elim f [ inl e ↦ ap letter e | inr e ↦ ap letter e ] ]

abbrev is_of_word : Letter → Bool
is_of_word OfWord = true
is_of_word _ = false

of_word_is : (k : Letter) → IsTrue (is_of_word k) → k ≡ OfWord
of_word_is OfWord h = refl
of_word_is Blank h = absurd (false≢true h)
of_word_is Quote h = absurd (false≢true h)
of_word_is Bang h = absurd (false≢true h)
of_word_is Opening h = absurd (false≢true h)
of_word_is Ending h = absurd (false≢true h)
of_word_is Equals h = absurd (false≢true h)
of_word_is Less h = absurd (false≢true h)
of_word_is Greater h = absurd (false≢true h)

-- each byte that is none of the others is of a word
other_byte : (s q a b c d e f g h : Bool) →
    is_of_word (cond s Blank (cond q Quote (cond a Bang (cond b Opening (cond c Ending (cond d Ending (cond e Ending (cond f Equals (cond g Less (cond h Greater OfWord))))))))))
    ≡ not (s || q || (a || (b || (c || (d || (e || (f || (g || (h || false)))))))))
other_byte true q a b c d e f g h = refl
other_byte false true a b c d e f g h = refl
other_byte false false true b c d e f g h = refl
other_byte false false false true c d e f g h = refl
other_byte false false false false true d e f g h = refl
other_byte false false false false false true e f g h = refl
other_byte false false false false false false true f g h = refl
other_byte false false false false false false false true g h = refl
other_byte false false false false false false false false true h = refl
other_byte false false false false false false false false false true = refl
other_byte false false false false false false false false false false = refl

letter_byte : (b : ℕ) → is_of_word (letter b) ≡ is_word_byte b
letter_byte b = other_byte (is_space b) (is_quote b) (b == 33) (b == 40) (b == 41) (b == 38) (b == 124) (b == 61) (b == 60) (b == 62)

pub letter_is_word : (b : ℕ) → letter b ≡ OfWord → IsTrue (is_word_byte b)
letter_is_word b h = sym (letter_byte b) ∙ ap is_of_word h

pub word_letter : (b : ℕ) → IsTrue (is_word_byte b) → letter b ≡ OfWord
word_letter b h = of_word_is (letter b) (letter_byte b ∙ h)

abbrev pub LetterSays : ℕ → Letter → Type 0
LetterSays b OfWord = Unit {0}
LetterSays b Blank = IsTrue (is_space b)
LetterSays b Quote = IsTrue (is_quote b)
LetterSays b Bang = b ≡ 33
LetterSays b Opening = Unit {0}
LetterSays b Ending = Unit {0}
LetterSays b Equals = b ≡ 61
LetterSays b Less = b ≡ 60
LetterSays b Greater = b ≡ 62

signs_say : (b : ℕ) → LetterSays b (sign_letter b)
signs_say b = cond_both (b == 33) Bang _ (LetterSays b) (eqb-true b 33) (λ _.
    cond_both (b == 40) Opening _ (LetterSays b) (λ _. tt) (λ _.
    cond_both (b == 41) Ending _ (LetterSays b) (λ _. tt) (λ _.
    cond_both (b == 38) Ending _ (LetterSays b) (λ _. tt) (λ _.
    cond_both (b == 124) Ending _ (LetterSays b) (λ _. tt) (λ _.
    cond_both (b == 61) Equals _ (LetterSays b) (eqb-true b 61) (λ _.
    cond_both (b == 60) Less _ (LetterSays b) (eqb-true b 60) (λ _.
    cond_both (b == 62) Greater OfWord (LetterSays b) (eqb-true b 62) (λ _. tt))))))))

pub letter_says : (b : ℕ) → LetterSays b (letter b)
letter_says b = cond_both (is_space b) Blank _ (LetterSays b) (λ e. e) (λ _. cond_both (is_quote b) Quote (sign_letter b) (LetterSays b) (λ e. e) (λ _. signs_say b))
