-- What the kind of a byte says of it.
use Rattle.std.specs.Prelude.{◌≡◌, ℕ, ◌==◌, Bool, true, false, IsTrue, ◌⊎◌, refl}
use Rattle.std.proofs.Common.{ap, sym, ◌∙◌, inl, inr}
use Rattle.std.proofs.lemmas.Bool.{false≢true, or_cases, eqb-true, cond-true, cond_both}
use Rattle.base_types.specs.Bytes.{is_space}
use Rattle.connectives.specs.Reading.{kind}
use Rattle.connectives.specs.declared.state.Kind.{Kind}
use Rattle.connectives.specs.declared.state.Kind.TheVariants.{Blank, Bang, Opening, Closing, Ampersand, Bar, Other}

pub space_kind : (b : ℕ) → IsTrue (is_space b) → kind b ≡ Blank
space_kind b h = cond-true (is_space b) Blank _ h

abbrev pub KindSays : ℕ → Kind → Type 0
KindSays b Blank = IsTrue (is_space b)
KindSays b Bang = b ≡ 33
KindSays b Opening = b ≡ 40
KindSays b Closing = b ≡ 41
KindSays b Ampersand = b ≡ 38
KindSays b Bar = b ≡ 124
KindSays b Other = Unit {0}

pub kind_says : (b : ℕ) → KindSays b (kind b)
kind_says b = cond_both (is_space b) Blank _ (KindSays b) (λ e. e) (λ _.
    cond_both (b == 33) Bang _ (KindSays b) (eqb-true b 33) (λ _.
    cond_both (b == 40) Opening _ (KindSays b) (eqb-true b 40) (λ _.
    cond_both (b == 41) Closing _ (KindSays b) (eqb-true b 41) (λ _.
    cond_both (b == 38) Ampersand _ (KindSays b) (eqb-true b 38) (λ _.
    cond_both (b == 124) Bar Other (KindSays b) (eqb-true b 124) (λ _. tt))))))

-- an operand ends
abbrev pub ends_operand : Kind → Bool
ends_operand Closing = true
ends_operand Ampersand = true
ends_operand Bar = true
ends_operand _ = false

end_says : (b : ℕ) (k : Kind) → KindSays b k → IsTrue (ends_operand k) → (b ≡ 41) ⊎ ((b ≡ 38) ⊎ (b ≡ 124))
end_says b Blank h e = absurd (false≢true e)
end_says b Bang h e = absurd (false≢true e)
end_says b Opening h e = absurd (false≢true e)
end_says b Closing h e = inl h
end_says b Ampersand h e = inr (inl h)
end_says b Bar h e = inr (inr h)
end_says b Other h e = absurd (false≢true e)

pub end_byte : (b : ℕ) → IsTrue (ends_operand (kind b)) → (b ≡ 41) ⊎ ((b ≡ 38) ⊎ (b ≡ 124))
end_byte b e = end_says b (kind b) (kind_says b) e

other_says : (f : ℕ → Bool) (b : ℕ) (k : Kind) → KindSays b k → f 32 ≡ false → f 9 ≡ false → f 33 ≡ false → f 40 ≡ false → f 41 ≡ false → f 38 ≡ false → f 124 ≡ false → IsTrue (f b) → k ≡ Other
other_says f b Blank h p q c d e g i t = elim (or_cases (b == 32) (b == 9) h) [
  | inl x ↦ absurd (false≢true (sym p ∙ ap f (sym (eqb-true b 32 x)) ∙ t))
  | inr x ↦ absurd (false≢true (sym q ∙ ap f (sym (eqb-true b 9 x)) ∙ t))
]
other_says f b Bang h p q c d e g i t = absurd (false≢true (sym c ∙ ap f (sym h) ∙ t))
other_says f b Opening h p q c d e g i t = absurd (false≢true (sym d ∙ ap f (sym h) ∙ t))
other_says f b Closing h p q c d e g i t = absurd (false≢true (sym e ∙ ap f (sym h) ∙ t))
other_says f b Ampersand h p q c d e g i t = absurd (false≢true (sym g ∙ ap f (sym h) ∙ t))
other_says f b Bar h p q c d e g i t = absurd (false≢true (sym i ∙ ap f (sym h) ∙ t))
other_says f b Other h p q c d e g i t = refl

-- a byte of some kind that neither spaces nor connectives are of
pub other_kind : (f : ℕ → Bool) (b : ℕ) → f 32 ≡ false → f 9 ≡ false → f 33 ≡ false → f 40 ≡ false → f 41 ≡ false → f 38 ≡ false → f 124 ≡ false → IsTrue (f b) → kind b ≡ Other
other_kind f b p q c d e g i t = other_says f b (kind b) (kind_says b) p q c d e g i t
