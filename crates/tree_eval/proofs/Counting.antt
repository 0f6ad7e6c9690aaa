-- How many wants of a kind the entrypoint and the exit handler ask for.
use Rattle.std.proofs.Common.{◌≡◌, ℕ, ◌+◌, ◌^◌, ◌<◌, ◌≤◌, nat_le, Bool, true, false, length, length-append, Option, Some, None, refl, sym, ap, ◌∙◌, arith}
use Rattle.std.specs.Prelude.{SomeIff, MatchOption}
use Rattle.std.proofs.lemmas.Bool.Decides.{nat_tests}
use Rattle.meaning.specs.Lines.{Made, lines_in}
use Rattle.meaning.specs.Trees.{exit_lines}
use Rattle.tree_state.specs.declared.kinds.WantKind.{WantKind}
use Rattle.tree_state.proofs.OfKind.{among, kind_then}
use Rattle.tree_eval.specs.declared.tops.Tops.{Tops}
use Rattle.tree_eval.specs.Inside.Tops.{lines_of}

module _ (k : WantKind) (tops : Tops) where
  abbrev main_many : ℕ
  main_many = length (among k (lines_in tops.main))

  abbrev all_many : ℕ
  all_many = length (among k (lines_of tops))

  counted : all_many ≡ main_many + length (among k (exit_lines tops.exit))
  counted =
      ap length (kind_then k (lines_in tops.main) (exit_lines tops.exit)) ∙ length-append (among k (lines_in tops.main)) (among k (exit_lines tops.exit))

  module _ (e : Made) (a b : ℕ) (is : tops.exit ≡ Some e) (main : a ≡ main_many) (exit : b ≡ length (among k (lines_in e))) where
    together : all_many ≡ a + b
    together =
        let behind : length (among k (exit_lines tops.exit)) ≡ length (among k (lines_in e)) = ap (λ (o : Option Made). length (among k (exit_lines o))) is in
        omega (arith, counted, behind, main, exit)

    too_many : ((a + b < 2 ^ 64) → ⊥) → 2 ^ 64 ≤ a + b
    too_many not = by (nat_le (2 ^ 64) (a + b)) refl
      where
        by : (c : Bool) → nat_le (2 ^ 64) (a + b) ≡ c → 2 ^ 64 ≤ a + b
        by true is = grind (arith, nat_tests, is)
        by false is = absurd (not (grind (arith, nat_tests, is)))

    pub count_both : (o : Option ℕ) → SomeIff o (a + b < 2 ^ 64) (a + b) → MatchOption o (2 ^ 64 ≤ all_many) (λ count. count ≡ all_many)
    count_both None past = let many = too_many past in omega (arith, together, many)
    count_both (Some c) fits = fits.1 ∙ sym together
