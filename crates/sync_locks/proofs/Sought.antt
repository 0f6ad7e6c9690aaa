-- Where a search by halves goes on.
use Rattle.std.proofs.Common.{◌≡◌, ℕ, ◌+◌, Bool, true, false, List, length, get_or, Some, refl, sym, ◌∙◌, ap, arith}
use Rattle.std.specs.Prelude.{slice_get}
use Rattle.std.specs.List.{AllWithin}
use Rattle.std.specs.List.Sorted.{IsPartitionedBy}
use Rattle.std.proofs.lemmas.Option.{slice_get_within, get_or_from_slice_get}

module _ (test : ℕ → Bool) (xs : List ℕ) (i x : ℕ) (at : slice_get xs i ≡ Some x) (parted : IsPartitionedBy test xs) where
  -- what passes, and all before it
  pub passing : test x ≡ true → AllWithin (λ y. test y ≡ true) xs 0 (i + 1)
  passing is k d from to = parted k i d (omega (arith, to)) (slice_get_within xs i x at) (ap test (get_or_from_slice_get xs i x d at) ∙ is)

  -- what does not pass, and all behind it
  pub failing : test x ≡ false → AllWithin (λ y. test y ≡ false) xs i (length xs)
  failing is k d from to = by (test (get_or xs k d)) refl
    where
      by : (b : Bool) → test (get_or xs k d) ≡ b → test (get_or xs k d) ≡ false
      by false e = e
      by true e = absurd (let no : true ≡ false = sym (parted i k d from to e) ∙ ap test (get_or_from_slice_get xs i x d at) ∙ is in cc no)
