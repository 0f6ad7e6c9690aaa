-- What reading the front of a text finds.
use Rattle.std.proofs.Common.{◌≡◌, ℕ, zero, suc, ◌+◌, ◌<◌, Bool, true, List, [], ◌∷◌, length, take, drop, get_or, refl, inl, inr, arith}
use Rattle.std.specs.List.{list_all, prefix_len}
use Rattle.std.specs.Str.{IsUtf8, IsCharBoundary}
use Rattle.std.proofs.lemmas.Bool.{cases_Bool, and_from}
use Rattle.std.proofs.lemmas.Bool.Decides.{nat_tests}
use Rattle.std.proofs.lemmas.List.Sums.{prefix_len-le-length, prefix_len_passes}
use Rattle.std.proofs.lemmas.Str.{IsCharBoundary-start, IsCharBoundary-after_ascii}
use Rattle.base_types.specs.Bytes.{is_name_byte}
use Rattle.node_names.specs.Inside.Reading.{Stops}

module _ (p : ℕ → Bool) where
  -- the bytes of a longest run pass
  pub run_passes : (bs : List ℕ) → list_all p (take (prefix_len p bs) bs) ≡ true
  run_passes [] = refl
  run_passes (b ∷ bs) = elim (cases_Bool (p b)) [
    | inl passes ↦ let n : prefix_len p (b ∷ bs) ≡ suc (prefix_len p bs) = rw passes (omega arith) in rw n (and_from (p b) (list_all p (take (prefix_len p bs) bs)) passes (run_passes bs))
    | inr other ↦ let n : prefix_len p (b ∷ bs) ≡ 0 = rw other refl in rw n refl
  ]

  -- and it goes no further
  pub run_stops : (bs : List ℕ) → Stops p (drop (prefix_len p bs) bs)
  run_stops [] = tt
  run_stops (b ∷ bs) = elim (cases_Bool (p b)) [
    | inl passes ↦ let n : prefix_len p (b ∷ bs) ≡ suc (prefix_len p bs) = rw passes (omega arith) in rw n (run_stops bs)
    | inr other ↦ let n : prefix_len p (b ∷ bs) ≡ 0 = rw other refl in rw n other
  ]

name_byte_is_ascii : (b : ℕ) → is_name_byte b ≡ true → b < 128
name_byte_is_ascii b e = grind (arith, nat_tests)

-- a text may be cut behind the bytes of a name
pub run_ends : (bs : List ℕ) → IsUtf8 bs → IsCharBoundary bs (prefix_len is_name_byte bs)
run_ends bs text = at (prefix_len is_name_byte bs) refl
  where
    at : (n : ℕ) → prefix_len is_name_byte bs ≡ n → IsCharBoundary bs (prefix_len is_name_byte bs)
    at zero e = rw e (IsCharBoundary-start bs text)
    at (suc n) e =
        let fits : n < length bs = omega (arith, prefix_len-le-length is_name_byte bs) in
        let last = name_byte_is_ascii (get_or bs n 0) (prefix_len_passes is_name_byte bs n 0 (omega arith)) in
        let k : prefix_len is_name_byte bs ≡ n + 1 = omega arith in
        rw k (IsCharBoundary-after_ascii bs n text fits last)
