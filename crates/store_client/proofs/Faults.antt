-- What a call of a store leaves of its faults, by whether it was answered Fault.
use Rattle.std.proofs.Common.{◌≡◌, ◌≢◌, ℕ, ◌+◌, ◌≤◌, Bool, true, false, not, cond, refl, sym, ◌∙◌, ap, subst, arith}
use Rattle.std.specs.Prelude.{Result, Ok, Err, ◌==◌}
use Rattle.object_store.specs.declared.refused.StoreRefused.{StoreRefused}
use Rattle.object_store.specs.declared.refused.StoreRefused.TheVariants as refused
use Rattle.object_store.specs.Answers.{is_fault}
use Rattle.object_store.specs.Stored.{Stored, Asked, row_after, most_faults, FailedBy}

is_not_fault : {T : Type 0} (r : Result T StoreRefused) → r ≢ Err refused.Fault → is_fault r ≡ false
is_not_fault (Ok s) n = refl
is_not_fault (Err refused.NoObject) n = refl
is_not_fault (Err refused.Exists) n = refl
is_not_fault (Err (refused.Conflict e f)) n = refl
is_not_fault (Err (refused.Behind clock)) n = refl
is_not_fault (Err refused.Fault) n = absurd (n refl)
is_not_fault (Err refused.Memory) n = refl

-- where the row is the most it stays so
stays_or_ends : (lost fault : Bool) (row : ℕ) → (lost ≡ true → row ≡ most_faults) → fault ≡ false → cond lost most_faults (cond fault (row + 1) 0) ≤ row + 0
stays_or_ends true fault row is unfailed = let e = is refl in omega (arith, e)
stays_or_ends false false row is unfailed = omega arith
stays_or_ends false true row is unfailed = absurd cc

one_more : (lost fault : Bool) (row : ℕ) → (lost ≡ true → row ≡ most_faults) → cond lost most_faults (cond fault (row + 1) 0) ≤ row + 1
one_more true fault row is = let e = is refl in omega (arith, e)
one_more false true row is = omega arith
one_more false false row is = omega arith

is_most : (row : ℕ) → (row == most_faults) ≡ true → row ≡ most_faults
is_most row e = grind arith

module _ {C O T : Type 0} (faults most : O → ℕ) (asked : O → Bool → O → Type 0) (old new : Stored C O) (r : Result T StoreRefused) (told : Asked faults most asked old.outage new.outage r) (row : new.row ≡ row_after old.row r) where
  pub no_fault : r ≢ Err refused.Fault → FailedBy (λ (s : Stored C O). faults s.outage) (λ (s : Stored C O). s.row) 0 old new
  no_fault n =
      let unfailed = is_not_fault r n in
      let same = told.stood unfailed in
      record {
        risen = omega (arith, same);
        in_row = subst (λ (x : ℕ). x ≤ old.row + 0) (sym row) (stays_or_ends (old.row == most_faults) (is_fault r) old.row (is_most old.row) unfailed);
      }

  pub one_fault : r ≡ Err refused.Fault → FailedBy (λ (s : Stored C O). faults s.outage) (λ (s : Stored C O). s.row) 1 old new
  one_fault e = record {
    risen = told.rose (ap is_fault e);
    in_row = subst (λ (x : ℕ). x ≤ old.row + 1) (sym row) (one_more (old.row == most_faults) (is_fault r) old.row (is_most old.row));
  }

  pub never_falls : faults old.outage ≤ faults new.outage
  never_falls = by (is_fault r) refl
    where
      by : (b : Bool) → is_fault r ≡ b → faults old.outage ≤ faults new.outage
      by true e = let more = told.rose e in omega (arith, more)
      by false e = let same = told.stood e in omega (arith, same)
