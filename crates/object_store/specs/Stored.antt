-- What contracts see of a store, and what each of its calls leaves of its outage and of its count of faults.
use Rattle.std.specs.Prelude.{◌≡◌, ℕ, ◌+◌, ◌≤◌, Bool, true, false, not, ◌==◌, if◌then◌else◌, Result}
use Rattle.history.specs.History.{History}
use Rattle.object_store.specs.declared.refused.StoreRefused.{StoreRefused}
use Rattle.object_store.specs.Answers.{is_fault}

-- the accepted entries with what it began with, how many of its last calls in a row answered Fault, and its outage
pub record Stored (C O : Type 0) : Type 0 where
  pub history : History C
  pub row : ℕ
  pub outage : O

-- after so many Faults in a row the store counts as lost
abbrev pub most_faults : ℕ
most_faults = 16

-- how many in a row answered Fault after one call more; once they are the most they stay so
abbrev pub row_after : {T : Type 0} → ℕ → Result T StoreRefused → ℕ
row_after row result = if row == most_faults then most_faults else (if is_fault result then row + 1 else 0)

-- The outage was asked once, and the call answered Fault exactly where it did not let it pass. There alone its faults
-- rose, by one. They are never more than its bound, which stays.
pub record Asked
    {O T : Type 0} (faults most : O → ℕ) (asked : O → Bool → O → Type 0) (old new : O) (result : Result T StoreRefused)
    : Type 0 where
  pub once : asked old (not (is_fault result)) new
  pub rose : is_fault result ≡ true → faults new ≡ faults old + 1
  pub stood : is_fault result ≡ false → faults new ≡ faults old
  pub bound : faults new ≤ most new
  pub same_bound : most new ≡ most old

-- So many of some calls failed: the faults rose by as many, and at most as many more failed in a row.
pub record FailedBy {S : Type 0} (faults row : S → ℕ) (n : ℕ) (before after : S) : Type 0 where
  pub risen : faults after ≡ faults before + n
  pub in_row : row after ≤ row before + n
