-- Places of requests in lists: those that hold a lock, in any order, and those that wait, in the order in which they go.
use Rattle.std.specs.Prelude.{◌≡◌, ℕ, suc, ◌+◌, ◌<◌, Bool, false, true, cond, bytes_eq, List, [], ◌∷◌, Option, Some, None, slice_get}
use Rattle.std.specs.List.{sum_by, insert}
use Rattle.tree_types.specs.declared.entry.Rank.{Rank}
use Rattle.books.specs.declared.Request.{Request}
use Rattle.books.specs.declared.LockState.{LockState}
use Rattle.books.specs.Books.{Text, before, is_waiting}
use Rattle.sync_locks.specs.declared.asked.Asked.{Asked}

-- something was asked for, and it passes
abbrev pub asks : (Asked → Bool) → Option Asked → Bool
asks test None = false
asks test (Some a) = test a

-- the lock was asked for at a place
abbrev pub is_for : Text → List Asked → ℕ → Bool
is_for lock asked place = asks (λ a. bytes_eq a.lock.text lock) (slice_get asked place)

-- a rank goes before that of the request at a place
abbrev pub overtakes : Rank → List Asked → ℕ → Bool
overtakes rank asked place = asks (λ a. before rank a.rank) (slice_get asked place)

abbrev pub ranks_sooner : Option Asked → Option Asked → Bool
ranks_sooner (Some a) (Some b) = before a.rank b.rank
ranks_sooner _ _ = false

-- the request at p ranks before the one at q
abbrev pub is_sooner : List Asked → ℕ → ℕ → Bool
is_sooner asked p q = ranks_sooner (slice_get asked p) (slice_get asked q)

-- of waiters of one lock the one at p goes before the one at q: none ranks before it, and only one that it ranks before was
-- filed earlier
pub record GoesBefore (asked : List Asked) (p q : ℕ) : Type 0 where
  pub not_behind : is_sooner asked q p ≡ false
  pub filed : q < p → is_sooner asked p q ≡ true

-- the sum of the weights of the places whose requests stand so, if the first of all stands here
abbrev pub sum_from : (LockState → Bool) → (ℕ → ℕ) → ℕ → List Request → ℕ
sum_from so weight here [] = 0
sum_from so weight here (r ∷ rs) = cond (so r.state) (weight here) 0 + sum_from so weight (suc here) rs

-- these are the places of the requests that stand so, each once: whatever is summed over them, the sum is the same
abbrev pub Lists : (LockState → Bool) → List ℕ → List Request → Type 0
Lists so places rs = (weight : ℕ → ℕ) → sum_by weight places ≡ sum_from so weight 0 rs

-- with a new request at its turn, if it stands so
abbrev pub waiting_with : LockState → ℕ → ℕ → List ℕ → List ℕ
waiting_with state place turn waiting = cond (is_waiting state) (insert waiting turn place) waiting
