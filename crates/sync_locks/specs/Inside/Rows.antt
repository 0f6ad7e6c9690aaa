-- Requests by what was asked for and how it stands, and places in them.
use Rattle.std.specs.Prelude.{ℕ, Bool, true, false, List, [], ◌∷◌, Option, Some, None, slice_get}
use Rattle.books.specs.declared.Request.{Request}
use Rattle.books.specs.declared.LockState.TheVariants.{Waiting, Holding}
use Rattle.books.specs.declared.LockState.{LockState}
use Rattle.sync_locks.specs.declared.asked.Asked.{Asked}

abbrev pub request_of : Asked → LockState → Request
request_of asked state = record { lock = asked.lock; key = asked.key; rank = asked.rank; state = state }

-- each with how it stands
abbrev pub requests_in : List Asked → List LockState → List Request
requests_in [] states = []
requests_in (a ∷ asked) [] = []
requests_in (a ∷ asked) (s ∷ states) = request_of a s ∷ requests_in asked states

abbrev pub asked_of : Request → Asked
asked_of r = record { lock = r.lock; key = r.key; rank = r.rank }

abbrev pub state_of : Request → LockState
state_of r = r.state

-- there is one, and it passes
abbrev pub passes : (Request → Bool) → Option Request → Bool
passes test None = false
passes test (Some r) = test r

-- the one at a place passes
abbrev pub is_at : (Request → Bool) → List Request → ℕ → Bool
is_at test rs place = passes test (slice_get rs place)

-- how a new request stands, by whether its lock has room
abbrev pub state_by : Bool → LockState
state_by true = Holding
state_by false = Waiting
