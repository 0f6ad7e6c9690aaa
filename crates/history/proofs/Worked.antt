-- The premises of the laws of histories hold together: each law, put to a worked history of numbers.
use Rattle.std.proofs.Common.{◌≡◌, ℕ, ◌+◌, ◌≤◌, ◌<◌, take, lit<, List, [], ◌∷◌, refl, subst, codes, Option, Some, None}
use Rattle.tree_types.specs.declared.path.LockId.{LockId}
use Rattle.tree_types.specs.declared.entry.HolderKey.{HolderKey}
use Rattle.tree_types.specs.declared.entry.Key.{Key}
use Rattle.tree_types.specs.declared.entry.Key.TheVariants.{Locks}
use Rattle.tree_types.specs.declared.entry.Entry.{Entry}
use Rattle.tree_types.specs.declared.entry.Entry.TheVariants.{Release, Tick}
use Rattle.history.specs.Keys.{tick_of}
use Rattle.history.specs.History.{Event, event, History, grown, Extends, clock_of, version_at, IsVersionOf, Lawful}
use Rattle.history.specs.Sometime.{Sometime, Stood, TicksRise}
use Rattle.history.specs.Laws.{EitherFirst}
use Rattle.history.proofs.Carrying.{sometime_later, sometime_now, lawful_before, was_justified, by_entries, onward, clock_rises, either_first, same_between, still_the_same}

-- each release adds one to the number
abbrev counts : ℕ → Entry → Option ℕ
counts n (Release lock key) = Some (n + 1)
counts n _ = None

abbrev lock : LockId
lock = record { text = codes "mutex/m" }

abbrev key : HolderKey
key = record { workflow = codes "w"; path = record { sels = [] } }

abbrev start : List (Key × ℕ)
start = (Locks, 5) ∷ []

abbrev entries : List (Event ℕ)
entries =
    event (Tick 3) None ∷ event (Release lock key) None ∷ event (Tick 7) None ∷ event (Tick 9) None ∷ []

abbrev story : ℕ → History ℕ
story n = record { start = start; events = take n entries }

-- ticks are above the clock
abbrev IsAbove : ℕ → Option ℕ → Type 0
IsAbove clock None = Unit {0}
IsAbove clock (Some t) = clock < t

abbrev rule : History ℕ → Event ℕ → Type 0
rule h e = IsAbove (clock_of h) (tick_of e.entry)

rises : TicksRise rule
rises h e t j is = subst (IsAbove (clock_of h)) is j

lawful : Lawful rule (story 4)
lawful = (lit< tt, (tt, (lit< tt, (lit< tt, tt))))

-- the whole goes on from its beginnings
from_one : Extends (story 4) (story 1)
from_one = record { same_start = refl; rest = event (Release lock key) None ∷ event (Tick 7) None ∷ event (Tick 9) None ∷ []; goes_on = refl }

from_two : Extends (story 4) (story 2)
from_two = record { same_start = refl; rest = event (Tick 7) None ∷ event (Tick 9) None ∷ []; goes_on = refl }

from_three : Extends (story 4) (story 3)
from_three = record { same_start = refl; rest = event (Tick 9) None ∷ []; goes_on = refl }

three_from_two : Extends (story 3) (story 2)
three_from_two = record { same_start = refl; rest = event (Tick 7) None ∷ []; goes_on = refl }

-- ---- what carries over

abbrev IsThree : History ℕ → Type 0
IsThree h = clock_of h ≡ 3

sometime_three : Sometime IsThree (story 4)
sometime_three = sometime_later IsThree (story 1) (story 4) from_one (sometime_now IsThree (story 1) refl)

begins_lawful : Lawful rule (story 1)
begins_lawful = lawful_before rule (story 4) (story 1) from_one lawful

tick_stood : Stood (story 4) (story 2) (event (Tick 7) None)
tick_stood = record { extends = from_three }

tick_was_justified : rule (story 2) (event (Tick 7) None)
tick_was_justified = was_justified rule (story 4) (story 2) (event (Tick 7) None) tick_stood lawful

clock_rose : 3 ≤ 9
clock_rose = clock_rises rule rises (story 4) (story 1) from_one lawful

-- a property that stays with each entry
abbrev BeganSo : History ℕ → Type 0
BeganSo h = h.start ≡ start

stays_so : (k : History ℕ) (e : Event ℕ) → Lawful rule k → rule k e → BeganSo k → BeganSo (grown k e)
stays_so k e l j p = p

began_so : BeganSo (story 4)
began_so = by_entries rule BeganSo stays_so (story 4) lawful refl

began_so_onward : BeganSo (story 4)
began_so_onward = onward rule BeganSo stays_so (story 4) (story 1) from_one lawful refl

-- ---- versions

six_at_two : IsVersionOf counts (story 3) Locks 2 6 3
six_at_two = record { before = story 2; extends = three_from_two; stood = refl; clock = refl }

still_six : version_at counts (story 4) Locks ≡ Some record { number = 2; content = 6 }
still_six = still_the_same counts (story 4) (story 3) Locks 2 6 3 from_three six_at_two refl

six_between : version_at counts (story 3) Locks ≡ Some record { number = 2; content = 6 }
six_between =
    (same_between counts (story 4) (story 3) (story 2) Locks record { number = 2; content = 6 } record { number = 2; content = 6 }
    from_three three_from_two refl refl refl).1

one_begins_other : EitherFirst (story 3) (story 2)
one_begins_other = either_first (story 4) (story 3) (story 2) from_three from_two
