-- What callers see of a turn and of a seat, and what a job does under the turn.
use Rattle.std.specs.Prelude.{◌≡◌, ℕ, ◌+◌, ◌≤◌, ◌<◌, ◌^◌, List, length, Option, Some}
use Rattle.atomic_table.specs.Seated.{TableId}
use Rattle.store_turn.specs.Lists.{StartsWith}
use Rattle.store_turn.specs.Places.{places_after}

pub record AsTurn : Type 0 where
  pub name : TableId

-- the turn that the seat is of, the entries that it has seen, the base of the value, and the places of its own entries
pub record AsSeat (E B : Type 0) : Type 0 where
  pub turn : TableId
  pub seen : List E
  pub base : Option B
  pub places : List ℕ
  pub share : ℕ

module _ {E B T : Type 0} (list : T → List E) (base : T → B) where
  -- the same list, or one entry more
  pub record GrowsByOne (x y : T) : Type 0 where
    pub later : StartsWith (list y) (list x)
    pub at_most : length (list y) ≤ length (list x) + 1
    pub same : base y ≡ base x

  -- a job found a value whose list begins with what the seat had seen, and the seat has seen the list that the job left
  pub record Took {R : Type 0} (gives : T → R → T → Type 0) (old : AsSeat E B) (r : R) (new : AsSeat E B) : Type 0 where
    pub before : T
    pub after : T
    pub later : StartsWith (list before) old.seen
    pub same : old.base ≡ Some (base before)
    pub gave : gives before r after
    pub grew : GrowsByOne before after
    pub sees : new.seen ≡ list after
    pub fits : length (list after) < 2 ^ 64
    pub puts : new.places ≡ places_after old.places (list before) (list after)
