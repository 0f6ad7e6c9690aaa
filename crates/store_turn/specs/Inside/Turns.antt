-- A seat between the steps of a turn.
use Rattle.std.specs.Prelude.{◌≡◌, ℕ, ◌+◌, ◌≤◌, ◌<◌, ◌%◌, ◌^◌, nat_lt, Bool, true, false, List, [], ◌∷◌, length, Some, None}
use Rattle.atomic_table.specs.Seated.{TableId}
use Rattle.atomic_table.specs.Table.{Me}
use Rattle.store_turn.specs.declared.rule.View.{View}
use Rattle.store_turn.specs.Lists.{StartsWith}
use Rattle.store_turn.specs.Places.{PlacesIn}
use Rattle.store_turn.specs.Steps.{with_ticket, at_turn, reading, added}
use Rattle.store_turn.specs.Seats.{AsSeat, GrowsByOne}

module _ {E B : Type 0} where
  -- what callers see of it
  abbrev pub as_seat : TableId → View E B → AsSeat E B
  as_seat turn v = record { turn = turn; seen = v.seen; base = v.base; places = v.places; share = v.share }

module _ {E B T : Type 0} where
  -- between two calls it has no ticket and no slot
  pub record Rests (me : Me T (View E B)) : Type 0 where
    pub free : me.1 ≡ []
    pub no_ticket : me.0.ticket ≡ None
    pub not_served : me.0.served ≡ false
    pub not_read : me.0.read ≡ false
    pub some_share : 1 ≤ me.0.share
    pub placed : PlacesIn (length me.0.seen) me.0.places

  -- it has a ticket, of which the word tells this much, and nothing else has changed
  pub record Holds (v : View E B) (told : ℕ) (me : Me T (View E B)) : Type 0 where
    pub ticket : ℕ
    pub told_is : told ≡ ticket % 2 ^ 64
    pub now : me ≡ (with_ticket v ticket, [])

  -- it has a ticket, which is served
  pub record Served (v : View E B) (me : Me T (View E B)) : Type 0 where
    pub ticket : ℕ
    pub now : me ≡ (at_turn (with_ticket v ticket), [])

  module _ (list : T → List E) (base : T → B) where
    -- it has taken the value out, and has seen its list
    pub record TookOut (was me : Me T (View E B)) : Type 0 where
      pub value : T
      pub later : StartsWith (list value) was.0.seen
      pub same : was.0.base ≡ Some (base value)
      pub now : me ≡ (reading was.0 (list value), (0, value) ∷ [])

    -- it has seen the list of the value that is out
    pub record Out (me : Me T (View E B)) : Type 0 where
      pub value : T
      pub out : me.1 ≡ (0, value) ∷ []
      pub all : me.0.seen ≡ list value
      pub kept : me.0.base ≡ Some (base value)

    -- a job changed the value that is out, and said whether it has an entry more
    pub record Did
        {R : Type 0} (gives : T → R → T → Type 0) (was : Me T (View E B)) (r : R) (more : Bool) (me : Me T (View E B))
        : Type 0 where
      pub before : T
      pub after : T
      pub had : was.1 ≡ (0, before) ∷ []
      pub seen : was.0.seen ≡ list before
      pub gave : gives before r after
      pub now : me ≡ (was.0, (0, after) ∷ [])
      pub grew : GrowsByOne list base before after
      pub told : more ≡ nat_lt (length (list before)) (length (list after))
      pub fits : length (list after) < 2 ^ 64

    -- the value that is out has one entry more than it has seen
    pub record More (me : Me T (View E B)) : Type 0 where
      pub read : me.0.read ≡ true
      pub after : T
      pub out : me.1 ≡ (0, after) ∷ []
      pub later : StartsWith (list after) me.0.seen
      pub one_more : length (list after) ≡ length me.0.seen + 1
      pub fits : length (list after) < 2 ^ 64

    -- it has seen that entry too
    pub record Committed (was me : Me T (View E B)) : Type 0 where
      pub value : T
      pub out : was.1 ≡ (0, value) ∷ []
      pub now : me ≡ (added was.0 (list value), was.1)

    -- it may give the value back, whose list it has seen
    pub record Same (me : Me T (View E B)) : Type 0 where
      pub read : me.0.read ≡ true
      pub after : T
      pub out : me.1 ≡ (0, after) ∷ []
      pub all : list after ≡ me.0.seen
      pub kept : me.0.base ≡ Some (base after)
      pub some_share : 1 ≤ me.0.share
