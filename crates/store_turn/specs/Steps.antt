-- What each step of a turn tells its seat, and what seats see that are split and joined.
use Rattle.std.specs.Prelude.{◌≡◌, ◌≢◌, ◌⊎◌, ℕ, ◌+◌, ◌-◌, ◌%◌, ◌^◌, true, false, List, [], ◌∷◌, ◌++◌, length, Option, Some, None}
use Rattle.atomic_table.specs.Table.{Me, Step}
use Rattle.store_turn.specs.declared.rule.View.{View}
use Rattle.store_turn.specs.Lists.{StartsWith, longer}
use Rattle.store_turn.specs.Places.{merged, PlacesIn}
use Rattle.store_turn.specs.Tickets.{whole_share}

module _ {E B : Type 0} where
  -- a seat that is at rest and has no places
  abbrev pub fresh : List E → Option B → ℕ → View E B
  fresh xs b share = record {
    seen = xs;
    base = b;
    left = [];
    right = [];
    places = [];
    share = share;
    ticket = None;
    served = false;
    read = false;
  }

  abbrev pub first_view : List E → B → View E B
  first_view xs b = fresh xs (Some b) whole_share

  abbrev pub half : View E B → View E B
  half v = record v { share = v.share - 1 }

  abbrev pub other_half : View E B → View E B
  other_half v = fresh v.seen v.base 1

  abbrev pub joined : View E B → View E B → View E B
  joined v w = record v {
    seen = longer v.seen w.seen;
    left = v.seen;
    right = w.seen;
    places = merged v.places w.places;
    share = v.share + w.share;
  }

  -- what is left of a seat that was joined to another
  abbrev pub spent : View E B
  spent = fresh [] None 0

  abbrev pub with_ticket : View E B → ℕ → View E B
  with_ticket v k = record v { ticket = Some k }

  abbrev pub at_turn : View E B → View E B
  at_turn v = record v { served = true }

  abbrev pub reading : View E B → List E → View E B
  reading v xs = record v { seen = xs; read = true }

  -- it has added the entry behind all that it had seen
  abbrev pub added : View E B → List E → View E B
  added v xs = record v { seen = xs; places = v.places ++ length v.seen ∷ [] }

  abbrev pub at_rest : View E B → View E B
  at_rest v = record v { ticket = None; served = false; read = false }

  module _ {T : Type 0} where
    -- draw: one's own ticket is the number found
    abbrev pub drew : Step T → Me T (View E B) → ℕ → Me T (View E B) → Type 0
    drew s me found now = (k : ℕ) × (found ≡ k % 2 ^ 64) × (now ≡ (with_ticket me.0 k, me.1))

    -- look: where the number found is one's own, it is served
    abbrev pub looked : Step T → Me T (View E B) → ℕ → Me T (View E B) → Type 0
    looked s me found now = (k : ℕ) → me.0.ticket ≡ Some k →
        ((found ≡ k % 2 ^ 64) × (now ≡ (at_turn me.0, me.1))) ⊎ ((found ≢ k % 2 ^ 64) × (now ≡ me))

    -- read: the value is taken out, and its list is seen, which begins with what was seen
    abbrev pub did_read : (T → List E) → (T → B) → Step T → Me T (View E B) → ℕ → Me T (View E B) → Type 0
    did_read list base s me found now =
        (y : T) × StartsWith (list y) me.0.seen × (me.0.base ≡ Some (base y))
        × (now ≡ (reading me.0 (list y), (0, y) ∷ me.1))

    -- commit: the list of the value that is out is seen, and its last entry is one's own
    abbrev pub committed : (T → List E) → Step T → Me T (View E B) → ℕ → Me T (View E B) → Type 0
    committed list s me found now =
        (y : T) × (me.1 ≡ (0, y) ∷ []) × (now ≡ (added me.0 (list y), me.1))

    -- pass: the value is given back, and the ticket ends
    abbrev pub passed : Step T → Me T (View E B) → ℕ → Me T (View E B) → Type 0
    passed s me found now = now ≡ (at_rest me.0, [])

    -- recall: what was seen begins with what both seats had seen that were joined
    abbrev pub recalled : Step T → Me T (View E B) → ℕ → Me T (View E B) → Type 0
    recalled s me found now =
        (now ≡ me) × StartsWith me.0.seen me.0.left × StartsWith me.0.seen me.0.right
        × PlacesIn (length me.0.seen) me.0.places
