-- The rule of the turn. Word 0 counts the entries of the value, word 1 the tickets that were drawn, word 2 those that
-- were served; the value stands in the only slot.
use Rattle.std.specs.Prelude.{◌≡◌, ℕ, ◌+◌, ◌%◌, ◌^◌, ◌<◌, ◌≤◌, ◌==◌, true, cond, sum_by, List, [], ◌∷◌, length, Some, None}
use mathlib.Core.Option.{some, none}
use mathlib.Core.Option as maybe
use lib.ListN.{get_elem?}
use Rattle.atomic_table.specs.Table.{State}
use Rattle.store_turn.specs.declared.rule.View.{View}
use Rattle.store_turn.specs.Lists.{StartsWith}
use Rattle.store_turn.specs.Places.{times, within, PlacesIn}

-- the shares of all seats together
abbrev pub whole_share : ℕ
whole_share = 4294967296

abbrev pub SomeSeat : {V : Type 0} → (V → Type 0) → List V → Type 0
SomeSeat {V} P views = (id : ℕ) × ((v : V) × (get_elem? views id ≡ some v) × P v)

module _ {E B : Type 0} where
  -- how many tickets the seat has
  abbrev pub has_ticket : View E B → ℕ
  has_ticket v = elim v.ticket [ None ↦ 0 | Some k ↦ 1 ]

  -- how often it has this one
  abbrev pub has_that : ℕ → View E B → ℕ
  has_that n v = elim v.ticket [ None ↦ 0 | Some k ↦ cond (k == n) 1 0 ]

  -- the list begins with what each seat has seen
  abbrev pub BeginsWithAll : List E → List (View E B) → Type 0
  BeginsWithAll l views = (id : ℕ) (v : View E B) → get_elem? views id ≡ some v → StartsWith l v.seen

  -- what holds of one seat, where n entries were added and the ticket `next` is served
  pub record ViewOk (fixed : B) (next n : ℕ) (v : View E B) : Type 0 where
    -- a seat without a share has no ticket
    pub part : has_ticket v ≤ v.share
    pub served : v.served ≡ true → v.ticket ≡ Some next
    -- only a seat that is served has read, and then it has seen all
    pub read : v.read ≡ true → (v.served ≡ true) × (length v.seen ≡ n)
    pub short : length v.seen ≤ n
    pub based : 1 ≤ v.share → v.base ≡ Some fixed
    -- it has seen what the two seats had seen that were joined to it
    pub left : StartsWith v.seen v.left
    pub right : StartsWith v.seen v.right
    pub placed : PlacesIn (length v.seen) v.places

  -- it has a share, and has seen n entries
  pub record HasSeen (n : ℕ) (v : View E B) : Type 0 where
    pub share : 1 ≤ v.share
    pub all : length v.seen ≡ n

  module _ {T : Type 0} (list : T → List E) (base : T → B) (fixed : B) where
    pub record InTurn (s : State T (View E B)) : Type 0 where
      pub entries : ℕ
      pub drawn : ℕ
      pub next : ℕ
      pub words : s.words ≡ entries ∷ drawn % 2 ^ 64 ∷ next % 2 ^ 64 ∷ []
      pub small : entries < 2 ^ 64
      -- the tickets out are those from `next` up to `drawn`, each with one seat
      pub out : sum_by has_ticket s.views + next ≡ drawn
      pub each : (k : ℕ) → sum_by (has_that k) s.views ≡ within next drawn k
      pub shares : sum_by (λ v. v.share) s.views ≡ whole_share
      pub views : (id : ℕ) (v : View E B) → get_elem? s.views id ≡ some v → ViewOk fixed next entries v
      -- some seat with a share has seen all entries
      pub full : SomeSeat (HasSeen entries) s.views
      -- no entry has two places, be it with one seat or with two
      pub places : (x : ℕ) → sum_by (λ v. times x v.places) s.views ≤ within 0 entries x
      -- a seat that has read has seen what each other has seen
      pub under : (id : ℕ) (v : View E B) → get_elem? s.views id ≡ some v → v.read ≡ true →
          BeginsWithAll v.seen s.views
      -- the value is at home, where no seat has read, or out with the seat that has
      pub one : (h : maybe.Option T) × (s.homes ≡ h ∷ [])
      pub taken : (id : ℕ) (v : View E B) → get_elem? s.views id ≡ some v → v.read ≡ true →
          s.homes ≡ none ∷ []
      pub away : s.homes ≡ none ∷ [] → SomeSeat (λ v. v.read ≡ true) s.views
      -- at home it has all entries, has the base, and begins with what each seat has seen
      pub home : (y : T) → s.homes ≡ some y ∷ [] →
          (length (list y) ≡ entries) × (base y ≡ fixed) × BeginsWithAll (list y) s.views
