-- A release, from what the lists of places tell.
use Rattle.std.proofs.Common.{◌≡◌, ℕ, ◌<◌, ◌==◌, true, false, List, length, get_or, set, eq-eqb, Option, Some, None, option_map, refl, sym, ◌∙◌, ap, ap₂, subst, arith, true≢false}
use Rattle.std.specs.Prelude.{IsSome, MatchOption, slice_get}
use Rattle.std.specs.List.{AllWithin, HoldsAt, Contains, remove}
use Rattle.std.specs.Cmp.{IsTotalOrder}
use Rattle.std.proofs.lemmas.Bool.{eqb-true}
use Rattle.std.proofs.lemmas.List.{length-map, get_or-map}
use Rattle.std.proofs.lemmas.Option.{MatchOption-at_some, slice_get_within}
use Rattle.books.specs.declared.Request.{Request}
use Rattle.books.specs.declared.LockState.{LockState}
use Rattle.books.specs.declared.LockState.TheVariants.{Waiting, Holding, Released}
use Rattle.books.specs.Books.{Text, rank_cmp, is_holding, is_waiting, released}
use Rattle.books.specs.Laws.{passed_on}
use Rattle.sync_locks.specs.declared.asked.Asked.{Asked}
use Rattle.sync_locks.specs.declared.holder.Holder.{Holder}
use Rattle.sync_locks.specs.Inside.Rows.{requests_in, asked_of, state_of}
use Rattle.sync_locks.specs.Inside.Queues.{is_for}
use Rattle.sync_locks.specs.Inside.Tables.{IsKept}
use Rattle.sync_locks.specs.Inside.Holders.{places_in}
use Rattle.sync_locks.proofs.Stands.{length_in, some_same}
use Rattle.sync_locks.proofs.Sums.{is_listed, listed_stands}
use Rattle.sync_locks.proofs.Turns.{none_waits, first_goes}
use Rattle.sync_locks.proofs.Kept.{freed_is, kept_freed, passed_is, kept_passed}

holder_there : (o : Option Request) → option_map state_of o ≡ Some Holding → (r : Request) × (o ≡ Some r) × (r.state ≡ Holding)
holder_there None e = absurd (cc e)
holder_there (Some r) e = (r, refl, (let z : r.state ≡ Holding = cc in z))

waits_there : (s : LockState) → is_waiting s ≡ true → s ≡ Waiting
waits_there Waiting e = refl
waits_there Holding e = absurd (true≢false (sym e))
waits_there Released e = absurd (true≢false (sym e))

-- the lock that the request at a place asked for
pub lock_is : (a : Asked) (o : Option Request) (r : Request) → Some a ≡ option_map asked_of o → o ≡ Some r → a.lock.text ≡ r.lock.text
lock_is a o r e f = ap (λ (x : Asked). x.lock.text) (same a (asked_of r) (e ∙ ap (option_map asked_of) f))
  where
    same : (x y : Asked) → Some x ≡ Some y → x ≡ y
    same x y e = cc e

-- which of these stands at a place
abbrev Found : ℕ → List Holder → Option ℕ → Type 0
Found i hs o =
    MatchOption o
    (AllWithin (λ (h : Holder). (h.place == i) ≡ false) hs 0 (length hs))
    (λ k. (k < length hs) × HoldsAt (λ (h : Holder). (h.place == i) ≡ true) hs k)

-- one that stands at a place
holder_of : ℕ → Holder
holder_of i = record { place = i; bucket = 0 }

-- the place of one of them
place_there : (hs : List Holder) (k i : ℕ) → k < length hs → get_or (places_in hs) k i ≡ (get_or hs k (holder_of i)).place
place_there hs k i h = get_or-map (λ (x : Holder). x.place) hs k (holder_of i) i h

eqb_same : (x i : ℕ) → (x == i) ≡ true → x ≡ i
eqb_same x i e = eqb-true x i e

module _ (asked : List Asked) (states : List LockState) (table : List (List ℕ)) (holding waiting : List ℕ) (kept : IsKept asked states table holding waiting) (rs : List Request) (view : requests_in asked states ≡ rs) (i : ℕ) (stands : option_map state_of (slice_get rs i) ≡ Some Holding) where
  abbrev holder : (r : Request) × (slice_get (requests_in asked states) i ≡ Some r) × (r.state ≡ Holding)
  holder = holder_there (slice_get (requests_in asked states) i) (ap (λ (x : List Request). option_map state_of (slice_get x i)) view ∙ stands)

  pub holder_within : i < length rs
  holder_within = subst (λ (x : List Request). i < length x) view (slice_get_within (requests_in asked states) i holder.0 holder.1)

  pub is_found : (hs : List Holder) (o : Option ℕ) → places_in hs ≡ holding → Found i hs o → IsSome o
  is_found hs (Some k) e m = refl
  is_found hs None e m =
      let listed = is_listed is_holding holding (requests_in asked states) kept.held i holder.0 holder.1 (ap is_holding holder.2) in
      let at = subst (λ (ys : List ℕ). Contains ys i) (sym e) listed in
      let within : at.0 < length hs = subst (λ (n : ℕ). at.0 < n) (length-map hs (λ (h : Holder). h.place)) at.1 in
      let same = sym (place_there hs at.0 i within) ∙ at.2 in
      absurd (true≢false (sym (eq-eqb (get_or hs at.0 (holder_of i)).place i same) ∙ m at.0 (holder_of i) (omega arith) within))

  pub found : (hs : List Holder) (o : Option ℕ) (k : ℕ) → places_in hs ≡ holding → o ≡ Some k → Found i hs o → (k < length holding) × (get_or holding k i ≡ i)
  found hs o k e f m =
      subst (λ (ys : List ℕ). (k < length ys) × (get_or ys k i ≡ i)) e
      (at
      (MatchOption-at_some (AllWithin (λ (h : Holder). (h.place == i) ≡ false) hs 0 (length hs)) (λ k. (k < length hs) × HoldsAt (λ (h : Holder). (h.place == i) ≡ true) hs k) k f m))
    where
      at : (k < length hs) × HoldsAt (λ (h : Holder). (h.place == i) ≡ true) hs k → (k < length (places_in hs)) × (get_or (places_in hs) k i ≡ i)
      at x = (
        subst (λ (n : ℕ). k < n) (sym (length-map hs (λ (h : Holder). h.place))) x.0,
        place_there hs k i x.0 ∙ eqb_same (get_or hs k (holder_of i)).place i (x.1 (holder_of i)),
      )

  module _ (k : ℕ) (at : (k < length holding) × (get_or holding k i ≡ i)) where
    abbrev middle : List Request
    middle = requests_in asked (set states i Released)

    pub freed_kept : IsKept asked (set states i Released) table (remove holding k) waiting
    freed_kept = kept_freed asked states table holding waiting kept i k holder.0 holder.1 holder.2 at.0 at.1

    middle_is : (r : Request) → slice_get rs i ≡ Some r → middle ≡ set rs i (released r)
    middle_is r e =
        freed_is asked states table holding waiting kept i k holder.0 holder.1 holder.2 at.0 at.1
        ∙ ap₂ (λ (x : List Request) (q : Request). set x i (released q)) view (some_same holder.0 r (sym holder.1 ∙ ap (λ (x : List Request). slice_get x i) view ∙ e))

    module _ (total : IsTotalOrder rank_cmp) (lock : Text) (ws : List ℕ) (ws_are : ws ≡ waiting) where
      pub none_takes : AllWithin (λ p. is_for lock asked p ≡ false) ws 0 (length ws) → (r : Request) → lock ≡ r.lock.text → slice_get rs i ≡ Some r → middle ≡ passed_on r.lock.text (set rs i (released r))
      none_takes none r l e =
          sym (none_waits total lock asked (set states i Released) waiting freed_kept.each_stands freed_kept.queued (subst (λ (ys : List ℕ). AllWithin (λ p. is_for lock asked p ≡ false) ys 0 (length ys)) ws_are none))
          ∙ ap₂ passed_on l (middle_is r e)

      module _ (turn p : ℕ) (first : (turn < length ws) × HoldsAt (λ p. is_for lock asked p ≡ true) ws turn × AllWithin (λ p. is_for lock asked p ≡ false) ws 0 turn) (taken : p ≡ get_or waiting turn p) where
        within : turn < length waiting
        within = subst (λ (ys : List ℕ). turn < length ys) ws_are first.0

        goes : is_for lock asked p ≡ true
        goes = ap (is_for lock asked) (taken ∙ sym (ap (λ (ys : List ℕ). get_or ys turn p) ws_are)) ∙ first.1 p

        others : AllWithin (λ p. is_for lock asked p ≡ false) waiting 0 turn
        others = subst (λ (ys : List ℕ). AllWithin (λ p. is_for lock asked p ≡ false) ys 0 turn) ws_are first.2

        abbrev taker : (q : Request) × (slice_get middle (get_or waiting turn p) ≡ Some q) × (is_waiting q.state ≡ true)
        taker = listed_stands is_waiting waiting middle freed_kept.queued turn p within

        taker_there : slice_get middle p ≡ Some taker.0
        taker_there = ap (slice_get middle) taken ∙ taker.1

        pub taker_within : p < length (set states i Released)
        taker_within = subst (λ (n : ℕ). p < n) (length_in asked (set states i Released) freed_kept.each_stands) (slice_get_within middle p taker.0 taker_there)

        pub passed_kept : IsKept asked (set (set states i Released) p Holding) table (set holding k p) (remove waiting turn)
        passed_kept = kept_passed asked states table holding waiting kept i k holder.0 holder.1 holder.2 at.0 at.1 turn p taker.0 within (sym taken) taker_there (waits_there taker.0.state taker.2)

        pub first_takes : (r : Request) → lock ≡ r.lock.text → slice_get rs i ≡ Some r → requests_in asked (set (set states i Released) p Holding) ≡ passed_on r.lock.text (set rs i (released r))
        first_takes r l e =
            passed_is asked states table holding waiting kept i k holder.0 holder.1 holder.2 at.0 at.1 turn p taker.0 within (sym taken) taker_there (waits_there taker.0.state taker.2)
            ∙ sym (first_goes total lock asked (set states i Released) waiting freed_kept.each_stands freed_kept.queued freed_kept.in_turn turn p within (sym taken) goes others taker.0 taker_there taker.2)
            ∙ ap₂ passed_on l (middle_is r e)
