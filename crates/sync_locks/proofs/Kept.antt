-- What requests keep: without any, with one more, and after a release.
use Rattle.std.proofs.Common.{◌≡◌, ℕ, ◌<◌, ◌≤◌, Bool, true, false, not, cond, List, [], ◌∷◌, ◌++◌, length, length-append, get_or, set, replicate, Option, Some, option_map, refl, sym, ◌∙◌, ap, subst, arith}
use Rattle.std.specs.Prelude.{slice_get}
use Rattle.std.specs.List.{AllPairs, remove, insert}
use Rattle.std.specs.List.Sorted.{IsPartitionedBy, IsPartitionPoint}
use Rattle.std.specs.Cmp.{IsTotalOrder}
use Rattle.std.proofs.lemmas.List.{length-set}
use Rattle.std.proofs.lemmas.List.Quantifiers.{all_pairs_remove}
use Rattle.std.proofs.lemmas.Option.{slice_get_within}
use Rattle.books.specs.declared.Request.{Request}
use Rattle.books.specs.declared.LockState.{LockState}
use Rattle.books.specs.declared.LockState.TheVariants.{Waiting, Holding, Released}
use Rattle.books.specs.Books.{rank_cmp, is_holding, is_waiting, released, held}
use Rattle.buckets.specs.Buckets.{buckets}
use Rattle.sync_locks.specs.declared.asked.Asked.{Asked}
use Rattle.sync_locks.specs.Inside.Buckets.{bucket_of}
use Rattle.sync_locks.specs.Inside.Rows.{request_of, requests_in, asked_of}
use Rattle.sync_locks.specs.Inside.Queues.{overtakes, GoesBefore, Lists, waiting_with}
use Rattle.sync_locks.specs.Inside.Tables.{places_of, IsTabled, IsKept}
use Rattle.sync_locks.proofs.Stands.{length_in, requests_more, requests_set, asked_at}
use Rattle.sync_locks.proofs.Tabled.{tabled_added, tabled_none, tabled_set}
use Rattle.sync_locks.proofs.Sums.{listed_stands, listed_skips, listed_at_end, listed_in_turn, listed_same, listed_less, listed_instead}
use Rattle.sync_locks.proofs.Lines.{parted, still, lined_up}

pub kept_none : IsKept [] [] (replicate buckets []) [] []
kept_none = record {
  each_stands = refl;
  tabled = tabled_none;
  held = λ w. refl;
  queued = λ w. refl;
  in_turn = λ i j d l h. absurd (omega (arith, h));
}

-- ---- a request more

module _ (total : IsTotalOrder rank_cmp) (asked : List Asked) (states : List LockState) (table : List (List ℕ)) (holding waiting : List ℕ) (kept : IsKept asked states table holding waiting) (a : Asked) (s : LockState) where
  abbrev rs : List Request
  rs = requests_in asked states

  long : length rs ≡ length asked
  long = length_in asked states kept.each_stands ∙ kept.each_stands

  within : (k d : ℕ) → k < length waiting → get_or waiting k d < length asked
  within k d h =
      let there = listed_stands is_waiting waiting rs kept.queued k d h in
      subst (λ (n : ℕ). get_or waiting k d < n) long (slice_get_within rs (get_or waiting k d) there.0 there.1)

  listed : (k d : ℕ) → k < length waiting → (b : Asked) × (slice_get asked (get_or waiting k d) ≡ Some b)
  listed k d h =
      let there = listed_stands is_waiting waiting rs kept.queued k d h in
      (asked_of there.0, asked_at asked states (get_or waiting k d) kept.each_stands ∙ ap (λ (o : Option Request). option_map asked_of o) there.1)

  pub queue_parted : IsPartitionedBy (λ p. not (overtakes a.rank asked p)) waiting
  queue_parted = parted total asked a waiting listed within kept.in_turn

  held_more : (b : Bool) → is_holding s ≡ b → Lists is_holding (cond b (holding ++ length rs ∷ []) holding) (rs ++ request_of a s ∷ [])
  held_more true e = listed_at_end is_holding holding rs kept.held (request_of a s) e
  held_more false e = listed_skips is_holding holding rs kept.held (request_of a s) e

  module _ (turn : ℕ) (bound : turn ≤ length waiting) (point : IsPartitionPoint (λ p. not (overtakes a.rank asked p) ≡ true) (λ p. not (overtakes a.rank asked p) ≡ false) waiting turn) where
    queued_more : (b : Bool) → is_waiting s ≡ b → Lists is_waiting (cond b (insert waiting turn (length rs)) waiting) (rs ++ request_of a s ∷ [])
    queued_more true e = listed_in_turn is_waiting waiting rs kept.queued turn (request_of a s) e
    queued_more false e = listed_skips is_waiting waiting rs kept.queued (request_of a s) e

    turn_more : (b : Bool) → AllPairs (GoesBefore (asked ++ a ∷ [])) (cond b (insert waiting turn (length rs)) waiting)
    turn_more true = subst (λ (n : ℕ). AllPairs (GoesBefore (asked ++ a ∷ [])) (insert waiting turn n)) (sym long) (lined_up total asked a waiting listed within kept.in_turn turn bound point)
    turn_more false = still total asked a waiting listed within kept.in_turn

    pub kept_more :
        (own : ℕ) → own ≡ bucket_of a.key.workflow a.key.path.sels → own < buckets →
        IsKept (asked ++ a ∷ []) (states ++ s ∷ []) (set table own (places_of own rs ++ length rs ∷ [])) (cond (is_holding s) (holding ++ length rs ∷ []) holding) (waiting_with s (length rs) turn waiting)
    kept_more own e h = record {
      each_stands = (let x = length-append asked (a ∷ []) in let y = length-append states (s ∷ []) in let z = kept.each_stands in omega arith);
      tabled = tabled_added asked states table a s own e h kept.each_stands kept.tabled;
      held = subst (Lists is_holding (cond (is_holding s) (holding ++ length rs ∷ []) holding)) (sym (requests_more asked states a s kept.each_stands)) (held_more (is_holding s) refl);
      queued = subst (Lists is_waiting (waiting_with s (length rs) turn waiting)) (sym (requests_more asked states a s kept.each_stands)) (queued_more (is_waiting s) refl);
      in_turn = turn_more (is_waiting s);
    }

-- the same of the lists as they are told
module _ (total : IsTotalOrder rank_cmp) (asked : List Asked) (states : List LockState) (table : List (List ℕ)) (holding waiting : List ℕ) (kept : IsKept asked states table holding waiting) (a : Asked) (s : LockState) (rs : List Request) (view : requests_in asked states ≡ rs) where
  pub kept_added :
      (ws : List ℕ) → ws ≡ waiting → (turn : ℕ) → turn ≤ length ws →
      (IsPartitionedBy (λ p. not (overtakes a.rank asked p)) ws → IsPartitionPoint (λ p. not (overtakes a.rank asked p) ≡ true) (λ p. not (overtakes a.rank asked p) ≡ false) ws turn) →
      (own : ℕ) → own ≡ bucket_of a.key.workflow a.key.path.sels → own < buckets →
      (place : ℕ) → place ≡ length rs → (bucket : List ℕ) → bucket ≡ places_of own rs →
      (asked' : List Asked) → asked' ≡ asked ++ a ∷ [] → (states' : List LockState) → states' ≡ states ++ s ∷ [] →
      (table' : List (List ℕ)) → table' ≡ set table own (bucket ++ place ∷ []) →
      (holding' : List ℕ) → holding' ≡ cond (is_holding s) (holding ++ place ∷ []) holding → (waiting' : List ℕ) → waiting' ≡ waiting_with s place turn waiting →
      IsKept asked' states' table' holding' waiting'
  kept_added ws ws_are turn bound point own e h place place_is bucket bucket_is asked' asked_is states' states_is table' table_is holding' holding_is waiting' waiting_is =
      let long : place ≡ length (requests_in asked states) = place_is ∙ ap (λ (x : List Request). length x) (sym view) in
      let places : bucket ≡ places_of own (requests_in asked states) = bucket_is ∙ ap (places_of own) (sym view) in
      rw (asked_is, states_is, table_is, holding_is, waiting_is, places, long)
      (kept_more total asked states table holding waiting kept a s turn
      (subst (λ (xs : List ℕ). turn ≤ length xs) ws_are bound)
      (subst (λ (xs : List ℕ). IsPartitionPoint (λ p. not (overtakes a.rank asked p) ≡ true) (λ p. not (overtakes a.rank asked p) ≡ false) xs turn) ws_are
      (point (subst (λ (xs : List ℕ). IsPartitionedBy (λ p. not (overtakes a.rank asked p)) xs) (sym ws_are) (queue_parted total asked states table holding waiting kept a s))))
      own e h)

-- ---- a release

module _ (asked : List Asked) (states : List LockState) (table : List (List ℕ)) (holding waiting : List ℕ) (kept : IsKept asked states table holding waiting) (i k : ℕ) (r : Request) (there : slice_get (requests_in asked states) i ≡ Some r) (holds : r.state ≡ Holding) (listed_within : k < length holding) (listed_at : get_or holding k i ≡ i) where
  abbrev old : List Request
  old = requests_in asked states

  pub freed_is : requests_in asked (set states i Released) ≡ set old i (released r)
  freed_is = requests_set asked states i Released r kept.each_stands there

  -- no waiter takes the lock
  pub kept_freed : IsKept asked (set states i Released) table (remove holding k) waiting
  kept_freed = record {
    each_stands = length-set states i Released ∙ kept.each_stands;
    tabled = subst (λ (x : List Request). IsTabled x table) (sym freed_is) (tabled_set old table i Released r there kept.tabled);
    held = subst (Lists is_holding (remove holding k)) (sym freed_is) (listed_less is_holding holding old kept.held i k (released r) r there listed_within listed_at (ap is_holding holds) refl);
    queued = subst (Lists is_waiting waiting) (sym freed_is) (listed_same is_waiting waiting old kept.queued i (released r) r there (ap is_waiting holds) refl);
    in_turn = kept.in_turn;
  }

  -- a waiter takes it
  module _ (turn p : ℕ) (q : Request) (within : turn < length waiting) (at : get_or waiting turn p ≡ p) (next : slice_get (requests_in asked (set states i Released)) p ≡ Some q) (waits : q.state ≡ Waiting) where
    pub passed_is : requests_in asked (set (set states i Released) p Holding) ≡ set (requests_in asked (set states i Released)) p (held q)
    passed_is = requests_set asked (set states i Released) p Holding q kept_freed.each_stands next

    pub kept_passed : IsKept asked (set (set states i Released) p Holding) table (set holding k p) (remove waiting turn)
    kept_passed = record {
      each_stands = length-set (set states i Released) p Holding ∙ kept_freed.each_stands;
      tabled = subst (λ (x : List Request). IsTabled x table) (sym passed_is) (tabled_set (requests_in asked (set states i Released)) table p Holding q next kept_freed.tabled);
      held =
          subst (Lists is_holding (set holding k p)) (sym passed_is)
          (listed_instead is_holding holding (requests_in asked (set states i Released)) p k (held q) q listed_within kept_freed.held next (ap is_holding waits) refl);
      queued =
          subst (Lists is_waiting (remove waiting turn)) (sym passed_is)
          (listed_less is_waiting waiting (requests_in asked (set states i Released)) kept_freed.queued p turn (held q) q next within at (ap is_waiting waits) refl);
      in_turn = all_pairs_remove (GoesBefore asked) waiting turn within kept.in_turn;
    }
