-- Holders by their places and buckets: with one more, without one, and with one in place of another.
use Rattle.std.proofs.Common.{◌≡◌, ℕ, zero, suc, ◌+◌, ◌==◌, Bool, true, false, cond, ◌&&◌, ◌||◌, List, [], ◌∷◌, ◌++◌, length, set, take, drop, eq-eqb, option_map, refl, sym, ◌∙◌, ap, ap₂, true≢false}
use Rattle.std.specs.Prelude.{slice_get}
use Rattle.std.specs.List.{list_any, sum_by, remove, AllPass}
use Rattle.std.proofs.lemmas.Bool.{eqb-true}
use Rattle.std.proofs.lemmas.List.{map-append, map_push, map-set, drop-map, take-map}
use Rattle.std.proofs.lemmas.List.Elements.{All-append, All-push, All-set, All-take, All-drop, All-weaker, All-head, All-tail}
use Rattle.std.proofs.lemmas.List.Sums.{sum_by-cons}
use Rattle.tree_types.specs.declared.entry.HolderKey.{HolderKey}
use Rattle.books.specs.declared.Request.{Request}
use Rattle.books.specs.declared.LockState.{LockState}
use Rattle.books.specs.Books.{is_holding}
use Rattle.books.specs.Laws.{is_of}
use Rattle.sync_locks.specs.declared.asked.Asked.{Asked}
use Rattle.sync_locks.specs.declared.holder.Holder.{Holder}
use Rattle.sync_locks.specs.Inside.Buckets.{bucket_of}
use Rattle.sync_locks.specs.Inside.Queues.{asks}
use Rattle.sync_locks.specs.Inside.Rows.{requests_in, asked_of, is_at}
use Rattle.sync_locks.specs.Inside.Holders.{places_in, is_bucketed, is_there, holding_with}
use Rattle.sync_locks.proofs.Keys.{belongs_there}
use Rattle.sync_locks.proofs.Stands.{asked_seen}
use Rattle.sync_locks.proofs.Sums.{pass_there}

-- ---- places

pub places_with : (s : LockState) (h : Holder) (hs : List Holder) → places_in (holding_with s h hs) ≡ cond (is_holding s) (places_in hs ++ h.place ∷ []) (places_in hs)
places_with s h hs = by (is_holding s)
  where
    by : (b : Bool) → places_in (cond b (hs ++ h ∷ []) hs) ≡ cond b (places_in hs ++ h.place ∷ []) (places_in hs)
    by true = map_push (λ (x : Holder). x.place) hs h
    by false = refl

pub places_set : (hs : List Holder) (k : ℕ) (h : Holder) → places_in (set hs k h) ≡ set (places_in hs) k h.place
places_set hs k h = map-set (λ (x : Holder). x.place) hs k h

pub places_without : (hs : List Holder) (k : ℕ) → places_in (remove hs k) ≡ remove (places_in hs) k
places_without hs k =
    map-append (λ (x : Holder). x.place) (take k hs) (drop (suc k) hs)
    ∙ sym (ap₂ ◌++◌ (take-map (λ (x : Holder). x.place) k hs) (drop-map (λ (x : Holder). x.place) (suc k) hs))

-- ---- what is looked for at places

pub any_at_places : (test : ℕ → Bool) (hs : List Holder) → list_any (λ (h : Holder). test h.place) hs ≡ list_any test (places_in hs)
any_at_places test [] = refl
any_at_places test (h ∷ hs) = ap (λ (b : Bool). test h.place || b) (any_at_places test hs)

pub sum_at_places : (w : ℕ → ℕ) (hs : List Holder) → sum_by (λ (h : Holder). w h.place) hs ≡ sum_by w (places_in hs)
sum_at_places w [] = refl
sum_at_places w (h ∷ hs) =
    sum_by-cons (λ (x : Holder). w x.place) h hs ∙ ap (λ (n : ℕ). w h.place + n) (sum_at_places w hs) ∙ sym (sum_by-cons w h.place (places_in hs))

-- ---- those whose keys have the bucket of a key

module _ (asked : List Asked) (states : List LockState) (rs : List Request) (even : length states ≡ length asked) (view : requests_in asked states ≡ rs) (key : HolderKey) (bucket : ℕ) (own : bucket ≡ bucket_of key.workflow key.path.sels) where
  -- whose request is of the key has its bucket
  has_bucket : (h : Holder) → is_bucketed asked h ≡ true → is_at (is_of key) rs h.place ≡ true → (h.bucket == bucket) ≡ true
  has_bucket h e t =
      let at = pass_there (is_of key) (slice_get rs h.place) t in
      let there = asked_seen asked states rs h.place even view ∙ ap (option_map asked_of) at.1 in
      let mine = sym (ap (asks (λ a. bucket_of a.key.workflow a.key.path.sels == h.bucket)) there) ∙ e in
      eq-eqb h.bucket bucket
      (sym (eqb-true (bucket_of at.0.key.workflow at.0.key.path.sels) h.bucket mine)
      ∙ eqb-true (bucket_of at.0.key.workflow at.0.key.path.sels) (bucket_of key.workflow key.path.sels) (belongs_there key at.0 at.2)
      ∙ sym own)

  pub any_there : (hs : List Holder) → AllPass (is_bucketed asked) hs → list_any (is_there bucket (is_of key) rs) hs ≡ list_any (is_at (is_of key) rs) (places_in hs)
  any_there [] all = refl
  any_there (h ∷ hs) all =
      ap₂ ◌||◌
      (by (h.bucket == bucket) (is_at (is_of key) rs h.place) (has_bucket h (All-head (λ x. is_bucketed asked x ≡ true) h hs all)))
      (any_there hs (All-tail (λ x. is_bucketed asked x ≡ true) h hs all))
    where
      by : (b t : Bool) → (t ≡ true → b ≡ true) → (b && t) ≡ t
      by true t f = refl
      by false true f = f refl
      by false false f = refl

-- ---- buckets

still : (test : Asked → Bool) (asked : List Asked) (a : Asked) (n : ℕ) → asks test (slice_get asked n) ≡ true → asks test (slice_get (asked ++ a ∷ []) n) ≡ true
still test [] a n e = absurd (true≢false (sym e))
still test (b ∷ asked) a zero e = e
still test (b ∷ asked) a (suc n) e = still test asked a n e

last : (test : Asked → Bool) (asked : List Asked) (a : Asked) → test a ≡ true → asks test (slice_get (asked ++ a ∷ []) (length asked)) ≡ true
last test [] a e = e
last test (b ∷ asked) a e = last test asked a e

pub bucketed_with : (asked : List Asked) (a : Asked) (s : LockState) (h : Holder) (hs : List Holder) → h.place ≡ length asked → bucket_of a.key.workflow a.key.path.sels ≡ h.bucket → AllPass (is_bucketed asked) hs → AllPass (is_bucketed (asked ++ a ∷ [])) (holding_with s h hs)
bucketed_with asked a s h hs at own all = by (is_holding s)
  where
    more : AllPass (is_bucketed (asked ++ a ∷ [])) hs
    more = All-weaker (λ x. is_bucketed asked x ≡ true) (λ x. is_bucketed (asked ++ a ∷ []) x ≡ true) (λ x e. still (λ y. bucket_of y.key.workflow y.key.path.sels == x.bucket) asked a x.place e) hs all

    new : is_bucketed (asked ++ a ∷ []) h ≡ true
    new =
        ap (λ (n : ℕ). asks (λ y. bucket_of y.key.workflow y.key.path.sels == h.bucket) (slice_get (asked ++ a ∷ []) n)) at
        ∙ last (λ y. bucket_of y.key.workflow y.key.path.sels == h.bucket) asked a (eq-eqb (bucket_of a.key.workflow a.key.path.sels) h.bucket own)

    by : (b : Bool) → AllPass (is_bucketed (asked ++ a ∷ [])) (cond b (hs ++ h ∷ []) hs)
    by true = All-push (λ x. is_bucketed (asked ++ a ∷ []) x ≡ true) hs h more new
    by false = more

module _ (asked : List Asked) (hs : List Holder) (k : ℕ) (all : AllPass (is_bucketed asked) hs) where
  pub bucketed_without : AllPass (is_bucketed asked) (remove hs k)
  bucketed_without =
      All-append (λ x. is_bucketed asked x ≡ true) (take k hs) (drop (suc k) hs)
      (All-take (λ x. is_bucketed asked x ≡ true) k hs all)
      (All-drop (λ x. is_bucketed asked x ≡ true) (suc k) hs all)

  pub bucketed_set : (h : Holder) → is_bucketed asked h ≡ true → AllPass (is_bucketed asked) (set hs k h)
  bucketed_set h e = All-set (λ x. is_bucketed asked x ≡ true) hs k h e all
