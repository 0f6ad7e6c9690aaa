-- A filing and a release, as the code does them, are those of the definitions.
use Rattle.std.proofs.Common.{◌≡◌, ℕ, Bool, true, false, nat_lt, List, [], ◌∷◌, ◌++◌, Option, Some, None, option_map, refl, sym, ◌∙◌, ap, ap₂, subst}
use Rattle.std.specs.Prelude.{slice_get, slice_set}
use Rattle.tree_types.specs.declared.path.LockId.{LockId}
use Rattle.tree_types.specs.declared.entry.HolderKey.{HolderKey}
use Rattle.tree_types.specs.declared.entry.Limit.{Limit}
use Rattle.tree_types.specs.declared.entry.Rank.{Rank}
use Rattle.books.specs.declared.Request.{Request}
use Rattle.books.specs.declared.LockState.{LockState}
use Rattle.books.specs.declared.LockState.TheVariants.{Holding}
use Rattle.books.specs.Books.{limit_of, holders, has_room, request, filed, freed, released, change_first, request_of}
use Rattle.books.specs.Laws.{is_of, IsWellKept, FilesOnce, FilesWellKept, FreesWellKept, ReleasesOnce, with_new, passed_on}
use Rattle.sync_locks.specs.Inside.Rows as rows
use Rattle.sync_locks.specs.Book.{state_in, place}
use Rattle.sync_locks.specs.Inside.Rows.{state_by}
use Rattle.sync_locks.proofs.Places.{At, at_place}
use Rattle.sync_locks.proofs.Changes.{stands_at, changed_at, request_at, request_placed, holder_there}

-- ---- a filing

module _ (once : FilesOnce) (limits : List Limit) (rs : List Request) (lock : LockId) (key : HolderKey) (rank : Rank) (kept : IsWellKept limits rs) where
  -- a new request with the state that the room of its lock gives it
  pub filed_row : (count limit : ℕ) (state : LockState) → count ≡ holders lock.text rs → limit ≡ limit_of limits lock.text → state ≡ state_by (nat_lt count limit) → rs ++ rows.request_of (record { lock = lock; key = key; rank = rank }) state ∷ [] ≡ filed limits lock key rank rs
  filed_row count limit state n l s =
      ap (λ (x : LockState). rs ++ rows.request_of (record { lock = lock; key = key; rank = rank }) x ∷ []) (s ∙ ap₂ (λ (a b : ℕ). state_by (nat_lt a b)) n l)
      ∙ by (has_room limits rs lock.text)
      ∙ sym (once limits rs lock key rank kept.settled)
    where
      by : (b : Bool) → rs ++ rows.request_of (record { lock = lock; key = key; rank = rank }) (state_by b) ∷ [] ≡ with_new b rs (request lock key rank)
      by true = refl
      by false = refl

  nothing_asked : (o : Option Request) → option_map (λ (r : Request). r.state) o ≡ None → o ≡ None
  nothing_asked None e = refl
  nothing_asked (Some r) e = absurd (cc e)

  pub filed_kept : FilesWellKept → state_in key rs ≡ None → (ss : List Request) → ss ≡ filed limits lock key rank rs → IsWellKept limits ss
  filed_kept files n ss e = subst (IsWellKept limits) (sym e) (files limits rs lock key rank kept (nothing_asked (request_of rs key) n))

-- ---- a release

some_same : (a b : Request) → Some a ≡ Some b → a ≡ b
some_same a b e = cc

-- the request of the key is released at its place, and its lock passed on from there
module _ (once : ReleasesOnce) (frees : FreesWellKept) (limits : List Limit) (rs after : List Request) (key : HolderKey) (i : ℕ) (kept : IsWellKept limits rs) (placed : place (is_of key) rs ≡ Some i) (holds : state_in key rs ≡ Some Holding) (passed : (r : Request) → slice_get rs i ≡ Some r → after ≡ passed_on r.lock.text (slice_set rs i (released r))) where
  a : At (is_of key) rs i
  a = at_place (is_of key) rs i placed

  after_is : after ≡ passed_on a.found.lock.text (change_first (is_of key) released rs)
  after_is = passed a.found (stands_at (is_of key) rs i a) ∙ ap (passed_on a.found.lock.text) (sym (changed_at (is_of key) released rs i a))

  pub freed_rows : after ≡ freed limits key rs
  freed_rows = by (holder_there key rs holds)
    where
      by : (r : Request) × (request_of rs key ≡ Some r) × (r.state ≡ Holding) → after ≡ freed limits key rs
      by x =
          let same = some_same x.0 a.found (sym x.1 ∙ request_at key rs i a) in
          after_is
          ∙ ap (λ (q : Request). passed_on q.lock.text (change_first (is_of key) released rs)) (sym same)
          ∙ sym (once limits rs key x.0 kept x.1 x.2)

  pub freed_kept : IsWellKept limits after
  freed_kept = subst (IsWellKept limits) (sym freed_rows) (frees limits rs key kept)

-- the request at the place of a key stands as that of the key
pub stands_so : (rs : List Request) (key : HolderKey) (i : ℕ) → place (is_of key) rs ≡ Some i → state_in key rs ≡ Some Holding → option_map rows.state_of (slice_get rs i) ≡ Some Holding
stands_so rs key i placed holds = ap (option_map rows.state_of) (request_placed key rs i placed) ∙ holds
