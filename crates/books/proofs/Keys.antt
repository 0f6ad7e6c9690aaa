-- Equal keys, and lists of requests whose keys differ.
use Rattle.std.proofs.Common.{◌≡◌, ℕ, Bool, true, false, cond, ◌&&◌, ◌||◌, List, [], ◌∷◌, ◌++◌, Some, None, refl, sym, ◌∙◌, ap, ap₂, true≢false, zero, suc, length, map, bytes_eq}
use Rattle.std.specs.List.{list_any}
use Rattle.std.proofs.lemmas.Slice.Eq.{bytes_eq-Decides}
use Rattle.std.proofs.lemmas.List.Folds.{list_any-append}
use Rattle.tree_types.specs.declared.path.Sel.{Sel}
use Rattle.tree_types.specs.declared.entry.HolderKey.{HolderKey}
use Rattle.tree_types.specs.Places.{sels_eq}
use Rattle.books.specs.declared.Request.{Request}
use Rattle.books.specs.Books.{Text, key_eq, held, released, change_first, released_only, granted_once, granted_times, granted, is_next, request, filed_only, filed, freed, request_of}
use Rattle.books.specs.Laws.{is_of, KeysDiffer}
use Rattle.tree_types.specs.declared.entry.Limit.{Limit}
use Rattle.tree_types.specs.declared.entry.Rank.{Rank}
use Rattle.tree_types.specs.declared.path.LockId.{LockId}
use Rattle.tree_types.proofs.Sels.{sels_are, sels_same}
use Rattle.books.proofs.Books.{either_false}

both_true : (a b : Bool) → (a && b) ≡ true → (a ≡ true) × (b ≡ true)
both_true true b h = (refl, h)
both_true false b h = absurd (true≢false (sym h))

abbrev key_of : Text → List Sel → HolderKey
key_of w p = record { workflow = w; path = record { sels = p } }

pub key_same : (a b : HolderKey) → key_eq a b ≡ true → a ≡ b
key_same a b h =
    let two = both_true (bytes_eq a.workflow b.workflow) (sels_eq a.path.sels b.path.sels) h in
    ap₂ key_of ((bytes_eq-Decides a.workflow b.workflow).0 two.0) (sels_same a.path.sels b.path.sels two.1)

pub key_is : (a : HolderKey) → key_eq a a ≡ true
key_is a = ap₂ ◌&&◌ ((bytes_eq-Decides a.workflow a.workflow).1 refl) (sels_are a.path.sels)

-- ---- keys differ

-- the keys in order
keys : List Request → List HolderKey
keys rs = map (λ (r : Request). r.key) rs

any_key : (key : HolderKey) (rs : List Request) → list_any (is_of key) rs ≡ list_any (key_eq key) (keys rs)
unfolding keys
any_key key [] = refl
any_key key (r ∷ rs) = ap (λ b. key_eq key r.key || b) (any_key key rs)

-- whether keys differ is told by the keys
apart_alike : (rs ss : List Request) → keys rs ≡ keys ss → KeysDiffer rs → KeysDiffer ss
unfolding keys
apart_alike [] [] e h = tt
apart_alike [] (s ∷ ss) e h = absurd (cc e)
apart_alike (r ∷ rs) [] e h = absurd (cc e)
apart_alike (r ∷ rs) (s ∷ ss) e h =
    let first : r.key ≡ s.key = cc in
    let rest : keys rs ≡ keys ss = cc in
    (sym (any_key s.key rs ∙ ap (list_any (key_eq s.key)) rest ∙ sym (any_key s.key ss)) ∙ ap (λ k. list_any (is_of k) rs) (sym first) ∙ h.0, apart_alike rs ss rest h.1)

keys_changed : (test : Request → Bool) (f : Request → Request) → ((r : Request) → (f r).key ≡ r.key) → (rs : List Request) → keys (change_first test f rs) ≡ keys rs
unfolding keys
keys_changed test f same [] = refl
keys_changed test f same (r ∷ rs) = by (test r) (keys_changed test f same rs)
  where
    by : (b : Bool) → keys (change_first test f rs) ≡ keys rs → keys (cond b (f r ∷ rs) (r ∷ change_first test f rs)) ≡ keys (r ∷ rs)
    by true h = ap (λ k. k ∷ keys rs) (same r)
    by false h = ap (λ ks. r.key ∷ ks) h

keys_granted : (n : ℕ) (limits : List Limit) (rs : List Request) → keys (granted_times n limits rs) ≡ keys rs
keys_granted zero limits rs = refl
keys_granted (suc n) limits rs = keys_granted n limits (granted_once limits rs) ∙ keys_changed (is_next limits rs) held (λ r. refl) rs

keys_released : (key : HolderKey) (rs : List Request) → keys (released_only key rs) ≡ keys rs
unfolding keys
keys_released key [] = refl
keys_released key (r ∷ rs) = ap₂ (λ (k : HolderKey) (ks : List HolderKey). k ∷ ks) (by (key_eq key r.key)) (keys_released key rs)
  where
    by : (b : Bool) → (cond b (released r) r).key ≡ r.key
    by true = refl
    by false = refl

granted_apart : (limits : List Limit) (rs : List Request) → KeysDiffer rs → KeysDiffer (granted limits rs)
granted_apart limits rs h = apart_alike rs (granted limits rs) (sym (keys_granted (length rs) limits rs)) h

pub freed_apart : (limits : List Limit) (key : HolderKey) (rs : List Request) → KeysDiffer rs → KeysDiffer (freed limits key rs)
freed_apart limits key rs h = granted_apart limits (released_only key rs) (apart_alike rs (released_only key rs) (sym (keys_released key rs)) h)

-- a key is not filed where it has no request
pub unfiled : (key : HolderKey) (rs : List Request) → request_of rs key ≡ None → list_any (is_of key) rs ≡ false
unfiled key [] h = refl
unfiled key (r ∷ rs) h = by (key_eq key r.key) h (λ k. unfiled key rs k)
  where
    by : (b : Bool) → cond b (Some r) (request_of rs key) ≡ None → (request_of rs key ≡ None → list_any (is_of key) rs ≡ false) → (b || list_any (is_of key) rs) ≡ false
    by true h ih = absurd (cc h)
    by false h ih = ih h

added_apart : (q : Request) (rs : List Request) → KeysDiffer rs → list_any (is_of q.key) rs ≡ false → KeysDiffer (rs ++ q ∷ [])
added_apart q [] h n = (refl, tt)
added_apart q (r ∷ rs) h n =
    let two = either_false (key_eq q.key r.key) (list_any (is_of q.key) rs) n in
    (list_any-append (is_of r.key) rs (q ∷ []) ∙ ap₂ ◌||◌ h.0 (ap (λ b. b || false) (other (key_eq r.key q.key) refl two.0)), added_apart q rs h.1 two.1)
  where
    other : (b : Bool) → key_eq r.key q.key ≡ b → key_eq q.key r.key ≡ false → key_eq r.key q.key ≡ false
    other false e n = e
    other true e n = let same : r.key ≡ q.key = key_same r.key q.key e in absurd (true≢false (sym (key_is r.key) ∙ ap (λ k. key_eq k r.key) same ∙ n))

pub filed_apart : (limits : List Limit) (lock : LockId) (key : HolderKey) (rank : Rank) (rs : List Request) → KeysDiffer rs → request_of rs key ≡ None → KeysDiffer (filed limits lock key rank rs)
filed_apart limits lock key rank rs h n = granted_apart limits (filed_only lock key rank rs) (added_apart (request lock key rank) rs h (unfiled key rs n))
