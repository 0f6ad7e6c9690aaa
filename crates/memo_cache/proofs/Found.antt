-- What is found in a bucket is what is found among all saves, and walks through a bucket.
use Rattle.std.proofs.Common.{◌≡◌, ℕ, ◌+◌, Bool, true, false, cond, ◌||◌, List, [], ◌∷◌, ◌++◌, drop, drop-cons, take, add-one, true≢false, refl, sym, ◌∙◌, ap, ap₂}
use Rattle.std.specs.Prelude.{Option, Some, None, slice_get}
use Rattle.std.specs.List.{filter, list_any}
use Rattle.std.proofs.lemmas.List.{take-append-drop}
use Rattle.std.proofs.lemmas.Option.{slice_get_within, get_or_from_slice_get}
use Rattle.tree_types.specs.declared.entry.HolderKey.{HolderKey}
use Rattle.saves.specs.declared.Saved.{Saved}
use Rattle.saves.specs.Saves.{is_of, is_by, later_or, last_save, has_saved}
use Rattle.memo_cache.specs.Inside.Buckets.{writer_bucket, key_bucket}
use Rattle.memo_cache.specs.Inside.Tables.{by_writer, by_key, belongs, bucket_of}
use Rattle.memo_cache.proofs.Keys.{by_writer_there, by_key_there}

-- ---- in a bucket

any_among : (test chosen : Saved → Bool) → ((s : Saved) → test s ≡ true → chosen s ≡ true) → (ss : List Saved) → list_any test (filter chosen ss) ≡ list_any test ss
any_among test chosen only [] = refl
any_among test chosen only (s ∷ ss) = by (test s) (chosen s) refl refl (any_among test chosen only ss)
  where
    by : (t c : Bool) → test s ≡ t → chosen s ≡ c → list_any test (filter chosen ss) ≡ list_any test ss → list_any test (cond c (s ∷ filter chosen ss) (filter chosen ss)) ≡ (t || list_any test ss)
    by true true e f rest = ap (λ (b : Bool). b || list_any test (filter chosen ss)) e
    by true false e f rest = absurd (true≢false (sym (only s e) ∙ f))
    by false true e f rest = ap (λ (b : Bool). b || list_any test (filter chosen ss)) e ∙ rest
    by false false e f rest = rest

-- each save by a writer is in the bucket of the writer
pub has_in_bucket : (key : HolderKey) (ss : List Saved) → has_saved key (bucket_of by_writer (writer_bucket key.workflow key.path.sels) ss) ≡ has_saved key ss
has_in_bucket key ss = any_among (is_by key) (belongs by_writer (writer_bucket key.workflow key.path.sels)) (by_writer_there key) ss

not_later : (o : Option Saved) (s : Saved) → later_or o false s ≡ o
not_later None s = refl
not_later (Some t) s = refl

last_among : (chosen : Saved → Bool) (cache key : List ℕ) → ((s : Saved) → is_of cache key s ≡ true → chosen s ≡ true) → (ss : List Saved) → last_save (filter chosen ss) cache key ≡ last_save ss cache key
last_among chosen cache key only [] = refl
last_among chosen cache key only (s ∷ ss) = by (is_of cache key s) (chosen s) refl refl (last_among chosen cache key only ss)
  where
    by : (t c : Bool) → is_of cache key s ≡ t → chosen s ≡ c → last_save (filter chosen ss) cache key ≡ last_save ss cache key → last_save (cond c (s ∷ filter chosen ss) (filter chosen ss)) cache key ≡ later_or (last_save ss cache key) t s
    by t true e f rest = ap₂ (λ (o : Option Saved) (b : Bool). later_or o b s) rest e
    by true false e f rest = absurd (true≢false (sym (only s e) ∙ f))
    by false false e f rest = rest ∙ sym (not_later (last_save ss cache key) s)

-- each save of a key is in the bucket of the key
pub last_in_bucket : (cache key : List ℕ) (ss : List Saved) → last_save (bucket_of by_key (key_bucket cache key) ss) cache key ≡ last_save ss cache key
last_in_bucket cache key ss = last_among (belongs by_key (key_bucket cache key)) cache key (by_key_there cache key) ss

-- ---- walks through a bucket

from_here : (ss : List Saved) (i : ℕ) (s : Saved) → slice_get ss i ≡ Some s → drop i ss ≡ s ∷ drop (i + 1) ss
from_here ss i s there =
    drop-cons ss i s (slice_get_within ss i s there) ∙ ap₂ (λ (x : Saved) (n : ℕ). x ∷ drop n ss) (get_or_from_slice_get ss i s s there) (sym (add-one i))

-- forwards, to a save by a writer
pub has_from : (key : HolderKey) (ss : List Saved) (i : ℕ) (s : Saved) (b : Bool) → slice_get ss i ≡ Some s → is_by key s ≡ b → has_saved key (drop i ss) ≡ has_saved key ss → (b || has_saved key (drop (i + 1) ss)) ≡ has_saved key ss
has_from key ss i s b there is rest =
    ap (λ (t : Bool). t || has_saved key (drop (i + 1) ss)) (sym is) ∙ ap (has_saved key) (sym (from_here ss i s there)) ∙ rest

-- backwards, to the last save of a key
pub last_from : (ss : List Saved) (i : ℕ) (s : Saved) (cache key : List ℕ) (b : Bool) → slice_get ss i ≡ Some s → last_save (drop (i + 1) ss) cache key ≡ None → is_of cache key s ≡ b → last_save (drop i ss) cache key ≡ later_or None b s
last_from ss i s cache key b there none is =
    ap (λ (x : List Saved). last_save x cache key) (from_here ss i s there) ∙ ap₂ (λ (o : Option Saved) (x : Bool). later_or o x s) none is

-- a save that stands further back is the last one
later_there : (front back : List Saved) (s : Saved) (cache key : List ℕ) → last_save back cache key ≡ Some s → last_save (front ++ back) cache key ≡ Some s
later_there [] back s cache key e = e
later_there (f ∷ front) back s cache key e = ap (λ (o : Option Saved). later_or o (is_of cache key f) f) (later_there front back s cache key e)

pub is_last : (ss : List Saved) (i : ℕ) (s : Saved) (cache key : List ℕ) → last_save (drop i ss) cache key ≡ Some s → last_save ss cache key ≡ Some s
is_last ss i s cache key e =
    ap (λ (x : List Saved). last_save x cache key) (sym (take-append-drop i ss)) ∙ later_there (take i ss) (drop i ss) s cache key e
