-- A table of the places of requests: with one request more, or one in another state, and what is found by it.
use Rattle.std.proofs.Common.{◌≡◌, ℕ, zero, suc, ◌+◌, ◌<◌, Bool, true, false, cond, List, [], ◌∷◌, ◌++◌, length, drop, drop-cons, add-one, set, replicate, eq-eqb, Option, Some, None, option_map, refl, sym, ◌∙◌, ap, ap₂, subst, arith, true≢false}
use Rattle.std.specs.Prelude.{slice_get}
use Rattle.std.specs.List.{find}
use Rattle.std.proofs.lemmas.Bool.{eqb-true}
use Rattle.std.proofs.lemmas.List.{append-nil}
use Rattle.std.proofs.lemmas.Option.{slice_get_within, get_or_from_slice_get}
use Rattle.tree_types.specs.declared.entry.HolderKey.{HolderKey}
use Rattle.books.specs.declared.Request.{Request}
use Rattle.books.specs.declared.LockState.{LockState}
use Rattle.books.specs.Laws.{is_of}
use Rattle.sync_locks.specs.declared.asked.Asked.{Asked}
use Rattle.buckets.specs.Buckets.{buckets}
use Rattle.sync_locks.specs.Inside.Buckets.{bucket_of}
use Rattle.sync_locks.specs.Book.{place}
use Rattle.sync_locks.specs.Inside.Rows.{request_of, requests_in, is_at}
use Rattle.sync_locks.specs.Inside.Tables.{belongs, places_from, places_of, IsTabled}
use Rattle.sync_locks.proofs.Keys.{belongs_there}
use Rattle.sync_locks.proofs.Stands.{requests_more, some_same, there}

-- ---- a table in which one bucket was replaced

set_same : {X : Type 0} (xs : List X) (i : ℕ) (x : X) → i < length xs → slice_get (set xs i x) i ≡ Some x
set_same [] i x h = absurd (omega arith)
set_same (y ∷ xs) zero x h = refl
set_same (y ∷ xs) (suc i) x h = set_same xs i x (omega arith)

set_other : {X : Type 0} (xs : List X) (i j : ℕ) (x : X) → (j ≡ i → ⊥) → slice_get (set xs i x) j ≡ slice_get xs j
set_other [] i j x h = refl
set_other (y ∷ xs) zero zero x h = absurd (h refl)
set_other (y ∷ xs) zero (suc j) x h = refl
set_other (y ∷ xs) (suc i) zero x h = refl
set_other (y ∷ xs) (suc i) (suc j) x h = set_other xs i j x (λ e. h (ap suc e))

-- ---- one request more

places_more : (here bucket : ℕ) (rs : List Request) (r : Request) → places_from here bucket (rs ++ r ∷ []) ≡ places_from here bucket rs ++ cond (belongs bucket r) ((here + length rs) ∷ []) []
places_more here bucket [] r = ap (λ (n : ℕ). cond (belongs bucket r) (n ∷ []) []) (let e : here ≡ here + 0 = omega arith in e)
places_more here bucket (q ∷ rs) r = by (belongs bucket q) (places_more (suc here) bucket rs r ∙ ap (λ (n : ℕ). places_from (suc here) bucket rs ++ cond (belongs bucket r) (n ∷ []) []) (let e : suc here + length rs ≡ here + suc (length rs) = omega arith in e))
  where
    by : (b : Bool) → places_from (suc here) bucket (rs ++ r ∷ []) ≡ places_from (suc here) bucket rs ++ cond (belongs bucket r) ((here + suc (length rs)) ∷ []) [] → cond b (here ∷ places_from (suc here) bucket (rs ++ r ∷ [])) (places_from (suc here) bucket (rs ++ r ∷ [])) ≡ cond b (here ∷ places_from (suc here) bucket rs) (places_from (suc here) bucket rs) ++ cond (belongs bucket r) ((here + suc (length rs)) ∷ []) []
    by true e = ap (λ x. here ∷ x) e
    by false e = e

bucket_more : (bucket : ℕ) (rs : List Request) (r : Request) → belongs bucket r ≡ true → places_of bucket (rs ++ r ∷ []) ≡ places_of bucket rs ++ length rs ∷ []
bucket_more bucket rs r e =
    places_more 0 bucket rs r
    ∙ ap (λ (b : Bool). places_of bucket rs ++ cond b ((0 + length rs) ∷ []) []) e
    ∙ ap (λ (n : ℕ). places_of bucket rs ++ n ∷ []) (let z : 0 + length rs ≡ length rs = omega arith in z)

bucket_same : (bucket : ℕ) (rs : List Request) (r : Request) → belongs bucket r ≡ false → places_of bucket (rs ++ r ∷ []) ≡ places_of bucket rs
bucket_same bucket rs r e =
    places_more 0 bucket rs r ∙ ap (λ (b : Bool). places_of bucket rs ++ cond b ((0 + length rs) ∷ []) []) e ∙ append-nil (places_of bucket rs)

more_by : (rs : List Request) (table : List (List ℕ)) (r : Request) (own bucket : ℕ) → own ≡ bucket_of r.key.workflow r.key.path.sels → bucket < buckets → own < length table → IsTabled rs table → (b : Bool) → belongs bucket r ≡ b → slice_get (set table own (places_of own rs ++ length rs ∷ [])) bucket ≡ Some (places_of bucket (rs ++ r ∷ []))
more_by rs table r own bucket e h w t true here =
    let same : own ≡ bucket = e ∙ eqb-true (bucket_of r.key.workflow r.key.path.sels) bucket here in
    let places : List ℕ = places_of own rs ++ length rs ∷ [] in
    ap (λ (k : ℕ). slice_get (set table own places) k) (sym same) ∙ set_same table own places w ∙ ap Some (ap (λ (k : ℕ). places_of k rs ++ length rs ∷ []) same ∙ sym (bucket_more bucket rs r here))
more_by rs table r own bucket e h w t false here =
    let apart = λ (same : bucket ≡ own). let on : belongs bucket r ≡ true = eq-eqb (bucket_of r.key.workflow r.key.path.sels) bucket (sym (same ∙ e)) in true≢false (sym on ∙ here) in
    set_other table own bucket (places_of own rs ++ length rs ∷ []) apart ∙ t.each bucket h ∙ ap Some (sym (bucket_same bucket rs r here))

tabled_more : (rs : List Request) (table : List (List ℕ)) (r : Request) (own : ℕ) → own ≡ bucket_of r.key.workflow r.key.path.sels → own < buckets → IsTabled rs table → IsTabled (rs ++ r ∷ []) (set table own (places_of own rs ++ length rs ∷ []))
tabled_more rs table r own e h t = record {
  each = λ bucket k. more_by rs table r own bucket e k (slice_get_within table own (places_of own rs) (t.each own h)) t (belongs bucket r) refl;
}

-- a request is added, and its place to its bucket
pub tabled_added :
    (asked : List Asked) (states : List LockState) (table : List (List ℕ)) (a : Asked) (s : LockState) (own : ℕ) →
    own ≡ bucket_of a.key.workflow a.key.path.sels → own < buckets → length states ≡ length asked → IsTabled (requests_in asked states) table →
    IsTabled (requests_in (asked ++ a ∷ []) (states ++ s ∷ [])) (set table own (places_of own (requests_in asked states) ++ length (requests_in asked states) ∷ []))
tabled_added asked states table a s own e h even tabled =
    subst (λ (rs : List Request). IsTabled rs (set table own (places_of own (requests_in asked states) ++ length (requests_in asked states) ∷ []))) (sym (requests_more asked states a s even)) (tabled_more (requests_in asked states) table (request_of a s) own e h tabled)

-- ---- no requests

replicate_get : {X : Type 0} (n k : ℕ) (x : X) → k < n → slice_get (replicate n x) k ≡ Some x
replicate_get zero k x h = absurd (omega arith)
replicate_get (suc n) zero x h = refl
replicate_get (suc n) (suc k) x h = replicate_get n k x (omega arith)

pub tabled_none : IsTabled [] (replicate buckets [])
tabled_none = record { each = λ bucket h. replicate_get buckets bucket [] h }

-- ---- a request in another state

places_set : (here bucket : ℕ) (rs : List Request) (i : ℕ) (s : LockState) (r : Request) → slice_get rs i ≡ Some r → places_from here bucket (set rs i (record r { state = s })) ≡ places_from here bucket rs
places_set here bucket [] i s r e = absurd (cc e)
places_set here bucket (q ∷ rs) zero s r e = ap (λ (x : Request). cond (belongs bucket x) (here ∷ places_from (suc here) bucket rs) (places_from (suc here) bucket rs)) (sym (some_same q r e))
places_set here bucket (q ∷ rs) (suc i) s r e = ap (λ (x : List ℕ). cond (belongs bucket q) (here ∷ x) x) (places_set (suc here) bucket rs i s r e)

pub tabled_set : (rs : List Request) (table : List (List ℕ)) (i : ℕ) (s : LockState) (r : Request) → slice_get rs i ≡ Some r → IsTabled rs table → IsTabled (set rs i (record r { state = s })) table
tabled_set rs table i s r e tabled = record {
  each = λ bucket h. tabled.each bucket h ∙ ap Some (sym (places_set 0 bucket rs i s r e));
}

-- ---- what is found in a bucket

shifted : (here : ℕ) (o : Option ℕ) → option_map (λ n. suc here + n) o ≡ option_map (λ n. here + n) (option_map suc o)
shifted here None = refl
shifted here (Some n) = ap Some (let e : suc here + n ≡ here + suc n = omega arith in e)

unshifted : (o : Option ℕ) → option_map (λ n. 0 + n) o ≡ o
unshifted None = refl
unshifted (Some n) = ap Some (let e : 0 + n ≡ n = omega arith in e)

found_from : (look : ℕ → Bool) (test : Request → Bool) (bucket : ℕ) → ((r : Request) → test r ≡ true → belongs bucket r ≡ true) → (here : ℕ) (rs : List Request) → ((i : ℕ) → look (here + i) ≡ is_at test rs i) → find look (places_from here bucket rs) ≡ option_map (λ n. here + n) (place test rs)
found_from look test bucket only here [] h = refl
found_from look test bucket only here (r ∷ rs) h =
    by (test r) (belongs bucket r) refl refl
    (found_from look test bucket only (suc here) rs (λ i. ap look (let e : suc here + i ≡ here + suc i = omega arith in e) ∙ h (suc i))
    ∙ shifted here (place test rs))
  where
    behind : List ℕ
    behind = places_from (suc here) bucket rs

    now : look here ≡ test r
    now = ap look (let e : here ≡ here + 0 = omega arith in e) ∙ h 0

    by : (t b : Bool) → test r ≡ t → belongs bucket r ≡ b → find look behind ≡ option_map (λ n. here + n) (option_map suc (place test rs)) → find look (cond b (here ∷ behind) behind) ≡ option_map (λ n. here + n) (cond t (Some 0) (option_map suc (place test rs)))
    by true true e f rest = ap (λ (c : Bool). cond c (Some here) (find look behind)) (now ∙ e) ∙ ap Some (let z : here ≡ here + 0 = omega arith in z)
    by true false e f rest = absurd (true≢false (sym (only r e) ∙ f))
    by false true e f rest = ap (λ (c : Bool). cond c (Some here) (find look behind)) (now ∙ e) ∙ rest
    by false false e f rest = rest

-- the request of a key is found in the bucket of the key
pub found_in_bucket : (key : HolderKey) (rs : List Request) → find (is_at (is_of key) rs) (places_of (bucket_of key.workflow key.path.sels) rs) ≡ place (is_of key) rs
found_in_bucket key rs =
    found_from (is_at (is_of key) rs) (is_of key) (bucket_of key.workflow key.path.sels) (belongs_there key) 0 rs (λ i. ap (is_at (is_of key) rs) (let e : 0 + i ≡ i = omega arith in e))
    ∙ unshifted (place (is_of key) rs)

-- ---- a walk through a bucket

from_here : (xs : List ℕ) (i x : ℕ) → slice_get xs i ≡ Some x → drop i xs ≡ x ∷ drop (i + 1) xs
from_here xs i x there =
    drop-cons xs i x (slice_get_within xs i x there) ∙ ap₂ (λ (y n : ℕ). y ∷ drop n xs) (get_or_from_slice_get xs i x x there) (sym (add-one i))

-- the rest begins with this place
rest_from : (test : ℕ → Bool) (xs : List ℕ) (i x : ℕ) (b : Bool) → slice_get xs i ≡ Some x → test x ≡ b → find test (drop i xs) ≡ find test xs → cond b (Some x) (find test (drop (i + 1) xs)) ≡ find test xs
rest_from test xs i x b there is rest =
    ap (λ (t : Bool). cond t (Some x) (find test (drop (i + 1) xs))) (sym is) ∙ ap (find test) (sym (from_here xs i x there)) ∙ rest

pub found_here : (test : ℕ → Bool) (xs : List ℕ) (i x : ℕ) → slice_get xs i ≡ Some x → test x ≡ true → find test (drop i xs) ≡ find test xs → Some x ≡ find test xs
found_here test xs i x there is rest = rest_from test xs i x true there is rest

pub found_later : (test : ℕ → Bool) (xs : List ℕ) (i x : ℕ) → slice_get xs i ≡ Some x → test x ≡ false → find test (drop i xs) ≡ find test xs → find test (drop (i + 1) xs) ≡ find test xs
found_later test xs i x there is rest = rest_from test xs i x false there is rest
