-- A table of saves with one save more.
use Rattle.std.proofs.Common.{◌≡◌, ℕ, zero, suc, ◌<◌, Bool, true, false, cond, List, [], ◌∷◌, ◌++◌, length, set, replicate, eq-eqb, refl, sym, ◌∙◌, ap, arith}
use Rattle.std.specs.Prelude.{Some, slice_get}
use Rattle.std.proofs.lemmas.Bool.{eqb-true, false≢true}
use Rattle.std.proofs.lemmas.List.{append-nil}
use Rattle.std.proofs.lemmas.List.Elements.{filter-append}
use Rattle.std.proofs.lemmas.Option.{slice_get_within, get_or_from_slice_get}
use Rattle.saves.specs.declared.Saved.{Saved}
use Rattle.buckets.specs.Buckets.{buckets}
use Rattle.memo_cache.specs.Inside.Tables.{by_writer, by_key, belongs, bucket_of, IsTabled, IsIndexed, with_one}

-- ---- a table in which one bucket was replaced

set_same : {X : Type 0} (xs : List X) (i : ℕ) (x : X) → i < length xs → slice_get (set xs i x) i ≡ Some x
set_same [] i x h = absurd (omega arith)
set_same (y ∷ xs) zero x h = refl
set_same (y ∷ xs) (suc i) x h = set_same xs i x (omega arith)

set_other : {X : Type 0} (xs : List X) (i j : ℕ) (x : X) → (j ≡ i → ⊥) → slice_get (set xs i x) j ≡ slice_get xs j
set_other [] i j x h = refl
set_other (y ∷ xs) zero zero x h = absurd (h refl)
set_other (y ∷ xs) zero (suc j) x h = refl
set_other (y ∷ xs) (suc i) zero x h = refl
set_other (y ∷ xs) (suc i) (suc j) x h = set_other xs i j x (λ e. h (ap suc e))

-- ---- a bucket with one save more

pub bucket_within : (by : Saved → ℕ) (ss : List Saved) (table : List (List Saved)) (bucket : ℕ) → bucket < buckets → IsTabled by ss table → bucket < length table
bucket_within by ss table bucket h t = slice_get_within table bucket (bucket_of by bucket ss) (t.each bucket h)

bucket_more : (by : Saved → ℕ) (bucket : ℕ) (ss : List Saved) (s : Saved) → belongs by bucket s ≡ true → bucket_of by bucket (ss ++ s ∷ []) ≡ bucket_of by bucket ss ++ s ∷ []
bucket_more by bucket ss s e =
    filter-append (belongs by bucket) ss (s ∷ []) ∙ ap (λ (b : Bool). bucket_of by bucket ss ++ cond b (s ∷ []) []) e

bucket_same : (by : Saved → ℕ) (bucket : ℕ) (ss : List Saved) (s : Saved) → belongs by bucket s ≡ false → bucket_of by bucket (ss ++ s ∷ []) ≡ bucket_of by bucket ss
bucket_same by bucket ss s e =
    filter-append (belongs by bucket) ss (s ∷ []) ∙ ap (λ (b : Bool). bucket_of by bucket ss ++ cond b (s ∷ []) []) e ∙ append-nil (bucket_of by bucket ss)

more_by : (by : Saved → ℕ) (ss : List Saved) (table : List (List Saved)) (s : Saved) (own bucket : ℕ) → own ≡ by s → bucket < buckets → own < length table → IsTabled by ss table → (b : Bool) → belongs by bucket s ≡ b → slice_get (set table own (bucket_of by own ss ++ s ∷ [])) bucket ≡ Some (bucket_of by bucket (ss ++ s ∷ []))
more_by by ss table s own bucket e h w t true here =
    let same : own ≡ bucket = e ∙ eqb-true (by s) bucket here in
    let items : List Saved = bucket_of by own ss ++ s ∷ [] in
    ap (λ (k : ℕ). slice_get (set table own items) k) (sym same) ∙ set_same table own items w ∙ ap Some (ap (λ (k : ℕ). bucket_of by k ss ++ s ∷ []) same ∙ sym (bucket_more by bucket ss s here))
more_by by ss table s own bucket e h w t false here =
    let apart = λ (same : bucket ≡ own). let on : belongs by bucket s ≡ true = eq-eqb (by s) bucket (sym (same ∙ e)) in false≢true (sym here ∙ on) in
    set_other table own bucket (bucket_of by own ss ++ s ∷ []) apart ∙ t.each bucket h ∙ ap Some (sym (bucket_same by bucket ss s here))

tabled_more : (by : Saved → ℕ) (ss : List Saved) (table : List (List Saved)) (s : Saved) (own : ℕ) → own ≡ by s → own < buckets → IsTabled by ss table → IsTabled by (ss ++ s ∷ []) (with_one own s table)
tabled_more by ss table s own e h t = record {
  each = λ bucket k.
      ap (λ (items : List Saved). slice_get (set table own (items ++ s ∷ [])) bucket) (get_or_from_slice_get table own (bucket_of by own ss) [] (t.each own h))
      ∙ more_by by ss table s own bucket e k (bucket_within by ss table own h t) t (belongs by bucket s) refl;
}

-- a save is added to both tables
pub indexed_more :
    (ss ss' : List Saved) (writers writers' keys keys' : List (List Saved)) (s : Saved) (writer key : ℕ) →
    writer ≡ by_writer s → writer < buckets → key ≡ by_key s → key < buckets → IsIndexed ss writers keys →
    ss' ≡ ss ++ s ∷ [] → writers' ≡ with_one writer s writers → keys' ≡ with_one key s keys → IsIndexed ss' writers' keys'
indexed_more ss ss' writers writers' keys keys' s writer key w w_few k k_few t saves_are writers_are keys_are =
    rw (saves_are, writers_are, keys_are)
    (let more : IsIndexed (ss ++ s ∷ []) (with_one writer s writers) (with_one key s keys) = record {
      by_writers = tabled_more by_writer ss writers s writer w w_few t.by_writers;
      by_keys = tabled_more by_key ss keys s key k k_few t.by_keys;
    } in more)

-- ---- no saves

replicate_get : {X : Type 0} (n k : ℕ) (x : X) → k < n → slice_get (replicate n x) k ≡ Some x
replicate_get zero k x h = absurd (omega arith)
replicate_get (suc n) zero x h = refl
replicate_get (suc n) (suc k) x h = replicate_get n k x (omega arith)

tabled_none : (by : Saved → ℕ) (table : List (List Saved)) → table ≡ replicate buckets [] → IsTabled by [] table
tabled_none by table e = record {
  each = λ bucket h. ap (λ (xs : List (List Saved)). slice_get xs bucket) e ∙ replicate_get buckets bucket [] h;
}

pub indexed_none : (ss : List Saved) (writers keys : List (List Saved)) → ss ≡ [] → writers ≡ replicate buckets [] → keys ≡ replicate buckets [] → IsIndexed ss writers keys
indexed_none ss writers keys none w k =
    rw none
    (let empty : IsIndexed [] writers keys = record {
      by_writers = tabled_none by_writer writers w;
      by_keys = tabled_none by_key keys k;
    } in empty)
