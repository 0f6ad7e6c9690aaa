-- A table of facts with one fact more.
use Rattle.std.proofs.Common.{◌≡◌, ℕ, zero, suc, ◌<◌, Bool, true, false, cond, List, [], ◌∷◌, ◌++◌, length, set, replicate, eq-eqb, refl, sym, ◌∙◌, ap, arith}
use Rattle.std.specs.Prelude.{Some, slice_get}
use Rattle.std.proofs.lemmas.Bool.{eqb-true, false≢true}
use Rattle.std.proofs.lemmas.List.{append-nil}
use Rattle.std.proofs.lemmas.List.Elements.{filter-append}
use Rattle.std.proofs.lemmas.Option.{slice_get_within}
use Rattle.tree_types.specs.declared.fact.Fact.{Fact}
use Rattle.shared_facts.specs.Inside.Kinds.{sels_of}
use Rattle.buckets.specs.Buckets.{buckets}
use Rattle.shared_facts.specs.Inside.Keys.{key_of}
use Rattle.shared_facts.specs.Inside.Tables.{belongs, bucket_of, IsTabled}

-- ---- a table in which one bucket was replaced

set_same : {X : Type 0} (xs : List X) (i : ℕ) (x : X) → i < length xs → slice_get (set xs i x) i ≡ Some x
set_same [] i x h = absurd (omega arith)
set_same (y ∷ xs) zero x h = refl
set_same (y ∷ xs) (suc i) x h = set_same xs i x (omega arith)

set_other : {X : Type 0} (xs : List X) (i j : ℕ) (x : X) → (j ≡ i → ⊥) → slice_get (set xs i x) j ≡ slice_get xs j
set_other [] i j x h = refl
set_other (y ∷ xs) zero zero x h = absurd (h refl)
set_other (y ∷ xs) zero (suc j) x h = refl
set_other (y ∷ xs) (suc i) zero x h = refl
set_other (y ∷ xs) (suc i) (suc j) x h = set_other xs i j x (λ e. h (ap suc e))

-- ---- the facts of a bucket with one more

bucket_more : (key : ℕ) (J : List Fact) (f : Fact) → belongs key f ≡ true → bucket_of key (J ++ f ∷ []) ≡ bucket_of key J ++ f ∷ []
bucket_more key J f e =
    filter-append (belongs key) J (f ∷ []) ∙ ap (λ (b : Bool). bucket_of key J ++ cond b (f ∷ []) []) e

bucket_same : (key : ℕ) (J : List Fact) (f : Fact) → belongs key f ≡ false → bucket_of key (J ++ f ∷ []) ≡ bucket_of key J
bucket_same key J f e =
    filter-append (belongs key) J (f ∷ []) ∙ ap (λ (b : Bool). bucket_of key J ++ cond b (f ∷ []) []) e ∙ append-nil (bucket_of key J)

more_by : (J : List Fact) (table : List (List Fact)) (f : Fact) (own key : ℕ) → own ≡ key_of (sels_of f) → key < buckets → own < length table → IsTabled J table → (b : Bool) → belongs key f ≡ b → slice_get (set table own (bucket_of own J ++ f ∷ [])) key ≡ Some (bucket_of key (J ++ f ∷ []))
more_by J table f own key e h w t true here =
    let same : own ≡ key = e ∙ eqb-true (key_of (sels_of f)) key here in
    let bucket : List Fact = bucket_of own J ++ f ∷ [] in
    ap (λ (k : ℕ). slice_get (set table own bucket) k) (sym same) ∙ set_same table own bucket w ∙ ap Some (ap (λ (k : ℕ). bucket_of k J ++ f ∷ []) same ∙ sym (bucket_more key J f here))
more_by J table f own key e h w t false here =
    let apart = λ (same : key ≡ own). let on : belongs key f ≡ true = eq-eqb (key_of (sels_of f)) key (sym (same ∙ e)) in false≢true (sym here ∙ on) in
    set_other table own key (bucket_of own J ++ f ∷ []) apart ∙ t.each key h ∙ ap Some (sym (bucket_same key J f here))

tabled_more : (J : List Fact) (table : List (List Fact)) (f : Fact) (own : ℕ) → own ≡ key_of (sels_of f) → own < buckets → IsTabled J table → IsTabled (J ++ f ∷ []) (set table own (bucket_of own J ++ f ∷ []))
tabled_more J table f own e h t = record {
  each = λ key k. more_by J table f own key e k (slice_get_within table own (bucket_of own J) (t.each own h)) t (belongs key f) refl;
}

-- a fact is added to its bucket
pub tabled_added : (J facts bucket : List Fact) (table new : List (List Fact)) (f : Fact) (own : ℕ) → own ≡ key_of (sels_of f) → own < buckets → IsTabled J table → facts ≡ J ++ f ∷ [] → bucket ≡ bucket_of own J ++ f ∷ [] → new ≡ set table own bucket → IsTabled facts new
tabled_added J facts bucket table new f own e h t facts_are bucket_is new_is =
    rw (facts_are, new_is, bucket_is) (tabled_more J table f own e h t)

-- ---- no facts

replicate_get : {X : Type 0} (n k : ℕ) (x : X) → k < n → slice_get (replicate n x) k ≡ Some x
replicate_get zero k x h = absurd (omega arith)
replicate_get (suc n) zero x h = refl
replicate_get (suc n) (suc k) x h = replicate_get n k x (omega arith)

pub tabled_none : (table : List (List Fact)) → table ≡ replicate buckets [] → IsTabled [] table
tabled_none table e = record {
  each = λ key h. ap (λ (xs : List (List Fact)). slice_get xs key) e ∙ replicate_get buckets key [] h;
}
