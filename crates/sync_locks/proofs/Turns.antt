-- To whom a lock goes: the first place for it among those that wait.
use Rattle.std.proofs.Common.{◌≡◌, ℕ, zero, suc, ◌+◌, ◌<◌, ◌⊎◌, inl, inr, Bool, true, false, not, cond, ◌&&◌, ◌||◌, bytes_eq, List, [], ◌∷◌, length, get_or, set, Some, option_map, refl, sym, ◌∙◌, ap, ap₂, subst, arith, true≢false}
use Rattle.std.specs.Prelude.{slice_get}
use Rattle.std.specs.List.{list_any, AllPairs, AllWithin, Contains}
use Rattle.std.specs.Cmp.{IsTotalOrder}
use Rattle.std.proofs.lemmas.Bool.{cases_lt}
use Rattle.std.proofs.lemmas.List.{get_or_default}
use Rattle.books.specs.declared.Request.{Request}
use Rattle.books.specs.declared.LockState.{LockState}
use Rattle.books.specs.Books.{Text, rank_cmp, before, is_waiting, is_holding, holds, count, held, change_first}
use Rattle.books.specs.Laws.{waits_for, is_first_for, passed_on}
use Rattle.sync_locks.specs.declared.asked.Asked.{Asked}
use Rattle.sync_locks.specs.Inside.Rows.{requests_in, asked_of}
use Rattle.sync_locks.specs.Inside.Queues.{asks, is_for, ranks_sooner, is_sooner, GoesBefore, sum_from, Lists}
use Rattle.sync_locks.proofs.Changes.{unchanged}
use Rattle.sync_locks.proofs.Ranked.{not_itself}
use Rattle.sync_locks.proofs.Stands.{asked_at, some_same}
use Rattle.sync_locks.proofs.Sums.{is_listed}

-- ---- tests

pub none_at : (test : Request → Bool) (rs : List Request) → ((i : ℕ) (r : Request) → slice_get rs i ≡ Some r → test r ≡ false) → list_any test rs ≡ false
none_at test [] h = refl
none_at test (r ∷ rs) h = ap₂ ◌||◌ (h 0 r refl) (none_at test rs (λ i q e. h (suc i) q e))

pub any_at : (test : Request → Bool) (rs : List Request) (i : ℕ) (r : Request) → slice_get rs i ≡ Some r → test r ≡ true → list_any test rs ≡ true
any_at test [] i r e t = absurd (cc e)
any_at test (q ∷ rs) zero r e t = ap (λ (b : Bool). b || list_any test rs) (ap test (some_same q r e) ∙ t)
any_at test (q ∷ rs) (suc i) r e t = by (test q) (any_at test rs i r e t)
  where
    by : (b : Bool) → list_any test rs ≡ true → (b || list_any test rs) ≡ true
    by true h = refl
    by false h = h

both : (a b : Bool) → (a && b) ≡ true → (a ≡ true) × (b ≡ true)
both true b h = (refl, h)
both false b h = absurd (true≢false (sym h))

and_false : (a b : Bool) → b ≡ false → (a && b) ≡ false
and_false true b h = h
and_false false b h = refl

-- the first that passes is changed at its place
changed_here : (test : Request → Bool) (f : Request → Request) (rs : List Request) (p : ℕ) (r : Request) → slice_get rs p ≡ Some r → test r ≡ true → ((i : ℕ) (q : Request) → i < p → slice_get rs i ≡ Some q → test q ≡ false) → change_first test f rs ≡ set rs p (f r)
changed_here test f [] p r e t h = absurd (cc e)
changed_here test f (q ∷ rs) zero r e t h =
    ap (λ (b : Bool). cond b (f q ∷ rs) (q ∷ change_first test f rs)) (ap test (some_same q r e) ∙ t) ∙ ap (λ (x : Request). f x ∷ rs) (some_same q r e)
changed_here test f (q ∷ rs) (suc p) r e t h =
    ap (λ (b : Bool). cond b (f q ∷ rs) (q ∷ change_first test f rs)) (h 0 q (omega arith) refl)
    ∙ ap (λ x. q ∷ x) (changed_here test f rs p r e t (λ i s l k. h (suc i) s (omega (arith, l)) k))

-- ---- what was asked for at the place of a request

lock_there : (lock : Text) (asked : List Asked) (states : List LockState) (i : ℕ) (r : Request) → length states ≡ length asked → slice_get (requests_in asked states) i ≡ Some r → is_for lock asked i ≡ bytes_eq r.lock.text lock
lock_there lock asked states i r even e =
    ap (asks (λ a. bytes_eq a.lock.text lock)) (asked_at asked states i even ∙ ap (option_map asked_of) e)

sooner_there : (asked : List Asked) (states : List LockState) (i j : ℕ) (r q : Request) → length states ≡ length asked → slice_get (requests_in asked states) i ≡ Some r → slice_get (requests_in asked states) j ≡ Some q → is_sooner asked i j ≡ before r.rank q.rank
sooner_there asked states i j r q even e f =
    ap₂ ranks_sooner (asked_at asked states i even ∙ ap (option_map asked_of) e) (asked_at asked states j even ∙ ap (option_map asked_of) f)

-- ---- how many hold a lock

counted_from : (lock : Text) (w : ℕ → ℕ) (here : ℕ) (asked : List Asked) (states : List LockState) → ((i : ℕ) → w (here + i) ≡ cond (is_for lock asked i) 1 0) → sum_from is_holding w here (requests_in asked states) ≡ count (holds lock) (requests_in asked states)
counted_from lock w here [] states h = refl
counted_from lock w here (a ∷ asked) [] h = refl
counted_from lock w here (a ∷ asked) (s ∷ states) h =
    by (is_holding s) (bytes_eq a.lock.text lock) (w here) (sum_from is_holding w (suc here) (requests_in asked states)) (count (holds lock) (requests_in asked states))
    (ap w (let z : here ≡ here + 0 = omega arith in z) ∙ h 0)
    (counted_from lock w (suc here) asked states (λ i. ap w (let z : suc here + i ≡ here + suc i = omega arith in z) ∙ h (suc i)))
  where
    by : (h b : Bool) (x s c : ℕ) → x ≡ cond b 1 0 → s ≡ c → cond h x 0 + s ≡ cond (h && b) (suc c) c
    by true true x s c e f = let one : x ≡ 1 = e in omega (arith, one, f)
    by true false x s c e f = let none : x ≡ 0 = e in omega (arith, none, f)
    by false b x s c e f = omega (arith, f)

pub counted : (lock : Text) (asked : List Asked) (states : List LockState) → sum_from is_holding (λ n. cond (is_for lock asked n) 1 0) 0 (requests_in asked states) ≡ count (holds lock) (requests_in asked states)
counted lock asked states =
    counted_from lock (λ n. cond (is_for lock asked n) 1 0) 0 asked states (λ i. ap (λ (n : ℕ). cond (is_for lock asked n) 1 0) (let z : 0 + i ≡ i = omega arith in z))

-- ---- who goes first

module _ (total : IsTotalOrder rank_cmp) (lock : Text) (asked : List Asked) (states : List LockState) (waiting : List ℕ) (even : length states ≡ length asked) (queued : Lists is_waiting waiting (requests_in asked states)) where
  abbrev rs : List Request
  rs = requests_in asked states

  -- where one that waits for the lock is listed
  listed_for : (i : ℕ) (q : Request) → slice_get rs i ≡ Some q → waits_for lock q ≡ true → Contains waiting i × (is_for lock asked i ≡ true)
  listed_for i q e w =
      let two = both (is_waiting q.state) (bytes_eq q.lock.text lock) w in
      (is_listed is_waiting waiting rs queued i q e two.0, lock_there lock asked states i q even e ∙ two.1)

  at_listed : (i k : ℕ) → get_or waiting k i ≡ i → is_for lock asked (get_or waiting k i) ≡ false → is_for lock asked i ≡ true → ⊥
  at_listed i k at f t = true≢false (sym t ∙ ap (is_for lock asked) (sym at) ∙ f)

  pub none_waits : AllWithin (λ p. is_for lock asked p ≡ false) waiting 0 (length waiting) → passed_on lock rs ≡ rs
  none_waits none =
      unchanged (is_first_for lock rs) held rs (none_at (is_first_for lock rs) rs (λ i q e. by i q e (waits_for lock q) refl))
    where
      by : (i : ℕ) (q : Request) → slice_get rs i ≡ Some q → (b : Bool) → waits_for lock q ≡ b → is_first_for lock rs q ≡ false
      by i q e true w =
          let at = listed_for i q e w in
          absurd (at_listed i at.0.0 at.0.2 (none at.0.0 i (omega arith) at.0.1) at.1)
      by i q e false w = ap (λ (b : Bool). b && not (list_any (λ (p : Request). waits_for lock p && before p.rank q.rank) rs)) w

  module _ (in_turn : AllPairs (GoesBefore asked) waiting) (turn p : ℕ) (within : turn < length waiting) (at : get_or waiting turn p ≡ p) (is : is_for lock asked p ≡ true) (others : AllWithin (λ n. is_for lock asked n ≡ false) waiting 0 turn) where
    -- others that wait for the lock have later turns
    turns : (i : ℕ) (q : Request) → slice_get rs i ≡ Some q → waits_for lock q ≡ true → (i ≡ p) ⊎ GoesBefore asked p i
    turns i q e w = by (listed_for i q e w)
      where
        by : Contains waiting i × (is_for lock asked i ≡ true) → (i ≡ p) ⊎ GoesBefore asked p i
        by l =
            let k = l.0.0 in
            elim (cases_lt k turn) [
              | inl sooner ↦ absurd (at_listed i k l.0.2 (others k i (omega arith) sooner) l.1)
              | inr not_sooner ↦ elim (cases_lt turn k) [
                | inl later ↦ inr
                    (subst (λ (n : ℕ). GoesBefore asked p n) (get_or_default waiting k p i l.0.1 ∙ l.0.2) (subst (λ (n : ℕ). GoesBefore asked n (get_or waiting k p)) at (in_turn turn k p later l.0.1)))
                | inr not_later ↦ inl
                    (sym l.0.2 ∙ ap (λ (n : ℕ). get_or waiting n i) (let z : k ≡ turn = omega (arith, not_sooner, not_later) in z) ∙ get_or_default waiting turn i p within ∙ at)
              ]
            ]

    module _ (r : Request) (there : slice_get rs p ≡ Some r) (waits : is_waiting r.state ≡ true) where
      waits_too : waits_for lock r ≡ true
      waits_too = ap₂ ◌&&◌ waits (sym (lock_there lock asked states p r even there) ∙ is)

      -- none ranks before it
      not_ahead : (i : ℕ) (q : Request) → slice_get rs i ≡ Some q → (b : Bool) → waits_for lock q ≡ b → (waits_for lock q && before q.rank r.rank) ≡ false
      not_ahead i q e false w = ap (λ (b : Bool). b && before q.rank r.rank) w
      not_ahead i q e true w =
          and_false (waits_for lock q) (before q.rank r.rank)
          (elim (turns i q e w) [
            | inl same ↦
                let one = some_same q r (sym e ∙ ap (slice_get rs) same ∙ there) in
                ap (λ (x : Request). before x.rank r.rank) one ∙ not_itself total r.rank
            | inr later ↦ sym (sooner_there asked states i p q r even e there) ∙ later.not_behind
          ])

      goes_first : is_first_for lock rs r ≡ true
      goes_first = ap₂ (λ (b c : Bool). b && not c) waits_too (none_at (λ q. waits_for lock q && before q.rank r.rank) rs (λ i q e. not_ahead i q e (waits_for lock q) refl))

      -- none that was filed earlier goes first
      not_first : (i : ℕ) (q : Request) → i < p → slice_get rs i ≡ Some q → (b : Bool) → waits_for lock q ≡ b → is_first_for lock rs q ≡ false
      not_first i q l e false w = ap (λ (b : Bool). b && not (list_any (λ (s : Request). waits_for lock s && before s.rank q.rank) rs)) w
      not_first i q l e true w =
          ap (λ (b : Bool). waits_for lock q && not b) (any_at (λ s. waits_for lock s && before s.rank q.rank) rs p r there (ap₂ ◌&&◌ waits_too sooner))
          ∙ and_false (waits_for lock q) false refl
        where
          sooner : before r.rank q.rank ≡ true
          sooner = elim (turns i q e w) [
            | inl same ↦ absurd (omega (arith, l, same))
            | inr later ↦ sym (sooner_there asked states p i r q even there e) ∙ later.filed l
          ]

      pub first_goes : passed_on lock rs ≡ set rs p (held r)
      first_goes = changed_here (is_first_for lock rs) held rs p r there goes_first (λ i q l e. not_first i q l e (waits_for lock q) refl)
