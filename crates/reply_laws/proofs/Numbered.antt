-- Why a get of a client reads the version that stood so many versions back: the store tells the versions in order, and the
-- history their numbers too.
use Rattle.std.proofs.Common.{◌≡◌, ℕ, zero, suc, ◌+◌, ◌-◌, Bool, true, false, cond, List, [], ◌∷◌, ◌++◌, length, refl, sym, ◌∙◌, ap, ap₂, subst, Option, Some, None, arith}
use Rattle.std.specs.Prelude.{slice_get, unwrap_or, max}
use Rattle.tree_types.specs.declared.entry.Key.{Key}
use Rattle.history.specs.Keys.{same_key, is_about, tick_of}
use Rattle.history.specs.History.{Event, Version, number_of, next_version, step_at, version_at_start, version_at}
use Rattle.history.specs.Versions.{made_at, later_versions, versions_of, lowered}
use Rattle.object_store.specs.declared.line.Made.{Made}
use Rattle.object_store.specs.Versions.{made, as_made}
use Rattle.law.specs.Contents.{Content, apply, Story}
use Rattle.next_step.specs.Views.{Seen}
use Rattle.next_step.specs.Replies.{seen}
use Rattle.next_step.specs.Backward.{as_seen, read_back}

-- with their numbers, the first of these
abbrev pub numbered : ℕ → List (Made Content) → List (Seen Content)
numbered n [] = []
numbered n (m ∷ ms) = seen n m.content m.tick ∷ numbered (suc n) ms

from_zero : (n : ℕ) → n ≡ 0 + n
from_zero n = omega arith

numbered-append : (n : ℕ) (ms os : List (Made Content)) → numbered n (ms ++ os) ≡ numbered n ms ++ numbered (length ms + n) os
numbered-append n [] os = ap (λ j. numbered j os) (from_zero n)
numbered-append n (m ∷ ms) os = ap (λ xs. seen n m.content m.tick ∷ xs) (numbered-append (suc n) ms os ∙ ap (λ j. numbered (suc n) ms ++ numbered j os) (same (length ms)))
  where
    same : (j : ℕ) → j + suc n ≡ suc j + n
    same j = omega arith

numbered-length : (n : ℕ) (ms : List (Made Content)) → length (numbered n ms) ≡ length ms
numbered-length n [] = refl
numbered-length n (m ∷ ms) = ap suc (numbered-length (suc n) ms)

-- a version that is made has the next number
made_next : (t : ℕ) (v : Option (Version Content)) (e : Event Content) → made_at apply as_seen t (next_version apply v e) ≡ numbered (suc (number_of v)) (made_at apply as_made t (next_version apply v e))
made_next t (Some v) e = ap (λ n. seen n (unwrap_or (apply v.content e.entry) v.content) t ∷ []) (plus v.number)
  where
    plus : (n : ℕ) → n + 1 ≡ suc n
    plus n = omega arith
made_next t None e = by e.made
  where
    by : (o : Option Content) → made_at apply as_seen t (elim o [ None ↦ None | Some c ↦ Some record { number = 1; content = c } ]) ≡ numbered 1 (made_at apply as_made t (elim o [ None ↦ None | Some c ↦ Some record { number = 1; content = c } ]))
    by None = refl
    by (Some c) = refl

-- how many are made
count_next : (t : ℕ) (v : Option (Version Content)) (e : Event Content) → length (made_at apply as_made t (next_version apply v e)) + suc (number_of v) ≡ suc (number_of (next_version apply v e))
count_next t (Some v) e = omega arith
count_next t None e = by e.made
  where
    by : (o : Option Content) → length (made_at apply as_made t (elim o [ None ↦ None | Some c ↦ Some record { number = 1; content = c } ])) + 1 ≡ suc (number_of (elim o [ None ↦ None | Some c ↦ Some record { number = 1; content = c } ]))
    by None = refl
    by (Some c) = refl

later_numbered : (k : Key) (t : ℕ) (v : Option (Version Content)) (es : List (Event Content)) → later_versions apply as_seen k t v es ≡ numbered (suc (number_of v)) (later_versions apply as_made k t v es)
later_numbered k t v [] = refl
later_numbered k t v (e ∷ es) = by (is_about k e.entry) (λ u. later_numbered k (unwrap_or (tick_of e.entry) t) u es)
  where
    now : ℕ
    now = unwrap_or (tick_of e.entry) t

    ms : List (Made Content)
    ms = made_at apply as_made t (next_version apply v e)

    rest : List (Made Content)
    rest = later_versions apply as_made k now (next_version apply v e) es

    by : (b : Bool) → ((u : Option (Version Content)) → later_versions apply as_seen k now u es ≡ numbered (suc (number_of u)) (later_versions apply as_made k now u es)) → cond b (made_at apply as_seen t (next_version apply v e)) [] ++ later_versions apply as_seen k now (cond b (next_version apply v e) v) es ≡ numbered (suc (number_of v)) (cond b (made_at apply as_made t (next_version apply v e)) [] ++ later_versions apply as_made k now (cond b (next_version apply v e) v) es)
    by false ih = ih v
    by true ih =
        ap₂ (λ xs ys. xs ++ ys) (made_next t v e) (ih (next_version apply v e) ∙ ap (λ j. numbered j rest) (sym (count_next t v e)))
        ∙ sym (numbered-append (suc (number_of v)) ms rest)

start_numbered : (o : Option (Version Content)) → ((v : Version Content) → o ≡ Some v → v.number ≡ 1) → made_at apply as_seen 0 o ≡ numbered 1 (made_at apply as_made 0 o)
start_numbered None one = refl
start_numbered (Some v) one = ap (λ n. seen n v.content 0 ∷ []) (one v refl)

start_counted : (o : Option (Version Content)) → ((v : Version Content) → o ≡ Some v → v.number ≡ 1) → length (made_at apply as_made 0 o) + 1 ≡ suc (number_of o)
start_counted None one = refl
start_counted (Some v) one = ap suc (sym (one v refl))

start_one : (k : Key) (os : List (Key × Content)) (v : Version Content) → version_at_start apply k os ≡ Some v → v.number ≡ 1
start_one k [] v e = absurd cc
start_one k (o ∷ os) v e = by (same_key k o.0) e (start_one k os v)
  where
    by : (b : Bool) → cond b (Some record { number = 1; content = o.1 }) (version_at_start apply k os) ≡ Some v → (version_at_start apply k os ≡ Some v → v.number ≡ 1) → v.number ≡ 1
    by true e ih = sym (ap number_of e)
    by false e ih = ih e

-- the versions of the history are those of the store, numbered from 1 on
pub versions_numbered : (h : Story) (k : Key) → versions_of apply as_seen h k ≡ numbered 1 (versions_of apply as_made h k)
versions_numbered h k =
    let first = version_at_start apply k h.start in
    let one = start_one k h.start in
    ap₂ (λ xs ys. xs ++ ys) (start_numbered first one) (later_numbered k 0 first h.events ∙ ap (λ j. numbered j (later_versions apply as_made k 0 first h.events)) (sym (start_counted first one)))
    ∙ sym (numbered-append 1 (made_at apply as_made 0 first) (later_versions apply as_made k 0 first h.events))

numbered_get : (n i : ℕ) (ms : List (Made Content)) (m : Made Content) → slice_get ms i ≡ Some m → slice_get (numbered n ms) i ≡ Some (seen (i + n) m.content m.tick)
numbered_get n i [] m e = absurd cc
numbered_get n zero (x ∷ ms) m e =
    let same : x ≡ m = cc in
    ap (λ (y : Made Content). Some (seen n y.content y.tick)) same ∙ ap (λ j. Some (seen j m.content m.tick)) (from_zero n)
numbered_get n (suc i) (x ∷ ms) m e = numbered_get (suc n) i ms m e ∙ ap (λ j. Some (seen j m.content m.tick)) (plus i)
  where
    plus : (j : ℕ) → j + suc n ≡ suc j + n
    plus j = omega arith

-- what is read back
pub reads_numbered :
    (h : Story) (k : Key) (lag number tick : ℕ) (c : Content) →
    slice_get (versions_of apply as_made h k) (number - 1) ≡ Some (made c tick) →
    number ≡ lowered (length (versions_of apply as_made h k)) (suc lag) →
    read_back h k (suc lag) ≡ Some (seen number c tick)
reads_numbered h k lag number tick c e n =
    let ms = versions_of apply as_made h k in
    ap (λ xs. slice_get xs (lowered (length xs) (suc lag) - 1)) (versions_numbered h k)
    ∙ ap (λ j. slice_get (numbered 1 ms) (lowered j (suc lag) - 1)) (numbered-length 1 ms)
    ∙ ap (λ j. slice_get (numbered 1 ms) (j - 1)) (sym n)
    ∙ numbered_get 1 (number - 1) ms (made c tick) e
    ∙ ap (λ j. Some (seen j c tick)) (back_up (length ms) number n)
  where
    back_up : (j n : ℕ) → n ≡ max (j - suc lag) 1 → n - 1 + 1 ≡ n
    back_up j n a = omega (arith, a)
