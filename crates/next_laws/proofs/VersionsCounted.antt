-- Why the versions of an object are as many as its number, and are numbered from 1 on.
use Rattle.std.proofs.Common.{◌≡◌, ℕ, zero, suc, ◌+◌, ◌-◌, Bool, true, false, cond, List, [], ◌∷◌, ◌++◌, length, refl, sym, ◌∙◌, ap, Option, Some, None, arith}
use Rattle.std.specs.Prelude.{slice_get, unwrap_or}
use Rattle.tree_types.specs.declared.entry.Key.{Key}
use Rattle.history.specs.Keys.{same_key, is_about, tick_of}
use Rattle.history.specs.History.{Event, Version, number_of, clock_of, next_version, version_from, version_at_start, version_at}
use Rattle.history.specs.Versions.{made_at, later_versions, lowered}
use Rattle.history.proofs.Carrying.{absent_at}
use Rattle.law.specs.Contents.{Content, apply, Story, number_at}
use Rattle.lawful.proofs.Facts.{some_same, none_some}
use Rattle.next_step.specs.Views.{Seen}
use Rattle.next_step.specs.Replies.{seen}
use Rattle.next_step.specs.Backward.{as_seen, seen_at, versions, read_back}
use Rattle.next_laws.specs.ReadsBack.{ReadsBack}
use Rattle.next_laws.proofs.ReadingBack.{read_is, reads_something}

-- what an entry makes of an object: still none, or a version with the next number
data Next (v n : Option (Version Content)) : Type 0 where
  still_none : v ≡ None → n ≡ None → Next v n
  numbered : (u : Version Content) → n ≡ Some u → u.number ≡ number_of v + 1 → Next v n

next_number : (v : Option (Version Content)) (e : Event Content) → Next v (next_version apply v e)
next_number (Some v) e = numbered record { number = v.number + 1; content = unwrap_or (apply v.content e.entry) v.content } refl refl
next_number None e = by e.made
  where
    by : (o : Option Content) → Next None (elim o [ None ↦ None | Some c ↦ Some record { number = 1; content = c } ])
    by None = still_none refl refl
    by (Some c) = numbered record { number = 1; content = c } refl (omega arith)

-- ---- how many

counted : (k : Key) (tick : ℕ) (v : Option (Version Content)) (es : List (Event Content)) → length (later_versions apply as_seen k tick v es) + number_of v ≡ number_of (version_from apply k v es)
counted k tick v [] = omega arith
counted k tick v (e ∷ es) = by (is_about k e.entry) (next_version apply v e) (next_number v e) (λ o. counted k (unwrap_or (tick_of e.entry) tick) o es)
  where
    now : ℕ
    now = unwrap_or (tick_of e.entry) tick

    by : (b : Bool) (n : Option (Version Content)) → Next v n → ((o : Option (Version Content)) → length (later_versions apply as_seen k now o es) + number_of o ≡ number_of (version_from apply k o es)) → length (cond b (made_at apply as_seen tick n) [] ++ later_versions apply as_seen k now (cond b n v) es) + number_of v ≡ number_of (version_from apply k (cond b n v) es)
    by false n x ih = ih v
    by true None (still_none q r) ih = ap (λ o. length (later_versions apply as_seen k now None es) + number_of o) q ∙ ih None
    by true None (numbered u q r) ih = none_some u q
    by true (Some u) (still_none q r) ih = absurd cc
    by true (Some u) (numbered y q r) ih =
        let a = ih (Some u) in
        let b : u.number ≡ y.number = ap number_of q in
        omega (arith, a, b, r)

start_one : (k : Key) (os : List (Key × Content)) (v : Version Content) → version_at_start apply k os ≡ Some v → v.number ≡ 1
start_one k [] v e = none_some v e
start_one k (o ∷ os) v e = by (same_key k o.0) e (start_one k os v)
  where
    by : (b : Bool) → cond b (Some record { number = 1; content = o.1 }) (version_at_start apply k os) ≡ Some v → (version_at_start apply k os ≡ Some v → v.number ≡ 1) → v.number ≡ 1
    by true e ih = sym (ap number_of e)
    by false e ih = ih e

all_counted : (h : Story) (k : Key) → length (versions h k) ≡ number_at h k
all_counted h k = by (version_at_start apply k h.start) (start_one k h.start)
  where
    by : (o : Option (Version Content)) → ((v : Version Content) → o ≡ Some v → v.number ≡ 1) → length (made_at apply as_seen 0 o ++ later_versions apply as_seen k 0 o h.events) ≡ number_of (version_from apply k o h.events)
    by None one = let a = counted k 0 None h.events in omega (arith, a)
    by (Some v) one = let a = counted k 0 (Some v) h.events in let b = one v refl in omega (arith, a, b)

-- ---- which numbers

placed : (k : Key) (tick : ℕ) (v : Option (Version Content)) (es : List (Event Content)) (i : ℕ) (x : Seen Content) → slice_get (later_versions apply as_seen k tick v es) i ≡ Some x → x.number ≡ number_of v + i + 1
placed k tick v [] i x q = none_some x q
placed k tick v (e ∷ es) i x q = by (is_about k e.entry) (next_version apply v e) (next_number v e) i q (λ o j. placed k (unwrap_or (tick_of e.entry) tick) o es j x)
  where
    now : ℕ
    now = unwrap_or (tick_of e.entry) tick

    by : (b : Bool) (n : Option (Version Content)) → Next v n → (i : ℕ) → slice_get (cond b (made_at apply as_seen tick n) [] ++ later_versions apply as_seen k now (cond b n v) es) i ≡ Some x → ((o : Option (Version Content)) (j : ℕ) → slice_get (later_versions apply as_seen k now o es) j ≡ Some x → x.number ≡ number_of o + j + 1) → x.number ≡ number_of v + i + 1
    by false n y i q ih = ih v i q
    by true None (still_none a b) i q ih =
        let c = ih None i q in
        let d : number_of v ≡ 0 = ap number_of a in
        omega (arith, c, d)
    by true None (numbered u a b) i q ih = none_some u a
    by true (Some u) (still_none a b) i q ih = absurd cc
    by true (Some u) (numbered y a b) zero q ih =
        let c : u.number ≡ x.number = ap (λ (z : Seen Content). z.number) (some_same (seen u.number u.content tick) x q) in
        let d : u.number ≡ y.number = ap number_of a in
        omega (arith, b, c, d)
    by true (Some u) (numbered y a b) (suc j) q ih =
        let c = ih (Some u) j q in
        let d : u.number ≡ y.number = ap number_of a in
        omega (arith, b, c, d)

all_placed : (h : Story) (k : Key) (i : ℕ) (x : Seen Content) → slice_get (versions h k) i ≡ Some x → x.number ≡ i + 1
all_placed h k i x q = by (version_at_start apply k h.start) (start_one k h.start) i q
  where
    by : (o : Option (Version Content)) → ((v : Version Content) → o ≡ Some v → v.number ≡ 1) → (i : ℕ) → slice_get (made_at apply as_seen 0 o ++ later_versions apply as_seen k 0 o h.events) i ≡ Some x → x.number ≡ i + 1
    by None one i q = let a = placed k 0 None h.events i x q in omega (arith, a)
    by (Some v) one zero q =
        let c : v.number ≡ x.number = ap (λ (z : Seen Content). z.number) (some_same (seen v.number v.content 0) x q) in
        let d = one v refl in
        omega (arith, c, d)
    by (Some v) one (suc j) q =
        let c = placed k 0 (Some v) h.events j x q in
        let d = one v refl in
        omega (arith, c, d)

-- ---- what is read

above_zero : (n : ℕ) → (n ≡ 0 → ⊥) → n ≡ lowered n 0
above_zero zero f = absurd (f refl)
above_zero (suc n) f = omega arith

lowers : (n back : ℕ) → lowered n (suc back) - 1 + 1 ≡ lowered n (suc back)
lowers n back = omega arith

number_is : (h : Story) (k : Key) (back : ℕ) (x : Seen Content) → read_back h k back ≡ Some x → x.number ≡ lowered (number_at h k) back
number_is h k zero x e = by (version_at apply h k) refl e
  where
    by : (o : Option (Version Content)) → version_at apply h k ≡ o → seen_at (clock_of h) o ≡ Some x → x.number ≡ lowered (number_at h k) 0
    by None q e = none_some x e
    by (Some v) q e =
        let same : v.number ≡ x.number = ap (λ (z : Seen Content). z.number) (some_same (seen v.number v.content (clock_of h)) x e) in
        sym same ∙ sym (ap number_of q) ∙ above_zero (number_at h k) (λ z. none_some v (sym (absent_at apply h k z) ∙ q))
number_is h k (suc back) x e =
    all_placed h k (lowered (length (versions h k)) (suc back) - 1) x e
    ∙ lowers (length (versions h k)) back ∙ ap (λ n. lowered n (suc back)) (all_counted h k)

pub reads_back : ReadsBack
reads_back = record { older = λ h k back x e. record { number = number_is h k back x e; shown = read_is h k back x e }; some = reads_something }
