-- Whatever a get reads that reads versions back, the object had it at some moment; and where the object stands, there is
-- a version to read.
use Rattle.std.proofs.Common.{◌≡◌, ◌⊎◌, inl, inr, ℕ, zero, suc, ◌+◌, ◌-◌, ◌<◌, Bool, true, false, cond, List, [], ◌∷◌, ◌++◌, length, refl, sym, ◌∙◌, ap, subst, append_assoc, Option, Some, None, arith}
use Rattle.std.specs.Prelude.{slice_get, unwrap_or}
use Rattle.tree_types.specs.declared.entry.Key.{Key}
use Rattle.tree_types.specs.declared.entry.Key.TheVariants.{Workflow, Pod, Locks, Caches}
use Rattle.growth.specs.Growth.{Among}
use Rattle.history.specs.Keys.{is_about, tick_of}
use Rattle.history.specs.History.{Event, Version, Extends, grown, clock_of, next_version, step_at, version_from, version_at_start, version_at, IsVersionOf}
use Rattle.history.specs.Versions.{made_at, added_by, later_versions, lowered, back_of}
use Rattle.history.proofs.Keys.{timeless}
use Rattle.history.proofs.Extends.{extends_itself, clock_from-append, version_at-grown}
use Rattle.law.specs.Contents.{Content, apply, Story}
use Rattle.lawful.proofs.Facts.{some_same, none_some, among_either}
use Rattle.next_step.specs.Views.{Seen}
use Rattle.next_step.specs.Replies.{Reply, found, accepted, no_object, exists, conflict, fault, seen}
use Rattle.next_step.specs.Backward.{as_seen, seen_at, versions, read_back, GotBack}
use Rattle.next_laws.specs.Viewing.{IsRead, Answers}

-- ---- what is read was there

pub record IsShown (v : Option (Version Content)) (tick : ℕ) (x : Seen Content) : Type 0 where
  pub stood : v ≡ Some record { number = x.number; content = x.content }
  pub clock : tick ≡ x.tick

seen_shows : (tick : ℕ) (v : Option (Version Content)) (x : Seen Content) → seen_at tick v ≡ Some x → IsShown v tick x
seen_shows tick None x e = none_some x e
seen_shows tick (Some v) x e = subst (IsShown (Some v) tick) (some_same (seen v.number v.content tick) x e) record { stood = refl; clock = refl }

made_shows : (tick : ℕ) (v : Option (Version Content)) (x : Seen Content) → Among x (made_at apply as_seen tick v) → IsShown v tick x
made_shows tick None x i = absurd i
made_shows tick (Some v) x (inl e) = seen_shows tick (Some v) x (ap Some e)
made_shows tick (Some v) x (inr i) = absurd i

-- what an entry adds is the object after it, with the clock then
if_added : (c : Bool) (tick now : ℕ) (v n : Option (Version Content)) (x : Seen Content) → (c ≡ true → now ≡ tick) → Among x (cond c (made_at apply as_seen tick n) []) → IsShown (cond c n v) now x
if_added true tick now v n x still i = subst (λ t. IsShown n t x) (sym (still refl)) (made_shows tick n x i)
if_added false tick now v n x still i = absurd i

then_stood : (h p : Story) (k : Key) (v : Option (Version Content)) (tick : ℕ) (x : Seen Content) → Extends h p → version_at apply p k ≡ v → clock_of p ≡ tick → IsShown v tick x → IsVersionOf apply h k x.number x.content x.tick
then_stood h p k v tick x b a c s = record { before = p; extends = b; stood = a ∙ s.stood; clock = c ∙ s.clock }

from_is : (k : Key) (h p : Story) (v : Option (Version Content)) (tick : ℕ) (es : List (Event Content)) (x : Seen Content) → h.start ≡ p.start → h.events ≡ p.events ++ es → version_at apply p k ≡ v → clock_of p ≡ tick → Among x (later_versions apply as_seen k tick v es) → IsVersionOf apply h k x.number x.content x.tick
from_is k h p v tick [] x b r a c i = absurd i
from_is k h p v tick (e ∷ es) x b r a c i =
    by (among_either x (added_by apply as_seen k tick v e) (later_versions apply as_seen k now (step_at apply k v e) es) i) (λ j. from_is k h (grown p e) (step_at apply k v e) now es x b longer stands clock j)
  where
    now : ℕ
    now = unwrap_or (tick_of e.entry) tick

    longer : h.events ≡ (p.events ++ e ∷ []) ++ es
    longer = r ∙ sym (append_assoc p.events (e ∷ []) es)

    stands : version_at apply (grown p e) k ≡ step_at apply k v e
    stands = version_at-grown apply p e k ∙ ap (λ o. step_at apply k o e) a

    clock : clock_of (grown p e) ≡ now
    clock = clock_from-append 0 p.events (e ∷ []) ∙ ap (λ n. unwrap_or (tick_of e.entry) n) c

    by : Among x (added_by apply as_seen k tick v e) ⊎ Among x (later_versions apply as_seen k now (step_at apply k v e) es) → (Among x (later_versions apply as_seen k now (step_at apply k v e) es) → IsVersionOf apply h k x.number x.content x.tick) → IsVersionOf apply h k x.number x.content x.tick
    by (inl j) ih = then_stood h (grown p e) k (step_at apply k v e) now x record { same_start = b; rest = es; goes_on = longer } stands clock (if_added (is_about k e.entry) tick now v (next_version apply v e) x (λ a. timeless k e.entry a tick) j)
    by (inr j) ih = ih j

abbrev begin_of : Story → Story
begin_of h = record { start = h.start; events = [] }

versions_are : (h : Story) (k : Key) (x : Seen Content) → Among x (versions h k) → IsVersionOf apply h k x.number x.content x.tick
versions_are h k x i = by (among_either x (made_at apply as_seen 0 (version_at_start apply k h.start)) (later_versions apply as_seen k 0 (version_at_start apply k h.start) h.events) i)
  where
    by : Among x (made_at apply as_seen 0 (version_at_start apply k h.start)) ⊎ Among x (later_versions apply as_seen k 0 (version_at_start apply k h.start) h.events) → IsVersionOf apply h k x.number x.content x.tick
    by (inl j) = then_stood h (begin_of h) k (version_at_start apply k h.start) 0 x record { same_start = refl; rest = h.events; goes_on = refl } refl refl (made_shows 0 (version_at_start apply k h.start) x j)
    by (inr j) = from_is k h (begin_of h) (version_at_start apply k h.start) 0 h.events x refl refl refl refl j

slice_in : {A : Type 0} (xs : List A) (i : ℕ) (x : A) → slice_get xs i ≡ Some x → Among x xs
slice_in [] i x e = none_some x e
slice_in (y ∷ ys) zero x e = inl (some_same y x e)
slice_in (y ∷ ys) (suc i) x e = inr (slice_in ys i x e)

pub read_is : (h : Story) (k : Key) (back : ℕ) (x : Seen Content) → read_back h k back ≡ Some x → IsVersionOf apply h k x.number x.content x.tick
read_is h k zero x e = then_stood h h k (version_at apply h k) (clock_of h) x (extends_itself h) refl refl (seen_shows (clock_of h) (version_at apply h k) x e)
read_is h k (suc back) x e = versions_are h k x (slice_in (versions h k) (lowered (length (versions h k)) (suc back) - 1) x e)

is_read : (h : Story) (k : Key) (lag : ℕ) (x : Seen Content) → read_back h k (back_of k lag) ≡ Some x → IsRead h k x
is_read h (Workflow w) lag x e = read_is h (Workflow w) lag x e
is_read h (Pod w name) lag x e = read_is h (Pod w name) lag x e
is_read h Locks lag x e = read_is h Locks lag x e
is_read h Caches lag x e = let s = seen_shows (clock_of h) (version_at apply h Caches) x e in record { stood = s.stood; clock = s.clock }

pub got_back_answers : (h : Story) (k : Key) (lag : ℕ) (r : Reply) → GotBack h (back_of k lag) k r → Answers h k r
got_back_answers h k lag (found x) g = is_read h k lag x g
got_back_answers h k lag no_object g = g
got_back_answers h k lag fault g = tt
got_back_answers h k lag (accepted x) g = absurd g
got_back_answers h k lag exists g = absurd g
got_back_answers h k lag (conflict a b) g = absurd g

-- ---- an object that stands has a version

no_second : {A : Type 0} (xs ys : List A) → xs ++ ys ≡ [] → ys ≡ []
no_second [] ys e = e
no_second (x ∷ xs) ys e = absurd cc

none_later : (k : Key) (tick : ℕ) (es : List (Event Content)) → later_versions apply as_seen k tick None es ≡ [] → version_from apply k None es ≡ None
none_later k tick [] q = refl
none_later k tick (e ∷ es) q = by (is_about k e.entry) (next_version apply None e) q (none_later k (unwrap_or (tick_of e.entry) tick) es)
  where
    by : (b : Bool) (n : Option (Version Content)) → cond b (made_at apply as_seen tick n) [] ++ later_versions apply as_seen k (unwrap_or (tick_of e.entry) tick) (cond b n None) es ≡ [] → (later_versions apply as_seen k (unwrap_or (tick_of e.entry) tick) None es ≡ [] → version_from apply k None es ≡ None) → version_from apply k (cond b n None) es ≡ None
    by true None q ih = ih q
    by true (Some v) q ih = absurd cc
    by false n q ih = ih q

none_made : (h : Story) (k : Key) → versions h k ≡ [] → version_at apply h k ≡ None
none_made h k q = by (version_at_start apply k h.start) q
  where
    by : (o : Option (Version Content)) → made_at apply as_seen 0 o ++ later_versions apply as_seen k 0 o h.events ≡ [] → version_from apply k o h.events ≡ None
    by None q = none_later k 0 h.events q
    by (Some v) q = absurd cc

-- there is something at a place in a list
slice_has : {A : Type 0} (xs : List A) (i : ℕ) → i < length xs → (x : A) × (slice_get xs i ≡ Some x)
slice_has [] i l = absurd (omega (arith, l))
slice_has (x ∷ xs) zero l = (x, refl)
slice_has (x ∷ xs) (suc i) l = slice_has xs i (omega (arith, l))

pub reads_something : (h : Story) (k : Key) (back : ℕ) (v : Version Content) → version_at apply h k ≡ Some v → (x : Seen Content) × (read_back h k back ≡ Some x)
reads_something h k zero v e = (seen v.number v.content (clock_of h), ap (seen_at (clock_of h)) e)
reads_something h k (suc back) v e = by (versions h k) refl
  where
    below : (n : ℕ) → lowered (n + 1) (suc back) - 1 < n + 1
    below n = omega arith

    by : (xs : List (Seen Content)) → versions h k ≡ xs → (x : Seen Content) × (slice_get xs (lowered (length xs) (suc back) - 1) ≡ Some x)
    by [] q = none_some v (sym (none_made h k q) ∙ e)
    by (y ∷ ys) q = slice_has (y ∷ ys) (lowered (length (y ∷ ys)) (suc back) - 1) (omega arith)
