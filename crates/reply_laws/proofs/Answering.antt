-- Why the answers of a client's calls are those of the definitions.
use Rattle.std.proofs.Common.{◌≡◌, ◌≢◌, ℕ, zero, suc, ◌+◌, ◌<◌, Bool, true, false, cond, List, [], ◌∷◌, refl, sym, ◌∙◌, ap, subst, Option, Some, None, Result, Ok, Err, IsSome, IfOk, true≢false, arith}
use Rattle.std.specs.Prelude.{unwrap_or}
use Rattle.tree_types.specs.declared.entry.Key.{Key}
use Rattle.tree_types.specs.declared.entry.Key.TheVariants.{Workflow, Pod, Locks, Caches}
use Rattle.tree_types.specs.declared.entry.Entry.{Entry}
use Rattle.history.specs.Keys.{is_key, key_of, is_about, tick_of}
use Rattle.history.specs.History.{Event, event, Version, Extends, number_of, grown, clock_of, next_version, version_at, IsVersionOf}
use Rattle.history.specs.Versions.{back_of}
use Rattle.history.proofs.Keys.{same_key-refl, timeless}
use Rattle.history.proofs.Extends.{version_at-grown, clock_from-append}
use Rattle.history.proofs.Carrying.{absent_at}
use Rattle.object_store.specs.declared.snapshot.Snapshot.{Snapshot}
use Rattle.object_store.specs.declared.refused.StoreRefused.{StoreRefused}
use Rattle.object_store.specs.declared.refused.StoreRefused.TheVariants as refused
use Rattle.object_store.specs.Entries.{MakesObject, ChangesObject}
use Rattle.object_store.specs.Versions as stored
use Rattle.object_store.specs.Answers.{IsOf, GetGives, GetBackGives, CreateGives, WriteGives, Adds}
use Rattle.object_store.proofs.Seen.{stands_none}
use Rattle.store_client.specs.Calls.{ReadGives, Got, Created, Wrote}
use Rattle.law.specs.Contents.{Content, apply, Story, number_at}
use Rattle.next_step.specs.Changes.{Change, change, ShownAt}
use Rattle.next_step.specs.Replies.{Reply}
use Rattle.next_step.specs.Calls.{Did}
use Rattle.next_step.specs.Backward.{seen_at, read_back, GotBack}
use Rattle.next_laws.specs.Viewing.{IsRead, Answers}
use Rattle.next_laws.proofs.Following.{was_seen}
use Rattle.reply_laws.specs.Replies.{seen_in, refusal, read_reply, change_reply, DidBehind}
use Rattle.reply_laws.specs.Laws.{GetsAreAnswered, CreatesAreDone, WritesAreDone}
use Rattle.reply_laws.proofs.Numbered.{reads_numbered}

abbrev Reads : Type 0
Reads = Result (Snapshot Content) StoreRefused

-- ---- gets

read_now : (h : Story) (k : Key) (r : Reads) → GetGives k (clock_of h) (version_at apply h k) r → r ≢ Err refused.Memory → GotBack h 0 k (read_reply r)
read_now h k (Ok s) g m = ap (λ o. seen_at (clock_of h) o) g.0 ∙ ap (λ t. seen_at t (Some record { number = s.version; content = s.content })) (sym g.2)
read_now h k (Err refused.NoObject) g m = g
read_now h k (Err refused.Fault) g m = tt
read_now h k (Err refused.Memory) g m = absurd (m refl)
read_now h k (Err refused.Exists) g m = absurd g
read_now h k (Err (refused.Conflict a b)) g m = absurd g
read_now h k (Err (refused.Behind c)) g m = absurd g

read_then : (h : Story) (k : Key) (lag : ℕ) (r : Reads) → GetBackGives k (suc lag) (stored.versions apply h k) r → r ≢ Err refused.Memory → GotBack h (suc lag) k (read_reply r)
read_then h k lag (Ok s) g m = reads_numbered h k lag s.version s.tick s.content g.0 g.1
read_then h k lag (Err refused.NoObject) g m = stands_none apply h k g
read_then h k lag (Err refused.Fault) g m = tt
read_then h k lag (Err refused.Memory) g m = absurd (m refl)
read_then h k lag (Err refused.Exists) g m = absurd g
read_then h k lag (Err (refused.Conflict a b)) g m = absurd g
read_then h k lag (Err (refused.Behind c)) g m = absurd g

read_by : (h : Story) (k : Key) (lag : ℕ) (r : Reads) → ReadGives apply k lag h r → r ≢ Err refused.Memory → GotBack h lag k (read_reply r)
read_by h k zero r g m = read_now h k r g m
read_by h k (suc lag) r g m = read_then h k lag r g m

key_by : (h : Story) (k : Key) (lag : ℕ) (r : Reads) → ReadGives apply k lag h r → IfOk r (λ s. s.key ≡ k)
key_by h k zero (Ok s) g = g.1
key_by h k (suc lag) (Ok s) g = g.2
key_by h k lag (Err e) g = tt

-- of the saves what stands is read, of others what once stood
shown_now : (h : Story) (k : Key) (s : Snapshot Content) → GetGives k (clock_of h) (version_at apply h k) (Ok s) → ShownAt h k s.version s.content s.tick
shown_now h k s g = record { stood = g.0; clock = sym g.2 }

is_read : (h : Story) (k : Key) (lag : ℕ) (s : Snapshot Content) → ReadGives apply k (back_of k lag) h (Ok s) → IsOf apply s h → s.key ≡ k → IsRead h k (seen_in s)
is_read h Caches lag s g o e = shown_now h Caches s g
is_read h Locks lag s g o e = subst (λ k. IsVersionOf apply h k s.version s.content s.tick) e o
is_read h (Workflow w) lag s g o e = subst (λ k. IsVersionOf apply h k s.version s.content s.tick) e o
is_read h (Pod w n) lag s g o e = subst (λ k. IsVersionOf apply h k s.version s.content s.tick) e o

missing : (h : Story) (k : Key) (lag : ℕ) → GotBack h lag k (refusal refused.NoObject) → version_at apply h k ≡ None
missing h k lag g = g

answers : (h : Story) (k : Key) (lag : ℕ) (r : Reads) → ReadGives apply k (back_of k lag) h r → IfOk r (λ s. IsOf apply s h) → r ≢ Err refused.Memory → Answers h k (read_reply r)
answers h k lag (Ok s) g o m = is_read h k lag s g o (key_by h k (back_of k lag) (Ok s) g)
answers h k lag (Err refused.NoObject) g o m = read_by h k (back_of k lag) (Err refused.NoObject) g m
answers h k lag (Err refused.Fault) g o m = tt
answers h k lag (Err refused.Memory) g o m = absurd (m refl)
answers h k lag (Err refused.Exists) g o m = absurd (read_by h k (back_of k lag) (Err refused.Exists) g m)
answers h k lag (Err (refused.Conflict a b)) g o m = absurd (read_by h k (back_of k lag) (Err (refused.Conflict a b)) g m)
answers h k lag (Err (refused.Behind c)) g o m = read_by h k (back_of k lag) (Err (refused.Behind c)) g m

pub gets_are_answered : GetsAreAnswered
gets_are_answered = record {
  back = λ k lag seen now r before after g m. read_by now k (back_of k lag) r g.gives m;
  read = λ k lag seen now r before after g o m. answers now k lag r g.gives o m;
  key = λ k lag seen now r before after g. key_by now k (back_of k lag) r g.gives;
}

-- ---- changes

about_key : (k : Key) (e : Entry) → key_of e ≡ Some k → is_about k e ≡ true
about_key k e q = ap (is_key k) q ∙ same_key-refl k

clock_stays : (h : Story) (k : Key) (e : Entry) (o : Option Content) → key_of e ≡ Some k → clock_of (grown h (event e o)) ≡ clock_of h
clock_stays h k e o q = clock_from-append 0 h.events (event e o ∷ []) ∙ timeless k e (about_key k e q) (clock_of h)

stands_next : (h : Story) (k : Key) (e : Entry) (o : Option Content) → key_of e ≡ Some k → version_at apply (grown h (event e o)) k ≡ next_version apply (version_at apply h k) (event e o)
stands_next h k e o q =
    version_at-grown apply h (event e o) k
    ∙ ap (λ b. cond b (next_version apply (version_at apply h k) (event e o)) (version_at apply h k)) (about_key k e q)

some_number : (h : Story) (k : Key) → IsSome (version_at apply h k) → 0 < number_at h k
some_number h k s = by (number_at h k) refl
  where
    none_is_some : {B : Type 0} → version_at apply h k ≡ None → B
    none_is_some e = absurd (true≢false (sym (subst IsSome e s)))

    by : (n : ℕ) → number_at h k ≡ n → 0 < n
    by zero e = none_is_some (absent_at apply h k e)
    by (suc n) e = omega arith

module _ (k : Key) (x : Content) (e : Entry) (makes : MakesObject e k) (h : Story) where
  abbrev Creation : Change
  Creation = change k 0 (event e (Some x))

  created : (r : Reads) (now : Story) → CreateGives k x (clock_of h) (version_at apply h k) r → Adds h (event e (Some x)) r now → r ≢ Err refused.Memory → Did h Creation (change_reply r) now
  created (Ok s) now g a m = record {
    unmoved = ap number_of g.0;
    grows = a;
    shows = subst (λ w. ShownAt w k s.version s.content s.tick) (sym a) record {
      stood = stands_next h k e (Some x) makes.0 ∙ ap (λ o. next_version apply o (event e (Some x))) g.0 ∙ ap (λ (t : Snapshot Content). Some record { number = t.version; content = t.content }) (sym g.1);
      clock = clock_stays h k e (Some x) makes.0 ∙ ap (λ (t : Snapshot Content). t.tick) (sym g.1);
    };
  }
  created (Err refused.Exists) now g a m = (refl, some_number h k g, a)
  created (Err refused.Fault) now g a m = a
  created (Err refused.Memory) now g a m = absurd (m refl)
  created (Err refused.NoObject) now g a m = absurd g
  created (Err (refused.Conflict b c)) now g a m = absurd g
  created (Err (refused.Behind c)) now g a m = absurd g

pub creates_are_done : CreatesAreDone
creates_are_done k x e seen now r before after makes c m = record {
  at = c.at;
  later = c.later;
  others = c.others;
  did = created k x e makes c.at r now c.gives c.adds m;
}

module _ (from : Snapshot Content) (next : Content) (e : Entry) (changes : ChangesObject e from.key) (leads : apply from.content e ≡ Some next) (old : 0 < from.version) (h : Story) where
  abbrev Writing : Change
  Writing = change from.key from.version (event e None)

  wrote : (r : Reads) (now : Story) → WriteGives from next (clock_of h) (version_at apply h from.key) r → Adds h (event e None) r now → r ≢ Err refused.Memory → Did h Writing (change_reply r) now
  wrote (Ok s) now g a m = record {
    unmoved = ap number_of g.0;
    grows = a;
    shows = subst (λ w. ShownAt w from.key s.version s.content s.tick) (sym a) record {
      stood =
          stands_next h from.key e None changes.0 ∙ ap (λ o. next_version apply o (event e None)) g.0
          ∙ ap (λ o. Some record { number = from.version + 1; content = unwrap_or o from.content }) leads
          ∙ ap (λ (t : Snapshot Content). Some record { number = t.version; content = t.content }) (sym g.1);
      clock = clock_stays h from.key e None changes.0 ∙ ap (λ (t : Snapshot Content). t.tick) (sym g.1);
    };
  }
  wrote (Err (refused.Conflict expected there)) now g a m = (old, g.0, g.1, g.2, a)
  wrote (Err refused.Fault) now g a m = a
  wrote (Err refused.Memory) now g a m = absurd (m refl)
  wrote (Err refused.NoObject) now g a m = absurd g
  wrote (Err refused.Exists) now g a m = absurd g
  wrote (Err (refused.Behind c)) now g a m = absurd g

-- a version that was seen has a number
pub old_number : (seen : Story) (k : Key) (n : ℕ) (c : Content) (t : ℕ) → IsVersionOf apply seen k n c t → 0 < n
old_number seen k n c t is = by n (was_seen seen k n c t is).some
  where
    by : (m : ℕ) → (m ≡ 0 → ⊥) → 0 < m
    by zero f = absurd (f refl)
    by (suc m) f = omega arith

pub writes_are_done : WritesAreDone
writes_are_done from next e seen now r before after changes leads of w m = record {
  at = w.at;
  later = w.later;
  others = w.others;
  did = wrote from next e changes leads (old_number seen from.key from.version from.content from.tick of) w.at r now w.gives w.adds m;
}
