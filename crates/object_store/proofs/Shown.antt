-- The snapshots that calls answer are of the history that they leave.
use Rattle.std.proofs.Common.{◌≡◌, ℕ, ◌+◌, ◌-◌, true, cond, [], ◌∷◌, sym, ◌∙◌, ap, subst, arith, length, Option, Some, None, unwrap_or, Result, Ok, Err, IfOk}
use Rattle.std.specs.Prelude.{max}
use Rattle.tree_types.specs.declared.entry.Key.{Key}
use Rattle.tree_types.specs.declared.entry.Entry.{Entry}
use Rattle.history.specs.Keys.{is_about, is_key, key_of}
use Rattle.history.specs.History.{History, Event, Version, event, grown, clock_of, next_version, version_at, IsVersionOf}
use Rattle.history.proofs.Extends.{extends_itself, version_at-grown, clock_from-append}
use Rattle.history.proofs.Keys.{same_key-refl}
use Rattle.object_store.specs.declared.snapshot.Snapshot.{Snapshot}
use Rattle.object_store.specs.declared.refused.StoreRefused.{StoreRefused}
use Rattle.object_store.specs.Entries.{MakesObject, ChangesObject}
use Rattle.object_store.specs.Versions.{made, versions}
use Rattle.object_store.specs.Answers.{snapshot, GetBackGives, CreateGives, WriteGives, Adds, IsOf}
use Rattle.object_store.proofs.Versions.{keyed_no_tick, each_was_there}

module _ {C : Type 0} (apply : C → Entry → Option C) where
  pub back_is_of : (h : History C) (k : Key) (back : ℕ) (r : Result (Snapshot C) StoreRefused) → GetBackGives k back (versions apply h k) r → IfOk r (λ s. IsOf apply s h)
  back_is_of h k back (Err e) gives = tt
  back_is_of h k back (Ok s) gives =
      let stood = each_was_there apply h k (s.version - 1) (made s.content s.tick) gives.0 in
      let low : max (length (versions apply h k) - back) 1 - 1 + 1 ≡ max (length (versions apply h k) - back) 1 = omega arith in
      let number : s.version - 1 + 1 ≡ s.version = ap (λ n. n - 1 + 1) gives.1 ∙ low ∙ sym gives.1 in
      subst (λ q. IsVersionOf apply h q s.version s.content s.tick) (sym gives.2)
      (subst (λ n. IsVersionOf apply h k n s.content s.tick) number stood)

  -- the object that an entry makes or changes
  made_now : (h : History C) (e : Event C) (k : Key) (v : Version C) → key_of e.entry ≡ Some k → next_version apply (version_at apply h k) e ≡ Some v → IsVersionOf apply (grown h e) k v.number v.content (clock_of h)
  made_now h e k v of next =
      let about : is_about k e.entry ≡ true = ap (is_key k) of ∙ same_key-refl k in
      record {
        before = grown h e;
        extends = extends_itself (grown h e);
        stood = version_at-grown apply h e k ∙ ap (λ b. cond b (next_version apply (version_at apply h k) e) (version_at apply h k)) about ∙ next;
        clock = clock_from-append 0 h.events (e ∷ []) ∙ ap (λ t. unwrap_or t (clock_of h)) (keyed_no_tick e.entry k of);
      }

  of_snapshot : (s t : Snapshot C) (g h : History C) → s ≡ t → g ≡ h → IsOf apply t h → IsOf apply s g
  of_snapshot s t g h same grows of = subst (λ x. IsOf apply x g) (sym same) (subst (λ x. IsOf apply t x) (sym grows) of)

  pub created_is_of : (h g : History C) (e : Entry) (k : Key) (c : C) (r : Result (Snapshot C) StoreRefused) → MakesObject e k → CreateGives k c (clock_of h) (version_at apply h k) r → Adds h (event e (Some c)) r g → IfOk r (λ s. IsOf apply s g)
  created_is_of h g e k c (Err x) about gives adds = tt
  created_is_of h g e k c (Ok s) about gives adds =
      of_snapshot s (snapshot k 1 c (clock_of h)) g (grown h (event e (Some c))) gives.1 adds
      (made_now h (event e (Some c)) k record { number = 1; content = c } about.0 (ap (λ o. next_version apply o (event e (Some c))) gives.0))

  pub written_is_of : (h g : History C) (e : Entry) (from : Snapshot C) (next : C) (r : Result (Snapshot C) StoreRefused) → ChangesObject e from.key → apply from.content e ≡ Some next → WriteGives from next (clock_of h) (version_at apply h from.key) r → Adds h (event e None) r g → IfOk r (λ s. IsOf apply s g)
  written_is_of h g e from next (Err x) about leads gives adds = tt
  written_is_of h g e from next (Ok s) about leads gives adds =
      of_snapshot s (snapshot from.key (from.version + 1) next (clock_of h)) g (grown h (event e None)) gives.1 adds
      (made_now h (event e None) from.key record { number = from.version + 1; content = next } about.0
      (ap (λ o. next_version apply o (event e None)) gives.0 ∙ ap (λ d. Some record { number = from.version + 1; content = unwrap_or d from.content }) leads))
