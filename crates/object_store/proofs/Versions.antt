-- The versions of an object over histories that grow: what an entry adds, that the last is the present one, and that each
-- was there at some moment.
use Rattle.std.proofs.Common.{◌≡◌, ℕ, zero, suc, ◌+◌, Bool, true, false, cond, List, [], ◌∷◌, ◌++◌, length, refl, sym, ◌∙◌, ap, subst, arith, append_assoc, append-nil, length-append, Option, Some, None, unwrap_or, ◌⊎◌, inl, inr}
use Rattle.std.specs.Prelude.{slice_get}
use Rattle.tree_types.specs.declared.entry.Key.{Key}
use Rattle.tree_types.specs.declared.entry.Entry.{Entry}
use Rattle.tree_types.specs.declared.entry.Entry.TheVariants.{Submit, Write, Create, Finish, File, Release, Save, Tick}
use Rattle.history.specs.Keys.{same_key, is_about, key_of, tick_of}
use Rattle.history.specs.History.{History, Event, Version, number_of, grown, clock_of, clock_from, next_version, step_at, version_from, version_at, version_at_start, IsVersionOf}
use Rattle.history.specs.Versions.{made_at, added_by, later_versions}
use Rattle.history.proofs.Extends.{extends_itself, extends_grown, clock_from-append, version_at-grown, is_version_later}
use Rattle.history.proofs.Carrying.{key_found}
use Rattle.object_store.specs.declared.line.Made.{Made}
use Rattle.object_store.proofs.Places.{snoc_cases}
use Rattle.object_store.specs.Versions.{made, as_made, last_of, present, versions}

-- an entry about a key is no tick
pub keyed_no_tick : (e : Entry) (k : Key) → key_of e ≡ Some k → tick_of e ≡ None
keyed_no_tick (Submit w o fs) k h = refl
keyed_no_tick (Write w v fs) k h = refl
keyed_no_tick (Create w n p t) k h = refl
keyed_no_tick (Finish w n o) k h = refl
keyed_no_tick (File l q r) k h = refl
keyed_no_tick (Release l q) k h = refl
keyed_no_tick (Save c q w o t) k h = refl
keyed_no_tick (Tick to) k h = absurd (cc)

module _ {C : Type 0} where
  some_is : (v w : Version C) → Some v ≡ Some w → v ≡ w
  some_is v w e = cc

  last-snoc : (m n : Made C) (ms : List (Made C)) → last_of m (ms ++ n ∷ []) ≡ n
  last-snoc m n [] = refl
  last-snoc m n (x ∷ ms) = last-snoc x n ms

  present-snoc : (m n : Made C) (ms : List (Made C)) → present (m ∷ ms ++ n ∷ []) ≡ Some record { number = length ms + 1 + 1; content = n.content }
  present-snoc m n ms =
      ap (λ l. Some record { number = l + 1; content = (last_of m (ms ++ n ∷ [])).content }) (length-append ms (n ∷ []))
      ∙ ap (λ x. Some record { number = length ms + 1 + 1; content = x.content }) (last-snoc m n ms)

  pub number-present : (ms : List (Made C)) → number_of (present ms) ≡ length ms
  number-present [] = refl
  number-present (m ∷ ms) = omega arith

  -- the last stands at the number of the present one
  pub at_last : (m : Made C) (ms : List (Made C)) → slice_get (m ∷ ms) (length ms) ≡ Some (last_of m ms)
  at_last m [] = refl
  at_last m (n ∷ ms) = at_last n ms

module _ {C : Type 0} (apply : C → Entry → Option C) where
  later_versions-append : (k : Key) (t : ℕ) (v : Option (Version C)) (es fs : List (Event C)) → later_versions apply as_made k t v (es ++ fs) ≡ later_versions apply as_made k t v es ++ later_versions apply as_made k (clock_from t es) (version_from apply k v es) fs
  later_versions-append k t v [] fs = refl
  later_versions-append k t v (e ∷ es) fs =
      ap (λ ms. added_by apply as_made k t v e ++ ms) (later_versions-append k (unwrap_or (tick_of e.entry) t) (step_at apply k v e) es fs)
      ∙ sym (append_assoc (added_by apply as_made k t v e) (later_versions apply as_made k (unwrap_or (tick_of e.entry) t) (step_at apply k v e) es) _)

  pub versions-grown : (h : History C) (e : Event C) (k : Key) → versions apply (grown h e) k ≡ versions apply h k ++ added_by apply as_made k (clock_of h) (version_at apply h k) e
  versions-grown h e k =
      let v = version_at_start apply k h.start in
      ap (λ ms. made_at apply as_made 0 v ++ ms) (later_versions-append k 0 v h.events (e ∷ []) ∙ ap (λ ms. later_versions apply as_made k 0 v h.events ++ ms) (append-nil (added_by apply as_made k (clock_of h) (version_at apply h k) e)))
      ∙ sym (append_assoc (made_at apply as_made 0 v) (later_versions apply as_made k 0 v h.events) (added_by apply as_made k (clock_of h) (version_at apply h k) e))

  -- ---- the last is the present one

  present_more : (k : Key) (t : ℕ) (ms : List (Made C)) (e : Event C) → present (ms ++ added_by apply as_made k t (present ms) e) ≡ step_at apply k (present ms) e
  present_more k t ms e = by (is_about k e.entry) ms
    where
      first : (o : Option C) → let v : Option (Version C) = elim o [ None ↦ None | Some c ↦ Some record { number = 1; content = c } ] in present ([] ++ made_at apply as_made t v) ≡ v
      first None = refl
      first (Some c) = refl

      by : (b : Bool) (ms : List (Made C)) → present (ms ++ cond b (made_at apply as_made t (next_version apply (present ms) e)) []) ≡ cond b (next_version apply (present ms) e) (present ms)
      by false ms = ap present (append-nil ms)
      by true [] = first e.made
      by true (m ∷ ms) = present-snoc m (made (unwrap_or (apply (last_of m ms).content e.entry) (last_of m ms).content) t) ms

  present_later : (k : Key) (t : ℕ) (ms : List (Made C)) (es : List (Event C)) → present (ms ++ later_versions apply as_made k t (present ms) es) ≡ version_from apply k (present ms) es
  present_later k t ms [] = ap present (append-nil ms)
  present_later k t ms (e ∷ es) =
      let more = added_by apply as_made k t (present ms) e in
      let next = unwrap_or (tick_of e.entry) t in
      let step : present (ms ++ more) ≡ step_at apply k (present ms) e = present_more k t ms e in
      ap present (sym (append_assoc ms more (later_versions apply as_made k next (step_at apply k (present ms) e) es)))
      ∙ ap (λ v. present ((ms ++ more) ++ later_versions apply as_made k next v es)) (sym step)
      ∙ present_later k next (ms ++ more) es
      ∙ ap (λ v. version_from apply k v es) step

  present_start : (k : Key) (os : List (Key × C)) → present (made_at apply as_made 0 (version_at_start apply k os)) ≡ version_at_start apply k os
  present_start k [] = refl
  present_start k (o ∷ os) = by (same_key k o.0) (present_start k os)
    where
      by : (b : Bool) → present (made_at apply as_made 0 (version_at_start apply k os)) ≡ version_at_start apply k os → let v = cond b (Some record { number = 1; content = o.1 }) (version_at_start apply k os) in present (made_at apply as_made 0 v) ≡ v
      by true ih = refl
      by false ih = ih

  pub last_is_present : (h : History C) (k : Key) → present (versions apply h k) ≡ version_at apply h k
  last_is_present h k =
      let v = version_at_start apply k h.start in
      let start : present (made_at apply as_made 0 v) ≡ v = present_start k h.start in
      ap (λ w. present (made_at apply as_made 0 v ++ later_versions apply as_made k 0 w h.events)) (sym start)
      ∙ present_later k 0 (made_at apply as_made 0 v) h.events
      ∙ ap (λ w. version_from apply k w h.events) start

  -- ---- each was there

  abbrev AllThere : History C → Key → List (Made C) → Type 0
  AllThere h k ms = (i : ℕ) (m : Made C) → slice_get ms i ≡ Some m → IsVersionOf apply h k (i + 1) m.content m.tick

  number_now : (h : History C) (k : Key) (v : Version C) → version_at apply h k ≡ Some v → v.number ≡ length (versions apply h k)
  number_now h k v e = sym (ap number_of (last_is_present h k ∙ e)) ∙ number-present (versions apply h k)

  -- the version that an entry made is there with it
  made_there : (h : History C) (e : Event C) (k : Key) (v : Version C) → is_about k e.entry ≡ true → next_version apply (version_at apply h k) e ≡ Some v → versions apply (grown h e) k ≡ versions apply h k ++ made v.content (clock_of h) ∷ []
      → IsVersionOf apply (grown h e) k (length (versions apply h k) + 1) v.content (clock_of h)
  made_there h e k v about next grew =
      let now : version_at apply (grown h e) k ≡ Some v = version_at-grown apply h e k ∙ ap (λ b. cond b (next_version apply (version_at apply h k) e) (version_at apply h k)) about ∙ next in
      let number : v.number ≡ length (versions apply h k) + 1 = number_now (grown h e) k v now ∙ ap length grew ∙ length-append (versions apply h k) (made v.content (clock_of h) ∷ []) in
      let still : tick_of e.entry ≡ None = keyed_no_tick e.entry k (key_found apply k (key_of e.entry) about) in
      record {
        before = grown h e;
        extends = extends_itself (grown h e);
        stood = now ∙ ap (λ n. Some record { number = n; content = v.content }) number;
        clock = clock_from-append 0 h.events (e ∷ []) ∙ ap (λ t. unwrap_or t (clock_of h)) still;
      }

  grown_there : (h : History C) (e : Event C) (k : Key) → AllThere h k (versions apply h k) → AllThere (grown h e) k (versions apply (grown h e) k)
  grown_there h e k there = by (is_about k e.entry) refl (next_version apply (version_at apply h k) e) refl
    where
      older : (i : ℕ) (m : Made C) → slice_get (versions apply h k) i ≡ Some m → IsVersionOf apply (grown h e) k (i + 1) m.content m.tick
      older i m at = is_version_later apply h (grown h e) k (i + 1) m.content m.tick (extends_grown h e) (there i m at)

      grew : (ms : List (Made C)) → added_by apply as_made k (clock_of h) (version_at apply h k) e ≡ ms → versions apply (grown h e) k ≡ versions apply h k ++ ms
      grew ms is = versions-grown h e k ∙ ap (λ ns. versions apply h k ++ ns) is

      nothing : versions apply (grown h e) k ≡ versions apply h k ++ [] → AllThere (grown h e) k (versions apply (grown h e) k)
      nothing g i m at = older i m (sym (ap (λ ms. slice_get ms i) (g ∙ append-nil (versions apply h k))) ∙ at)

      newest : (v : Version C) → IsVersionOf apply (grown h e) k (length (versions apply h k) + 1) v.content (clock_of h) → (i : ℕ) (m : Made C) → (slice_get (versions apply h k) i ≡ Some m) ⊎ ((i ≡ length (versions apply h k)) × (m ≡ made v.content (clock_of h))) → IsVersionOf apply (grown h e) k (i + 1) m.content m.tick
      newest v is i m (inl at) = older i m at
      newest v is i m (inr p) =
          subst (λ j. IsVersionOf apply (grown h e) k (j + 1) m.content m.tick) (sym p.0)
          (subst (λ x. IsVersionOf apply (grown h e) k (length (versions apply h k) + 1) x.content x.tick) (sym p.1) is)

      by : (b : Bool) → is_about k e.entry ≡ b → (o : Option (Version C)) → next_version apply (version_at apply h k) e ≡ o → AllThere (grown h e) k (versions apply (grown h e) k)
      by false about o next = nothing (grew [] (ap (λ b. cond b (made_at apply as_made (clock_of h) (next_version apply (version_at apply h k) e)) []) about))
      by true about None next = nothing (grew [] (ap (λ b. cond b (made_at apply as_made (clock_of h) (next_version apply (version_at apply h k) e)) []) about ∙ ap (made_at apply as_made (clock_of h)) next))
      by true about (Some v) next = λ i m at.
          let g = grew (made v.content (clock_of h) ∷ []) (ap (λ b. cond b (made_at apply as_made (clock_of h) (next_version apply (version_at apply h k) e)) []) about ∙ ap (made_at apply as_made (clock_of h)) next) in
          newest v (made_there h e k v about next g) i m (snoc_cases (versions apply h k) (made v.content (clock_of h)) i m (sym (ap (λ ms. slice_get ms i) g) ∙ at))

  from_there : (start : List (Key × C)) (before es : List (Event C)) (k : Key) → (let h : History C = record { start = start; events = before } in AllThere h k (versions apply h k)) → (let g : History C = record { start = start; events = before ++ es } in AllThere g k (versions apply g k))
  from_there start before [] k there = subst (λ fs. let g : History C = record { start = start; events = fs } in AllThere g k (versions apply g k)) (sym (append-nil before)) there
  from_there start before (e ∷ es) k there =
      let h : History C = record { start = start; events = before } in
      subst (λ fs. let g : History C = record { start = start; events = fs } in AllThere g k (versions apply g k)) (append_assoc before (e ∷ []) es)
      (from_there start (before ++ e ∷ []) es k (grown_there h e k there))

  start_there : (start : List (Key × C)) (k : Key) → let h : History C = record { start = start; events = [] } in AllThere h k (versions apply h k)
  start_there start k = by (version_at_start apply k start) refl
    where
      one : (v : Version C) → version_at_start apply k start ≡ Some v → (i : ℕ) (m : Made C) → slice_get (made_at apply as_made 0 (Some v) ++ []) i ≡ Some m → IsVersionOf apply record { start = start; events = [] } k (i + 1) m.content m.tick
      one v is zero m at =
          let first : made v.content 0 ≡ m = (let q : Some (made v.content 0) ≡ Some m = at in cc) in
          let g : History C = record { start = start; events = [] } in
          let number : v.number ≡ 1 = ap number_of (sym is ∙ sym (present_start k start) ∙ ap (λ o. present (made_at apply as_made 0 o)) is) in
          subst (λ x. IsVersionOf apply g k 1 x.content x.tick) first
          record { before = g; extends = extends_itself g; stood = is ∙ ap (λ n. Some record { number = n; content = v.content }) number; clock = refl }
      one v is (suc i) m at = absurd (cc)

      by : (o : Option (Version C)) → version_at_start apply k start ≡ o → let g : History C = record { start = start; events = [] } in AllThere g k (versions apply g k)
      by None is = subst (λ o. (i : ℕ) (m : Made C) → slice_get (made_at apply as_made 0 o ++ []) i ≡ Some m → IsVersionOf apply record { start = start; events = [] } k (i + 1) m.content m.tick) (sym is) (λ i m at. absurd (cc))
      by (Some v) is = subst (λ o. (i : ℕ) (m : Made C) → slice_get (made_at apply as_made 0 o ++ []) i ≡ Some m → IsVersionOf apply record { start = start; events = [] } k (i + 1) m.content m.tick) (sym is) (one v is)

  pub each_was_there : (h : History C) (k : Key) → AllThere h k (versions apply h k)
  each_was_there h k = from_there h.start [] h.events k (start_there h.start k)
