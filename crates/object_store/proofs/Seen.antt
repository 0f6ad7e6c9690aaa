-- What stands under the key of a snapshot.
use Rattle.std.proofs.Common.{◌≡◌, ℕ, ◌+◌, ◌-◌, ◌<◌, List, [], ◌∷◌, length, refl, sym, ◌∙◌, ap, arith, Option, Some, None}
use Rattle.std.specs.Prelude.{slice_get}
use Rattle.tree_types.specs.declared.entry.Key.{Key}
use Rattle.tree_types.specs.declared.entry.Entry.{Entry}
use Rattle.history.specs.History.{History, Version, number_of, version_at, IsVersionOf}
use Rattle.history.proofs.Carrying.{still_stands}
use Rattle.object_store.specs.Laws.{Stands}
use Rattle.object_store.specs.declared.line.Made.{Made}
use Rattle.object_store.specs.Versions.{versions, present, last_of}
use Rattle.object_store.specs.Inside.Rows.{Rows, IsLine}
use Rattle.object_store.proofs.Versions.{last_is_present, at_last}

module _ {C : Type 0} (apply : C → Entry → Option C) where
  pub seen_stands : (h : History C) (k : Key) (n : ℕ) (c : C) (t : ℕ) → IsVersionOf apply h k n c t → Stands (version_at apply h k) n c
  seen_stands h k n c t s =
      let st = still_stands apply h s.before k record { number = n; content = c } s.extends s.stood in
      record { now = st.now; is_now = st.is_now; risen = st.risen; same = λ e. ap (λ (v : Version C). v.content) (st.same e) }

  pub seen_there : (h : History C) (k : Key) (n : ℕ) (c : C) (t : ℕ) → IsVersionOf apply h k n c t → version_at apply h k ≡ None → ⊥
  seen_there h k n c t s none = let st = seen_stands h k n c t s in let e : Some st.now ≡ None = sym st.is_now ∙ none in cc

  pub seen_risen : (h : History C) (k : Key) (n : ℕ) (c : C) (t : ℕ) (found : ℕ) (d : C) → IsVersionOf apply h k n c t → version_at apply h k ≡ Some record { number = found; content = d } → (found ≡ n → ⊥) → n < found
  seen_risen h k n c t found d s at apart =
      let st = seen_stands h k n c t s in
      let f : st.now.number ≡ found = ap number_of (sym st.is_now ∙ at) in
      let r = st.risen in
      omega arith

  pub seen_unmoved : (h : History C) (k : Key) (n : ℕ) (c : C) (t : ℕ) (found : ℕ) (d : C) → IsVersionOf apply h k n c t → version_at apply h k ≡ Some record { number = found; content = d } → found ≡ n → version_at apply h k ≡ Some record { number = n; content = c }
  seen_unmoved h k n c t found d s at same =
      let st = seen_stands h k n c t s in
      let f : st.now.number ≡ n = ap number_of (sym st.is_now ∙ at) ∙ same in
      st.is_now ∙ ap (λ m. Some record { number = m; content = st.now.content }) f ∙ ap (λ x. Some record { number = n; content = x }) (st.same f)

  -- ---- the last version, by its place

  last_stands : (ms : List (Made C)) (m : Made C) → slice_get ms (length ms - 1) ≡ Some m → present ms ≡ Some record { number = length ms; content = m.content }
  last_stands [] m at = absurd (cc)
  last_stands (x ∷ ms) m at =
      let place : length (x ∷ ms) - 1 ≡ length ms = omega arith in
      let last : last_of x ms ≡ m = (let e : Some (last_of x ms) ≡ Some m = sym (at_last x ms) ∙ ap (slice_get (x ∷ ms)) (sym place) ∙ at in cc) in
      ap (λ (y : Made C). Some record { number = length ms + 1; content = y.content }) last ∙ ap (λ n. Some record { number = n; content = m.content }) (omega arith)

  stands_last : (h : History C) (k : Key) (ms : List (Made C)) (m : Made C) (n : ℕ) → versions apply h k ≡ ms → n ≡ length ms → slice_get ms (n - 1) ≡ Some m → version_at apply h k ≡ Some record { number = n; content = m.content }
  stands_last h k ms m n is number at =
      sym (last_is_present apply h k) ∙ ap present is ∙ last_stands ms m (ap (λ i. slice_get ms (i - 1)) (sym number) ∙ at) ∙ ap (λ i. Some record { number = i; content = m.content }) (sym number)

  -- the object of a line
  pub line_present : (es : List Entry) (h : History C) (k : Key) (r : Rows C) (m : Made C) (n : ℕ) → IsLine apply es r (versions apply h k) → n ≡ length r.changes + 1 → slice_get (versions apply h k) (length r.changes) ≡ Some m → version_at apply h k ≡ Some record { number = n; content = m.content }
  line_present es h k r m n line number at =
      stands_last h k (versions apply h k) m n refl (number ∙ sym line.stands.counted) (ap (slice_get (versions apply h k)) (omega arith) ∙ at)

  last_found : (ms : List (Made C)) (n : ℕ) → length ms ≡ n + 1 → (m : Made C) × (slice_get ms n ≡ Some m) × (present ms ≡ Some record { number = n + 1; content = m.content })
  last_found [] n many = absurd (omega arith)
  last_found (x ∷ ms) n many =
      let place : n ≡ length ms = omega arith in
      (last_of x ms, ap (slice_get (x ∷ ms)) place ∙ at_last x ms, ap (λ i. Some record { number = i + 1; content = (last_of x ms).content }) (sym place))

  -- its last version has the content of the object
  pub last_version : (es : List Entry) (h : History C) (k : Key) (r : Rows C) (v : Version C) → IsLine apply es r (versions apply h k) → version_at apply h k ≡ Some v → (m : Made C) × (slice_get (versions apply h k) (length r.changes) ≡ Some m) × (m.content ≡ v.content)
  last_version es h k r v line stood =
      let found = last_found (versions apply h k) (length r.changes) line.stands.counted in
      (found.0, found.1, content_is found.0.content (length r.changes + 1) (sym found.2 ∙ last_is_present apply h k ∙ stood))
    where
      content_is : (c : C) (n : ℕ) → Some record { number = n; content = c } ≡ Some v → c ≡ v.content
      content_is c n e = let same : record { number = n; content = c } ≡ v = cc in ap (λ (w : Version C). w.content) same

  pub stands_none : (h : History C) (k : Key) → versions apply h k ≡ [] → version_at apply h k ≡ None
  stands_none h k is = sym (last_is_present apply h k) ∙ ap present is

  nothing_there : (ms : List (Made C)) → present ms ≡ None → ms ≡ []
  nothing_there [] e = refl
  nothing_there (m ∷ ms) e = absurd (cc)

  pub none_stands : (g h : History C) (k : Key) → g ≡ h → version_at apply h k ≡ None → versions apply g k ≡ []
  none_stands g h k is none = nothing_there (versions apply g k) (last_is_present apply g k ∙ ap (λ x. version_at apply x k) is ∙ none)

  -- an object that stands has a version
  pub some_stands : (g h : History C) (k : Key) (v : Version C) → g ≡ h → version_at apply h k ≡ Some v → versions apply g k ≡ [] → ⊥
  some_stands g h k v is at none = let e : None ≡ Some v = sym (ap present none) ∙ last_is_present apply g k ∙ ap (λ x. version_at apply x k) is ∙ at in cc
