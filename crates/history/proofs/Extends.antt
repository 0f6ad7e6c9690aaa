-- Histories that go on: what one entry more adds, and what stays.
use Rattle.std.proofs.Common.{◌≡◌, ℕ, List, [], ◌∷◌, ◌++◌, Option, refl, sym, ◌∙◌, ap, append_assoc, append-nil}
use Rattle.std.specs.Prelude.{unwrap_or}
use Rattle.tree_types.specs.declared.entry.Key.{Key}
use Rattle.tree_types.specs.declared.entry.Entry.{Entry}
use Rattle.history.specs.Keys.{tick_of}
use Rattle.history.specs.History.{Event, History, Version, Extends, grown, clock_from, step_at, version_from, version_at_start, version_at, IsVersionOf, LawfulFrom, Lawful}

module _ {C : Type 0} where
  pub extends_itself : (h : History C) → Extends h h
  extends_itself h = record { same_start = refl; rest = []; goes_on = sym (append-nil h.events) }

  pub extends_grown : (h : History C) (e : Event C) → Extends (grown h e) h
  extends_grown h e = record { same_start = refl; rest = e ∷ []; goes_on = refl }

  pub extends_later : (h k l : History C) → Extends h k → Extends k l → Extends h l
  extends_later h k l a b = record { same_start = a.same_start ∙ b.same_start; rest = b.rest ++ a.rest; goes_on = a.goes_on ∙ ap (λ es. es ++ a.rest) b.goes_on ∙ append_assoc l.events b.rest a.rest }

  pub clock_from-append : (t : ℕ) (es fs : List (Event C)) → clock_from t (es ++ fs) ≡ clock_from (clock_from t es) fs
  clock_from-append t [] fs = refl
  clock_from-append t (e ∷ es) fs = clock_from-append (unwrap_or (tick_of e.entry) t) es fs

module _ {C : Type 0} (apply : C → Entry → Option C) where
  pub version_from-append : (k : Key) (v : Option (Version C)) (es fs : List (Event C)) → version_from apply k v (es ++ fs) ≡ version_from apply k (version_from apply k v es) fs
  version_from-append k v [] fs = refl
  version_from-append k v (e ∷ es) fs = version_from-append k (step_at apply k v e) es fs

  pub version_at-grown : (h : History C) (e : Event C) (k : Key) → version_at apply (grown h e) k ≡ step_at apply k (version_at apply h k) e
  version_at-grown h e k = version_from-append k (version_at_start apply k h.start) h.events (e ∷ [])

  pub is_version_later : (h g : History C) (k : Key) (n : ℕ) (c : C) (t : ℕ) → Extends g h → IsVersionOf apply h k n c t → IsVersionOf apply g k n c t
  is_version_later h g k n c t b s = record { before = s.before; extends = extends_later g h s.before b s.extends; stood = s.stood; clock = s.clock }

module _ {C : Type 0} (justified : History C → Event C → Type 0) where
  pub lawful_from-append : (start : List (Key × C)) (before es : List (Event C)) (e : Event C) → LawfulFrom justified start before es → justified record { start = start; events = before ++ es } e → LawfulFrom justified start before (es ++ e ∷ [])
  lawful_from-append start before [] e l j = (rw append-nil at j, tt)
  lawful_from-append start before (x ∷ xs) e l j = (l.0, lawful_from-append start (before ++ x ∷ []) xs e l.1 (rw append_assoc j))

  pub lawful-grown : (h : History C) (e : Event C) → Lawful justified h → justified h e → Lawful justified (grown h e)
  lawful-grown h e l j = lawful_from-append h.start [] h.events e l j
