-- The tests of ancestors and of circles tell what the relations of tasks say.
use Rattle.std.proofs.Common.{◌≡◌, ◌↔◌, ℕ, zero, suc, Bool, true, false, ◌&&◌, ◌||◌, ◌⊎◌, List, length, Option, Some, None, refl, sym, ap, ◌∙◌, subst, inl, inr}
use Rattle.std.specs.Prelude.{bytes_eq, IsTrue, is_none, IfSome, IfNone}
use Rattle.std.specs.List.{list_any}
use Rattle.std.proofs.lemmas.Bool.{cases_Bool}
use Rattle.base_types.specs.Names.{is_among}
use Rattle.wf_manifest.specs.declared.calls.Task.{Task}
use Rattle.wf_manifest.specs.Valid.{waits_for, HasRank}
use Rattle.task_order.specs.Ancestors.{names, Waits, IsAncestor, parent, above, HasOwnAncestor}
use Rattle.task_order.proofs.Among.{among_from, contains_from, any_from, any_at, same_text, text_same, listed, is_listed}
use Rattle.task_order.proofs.Ranks.{no_own_ancestor}
use Rattle.wf_places.specs.Circles.{is_waiting, waits, is_ancestor_within, is_ancestor, has_circle}
use Rattle.wf_places.specs.Inside.Ancestry.{IsKnown}
use Rattle.wf_places.proofs.Bounded.{bounded, within_known}

both : (a b : Bool) → (a && b) ≡ true → (a ≡ true) × (b ≡ true)
both true b e = (refl, e)
both false b e = absurd cc

join : (a b : Bool) → a ≡ true → b ≡ true → (a && b) ≡ true
join true b e f = f
join false b e f = absurd cc

either : (a b : Bool) → (a || b) ≡ true → (a ≡ true) ⊎ (b ≡ true)
either true b e = inl refl
either false b e = inr e

or_left : (a b : Bool) → a ≡ true → (a || b) ≡ true
or_left true b e = refl
or_left false b e = absurd cc

or_right : (a b : Bool) → b ≡ true → (a || b) ≡ true
or_right true b e = refl
or_right false b e = e

module _ (tasks : List Task) where
  waits_told : (u other : List ℕ) → waits tasks u other ≡ true → Waits tasks other u
  waits_told u other e =
      let parts = both (is_among (names tasks) other) (list_any (is_waiting u other) tasks) e in
      let (t, among, passes) = any_at (is_waiting u other) tasks parts.1 in
      let named = both (bytes_eq t.call.name u) (is_among (waits_for t) other) passes in
      record {
        task = t;
        among = contains_from tasks t among;
        is = same_text t.call.name u named.0;
        waits = contains_from (waits_for t) other (listed (waits_for t) other named.1);
        there = parts.0;
      }

  waits_shown : (u other : List ℕ) → Waits tasks other u → waits tasks u other ≡ true
  waits_shown u other w =
      join (is_among (names tasks) other) (list_any (is_waiting u other) tasks) w.there
      (any_from (is_waiting u other) tasks w.task (among_from tasks w.task w.among)
      (join (bytes_eq w.task.call.name u) (is_among (waits_for w.task) other) (text_same w.task.call.name u w.is) (is_listed (waits_for w.task) other (among_from (waits_for w.task) other w.waits))))

  module _ (ancestor : List ℕ) where
    abbrev test : ℕ → List ℕ → List ℕ → Bool
    test n u other = waits tasks u other && is_ancestor_within n tasks ancestor other

    told : (n : ℕ) (u : List ℕ) → is_ancestor_within n tasks ancestor u ≡ true → IsAncestor tasks ancestor u
    told zero u e = absurd cc
    told (suc n) u e =
        elim (either (waits tasks u ancestor) (list_any (test n u) (names tasks)) e) [
          | inl w ↦ parent (waits_told u ancestor w)
          | inr any ↦
              let (other, among, passes) = any_at (test n u) (names tasks) any in
              let parts = both (waits tasks u other) (is_ancestor_within n tasks ancestor other) passes in
              above other (waits_told u other parts.0) (told n other parts.1)
        ]

    shown : {u : List ℕ} → IsAncestor tasks ancestor u → (n : ℕ) × (is_ancestor_within n tasks ancestor u ≡ true)
    shown {u} (parent w) = (1, or_left (waits tasks u ancestor) (list_any (test 0 u) (names tasks)) (waits_shown u ancestor w))
    shown {u} (above other w rest) =
        let (n, e) = shown rest in (
          suc n,
          or_right (waits tasks u ancestor) (list_any (test n u) (names tasks))
              (any_from (test n u) (names tasks) other (listed (names tasks) other w.there)
              (join (waits tasks u other) (is_ancestor_within n tasks ancestor other) (waits_shown u other w) e)),
        )

    pub is_told : (u : List ℕ) → is_ancestor tasks ancestor u ≡ true → IsAncestor tasks ancestor u
    is_told u e = told (length tasks) u e

    pub is_shown : (u : List ℕ) → IsAncestor tasks ancestor u → is_ancestor tasks ancestor u ≡ true
    is_shown u a = let (n, e) = shown a in bounded tasks ancestor n u e

  -- ---- circles

  pub circle_shown : HasOwnAncestor tasks → has_circle tasks ≡ true
  circle_shown (name, own) =
      let (n, e) = shown name own in
      any_from (λ name. is_ancestor tasks name name) (names tasks) name (listed (names tasks) name (within_known tasks name n name e)) (is_shown name name own)

  pub circle_told : has_circle tasks ≡ true → HasOwnAncestor tasks
  circle_told e =
      let (name, among, own) = any_at (λ name. is_ancestor tasks name name) (names tasks) e in
      (name, is_told name name own)

  pub ranked : HasRank tasks → has_circle tasks ≡ false
  ranked rank =
      elim (cases_Bool (has_circle tasks)) [
        | inl circle ↦ let (name, own) = circle_told circle in absurd (no_own_ancestor tasks name rank own)
        | inr none ↦ none
      ]

  -- ---- what is kept

  pub known_circle : (known : Option (List Task)) → IsKnown tasks known → is_none known ≡ has_circle tasks
  known_circle None circle = sym circle
  known_circle (Some known) is = sym is.1

  same_test : (a b : Bool) (P : Type 0) → IsTrue a ↔ P → (b ≡ true → P) → (P → b ≡ true) → a ≡ b
  same_test true b P told back forth = sym (forth (told.0 refl))
  same_test false true P told back forth = told.1 (back refl)
  same_test false false P told back forth = refl

  -- what the ancestors tell, where there is no circle
  pub asked_known : (known : List Task) (name task : List ℕ) (answer : Bool) → IsKnown tasks (Some known) → IsTrue answer ↔ IsAncestor known name task → answer ≡ (has_circle tasks || is_ancestor tasks name task)
  asked_known known name task answer is told =
      let same : IsTrue answer ↔ IsAncestor tasks name task = subst (λ ts. IsTrue answer ↔ IsAncestor ts name task) is.0 told in
      same_test answer (is_ancestor tasks name task) (IsAncestor tasks name task) same (is_told name task) (is_shown name task)
      ∙ ap (λ b. b || is_ancestor tasks name task) (sym is.1)

  -- the ancestors are known exactly where there is no circle
  pub made_known : (made : Option (List Task)) → IfSome made (λ ancestors. ancestors ≡ tasks) → IfSome made (λ ancestors. HasRank tasks) → IfNone made (HasOwnAncestor tasks) → IsKnown tasks made
  made_known None some rank none = circle_shown none
  made_known (Some known) some rank none = (some, ranked rank)

pub asked_answer : (inside tasks : List Task) (kept : Option (List Task)) (known : List Task) (name task n t : List ℕ) (answer : Bool) → inside ≡ tasks → IsKnown inside kept → kept ≡ Some known → n ≡ name → t ≡ task → IsTrue answer ↔ IsAncestor known n t → answer ≡ (has_circle tasks || is_ancestor tasks name task)
asked_answer inside tasks kept known name task n t answer are keeps is named waiting told =
    asked_known inside known n t answer (subst (IsKnown inside) is keeps) told
    ∙ ap (λ (m : List ℕ). has_circle inside || is_ancestor inside m t) named
    ∙ ap (λ (u : List ℕ). has_circle inside || is_ancestor inside name u) waiting
    ∙ ap (λ (ts : List Task). has_circle ts || is_ancestor ts name task) are

pub always_asked : (inside tasks : List Task) (kept : Option (List Task)) (name task : List ℕ) → inside ≡ tasks → IsKnown inside kept → kept ≡ None → true ≡ (has_circle tasks || is_ancestor tasks name task)
always_asked inside tasks kept name task are keeps is =
    sym (ap (λ b. b || is_ancestor tasks name task) (sym (ap has_circle are) ∙ subst (IsKnown inside) is keeps))
