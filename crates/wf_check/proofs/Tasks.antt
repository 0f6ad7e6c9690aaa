-- What stands in DAGs at which no rule is broken.
use Rattle.std.proofs.Common.{◌≡◌, ℕ, suc, ◌<◌, Bool, true, false, ◌||◌, ◌&&◌, not, List, [], ◌∷◌, ◌++◌, take, map, Option, Some, None, refl, sym, ap, ◌∙◌, subst, inl, inr}
use Rattle.std.specs.Prelude.{All, bytes_eq, codes, if◌then◌else◌}
use Rattle.std.specs.List.{list_all, list_any}
use Rattle.std.proofs.lemmas.Bool.{cases_Bool}
use Rattle.std.proofs.lemmas.List.Elements.{All-nil, All-cons}
use Rattle.base_types.specs.Names.{is_among}
use Rattle.json_fields.specs.Paths.{Path, field_of, member_of}
use Rattle.field_kinds.specs.Rules as rules
use Rattle.depends_expr.specs.Expression.{Expression}
use Rattle.depends_expr.specs.Truth.{named as named_in, names_of, add_name, add_names}
use Rattle.wf_manifest.specs.declared.calls.Call.{Call}
use Rattle.wf_manifest.specs.declared.calls.Task.{Task}
use Rattle.wf_manifest.specs.declared.manifest.Manifest.{Manifest}
use Rattle.wf_manifest.specs.Valid.{names_in, waits_for, HasRank}
use Rattle.task_order.specs.Ancestors.{names, Waits, parent, above}
use Rattle.task_order.proofs.Among.{Among, contains_from, same_text, listed, any_from}
use Rattle.wf_places.specs.Broken.{broken}
use Rattle.wf_places.specs.Circles.{is_ancestor, has_circle}
use Rattle.wf_places.specs.Tags.{Around, call_names}
use Rattle.wf_places.specs.Calls.{call_front, call_back}
use Rattle.wf_places.specs.Dags.{named_places, dependencies_places, depends_places, of_task, tasks_places}
use Rattle.wf_places.proofs.Bounded.{count, Same, grow}
use Rattle.wf_places.proofs.Waiting.{is_told, is_shown}
use Rattle.wf_check.proofs.Cleared.{Clear, left, right, holds}
use Rattle.wf_check.proofs.Parts.{and_true, Fresh, AreGood, of_manifest, call_good}

and_parts : (a b : Bool) → (a && b) ≡ true → (a ≡ true) × (b ≡ true)
and_parts true b e = (refl, e)
and_parts false b e = absurd cc

-- ---- names that a task waits for

module _ (known : List (List ℕ)) where
  abbrev knows : List (List ℕ) → Bool
  knows ns = list_all (is_among known) ns

  names_known : (at : Path) (i : ℕ) (ns : List (List ℕ)) → Clear (named_places known at i ns) → knows ns ≡ true
  names_known at i [] c = refl
  names_known at i (n ∷ ns) c =
      let first = broken rules.unknown_name (not (is_among known n)) (member_of at i) in
      let rest = named_places known at (suc i) ns in
      and_true (is_among known n) (knows ns) (holds rules.unknown_name refl (is_among known n) (member_of at i) (left first rest c)) (names_known at (suc i) ns (right first rest c))

  known_among : (ns : List (List ℕ)) (n : List ℕ) → knows ns ≡ true → list_any (bytes_eq n) ns ≡ true → is_among known n ≡ true
  known_among [] n all e = absurd cc
  known_among (m ∷ ms) n all e =
      let parts = and_parts (is_among known m) (knows ms) all in
      elim (cases_Bool (bytes_eq n m)) [
        | inl is ↦ ap (is_among known) (same_text n m is) ∙ parts.0
        | inr other ↦ known_among ms n parts.1 (sym (ap (λ b. b || list_any (bytes_eq n) ms) other) ∙ e)
      ]

  knows_front : (ns ms : List (List ℕ)) → knows (ns ++ ms) ≡ true → (knows ns ≡ true) × (knows ms ≡ true)
  knows_front [] ms e = (refl, e)
  knows_front (n ∷ ns) ms e =
      let parts = and_parts (is_among known n) (knows (ns ++ ms)) e in
      let rest = knows_front ns ms parts.1 in
      (and_true (is_among known n) (knows ns) parts.0 rest.0, rest.1)

  added : (ns : List (List ℕ)) (n : List ℕ) → knows (add_name ns n) ≡ true → (knows ns ≡ true) × (is_among known n ≡ true)
  added ns n e =
      elim (cases_Bool (list_any (bytes_eq n) ns)) [
        | inl there ↦
            let all : knows ns ≡ true = subst (λ (b : Bool). knows (if b then ns else ns ++ n ∷ []) ≡ true) there e in
            (all, known_among ns n all there)
        | inr new ↦
            let all : knows (ns ++ n ∷ []) ≡ true = subst (λ (b : Bool). knows (if b then ns else ns ++ n ∷ []) ≡ true) new e in
            let parts = knows_front ns (n ∷ []) all in
            (parts.0, (and_parts (is_among known n) true parts.1).0)
      ]

  all_added : (ns ms : List (List ℕ)) → knows (add_names ns ms) ≡ true → (knows ns ≡ true) × (knows ms ≡ true)
  all_added ns [] e = (e, refl)
  all_added ns (m ∷ ms) e =
      let rest = all_added (add_name ns m) ms e in
      let here = added ns m rest.0 in
      (here.0, and_true (is_among known m) (knows ms) here.1 rest.1)

  waited_known : (at : Path) (depends : Option Expression) (dependencies : Option (List (List ℕ))) → Clear (dependencies_places known at dependencies ++ depends_places known at depends) → knows (names_in depends dependencies) ≡ true
  waited_known at (Some e) ds c =
      let path = field_of at (codes "depends") in
      let told = holds rules.unknown_name refl (knows (names_of e)) path (right (dependencies_places known at ds) (depends_places known at (Some e)) c) in
      (all_added [] (named_in e) told).1
  waited_known at None (Some ns) c =
      names_known (field_of at (codes "dependencies")) 0 ns (left (dependencies_places known at (Some ns)) [] c)
  waited_known at None None c = refl

-- ---- tasks

abbrev pub calls : List Task → List Call
calls ts = map (λ t. t.call) ts

module _ (m : Manifest) where
  pub tasks_good : (a : Around) (all : List Task) (at : Path) (i : ℕ) (ts : List Task) → Clear (tasks_places (of_manifest m a) all at i ts) → Fresh (call_names a.tasks) i (call_names (calls ts)) × AreGood m (calls ts) × (list_all (λ t. list_all (is_among (call_names a.tasks)) (waits_for t)) ts ≡ true)
  tasks_good a all at i [] c = (tt, tt, refl)
  tasks_good a all at i (t ∷ ts) c =
      let known = call_names a.tasks in
      let here = member_of at i in
      let b = of_task (of_manifest m a) all t.call.name in
      let again = is_among (take i known) t.call.name in
      let front = call_front b again here t.call in
      let waited = dependencies_places known here t.dependencies ++ depends_places known here t.depends in
      let back = call_back b here t.call in
      let rest = tasks_places (of_manifest m a) all at (suc i) ts in
      let whole = left ((front ++ waited) ++ back) rest c in
      let begin = left (front ++ waited) back whole in
      let good = call_good m (of_task a all t.call.name) again here t.call (left front waited begin) (right (front ++ waited) back whole) in
      let there = waited_known known here t.depends t.dependencies (right front waited begin) in
      let (fresh, are, waits) = tasks_good a all at (suc i) ts (right ((front ++ waited) ++ back) rest c) in (
        (good.0, fresh),
        (good.1, are),
        and_true (list_all (is_among known) (waits_for t)) (list_all (λ t. list_all (is_among known) (waits_for t)) ts) there waits,
      )

-- ---- ranks

all_among : {A : Type 0} (P : A → Type 0) (xs : List A) → ((x : A) → Among x xs → P x) → All P xs
all_among P [] f = All-nil P
all_among P (x ∷ xs) f = All-cons P x xs (f x (inl refl)) (all_among P xs (λ y among. f y (inr among)))

known_of : {A : Type 0} (p : A → Bool) (xs : List A) → list_all p xs ≡ true → (x : A) → Among x xs → p x ≡ true
known_of p [] e x among = absurd among
known_of p (y ∷ ys) e x (inl is) = ap p (sym is) ∙ (and_parts (p y) (list_all p ys) e).0
known_of p (y ∷ ys) e x (inr later) = known_of p ys (and_parts (p y) (list_all p ys) e).1 x later

same_at : {A : Type 0} (p q : A → Bool) (xs : List A) → Same p q xs → (x : A) → Among x xs → p x ≡ q x
same_at p q [] s x among = absurd among
same_at p q (y ∷ ys) s x (inl is) = ap p (sym is) ∙ s.0 ∙ ap q is
same_at p q (y ∷ ys) s x (inr later) = same_at p q ys s.1 x later

module _ (tasks : List Task) (there : list_all (λ t. list_all (is_among (names tasks)) (waits_for t)) tasks ≡ true) (no_circle : has_circle tasks ≡ false) where
  -- the number of its ancestors
  abbrev rank : List ℕ → ℕ
  rank name = count (λ ancestor. is_ancestor tasks ancestor name) (names tasks)

  lower : (t : Task) → Among t tasks → (name : List ℕ) → Among name (waits_for t) → rank name < rank t.call.name
  lower t task name waited =
      let among : is_among (names tasks) name ≡ true = known_of (is_among (names tasks)) (waits_for t) (known_of (λ t. list_all (is_among (names tasks)) (waits_for t)) tasks there t task) name waited in
      let waits : Waits tasks name t.call.name = record { task = t; among = contains_from tasks t task; is = refl; waits = contains_from (waits_for t) name waited; there = among } in
      elim (grow (λ ancestor. is_ancestor tasks ancestor name) (λ ancestor. is_ancestor tasks ancestor t.call.name) (λ ancestor e. is_shown tasks ancestor t.call.name (above name waits (is_told tasks ancestor name e))) (names tasks)) [
        | inl same ↦
            let own : is_ancestor tasks name name ≡ true = same_at (λ ancestor. is_ancestor tasks ancestor name) (λ ancestor. is_ancestor tasks ancestor t.call.name) (names tasks) same name (listed (names tasks) name among) ∙ is_shown tasks name t.call.name (parent waits) in
            let circle : has_circle tasks ≡ true = any_from (λ name. is_ancestor tasks name name) (names tasks) name (listed (names tasks) name among) own in
            let never : true ≡ false = sym circle ∙ no_circle in
            absurd cc
        | inr less ↦ less
      ]

  pub ranked : HasRank tasks
  ranked = record {
    rank = rank;
    higher =
        all_among (λ t. All (λ name. rank name < rank t.call.name) (waits_for t)) tasks (λ t task. all_among (λ name. rank name < rank t.call.name) (waits_for t) (λ name waited. lower t task name waited));
  }
