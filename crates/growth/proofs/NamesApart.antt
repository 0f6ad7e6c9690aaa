-- Where the names of steps and tasks are as a valid manifest has them, those of a group, and of a DAG, are sound and apart.
use Rattle.std.proofs.Common.{◌≡◌, refl, sym, ◌∙◌, ap, ap₂, subst, append_assoc, append-nil, ◌≤◌, length}
use Rattle.std.proofs.Math.Logic.{inl, inr}
use Rattle.std.proofs.lemmas.Bool.{leb-true}
use Rattle.std.proofs.lemmas.List.Folds.{list_any-append}
use Rattle.std.proofs.lemmas.Slice.Eq.{bytes_eq-Decides}
use Rattle.std.specs.Prelude.{ℕ, List, [], ◌∷◌, ◌++◌, Bool, true, false, not, ◌&&◌, ◌||◌, bytes_eq, codes, map}
use Rattle.std.specs.List.{list_all, AllByRecursion}
use Rattle.base_types.specs.Bytes.{is_name}
use Rattle.base_types.specs.Limits.{most_members}
use Rattle.base_types.specs.Names.{is_among, differ_from}
use Rattle.node_names.specs.declared.seg.Seg.TheVariants as seg
use Rattle.node_names.specs.Names.{is_step_name, IsSound}
use Rattle.wf_manifest.specs.declared.calls.Call.{Call}
use Rattle.wf_manifest.specs.declared.calls.Task.{Task}
use Rattle.wf_manifest.specs.declared.templates.Body.{Body}
use Rattle.wf_manifest.specs.declared.templates.Body.TheVariants as body
use Rattle.wf_manifest.specs.declared.templates.Template.{Template}
use Rattle.wf_manifest.specs.declared.manifest.Manifest.{Manifest}
use Rattle.wf_manifest.specs.Valid.{calls_in, calls_of, has_step_names, steps_differ, is_short, body_is_short}
use Rattle.growth.specs.Growth.{Among}
use Rattle.growth.specs.Nodes.{NamesApart, ValidAreApart}
use Rattle.growth.proofs.Numbered.{both_true}

-- ---- what is known of the names of one group, or of one DAG

abbrev pub AreApart : List (List ℕ) → Type 0
AreApart [] = Unit {0}
AreApart (n ∷ ns) = IsSound (seg.Call n) × (Among n ns → ⊥) × AreApart ns

abbrev pub GroupsApart : List (List Call) → Type 0
GroupsApart [] = Unit {0}
GroupsApart (cs ∷ gs) = AreApart (map (λ c. c.name) cs) × GroupsApart gs

abbrev pub BodyApart : Body → Type 0
BodyApart body.Pod = Unit {0}
BodyApart (body.Steps gs) = GroupsApart gs × (length gs ≤ most_members)
BodyApart (body.Dag d) = AreApart (map (λ t. t.call.name) d.tasks)
BodyApart (body.Suspend duration) = Unit {0}

-- ---- names that differ

true_not : (b : Bool) → not b ≡ true → b ≡ true → ⊥
true_not true e f = absurd (cc e)
true_not false e f = absurd (cc f)

among_itself : (before : List (List ℕ)) (n : List ℕ) → is_among (before ++ n ∷ []) n ≡ true
among_itself before n = list_any-append (bytes_eq n) before (n ∷ []) ∙ go (is_among before n) (bytes_eq n n) ((bytes_eq-Decides n n).1 refl)
  where
    go : (a b : Bool) → b ≡ true → (a || (b || false)) ≡ true
    go true b e = refl
    go false true e = refl
    go false false e = e

among_more : (before after : List (List ℕ)) (n : List ℕ) → is_among before n ≡ true → is_among (before ++ after) n ≡ true
among_more before after n e = list_any-append (bytes_eq n) before after ∙ ap (λ b. b || is_among after n) e

-- a name of before does not come again
not_again : (before ns : List (List ℕ)) (n : List ℕ) → differ_from before ns ≡ true → is_among before n ≡ true → Among n ns → ⊥
not_again before [] n d e a = a
not_again before (x ∷ xs) n d e (inl same) =
    true_not (is_among before x) (both_true (not (is_among before x)) (differ_from (before ++ x ∷ []) xs) d).0 (subst (λ (y : List ℕ). is_among before y ≡ true) (sym same) e)
not_again before (x ∷ xs) n d e (inr a) =
    not_again (before ++ x ∷ []) xs n (both_true (not (is_among before x)) (differ_from (before ++ x ∷ []) xs) d).1 (among_more before (x ∷ []) n e) a

-- of two lists that differ together each differs, and the second from the first besides
differ_parts : (before xs ys : List (List ℕ)) → differ_from before (xs ++ ys) ≡ true → (differ_from before xs ≡ true) × (differ_from (before ++ xs) ys ≡ true)
differ_parts before [] ys d = (refl, subst (λ (b : List (List ℕ)). differ_from b ys ≡ true) (sym (append-nil before)) d)
differ_parts before (x ∷ xs) ys d =
    let two = both_true (not (is_among before x)) (differ_from (before ++ x ∷ []) (xs ++ ys)) d in
    let rest = differ_parts (before ++ x ∷ []) xs ys two.1 in
    (ap₂ ◌&&◌ two.0 rest.0, subst (λ (b : List (List ℕ)). differ_from b ys ≡ true) (append_assoc before (x ∷ []) xs) rest.1)

-- ---- names of steps

sound_name : (n : List ℕ) → is_step_name n ≡ true → IsSound (seg.Call n)
sound_name n e =
    let two = both_true (is_name n && not (bytes_eq n (codes "onExit"))) (not (bytes_eq n (codes "hooks"))) e in
    let one = both_true (is_name n) (not (bytes_eq n (codes "onExit"))) two.0 in
    (one.0, λ same. true_not (bytes_eq n (codes "onExit")) one.1 ((bytes_eq-Decides n (codes "onExit")).1 same))

module _ {X : Type 0} (read : X → List ℕ) where
  apart : (before : List (List ℕ)) (xs : List X) → differ_from before (map read xs) ≡ true → list_all (λ x. is_step_name (read x)) xs ≡ true → AreApart (map read xs)
  apart before [] d e = tt
  apart before (x ∷ xs) d e =
      let two = both_true (not (is_among before (read x))) (differ_from (before ++ read x ∷ []) (map read xs)) d in
      let names = both_true (is_step_name (read x)) (list_all (λ y. is_step_name (read y)) xs) e in
      (sound_name (read x) names.0, not_again (before ++ read x ∷ []) (map read xs) (read x) two.1 (among_itself before (read x)), apart (before ++ read x ∷ []) xs two.1 names.1)

map_parts : (xs ys : List Call) → map (λ c. c.name) (xs ++ ys) ≡ map (λ c. c.name) xs ++ map (λ c. c.name) ys
map_parts [] ys = refl
map_parts (x ∷ xs) ys = ap (λ (l : List (List ℕ)). x.name ∷ l) (map_parts xs ys)

all_parts : (test : Call → Bool) (xs ys : List Call) → list_all test (xs ++ ys) ≡ true → (list_all test xs ≡ true) × (list_all test ys ≡ true)
all_parts test [] ys e = (refl, e)
all_parts test (x ∷ xs) ys e =
    let two = both_true (test x) (list_all test (xs ++ ys)) e in
    let rest = all_parts test xs ys two.1 in
    (ap₂ ◌&&◌ two.0 rest.0, rest.1)

groups_apart : (before : List (List ℕ)) (gs : List (List Call)) → differ_from before (map (λ c. c.name) (calls_in gs)) ≡ true → list_all (λ c. is_step_name c.name) (calls_in gs) ≡ true → GroupsApart gs
groups_apart before [] d e = tt
groups_apart before (cs ∷ gs) d e =
    let two = differ_parts before (map (λ c. c.name) cs) (map (λ c. c.name) (calls_in gs)) (subst (λ (l : List (List ℕ)). differ_from before l ≡ true) (map_parts cs (calls_in gs)) d) in
    let names = all_parts (λ c. is_step_name c.name) cs (calls_in gs) e in
    (apart (λ c. c.name) before cs two.0 names.0, groups_apart (before ++ map (λ c. c.name) cs) gs two.1 names.1)

-- ---- names of tasks

tasks_names : (ts : List Task) → map (λ c. c.name) (map (λ t. t.call) ts) ≡ map (λ t. t.call.name) ts
tasks_names [] = refl
tasks_names (t ∷ ts) = ap (λ (l : List (List ℕ)). t.call.name ∷ l) (tasks_names ts)

tasks_all : (ts : List Task) → list_all (λ c. is_step_name c.name) (map (λ t. t.call) ts) ≡ list_all (λ t. is_step_name t.call.name) ts
tasks_all [] = refl
tasks_all (t ∷ ts) = ap (λ b. is_step_name t.call.name && b) (tasks_all ts)

-- ---- manifests

of_body : (b : Body) → differ_from [] (map (λ c. c.name) (calls_of b)) ≡ true → list_all (λ c. is_step_name c.name) (calls_of b) ≡ true → body_is_short b ≡ true → BodyApart b
of_body body.Pod d e s = tt
of_body (body.Steps gs) d e s = (groups_apart [] gs d e, leb-true (length gs) most_members (both_true (is_short gs) (list_all is_short gs) s).0)
of_body (body.Dag dag) d e s =
    apart (λ t. t.call.name) [] dag.tasks (subst (λ (l : List (List ℕ)). differ_from [] l ≡ true) (tasks_names dag.tasks) d) (sym (tasks_all dag.tasks) ∙ e)
of_body (body.Suspend duration) d e s = tt

of_templates : (ts : List Template) → list_all steps_differ ts ≡ true → list_all has_step_names ts ≡ true → list_all (λ t. body_is_short t.body) ts ≡ true → AllByRecursion (λ t. BodyApart t.body) ts
of_templates [] d e s = tt
of_templates (t ∷ ts) d e s =
    let differs = both_true (steps_differ t) (list_all steps_differ ts) d in
    let named = both_true (has_step_names t) (list_all has_step_names ts) e in
    let short = both_true (body_is_short t.body) (list_all (λ t. body_is_short t.body) ts) s in
    (of_body t.body differs.0 named.0 short.0, of_templates ts differs.1 named.1 short.1)

pub valid_are_apart : ValidAreApart
valid_are_apart m v = record { step_names = v.step_names; steps_differ = v.steps_differ; short = v.short; retries = v.retries }

pub bodies_apart : (m : Manifest) → NamesApart m → AllByRecursion (λ t. BodyApart t.body) m.templates
bodies_apart m h = of_templates m.templates h.steps_differ h.step_names (both_true (is_short m.templates) (list_all (λ t. body_is_short t.body) m.templates) h.short).1
