-- A valid manifest may be walked over.
use Rattle.std.proofs.Common.{◌≡◌, List, [], ◌∷◌, ◌++◌, refl, ap, ◌∙◌}
use Rattle.std.specs.Prelude.{All, IsTrue, map}
use Rattle.std.specs.List.{list_all}
use Rattle.std.proofs.lemmas.Bool.{and_parts}
use Rattle.std.proofs.lemmas.List.Elements.{All-nil, All-cons, All-head, All-tail}
use Rattle.base_types.specs.Names.{all_differ}
use Rattle.node_names.specs.Names.{is_step_name}
use Rattle.wf_manifest.specs.declared.calls.Call.{Call}
use Rattle.wf_manifest.specs.declared.calls.Task.{Task}
use Rattle.wf_manifest.specs.declared.templates.Body.{Body}
use Rattle.wf_manifest.specs.declared.templates.Body.TheVariants as body
use Rattle.wf_manifest.specs.declared.templates.Template.{Template}
use Rattle.wf_manifest.specs.declared.manifest.Manifest.{Manifest}
use Rattle.wf_manifest.specs.Valid.{calls_in, calls_of, has_step_names, steps_differ, is_short, body_is_short, retry_fits, tasks_are_there, HasNoCircle, Valid}
use Rattle.tree_walk.specs.Walkable.{IsNamed, AreNamed, IsWalkableBody, IsWalkable}

abbrev Named : List Call → Type 0
Named cs = IsTrue (list_all (λ c. is_step_name c.name) cs)

named_calls : (cs : List Call) → Named cs → All IsNamed cs
named_calls [] named = All-nil IsNamed
named_calls (c ∷ cs) named =
    let n = and_parts (is_step_name c.name) (list_all (λ c. is_step_name c.name) cs) named in
    All-cons IsNamed c cs n.0 (named_calls cs n.1)

named_tasks : (ts : List Task) → Named (map (λ t. t.call) ts) → All (λ t. IsNamed t.call) ts
named_tasks [] named = All-nil (λ t. IsNamed t.call)
named_tasks (t ∷ ts) named =
    let n = and_parts (is_step_name t.call.name) (list_all (λ c. is_step_name c.name) (map (λ t. t.call) ts)) named in
    All-cons (λ t. IsNamed t.call) t ts n.0 (named_tasks ts n.1)

front_named : (cs ds : List Call) → Named (cs ++ ds) → All IsNamed cs × Named ds
front_named [] ds named = (All-nil IsNamed, named)
front_named (c ∷ cs) ds named =
    let n = and_parts (is_step_name c.name) (list_all (λ c. is_step_name c.name) (cs ++ ds)) named in
    let rest = front_named cs ds n.1 in
    (All-cons IsNamed c cs n.0 rest.0, rest.1)

named_groups : (gs : List (List Call)) → Named (calls_in gs) → AreNamed gs
named_groups [] named = All-nil (All IsNamed)
named_groups (cs ∷ gs) named =
    let parts = front_named cs (calls_in gs) named in
    All-cons (All IsNamed) cs gs parts.0 (named_groups gs parts.1)

names_of_calls : (ts : List Task) → map (λ t. t.call.name) ts ≡ map (λ c. c.name) (map (λ t. t.call) ts)
names_of_calls [] = refl
names_of_calls (t ∷ ts) = ap (λ ns. t.call.name ∷ ns) (names_of_calls ts)

walkable_body : (b : Body) → Named (calls_of b) → IsTrue (all_differ (map (λ c. c.name) (calls_of b))) → IsTrue (tasks_are_there b) → IsTrue (body_is_short b) → HasNoCircle b → IsWalkableBody b
walkable_body body.Pod named differ there short circle = tt
walkable_body (body.Steps gs) named differ there short circle = named_groups gs named
walkable_body (body.Dag d) named differ there short circle =
    record { named = named_tasks d.tasks named; differ = same_names d.tasks differ; there = there; short = short; ranked = circle }
  where
    same_names : (ts : List Task) → IsTrue (all_differ (map (λ c. c.name) (map (λ t. t.call) ts))) → IsTrue (all_differ (map (λ t. t.call.name) ts))
    same_names ts d = ap (λ ns. all_differ ns) (names_of_calls ts) ∙ d
walkable_body (body.Suspend duration) named differ there short circle = tt

walkable_all : (ts : List Template) → IsTrue (list_all has_step_names ts) → IsTrue (list_all steps_differ ts) → IsTrue (list_all (λ t. tasks_are_there t.body) ts)
    → IsTrue (list_all (λ t. body_is_short t.body) ts) → IsTrue (list_all (λ t. retry_fits t.retry) ts) → All (λ t. HasNoCircle t.body) ts → All IsWalkable ts
walkable_all [] named differ there short fits circle = All-nil IsWalkable
walkable_all (t ∷ ts) named differ there short fits circle =
    let n = and_parts (has_step_names t) (list_all has_step_names ts) named in
    let d = and_parts (steps_differ t) (list_all steps_differ ts) differ in
    let h = and_parts (tasks_are_there t.body) (list_all (λ t. tasks_are_there t.body) ts) there in
    let s = and_parts (body_is_short t.body) (list_all (λ t. body_is_short t.body) ts) short in
    let r = and_parts (retry_fits t.retry) (list_all (λ t. retry_fits t.retry) ts) fits in
    let here = All-head (λ t. HasNoCircle t.body) t ts circle in
    All-cons IsWalkable t ts (record { parts = walkable_body t.body n.0 d.0 h.0 s.0 here; retry = r.0 })
    (walkable_all ts n.1 d.1 h.1 s.1 r.1 (All-tail (λ t. HasNoCircle t.body) t ts circle))

pub walkable_templates : (m : Manifest) → Valid m → All IsWalkable m.templates
walkable_templates m valid =
    let short = and_parts (is_short m.templates) (list_all (λ t. body_is_short t.body) m.templates) valid.short in
    walkable_all m.templates valid.step_names valid.steps_differ valid.tasks short.1 valid.retries valid.no_circle
