-- A manifest that the rules let pass is valid.
use Rattle.std.proofs.Common.{◌≡◌, ℕ, suc, Bool, true, false, ◌&&◌, not, List, [], ◌∷◌, ◌++◌, take, map, Option, Some, None, Ok, refl, ap, ◌∙◌, subst}
use Rattle.std.specs.Prelude.{All, IsTrue, codes}
use Rattle.std.specs.List.{list_all, flat_map}
use Rattle.std.proofs.lemmas.List.Folds.{list_all-append}
use Rattle.std.proofs.lemmas.List.Elements.{All-nil, All-cons}
use Rattle.base_types.specs.Bytes.{is_name}
use Rattle.base_types.specs.Names.{is_among, all_differ}
use Rattle.json_fields.specs.Paths.{Path, field_of, member_of}
use Rattle.field_kinds.specs.Rules as rules
use Rattle.wf_manifest.specs.declared.calls.Call.{Call}
use Rattle.wf_manifest.specs.declared.calls.Task.{Task}
use Rattle.wf_manifest.specs.declared.templates.Body.{Body}
use Rattle.wf_manifest.specs.declared.templates.Body.TheVariants as body
use Rattle.wf_manifest.specs.declared.templates.Template.{Template}
use Rattle.wf_manifest.specs.declared.manifest.Manifest.{Manifest}
use Rattle.node_names.specs.Names.{is_step_name}
use Rattle.wf_manifest.specs.Valid.{Valid, template_names, calls_in, calls_of, argument_names, call_lists, template_lists, parameter_lists, steps_differ, has_step_names, has_template, has_named, call_is_there, calls_are_there, lists_are_short, parameters_are_short, retries_fit, template_named, gives_values, named_gives_values, call_gives_values, calls_give_values, task_names, waits_for, tasks_are_there, is_of_one_spelling, HasNoCircle}
use Rattle.wf_places.specs.Broken.{broken, plain_places}
use Rattle.wf_places.specs.Circles.{has_circle}
use Rattle.wf_places.specs.Tags.{Around, call_names, of_workflow, of_inputs, of_calls}
use Rattle.wf_places.specs.Calls.{arguments_places, template_places, lacks_value}
use Rattle.wf_places.specs.Dags.{tasks_places}
use Rattle.wf_places.specs.Places.{input_places, output_places, lock_places, memo_places, steps_of, tasks_of, inside, reaching, body_places, template_inside, templates_places, outside, entry_places, entry_if_there, manifest_places}
use Rattle.wf_check.specs.Verdicts.{verdict}
use Rattle.wf_check.proofs.Cleared.{Clear, checked_clear, left, right, unbroken, holds}
use Rattle.wf_check.proofs.Parts.{and_true, Fresh, all_fresh, Good, arguments_good, inputs_good, outputs_good, of_manifest, template_there, value_given, CallGood, AreGood, groups_good}
use Rattle.wf_check.proofs.Tasks.{calls, tasks_good, ranked}

same_names : (ts : List Task) → call_names (calls ts) ≡ map (λ t. t.call.name) ts
same_names [] = refl
same_names (t ∷ ts) = ap (λ ns. t.call.name ∷ ns) (same_names ts)

module _ (m : Manifest) where
  -- ---- bodies

  pub record BodyGood (b : Body) : Type 0 where
    pub differ : all_differ (call_names (calls_of b)) ≡ true
    pub calls : AreGood m (calls_of b)
    pub tasks : tasks_are_there b ≡ true
    pub spelling : is_of_one_spelling b ≡ true
    pub circle : HasNoCircle b

  abbrev within : Around → Body → Around
  within a b = record (of_manifest m a) { steps = steps_of b; tasks = tasks_of b }

  body_good : (a : Around) (at : Path) (b : Body) → Clear (body_places (within a b) at b) → BodyGood b
  body_good a at body.Pod c = record { differ = refl; calls = tt; tasks = refl; spelling = refl; circle = tt }
  body_good a at (body.Suspend d) c = record { differ = refl; calls = tt; tasks = refl; spelling = refl; circle = tt }
  body_good a at (body.Steps groups) c =
      let good = groups_good m (reaching of_calls (within a (body.Steps groups))) (field_of at (codes "steps")) 0 0 groups c in
      record {
        differ = all_fresh (call_names (calls_in groups)) good.0;
        calls = good.1;
        tasks = refl;
        spelling = refl;
        circle = tt;
      }
  body_good a at (body.Dag dag) c =
      let b = reaching of_calls (within a (body.Dag dag)) in
      let here = field_of at (codes "dag") in
      let known = call_names (calls dag.tasks) in
      let mix = broken rules.depends_mix (not (is_of_one_spelling (body.Dag dag))) here in
      let circle = broken rules.cycle (has_circle dag.tasks) here in
      let targets = broken rules.unknown_name (not (list_all (is_among known) dag.targets)) (field_of here (codes "target")) in
      let rest = tasks_places b dag.tasks (field_of here (codes "tasks")) 0 dag.tasks in
      let three = left ((mix ++ circle) ++ targets) rest c in
      let two = left (mix ++ circle) targets three in
      let (fresh, are, waits) = tasks_good m b dag.tasks (field_of here (codes "tasks")) 0 dag.tasks (right ((mix ++ circle) ++ targets) rest c) in
      let no_circle = unbroken rules.cycle refl (has_circle dag.tasks) here (right mix circle two) in
      let all_known = holds rules.unknown_name refl (list_all (is_among known) dag.targets) (field_of here (codes "target")) (right (mix ++ circle) targets three) in
      let there : list_all (λ t. list_all (is_among (task_names dag)) (waits_for t)) dag.tasks ≡ true = subst (λ ns. list_all (λ t. list_all (is_among ns) (waits_for t)) dag.tasks ≡ true) (same_names dag.tasks) waits in
      record {
        differ = all_fresh known fresh;
        calls = are;
        tasks = and_true (list_all (is_among (task_names dag)) dag.targets) (list_all (λ t. list_all (is_among (task_names dag)) (waits_for t)) dag.tasks) (subst (λ ns. list_all (is_among ns) dag.targets ≡ true) (same_names dag.tasks) all_known) there;
        spelling = holds rules.depends_mix refl (is_of_one_spelling (body.Dag dag)) here (left mix circle two);
        circle = ranked dag.tasks there no_circle;
      }

  -- ---- templates

  pub record TemplateGood (t : Template) : Type 0 where
    pub inputs : Good (map (λ x. x.name) t.inputs)
    pub outputs : Good (map (λ o. o.name) t.outputs)
    pub body : BodyGood t.body

  template_good : (limited : List (List ℕ)) (a : Around) (at : Path) (t : Template) → Clear (template_inside limited (inside (of_manifest m a) t) at t) → TemplateGood t
  template_good limited a at t c =
      let b = inside (of_manifest m a) t in
      let inputs = input_places (reaching of_workflow b) (map (λ x. x.name) t.inputs) (field_of at (codes "inputs.parameters")) 0 t.inputs in
      let outputs = output_places (reaching of_calls b) (map (λ o. o.name) t.outputs) (field_of at (codes "outputs.parameters")) 0 t.outputs in
      let lock = lock_places limited at t.lock in
      let memo = memo_places (reaching of_inputs b) at t.memoize in
      let rest = body_places b at t.body in
      let three = left (((inputs ++ outputs) ++ lock) ++ memo) rest c in
      let declared = left (inputs ++ outputs) lock (left ((inputs ++ outputs) ++ lock) memo three) in
      record {
        inputs = inputs_good (reaching of_workflow b) (field_of at (codes "inputs.parameters")) t.inputs (left inputs outputs declared);
        outputs = outputs_good (reaching of_calls b) (field_of at (codes "outputs.parameters")) t.outputs (right inputs outputs declared);
        body = body_good (record a { inputs = map (λ x. x.name) t.inputs }) at t.body (right (((inputs ++ outputs) ++ lock) ++ memo) rest c);
      }

  abbrev AllGood : List Template → Type 0
  AllGood [] = Unit {0}
  AllGood (t ∷ ts) = TemplateGood t × AllGood ts

  templates_good : (limited : List (List ℕ)) (a : Around) (at : Path) (i : ℕ) (ts : List Template) → Clear (templates_places limited (of_manifest m a) at i ts) → Fresh (template_names m.templates) i (template_names ts) × AllGood ts
  templates_good limited a at i [] c = (tt, tt)
  templates_good limited a at i (t ∷ ts) c =
      let here = member_of at i in
      let path = field_of here (codes "name") in
      let again = is_among (take i (template_names m.templates)) t.name in
      let first = broken rules.double_name again path in
      let second = plain_places path t.name in
      let third = template_inside limited (inside (of_manifest m a) t) here t in
      let rest = templates_places limited (of_manifest m a) at (suc i) ts in
      let whole = left ((first ++ second) ++ third) rest c in
      let later = templates_good limited a at (suc i) ts (right ((first ++ second) ++ third) rest c) in (
        (unbroken rules.double_name refl again path (left first second (left (first ++ second) third whole)), later.0),
        (template_good limited a here t (right (first ++ second) third whole), later.1),
      )

  -- ---- tests of all templates

  all_templates : (test : Template → Bool) → ((t : Template) → TemplateGood t → test t ≡ true) → (ts : List Template) → AllGood ts → list_all test ts ≡ true
  all_templates test f [] g = refl
  all_templates test f (t ∷ ts) g = and_true (test t) (list_all test ts) (f t g.0) (all_templates test f ts g.1)

  all_calls : (test : Call → Bool) → ((c : Call) → CallGood m c → test c ≡ true) → (cs : List Call) → AreGood m cs → list_all test cs ≡ true
  all_calls test f [] g = refl
  all_calls test f (c ∷ cs) g = and_true (test c) (list_all test cs) (f c g.0) (all_calls test f cs g.1)

  all_flat : {A B : Type 0} (test : B → Bool) (f : A → List B) (xs : List A) → list_all (λ x. list_all test (f x)) xs ≡ true → list_all test (flat_map f xs) ≡ true
  all_flat test f [] e = refl
  all_flat test f (x ∷ xs) e = list_all-append test (f x) (flat_map f xs) ∙ parts (list_all test (f x)) e (all_flat test f xs)
    where
      parts : (b : Bool) → (b && list_all (λ x. list_all test (f x)) xs) ≡ true → (list_all (λ x. list_all test (f x)) xs ≡ true → list_all test (flat_map f xs) ≡ true) → (b && list_all test (flat_map f xs)) ≡ true
      parts true h rest = rest h
      parts false h rest = absurd cc

  all_parameters : (test : List (List ℕ) → Bool) → ((c : Call) → CallGood m c → list_all test (call_lists c) ≡ true) → ((t : Template) → TemplateGood t → (test (map (λ x. x.name) t.inputs) ≡ true) × (test (map (λ o. o.name) t.outputs) ≡ true)) → test (argument_names m.arguments) ≡ true → AllGood m.templates → list_all test (parameter_lists m) ≡ true
  all_parameters test of_call of_template given good =
      and_true (test (argument_names m.arguments)) (list_all test (flat_map template_lists m.templates)) given
      (all_flat test template_lists m.templates
      (all_templates (λ t. list_all test (template_lists t)) (λ t g. let both = of_template t g in and_true (test (map (λ x. x.name) t.inputs)) (test (map (λ o. o.name) t.outputs) && list_all test (flat_map call_lists (calls_of t.body))) both.0 (and_true (test (map (λ o. o.name) t.outputs)) (list_all test (flat_map call_lists (calls_of t.body))) both.1 (all_flat test call_lists (calls_of t.body) (all_calls (λ c. list_all test (call_lists c)) of_call (calls_of t.body) g.body.calls)))) m.templates good))

  circles : (ts : List Template) → AllGood ts → All (λ t. HasNoCircle t.body) ts
  circles [] g = All-nil (λ t. HasNoCircle t.body)
  circles (t ∷ ts) g = All-cons (λ t. HasNoCircle t.body) t ts g.0.body.circle (circles ts g.1)

  -- ---- the entrypoint and the exit handler

  entry_good : (path : Path) (name : List ℕ) → Clear (entry_places m.templates m.arguments path name) → (has_template m name ≡ true) × (gives_values (template_named m name) m.arguments ≡ true)
  entry_good path name c =
      let first = broken rules.unknown_parameter (lacks_value m.templates name m.arguments) path in
      let second = template_places m.templates path name in
      (template_there m path name (right first second c), value_given m path name m.arguments (left first second c))

  exit_good : (path : Path) (name : Option (List ℕ)) → Clear (entry_if_there m.templates m.arguments path name) → (has_named m name ≡ true) × (named_gives_values m name ≡ true)
  exit_good path None c = (refl, refl)
  exit_good path (Some name) c = entry_good path name c

pub checked_valid : (limited : List (List ℕ)) (m : Manifest) → verdict limited m ≡ Ok tt → IsTrue (lists_are_short m) → IsTrue (parameters_are_short m) → IsTrue (retries_fit m) → Valid m
checked_valid limited m e short short_parameters retries =
    let clear = checked_clear (manifest_places limited m) e in
    let namespace = plain_places (codes "metadata.namespace") m.namespace in
    let a = outside m in
    let entry = entry_places m.templates m.arguments (codes "spec.entrypoint") m.entrypoint in
    let given = arguments_places a (codes "spec") m.arguments in
    let exit = entry_if_there m.templates m.arguments (codes "spec.onExit") m.on_exit in
    let lock = lock_places limited (codes "spec") m.lock in
    let entered = entry ++ given in
    let ended = exit ++ lock in
    let rest = templates_places limited a (codes "spec.templates") 0 m.templates in
    let three = left ((namespace ++ entered) ++ ended) rest clear in
    let two = left (namespace ++ entered) ended three in
    let first = right namespace entered two in
    let last = right (namespace ++ entered) ended three in
    let (fresh, good) = templates_good m limited a (codes "spec.templates") 0 m.templates (right ((namespace ++ entered) ++ ended) rest clear) in
    let begun = entry_good m (codes "spec.entrypoint") m.entrypoint (left entry given first) in
    let finished = exit_good m (codes "spec.onExit") m.on_exit (left exit lock last) in
    let parameters = arguments_good a (codes "spec") m.arguments (right entry given first) in
    record {
      templates_differ = all_fresh (template_names m.templates) fresh;
      steps_differ = all_templates m steps_differ (λ t g. g.body.differ) m.templates good;
      step_names = all_templates m has_step_names (λ t g. all_calls m (λ c. is_step_name c.name) (λ c h. h.step) (calls_of t.body) g.body.calls) m.templates good;
      parameters_differ = all_parameters m all_differ (λ c h. h.differ) (λ t g. (g.inputs.0, g.outputs.0)) parameters.0 good;
      parameter_names = all_parameters m (list_all is_name) (λ c h. h.names) (λ t g. (g.inputs.1, g.outputs.1)) parameters.1 good;
      calls = all_templates m (calls_are_there m) (λ t g. all_calls m (call_is_there m) (λ c h. h.there) (calls_of t.body) g.body.calls) m.templates good;
      entry = and_true (has_template m m.entrypoint) (has_named m m.on_exit) begun.0 finished.0;
      short = short;
      short_parameters = short_parameters;
      values = all_templates m (calls_give_values m) (λ t g. all_calls m (call_gives_values m) (λ c h. h.values) (calls_of t.body) g.body.calls) m.templates good;
      entry_values = and_true (named_gives_values m (Some m.entrypoint)) (named_gives_values m m.on_exit) begun.1 finished.1;
      tasks = all_templates m (λ t. tasks_are_there t.body) (λ t g. g.body.tasks) m.templates good;
      one_spelling = all_templates m (λ t. is_of_one_spelling t.body) (λ t g. g.body.spelling) m.templates good;
      no_circle = circles m m.templates good;
      retries = retries;
    }
