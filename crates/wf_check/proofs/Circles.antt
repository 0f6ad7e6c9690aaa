-- What a refusal by the rule of circles says: a DAG of the manifest has a circle.
use Rattle.std.proofs.Common.{◌≡◌, ℕ, suc, ◌+◌, Bool, true, false, ◌==◌, not, List, [], ◌∷◌, ◌++◌, length, take, map, Option, Some, None, Ok, Err, refl, sym, ap, ◌∙◌, subst, inl, inr}
use Rattle.std.specs.Prelude.{is_none, codes}
use Rattle.std.specs.List.{list_all}
use Rattle.std.proofs.lemmas.Bool.{eqb-false}
use Rattle.serde_json.specs.Data.{Data, null, boolean, number, string, array, object, Items, no_items, item, Members, no_members, member}
use Rattle.base_types.specs.Bytes.{is_name}
use Rattle.base_types.specs.Names.{is_among}
use Rattle.node_names.specs.Names.{is_step_name}
use Rattle.json_fields.specs.Paths.{Path, field_of, member_of}
use Rattle.field_kinds.specs.Reading.{Read, Refusal, ◌>>=◌}
use Rattle.field_kinds.specs.Rules as rules
use Rattle.tree_types.specs.declared.path.LockId.{LockId}
use Rattle.tag_text.specs.Parts.{parts_of}
use Rattle.tag_text.specs.declared.part.Part.{Part}
use Rattle.tag_text.specs.declared.part.Part.TheVariants.{Plain, Tag}
use Rattle.tag_names.specs.Tags.{TagName, named}
use Rattle.depends_expr.specs.Expression.{Expression}
use Rattle.depends_expr.specs.Truth.{names_of}
use Rattle.wf_manifest.specs.declared.calls.Argument.{Argument}
use Rattle.wf_manifest.specs.declared.calls.Hook.{Hook}
use Rattle.wf_manifest.specs.declared.calls.Call.{Call}
use Rattle.wf_manifest.specs.declared.calls.Task.{Task}
use Rattle.wf_manifest.specs.declared.calls.Dag.{Dag}
use Rattle.wf_manifest.specs.declared.calls.Loop.{Loop}
use Rattle.wf_manifest.specs.declared.calls.Loop.TheVariants as each
use Rattle.wf_manifest.specs.declared.templates.Input.{Input}
use Rattle.wf_manifest.specs.declared.templates.OutputDecl.{OutputDecl}
use Rattle.wf_manifest.specs.declared.templates.Memoize.{Memoize}
use Rattle.wf_manifest.specs.declared.templates.Body.{Body}
use Rattle.wf_manifest.specs.declared.templates.Body.TheVariants as body
use Rattle.wf_manifest.specs.declared.templates.Template.{Template}
use Rattle.wf_manifest.specs.declared.manifest.Manifest.{Manifest}
use Rattle.wf_manifest.specs.Valid.{argument_names, template_names, is_of_one_spelling}
use Rattle.task_order.proofs.Among.{Among, among_right, among_either, contains_from}
use Rattle.wf_places.specs.declared.place.Place.{Place}
use Rattle.wf_places.specs.Broken.{broken, has_tag, plain_places, plain_if_there, name_places}
use Rattle.wf_places.specs.Circles.{has_circle}
use Rattle.wf_places.specs.Tags.{Around, of_workflow, of_inputs, of_calls, is_there, is_allowed, is_declared, is_before, tag_places, text_places, text_if_there, named_template, call_names}
use Rattle.wf_places.specs.Calls.{argument_places, arguments_places, template_places, lacks_value, data_places, items_places, members_places, loop_places, hook_path, hook_template_path, in_hook, hook_call, hook_places, looped, call_front, call_back, step_places, group_places, behind, groups_places}
use Rattle.wf_places.specs.Dags.{named_places, dependencies_places, depends_places, of_task, task_places, tasks_places, dag_places}
use Rattle.wf_places.specs.Places.{input_places, source_places, output_places, has_limit, lock_places, memo_places, inside, reaching, body_places, declared_places, template_inside, templates_places, outside, entry_places, entry_if_there, entered_places, ended_places, manifest_places}
use Rattle.wf_places.proofs.Waiting.{circle_told}
use Rattle.wf_check.specs.Verdicts.{asked, checked, verdict}
use Rattle.wf_check.specs.Laws.{HasCircle}
use Rattle.wf_check.proofs.Firsts.{asked_err}

module _ (P : Type 0) where
  -- where one of these places is of the rule of circles, P holds
  record Says (ps : List Place) : Type 0 where
    says : (p : Place) → Among p ps → p.rule ≡ rules.cycle → P

  none : Says []
  none = record { says = λ p among is. absurd among }

  both : {xs ys : List Place} → Says xs → Says ys → Says (xs ++ ys)
  both {xs} {ys} s t =
      record {
        says = λ p among is. elim (among_either xs ys p among) [
          | inl here ↦ s.says p here is
          | inr later ↦ t.says p later is
        ];
      }

  when : (rule : ℕ) (is : Bool) (path : Path) → (rule ≡ rules.cycle → is ≡ true → P) → Says (broken rule is path)
  when rule false path f = none
  when rule true path f =
      record {
        says = λ p among is. elim among [
          | inl here ↦ f (ap (λ q. q.rule) here ∙ is) refl
          | inr never ↦ absurd never
        ];
      }

  other : (rule : ℕ) → (rule == rules.cycle) ≡ false → (is : Bool) (path : Path) → Says (broken rule is path)
  other rule differs is path = when rule is path (λ same breaks. absurd (eqb-false rule rules.cycle differs same))

  -- ---- names and texts

  plain_says : (path : Path) (text : List ℕ) → Says (plain_places path text)
  plain_says path text = other rules.misplaced_tag refl (has_tag text) path

  plain_if_says : (path : Path) (text : Option (List ℕ)) → Says (plain_if_there path text)
  plain_if_says path None = none
  plain_if_says path (Some text) = plain_says path text

  name_says : (again fits : Bool) (at : Path) → Says (name_places again fits at)
  name_says again fits at =
      both (other rules.double_name refl again (field_of at (codes "name"))) (other rules.bad_name refl (not fits) (field_of at (codes "name")))

  tag_says : (a : Around) (path : Path) (tag : TagName) → Says (tag_places a path tag)
  tag_says a path tag =
      both (both (both (other rules.unknown_name refl (not (is_there a tag)) path) (other rules.misplaced_tag refl (not (is_allowed a tag)) path))
      (other rules.unknown_parameter refl (not (is_declared a tag)) path))
      (other rules.not_ancestor refl (not (is_before a tag)) path)

  text_says : (a : Around) (path : Path) (parts : List Part) → Says (text_places a path parts)
  text_says a path [] = none
  text_says a path (Plain text ∷ parts) = text_says a path parts
  text_says a path (Tag text ∷ parts) = both (tag_says a path (named text)) (text_says a path parts)

  text_if_says : (a : Around) (path : Path) (text : Option (List Part)) → Says (text_if_there a path text)
  text_if_says a path None = none
  text_if_says a path (Some text) = text_says a path text

  -- ---- parameters

  argument_says : (a : Around) (names : List (List ℕ)) (at : Path) (i : ℕ) (xs : List Argument) → Says (argument_places a names at i xs)
  argument_says a names at i [] = none
  argument_says a names at i (x ∷ xs) =
      both (both (name_says (is_among (take i names) x.name) (is_name x.name) (member_of at i)) (text_says a (field_of (member_of at i) (codes "value")) x.value))
      (argument_says a names at (suc i) xs)

  arguments_says : (a : Around) (at : Path) (xs : List Argument) → Says (arguments_places a at xs)
  arguments_says a at xs = argument_says a (argument_names xs) (field_of at (codes "arguments.parameters")) 0 xs

  input_says : (a : Around) (names : List (List ℕ)) (at : Path) (i : ℕ) (xs : List Input) → Says (input_places a names at i xs)
  input_says a names at i [] = none
  input_says a names at i (x ∷ xs) =
      both (both (both (name_says (is_among (take i names) x.name) (is_name x.name) (member_of at i)) (text_if_says a (field_of (member_of at i) (codes "value")) x.value))
      (text_if_says a (field_of (member_of at i) (codes "default")) x.default))
      (input_says a names at (suc i) xs)

  source_says : (a : Around) (at : Path) (o : OutputDecl) → Says (source_places a at o)
  source_says a at o =
      both (both (plain_if_says (field_of at (codes "valueFrom.path")) o.path) (text_if_says a (field_of at (codes "valueFrom.parameter")) o.from))
      (plain_if_says (field_of at (codes "valueFrom.default")) o.default)

  output_says : (a : Around) (names : List (List ℕ)) (at : Path) (i : ℕ) (os : List OutputDecl) → Says (output_places a names at i os)
  output_says a names at i [] = none
  output_says a names at i (o ∷ os) =
      both (both (name_says (is_among (take i names) o.name) (is_name o.name) (member_of at i)) (source_says a (member_of at i) o))
      (output_says a names at (suc i) os)

  -- ---- calls

  template_says : (ts : List Template) (path : Path) (name : List ℕ) → Says (template_places ts path name)
  template_says ts path name = both (other rules.unknown_name refl (is_none (named_template ts name)) path) (plain_says path name)

  mutual
    data_says : (a : Around) (at : Path) (d : Data) → Says (data_places a at d)
    data_says a at (string text) = text_says a at (parts_of text)
    data_says a at (array ds) = items_says a at 0 ds
    data_says a at (object ms) = members_says a at ms
    data_says a at null = none
    data_says a at (boolean b) = none
    data_says a at (number n) = none

    items_says : (a : Around) (at : Path) (i : ℕ) (ds : Items) → Says (items_places a at i ds)
    items_says a at i no_items = none
    items_says a at i (item d ds) = both (data_says a (member_of at i) d) (items_says a at (suc i) ds)

    members_says : (a : Around) (at : Path) (ms : Members) → Says (members_places a at ms)
    members_says a at no_members = none
    members_says a at (member key d ms) = both (data_says a (field_of at key) d) (members_says a at ms)

  loop_says : (a : Around) (at : Path) (loop : Option Loop) → Says (loop_places a at loop)
  loop_says a at None = none
  loop_says a at (Some (each.Items d)) = data_says a (field_of at (codes "withItems")) d
  loop_says a at (Some (each.Param text)) = text_says a (field_of at (codes "withParam")) text
  loop_says a at (Some (each.Sequence count start end format)) =
      both (both (both (text_if_says a (field_of at (codes "withSequence.count")) count) (text_if_says a (field_of at (codes "withSequence.start")) start))
      (text_if_says a (field_of at (codes "withSequence.end")) end))
      (text_if_says a (field_of at (codes "withSequence.format")) format)

  hook_call_says : (a : Around) (path : Path) (hook : Hook) → Says (hook_call a path hook)
  hook_call_says a path hook =
      both (both (other rules.unknown_parameter refl (lacks_value a.templates hook.template hook.arguments) path) (template_says a.templates (hook_template_path path hook) hook.template))
      (arguments_says a path hook.arguments)

  hook_says : (a : Around) (at : Path) (own : List ℕ) (hook : Option Hook) → Says (hook_places a at own hook)
  hook_says a at own None = none
  hook_says a at own (Some hook) = hook_call_says (in_hook a own) (hook_path at hook) hook

  front_says : (a : Around) (again : Bool) (at : Path) (c : Call) → Says (call_front a again at c)
  front_says a again at c =
      both (both (both (other rules.unknown_parameter refl (lacks_value a.templates c.template c.arguments) at) (name_says again (is_step_name c.name) at))
      (template_says a.templates (field_of at (codes "template")) c.template))
      (arguments_says (looped a c) at c.arguments)

  back_says : (a : Around) (at : Path) (c : Call) → Says (call_back a at c)
  back_says a at c =
      both (both (text_if_says (looped a c) (field_of at (codes "when")) c.when) (loop_says a at c.each))
      (hook_says (looped a c) at c.name c.exit)

  -- ---- steps

  step_says : (a : Around) (k : ℕ) (at : Path) (c : Call) → Says (step_places a k at c)
  step_says a k at c =
      both (front_says a (is_among (take k (call_names a.steps)) c.name) at c) (back_says a at c)

  group_says : (a : Around) (at : Path) (k j : ℕ) (cs : List Call) → Says (group_places a at k j cs)
  group_says a at k j [] = none
  group_says a at k j (c ∷ cs) = both (step_says a k (member_of at j) c) (group_says a at (suc k) (suc j) cs)

  groups_says : (a : Around) (at : Path) (k g : ℕ) (gs : List (List Call)) → Says (groups_places a at k g gs)
  groups_says a at k g [] = none
  groups_says a at k g (cs ∷ gs) =
      both (group_says (behind a k) (member_of at g) k 0 cs) (groups_says a at (k + length cs) (suc g) gs)

  -- ---- DAGs

  named_says : (known : List (List ℕ)) (at : Path) (i : ℕ) (ns : List (List ℕ)) → Says (named_places known at i ns)
  named_says known at i [] = none
  named_says known at i (n ∷ ns) =
      both (other rules.unknown_name refl (not (is_among known n)) (member_of at i)) (named_says known at (suc i) ns)

  dependencies_says : (known : List (List ℕ)) (at : Path) (ns : Option (List (List ℕ))) → Says (dependencies_places known at ns)
  dependencies_says known at None = none
  dependencies_says known at (Some ns) = named_says known (field_of at (codes "dependencies")) 0 ns

  depends_says : (known : List (List ℕ)) (at : Path) (e : Option Expression) → Says (depends_places known at e)
  depends_says known at None = none
  depends_says known at (Some e) =
      other rules.unknown_name refl (not (list_all (is_among known) (names_of e))) (field_of at (codes "depends"))

  task_says : (a : Around) (i : ℕ) (at : Path) (t : Task) → Says (task_places a i at t)
  task_says a i at t =
      both (both (front_says a (is_among (take i (call_names a.tasks)) t.call.name) at t.call) (both (dependencies_says (call_names a.tasks) at t.dependencies) (depends_says (call_names a.tasks) at t.depends)))
      (back_says a at t.call)

  tasks_says : (a : Around) (tasks : List Task) (at : Path) (i : ℕ) (ts : List Task) → Says (tasks_places a tasks at i ts)
  tasks_says a tasks at i [] = none
  tasks_says a tasks at i (t ∷ ts) =
      both (task_says (of_task a tasks t.call.name) i (member_of at i) t) (tasks_says a tasks at (suc i) ts)

  dag_says : (a : Around) (at : Path) (dag : Dag) → (has_circle dag.tasks ≡ true → P) → Says (dag_places a at dag)
  dag_says a at dag f =
      both (both (both (other rules.depends_mix refl (not (is_of_one_spelling (body.Dag dag))) at) (when rules.cycle (has_circle dag.tasks) at (λ same. f)))
      (other rules.unknown_name refl (not (list_all (is_among (call_names a.tasks)) dag.targets)) (field_of at (codes "target"))))
      (tasks_says a dag.tasks (field_of at (codes "tasks")) 0 dag.tasks)

  -- ---- templates

  abbrev CircleIn : Body → Type 0
  CircleIn b = (dag : Dag) → b ≡ body.Dag dag → has_circle dag.tasks ≡ true → P

  body_says : (a : Around) (at : Path) (b : Body) → CircleIn b → Says (body_places a at b)
  body_says a at body.Pod f = none
  body_says a at (body.Steps groups) f = groups_says (reaching of_calls a) (field_of at (codes "steps")) 0 0 groups
  body_says a at (body.Dag dag) f = dag_says (reaching of_calls a) (field_of at (codes "dag")) dag (f dag refl)
  body_says a at (body.Suspend duration) f = text_if_says (reaching of_inputs a) (field_of at (codes "suspend.duration")) duration

  lock_says : (limited : List (List ℕ)) (at : Path) (lock : Option LockId) → Says (lock_places limited at lock)
  lock_says limited at None = none
  lock_says limited at (Some lock) =
      both (other rules.unknown_lock refl (not (has_limit limited lock)) (field_of at (codes "synchronization"))) (plain_says (field_of at (codes "synchronization.mutex.name")) lock.text)

  memo_says : (a : Around) (at : Path) (memo : Option Memoize) → Says (memo_places a at memo)
  memo_says a at None = none
  memo_says a at (Some memo) = text_says a (field_of at (codes "memoize.key")) memo.key

  declared_says : (a : Around) (at : Path) (t : Template) → Says (declared_places a at t)
  declared_says a at t =
      both (input_says (reaching of_workflow a) a.inputs (field_of at (codes "inputs.parameters")) 0 t.inputs)
      (output_says (reaching of_calls a) (map (λ o. o.name) t.outputs) (field_of at (codes "outputs.parameters")) 0 t.outputs)

  inside_says : (limited : List (List ℕ)) (a : Around) (at : Path) (t : Template) → CircleIn t.body → Says (template_inside limited a at t)
  inside_says limited a at t f =
      both (both (both (declared_says a at t) (lock_says limited at t.lock)) (memo_says (reaching of_inputs a) at t.memoize))
      (body_says a at t.body f)

  templates_says : (limited : List (List ℕ)) (a : Around) (at : Path) (i : ℕ) (ts : List Template) → ((t : Template) → Among t ts → CircleIn t.body) → Says (templates_places limited a at i ts)
  templates_says limited a at i [] f = none
  templates_says limited a at i (t ∷ ts) f =
      both (both (both (other rules.double_name refl (is_among (take i (template_names a.templates)) t.name) (field_of (member_of at i) (codes "name"))) (plain_says (field_of (member_of at i) (codes "name")) t.name))
      (inside_says limited (inside a t) (member_of at i) t (f t (inl refl))))
      (templates_says limited a at (suc i) ts (λ u among. f u (inr among)))

  -- ---- manifests

  entry_says : (ts : List Template) (given : List Argument) (path : Path) (name : List ℕ) → Says (entry_places ts given path name)
  entry_says ts given path name =
      both (other rules.unknown_parameter refl (lacks_value ts name given) path) (template_says ts path name)

  exit_says : (ts : List Template) (given : List Argument) (path : Path) (name : Option (List ℕ)) → Says (entry_if_there ts given path name)
  exit_says ts given path None = none
  exit_says ts given path (Some name) = entry_says ts given path name

  entered_says : (a : Around) (m : Manifest) → Says (entered_places a m)
  entered_says a m =
      both (entry_says a.templates m.arguments (codes "spec.entrypoint") m.entrypoint) (arguments_says a (codes "spec") m.arguments)

  ended_says : (limited : List (List ℕ)) (a : Around) (m : Manifest) → Says (ended_places limited a m)
  ended_says limited a m =
      both (exit_says a.templates m.arguments (codes "spec.onExit") m.on_exit) (lock_says limited (codes "spec") m.lock)

  manifest_says : (limited : List (List ℕ)) (m : Manifest) → ((t : Template) → Among t m.templates → CircleIn t.body) → Says (manifest_places limited m)
  manifest_says limited m f =
      both (both (both (plain_says (codes "metadata.namespace") m.namespace) (entered_says (outside m) m)) (ended_says limited (outside m) m))
      (templates_says limited (outside m) (codes "spec.templates") 0 m.templates f)

  -- ---- what is refused

  module _ (ps : List Place) (refusal : Refusal) (s : Says ps) (is : refusal.rule ≡ rules.cycle) where
    at_first : (rule : ℕ) → asked rule ps ≡ Err refusal → P
    at_first rule e =
        let first = asked_err rule ps refusal e in
        let there : Among first.place ps = subst (Among first.place) (sym first.stands) (among_right first.front (first.place ∷ first.rest) first.place (inl refl)) in
        s.says first.place there (first.breaks ∙ sym (ap (λ r. r.rule) first.refused) ∙ is)

    next : (rule : ℕ) (rest : Read (Unit {0})) → (rest ≡ Err refusal → P) → (asked rule ps >>= λ _. rest) ≡ Err refusal → P
    next rule rest later e = by (asked rule ps) refl e
      where
        by : (a : Read (Unit {0})) → asked rule ps ≡ a → (a >>= λ _. rest) ≡ Err refusal → P
        by (Ok x) answers e = later e
        by (Err r) answers e = at_first rule (answers ∙ e)

    checked_says : checked ps ≡ Err refusal → P
    unfolding checked
    checked_says e =
        let r9 = asked rules.not_ancestor ps in
        let r8 = asked rules.unknown_parameter ps >>= λ _. r9 in
        let r7 = asked rules.misplaced_tag ps >>= λ _. r8 in
        let r6 = asked rules.unknown_lock ps >>= λ _. r7 in
        let r5 = asked rules.cycle ps >>= λ _. r6 in
        let r4 = asked rules.depends_mix ps >>= λ _. r5 in
        let r3 = asked rules.unknown_name ps >>= λ _. r4 in
        let r2 = asked rules.bad_name ps >>= λ _. r3 in
        next rules.double_name r2 (next rules.bad_name r3 (next rules.unknown_name r4 (next rules.depends_mix r5 (next rules.cycle r6 (next rules.unknown_lock r7 (next rules.misplaced_tag r8 (next rules.unknown_parameter r9 (at_first rules.not_ancestor)))))))) e

pub cycle_told : (limited : List (List ℕ)) (m : Manifest) (refusal : Refusal) → verdict limited m ≡ Err refusal → refusal.rule ≡ rules.cycle → HasCircle m
cycle_told limited m refusal e is =
    checked_says (HasCircle m) (manifest_places limited m) refusal (manifest_says (HasCircle m) limited m found) is e
  where
    found : (t : Template) → Among t m.templates → CircleIn (HasCircle m) t.body
    found t among dag is circle =
        let (name, own) = circle_told dag.tasks circle in
        record { template = t; dag = dag; name = name; among = contains_from m.templates t among; is = is; own = own }
