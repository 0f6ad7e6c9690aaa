-- What a manifest of the first form keeps of `Valid` by its form alone: it has no parameters and no tasks.
use Rattle.std.proofs.Common.{◌≡◌, ℕ, Bool, true, List, [], ◌∷◌, Option, Some, None, refl, ap, ◌∙◌}
use Rattle.std.specs.Prelude.{◌&&◌, map, All, IsTrue, bytes_eq}
use Rattle.std.specs.List.{list_all, flat_map}
use Rattle.std.proofs.lemmas.Bool.{and_from}
use Rattle.std.proofs.lemmas.List.Folds.{list_all-append}
use Rattle.std.proofs.lemmas.List.Elements.{All-nil, All-head, All-tail, All-weaker}
use Rattle.wf_manifest.specs.declared.calls.Argument.{Argument}
use Rattle.wf_manifest.specs.declared.calls.Call.{Call}
use Rattle.wf_manifest.specs.declared.templates.Input.{Input}
use Rattle.wf_manifest.specs.declared.templates.OutputDecl.{OutputDecl}
use Rattle.wf_manifest.specs.declared.templates.Body.{Body}
use Rattle.wf_manifest.specs.declared.templates.Body.TheVariants as body
use Rattle.wf_manifest.specs.declared.templates.Template.{Template}
use Rattle.wf_manifest.specs.declared.manifest.Manifest.{Manifest}
use Rattle.wf_manifest.specs.Valid.{template_named, calls_of, argument_names, hook_lists, call_lists, template_lists, parameter_lists, has_value, retry_fits, gives_values, hook_gives_values, call_gives_values, calls_give_values, named_gives_values, entry_gives_values, tasks_are_there, is_of_one_spelling, HasNoCircle}
use Rattle.wf_manifest.specs.FirstForm.{IsPlainCall, IsPlainBody, IsPlainTemplate, IsFirstForm}
use Rattle.wf_manifest.proofs.Each.{All-found, list_all-from_All}

-- the steps of a plain template are plain
pub plain_calls : (b : Body) → IsPlainBody b → All IsPlainCall (calls_of b)
plain_calls body.Pod plain = All-nil IsPlainCall
plain_calls (body.Steps groups) plain = plain
plain_calls (body.Dag dag) plain = absurd plain
plain_calls (body.Suspend duration) plain = absurd plain

-- ---- parameters

module _ (test : List (List ℕ) → Bool) (empty : IsTrue (test [])) where
  call_passes : (c : Call) → IsPlainCall c → IsTrue (list_all test (call_lists c))
  call_passes c plain =
      ap (λ given. test (argument_names given) && list_all test (hook_lists c.exit)) plain.no_arguments ∙ ap (λ hook. test [] && list_all test (hook_lists hook)) plain.no_hook ∙ and_from (test []) true empty refl

  calls_pass : (cs : List Call) → All IsPlainCall cs → IsTrue (list_all test (flat_map call_lists cs))
  calls_pass [] plain = refl
  calls_pass (c ∷ cs) plain =
      list_all-append test (call_lists c) (flat_map call_lists cs) ∙ and_from (list_all test (call_lists c)) (list_all test (flat_map call_lists cs)) (call_passes c (All-head IsPlainCall c cs plain)) (calls_pass cs (All-tail IsPlainCall c cs plain))

  template_passes : (t : Template) → IsPlainTemplate t → IsTrue (list_all test (template_lists t))
  template_passes t plain =
      let rest = list_all test (flat_map call_lists (calls_of t.body)) in
      let outputs = map (λ (o : OutputDecl). o.name) t.outputs in
      ap (λ (is : List Input). test (map (λ (i : Input). i.name) is) && (test outputs && rest)) plain.no_inputs
      ∙ ap (λ (os : List OutputDecl). test [] && (test (map (λ (o : OutputDecl). o.name) os) && rest)) plain.no_outputs
      ∙ and_from (test []) (test [] && rest) empty (and_from (test []) rest empty (calls_pass (calls_of t.body) (plain_calls t.body plain.plain_body)))

  templates_pass : (ts : List Template) → All IsPlainTemplate ts → IsTrue (list_all test (flat_map template_lists ts))
  templates_pass [] plain = refl
  templates_pass (t ∷ ts) plain =
      list_all-append test (template_lists t) (flat_map template_lists ts) ∙ and_from (list_all test (template_lists t)) (list_all test (flat_map template_lists ts)) (template_passes t (All-head IsPlainTemplate t ts plain)) (templates_pass ts (All-tail IsPlainTemplate t ts plain))

  -- each list of parameters passes a test that the empty one passes
  pub parameters_pass : (m : Manifest) → IsFirstForm m → IsTrue (list_all test (parameter_lists m))
  parameters_pass m first =
      ap (λ given. test (argument_names given) && list_all test (flat_map template_lists m.templates)) first.no_arguments ∙ and_from (test []) (list_all test (flat_map template_lists m.templates)) empty (templates_pass m.templates first.plain_templates)

-- ---- values

module _ (m : Manifest) (first : IsFirstForm m) where
  given_by : (name : List ℕ) (args : List Argument) (o : Option Template) → template_named m name ≡ o → IsTrue (gives_values o args)
  given_by name args None is = refl
  given_by name args (Some t) is =
      let plain = All-found IsPlainTemplate (λ t. bytes_eq t.name name) m.templates t first.plain_templates is in
      ap (λ (inputs : List Input). list_all (has_value args) inputs) plain.no_inputs

  -- no template has an input
  pub given : (name : List ℕ) (args : List Argument) → IsTrue (gives_values (template_named m name) args)
  given name args = given_by name args (template_named m name) refl

  call_given : (c : Call) → IsPlainCall c → IsTrue (call_gives_values m c)
  call_given c plain =
      and_from (gives_values (template_named m c.template) c.arguments) (hook_gives_values m c.exit) (given c.template c.arguments) (ap (hook_gives_values m) plain.no_hook)

  pub calls_given : IsTrue (list_all (calls_give_values m) m.templates)
  calls_given =
      list_all-from_All (calls_give_values m) m.templates (All-weaker IsPlainTemplate (λ t. IsTrue (calls_give_values m t)) (λ t plain. list_all-from_All (call_gives_values m) (calls_of t.body) (All-weaker IsPlainCall (λ c. IsTrue (call_gives_values m c)) call_given (calls_of t.body) (plain_calls t.body plain.plain_body))) m.templates first.plain_templates)

  pub entry_given : IsTrue (entry_gives_values m)
  entry_given =
      and_from (named_gives_values m (Some m.entrypoint)) (named_gives_values m m.on_exit) (given m.entrypoint m.arguments) (ap (named_gives_values m) first.no_exit_handler)

  -- ---- DAGs

  tasks_there : (b : Body) → IsPlainBody b → IsTrue (tasks_are_there b)
  tasks_there body.Pod plain = refl
  tasks_there (body.Steps groups) plain = refl
  tasks_there (body.Dag dag) plain = absurd plain
  tasks_there (body.Suspend duration) plain = absurd plain

  one_spelling : (b : Body) → IsPlainBody b → IsTrue (is_of_one_spelling b)
  one_spelling body.Pod plain = refl
  one_spelling (body.Steps groups) plain = refl
  one_spelling (body.Dag dag) plain = absurd plain
  one_spelling (body.Suspend duration) plain = absurd plain

  no_circle : (b : Body) → IsPlainBody b → HasNoCircle b
  no_circle body.Pod plain = tt
  no_circle (body.Steps groups) plain = tt
  no_circle (body.Dag dag) plain = absurd plain
  no_circle (body.Suspend duration) plain = absurd plain

  pub retries_within : IsTrue (list_all (λ t. retry_fits t.retry) m.templates)
  retries_within =
      list_all-from_All (λ (t : Template). retry_fits t.retry) m.templates (All-weaker IsPlainTemplate (λ t. IsTrue (retry_fits t.retry)) (λ t plain. ap retry_fits plain.no_retry) m.templates first.plain_templates)

  pub no_task_lacks : IsTrue (list_all (λ t. tasks_are_there t.body) m.templates)
  no_task_lacks =
      list_all-from_All (λ (t : Template). tasks_are_there t.body) m.templates (All-weaker IsPlainTemplate (λ t. IsTrue (tasks_are_there t.body)) (λ t plain. tasks_there t.body plain.plain_body) m.templates first.plain_templates)

  pub no_mixed_spelling : IsTrue (list_all (λ t. is_of_one_spelling t.body) m.templates)
  no_mixed_spelling =
      list_all-from_All (λ (t : Template). is_of_one_spelling t.body) m.templates (All-weaker IsPlainTemplate (λ t. IsTrue (is_of_one_spelling t.body)) (λ t plain. one_spelling t.body plain.plain_body) m.templates first.plain_templates)

  pub no_task_circle : All (λ t. HasNoCircle t.body) m.templates
  no_task_circle =
      All-weaker IsPlainTemplate (λ t. HasNoCircle t.body) (λ t plain. no_circle t.body plain.plain_body) m.templates first.plain_templates
