-- Worked examples of arguments, inputs and their defaults.
use Rattle.std.proofs.Common.{◌≡◌, refl}
use Rattle.std.specs.Fmt.{digits}
use Rattle.std.specs.Prelude.{List, [], ◌∷◌, Some, codes}
use Rattle.tree_types.specs.declared.path.Sel.TheVariants.{Group, Step}
use Rattle.tree_types.specs.declared.fact.Fact.{Fact}
use Rattle.tree_types.specs.declared.fact.Fact.TheVariants.{Started}
use Rattle.tag_text.specs.Parts.{parts_of}
use Rattle.wf_manifest.specs.declared.calls.Call.{Call}
use Rattle.wf_manifest.specs.declared.templates.Input.{Input}
use Rattle.wf_manifest.specs.declared.templates.Body.TheVariants as body
use Rattle.wf_manifest.specs.declared.templates.Template.{Template}
use Rattle.wf_manifest.specs.declared.manifest.Manifest.{Manifest}
use Rattle.meaning.proofs.Samples.{template, container, workflow_of, call, call_with, one_step, argument, input, declared_from, param, echo, call_echo, succeeded, settled, printed, params_at}

-- ---- what an input takes: the argument of its name, else its value, else its default

-- x, y and z have a default each, and y has a value besides
abbrev three_inputs : List Input
three_inputs =
    record (input (codes "x")) { default = Some (parts_of (codes "9")) }
    ∷ record (input (codes "y")) { value = Some (parts_of (codes "8")); default = Some (parts_of (codes "9")) }
    ∷ record (input (codes "z")) { default = Some (parts_of (codes "7-{{workflow.name}}")) } ∷ []

-- a template of no steps, whose outputs say its inputs
abbrev three : Template
three = record (template (codes "t") (body.Steps [])) {
  inputs = three_inputs;
  outputs = declared_from (codes "x") (codes "{{inputs.parameters.x}}")
      ∷ declared_from (codes "y") (codes "{{inputs.parameters.y}}")
      ∷ declared_from (codes "z") (codes "{{inputs.parameters.z}}") ∷ [];
}

-- x takes the argument and not its default, y its value and not its default, z its default, in which a tag stands
pub argument_value_default : params_at (codes "w[0].a")
    (one_step (codes "w") (call_with (codes "a") (codes "t") (argument (codes "x") (codes "1") ∷ [])) (three ∷ []))
    (Started ∷ [])
    ≡ param (codes "x") (codes "1") ∷ param (codes "y") (codes "8") ∷ param (codes "z") (codes "7-w") ∷ []
unfolding digits
argument_value_default = refl

-- an argument stands before a value too
pub an_argument_before_a_value : params_at (codes "w[0].a")
    (one_step (codes "w") (call_with (codes "a") (codes "t") (argument (codes "y") (codes "1") ∷ [])) (three ∷ []))
    (Started ∷ [])
    ≡ param (codes "x") (codes "9") ∷ param (codes "y") (codes "1") ∷ param (codes "z") (codes "7-w") ∷ []
unfolding digits
an_argument_before_a_value = refl

-- an argument that no input takes is not used
pub an_argument_that_no_input_takes : params_at (codes "w[0].a")
    (one_step (codes "w")
    (call_with (codes "a") (codes "e") (argument (codes "q") (codes "1") ∷ argument (codes "x") (codes "2") ∷ []))
    (echo ∷ []))
    (Started ∷ [])
    ≡ param (codes "x") (codes "2") ∷ []
unfolding digits
an_argument_that_no_input_takes = refl

-- ---- `workflow.parameters`, and the arguments of the entrypoint and the exit handler

-- the workflow's argument p says its own name; main and the exit handler e take arguments
abbrev with_arguments : Manifest
with_arguments =
    record (workflow_of (codes "w")
    (record (template (codes "main")
    (body.Steps ((call_echo (codes "a") (codes "<{{workflow.parameters.p}}>") ∷ []) ∷ []))) {
      inputs = input (codes "p") ∷ [];
      outputs = declared_from (codes "o") (codes "{{inputs.parameters.p}}") ∷ [];
    } ∷ echo ∷ [])) {
      arguments = argument (codes "p") (codes "of-{{workflow.name}}") ∷ argument (codes "x") (codes "5") ∷ [];
      on_exit = Some (codes "e");
    }

-- the tag has the value in which the name is put in already
pub a_parameter_of_the_workflow : params_at (codes "w[0].a") with_arguments (Started ∷ [])
    ≡ param (codes "x") (codes "<of-w>") ∷ []
unfolding digits
a_parameter_of_the_workflow = refl

-- the entrypoint takes the argument p of the workflow
pub the_entrypoint_takes_p : params_at (codes "w") with_arguments (Started ∷ [])
    ≡ param (codes "o") (codes "of-w") ∷ []
unfolding digits
the_entrypoint_takes_p = refl

-- and the exit handler the argument x
pub the_exit_handler_takes_x : params_at (codes "w.onExit") with_arguments (Started ∷ [])
    ≡ param (codes "x") (codes "5") ∷ []
unfolding digits
the_exit_handler_takes_x = refl

-- ---- tags without a value

-- a, whose pod has no result, and then b
abbrev behind_a : Call → Template → Manifest
behind_a b t =
    workflow_of (codes "w")
    (template (codes "main") (body.Steps ((call (codes "a") ∷ []) ∷ (b ∷ []) ∷ [])) ∷ container ∷ t ∷ [])

abbrev a_succeeded : List Fact
a_succeeded = Started ∷ settled (Group 0 ∷ Step 0 ∷ []) succeeded ∷ []

-- of two arguments with an unresolved tag the first one is told, though no input takes it; the kind is that of e
pub an_unresolved_argument : printed
    (behind_a (call_with (codes "b") (codes "e")
    (argument (codes "q") (codes "{{steps.a.outputs.result}}")
    ∷ argument (codes "x") (codes "{{workflow.status}}") ∷ []))
    echo)
    a_succeeded
    ≡ codes "workflow w Error"
    ∷ codes "  Error Steps w"
    ∷ codes "    Succeeded StepGroup w[0]"
    ∷ codes "      Succeeded Pod w[0].a"
    ∷ codes "    Error StepGroup w[1]"
    ∷ codes "      Error Steps w[1].b -- unresolved steps.a.outputs.result"
    ∷ []
unfolding digits
an_unresolved_argument = refl

-- echo, with a default that has a value below the exit handler alone
abbrev with_status : Template
with_status = record echo {
  inputs = record (input (codes "x")) { default = Some (parts_of (codes "{{workflow.status}}")) } ∷ [];
}

-- the default that b's input takes has an unresolved tag
pub an_unresolved_default : printed (behind_a (call_with (codes "b") (codes "e") []) with_status) a_succeeded
    ≡ codes "workflow w Error"
    ∷ codes "  Error Steps w"
    ∷ codes "    Succeeded StepGroup w[0]"
    ∷ codes "      Succeeded Pod w[0].a"
    ∷ codes "    Error StepGroup w[1]"
    ∷ codes "      Error Steps w[1].b -- unresolved workflow.status"
    ∷ []
unfolding digits
an_unresolved_default = refl

-- a default that is not taken is not looked at
pub a_default_that_is_not_taken : printed (behind_a (call_echo (codes "b") (codes "1")) with_status) a_succeeded
    ≡ codes "workflow w Succeeded"
    ∷ codes "  Succeeded Steps w"
    ∷ codes "    Succeeded StepGroup w[0]"
    ∷ codes "      Succeeded Pod w[0].a"
    ∷ codes "    Succeeded StepGroup w[1]"
    ∷ codes "      Succeeded Steps w[1].b"
    ∷ []
unfolding digits
a_default_that_is_not_taken = refl

-- ---- a condition is asked before the arguments are substituted

-- the condition is false, so the unresolved argument is not looked at
pub a_condition_before_arguments : printed
    (one_step (codes "w")
    (record (call_echo (codes "a") (codes "{{workflow.status}}")) { when = Some (parts_of (codes "1 == 2")) })
    (echo ∷ []))
    (Started ∷ [])
    ≡ codes "workflow w Succeeded"
    ∷ codes "  Succeeded Steps w"
    ∷ codes "    Succeeded StepGroup w[0]"
    ∷ codes "      Skipped Skipped w[0].a -- when is false"
    ∷ []
unfolding digits
a_condition_before_arguments = refl

-- ---- one pass of substitution

-- a's result is put in as it stands, though it looks like a tag
pub what_is_put_in_stays : params_at (codes "w[1].b")
    (behind_a (call_echo (codes "b") (codes "{{steps.a.outputs.result}}!")) echo)
    (Started ∷ settled (Group 0 ∷ Step 0 ∷ []) (record succeeded { result = Some (codes "{{workflow.name}}") }) ∷ [])
    ≡ param (codes "x") (codes "{{workflow.name}}!") ∷ []
unfolding digits
what_is_put_in_stays = refl
