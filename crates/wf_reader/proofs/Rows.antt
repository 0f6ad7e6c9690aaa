-- Rows that compute: what whole workflows read as.
use Rattle.std.proofs.Common.{◌≡◌, ℕ, List, [], ◌∷◌, pos, Some, None, Ok, codes, refl}
use Rattle.std.specs.Fmt.{digits}
use Rattle.serde_json.specs.Data.{Data, null, string, number, unsigned, array, object, Items, no_items, item, Members, no_members, member}
use Rattle.wf_manifest.specs.declared.manifest.Manifest.{Manifest}
use Rattle.wf_manifest.specs.declared.templates.Body.TheVariants as body
use Rattle.wf_manifest.specs.declared.templates.Template.{Template}
use Rattle.field_kinds.specs.Reading.{Read, refuse_by}
use Rattle.field_kinds.specs.Rules as rules
use Rattle.call_reader.specs.Calls.{argument_fields, arguments_fields, sequence_fields, list_loop, loop_said, exit_hook, head_fields, tail_fields, step_fields}
use Rattle.template_reader.specs.Locks.{mutex_fields, lock_fields}
use Rattle.template_reader.specs.Templates.{body_in, template_refused, head_fields as template_head_fields, tail_fields as template_tail_fields, template_fields}
use Rattle.wf_reader.specs.Workflows.{metadata_fields, spec_refused, head_fields as wf_head_fields, spec_fields, workflow_fields, workflow}

-- ---- values

abbrev members_of : List (List ℕ × Data) → Members
members_of [] = no_members
members_of (m ∷ ms) = member m.0 m.1 (members_of ms)

abbrev fields : List (List ℕ × Data) → Data
fields ms = object (members_of ms)

abbrev items_of : List Data → Items
items_of [] = no_items
items_of (d ∷ ds) = item d (items_of ds)

abbrev list : List Data → Data
list ds = array (items_of ds)

abbrev says : List ℕ → Data
says t = string t

-- ---- documents

abbrev named : Data
named = fields ((codes "name", says (codes "w")) ∷ [])

abbrev document : Data → List (List ℕ × Data) → List Data → Data
document metadata more templates =
    fields (
    (codes "metadata", metadata)
    ∷ (codes "spec", fields ((codes "entrypoint", says (codes "main")) ∷ (codes "templates", list templates) ∷ more))
    ∷ []
    )

abbrev reads : Data → Read Manifest
reads = workflow 7 []

-- a template of one group of one step
abbrev stepping : List (List ℕ × Data) → Data
stepping more =
    fields (
    (codes "name", says (codes "main"))
    ∷ (
      codes "steps",
      list (list (fields ((codes "name", says (codes "a")) ∷ (codes "template", says (codes "c")) ∷ more) ∷ []) ∷ []),
    )
    ∷ []
    )

-- ---- rows

-- a pod under a mutex, in a workflow whose name is made
abbrev pod : Data
pod =
    fields (
    (codes "name", says (codes "main"))
    ∷ (codes "synchronization", fields ((codes "mutex", fields ((codes "name", says (codes "m")) ∷ [])) ∷ []))
    ∷ (codes "container", fields [])
    ∷ []
    )

abbrev pod_read : Template
pod_read = record {
  name = codes "main";
  inputs = [];
  outputs = [];
  lock = Some (record { text = codes "mutex/m" });
  memoize = None;
  retry = None;
  body = body.Pod;
}

abbrev manifest_read : Manifest
manifest_read = record {
  name = codes "w-00007";
  namespace = codes "default";
  created = pos 0;
  priority = pos 0;
  entrypoint = codes "main";
  on_exit = None;
  arguments = [];
  lock = None;
  templates = pod_read ∷ [];
}

made_name : reads (document (fields ((codes "generateName", says (codes "w-")) ∷ [])) [] (pod ∷ [])) ≡ Ok manifest_read
unfolding digits workflow_fields metadata_fields spec_refused wf_head_fields spec_fields template_refused template_head_fields template_tail_fields template_fields body_in lock_fields mutex_fields
made_name = refl

-- with neither a name nor a prefix
no_name : reads (document (fields []) [] (pod ∷ [])) ≡ refuse_by rules.missing (codes "metadata.name")
unfolding workflow_fields metadata_fields
no_name = refl

-- the path of an argument without a value
no_value : reads (document named [] (pod ∷ stepping ((codes "arguments", fields ((codes "parameters", list (fields ((codes "name", says (codes "p")) ∷ []) ∷ [])) ∷ [])) ∷ []) ∷ [])) ≡ refuse_by rules.missing (codes "spec.templates[1].steps[0][0].arguments.parameters[0].value")
unfolding digits workflow_fields metadata_fields spec_refused wf_head_fields spec_fields template_refused template_head_fields template_tail_fields template_fields body_in lock_fields mutex_fields step_fields head_fields arguments_fields argument_fields
no_value = refl

-- a second body is found behind the first, before its own kind is looked at
abbrev two_bodies : Data
two_bodies = fields ((codes "name", says (codes "main")) ∷ (codes "script", null) ∷ (codes "suspend", says []) ∷ (codes "container", fields []) ∷ [])

second_body : reads (document named [] (two_bodies ∷ [])) ≡ refuse_by rules.unsupported (codes "spec.templates[0].suspend")
unfolding digits workflow_fields metadata_fields spec_refused wf_head_fields spec_fields template_refused template_head_fields template_tail_fields template_fields body_in
second_body = refl

-- a refused field comes before all others
refused_first : reads (document named ((codes "hooks", fields []) ∷ (codes "priority", says []) ∷ []) (null ∷ [])) ≡ refuse_by rules.unsupported (codes "spec.hooks")
unfolding workflow_fields metadata_fields spec_refused wf_head_fields spec_fields
refused_first = refl

-- `onExit` beside `hooks.exit`
two_hooks : reads (document named [] (stepping ((codes "hooks", fields ((codes "exit", fields []) ∷ [])) ∷ (codes "onExit", says (codes "e")) ∷ []) ∷ [])) ≡ refuse_by rules.unsupported (codes "spec.templates[0].steps[0][0].onExit")
unfolding digits workflow_fields metadata_fields spec_refused wf_head_fields spec_fields template_refused template_head_fields template_tail_fields template_fields body_in step_fields head_fields tail_fields loop_said list_loop exit_hook
two_hooks = refl

-- a faulty tag in an item, which is found before the second loop
faulty_item : reads (document named [] (stepping ((codes "withItems", list (says (codes "{{item}}") ∷ fields ((codes "k", says (codes "{{")) ∷ []) ∷ [])) ∷ (codes "withParam", says (codes "p")) ∷ []) ∷ [])) ≡ refuse_by rules.bad_text (codes "spec.templates[0].steps[0][0].withItems[1].k")
unfolding digits workflow_fields metadata_fields spec_refused wf_head_fields spec_fields template_refused template_head_fields template_tail_fields template_fields body_in step_fields head_fields tail_fields loop_said list_loop
faulty_item = refl

-- `end` beside `count`, which needs neither to be a text
two_ends : reads (document named [] (stepping ((codes "withSequence", fields ((codes "count", number (unsigned 3)) ∷ (codes "end", list []) ∷ [])) ∷ []) ∷ [])) ≡ refuse_by rules.unsupported (codes "spec.templates[0].steps[0][0].withSequence.end")
unfolding digits workflow_fields metadata_fields spec_refused wf_head_fields spec_fields template_refused template_head_fields template_tail_fields template_fields body_in step_fields head_fields tail_fields loop_said list_loop sequence_fields
two_ends = refl
