-- What a workflow that is read keeps of `Valid`: its lists and retries are within their limits.
use Rattle.std.proofs.Common.{ℕ, List, [], ◌∷◌, pos, refl, subst, ◌∙◌}
use Rattle.std.specs.Prelude.{IsTrue, codes}
use Rattle.std.specs.List.{AllByRecursion, list_all, flat_map}
use Rattle.std.proofs.lemmas.Bool.{and_from}
use Rattle.std.proofs.lemmas.List.Folds.{list_all-append}
use Rattle.base_types.specs.Limits.{most_members}
use Rattle.wf_manifest.specs.declared.calls.Argument.{Argument}
use Rattle.wf_manifest.specs.declared.templates.Template.{Template}
use Rattle.wf_manifest.specs.Valid.{argument_names, template_lists, is_short, body_is_short, retry_fits}
use Rattle.field_kinds.specs.Kinds.{text, whole_in, object_of, list_of}
use Rattle.field_kinds.specs.Fields.{required, default, written_text}
use Rattle.field_kinds.proofs.Makes.{Makes, then_ok, ok_is, makes_object, makes_required}
use Rattle.call_reader.specs.Calls.{arguments}
use Rattle.call_reader.proofs.Kept.{ShortOf, short_list, short_names, ArgumentsKept, arguments_kept}
use Rattle.template_reader.specs.Locks.{lock_said}
use Rattle.template_reader.specs.Templates.{template_fields}
use Rattle.template_reader.proofs.Kept.{TemplateKept, template_kept}
use Rattle.wf_reader.specs.declared.metadata.Metadata.{Metadata}
use Rattle.wf_reader.specs.declared.workflow.Spec.{Spec}
use Rattle.wf_reader.specs.declared.workflow.SpecHead.{SpecHead}
use Rattle.wf_reader.specs.Limits.{least_priority, most_priority}
use Rattle.wf_reader.specs.Workflows.{metadata_fields, spec_refused, head_fields, spec_fields, manifest_of, workflow_fields}
use Rattle.wf_reader.specs.Short.{IsShort, ReadsShort}

-- ---- templates

abbrev TemplatesKept : List Template → Type 0
TemplatesKept ts = ShortOf TemplateKept ts

bodies_short : (ts : List Template) → AllByRecursion TemplateKept ts → IsTrue (list_all (λ t. body_is_short t.body) ts)
bodies_short [] kept = refl
bodies_short (t ∷ ts) kept = and_from (body_is_short t.body) (list_all (λ (t : Template). body_is_short t.body) ts) kept.0.body (bodies_short ts kept.1)

parameters_short : (ts : List Template) → AllByRecursion TemplateKept ts → IsTrue (list_all is_short (flat_map template_lists ts))
parameters_short [] kept = refl
parameters_short (t ∷ ts) kept =
    let rest = flat_map template_lists ts in
    list_all-append is_short (template_lists t) rest ∙ and_from (list_all is_short (template_lists t)) (list_all is_short rest) kept.0.lists (parameters_short ts kept.1)

retries_are_few : (ts : List Template) → AllByRecursion TemplateKept ts → IsTrue (list_all (λ t. retry_fits t.retry) ts)
retries_are_few [] kept = refl
retries_are_few (t ∷ ts) kept = and_from (retry_fits t.retry) (list_all (λ (t : Template). retry_fits t.retry) ts) kept.0.retries (retries_are_few ts kept.1)

-- ---- the workflow's spec

record SpecKept (s : Spec) : Type 0 where
  arguments : ArgumentsKept s.head.arguments
  templates : TemplatesKept s.templates

abbrev HeadKept : SpecHead → Type 0
HeadKept head = ArgumentsKept head.arguments

head_kept : (namespace : List ℕ) → Makes (head_fields namespace) HeadKept
unfolding head_fields
head_kept namespace at d head e =
    let a = then_ok (spec_refused at d) _ head e in
    let b = then_ok (required text (codes "entrypoint") at d) _ head a.2 in
    let g = then_ok (arguments at d) _ head b.2 in
    let p = then_ok (default (pos 0) (whole_in least_priority most_priority) (codes "priority") at d) _ head g.2 in
    let x = then_ok (written_text (codes "onExit") at d) _ head p.2 in
    let l = then_ok (lock_said namespace at d) _ head x.2 in
    subst HeadKept (ok_is (record { entrypoint = b.0; arguments = g.0; priority = p.0; on_exit = x.0; lock = l.0 }) head l.2) (arguments_kept at d g.0 g.1)

spec_kept : (namespace : List ℕ) → Makes (spec_fields namespace) SpecKept
unfolding spec_fields
spec_kept namespace at d s e =
    let kind = object_of (template_fields namespace) in
    let a = then_ok (head_fields namespace at d) _ s e in
    let t = then_ok (required (list_of most_members (object_of (template_fields namespace))) (codes "templates") at d) _ s a.2 in
    let made = short_list kind TemplateKept (makes_object (template_fields namespace) TemplateKept (template_kept namespace)) in
    subst SpecKept (ok_is (record { head = a.0; templates = t.0 }) s t.2) (record {
      arguments = head_kept namespace at d a.0 a.1;
      templates = makes_required (list_of most_members kind) TemplatesKept (codes "templates") made at d t.0 t.1;
    })

-- ---- the workflow

manifest_kept : (metadata : Metadata) (s : Spec) → SpecKept s → IsShort (manifest_of metadata s.head s.templates)
manifest_kept metadata s kept = record {
  lists = and_from (is_short s.templates) (list_all (λ (t : Template). body_is_short t.body) s.templates) kept.templates.0 (bodies_short s.templates kept.templates.1);
  parameters = and_from (is_short (argument_names s.head.arguments)) (list_all is_short (flat_map template_lists s.templates))
      (short_names (λ (a : Argument). a.name) s.head.arguments kept.arguments) (parameters_short s.templates kept.templates.1);
  retries = retries_are_few s.templates kept.templates.1;
}

workflow_kept : (item : ℕ) → Makes (workflow_fields item) IsShort
unfolding workflow_fields
workflow_kept item at d m e =
    let a = then_ok (required (object_of (metadata_fields item)) (codes "metadata") at d) _ m e in
    let b = then_ok (required (object_of (spec_fields a.0.namespace)) (codes "spec") at d) _ m a.2 in
    let kind = spec_fields a.0.namespace in
    let kept = makes_required (object_of kind) SpecKept (codes "spec") (makes_object kind SpecKept (spec_kept a.0.namespace)) at d b.0 b.1 in
    subst IsShort (ok_is _ _ b.2) (manifest_kept a.0 b.0 kept)

pub reads_short : ReadsShort
reads_short item = makes_object (workflow_fields item) IsShort (workflow_kept item)
