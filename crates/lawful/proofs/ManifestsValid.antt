-- Each workflow of a lawful history has a valid manifest, where those of the document are valid.
use Rattle.std.proofs.Common.{◌≡◌, ℤ, sym, ◌∙◌, subst, Option, Some, None}
use Rattle.wf_manifest.specs.declared.manifest.Manifest.{Manifest}
use Rattle.wf_manifest.specs.Valid.{Valid}
use Rattle.meaning.specs.Answers.{Facts}
use Rattle.history.specs.History.{Event, grown}
use Rattle.law.specs.Documents.{Text, Document}
use Rattle.law.specs.Contents.{Flow, Content, OfWorkflow, flow, Story, HasFlow}
use Rattle.law.specs.Justified.{renamed, SubmitJustified, Justified, IsLawful}
use Rattle.lawful.specs.Manifests.{HasValidWorkflows, ManifestsValid}
use Rattle.lawful.proofs.Changes.{FlowChange, same, submitted, written, flow_change}
use Rattle.lawful.proofs.Journals.{flow_then}
use Rattle.lawful.proofs.IsAsSaid.{by_lawful}

valid_renamed : (m : Manifest) (w : Text) (created : ℤ) → Valid m → Valid (renamed m w created)
valid_renamed m w created v = record {
  templates_differ = v.templates_differ;
  steps_differ = v.steps_differ;
  step_names = v.step_names;
  parameters_differ = v.parameters_differ;
  parameter_names = v.parameter_names;
  calls = v.calls;
  entry = v.entry;
  short = v.short;
  short_parameters = v.short_parameters;
  values = v.values;
  entry_values = v.entry_values;
  tasks = v.tasks;
  one_spelling = v.one_spelling;
  no_circle = v.no_circle;
  retries = v.retries;
}

module _ (D : Document) (valid : HasValidWorkflows D) where
  AllValid : Story → Type 0
  AllValid h = (w : Text) (f : Flow) → HasFlow h w f → Valid f.manifest

  submit_valid : (k : Story) (w : Text) (old : Option Text) (facts : Facts) (made : Option Content) (f : Flow) → IsLawful D k → AllValid k → SubmitJustified D k w old facts made → made ≡ Some (OfWorkflow f) → Valid f.manifest
  unfolding AllValid
  submit_valid k w None facts made f l ih j e =
      let is : flow j.manifest facts ≡ f = (let r : Some (OfWorkflow (flow j.manifest facts)) ≡ Some (OfWorkflow f) = sym j.content ∙ e in cc) in
      subst (λ (y : Flow). Valid y.manifest) is (valid j.manifest j.given)
  submit_valid k w (Some old) facts made f l ih j e =
      let m : Manifest = renamed j.before.manifest w j.command.created in
      let is : flow m facts ≡ f = (let r : Some (OfWorkflow (flow m facts)) ≡ Some (OfWorkflow f) = sym j.content ∙ e in cc) in
      let then = flow_then D k j.ended.moment old j.before j.ended.extends l.each j.ended.holds.stands in
      let before : Valid j.before.manifest = subst Valid then.later.manifest (ih old then.now then.stands) in
      subst (λ (y : Flow). Valid y.manifest) is (valid_renamed j.before.manifest w j.command.created before)

  valid_grow : (k : Story) (e : Event Content) → IsLawful D k → Justified D k e → AllValid k → AllValid (grown k e)
  unfolding AllValid
  valid_grow k e l j ih w f s = by (flow_change D k w f e j s)
    where
      by : FlowChange D k e w f → Valid f.manifest
      by (same t) = ih w f t
      by (submitted old facts q sj m) = submit_valid k w old facts e.made f l ih sj m
      by (written n facts q wj is) = subst (λ (x : Flow). Valid x.manifest) (sym is) (ih w wj.flow wj.stands)

  all_valid : (h : Story) → IsLawful D h → AllValid h
  unfolding AllValid
  all_valid h l = by_lawful D AllValid valid_grow (λ w f s. absurd cc) h l

pub manifests_valid : ManifestsValid
unfolding AllValid
manifests_valid D h w f valid l s = all_valid D valid h l w f s
