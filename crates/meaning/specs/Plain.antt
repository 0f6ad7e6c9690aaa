-- Plain workflows: their tree follows from planned outcomes alone (own).
use Rattle.std.specs.Prelude.{ℕ, List, Bool, true, false, not, ◌&&◌, Option, Some, None, is_none, option_map}
use Rattle.std.specs.List.{list_all}
use Rattle.tree_types.specs.declared.node.Note.TheVariants as note
use Rattle.tree_types.specs.declared.node.Node.{Node}
use Rattle.tree_types.specs.declared.outcome.Outcome.{Outcome}
use Rattle.wf_manifest.specs.declared.templates.Retry.{Retry}
use Rattle.wf_manifest.specs.declared.templates.Body.{Body}
use Rattle.wf_manifest.specs.declared.templates.Body.TheVariants as body
use Rattle.wf_manifest.specs.declared.templates.Template.{Template}
use Rattle.wf_manifest.specs.declared.manifest.Manifest.{Manifest}
use Rattle.meaning.specs.Answers.{Answers}
use Rattle.meaning.specs.Trees.{lines, nodes_in}

-- ---- the tree of planned outcomes

-- the outcome that is planned for a node's name, if one is
abbrev pub Planned : Type 0
Planned = List ℕ → Option Outcome

-- planned outcomes have no ticks
abbrev pub without_ticks : Outcome → Outcome
without_ticks o = record o { begin = 0; finish = 0 }

-- started, and each pod ended as it is planned for its name
abbrev pub planned_answers : Planned → Answers
planned_answers O = record {
  started = true;
  outcome = λ place. option_map (λ o. (note.None, without_ticks o)) (O place.name);
  granted = λ p. false;
  memo = λ p. None;
  armed = λ p. None;
  due = λ p. false;
  resumed = λ p. false;
  begun = λ p. false;
}

-- the nodes of the tree that planned outcomes give, in tree order
abbrev pub plain : Manifest → Planned → List Node
plain m O = nodes_in (lines m (planned_answers O))

-- ---- which manifests are plain, by what they declare, called or not

abbrev pub has_no_backoff : Option Retry → Bool
has_no_backoff None = true
has_no_backoff (Some r) = is_none r.backoff

abbrev pub is_plain_body : Body → Bool
is_plain_body body.Pod = true
is_plain_body (body.Steps gs) = true
is_plain_body (body.Dag d) = not d.fail_fast
is_plain_body (body.Suspend duration) = false

abbrev pub is_plain_template : Template → Bool
is_plain_template t = is_none t.lock && is_none t.memoize && has_no_backoff t.retry && is_plain_body t.body

-- no synchronization, memoize, suspend template, backoff or DAG with `failFast`
abbrev pub is_plain : Manifest → Bool
is_plain m = is_none m.lock && list_all is_plain_template m.templates
