-- What a worker and a runner do next is still justified where it is accepted, and a fact that is next is new.
use Rattle.std.specs.Prelude.{◌≡◌, false, Some}
use Rattle.tree_types.specs.declared.fact.Fact.{Fact}
use Rattle.tree_types.specs.declared.outcome.Outcome.{Outcome}
use Rattle.tree_types.specs.declared.entry.Key.TheVariants as of_key
use Rattle.tree_types.specs.Journals.{knows}
use Rattle.meaning.specs.Answers.{Facts}
use Rattle.growth.specs.Writes.{Asked}
use Rattle.history.specs.History.{IsVersionOf}
use Rattle.law.specs.Documents.{Text, Document}
use Rattle.law.specs.Contents.{Flow, PodObject, OfPod, apply, Story, starts}
use Rattle.law.specs.Due.{Matter, record_fact}
use Rattle.lawful.specs.Manifests.{HasValidWorkflows}
use Rattle.lawful.specs.Still.{Still}
use Rattle.next_step.specs.Views.{Seen, Views}
use Rattle.next_step.specs.Next.{act, worker_next}
use Rattle.next_step.specs.Changes.{Change, change_of, AddsFor, ViewsOf}
use Rattle.next_step.specs.Runner.{finish, runner_next, finish_change}

-- justified in every lawful history that goes on from what was seen, and in which the object is unmoved
abbrev pub ChangeStill : Document → Story → Change → Type 0
ChangeStill D seen c = Still D seen c.key c.number c.event

-- each act that is next by views of a history of the document; its workflows are valid, since a pod is found by its
-- node's name
abbrev pub ActsStill : Type 0
ActsStill =
    (D : Document) (seen : Story) (w : Text) (v : Views) (s : Seen Flow) (facts : Facts) (x : Matter) →
    HasValidWorkflows D → seen.start ≡ starts D → ViewsOf seen w v → v.flow ≡ Some s → worker_next D w v ≡ act x →
    AddsFor s facts x → ChangeStill D seen (change_of w v s facts x)

-- the outcome that is next by a view of a pod
abbrev pub FinishesStill : Type 0
FinishesStill =
    (D : Document) (seen : Story) (w name : Text) (x : Seen PodObject) (o : Outcome) →
    IsVersionOf apply seen (of_key.Pod w name) x.number (OfPod x.content) x.tick →
    runner_next D w name (Some x) ≡ finish o → ChangeStill D seen (finish_change w name x o)

-- whatever the views: so a fact that is next may be written, or makes too large a tree
abbrev pub ActIsNew : Type 0
ActIsNew =
    (D : Document) (w : Text) (v : Views) (s : Seen Flow) (x : Fact) → v.flow ≡ Some s →
    worker_next D w v ≡ act (record_fact x) →
    Asked s.content.manifest s.content.journal x × (knows s.content.journal x ≡ false)
