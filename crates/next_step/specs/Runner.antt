-- What a runner does next with its pod.
use Rattle.std.specs.Prelude.{ℕ, nat_le, Option, Some, None, if◌then◌else◌}
use Rattle.tree_types.specs.declared.outcome.Outcome.{Outcome}
use Rattle.tree_types.specs.declared.entry.Key.TheVariants as of_key
use Rattle.tree_types.specs.declared.entry.Entry.TheVariants.{Finish}
use Rattle.meaning.specs.Lines.{later}
use Rattle.history.specs.History.{event}
use Rattle.law.specs.Documents.{Text, PlannedOutcome, ended_by, Document}
use Rattle.law.specs.Contents.{PodObject}
use Rattle.next_step.specs.Views.{Seen}
use Rattle.next_step.specs.Changes.{Change, change}

-- it reads its pod, writes its outcome, or ends its job for one of three causes
pub data RunNext : Type 0 where
  read : RunNext
  finish : Outcome → RunNext
  already_finished : RunNext
  no_outcome : RunNext
  not_due : ℕ → RunNext

-- from its begin plus the seconds of its planned outcome on a pod may end
abbrev pub due_at : Seen PodObject → PlannedOutcome → ℕ
due_at x plan = later x.content.begin plan.seconds

abbrev pub by_plan : Seen PodObject → Option PlannedOutcome → RunNext
by_plan x None = no_outcome
by_plan x (Some plan) =
    if nat_le (due_at x plan) x.tick then finish (ended_by plan x.content.begin x.tick) else not_due (due_at x plan)

module _ (D : Document) (w name : Text) where
  abbrev pub by_outcome : Seen PodObject → Option Outcome → RunNext
  by_outcome x (Some o) = already_finished
  by_outcome x None = by_plan x (D.planned w name)

  abbrev pub runner_next : Option (Seen PodObject) → RunNext
  runner_next None = read
  runner_next (Some x) = by_outcome x x.content.outcome

-- the view's tick is the finish
abbrev pub finish_change : Text → Text → Seen PodObject → Outcome → Change
finish_change w name x o = change (of_key.Pod w name) x.number (event (Finish w name o) None)
