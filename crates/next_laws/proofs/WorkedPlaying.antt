-- The premises of the laws of schedules, jobs and rounds hold together: each law, put to worked ones.
use Rattle.std.proofs.Common.{◌≤◌, ◌+◌, codes, [], ◌∷◌, refl, subst, inl, inr}
use Rattle.std.proofs.lemmas.List.Elements.{All-nil, All-cons}
use Rattle.wf_manifest.specs.declared.templates.Body.TheVariants as body
use Rattle.wf_manifest.specs.declared.templates.Template.{Template}
use Rattle.wf_manifest.specs.Valid.{HasNoCircle, Valid}
use Rattle.meaning.proofs.Samples.{template}
use Rattle.tree_types.specs.declared.entry.Key.TheVariants.{Workflow}
use Rattle.law.specs.Contents.{OfWorkflow, flow, Story, starts}
use Rattle.law.specs.Due.{IsQuiet}
use Rattle.law.specs.Justified.{IsLawful}
use Rattle.lawful.specs.Manifests.{HasValidWorkflows}
use Rattle.next_step.specs.Hands.{for_pod, idle_hand}
use Rattle.next_step.specs.Replies.{no_object, seen}
use Rattle.next_step.specs.Plays.{make_step, stage}
use Rattle.next_step.specs.Rounds.{entries_in, JobRan, runner_missed, no_more, one_more, RunRan, last_round}
use Rattle.next_laws.specs.Playing.{IsLawfulStage, IsPlayed}
use Rattle.next_laws.specs.Ends.{Within}
use Rattle.next_laws.specs.ReadsBack.{IsBack}
use Rattle.next_laws.proofs.Playing.{plays_lawfully}
use Rattle.next_laws.proofs.Following.{step_is_played}
use Rattle.next_laws.proofs.RoundsEnd.{rounds_end}
use Rattle.next_laws.proofs.RunsQuiet.{run_ends_quiet}
use Rattle.next_laws.proofs.VersionsCounted.{reads_back}
use Rattle.next_laws.proofs.WorkedConflict.{w, m, D, h, g}
use Rattle.next_laws.proofs.WorkedSchedule.{has_written, two_steps, two_notes, two_hands}

valid_manifest : Valid m
valid_manifest = record {
  templates_differ = refl;
  steps_differ = refl;
  step_names = refl;
  parameters_differ = refl;
  parameter_names = refl;
  calls = refl;
  entry = refl;
  short = refl;
  short_parameters = refl;
  retries = refl;
  values = refl;
  entry_values = refl;
  tasks = refl;
  one_spelling = refl;
  no_circle = All-cons (λ (t : Template). HasNoCircle t.body) (template (codes "main") body.Pod) [] tt (All-nil (λ (t : Template). HasNoCircle t.body));
}

valid_document : HasValidWorkflows D
valid_document n (inl e) = subst Valid e valid_manifest
valid_document n (inr x) = absurd x

submitted_lawful : IsLawful D h
submitted_lawful = record { start = refl; each = (record { absent = refl; manifest = m; given = inl refl; name = refl; no_facts = refl; content = refl }, tt) }

-- ---- schedules

at_first : IsLawfulStage D (stage h (idle_hand ∷ idle_hand ∷ []))
at_first = plays_lawfully.begin D h 2 submitted_lawful

two_hands_lawful : IsLawfulStage D (stage g (has_written ∷ idle_hand ∷ []))
two_hands_lawful =
    plays_lawfully.plays D (stage h (idle_hand ∷ idle_hand ∷ [])) (stage g (has_written ∷ idle_hand ∷ [])) two_steps two_notes
    valid_document at_first two_hands

first_step_played : IsPlayed D (stage h (idle_hand ∷ idle_hand ∷ [])) (make_step 0)
first_step_played = step_is_played D (stage h (idle_hand ∷ idle_hand ∷ [])) (make_step 0) at_first (idle_hand, refl)

-- ---- a runner's job on a pod that is not there, and a run before anything is submitted

missed : JobRan D h (for_pod w w) 1 0 h
missed = runner_missed w w no_object refl refl

missed_ends : Within D h h 1 1
missed_ends = rounds_end.job D h h (for_pod w w) 1 0 valid_document submitted_lawful missed

missed_once_ends : Within D h h 1 1
missed_once_ends = rounds_end.round D h h (for_pod w w ∷ []) 1 0 valid_document submitted_lawful (one_more missed no_more)

abbrev before : Story
before = record { start = starts D; events = [] }

before_lawful : IsLawful D before
before_lawful = record { start = refl; each = tt }

nothing_runs : RunRan D before 1 0 before
nothing_runs = last_round no_more refl

nothing_ends : 1 + entries_in before ≤ entries_in before + 0 + 1
nothing_ends = rounds_end.run D before before 1 0 valid_document before_lawful nothing_runs

nothing_quiet : IsLawful D before × IsQuiet D before
nothing_quiet = run_ends_quiet D before before 1 0 valid_document before_lawful nothing_runs

-- ---- a read of the first version, where the workflow stands at the second

first_is_read : IsBack g (Workflow w) 9 (seen 1 (OfWorkflow (flow m [])) 0)
first_is_read = reads_back.older g (Workflow w) 9 (seen 1 (OfWorkflow (flow m [])) 0) refl
