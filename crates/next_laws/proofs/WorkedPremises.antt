-- The premises of the laws of workers and runners hold together: each law, put to a worked job.
use Rattle.std.proofs.Common.{◌≡◌, true, false, codes, lit≤, [], ◌∷◌, refl, subst, Some, None, inl, inr, arith}
use Rattle.std.proofs.lemmas.List.Elements.{All-nil, All-cons}
use Rattle.tree_types.specs.declared.fact.Fact.TheVariants as fact
use Rattle.tree_types.specs.declared.entry.Key.TheVariants.{Workflow, Pod, Locks}
use Rattle.tree_types.specs.declared.entry.Entry.TheVariants.{Write}
use Rattle.tree_types.specs.Journals.{knows}
use Rattle.wf_manifest.specs.declared.templates.Body.TheVariants as body
use Rattle.wf_manifest.specs.declared.templates.Template.{Template}
use Rattle.wf_manifest.specs.Valid.{HasNoCircle, Valid}
use Rattle.meaning.specs.Trees.{closed}
use Rattle.meaning.proofs.Samples.{template, succeeded}
use Rattle.growth.specs.Writes.{Asked}
use Rattle.history.specs.History.{event}
use Rattle.history.proofs.Extends.{extends_itself}
use Rattle.law.specs.Contents.{Flow, Book, OfWorkflow, OfPod, OfLocks, flow, begun_pod}
use Rattle.law.specs.Justified.{IsLawful}
use Rattle.law.specs.Due.{record_fact, create, due_of}
use Rattle.lawful.specs.Manifests.{HasValidWorkflows}
use Rattle.next_step.specs.Views.{Seen, Views, head}
use Rattle.next_step.specs.Next.{worker_next}
use Rattle.next_step.specs.Changes.{Change, change_of, ShownAt, ViewsOf}
use Rattle.next_step.specs.Replies.{found, accepted, exists, seen}
use Rattle.next_step.specs.Runner.{finish_change}
use Rattle.next_laws.specs.Acts.{ChangeStill}
use Rattle.next_laws.specs.Fresh.{IsPresent, Fresh, NextIs}
use Rattle.next_laws.specs.Jobs.{GoesWell}
use Rattle.next_laws.specs.Sizes.{HasFewer, IsBounded}
use Rattle.lawful.proofs.Facts.{none_some, some_same}
use Rattle.next_laws.proofs.Acting.{acts_still, finishes_still, act_is_new}
use Rattle.next_laws.proofs.Viewing.{now_version, views_stay}
use Rattle.next_laws.proofs.Agreeing.{fresh_acts_are_due}
use Rattle.next_laws.proofs.Rounds.{undisturbed_goes_well}
use Rattle.next_laws.proofs.Falling.{reads_leave_fewer, refusals_leave_fewer}
use Rattle.next_laws.proofs.Ending.{undisturbed_ends}
use Rattle.next_laws.proofs.WorkedJobs.{w, mutex, m, D, main, story, J1, at_first, granted, book_of_all, v1, v2, v5, v6, v7, first_job}

-- ---- the document is valid, and its workflow submitted

valid_manifest : Valid m
valid_manifest = record {
  templates_differ = refl;
  steps_differ = refl;
  step_names = refl;
  parameters_differ = refl;
  parameter_names = refl;
  calls = refl;
  entry = refl;
  short = refl;
  short_parameters = refl;
  retries = refl;
  values = refl;
  entry_values = refl;
  tasks = refl;
  one_spelling = refl;
  no_circle = All-cons (λ (t : Template). HasNoCircle t.body) (record (template (codes "main") body.Pod) { lock = Some mutex }) [] tt (All-nil (λ (t : Template). HasNoCircle t.body));
}

valid_document : HasValidWorkflows D
valid_document n (inl e) = subst Valid e valid_manifest
valid_document n (inr x) = absurd x

one_lawful : IsLawful D (story 1)
one_lawful = record { start = refl; each = (record { absent = refl; manifest = m; given = inl refl; name = refl; no_facts = refl; content = refl }, tt) }

-- ---- a job that nobody disturbs

job_goes_well : GoesWell D w (story 5) v7
job_goes_well = undisturbed_goes_well D w (story 1) (story 5) v7 valid_document one_lawful first_job

job_ends : IsBounded D w (story 1) (story 5) v7 first_job
job_ends = undisturbed_ends D w (story 1) (story 5) v7 first_job valid_document one_lawful

-- ---- its first act, by views that are fresh

fresh : Fresh (story 1) w v2
fresh = record {
  flow = λ s e. subst (λ (t : Seen Flow). ShownAt (story 1) (Workflow w) t.number (OfWorkflow t.content) t.tick) (some_same at_first s e) record { stood = refl; clock = refl };
  book = λ b e. subst (λ (t : Seen Book). IsPresent (story 1) Locks t.number (OfLocks t.content)) (some_same (seen 1 (book_of_all []) 0) b e) refl;
  saves = λ c e. none_some c e;
  pods = λ name l e. none_some l e;
  tried = λ name e. absurd (let none : false ≡ true = e in cc);
}

first_is_due : NextIs (story 1) (worker_next D w v2) (head (due_of D (story 1) w (flow m [])))
first_is_due = fresh_acts_are_due D (story 1) w v2 at_first one_lawful fresh refl

views : ViewsOf (story 1) w v1
views = record {
  moment = story 1;
  extends = extends_itself (story 1);
  flow = λ s e. subst (λ (t : Seen Flow). ShownAt (story 1) (Workflow w) t.number (OfWorkflow t.content) t.tick) (some_same at_first s e) record { stood = refl; clock = refl };
  book = λ b e. none_some b e;
  saves = λ c e. none_some c e;
  pods = λ name x e. none_some x e;
}

-- the read of the lock book leaves views, and fewer calls
book_read : ViewsOf (story 1) w v2
book_read =
    views_stay.reads D (story 1) (story 1) w v1 v2 Locks (found (seen 1 (OfLocks (book_of_all [])) 0)) (extends_itself (story 1)) views refl
    (now_version (story 1) Locks 1 (OfLocks (book_of_all [])) 0 record { stood = refl; clock = refl }) refl

read_leaves_fewer : HasFewer D (story 1) w v1 v2 at_first
read_leaves_fewer = reads_leave_fewer D (story 1) w v1 v2 at_first Locks (found (seen 1 (OfLocks (book_of_all [])) 0)) refl refl tt refl

abbrev starting : Change
starting = change_of w v2 at_first (fact.Started ∷ []) (record_fact fact.Started)

started_then : ChangeStill D (story 1) starting
started_then =
    acts_still D (story 1) w v2 at_first (fact.Started ∷ []) (record_fact fact.Started) valid_document refl book_read refl refl
    record { beginnings = []; parts = refl; closes = closed refl; fits = omega arith; is_new = refl }

started_is_new : Asked m [] fact.Started × (knows [] fact.Started ≡ false)
started_is_new = act_is_new D w v2 at_first fact.Started refl refl

abbrev v3 : Views
v3 = record v2 { flow = Some (seen 2 (flow m J1) 0) }

-- the views stay views where the write is accepted, and where more is seen
write_accepted : ViewsOf (story 2) w v3
write_accepted =
    views_stay.acts D (story 1) (story 1) (story 2) w v2 v3 at_first (fact.Started ∷ []) (record_fact fact.Started)
    (accepted (seen 2 (OfWorkflow (flow m J1)) 0)) (extends_itself (story 1)) book_read refl refl
    record { unmoved = refl; grows = refl; shows = record { stood = refl; clock = refl } } refl

seen_later : ViewsOf (story 2) w v2
seen_later = views_stay.later (story 1) (story 2) w v2 record { same_start = refl; rest = event (Write w 2 (fact.Started ∷ [])) None ∷ []; goes_on = refl } book_read

-- ---- a pod that was noted as absent, and that another worker has created

refusal_leaves_fewer : HasFewer D (story 5) w v6 v5 granted
refusal_leaves_fewer =
    refusals_leave_fewer D (story 5) w v6 v5 granted [] (create main w) exists refl refl (refl, lit≤ tt, refl) refl

-- ---- a runner

pod_finishes : ChangeStill D (story 5) (finish_change w w (seen 1 (begun_pod main 0) 0) succeeded)
pod_finishes =
    finishes_still D (story 5) w w (seen 1 (begun_pod main 0) 0) succeeded
    (now_version (story 5) (Pod w w) 1 (OfPod (begun_pod main 0)) 0 record { stood = refl; clock = refl }) refl
