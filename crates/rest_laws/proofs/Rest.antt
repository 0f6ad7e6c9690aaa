-- Why workflows rest behind jobs in which no entry came, and why the job of one that rests finds nothing to do.
use Rattle.std.proofs.Common.{◌≡◌, ℕ, refl, sym, ◌∙◌, ap, subst, Option, Some, None}
use Rattle.tree_types.specs.declared.entry.Key.TheVariants.{Workflow}
use Rattle.history.specs.History.{Version, map_content, version_at}
use Rattle.law.specs.Documents.{Text, Document}
use Rattle.law.specs.Contents.{Flow, Content, OfWorkflow, OfPod, OfLocks, OfCaches, apply, Story, flow_in, flow_of}
use Rattle.law.specs.Justified.{IsLawful}
use Rattle.law.specs.Due.{due_of}
use Rattle.lawful.specs.Manifests.{HasValidWorkflows}
use Rattle.lawful.proofs.Facts.{none_some}
use Rattle.next_step.specs.Views.{Views, nothing}
use Rattle.next_step.specs.Changes.{ViewsOf}
use Rattle.next_step.specs.Replies.{Reply, found, accepted, no_object, exists, conflict, fault}
use Rattle.next_step.specs.Hands.{Given, for_flow}
use Rattle.next_step.specs.Rounds.{faults_of, WorkerEnds, by_done, by_full, by_get, by_change, JobRan, worker_ran, runner_missed, runner_rested, runner_finished, entries_in}
use Rattle.next_laws.specs.Jobs.{GoesWell}
use Rattle.next_laws.proofs.ContentKinds.{kinds_are}
use Rattle.next_laws.proofs.Gets.{own_key}
use Rattle.next_laws.proofs.Keeping.{goes_on_from}
use Rattle.next_laws.proofs.Rounds.{viewed_at, undisturbed_goes_well}
use Rattle.next_laws.proofs.RoundsEnd.{stays_viewed}
use Rattle.next_laws.proofs.Viewing.{views_stay}
use Rattle.run_laws.specs.Whole.{went, told_by, told_of_end, told_of_job, Ran}
use Rattle.run_laws.proofs.Fulls.{same_flow, get_goes_on, change_goes}
use Rattle.run_laws.proofs.StillRounds.{same_story, same_middle, ends_on, job_on}
use Rattle.rest_laws.specs.Rest.{Rests, HoldsNone, WorkflowsRest}
use Rattle.rest_laws.proofs.Dues.{nothing_due, due_none}
use Rattle.rest_laws.proofs.Staying.{stays, sleeps, sleeps_on}
use Rattle.rest_laws.proofs.Idle.{idle_ran, missing_ran}

-- ---- behind a job

none_failed : (r : Reply) → went ≡ told_by r → faults_of r ≡ 0
none_failed fault e = absurd cc
none_failed (found x) e = refl
none_failed (accepted x) e = refl
none_failed no_object e = refl
none_failed exists e = refl
none_failed (conflict a b) e = refl

module _ (D : Document) (w : Text) (i : Story) (u : Views) (well : GoesWell D w i u) (views : ViewsOf i w u) where
  end_rests : (calls faults : ℕ) (g : Story) → (end : WorkerEnds D w i u calls faults g) → went ≡ told_of_end end → entries_in g ≡ entries_in i → Rests D i w
  end_rests calls faults g (by_done e) t n = λ f st.
      let s = viewed_at D w u u.flow refl e in
      nothing_due D i w f (ap (due_of D i w) (same_flow D w i u well views s.0 f s.1 st) ∙ well.nothing_due s.0 e s.1)
  end_rests calls faults g (by_full x s e viewed large) t n = absurd cc
  end_rests calls faults g (by_get k r e next got on) t n = λ f st. get_goes_on D w i u well views f st k r e (own_key D w u k next) got (none_failed r t) on
  end_rests calls faults g (by_change m s facts r j e next viewed adds d on) t n = change_goes D w i u well views m s facts r g e next viewed d (none_failed r t) n on

job_rests : (D : Document) (h g : Story) (job : Given) (calls faults : ℕ) → HasValidWorkflows D → IsLawful D h → (ran : JobRan D h job calls faults g) → went ≡ told_of_job ran → entries_in g ≡ entries_in h → (w : Text) → job ≡ for_flow w → Rests D h w
job_rests D h g job calls faults valid l (worker_ran x i j u last fail ran end) t n w is =
    let same : i ≡ h = same_middle g i h (ends_on D x i u last fail g end) (goes_on_from D x h nothing i u ran) n in
    let own : x ≡ w = cc in
    let r = end_rests D x i u (undisturbed_goes_well D x h i u valid l ran) (stays_viewed D x h nothing i u (views_stay.begin h x) ran) last fail g end t (n ∙ ap entries_in (sym same)) in
    subst (λ y. Rests D h y) own (subst (λ k. Rests D k x) same r)
job_rests D h g job calls faults valid l (runner_missed x name r got e) t n w is = absurd cc
job_rests D h g job calls faults valid l (runner_rested x name r y got e q) t n w is = absurd cc
job_rests D h g job calls faults valid l (runner_finished x name r s y o i got e q d) t n w is = absurd cc

rests : (D : Document) (h g : Story) (w : Text) → HasValidWorkflows D → IsLawful D h → Ran D h (for_flow w) went g → entries_in g ≡ entries_in h → Rests D g w
rests D h g w valid l r n =
    subst (λ k. Rests D k w) (sym (same_story g h (job_on D h g (for_flow w) r.calls r.faults r.ran) n))
    (job_rests D h g (for_flow w) r.calls r.faults valid l r.ran r.is_told n w refl)

-- ---- the job of a workflow that rests

idle : (D : Document) (h : Story) (w : Text) → HasValidWorkflows D → IsLawful D h → HoldsNone h w → Rests D h w → Ran D h (for_flow w) went h
idle D h w valid l unheld r = by (flow_of h w) refl
  where
    absent : (o : Option (Version Content)) → version_at apply h (Workflow w) ≡ o → flow_in (map_content o) ≡ None → version_at apply h (Workflow w) ≡ None
    absent None q e = q
    absent (Some v) q e = of_kind v.content refl
      where
        of_kind : (c : Content) → v.content ≡ c → version_at apply h (Workflow w) ≡ None
        of_kind (OfWorkflow f) k = none_some f (sym e ∙ ap (λ c. flow_in (Some c)) k)
        of_kind (OfPod pod) k = absurd (let z = (kinds_are D h l).kinds (Workflow w) v q in cc)
        of_kind (OfLocks b) k = absurd (let z = (kinds_are D h l).kinds (Workflow w) v q in cc)
        of_kind (OfCaches ss) k = absurd (let z = (kinds_are D h l).kinds (Workflow w) v q in cc)

    by : (o : Option Flow) → flow_of h w ≡ o → Ran D h (for_flow w) went h
    by (Some f) e = idle_ran D h l w f e (due_none D h w f unheld (r f e))
    by None e = missing_ran D h l w (absent (version_at apply h (Workflow w)) refl e)

pub workflows_rest : WorkflowsRest
workflows_rest = record { rests = rests; stays = stays; idle = idle; sleeps = sleeps; sleeps_on = sleeps_on }
