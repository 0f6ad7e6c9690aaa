-- Why a round in which no entry came and no call failed leaves the history as it was, and tells the full workflows.
use Rattle.std.proofs.Common.{◌≡◌, ℕ, List, [], ◌∷◌, ◌++◌, append-nil, filter_map, refl, sym, ◌∙◌, ap, ap₂, subst, Option, Some, None, option_and_then, arith}
use Rattle.std.specs.List.{cons_option}
use Rattle.std.proofs.lemmas.List.Elements.{filter_map-append}
use Rattle.tree_types.specs.declared.fact.Fact.{Fact}
use Rattle.tree_types.specs.declared.outcome.Outcome.{Outcome}
use Rattle.tree_types.specs.declared.entry.Key.{Key}
use Rattle.tree_types.specs.declared.entry.Entry.{Entry}
use Rattle.tree_types.specs.declared.entry.Entry.TheVariants.{Submit, Write, Create, Finish, File, Release, Save, Tick}
use Rattle.meaning.specs.Answers.{Facts}
use Rattle.history.specs.History.{Event, map_content}
use Rattle.law.specs.Documents.{Text, Document}
use Rattle.law.specs.Contents.{Flow, PodObject, Content, Story, flow_in, pod_of, HasFlow}
use Rattle.law.specs.Justified.{IsLawful}
use Rattle.law.specs.Due.{Matter, record_fact, file, create, save, release, submit, due_of, IsTooLarge, IsFullBy, IsFull}
use Rattle.lawful.specs.Manifests.{HasValidWorkflows}
use Rattle.lawful.proofs.Facts.{some_same, none_some}
use Rattle.next_step.specs.Views.{Seen, Views, nothing, head}
use Rattle.next_step.specs.Next.{get, act, done, worker_next}
use Rattle.next_step.specs.Changes.{change_of, ViewsOf}
use Rattle.next_step.specs.Replies.{Reply, found, accepted, no_object, exists, conflict, fault, Ending, ended, there, after}
use Rattle.next_step.specs.Calls.{Got, Did}
use Rattle.next_step.specs.Hands.{Given, for_flow, for_pod}
use Rattle.next_step.specs.Rounds.{submitted_by, if_unfinished, created_by, jobs_of, faults_of, WorkerEnds, by_done, by_full, by_get, by_change, JobRan, worker_ran, runner_missed, runner_rested, runner_finished, JobsRan, no_more, one_more, entries_in}
use Rattle.next_laws.specs.Fresh.{NextIs}
use Rattle.next_laws.specs.Jobs.{GoesWell}
use Rattle.next_laws.proofs.Agreeing.{fresh_acts_are_due}
use Rattle.next_laws.proofs.Following.{fit_by}
use Rattle.next_laws.proofs.Going.{not_ended, get_goes}
use Rattle.next_laws.proofs.Gets.{OwnKey, own_key}
use Rattle.next_laws.proofs.Keeping.{goes_on_from}
use Rattle.next_laws.proofs.Reasons.{reason}
use Rattle.next_laws.proofs.Rounds.{viewed_at, full_by as fact_full, first_due, undisturbed_goes_well}
use Rattle.next_laws.proofs.RoundsEnd.{stays_viewed}
use Rattle.next_laws.proofs.Viewing.{views_stay}
use Rattle.run_laws.specs.Submissions.{submitted_name, submitted}
use Rattle.run_laws.specs.Rounds.{full_of_end, full_of_job, full_in}
use Rattle.run_laws.specs.Fulls.{IsFullFlow, Fulls, none, full, other, RoundIsStill}
use Rattle.run_laws.proofs.Pods.{if_open}
use Rattle.run_laws.proofs.Filtered.{filter_chain, filter_each, filter_nothing}
use Rattle.run_laws.proofs.StillRounds.{same_story, same_middle, not_grown, ends_on, job_on, jobs_on, no_faults}

-- ---- how a worker's job ends

module _ (D : Document) (w : Text) (i : Story) (u : Views) (well : GoesWell D w i u) (views : ViewsOf i w u) where
  pub same_flow : (s : Seen Flow) (f : Flow) → u.flow ≡ Some s → HasFlow i w f → f ≡ s.content
  same_flow s f e st = some_same f s.content (sym st ∙ ap (λ o. flow_in (map_content o)) (well.fresh.flow s e).stood)

  done_not_full : worker_next D w u ≡ done → IsFullFlow D i w → ⊥
  done_not_full e f =
      let s = viewed_at D w u u.flow refl e in
      subst (λ ms. IsFullBy s.0.content ms) (well.nothing_due s.0 e s.1)
      (subst (λ g. IsFull D i w g) (same_flow s.0 f.flow s.1 f.stands) f.full)

  fact_is_full : (x : Fact) (s : Seen Flow) → worker_next D w u ≡ act (record_fact x) → u.flow ≡ Some s → IsTooLarge s.content x → IsFullFlow D i w
  fact_is_full x s e q t =
      let n = subst (λ n. NextIs i n (head (due_of D i w s.content))) e (fresh_acts_are_due D i w u s well.lawful well.fresh q) in
      record {
        flow = s.content;
        stands = ap (λ o. flow_in (map_content o)) (well.fresh.flow s q).stood;
        full = fact_full s.content x (due_of D i w s.content) (first_due i x (head (due_of D i w s.content)) n) t;
      }

  -- where the workflow stands no get ends its job
  pub get_goes_on : {B : Type 0} (f : Flow) → HasFlow i w f → (k : Key) (r : Reply) (e : Ending) → OwnKey w k → Got i k r → faults_of r ≡ 0 → after u (get k) r ≡ ended e → B
  get_goes_on f s k r e own g z q = not_ended (after u (get k) r) e (get_goes D i well.lawful w f s u k r own g z) q

  -- what is there already ends no job: only a create is answered so
  there_goes : {B : Type 0} (m : Matter) (s : Seen Flow) (facts : Facts) (e : Ending) → ((change_of w u s facts m).number ≡ 0 → (x : Content) × ((change_of w u s facts m).event.made ≡ Some x)) → (change_of w u s facts m).number ≡ 0 → there u m ≡ ended e → B
  there_goes (record_fact x) s facts e makes z q = none_some (makes z).0 (makes z).1
  there_goes (file k y r) s facts e makes z q = none_some (makes z).0 (makes z).1
  there_goes (release k y) s facts e makes z q = none_some (makes z).0 (makes z).1
  there_goes (save c k y o) s facts e makes z q = none_some (makes z).0 (makes z).1
  there_goes (create p name) s facts e makes z q = absurd cc
  there_goes (submit c) s facts e makes z q = absurd cc

  -- a change that adds no entry ends no job
  pub change_goes : {B : Type 0} (m : Matter) (s : Seen Flow) (facts : Facts) (r : Reply) (g : Story) (e : Ending) → worker_next D w u ≡ act m → u.flow ≡ Some s → Did i (change_of w u s facts m) r g → faults_of r ≡ 0 → entries_in g ≡ entries_in i → after u (act m) r ≡ ended e → B
  change_goes m s facts (accepted x) g e next viewed d z n on = not_grown g i (change_of w u s facts m).event d.grows n
  change_goes m s facts exists g e next viewed d z n on = there_goes m s facts e (fit_by D i w u s views viewed facts m (reason D w u s m viewed next)).makes d.0 on
  change_goes m s facts (conflict a b) g e next viewed d z n on = absurd (well.no_conflict m s facts (conflict a b) g next viewed d tt)
  change_goes m s facts fault g e next viewed d z n on = absurd (omega (arith, z))
  change_goes m s facts (found x) g e next viewed d z n on = absurd d
  change_goes m s facts no_object g e next viewed d z n on = absurd d

  end_fulls : (ns ms : List Text) → Fulls D i ns ms → (calls faults : ℕ) (g : Story) → (end : WorkerEnds D w i u calls faults g) → faults ≡ 0 → entries_in g ≡ entries_in i → Fulls D i (w ∷ ns) (full_of_end end ++ ms)
  end_fulls ns ms fs calls faults g (by_done e) z n = other (done_not_full e) fs
  end_fulls ns ms fs calls faults g (by_full x s e viewed t) z n = full (fact_is_full x s e viewed t) fs
  end_fulls ns ms fs calls faults g (by_get k r e next got on) z n = other (λ f. get_goes_on f.flow f.stands k r e (own_key D w u k next) got z on) fs
  end_fulls ns ms fs calls faults g (by_change m s facts r j e next viewed adds d on) z n = change_goes m s facts r g e next viewed d z n on

-- ---- each job

abbrev flow_name : Given → Option Text
flow_name (for_flow w) = Some w
flow_name (for_pod w name) = None

module _ (D : Document) (valid : HasValidWorkflows D) where
  job_fulls : (h g : Story) (job : Given) (calls faults : ℕ) (ns ms : List Text) → IsLawful D h → (ran : JobRan D h job calls faults g) → faults ≡ 0 → entries_in g ≡ entries_in h → Fulls D h ns ms → Fulls D h (cons_option (flow_name job) ns) (full_of_job ran ++ ms)
  job_fulls h g job calls faults ns ms l (worker_ran w i j u last fail ran end) z n fs =
      let same : i ≡ h = same_middle g i h (ends_on D w i u last fail g end) (goes_on_from D w h nothing i u ran) n in
      let well = undisturbed_goes_well D w h i u valid l ran in
      let views = stays_viewed D w h nothing i u (views_stay.begin h w) ran in
      let still : entries_in g ≡ entries_in i = n ∙ ap entries_in (sym same) in
      subst (λ k. Fulls D k (w ∷ ns) (full_of_end end ++ ms)) same
      (end_fulls D w i u well views ns ms (subst (λ k. Fulls D k ns ms) (sym same) fs) last fail g end z still)
  job_fulls h g job calls faults ns ms l (runner_missed w name r got e) z n fs = fs
  job_fulls h g job calls faults ns ms l (runner_rested w name r x got e q) z n fs = fs
  job_fulls h g job calls faults ns ms l (runner_finished w name r s x o i got e q d) z n fs = fs

  jobs_fulls : (h g : Story) (jobs : List Given) (calls faults : ℕ) → IsLawful D h → (ran : JobsRan D h jobs calls faults g) → faults ≡ 0 → entries_in g ≡ entries_in h → Fulls D h (filter_map flow_name jobs) (full_in ran)
  jobs_fulls h g jobs calls faults l no_more z n = none
  jobs_fulls h g jobs calls faults l (one_more {i = i} {job = job} {others = others} {calls = first} {faults = fails} {more = more} {fail = fail} ran rest) z n =
      let same : i ≡ h = same_middle g i h (jobs_on D i g others more fail rest) (job_on D h i job first fails ran) n in
      let now : fails ≡ 0 = omega (arith, z) in
      let later : fail ≡ 0 = omega (arith, z) in
      let fs = jobs_fulls i g others more fail (subst (IsLawful D) (sym same) l) rest later (n ∙ ap entries_in (sym same)) in
      job_fulls h i job first fails (filter_map flow_name others) (full_in rest) l ran now (ap entries_in same) (subst (λ k. Fulls D k (filter_map flow_name others) (full_in rest)) same fs)

-- ---- the jobs of a round

worker_name : (e : Entry) → option_and_then flow_name (submitted_by e) ≡ submitted_name e
worker_name (Submit w old facts) = refl
worker_name (Write w n facts) = refl
worker_name (Create w n p t) = refl
worker_name (Finish w n o) = refl
worker_name (File k y r) = refl
worker_name (Release k y) = refl
worker_name (Save c y w o t) = refl
worker_name (Tick t) = refl

runner_name : (h : Story) (e : Entry) → option_and_then flow_name (created_by h e) ≡ None
runner_name h (Create w n p t) = by (pod_of h w n)
  where
    outcome : (o : Option Outcome) → option_and_then flow_name (if_open (for_pod w n) o) ≡ None
    outcome None = refl
    outcome (Some o) = refl

    by : (o : Option PodObject) → option_and_then flow_name (if_unfinished (for_pod w n) o) ≡ None
    by None = refl
    by (Some pod) = outcome pod.outcome
runner_name h (Submit w old facts) = refl
runner_name h (Write w n facts) = refl
runner_name h (Finish w n o) = refl
runner_name h (File k y r) = refl
runner_name h (Release k y) = refl
runner_name h (Save c y w o t) = refl
runner_name h (Tick t) = refl

job_names : (h : Story) → filter_map flow_name (jobs_of h) ≡ submitted h
job_names h =
    let workers = filter_map (λ (e : Event Content). submitted_by e.entry) h.events in
    let runners = filter_map (λ (e : Event Content). created_by h e.entry) h.events in
    let first : filter_map flow_name workers ≡ submitted h =
    filter_chain flow_name (λ (e : Event Content). submitted_by e.entry) h.events
    ∙ filter_each (λ (e : Event Content). option_and_then flow_name (submitted_by e.entry)) (λ (e : Event Content). submitted_name e.entry) h.events (λ e. worker_name e.entry) in
    let second : filter_map flow_name runners ≡ [] =
    filter_chain flow_name (λ (e : Event Content). created_by h e.entry) h.events
    ∙ filter_nothing (λ (e : Event Content). option_and_then flow_name (created_by h e.entry)) h.events (λ e. runner_name h e.entry) in
    filter_map-append flow_name workers runners ∙ ap₂ (λ xs ys. xs ++ ys) first second ∙ append-nil (submitted h)

pub round_is_still : RoundIsStill
round_is_still D h g names valid l d n =
    let ns = jobs_fulls D valid h g (jobs_of h) d.calls d.faults l d.ran (no_faults d.faults d.has_failed) n in
    record {
      same = same_story g h (jobs_on D h g (jobs_of h) d.calls d.faults d.ran) n;
      fulls = subst (λ ms. Fulls D h (submitted h) ms) (sym d.is_full) (subst (λ xs. Fulls D h xs (full_in d.ran)) (job_names h) ns);
    }
