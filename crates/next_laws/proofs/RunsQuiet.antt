-- Why the end of a run is quiet: its last round had neither an entry nor a fault.
use Rattle.std.proofs.Common.{◌≡◌, inl, inr, ℕ, ◌+◌, List, [], ◌∷◌, ◌++◌, filter_map, length, length-append, append-nil, refl, sym, ◌∙◌, ap, ap₂, subst, Option, Some, None, arith}
use Rattle.tree_types.specs.declared.outcome.Outcome.{Outcome}
use Rattle.tree_types.specs.declared.entry.Key.{Key}
use Rattle.tree_types.specs.declared.entry.Key.TheVariants.{Workflow, Pod, Locks, Caches}
use Rattle.meaning.specs.Answers.{Facts}
use Rattle.growth.specs.Growth.{Among}
use Rattle.history.specs.History.{Event, number_of, map_content, Extends, grown, version_at}
use Rattle.history.proofs.Extends.{extends_itself, extends_later}
use Rattle.law.specs.Documents.{Text, Document}
use Rattle.law.specs.Contents.{Flow, PodObject, Content, OfWorkflow, OfPod, OfLocks, OfCaches, apply, Story, pod_in, pod_of, HasFlow}
use Rattle.law.specs.Justified.{IsLawful}
use Rattle.law.specs.Due.{Matter, record_fact, file, create, save, release, submit, IsNext, IsQuiet}
use Rattle.lawful.specs.Manifests.{HasValidWorkflows}
use Rattle.lawful.proofs.Facts.{some_same, none_some}
use Rattle.next_step.specs.Views.{Seen, Views, nothing}
use Rattle.next_step.specs.Next.{get, act}
use Rattle.next_step.specs.Changes.{change_of, ShownAt, ViewsOf}
use Rattle.next_step.specs.Replies.{Reply, found, accepted, no_object, exists, conflict, fault, Ending, by_absence, ended, seen, taken, there, after}
use Rattle.next_step.specs.Runner.{finish_change}
use Rattle.next_step.specs.Calls.{Got, Did, Undisturbed}
use Rattle.next_step.specs.Hands.{Given, for_flow, for_pod}
use Rattle.next_step.specs.Plays.{tick_event}
use Rattle.next_step.specs.Rounds.{submitted_by, if_unfinished, created_by, jobs_of, faults_of, WorkerEnds, by_done, by_full, by_get, by_change, pod_of_reply, JobRan, worker_ran, runner_missed, runner_rested, runner_finished, JobsRan, no_more, one_more, entries_in, RunRan, last_round, next_round, then_ticks, tick_fails}
use Rattle.next_laws.specs.Jobs.{StillEnd, as_done, as_full, as_absent, WorkerRan, RunnerRan, StillRound}
use Rattle.next_laws.specs.Ends.{RunEndsQuiet}
use Rattle.next_laws.proofs.Reasons.{reason}
use Rattle.next_laws.proofs.Keeping.{did_extends, goes_on_from, no_conflict, stays_fresh, fresh_nothing}
use Rattle.next_laws.proofs.Viewing.{now_version, views_stay}
use Rattle.next_laws.proofs.StayingLawful.{stays_lawful}
use Rattle.next_laws.proofs.Following.{was_seen, fit_by}
use Rattle.next_laws.proofs.Rounds.{still_round_is_idle}
use Rattle.next_laws.proofs.RoundsEnd.{stays_viewed, jobs_end, tick_lawful}
use Rattle.next_laws.proofs.Firsts.{among_filter}
use Rattle.next_laws.proofs.Ticks.{among_left, among_right, flows_made, pods_made, next_tick_is_next}

-- ---- a history that is as long is the same

no_rest : {A : Type 0} (xs : List A) → length xs ≡ 0 → xs ≡ []
no_rest [] e = refl
no_rest (x ∷ xs) e = absurd (omega (arith, e))

same_story : (i h : Story) → Extends i h → entries_in i ≡ entries_in h → i ≡ h
same_story i h b e =
    let n : entries_in i ≡ entries_in h + length b.rest = ap length b.goes_on ∙ length-append h.events b.rest in
    let none : b.rest ≡ [] = no_rest b.rest (omega (arith, e, n)) in
    ap₂ (λ start events. record { start = start; events = events }) b.same_start (b.goes_on ∙ ap (λ es. h.events ++ es) none ∙ append-nil h.events)

not_shorter : (i h : Story) → Extends i h → (n : ℕ) × (entries_in i ≡ entries_in h + n)
not_shorter i h b = (length b.rest, ap length b.goes_on ∙ length-append h.events b.rest)

-- of three of which the last is as long as the first
same_middle : (g i h : Story) → Extends g i → Extends i h → entries_in g ≡ entries_in h → i ≡ h
same_middle g i h a b e =
    let p = not_shorter g i a in
    let q = not_shorter i h b in
    let m = p.1 in
    let n = q.1 in
    same_story i h b (omega (arith, e, m, n))

not_grown : {B : Type 0} (g h : Story) (e : Event Content) → g ≡ grown h e → entries_in g ≡ entries_in h → B
not_grown g h e q n =
    let a : entries_in g ≡ entries_in h + 1 = ap entries_in q ∙ length-append h.events (e ∷ []) in
    absurd (omega (arith, a, n))

ends_on : (D : Document) (w : Text) (h : Story) (v : Views) (calls faults : ℕ) (g : Story) → WorkerEnds D w h v calls faults g → Extends g h
ends_on D w h v calls faults g (by_done e) = extends_itself h
ends_on D w h v calls faults g (by_full x s e viewed t) = extends_itself h
ends_on D w h v calls faults g (by_get k r e n got on) = extends_itself h
ends_on D w h v calls faults g (by_change m s facts r i e n viewed adds d on) = did_extends h g (change_of w v s facts m) r d

job_on : (D : Document) (h g : Story) (job : Given) (calls faults : ℕ) → JobRan D h job calls faults g → Extends g h
job_on D h g job calls faults (worker_ran w i j u last fail ran end) = extends_later g i h (ends_on D w i u last fail g end) (goes_on_from D w h nothing i u ran)
job_on D h g job calls faults (runner_missed w name r got e) = extends_itself h
job_on D h g job calls faults (runner_rested w name r x got e n) = extends_itself h
job_on D h g job calls faults (runner_finished w name r s x o i got e n d) = did_extends h g (finish_change w name x o) s d

jobs_on : (D : Document) (h g : Story) (jobs : List Given) (calls faults : ℕ) → JobsRan D h jobs calls faults g → Extends g h
jobs_on D h g jobs calls faults no_more = extends_itself h
jobs_on D h g jobs calls faults (one_more {i = i} {job = job} {others = others} {calls = first} {faults = fails} {more = more} {fail = fail} ran rest) =
    extends_later g i h (jobs_on D i g others more fail rest) (job_on D h i job first fails ran)

-- ---- each job of such a round

abbrev StillJob : Document → Story → Given → Type 0
StillJob D h job = (calls : ℕ) × JobRan D h job calls 0 h

jobs_still : (D : Document) (h g : Story) (jobs : List Given) (calls faults : ℕ) → JobsRan D h jobs calls faults g → faults ≡ 0 → entries_in g ≡ entries_in h → (job : Given) → Among job jobs → StillJob D h job
jobs_still D h g jobs calls faults no_more z n job i = absurd i
jobs_still D h g jobs calls faults (one_more {i = i} {job = first} {others = others} {calls = some} {faults = fails} {more = more} {fail = fail} ran rest) z n job place = by place (λ j. jobs_still D i g others more fail rest none_then (n ∙ ap entries_in (sym same)) job j)
  where
    same : i ≡ h
    same = same_middle g i h (jobs_on D i g others more fail rest) (job_on D h i first some fails ran) n

    none_first : fails ≡ 0
    none_first = omega (arith, z)

    none_then : fail ≡ 0
    none_then = omega (arith, z)

    by : Among job (first ∷ others) → (Among job others → StillJob D i job) → StillJob D h job
    by (inl e) ih = (some, subst (λ x. JobRan D h x some 0 h) e (subst (λ k. JobRan D h first some k h) none_first (subst (JobRan D h first some fails) same ran)))
    by (inr j) ih = subst (λ k. StillJob D k job) same (ih j)

-- ---- a worker's

get_ends : (w : Text) (v : Views) (n t : ℕ) (k : Key) (c : Content) (e : Ending) → taken v k n t c ≡ ended e → e ≡ by_absence
get_ends w v n t (Workflow x) (OfWorkflow f) e q = absurd cc
get_ends w v n t (Pod x m) (OfPod pod) e q = absurd cc
get_ends w v n t Locks (OfLocks b) e q = absurd cc
get_ends w v n t Caches (OfCaches ss) e q = absurd cc
get_ends w v n t (Workflow x) (OfPod pod) e q = cc
get_ends w v n t (Workflow x) (OfLocks b) e q = cc
get_ends w v n t (Workflow x) (OfCaches ss) e q = cc
get_ends w v n t (Pod x m) (OfWorkflow f) e q = cc
get_ends w v n t (Pod x m) (OfLocks b) e q = cc
get_ends w v n t (Pod x m) (OfCaches ss) e q = cc
get_ends w v n t Locks (OfWorkflow f) e q = cc
get_ends w v n t Locks (OfPod pod) e q = cc
get_ends w v n t Locks (OfCaches ss) e q = cc
get_ends w v n t Caches (OfWorkflow f) e q = cc
get_ends w v n t Caches (OfPod pod) e q = cc
get_ends w v n t Caches (OfLocks b) e q = cc

got_ends : (w : Text) (h : Story) (v : Views) (k : Key) (r : Reply) (e : Ending) → Got h k r → faults_of r ≡ 0 → after v (get k) r ≡ ended e → e ≡ by_absence
got_ends w h v k (found x) e g z q = get_ends w v x.number x.tick k x.content e q
got_ends w h v (Pod x m) no_object e g z q = absurd cc
got_ends w h v (Workflow x) no_object e g z q = cc
got_ends w h v Locks no_object e g z q = cc
got_ends w h v Caches no_object e g z q = cc
got_ends w h v k fault e g z q = absurd (omega (arith, z))
got_ends w h v k (accepted x) e g z q = absurd g
got_ends w h v k exists e g z q = absurd g
got_ends w h v k (conflict a b) e g z q = absurd g

module _ (D : Document) (h : Story) (valid : HasValidWorkflows D) (l : IsLawful D h) (w : Text) (i : Story) (u : Views) (ran : Undisturbed D w h nothing i u) where
  is_views : ViewsOf i w u
  is_views = stays_viewed D w h nothing i u (views_stay.begin h w) ran

  -- what is there already ends no job: only a create is answered so
  exists_not : {B : Type 0} (m : Matter) (s : Seen Flow) (facts : Facts) (e : Ending) → ((change_of w u s facts m).number ≡ 0 → (x : Content) × ((change_of w u s facts m).event.made ≡ Some x)) → (change_of w u s facts m).number ≡ 0 → there u m ≡ ended e → B
  exists_not (record_fact x) s facts e makes z q = none_some (makes z).0 (makes z).1
  exists_not (file k y r) s facts e makes z q = none_some (makes z).0 (makes z).1
  exists_not (release k y) s facts e makes z q = none_some (makes z).0 (makes z).1
  exists_not (save c k y o) s facts e makes z q = none_some (makes z).0 (makes z).1
  exists_not (create p name) s facts e makes z q = absurd cc
  exists_not (submit c) s facts e makes z q = absurd cc

  still_end : (calls faults : ℕ) (g : Story) → WorkerEnds D w i u calls faults g → faults ≡ 0 → entries_in g ≡ entries_in i → StillEnd D i w u
  still_end calls faults g (by_done e) z n = as_done e
  still_end calls faults g (by_full x s e viewed t) z n = as_full s x viewed e t
  still_end calls faults g (by_get k r e next got on) z n = as_absent k r next got (on ∙ ap ended (got_ends w i u k r e got z on))
  still_end calls faults g (by_change m s facts r j e next viewed adds d on) z n = by r d z on
    where
      by : (r : Reply) → Did i (change_of w u s facts m) r g → faults_of r ≡ 0 → after u (act m) r ≡ ended e → StillEnd D i w u
      by (accepted x) d z on = not_grown g i (change_of w u s facts m).event d.grows n
      by exists d z on = exists_not m s facts e (fit_by D i w u s is_views viewed facts m (reason D w u s m viewed next)).makes d.0 on
      by (conflict a b) d z on =
          let fresh = stays_fresh D w h nothing i u (stays_lawful D w h nothing i u valid l (views_stay.begin h w) ran) (fresh_nothing h w) ran in
          absurd (no_conflict i w u fresh s viewed facts m (conflict a b) g d tt)
      by fault d z on = absurd (omega (arith, z))
      by (found x) d z on = absurd d
      by no_object d z on = absurd d

  worker_still : (calls faults : ℕ) (g : Story) → WorkerEnds D w i u calls faults g → faults ≡ 0 → g ≡ h → WorkerRan D h w
  worker_still calls faults g end z e =
      let same : i ≡ h = same_middle g i h (ends_on D w i u calls faults g end) (goes_on_from D w h nothing i u ran) (ap entries_in e) in
      let last = still_end calls faults g end z (ap entries_in (e ∙ sym same)) in
      record { views = u; ran = subst (λ k. Undisturbed D w h nothing k u) same ran; end = subst (λ k. StillEnd D k w u) same last }

flow_same : (x w : Text) → for_flow x ≡ for_flow w → x ≡ w
flow_same x w e = cc

worker_of : (D : Document) (h g : Story) (job : Given) (calls faults : ℕ) → HasValidWorkflows D → IsLawful D h → JobRan D h job calls faults g → faults ≡ 0 → g ≡ h → (w : Text) → job ≡ for_flow w → WorkerRan D h w
worker_of D h g job calls faults valid l (worker_ran x i j u last fail ran end) z e w q = subst (WorkerRan D h) (flow_same x w q) (worker_still D h valid l x i u ran last fail g end z e)
worker_of D h g job calls faults valid l (runner_missed x name r got k) z e w q = absurd cc
worker_of D h g job calls faults valid l (runner_rested x name r y got k n) z e w q = absurd cc
worker_of D h g job calls faults valid l (runner_finished x name r s y o i got k n d) z e w q = absurd cc

-- ---- a runner's

pod_shown : (h : Story) (w name : Text) (r : Reply) (x : Seen PodObject) → Got h (Pod w name) r → pod_of_reply r ≡ Some x → ShownAt h (Pod w name) x.number (OfPod x.content) x.tick
pod_shown h w name (found y) x g e = by y.content refl e
  where
    by : (c : Content) → y.content ≡ c → pod_of_reply (found (seen y.number c y.tick)) ≡ Some x → ShownAt h (Pod w name) x.number (OfPod x.content) x.tick
    by (OfPod pod) q e =
        subst (λ (z : Seen PodObject). ShownAt h (Pod w name) z.number (OfPod z.content) z.tick) (some_same (seen y.number pod y.tick) x e)
        (subst (λ c. ShownAt h (Pod w name) y.number c y.tick) q g)
    by (OfWorkflow f) q e = none_some x e
    by (OfLocks b) q e = none_some x e
    by (OfCaches ss) q e = none_some x e
pod_shown h w name no_object x g e = none_some x e
pod_shown h w name exists x g e = none_some x e
pod_shown h w name fault x g e = none_some x e
pod_shown h w name (accepted y) x g e = none_some x e
pod_shown h w name (conflict a b) x g e = none_some x e

-- a pod that stands is read
not_missed : {B : Type 0} (h : Story) (w name : Text) (pod : PodObject) (r : Reply) → pod_of h w name ≡ Some pod → Got h (Pod w name) r → faults_of r ≡ 0 → pod_of_reply r ≡ None → B
not_missed h w name pod (found y) s g z e = by y.content (sym (ap (λ o. pod_in (map_content o)) g.stood) ∙ s) e
  where
    by : {B : Type 0} (c : Content) → pod_in (Some c) ≡ Some pod → pod_of_reply (found (seen y.number c y.tick)) ≡ None → B
    by (OfPod x) q e = absurd cc
    by (OfWorkflow f) q e = none_some pod q
    by (OfLocks b) q e = none_some pod q
    by (OfCaches ss) q e = none_some pod q
not_missed h w name pod no_object s g z e = none_some pod (sym (ap (λ o. pod_in (map_content o)) g) ∙ s)
not_missed h w name pod fault s g z e = absurd (omega (arith, z))
not_missed h w name pod (accepted y) s g z e = absurd g
not_missed h w name pod exists s g z e = absurd g
not_missed h w name pod (conflict a b) s g z e = absurd g

-- an outcome that is written adds an entry
not_finished : {B : Type 0} (h g : Story) (w name : Text) (x : Seen PodObject) (o : Outcome) (r : Reply) → ShownAt h (Pod w name) x.number (OfPod x.content) x.tick → Did h (finish_change w name x o) r g → faults_of r ≡ 0 → entries_in g ≡ entries_in h → B
not_finished h g w name x o (accepted y) is d z n = not_grown g h (finish_change w name x o).event d.grows n
not_finished h g w name x o exists is d z n = absurd ((was_seen h (Pod w name) x.number (OfPod x.content) x.tick (now_version h (Pod w name) x.number (OfPod x.content) x.tick is)).some d.0)
not_finished h g w name x o (conflict a b) is d z n =
    let p : number_of (version_at apply h (Pod w name)) ≡ x.number = ap number_of is.stood in
    let q = d.1 in
    let r = d.2 in
    let s = d.3 in
    absurd (omega (arith, p, q, r, s))
not_finished h g w name x o fault is d z n = absurd (omega (arith, z))
not_finished h g w name x o (found y) is d z n = absurd d
not_finished h g w name x o no_object is d z n = absurd d

runner_of : (D : Document) (h g : Story) (job : Given) (calls faults : ℕ) → JobRan D h job calls faults g → faults ≡ 0 → g ≡ h → (w name : Text) (pod : PodObject) → job ≡ for_pod w name → pod_of h w name ≡ Some pod → RunnerRan D h w name
runner_of D h g job calls faults (worker_ran x i j u last fail ran end) z e w name pod q s = absurd cc
runner_of D h g job calls faults (runner_missed x m r got k) z e w name pod q s =
    let a : x ≡ w = cc in
    let b : m ≡ name = cc in
    not_missed h x m pod r (ap₂ (pod_of h) a b ∙ s) got z k
runner_of D h g job calls faults (runner_rested x m r y got k n) z e w name pod q s =
    let a : x ≡ w = cc in
    let b : m ≡ name = cc in
    subst (RunnerRan D h w) b (subst (λ v. RunnerRan D h v m) a record { view = y; shown = pod_shown h x m r y got k; rests = n })
runner_of D h g job calls faults (runner_finished x m r t y o i got k n d) z e w name pod q s =
    not_finished h g x m y o t (pod_shown h x m r y got k) d z (ap entries_in e)

-- ---- the last round

module _ (D : Document) (h : Story) (valid : HasValidWorkflows D) (l : IsLawful D h) (calls : ℕ) (ran : JobsRan D h (jobs_of h) calls 0 h) where
  abbrev workers : List Given
  workers = filter_map (λ (e : Event Content). submitted_by e.entry) h.events

  abbrev runners : List Given
  runners = filter_map (λ (e : Event Content). created_by h e.entry) h.events

  has_worker : (w : Text) (f : Flow) → HasFlow h w f → Among (for_flow w) (jobs_of h)
  has_worker w f s =
      let m = flows_made D h l w f s in
      among_left workers runners (for_flow w) (among_filter (λ (e : Event Content). submitted_by e.entry) h.events m.by (for_flow w) m.place (ap submitted_by m.makes.is))

  has_runner : (w name : Text) (pod : PodObject) → pod_of h w name ≡ Some pod → pod.outcome ≡ None → Among (for_pod w name) (jobs_of h)
  has_runner w name pod s u =
      let m = pods_made D h l w name pod s in
      let unfinished : if_unfinished (for_pod w name) (Some pod) ≡ Some (for_pod w name) = ap (λ (o : Option Outcome). elim o [ None ↦ Some (for_pod w name) | Some x ↦ None ]) u in
      among_right workers runners (for_pod w name) (among_filter (λ (e : Event Content). created_by h e.entry) h.events m.by (for_pod w name) m.place
      (ap (created_by h) m.makes.is ∙ ap (if_unfinished (for_pod w name)) s ∙ unfinished))

  pub was_still : StillRound D h
  was_still = record {
    workers = λ w f s. let j = jobs_still D h h (jobs_of h) calls 0 ran refl refl (for_flow w) (has_worker w f s) in worker_of D h h (for_flow w) j.0 0 valid l j.1 refl refl w refl;
    runners = λ w name pod s u. let j = jobs_still D h h (jobs_of h) calls 0 ran refl refl (for_pod w name) (has_runner w name pod s u) in runner_of D h h (for_pod w name) j.0 0 j.1 refl refl w name pod refl s;
  }

quiet_by : (D : Document) (h g : Story) (rounds faults : ℕ) → HasValidWorkflows D → IsLawful D h → RunRan D h rounds faults g → IsLawful D g × IsQuiet D g
quiet_by D h g rounds faults valid l (last_round {calls = calls} ran none) =
    (l, record { idle = still_round_is_idle D h l (was_still D h valid l calls ran); no_next = subst (IsNext D h) none (next_tick_is_next D h l) })
quiet_by D h g rounds faults valid l (next_round {i = i} {calls = calls} {faults = fails} {rounds = more} {fail = fail} ran some rest) =
    quiet_by D i g more fail valid (jobs_end D h i (jobs_of h) calls fails valid l ran).lawful rest
quiet_by D h g rounds faults valid l (then_ticks {rounds = more} {fail = fail} t ran e rest) = quiet_by D (grown h (tick_event t)) g more fail valid (tick_lawful D h t l e) rest
quiet_by D h g rounds faults valid l (tick_fails {rounds = more} {fail = fail} t ran e rest) = quiet_by D h g more fail valid l rest

pub run_ends_quiet : RunEndsQuiet
run_ends_quiet = quiet_by
