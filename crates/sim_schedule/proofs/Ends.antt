-- The ends of pods, job by job, and the jobs that wait for them.
use Rattle.std.proofs.Common.{◌≡◌, ℕ, zero, suc, ◌<◌, Bool, true, false, cond, List, [], ◌∷◌, ◌++◌, append-nil, length, get_or, map, filter_map, refl, sym, ◌∙◌, ap, ap₂, subst, Option, Some, None, is_none, arith}
use Rattle.std.specs.Prelude.{option_to_list}
use Rattle.std.specs.List.{cons_option}
use Rattle.std.proofs.lemmas.List.{map-append}
use Rattle.std.proofs.lemmas.List.Elements.{filter_map-append}
use Rattle.tree_types.specs.declared.outcome.Outcome.{Outcome}
use Rattle.tree_types.specs.declared.entry.Entry.{Entry}
use Rattle.tree_types.specs.declared.entry.Entry.TheVariants.{Submit, Write, Create, Finish, File, Release, Save, Tick}
use Rattle.history.specs.History.{Event, Extends}
use Rattle.law.specs.Documents.{Text, Document}
use Rattle.law.specs.Contents.{PodObject, Content, Story, pod_of}
use Rattle.law.specs.Justified.{IsLawful}
use Rattle.lawful.proofs.Facts.{some_same, none_some}
use Rattle.next_step.specs.Hands.{Given, for_flow, for_pod}
use Rattle.next_step.specs.Rounds.{if_unfinished, submitted_by, created_by}
use Rattle.run_laws.specs.Pods.{still_open}
use Rattle.run_laws.proofs.Pods.{if_open}
use Rattle.rest_laws.specs.Pods.{PodsWait}
use Rattle.sim_schedule.specs.declared.jobs.Job.{Job}
use Rattle.sim_schedule.specs.declared.jobs.Job.TheVariants.{Workflow, Pod}
use Rattle.sim_schedule.specs.declared.roster.Roster.{Roster}
use Rattle.sim_schedule.specs.Inside.Jobs.{given, is_unfinished, is_open, if_left, KnowsEnd, KnowsEnds, AreLeft, IsWaiting, Waits, AllWait}
use Rattle.sim_schedule.specs.Inside.Rosters.{IsOf}

module _ (D : Document) (h : Story) where
  -- behind others
  pub knows_more : (js : List Job) (j : Job) → KnowsEnds D h js → KnowsEnd D h j → KnowsEnds D h (js ++ j ∷ [])
  knows_more [] j k e = (e, tt)
  knows_more (i ∷ js) j k e = (k.0, knows_more js j k.1 e)

  pub knows_one : (js : List Job) (i : ℕ) (j : Job) → i < length js → j ≡ get_or js i j → KnowsEnds D h js → KnowsEnd D h j
  knows_one [] i j b e k = absurd (omega (arith, b))
  knows_one (x ∷ js) zero j b e k = subst (KnowsEnd D h) (sym e) k.0
  knows_one (x ∷ js) (suc i) j b e k = knows_one js i j (omega (arith, b)) e k.1

-- they stay as a history goes on
module _ (law : PodsWait) (D : Document) (h g : Story) (on : Extends g h) (l : IsLawful D g) where
  pub end_stays : (j : Job) → KnowsEnd D h j → KnowsEnd D g j
  end_stays (Workflow w) k = tt
  end_stays (Pod w name end) k = law.stays D h g w name end on l k

  pub ends_stay : (js : List Job) → KnowsEnds D h js → KnowsEnds D g js
  ends_stay [] k = tt
  ends_stay (j ∷ js) k = (end_stays j k.0, ends_stay js k.1)

-- ---- the jobs that are left

module _ (D : Document) (h : Story) where
  pub first_ends : (js : List Job) (j : Job) → KnowsEnds D h (js ++ j ∷ []) → KnowsEnds D h js × KnowsEnd D h j
  first_ends [] j k = (tt, k.0)
  first_ends (i ∷ js) j k = let r = first_ends js j k.1 in ((k.0, r.0), r.1)

  pub left_none : AreLeft D h [] []
  left_none = record { jobs = refl; ends = tt }

  left_by : (js left : List Job) (j : Job) (b : Bool) (new : List Job) → AreLeft D h js left → KnowsEnd D h j → if_left b (given j) ≡ still_open h (given j) → new ≡ cond b (left ++ j ∷ []) left → AreLeft D h (js ++ j ∷ []) new
  left_by js left j b new a k e is = record { jobs = jobs b e is; ends = ends b is }
    where
      one : (o : Option Given) → cons_option o [] ≡ option_to_list o
      one None = refl
      one (Some x) = refl

      behind : filter_map (λ j. still_open h (given j)) (js ++ j ∷ []) ≡ map given left ++ option_to_list (still_open h (given j))
      behind = filter_map-append (λ (x : Job). still_open h (given x)) js (j ∷ []) ∙ ap₂ (λ (xs ys : List Given). xs ++ ys) (sym a.jobs) (one (still_open h (given j)))

      jobs : (b : Bool) → if_left b (given j) ≡ still_open h (given j) → new ≡ cond b (left ++ j ∷ []) left → map given new ≡ filter_map (λ j. still_open h (given j)) (js ++ j ∷ [])
      jobs true e is = ap (map given) is ∙ map-append given left (j ∷ []) ∙ ap (λ o. map given left ++ option_to_list o) e ∙ sym behind
      jobs false e is = ap (map given) is ∙ sym (append-nil (map given left)) ∙ ap (λ o. map given left ++ option_to_list o) e ∙ sym behind

      ends : (b : Bool) → new ≡ cond b (left ++ j ∷ []) left → KnowsEnds D h new
      ends true is = subst (KnowsEnds D h) (sym is) (knows_more D h left j a.ends k)
      ends false is = subst (KnowsEnds D h) (sym is) a.ends

  pub one_left : (js left : List Job) (j : Job) (b : Bool) (new : List Job) → (KnowsEnds D h js → AreLeft D h js left) → (KnowsEnd D h j → if_left b (given j) ≡ still_open h (given j)) → new ≡ cond b (left ++ j ∷ []) left → KnowsEnds D h (js ++ j ∷ []) → AreLeft D h (js ++ j ∷ []) new
  one_left js left j b new a e is k = let s = first_ends js j k in left_by js left j b new (a s.0) s.1 (e s.1) is

-- a pod that has not ended leaves its job
pub open_left : (h : Story) (w name : Text) (b : Bool) → b ≡ is_open h w name → if_left b (for_pod w name) ≡ if_unfinished (for_pod w name) (pod_of h w name)
open_left h w name b e = ap (λ x. if_left x (for_pod w name)) e ∙ by (pod_of h w name)
  where
    outcome : (o : Option Outcome) → if_left (is_none o) (for_pod w name) ≡ if_open (for_pod w name) o
    outcome None = refl
    outcome (Some x) = refl

    by : (o : Option PodObject) → if_left (is_unfinished o) (for_pod w name) ≡ if_unfinished (for_pod w name) o
    by None = refl
    by (Some pod) = outcome pod.outcome

-- ---- the jobs of a round wait

unfinished_is : (job j : Given) (o : Option PodObject) → if_unfinished job o ≡ Some j → job ≡ j
unfinished_is job j None e = none_some j e
unfinished_is job j (Some pod) e = by pod.outcome e
  where
    by : (o : Option Outcome) → if_open job o ≡ Some j → job ≡ j
    by None e = some_same job j e
    by (Some x) e = none_some j e

module _ (D : Document) (h : Story) where
  abbrev AllWaiting : List Given → Type 0
  AllWaiting [] = Unit {0}
  AllWaiting (g ∷ gs) = IsWaiting h g × AllWaiting gs

  waiting_with : (o : Option Given) (gs : List Given) → ((g : Given) → o ≡ Some g → IsWaiting h g) → AllWaiting gs → AllWaiting (cons_option o gs)
  waiting_with None gs is all = all
  waiting_with (Some g) gs is all = (is g refl, all)

  created_waits : (e : Entry) (g : Given) → created_by h e ≡ Some g → IsWaiting h g
  created_waits (Create w name p t) g q =
      let is = unfinished_is (for_pod w name) g (pod_of h w name) q in
      subst (IsWaiting h) is (q ∙ ap Some (sym is))
  created_waits (Submit w old facts) g q = none_some g q
  created_waits (Write w n facts) g q = none_some g q
  created_waits (Finish w n o) g q = none_some g q
  created_waits (File k y r) g q = none_some g q
  created_waits (Release k y) g q = none_some g q
  created_waits (Save c y w o t) g q = none_some g q
  created_waits (Tick t) g q = none_some g q

  all_created : (es : List (Event Content)) → AllWaiting (filter_map (λ e. created_by h e.entry) es)
  all_created [] = tt
  all_created (e ∷ es) = waiting_with (created_by h e.entry) (filter_map (λ (x : Event Content). created_by h x.entry) es) (created_waits e.entry) (all_created es)

  waits_by : (js : List Job) → KnowsEnds D h js → AllWaiting (map given js) → AllWait D h js
  waits_by [] k a = tt
  waits_by (j ∷ js) k a = ((k.0, a.0), waits_by js k.1 a.1)

  -- the runners' jobs, whose pods have not ended
  pub pods_all_wait : (r : Roster) → IsOf h r → KnowsEnds D h r.pods → AllWait D h r.pods
  pods_all_wait r is k = waits_by r.pods k (subst AllWaiting (sym is.pods) (all_created h.events))

  abbrev OnlyFlows : List Given → Type 0
  OnlyFlows [] = Unit {0}
  OnlyFlows (for_flow w ∷ gs) = OnlyFlows gs
  OnlyFlows (for_pod w name ∷ gs) = ⊥

  only_with : (e : Entry) (gs : List Given) → OnlyFlows gs → OnlyFlows (cons_option (submitted_by e) gs)
  only_with (Submit w old facts) gs o = o
  only_with (Write w n facts) gs o = o
  only_with (Create w n p t) gs o = o
  only_with (Finish w n x) gs o = o
  only_with (File k y r) gs o = o
  only_with (Release k y) gs o = o
  only_with (Save c y w x t) gs o = o
  only_with (Tick t) gs o = o

  all_submitted : (es : List (Event Content)) → OnlyFlows (filter_map (λ e. submitted_by e.entry) es)
  all_submitted [] = tt
  all_submitted (e ∷ es) = only_with e.entry (filter_map (λ (x : Event Content). submitted_by x.entry) es) (all_submitted es)

  flows_by : (js : List Job) → OnlyFlows (map given js) → AllWait D h js
  flows_by [] o = tt
  flows_by (Workflow w ∷ js) o = ((tt, tt), flows_by js o)
  flows_by (Pod w name end ∷ js) o = absurd o

  -- and the workers'
  pub flows_all_wait : (r : Roster) → IsOf h r → AllWait D h r.workflows
  flows_all_wait r is = flows_by r.workflows (subst OnlyFlows (sym is.workflows) (all_submitted h.events))

  pub wait_at : (js : List Job) (i : ℕ) (j : Job) → i < length js → j ≡ get_or js i j → AllWait D h js → Waits D h j
  wait_at [] i j b e k = absurd (omega (arith, b))
  wait_at (x ∷ js) zero j b e k = subst (Waits D h) (sym e) k.0
  wait_at (x ∷ js) (suc i) j b e k = wait_at js i j (omega (arith, b)) e k.1

  pub flow_ends : (js : List Job) → AllWait D h js → KnowsEnds D h js
  flow_ends [] a = tt
  flow_ends (j ∷ js) a = (a.0.0, flow_ends js a.1)
