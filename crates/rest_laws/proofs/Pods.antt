-- Why a pod waits until its planned end.
use Rattle.std.proofs.Common.{◌≡◌, ℕ, ◌≤◌, ◌<◌, le_trans, true, false, cond, nat_lt, nat_le, refl, sym, ◌∙◌, ap, subst, Option, Some, None, arith}
use Rattle.std.specs.Prelude.{option_to_list}
use Rattle.std.proofs.lemmas.Bool.Decides.{nat_tests}
use Rattle.tree_types.specs.declared.outcome.Outcome.{Outcome}
use Rattle.tree_types.specs.declared.entry.Key.TheVariants as of_key
use Rattle.meaning.specs.Lines.{later}
use Rattle.history.specs.History.{Event, Extends, clock_of, grown, version_at}
use Rattle.history.proofs.Extends.{extends_grown, lawful-grown}
use Rattle.history.proofs.Carrying.{clock_rises}
use Rattle.law.specs.Documents.{Text, PlannedOutcome, ended_by, Document}
use Rattle.law.specs.Contents.{PodObject, OfPod, begun_pod, apply, Story, pod_of}
use Rattle.law.specs.Justified.{Justified, IsLawful}
use Rattle.lawful.proofs.Changes.{pod_found, PodChange, same_pod, created, ended_now, pod_change}
use Rattle.lawful.proofs.Facts.{none_some, some_none}
use Rattle.lawful.proofs.IsAsSaid.{by_lawful}
use Rattle.lawful.proofs.Moments.{pod_later}
use Rattle.lawful.proofs.Still.{ticks_rise}
use Rattle.next_step.specs.Views.{Seen}
use Rattle.next_step.specs.Replies.{found, seen}
use Rattle.next_step.specs.Runner.{finish, not_due, by_plan, by_outcome}
use Rattle.next_step.specs.Calls.{Got}
use Rattle.next_step.specs.Plays.{EndsJob}
use Rattle.next_step.specs.Hands.{for_pod}
use Rattle.next_step.specs.Rounds.{if_unfinished, runner_rested}
use Rattle.next_step.specs.Ticks.{pod_end, planned_end, unfinished_end}
use Rattle.run_laws.specs.Whole.{went, Ran}
use Rattle.run_laws.proofs.Pods.{if_open}
use Rattle.rest_laws.specs.Pods.{end_from, EndsAt, is_ahead, PodsWait}

stays : (D : Document) (h g : Story) (w name : Text) (end : Option ℕ) → Extends g h → IsLawful D g → EndsAt D h w name end → EndsAt D g w name end
stays D h g w name end on l e =
    let x = pod_later D g h w name e.pod on l e.stands in
    record { pod = x.now; stands = x.stands; planned = e.planned ∙ ap (λ begin. end_from begin (D.planned w name)) (sym x.begin) }

-- ---- a runner's job before the end

not_yet : (now at : ℕ) → nat_lt now at ≡ true → nat_le at now ≡ false
not_yet now at t = grind (arith, nat_tests)

module _ (D : Document) (h : Story) (w name : Text) (end : Option ℕ) (e : EndsAt D h w name end) (ahead : is_ahead (clock_of h) end ≡ true) where
  view : ℕ → Seen PodObject
  view n = seen n e.pod (clock_of h)

  plan_rests : (n : ℕ) (o : Option PlannedOutcome) → is_ahead (clock_of h) (end_from e.pod.begin o) ≡ true → EndsJob (by_plan (seen n e.pod (clock_of h)) o)
  plan_rests n None t = tt
  plan_rests n (Some plan) t =
      subst (λ b. EndsJob (cond b (finish (ended_by plan e.pod.begin (clock_of h))) (not_due (later e.pod.begin plan.seconds))))
      (sym (not_yet (clock_of h) (later e.pod.begin plan.seconds) t)) tt

  rests : (n : ℕ) (o : Option Outcome) → EndsJob (by_outcome D w name (seen n e.pod (clock_of h)) o)
  rests n (Some o) = tt
  rests n None = plan_rests n (D.planned w name) (ap (is_ahead (clock_of h)) (sym e.planned) ∙ ahead)

  idle : Ran D h (for_pod w name) went h
  idle =
      let v = pod_found (version_at apply h (of_key.Pod w name)) e.pod e.stands in
      let n = v.version.number in
      let shown : version_at apply h (of_key.Pod w name) ≡ Some record { number = n; content = OfPod e.pod } = v.is ∙ ap (λ c. Some record { number = n; content = c }) v.content in
      let got : Got h (of_key.Pod w name) (found (seen n (OfPod e.pod) (clock_of h))) = record { stood = shown; clock = refl } in
      record {
        calls = 1;
        faults = 0;
        ran = runner_rested w name (found (seen n (OfPod e.pod) (clock_of h))) (seen n e.pod (clock_of h)) got refl (rests n e.pod.outcome);
        is_told = refl;
      }

-- ---- what has ended has reached its end

record Reached (D : Document) (h : Story) (w name : Text) (pod : PodObject) : Type 0 where
  plan : PlannedOutcome
  planned : D.planned w name ≡ Some plan
  reached : later pod.begin plan.seconds ≤ clock_of h

abbrev AllReached : Document → Story → Type 0
AllReached D h = (w name : Text) (pod : PodObject) (o : Outcome) → pod_of h w name ≡ Some pod → pod.outcome ≡ Some o → Reached D h w name pod

module _ (D : Document) where
  reached_grown : (k : Story) (e : Event _) → IsLawful D k → Justified D k e → AllReached D k → AllReached D (grown k e)
  reached_grown k e l j ih w name pod o s out = by (pod_change D k w name pod e j s)
    where
      on : clock_of k ≤ clock_of (grown k e)
      on = clock_rises (Justified D) (ticks_rise D) (grown k e) k (extends_grown k e) (lawful-grown (Justified D) k e l.each j)

      by : PodChange D k e w name pod → Reached D (grown k e) w name pod
      by (same_pod q) = let r = ih w name pod o q out in record { plan = r.plan; planned = r.planned; reached = le_trans r.reached on }
      by (created p t q cj m) =
          let is : begun_pod p t ≡ pod = (let r : Some (OfPod (begun_pod p t)) ≡ Some (OfPod pod) = sym cj.content ∙ m in cc) in
          some_none o (sym out ∙ ap (λ (x : PodObject). x.outcome) (sym is))
      by (ended_now x q fj is) =
          let now : x.finish ≡ clock_of fj.ticked.moment = fj.ticked.holds.now in
          let up : clock_of fj.ticked.moment ≤ clock_of k = clock_rises (Justified D) (ticks_rise D) k fj.ticked.moment fj.ticked.extends l.each in
          let due = fj.due in
          record {
            plan = fj.plan;
            planned = fj.planned;
            reached = subst (λ b. later b fj.plan.seconds ≤ clock_of (grown k e)) (ap (λ (y : PodObject). y.begin) (sym is)) (le_trans due (le_trans (subst (λ n. n ≤ clock_of k) (sym now) up) on));
          }

  all_reached : (h : Story) → IsLawful D h → AllReached D h
  all_reached h l = by_lawful D (AllReached D) reached_grown (λ w name pod o s out. none_some pod s) h l

passed : {B : Type 0} (now at : ℕ) → nat_lt now at ≡ true → at ≤ now → B
passed now at t l = absurd (let b : now < at = grind (arith, nat_tests) in omega (arith, b, l))

module _ (D : Document) (h : Story) (w name : Text) (end : Option ℕ) (e : EndsAt D h w name end) where
  unfinished : IsLawful D h → is_ahead (clock_of h) end ≡ true → if_unfinished (for_pod w name) (pod_of h w name) ≡ Some (for_pod w name)
  unfinished l ahead = ap (if_unfinished (for_pod w name)) e.stands ∙ by e.pod.outcome refl
    where
      by : (o : Option Outcome) → e.pod.outcome ≡ o → if_open (for_pod w name) o ≡ Some (for_pod w name)
      by None q = refl
      by (Some o) q =
          let r = all_reached D h l w name e.pod o e.stands q in
          let at : end ≡ Some (later e.pod.begin r.plan.seconds) = e.planned ∙ ap (end_from e.pod.begin) r.planned in
          passed (clock_of h) (later e.pod.begin r.plan.seconds) (ap (is_ahead (clock_of h)) (sym at) ∙ ahead) r.reached

  next : if_unfinished (for_pod w name) (pod_of h w name) ≡ Some (for_pod w name) → pod_end (D.planned w name) (pod_of h w name) ≡ option_to_list end
  next waits = ap (pod_end (D.planned w name)) e.stands ∙ by e.pod.outcome refl ∙ ap option_to_list (sym e.planned)
    where
      plan : (o : Option PlannedOutcome) → planned_end e.pod o ≡ option_to_list (end_from e.pod.begin o)
      plan None = refl
      plan (Some p) = refl

      by : (o : Option Outcome) → e.pod.outcome ≡ o → unfinished_end e.pod (D.planned w name) o ≡ option_to_list (end_from e.pod.begin (D.planned w name))
      by None q = plan (D.planned w name)
      by (Some o) q = none_some (for_pod w name) (sym (ap (if_unfinished (for_pod w name)) e.stands ∙ ap (if_open (for_pod w name)) q) ∙ waits)

pub pods_wait : PodsWait
pods_wait = record {
  stays = stays;
  idle = λ D h w name end e ahead. idle D h w name end e ahead;
  unfinished = λ D h w name end l e ahead. unfinished D h w name end e l ahead;
  next = λ D h w name end e waits. next D h w name end e waits;
}
