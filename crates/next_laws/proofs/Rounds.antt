-- Why a job that nobody disturbs goes well, and why a round in which no entry came leaves the state idle.
use Rattle.std.proofs.Common.{◌≡◌, ◌⊎◌, inl, inr, ℕ, ◌<◌, Bool, true, false, cond, nat_le, List, [], ◌∷◌, refl, sym, ◌∙◌, ap, subst, Option, Some, None, arith}
use Rattle.std.proofs.lemmas.Bool.Decides.{nat_tests}
use Rattle.tree_types.specs.declared.fact.Fact.{Fact}
use Rattle.tree_types.specs.declared.entry.Key.{Key}
use Rattle.meaning.specs.Lines.{later}
use Rattle.history.specs.History.{map_content, clock_of}
use Rattle.law.specs.Documents.{Text, PlannedOutcome, ended_by, Document}
use Rattle.law.specs.Contents.{Flow, PodObject, Story, flow_in, pod_in, HasFlow}
use Rattle.law.specs.Justified.{IsLawful}
use Rattle.law.specs.Due.{Matter, record_fact, due_of, IsTooLarge, IsFullBy, IsFull, PodDueAt}
use Rattle.lawful.proofs.Facts.{some_same, none_some}
use Rattle.next_step.specs.Views.{Seen, Views, nothing, head}
use Rattle.next_step.specs.Next.{get, act, done, next_by, worker_next}
use Rattle.next_step.specs.Replies.{Reply, found, accepted, no_object, exists, conflict, fault, ended, by_absence, by_refusal, after}
use Rattle.next_step.specs.Runner.{finish, not_due, due_at, by_plan, by_outcome, runner_next}
use Rattle.next_step.specs.Calls.{Got}
use Rattle.next_step.specs.Plays.{EndsJob}
use Rattle.next_laws.specs.Fresh.{Fresh, NextIs}
use Rattle.next_laws.specs.Jobs.{UndisturbedGoesWell, StillEnd, as_done, as_full, as_absent, WorkerRan, RunnerRan, StillRound, StillRoundIsIdle}
use Rattle.next_laws.proofs.Agreeing.{fresh_acts_are_due}
use Rattle.next_laws.proofs.Gets.{OwnKey, own_key}
use Rattle.next_laws.proofs.Going.{not_ended, get_goes}
use Rattle.next_laws.proofs.Viewing.{views_stay}
use Rattle.next_laws.proofs.StayingLawful.{stays_lawful}
use Rattle.next_laws.proofs.Keeping.{no_conflict, stays_fresh, fresh_nothing}

no_head : {A : Type 0} (xs : List A) → head xs ≡ None → xs ≡ []
no_head [] e = refl
no_head (x ∷ xs) e = absurd cc

done_due : (D : Document) (w : Text) (g : Story) (u : Views) (s : Seen Flow) → IsLawful D g → Fresh g w u → worker_next D w u ≡ done → u.flow ≡ Some s → due_of D g w s.content ≡ []
done_due D w g u s l fresh e viewed = no_head (due_of D g w s.content) (subst (λ n. NextIs g n (head (due_of D g w s.content))) e (fresh_acts_are_due D g w u s l fresh viewed))

pub undisturbed_goes_well : UndisturbedGoesWell
undisturbed_goes_well D w h g u valid begun ran =
    let l = stays_lawful D w h nothing g u valid begun (views_stay.begin h w) ran in
    let fresh = stays_fresh D w h nothing g u l (fresh_nothing h w) ran in
    record {
      lawful = l;
      fresh = fresh;
      no_conflict = λ m s facts r i e viewed d c. no_conflict g w u fresh s viewed facts m r i d c;
      nothing_due = λ s e viewed. done_due D w g u s l fresh e viewed;
    }

-- ---- what stands is not absent

refused : {B : Type 0} → ended by_refusal ≡ ended by_absence → B
refused q = absurd cc

module _ (D : Document) (h : Story) (l : IsLawful D h) (w : Text) (f : Flow) (s : HasFlow h w f) where
  not_absent : (v : Views) (k : Key) (r : Reply) → OwnKey w k → Got h k r → after v (get k) r ≡ ended by_absence → ⊥
  not_absent v k fault own g q = refused q
  not_absent v k (found x) own g q = not_ended (after v (get k) (found x)) by_absence (get_goes D h l w f s v k (found x) own g refl) q
  not_absent v k no_object own g q = not_ended (after v (get k) no_object) by_absence (get_goes D h l w f s v k no_object own g refl) q
  not_absent v k (accepted x) own g q = absurd g
  not_absent v k exists own g q = absurd g
  not_absent v k (conflict a b) own g q = absurd g

-- ---- workers

pub viewed_at : (D : Document) (w : Text) (v : Views) (o : Option (Seen Flow)) → v.flow ≡ o → next_by D w v o ≡ done → (s : Seen Flow) × (v.flow ≡ Some s)
viewed_at D w v None e q = absurd cc
viewed_at D w v (Some s) e q = (s, e)

pub full_by : (f : Flow) (x : Fact) (ms : List Matter) → head ms ≡ Some (record_fact x) → IsTooLarge f x → IsFullBy f ms
full_by f x [] e t = none_some (record_fact x) e
full_by f x (m ∷ ms) e t = subst (λ y. IsFullBy f (y ∷ ms)) (sym (some_same m (record_fact x) e)) t

pub first_due : (h : Story) (x : Fact) (o : Option Matter) → NextIs h (act (record_fact x)) o → o ≡ Some (record_fact x)
first_due h x o (inl e) = e
first_due h x o (inr k) = absurd k

worker_idle : (D : Document) (h : Story) → IsLawful D h → (w : Text) (f : Flow) → HasFlow h w f → WorkerRan D h w → (due_of D h w f ≡ []) ⊎ IsFull D h w f
worker_idle D h l w f st r = by r.end
  where
    fresh : Fresh h w r.views
    fresh = stays_fresh D w h nothing h r.views l (fresh_nothing h w) r.ran

    same : (s : Seen Flow) → r.views.flow ≡ Some s → s.content ≡ f
    same s e = some_same s.content f (sym (ap (λ o. flow_in (map_content o)) (fresh.flow s e).stood) ∙ st)

    by : StillEnd D h w r.views → (due_of D h w f ≡ []) ⊎ IsFull D h w f
    by (as_done e) =
        let s = viewed_at D w r.views r.views.flow refl e in
        inl (subst (λ g. due_of D h w g ≡ []) (same s.0 s.1) (done_due D w h r.views s.0 l fresh e s.1))
    by (as_full s x q e t) =
        let n = subst (λ n. NextIs h n (head (due_of D h w s.content))) e (fresh_acts_are_due D h w r.views s l fresh q) in
        inr (subst (λ g. IsFull D h w g) (same s q) (full_by s.content x (due_of D h w s.content) (first_due h x (head (due_of D h w s.content)) n) t))
    by (as_absent k y e g q) = absurd (not_absent D h l w f st r.views k y (own_key D w r.views k e) g q)

-- ---- runners

is_later : (a b : ℕ) → nat_le a b ≡ false → b < a
is_later a b h = grind (arith, nat_tests)

rests_later : (D : Document) (w name : Text) (x : Seen PodObject) (p : PlannedOutcome) → x.content.outcome ≡ None → D.planned w name ≡ Some p → EndsJob (runner_next D w name (Some x)) → x.tick < due_at x p
rests_later D w name x p u q r = by (nat_le (due_at x p) x.tick) refl (subst (λ o. EndsJob (by_plan x o)) q (subst (λ o. EndsJob (by_outcome D w name x o)) u r))
  where
    by : (b : Bool) → nat_le (due_at x p) x.tick ≡ b → EndsJob (cond b (finish (ended_by p x.content.begin x.tick)) (not_due (due_at x p))) → x.tick < due_at x p
    by true t r = absurd r
    by false t r = is_later (due_at x p) x.tick t

pod_idle : (D : Document) (h : Story) → StillRound D h → (t : ℕ) → PodDueAt D h t → clock_of h < t
pod_idle D h r t p = by (r.runners p.workflow p.name p.pod p.stands p.unfinished)
  where
    by : RunnerRan D h p.workflow p.name → clock_of h < t
    by e =
        let same : e.view.content ≡ p.pod = some_same e.view.content p.pod (sym (ap (λ o. pod_in (map_content o)) e.shown.stood) ∙ p.stands) in
        let l = rests_later D p.workflow p.name e.view p.plan (ap (λ (x : PodObject). x.outcome) same ∙ p.unfinished) p.planned e.rests in
        subst (λ x. x < t) (sym e.shown.clock) (subst (λ y. e.view.tick < y) (ap (λ (x : PodObject). later x.begin p.plan.seconds) same ∙ sym p.at) l)

pub still_round_is_idle : StillRoundIsIdle
still_round_is_idle D h l r = record {
  flows = λ w f s. worker_idle D h l w f s (r.workers w f s);
  pods = pod_idle D h r;
}
