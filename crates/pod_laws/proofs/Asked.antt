-- What is asked for is asked for on until it is answered, and nothing twice: so the number of pods tells which are new.
use Rattle.std.proofs.Common.{◌≡◌, ◌+◌, ◌≤◌, Bool, true, false, cond, List, [], ◌∷◌, ◌++◌, length, Option, Some, None, refl, sym, ap, ◌∙◌, inl, inr, arith}
use Rattle.tree_types.specs.declared.path.Path.{Path}
use Rattle.tree_types.specs.declared.outcome.Outcome.{Outcome}
use Rattle.tree_types.specs.declared.fact.Fact.{Fact}
use Rattle.tree_types.specs.declared.fact.Fact.TheVariants.{Started, Settled, Carried, Granted, Memo, Armed, Due, Resumed, Begun}
use Rattle.tree_types.specs.declared.want.Want.{Want}
use Rattle.tree_types.specs.declared.want.Want.TheVariants as want
use Rattle.tree_types.specs.Places.{sels_eq}
use Rattle.tree_types.specs.Journals.{is_alike}
use Rattle.tree_types.proofs.Sels.{sels_same}
use Rattle.wf_manifest.specs.declared.manifest.Manifest.{Manifest}
use Rattle.meaning.specs.Answers.{path, Sels, Facts, first_or, first_of, settled_in, carried_in, armed_in, outcome_of, outcome_at, answers}
use Rattle.meaning.specs.Trees.{wants}
use Rattle.growth.specs.Growth.{Among, SaysMore, IsFair, KeepsTicks, Unanswered}
use Rattle.growth.proofs.Journals.{first_stays, one_says_more, last_known}
use Rattle.askings.proofs.AsksOn.{on_by_answers}
use Rattle.askings.proofs.AsksOnce.{asks_once}
use Rattle.askings.proofs.HasNode.{pods_are_new}
use Rattle.tree_state.specs.declared.kinds.WantKind.{WantKind}
use Rattle.tree_state.specs.declared.kinds.WantKind.TheVariants.{Pod}
use Rattle.tree_state.specs.Finding.{pods_in}
use Rattle.pod_laws.specs.NewPods.{pods, NoneNew, OneNew, IsAnswer, NoneNewByCount, OneNewByCount}
use Rattle.pod_laws.proofs.Few.{Distinct, none_new, one_new}
use Rattle.pod_laws.proofs.OfKind.{those, want_of, of_kind, is_kind, distinct}

pub pod_of : (p : Path) (ws : List Want) → Among (want.Pod p) ws → Among (want.Pod p) (pods_in ws)
pod_of p ws h = of_kind Pod (want.Pod p) ws refl h

-- ---- one fact more

-- a last fact that a reading does not read changes nothing of it
unread : {X : Type 0} (read : Fact → Option X) (J : Facts) (f : Fact) → read f ≡ None → first_of read (J ++ f ∷ []) ≡ first_of read J
unread read [] f e = ap (λ o. first_or o None) e
unread read (k ∷ J) f e = ap (first_or (read k)) (unread read J f e)

module _ (m : Manifest) (J : Facts) where
  asked_is_new : (p : Path) → Among (want.Pod p) (pods m J) → (first_of (settled_in p.sels) J ≡ None) × (first_of (carried_in p.sels) J ≡ None)
  asked_is_new p h = pods_are_new m J p (want_of Pod (want.Pod p) (wants m J) h)

  not_carried : (f : Fact) → IsAnswer m J f → (p : Sels) (x : Outcome) → first_of (carried_in p) J ≡ Some x → settled_in p f ≡ None
  not_carried Started a p x c = refl
  not_carried (Carried q o) a p x c = absurd a
  not_carried (Granted q) a p x c = refl
  not_carried (Memo q o) a p x c = refl
  not_carried (Armed q t) a p x c = refl
  not_carried (Due q) a p x c = refl
  not_carried (Resumed q) a p x c = refl
  not_carried (Begun q) a p x c = absurd a
  not_carried (Settled q o) a p x c = by (sels_eq q.sels p) refl
    where
      by : (b : Bool) → sels_eq q.sels p ≡ b → settled_in p (Settled q o) ≡ None
      by false e = ap (λ (b : Bool). cond b (Some o) None) e
      by true e =
          let same : first_of (carried_in p) J ≡ None = ap (λ (s : Sels). first_of (carried_in s) J) (sym (sels_same q.sels p e)) ∙ (asked_is_new q a).1 in
          absurd (cc (sym c ∙ same))

  pub says_more : (f : Fact) → IsAnswer m J f → SaysMore (answers J) (answers (J ++ f ∷ []))
  says_more f a = one_says_more J f (not_carried f a)

  begins_none : (f : Fact) → IsAnswer m J f → (p : Path) → is_alike f (Begun p) ≡ false
  begins_none Started a p = refl
  begins_none (Settled q o) a p = refl
  begins_none (Carried q o) a p = absurd a
  begins_none (Granted q) a p = refl
  begins_none (Memo q o) a p = refl
  begins_none (Armed q t) a p = refl
  begins_none (Due q) a p = refl
  begins_none (Resumed q) a p = refl
  begins_none (Begun q) a p = absurd a

  pub is_fair : (f : Fact) → IsAnswer m J f → IsFair m (answers J) (answers (J ++ f ∷ []))
  is_fair f a p new = absurd (cc (sym (last_known (Begun (path p)) J f new.0 new.1) ∙ begins_none f a (path p)))

  ticks : (f : Fact) → KeepsTicks (answers J) (answers (J ++ f ∷ []))
  ticks f p t e = first_stays (armed_in p) J (f ∷ []) t e

  -- what the fact does not answer is asked for on
  pub on : (k : WantKind) (f : Fact) → IsAnswer m J f → (w : Want) → Among w (those k (wants m J)) → Unanswered (answers (J ++ f ∷ [])) w →
      Among w (those k (wants m (J ++ f ∷ [])))
  on k f a w h unanswered =
      of_kind k w (wants m (J ++ f ∷ [])) (is_kind k w (wants m J) h)
      (on_by_answers m (answers J) (answers (J ++ f ∷ [])) w (says_more f a) (ticks f) (is_fair f a) (want_of k w (wants m J) h) unanswered)

  pub apart : (k : WantKind) → Distinct (those k (wants m J))
  apart k = distinct k (wants m J) (asks_once m (answers J))

  -- ---- pods

  -- one that the fact does not settle is asked for on
  pod_on : (f : Fact) → IsAnswer m J f → (p : Path) → Among (want.Pod p) (pods m J) → settled_in p.sels f ≡ None → carried_in p.sels f ≡ None →
      Among (want.Pod p) (pods m (J ++ f ∷ []))
  pod_on f a p h s c =
      let new = asked_is_new p h in
      let none : outcome_at (J ++ f ∷ []) p.sels ≡ None =
      (λ i. outcome_of (unread (settled_in p.sels) J f s i) (unread (carried_in p.sels) J f c i)) ∙ (λ i. outcome_of (new.0 i) (new.1 i)) in
      on Pod f a (want.Pod p) h (λ place e. ap (outcome_at (J ++ f ∷ [])) e ∙ none)

  -- the pods of before are asked for on, but for those that these are
  abbrev pub Stay : Fact → List Want → Type 0
  Stay f ws = (p : Path) → Among (want.Pod p) (pods m J) → Among (want.Pod p) ws

  pub stay : (f : Fact) → IsAnswer m J f → ((p : Path) → settled_in p.sels f ≡ None) → ((p : Path) → carried_in p.sels f ≡ None) → Stay f (pods m (J ++ f ∷ []))
  stay f a s c p h = pod_on f a p h (s p) (c p)

  pub stay_but : (q : Path) (o : Outcome) → IsAnswer m J (Settled q o) → Stay (Settled q o) (want.Pod q ∷ pods m (J ++ Settled q o ∷ []))
  stay_but q o a p h = by (sels_eq q.sels p.sels) refl
    where
      by : (b : Bool) → sels_eq q.sels p.sels ≡ b → Among (want.Pod p) (want.Pod q ∷ pods m (J ++ Settled q o ∷ []))
      by true e = inl (ap (λ (s : Sels). want.Pod (path s)) (sels_same q.sels p.sels e))
      by false e = inr (pod_on (Settled q o) a p h (ap (λ (b : Bool). cond b (Some o) None) e) refl)

  -- all that are asked for are pods
  pub all_stay : (f : Fact) (ws : List Want) → Stay f ws → (w : Want) → Among w (pods m J) → Among w ws
  all_stay f ws s (want.Pod p) h = s p h
  all_stay f ws s (want.Lock p l) h = absurd (cc (is_kind Pod (want.Lock p l) (wants m J) h))
  all_stay f ws s (want.LookUp p c k g) h = absurd (cc (is_kind Pod (want.LookUp p c k g) (wants m J) h))
  all_stay f ws s (want.Arming p) h = absurd (cc (is_kind Pod (want.Arming p) (wants m J) h))
  all_stay f ws s (want.Timer p t) h = absurd (cc (is_kind Pod (want.Timer p t) (wants m J) h))
  all_stay f ws s (want.Save p c k o) h = absurd (cc (is_kind Pod (want.Save p c k o) (wants m J) h))

  -- ---- counted

  module _ (f : Fact) (s : Stay f (pods m (J ++ f ∷ []))) where
    none_by : length (pods m (J ++ f ∷ [])) ≤ length (pods m J) → NoneNew (pods m (J ++ f ∷ [])) (pods m J)
    none_by few w h = none_new (pods m J) (pods m (J ++ f ∷ [])) (apart Pod) (all_stay f (pods m (J ++ f ∷ [])) s) few w h

    one_by : length (pods m (J ++ f ∷ [])) ≤ length (pods m J) + 1 → OneNew (pods m (J ++ f ∷ [])) (pods m J)
    one_by few v w hv hw nv nw = one_new (pods m J) (pods m (J ++ f ∷ [])) (apart Pod) (all_stay f (pods m (J ++ f ∷ [])) s) few v w hv hw nv nw

pub none_new_by_count : NoneNewByCount
none_new_by_count m J (Settled q o) a few =
    let f = Settled q o in
    λ w h. none_new (pods m J) (want.Pod q ∷ pods m (J ++ f ∷ [])) (apart m J Pod) (all_stay m J f (want.Pod q ∷ pods m (J ++ f ∷ [])) (stay_but m J q o a)) (omega (arith, few)) w (inr h)
none_new_by_count m J (Carried q o) a few = absurd a
none_new_by_count m J (Begun q) a few = absurd a
none_new_by_count m J Started a few = none_by m J Started (stay m J Started a (λ p. refl) (λ p. refl)) (omega (arith, few))
none_new_by_count m J (Granted q) a few = none_by m J (Granted q) (stay m J (Granted q) a (λ p. refl) (λ p. refl)) (omega (arith, few))
none_new_by_count m J (Memo q o) a few = none_by m J (Memo q o) (stay m J (Memo q o) a (λ p. refl) (λ p. refl)) (omega (arith, few))
none_new_by_count m J (Armed q t) a few = none_by m J (Armed q t) (stay m J (Armed q t) a (λ p. refl) (λ p. refl)) (omega (arith, few))
none_new_by_count m J (Due q) a few = none_by m J (Due q) (stay m J (Due q) a (λ p. refl) (λ p. refl)) (omega (arith, few))
none_new_by_count m J (Resumed q) a few = none_by m J (Resumed q) (stay m J (Resumed q) a (λ p. refl) (λ p. refl)) (omega (arith, few))

pub one_new_by_count : OneNewByCount
one_new_by_count m J (Settled q o) a few =
    let f = Settled q o in
    λ v w hv hw nv nw. one_new (pods m J) (want.Pod q ∷ pods m (J ++ f ∷ [])) (apart m J Pod) (all_stay m J f (want.Pod q ∷ pods m (J ++ f ∷ [])) (stay_but m J q o a)) (omega (arith, few)) v w (inr hv) (inr hw) nv nw
one_new_by_count m J (Carried q o) a few = absurd a
one_new_by_count m J (Begun q) a few = absurd a
one_new_by_count m J Started a few = one_by m J Started (stay m J Started a (λ p. refl) (λ p. refl)) (omega (arith, few))
one_new_by_count m J (Granted q) a few = one_by m J (Granted q) (stay m J (Granted q) a (λ p. refl) (λ p. refl)) (omega (arith, few))
one_new_by_count m J (Memo q o) a few = one_by m J (Memo q o) (stay m J (Memo q o) a (λ p. refl) (λ p. refl)) (omega (arith, few))
one_new_by_count m J (Armed q t) a few = one_by m J (Armed q t) (stay m J (Armed q t) a (λ p. refl) (λ p. refl)) (omega (arith, few))
one_new_by_count m J (Due q) a few = one_by m J (Due q) (stay m J (Due q) a (λ p. refl) (λ p. refl)) (omega (arith, few))
one_new_by_count m J (Resumed q) a few = one_by m J (Resumed q) (stay m J (Resumed q) a (λ p. refl) (λ p. refl)) (omega (arith, few))
