-- What is known of the workflows at rest, as a history goes on.
use Rattle.std.proofs.Common.{◌≡◌, ◌⊎◌, inl, inr, ℕ, ◌+◌, ◌-◌, ◌<◌, ◌≤◌, Bool, true, false, cond, ◌&&◌, ◌||◌, nat_lt, nat_le, bytes_eq, List, [], ◌∷◌, length, map, take, drop, get_or, Option, Some, None, is_some, refl, sym, ◌∙◌, ap, ap₂, subst, true≢false, arith}
use Rattle.std.proofs.Math.Seq.{take-length}
use Rattle.std.proofs.lemmas.List.Folds.{list_any_more}
use Rattle.std.specs.Prelude.{IsTrue}
use Rattle.std.specs.List.{list_any}
use Rattle.std.proofs.lemmas.Bool.Decides.{nat_tests}
use Rattle.std.proofs.lemmas.List.{length-map}
use Rattle.tree_types.specs.declared.entry.Entry.{Entry}
use Rattle.history.specs.History.{Event, Extends, clock_of}
use Rattle.history.proofs.Extends.{extends_itself, extends_later}
use Rattle.history.proofs.Keys.{bytes_eq-true, bytes_eq-refl}
use Rattle.law.specs.Documents.{Text, Command, Document}
use Rattle.law.specs.Contents.{Content, Story, flow_of}
use Rattle.law.specs.Justified.{IsLawful}
use Rattle.lawful.specs.Manifests.{HasValidWorkflows}
use Rattle.lawful.proofs.Journals.{lawful_then}
use Rattle.next_step.specs.Hands.{Given, for_flow}
use Rattle.next_step.specs.Ticks.{timers, least_above}
use Rattle.next_step.specs.Rounds.{entries_in}
use Rattle.run_laws.specs.Pods.{followed}
use Rattle.run_laws.specs.Whole.{went, Ran}
use Rattle.run_laws.proofs.StillRounds.{same_story}
use Rattle.rest_laws.specs.Rest.{Rests, IsAsleep, WorkflowsRest, concerns, concerned, falls_between}
use Rattle.sim_schedule.specs.declared.resting.Resting.{Resting}
use Rattle.sim_schedule.specs.Inside.Restings.{rests_in, sleeps_in, RestsNone, Wakes, WakesAll, MovesOn, NoTimerAhead, Notes, KnowsNow, KnowsRest}
use Rattle.sim_schedule.proofs.Later as later

none_in : {B : Type 0} (w : Text) (ks : List Text) → ks ≡ [] → IsTrue (list_any (bytes_eq w) ks) → B
none_in w ks e t = absurd (true≢false (sym t ∙ ap (list_any (bytes_eq w)) e))

-- where the clock stands no command falls due
never_between : (t : ℕ) (cs : List Command) → list_any (falls_between t t) cs ≡ false
never_between t [] = refl
never_between t (c ∷ cs) = ap (λ b. b || list_any (falls_between t t) cs) (apart t _) ∙ never_between t cs
  where
    apart : (t u : ℕ) → (nat_lt t u && nat_le u t) ≡ false
    apart t u = grind (arith, nat_tests)

-- and what rests goes on to
pub stood : (clock : ℕ) (commands : List Command) (r : Resting) → clock ≡ r.clock → MovesOn clock commands r r
stood clock commands r e = record {
  seen = refl;
  clock = sym e;
  rest = λ name t. (t, e);
  sleep = λ name t. (t, ap (λ n. list_any (falls_between r.clock n) commands) e ∙ never_between r.clock commands);
}

-- ---- one change of what is kept

apart_back : (a b : Text) → bytes_eq a b ≡ false → bytes_eq b a ≡ false
apart_back a b e = by (bytes_eq b a) refl
  where
    by : (x : Bool) → bytes_eq b a ≡ x → x ≡ false
    by false q = refl
    by true q = absurd (true≢false (sym (subst (λ c. bytes_eq a c ≡ true) (sym (bytes_eq-true b a q)) (bytes_eq-refl a)) ∙ e))

-- a name that is left was there, and is another than the one that was removed
pub left_in : (w name : Text) (old new : Bool) → new ≡ cond (bytes_eq w name) false old → IsTrue new → IsTrue old × (bytes_eq name w ≡ false)
left_in w name old new e t = by (bytes_eq w name) refl (sym e ∙ t)
  where
    by : (b : Bool) → bytes_eq w name ≡ b → cond b false old ≡ true → IsTrue old × (bytes_eq name w ≡ false)
    by true q r = absurd (true≢false (sym r))
    by false q r = (r, apart_back w name q)

-- a name that is there was there, or was added
pub added_in : (w name : Text) (old new : Bool) → new ≡ cond (bytes_eq w name) true old → IsTrue new → IsTrue old ⊎ (w ≡ name)
added_in w name old new e t = by (bytes_eq w name) refl (sym e ∙ t)
  where
    by : (b : Bool) → bytes_eq w name ≡ b → cond b true old ≡ true → IsTrue old ⊎ (w ≡ name)
    by true q r = inr (bytes_eq-true w name q)
    by false q r = inl r

-- so the workflow of a job that is noted
pub noted_in : {A : Type 0} (job : Given) (w name : Text) → job ≡ for_flow w → A ⊎ (w ≡ name) → A ⊎ (job ≡ for_flow name)
noted_in job w name is (inl a) = inl a
noted_in job w name is (inr e) = inr (is ∙ ap for_flow e)

no_tick : (o : Option ℕ) (b : Bool) → b ≡ is_some o → b ≡ false → o ≡ None
no_tick None b e f = refl
no_tick (Some t) b e f = absurd (true≢false (sym e ∙ f))

pub asleep_in : {A : Type 0} (h : Story) (job : Given) (w name : Text) (o : Option ℕ) (b : Bool) → job ≡ for_flow w → o ≡ least_above (clock_of h) (timers (flow_of h w)) → b ≡ is_some o → b ≡ false → A ⊎ (w ≡ name) → A ⊎ ((job ≡ for_flow name) × NoTimerAhead h name)
asleep_in h job w name o b is t e f (inl a) = inl a
asleep_in h job w name o b is t e f (inr q) = inr (is ∙ ap for_flow q, subst (NoTimerAhead h) q (sym t ∙ no_tick o b e f))

any_mapped : {A B : Type 0} (p : B → Bool) (f : A → B) (xs : List A) → list_any p (map f xs) ≡ list_any (λ x. p (f x)) xs
any_mapped p f [] = refl
any_mapped p f (x ∷ xs) = ap (λ b. p (f x) || b) (any_mapped p f xs)

-- the clock moved: those that rested until then are gone, and the others where a command's tick was passed
pub moved : {C : Type 0} (now : ℕ) (f : C → Command) (cs : List C) (old new : Resting) (any : Bool) → new.names.keys ≡ [] → new.seen ≡ old.seen → new.clock ≡ now → any ≡ list_any (λ c. falls_between old.clock now (f c)) cs → (any ≡ true → new.asleep.keys ≡ []) → (any ≡ false → new.asleep.keys ≡ old.asleep.keys) → MovesOn now (map f cs) old new
moved now f cs old new any names seen clock is woken kept = record {
  seen = seen;
  clock = clock;
  rest = λ name t. none_in name new.names.keys names t;
  sleep = λ name t. by any refl name t;
}
  where
    by : (b : Bool) → any ≡ b → (name : Text) → IsTrue (sleeps_in name new) → IsTrue (sleeps_in name old) × (list_any (falls_between old.clock now) (map f cs) ≡ false)
    by true q name t = none_in name new.asleep.keys (woken q) t
    by false q name t = (subst (λ (ks : List Text). IsTrue (list_any (bytes_eq name) ks)) (kept q) t, any_mapped (falls_between old.clock now) f cs ∙ sym is ∙ q)

-- what concerns one workflow wakes it
pub woken : (w : Text) (e : Entry) (old new : Resting) → ((name : Text) → concerns name e ≡ bytes_eq name w) → Wakes w old new → WakesAll (e ∷ []) old new
woken w e old new is x = record {
  sight = x.sight;
  rest = λ name t. let y = x.rest name t in (y.0, ap (λ b. b || false) (is name ∙ y.1));
  sleep = λ name t. let y = x.sleep name t in (y.0, ap (λ b. b || false) (is name ∙ y.1));
}

pub wakes_none : (r : Resting) → WakesAll [] r r
wakes_none r = record { sight = record { seen = refl; clock = refl }; rest = λ name t. (t, refl); sleep = λ name t. (t, refl) }

neither : (a b : Bool) → a ≡ false → b ≡ false → (a || b) ≡ false
neither a b e q = ap₂ (λ x y. x || y) e q

first_of_two : (a : Bool) → (a || false) ≡ false → a ≡ false
first_of_two false e = refl
first_of_two true e = absurd (true≢false e)

pub wakes_next : (es : List Entry) (i : ℕ) (e : Entry) (old mid new : Resting) → i < length es → e ≡ get_or es i e → WakesAll (take i es) old mid → WakesAll (e ∷ []) mid new → WakesAll (take (i + 1) es) old new
wakes_next es i e old mid new below is a b = record {
  sight = record { seen = b.sight.seen ∙ a.sight.seen; clock = b.sight.clock ∙ a.sight.clock };
  rest = λ name t. let y = b.rest name t in let x = a.rest name y.0 in (x.0, more name x.1 y.1);
  sleep = λ name t. let y = b.sleep name t in let x = a.sleep name y.0 in (x.0, more name x.1 y.1);
}
  where
    more : (name : Text) → list_any (concerns name) (take i es) ≡ false → list_any (concerns name) (e ∷ []) ≡ false → list_any (concerns name) (take (i + 1) es) ≡ false
    more name x y =
        list_any_more (concerns name) es i e below
        ∙ neither (list_any (concerns name) (take i es)) (concerns name (get_or es i e)) x
        (ap (concerns name) (sym is) ∙ first_of_two (concerns name e) y)

pub wakes_to_end : (es : List Entry) (i : ℕ) (old new : Resting) → length es ≤ i → i ≤ length es → WakesAll (take i es) old new → WakesAll es old new
wakes_to_end es i old new above below x =
    let at_end : i ≡ length es = omega (arith, above, below) in
    subst (λ (ds : List Entry). WakesAll ds old new) (ap (λ k. take k es) at_end ∙ take-length es) x

module _ (D : Document) where
  pub knows_later : (h g : Story) (r : Resting) → Extends g h → KnowsRest D h r → KnowsRest D g r
  knows_later h g r on k = record { at = k.at; later = extends_later g h k.at on k.later; known = k.known }

  pub knows_at : (h : Story) (r : Resting) → KnowsNow D h r → KnowsRest D h r
  knows_at h r k = record { at = h; later = extends_itself h; known = k }

  pub within : (h : Story) (r : Resting) → KnowsRest D h r → r.seen ≤ length h.events
  within h r k = later.within h k.at r.seen k.later k.known.seen

  -- none rests at the start
  pub knows_none : (h : Story) (r : Resting) → RestsNone r → KnowsRest D h r
  knows_none h r n = record {
    at = record { start = h.start; events = [] };
    later = record { same_start = refl; rest = h.events; goes_on = refl };
    known = record {
      seen = n.seen;
      clock = n.clock;
      rest = λ w valid l t. none_in w r.names.keys n.names t;
      sleep = λ w valid l t. none_in w r.asleep.keys n.asleep t;
    };
  }

  -- those that rest still do, but for those that the new entries concern, and those that the clock or a command wakes
  pub followed_now : WorkflowsRest → (h : Story) (old mid moved : Resting) (es : List Entry) → es ≡ map (λ e. e.entry) h.events → WakesAll (take (length es - old.seen) (drop old.seen es)) old mid → (clock : ℕ) → clock ≡ clock_of h → MovesOn clock D.commands mid moved → KnowsRest D h old → KnowsNow D h (record moved { seen = length es })
  followed_now law h old mid moved es e wakes clock now moves k = record {
    seen = ap length e ∙ length-map h.events (λ (x : Event Content). x.entry);
    clock = moves.clock ∙ now;
    rest = rests;
    sleep = sleeps;
  }
    where
      new : (w : Text) → list_any (concerns w) (take (length es - old.seen) (drop old.seen es)) ≡ false → concerned w k.later.rest ≡ false
      new w x = ap (list_any (concerns w)) (sym (later.new_entries h k.at old.seen k.later k.known.seen es e)) ∙ x

      is : h ≡ followed k.at k.later.rest
      is = later.same h k.at old.seen k.later k.known.seen

      -- where the clock stood then
      then : mid.clock ≡ clock_of k.at
      then = wakes.sight.clock ∙ k.known.clock

      rests : (w : Text) → HasValidWorkflows D → IsLawful D h → IsTrue (rests_in w moved) → Rests D h w
      rests w valid l t =
          let m = moves.rest w t in
          let x = wakes.rest w m.0 in
          subst (λ g. Rests D g w) (sym is)
          (law.stays D k.at w k.later.rest (subst (IsLawful D) is l) (new w x.1)
          (ap clock_of (sym is) ∙ sym now ∙ m.1 ∙ then)
          (k.known.rest w valid (lawful_then D h k.at k.later l) x.0))

      sleeps : (w : Text) → HasValidWorkflows D → IsLawful D h → IsTrue (sleeps_in w moved) → IsAsleep D h w
      sleeps w valid l t =
          let m = moves.sleep w t in
          let x = wakes.sleep w m.0 in
          subst (λ g. IsAsleep D g w) (sym is)
          (law.sleeps_on D k.at w k.later.rest (subst (IsLawful D) is l) (new w x.1)
          (ap (λ n. list_any (falls_between n (clock_of (followed k.at k.later.rest))) D.commands) (sym then) ∙ ap (λ n. list_any (falls_between mid.clock n) D.commands) (ap clock_of (sym is) ∙ sym now) ∙ m.1)
          (k.known.sleep w valid (lawful_then D h k.at k.later l) x.0))

  -- and the workflow of a job that found nothing to do
  pub noted : WorkflowsRest → (h g : Story) (job : Given) (old new : Resting) → KnowsNow D h old → Notes g job old new → Extends g h → entries_in g ≡ entries_in h → (IsLawful D h → Ran D h job went g) → KnowsNow D g new
  noted law h g job old new k notes on e ran = record {
    seen = notes.sight.seen ∙ k.seen ∙ sym e;
    clock = notes.sight.clock ∙ k.clock ∙ ap clock_of (sym same);
    rest = λ w valid l t. rests w valid l (notes.rest w t);
    sleep = λ w valid l t. sleeps w valid l (notes.sleep w t);
  }
    where
      same : g ≡ h
      same = same_story g h on e

      begun : IsLawful D g → IsLawful D h
      begun l = lawful_then D g h on l

      newly : (w : Text) → HasValidWorkflows D → IsLawful D g → job ≡ for_flow w → Rests D g w
      newly w valid l is = law.rests D h g w valid (begun l) (subst (λ (j : Given). Ran D h j went g) is (ran (begun l))) e

      rests : (w : Text) → HasValidWorkflows D → IsLawful D g → IsTrue (rests_in w old) ⊎ (job ≡ for_flow w) → Rests D g w
      rests w valid l (inl t) = subst (λ x. Rests D x w) (sym same) (k.rest w valid (begun l) t)
      rests w valid l (inr is) = newly w valid l is

      sleeps : (w : Text) → HasValidWorkflows D → IsLawful D g → IsTrue (sleeps_in w old) ⊎ ((job ≡ for_flow w) × NoTimerAhead g w) → IsAsleep D g w
      sleeps w valid l (inl t) = subst (λ x. IsAsleep D x w) (sym same) (k.sleep w valid (begun l) t)
      sleeps w valid l (inr x) = law.sleeps D g w x.1 (newly w valid l x.0)
