-- One submission, and all of them.
use Rattle.std.proofs.Common.{◌≡◌, ℕ, suc, ◌+◌, ◌<◌, List, [], ◌∷◌, length, drop, get_or, drop-cons, add-one, Bool, false, refl, sym, ◌∙◌, ap, subst, Option, Some, None, Result, Ok, Err, zero, arith, inl, inr}
use Rattle.tree_types.specs.declared.entry.Key.TheVariants as of_key
use Rattle.tree_types.specs.declared.entry.Entry.TheVariants.{Submit, Tick}
use Rattle.wf_manifest.specs.declared.manifest.Manifest.{Manifest}
use Rattle.growth.specs.Growth.{Among}
use Rattle.history.specs.History.{event, Version, Extends, grown, clock_of, version_at, number_of}
use Rattle.history.proofs.Extends.{extends_itself, extends_grown, extends_later, lawful-grown}
use Rattle.object_store.specs.declared.snapshot.Snapshot.{Snapshot}
use Rattle.object_store.specs.declared.refused.StoreRefused.{StoreRefused}
use Rattle.object_store.specs.Answers.{CreateGives, TickGives, Adds}
use Rattle.meaning.specs.Answers.{Facts}
use Rattle.law.specs.Documents.{Text, Document}
use Rattle.law.specs.Due.{IsPaced}
use Rattle.lawful.specs.Manifests.{HasValidWorkflows}
use Rattle.next_step.specs.Ticks.{next_tick}
use Rattle.next_step.specs.Rounds.{jobs_of, entries_in}
use Rattle.run_laws.specs.Rounds.{JobsDone}
use Rattle.run_laws.specs.Fulls.{JobsKeepPace, RoundIsStill}
use Rattle.next_laws.specs.Ends.{RunsKeepPace}
use Rattle.law.specs.Contents.{Content, OfWorkflow, flow, apply, Story}
use Rattle.law.specs.Justified.{IsLawful, Justified}
use Rattle.lawful.specs.Still.{SubmittedStill}
use Rattle.store_client.specs.Calls.{StaysLawful}
use Rattle.wf_bundle.specs.declared.document.Document.{Document as Read}
use Rattle.wf_object.specs.Documents.{law_of}
use Rattle.wf_object.specs.Kept.{begins, justified}
use Rattle.run_laws.specs.Submissions.{submission}
use Rattle.sim_schedule.specs.Sweeping.{GoesOn, KeepsPace, NamesNone, with_submission, with_submissions, IsOver, Swept, SweepGives}
use Rattle.sim_schedule.specs.Inside.Turns.{EndGives}
use Rattle.sim_schedule.specs.declared.end.RunEnd.{RunEnd}
use Rattle.sim_schedule.specs.declared.end.RunEnd.TheVariants.{StoreFault, TooLarge, Memory as OutOfMemory}

pub stays : (D : Document) (h g : Story) → g ≡ h → GoesOn D h g
stays D h g e = subst (GoesOn D h) (sym e) record { later = extends_itself h; lawful = λ l. l }

pub on : (D : Document) (h g k : Story) → GoesOn D h g → GoesOn D g k → GoesOn D h k
on D h g k a b = record { later = extends_later k g h b.later a.later; lawful = λ l. b.lawful (a.lawful l) }

none_number : (o : Option (Version Content)) → o ≡ None → number_of o ≡ 0
none_number o e = ap number_of e

grows : (D : Document) (h : Story) (m : Manifest) → SubmittedStill → Among m D.workflows → version_at apply h (of_key.Workflow m.name) ≡ None → GoesOn D h (grown h (submission m))
grows D h m still given absent = record {
  later = extends_grown h (submission m);
  lawful = λ l. record {
    start = l.start;
    each = lawful-grown (Justified D) h (submission m) l.each (still D h m given h (extends_itself h) l.each (ap number_of absent));
  };
}

module _ (D : Document) (h g : Story) (m : Manifest) (c : Content) (is : c ≡ OfWorkflow (flow m [])) where
  created_as : SubmittedStill → Among m D.workflows → (clock : ℕ) (r : Result (Snapshot Content) StoreRefused) → CreateGives (of_key.Workflow m.name) c clock (version_at apply h (of_key.Workflow m.name)) r → Adds h (event (Submit m.name None []) (Some c)) r g → GoesOn D h g
  created_as still given clock (Ok s) gives adds =
      subst (GoesOn D h) (sym (adds ∙ ap (λ x. grown h (event (Submit m.name None []) (Some x))) is)) (grows D h m still given gives.0)
  created_as still given clock (Err e) gives adds = stays D h g adds

  -- under equal names
  pub created_on : SubmittedStill → Among m D.workflows → (clock : ℕ) (r : Result (Snapshot Content) StoreRefused) (n w : Text) (facts : Facts) → n ≡ m.name → w ≡ m.name → facts ≡ [] → CreateGives (of_key.Workflow n) c clock (version_at apply h (of_key.Workflow n)) r → Adds h (event (Submit w None facts) (Some c)) r g → GoesOn D h g
  created_on still given clock r n w facts ne we fe gives adds =
      created_as still given clock r (subst (λ x. CreateGives (of_key.Workflow x) c clock (version_at apply h (of_key.Workflow x)) r) ne gives)
      (subst (λ x. Adds h (event (Submit x None []) (Some c)) r g) we (subst (λ x. Adds h (event (Submit w None x) (Some c)) r g) fe adds))

-- ---- a tick

module _ (D : Document) (h g : Story) (t clock : ℕ) (at : clock ≡ clock_of h) where
  pub ticked_on : (r : Result Unit StoreRefused) → TickGives t clock r → Adds h (event (Tick t) None) r g → GoesOn D h g
  ticked_on (Ok x) gives adds = subst (GoesOn D h) (sym adds) record {
    later = extends_grown h (event (Tick t) None);
    lawful = λ l. record { start = l.start; each = lawful-grown (Justified D) h (event (Tick t) None) l.each (refl, subst (λ k. k < t) at gives) };
  }
  ticked_on (Err e) gives adds = stays D h g adds

  pub ticked_pace : (law : JobsKeepPace) (full : List Text) → HasValidWorkflows D → next_tick D h ≡ Some t → IsLawful D h → JobsDone D h (jobs_of h) h full false → (r : Result Unit StoreRefused) → Adds h (event (Tick t) None) r g → KeepsPace D h g
  ticked_pace law full valid next l done (Ok x) adds n paced = subst (IsPaced D n) (sym adds) (law.tick D h full t n valid l done next paced)
  ticked_pace law full valid next l done (Err e) adds n paced = subst (IsPaced D n) (sym adds) paced

-- what some calls of a client leave
pub client_on : (D E : Read) (h k g : Story) → E ≡ D → k ≡ h → Extends g k → StaysLawful begins justified E k g → GoesOn (law_of D) h g
client_on D E h k g same from later lawful =
    let moved : GoesOn (law_of E) k g = record {
      later = later;
      lawful = λ l. let m = lawful record { start = l.start; each = l.each } in record { start = m.start; each = m.each };
    } in
    subst (λ x. GoesOn (law_of x) h g) same (subst (λ x. GoesOn (law_of E) x g) from moved)

-- ---- all workflows

pub among_at : {A : Type 0} (xs : List A) (i : ℕ) (d : A) → i < length xs → Among (get_or xs i d) xs
among_at [] i d below = absurd (omega (arith, below))
among_at (x ∷ xs) zero d below = inl refl
among_at (x ∷ xs) (suc i) d below = inr (among_at xs i d (omega (arith, below)))

-- one workflow more is submitted
pub one_submitted : (start old new : Story) (ms : List Manifest) (i : ℕ) (m : Manifest) → i < length ms → m ≡ get_or ms i m → with_submissions old (drop i ms) ≡ with_submissions start ms → new ≡ with_submission old m → with_submissions new (drop (i + 1) ms) ≡ with_submissions start ms
one_submitted start old new ms i m below is before e =
    let split : drop i ms ≡ m ∷ drop (suc i) ms = drop-cons ms i m below ∙ ap (λ (x : Manifest). x ∷ drop (suc i) ms) (sym is) in
    rw add-one (ap (λ h. with_submissions h (drop (suc i) ms)) e ∙ ap (with_submissions old) (sym split) ∙ before)

-- ---- after a round

-- where no entry came and no call failed, the round is one of the history as it is
pub still_done : RoundIsStill → (D : Document) (h g : Story) (full : List Text) (failed : Bool) → HasValidWorkflows D → IsLawful D h → JobsDone D h (jobs_of h) g full failed → failed ≡ false → entries_in g ≡ entries_in h → JobsDone D g (jobs_of g) g full false
still_done law D h g full failed valid lawful done none same =
    let clean : JobsDone D h (jobs_of h) g full false = subst (JobsDone D h (jobs_of h) g full) none done in
    let end = law D h g full valid lawful clean same in
    subst (λ k. JobsDone D k (jobs_of k) g full false) (sym end.same) clean

pub still_same : RoundIsStill → (D : Document) (h g : Story) (full : List Text) (failed : Bool) → HasValidWorkflows D → IsLawful D h → JobsDone D h (jobs_of h) g full failed → failed ≡ false → entries_in g ≡ entries_in h → g ≡ h
still_same law D h g full failed valid lawful done none entries =
    let end = law D h g full valid lawful (subst (JobsDone D h (jobs_of h) g full) none done) entries in
    end.same

-- ---- the end

pub swept_by : (D : Document) (h g : Story) (full : List Text) (r : Result Unit RunEnd) → EndGives full r → Swept D h g full → SweepGives D h r g
swept_by D h g full (Ok x) end swept = subst (Swept D h g) end swept
swept_by D h g full (Err (TooLarge names)) end swept =
    (subst (Swept D h g) (sym end.0) swept, λ none. end.1 (sym end.0 ∙ none))
swept_by D h g full (Err StoreFault) end swept = tt
swept_by D h g full (Err OutOfMemory) end swept = tt

-- what a run keeps from its submissions on
pub record Kept (D : Document) (h g : Story) : Type 0 where
  pub later : Extends g (with_submissions h D.workflows)
  pub paced : IsPaced D (entries_in (with_submissions h D.workflows)) g

pub kept_first : RunsKeepPace → (D : Document) (h g : Story) → g ≡ with_submissions h D.workflows → Kept D h g
kept_first law D h g e =
    subst (Kept D h) (sym e) record {
      later = extends_itself (with_submissions h D.workflows);
      paced = law.begin D (with_submissions h D.workflows);
    }

pub kept_on : (D : Document) (h g k : Story) → GoesOn D g k → KeepsPace D g k → Kept D h g → Kept D h k
kept_on D h g k on pace kept = record {
  later = extends_later k g (with_submissions h D.workflows) on.later kept.later;
  paced = pace (entries_in (with_submissions h D.workflows)) kept.paced;
}

pub kept_end : (D : Document) (h g : Story) (full : List Text) → Kept D h g → IsOver D g full → Swept D h g full
kept_end D h g full kept over = record { later = kept.later; paced = kept.paced; over = over }

pub early : (D : Document) (h g : Story) (r : Result Unit RunEnd) (e : RunEnd) → r ≡ Err e → NamesNone (let x : Result Unit RunEnd = Err e in x) → SweepGives D h r g
early D h g r (TooLarge full) is none = absurd none
early D h g r StoreFault is none = subst (λ x. SweepGives D h x g) (sym is) tt
early D h g r OutOfMemory is none = subst (λ x. SweepGives D h x g) (sym is) tt
