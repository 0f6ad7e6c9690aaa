-- The submissions of a document over a new store.
use Rattle.std.proofs.Common.{◌≡◌, ◌⊎◌, inl, inr, ◌∙◌, ℕ, length, List, [], ◌∷◌, ◌++◌, ap, refl, sym, subst, append_assoc, append-nil, Bool, false, Result, Ok, Err}
use Rattle.std.specs.Prelude.{is_some}
use Rattle.std.proofs.lemmas.List.{length-map}
use Rattle.wf_manifest.specs.declared.manifest.Manifest.{Manifest}
use Rattle.history.specs.History.{Extends, grown}
use Rattle.history.proofs.Extends.{extends_later}
use Rattle.law.specs.Documents.{Document}
use Rattle.law.specs.Contents.{Story}
use Rattle.law.specs.Justified.{IsLawful}
use Rattle.law.specs.Due.{IsPaced}
use Rattle.next_laws.specs.Playing.{PlaysLawfully}
use Rattle.next_step.specs.Plays.{stage}
use Rattle.lawful.specs.Laws.{MeetsOnce, StateIsAsSaid}
use Rattle.lawful.proofs.Journals.{lawful_then}
use Rattle.next_step.specs.Rounds.{entries_in}
use Rattle.object_store.specs.Stored.{most_faults}
use Rattle.plain_laws.specs.PlainTrees.{PlainRunsAsPlanned}
use Rattle.run_laws.specs.Submissions.{NamesDiffer, SubmissionsGoWell, begun, submission}
use Rattle.sim_schedule.specs.Sweeping.{has_workflow, with_submission, with_submissions, GoesOn, Swept, SweepGives}
use Rattle.sim_schedule.specs.declared.end.RunEnd.{RunEnd}
use Rattle.sim_schedule.specs.declared.end.RunEnd.TheVariants.{StoreFault, TooLarge, Memory}
use Rattle.wf_bundle.specs.declared.document.Document.{Document as Read}
use Rattle.wf_object.specs.Documents.{law_of}
use Rattle.command_words.specs.declared.order.Mode.{Mode}
use Rattle.command_words.specs.declared.order.Mode.TheVariants as mode
use Rattle.sim_schedule.specs.Simulating.{steps_of, hands_of, Followed, Simulated, SimulationGives}
use Rattle.wf_program.specs.Runs.{Kept, Promised, Ran, RanBySchedule, RanIn}
use Rattle.wf_program.specs.Inside.Ends.{EndedSo}

-- a mode without a schedule
abbrev pub Plain : Mode → Type 0
Plain mode.Simulate = ⊥
Plain _ = Unit {0}

pub plain_by : (m : Mode) → (m ≡ mode.Run) ⊎ ((m ≡ mode.Check) ⊎ (m ≡ mode.Generate)) → Plain m
plain_by m (inl is) = subst Plain (sym is) tt
plain_by m (inr (inl is)) = subst Plain (sym is) tt
plain_by m (inr (inr is)) = subst Plain (sym is) tt

module _ (go_well : SubmissionsGoWell) (D : Document) where
  by_look : (h : Story) (m : Manifest) (b : Bool) → has_workflow h m ≡ b → b ≡ false → with_submission h m ≡ grown h (submission m)
  by_look h m b e lacks = rw (e ∙ lacks) refl

  next : (ms ls : List Manifest) (m : Manifest) → NamesDiffer (ms ++ m ∷ ls) → with_submission (begun D ms) m ≡ begun D (ms ++ m ∷ [])
  next ms ls m differ = by_look (begun D ms) m (has_workflow (begun D ms) m) refl (ap is_some (go_well.absent D ms ls m differ)) ∙ go_well.grows D ms m

  submitted_from : (ms ls : List Manifest) → NamesDiffer (ms ++ ls) → with_submissions (begun D ms) ls ≡ begun D (ms ++ ls)
  submitted_from ms [] differ = ap (begun D) (sym (append-nil ms))
  submitted_from ms (m ∷ ls) differ =
      let P : List Manifest → Type 0 = NamesDiffer in
      ap (λ h. with_submissions h ls) (next ms ls m differ)
      ∙ submitted_from (ms ++ m ∷ []) ls (subst P (sym (append_assoc ms (m ∷ []) ls)) differ)
      ∙ ap (begun D) (append_assoc ms (m ∷ []) ls)

  pub all_submitted : (ms : List Manifest) → NamesDiffer ms → with_submissions (begun D []) ms ≡ begun D ms
  all_submitted ms differ = submitted_from [] ms differ

-- ---- what a sweep leaves of a new store

pub lawful_at_first : (D : Document) → IsLawful D (begun D [])
lawful_at_first D = record { start = refl; each = tt }

-- the laws that are cited of a run
pub record Laws : Type 0 where
  pub go_well : SubmissionsGoWell
  pub plain_runs : PlainRunsAsPlanned
  pub plays : PlaysLawfully
  pub once : MeetsOnce
  pub said : StateIsAsSaid

promise : Laws → (D : Document) (h : Story) → IsLawful D h → Promised D h
promise laws D h lawful = record {
  lawful = lawful;
  once = laws.once D h lawful;
  said = λ k later. laws.said D k (lawful_then D h k later lawful);
}

module _ (laws : Laws) (D : Document) (differ : NamesDiffer D.workflows) where
  ran : (h g : Story) (full : List (List ℕ)) → h ≡ begun D [] → GoesOn D h g → Swept D h g full → Ran D g full
  ran h g full new on swept =
      let all : with_submissions h D.workflows ≡ begun D D.workflows = ap (λ k. with_submissions k D.workflows) new ∙ all_submitted laws.go_well D D.workflows differ in
      let begins : Extends g (begun D D.workflows) = subst (λ k. Extends g k) all swept.later in
      let count : entries_in (begun D D.workflows) ≡ length D.workflows = length-map D.workflows submission in
      let paced : IsPaced D (length D.workflows) g = subst (λ n. IsPaced D n g) (ap entries_in all ∙ count) swept.paced in
      let lawful : IsLawful D g = on.lawful (subst (IsLawful D) (sym new) (lawful_at_first D)) in
      record {
        promised = promise laws D g lawful;
        begins = begins;
        paced = laws.go_well.paced D g begins paced;
        over = swept.over;
        plain = laws.plain_runs D g full differ lawful begins swept.over.quiet swept.over.fulls;
      }

-- by rounds alone
module _ (laws : Laws) (D : Read) (h g : Story) (new : h ≡ begun (law_of D) []) (differ : NamesDiffer (law_of D).workflows) (on : GoesOn (law_of D) h g) where
  first : IsLawful (law_of D) h
  first = subst (IsLawful (law_of D)) (sym new) (lawful_at_first (law_of D))

  begun_by : with_submissions h (law_of D).workflows ≡ begun (law_of D) (law_of D).workflows
  begun_by = ap (λ k. with_submissions k (law_of D).workflows) new ∙ all_submitted laws.go_well (law_of D) (law_of D).workflows differ

  -- of a store whose last calls in a row that failed are so many, and whose outage has failed so many
  module _ (row before after : ℕ) where
    abbrev kept : Kept
    kept = record { history = g; row = row; faults = after }

    plain : (m : Mode) → Plain m → (full : List (List ℕ)) → Ran (law_of D) g full → RanIn m before D kept full
    plain mode.Run p full r = r
    plain mode.Check p full r = r
    plain mode.Generate p full r = r
    plain mode.Simulate p full r = absurd p

    pub swept_so : (m : Mode) → Plain m → (r : Result Unit RunEnd) → (IsLawful (law_of D) h → SweepGives (law_of D) h r g) → (r ≡ Err StoreFault → row ≡ most_faults) → EndedSo m before D kept r
    swept_so m p (Ok x) swept fault = plain m p [] (ran laws (law_of D) differ h g [] new on (swept first))
    swept_so m p (Err (TooLarge full)) swept fault = let s = swept first in (plain m p full (ran laws (law_of D) differ h g full new on s.0), s.1)
    swept_so m p (Err StoreFault) swept fault = (promise laws (law_of D) g (on.lawful first), fault refl)
    swept_so m p (Err Memory) swept fault = promise laws (law_of D) g (on.lawful first)

    by_schedule : (full : List (List ℕ)) → Simulated (law_of D) D.schedule h before g after full → RanBySchedule D g before after full
    by_schedule full s =
        let lawful : IsLawful (law_of D) g = on.lawful first in
        let f : Followed (law_of D) D.schedule (begun (law_of D) (law_of D).workflows) before s.end after = subst (λ k. Followed (law_of D) D.schedule k before s.end after) begun_by s.followed in
        let played = laws.plays.goes_on (law_of D) (stage (begun (law_of D) (law_of D).workflows) (hands_of D.schedule)) (stage s.end f.hands) (steps_of D.schedule) f.notes f.played in
        let begins : Extends g (begun (law_of D) (law_of D).workflows) = extends_later g s.end (begun (law_of D) (law_of D).workflows) s.later played in
        record {
          promised = promise laws (law_of D) g lawful;
          begins = begins;
          end = s.end;
          followed = f;
          later = s.later;
          paced = s.paced;
          over = s.over;
          plain = laws.plain_runs (law_of D) g full differ lawful begins s.over.quiet s.over.fulls;
        }

    pub simulated_so : (r : Result Unit RunEnd) → SimulationGives (law_of D) D.schedule h before r g after → (r ≡ Err StoreFault → row ≡ most_faults) → EndedSo mode.Simulate before D kept r
    simulated_so (Ok x) gives fault = by_schedule [] gives
    simulated_so (Err (TooLarge full)) gives fault = (by_schedule full gives.0, gives.1)
    simulated_so (Err StoreFault) gives fault = (promise laws (law_of D) g (on.lawful first), fault refl)
    simulated_so (Err Memory) gives fault = promise laws (law_of D) g (on.lawful first)
