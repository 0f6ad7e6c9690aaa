-- A schedule is followed step by step, and behind it nothing is left to be submitted.
use Rattle.std.proofs.Common.{◌≡◌, ℕ, suc, ◌+◌, ◌<◌, ◌≤◌, List, [], ◌∷◌, ◌++◌, length, take, map, Bool, true, false, refl, sym, ◌∙◌, ap, subst, append_assoc, append-nil, get_or, Option, Some, None, Result, Ok, Err, arith}
use Rattle.std.specs.Prelude.{cond, is_some, if◌then◌else◌}
use Rattle.std.proofs.Math.Seq.{take-length}
use Rattle.tree_types.specs.declared.entry.Key.{Key}
use Rattle.tree_types.specs.declared.entry.Key.TheVariants as of_key
use Rattle.history.specs.Keys.{is_about}
use Rattle.history.specs.History.{Event, Version, Extends, grown, next_version, step_at, version_from, version_at_start, version_at}
use Rattle.history.proofs.Extends.{extends_itself, extends_grown, extends_later, version_from-append, version_at-grown}
use Rattle.history.proofs.Keys.{bytes_eq-refl}
use Rattle.item_reader.specs.declared.schedules.ScheduleStep.{ScheduleStep as SaidStep}
use Rattle.law.specs.Documents.{Text, Document}
use Rattle.law.specs.Contents.{Content, apply, Story}
use Rattle.law.specs.Due.{IsPaced}
use Rattle.law.specs.Justified.{IsLawful}
use Rattle.lawful.specs.Manifests.{HasValidWorkflows}
use Rattle.next_laws.specs.Playing.{IsLawfulStage, PlaysLawfully}
use Rattle.next_step.specs.Hands.{Hand, CallNote}
use Rattle.next_step.specs.Plays.{ScheduleStep, Stage, stage, Plays, Played, over, step}
use Rattle.next_step.specs.Rounds.{entries_in}
use Rattle.run_laws.specs.Submissions.{submission}
use Rattle.sim_schedule.specs.Sweeping.{has_workflow, with_submission, with_submissions, NamesNone, Swept, SweepGives}
use Rattle.sim_schedule.specs.declared.end.RunEnd.{RunEnd}
use Rattle.sim_schedule.specs.declared.end.RunEnd.TheVariants.{StoreFault, TooLarge, Memory as OutOfMemory}
use Rattle.sim_schedule.proofs.Listing.{map_next}
use Rattle.wf_bundle.specs.declared.document.Schedule.{Schedule}
use Rattle.wf_manifest.specs.declared.manifest.Manifest.{Manifest}
use Rattle.sim_schedule.specs.Simulating.{step_of, hands_of, failed, failures, Followed, Simulated, SimulationGives}
use Rattle.sim_schedule.specs.Inside.Steps.{StepPlayed}

-- ---- one step more

pub played_then : (D : Document) (p q r : Stage) (os : List ScheduleStep) (ns ms : List CallNote) (o : ScheduleStep) → Played D p os ns q → Plays D q o ms r → Played D p (os ++ o ∷ []) (ns ++ ms) r
played_then D p q r os ns ms o over x = subst (λ ks. Played D p (o ∷ []) ks r) (append-nil ms) (step o x over)
played_then D p q r os ns ms o (step {q = m} {os = rest} {ms = ks} {ns = ls} y first more) x =
    subst (λ ks. Played D p (y ∷ (rest ++ o ∷ [])) ks r) (sym (append_assoc ks ls ms)) (step y first (played_then D m q r rest ls ms o more x))

pub failures_then : (ns ms : List CallNote) → failures (ns ++ ms) ≡ failures ns + failures ms
failures_then [] ms = omega arith
failures_then (n ∷ ns) ms = let rest = failures_then ns ms in omega (arith, rest)

-- ---- a workflow that is there stays

stays_by : (k : Key) (es : List (Event Content)) (b : Bool) (n v : Version Content) → ((x : Version Content) → is_some (version_from apply k (Some x) es) ≡ true) → is_some (version_from apply k (cond b (Some n) (Some v)) es) ≡ true
stays_by k es true n v stays = stays n
stays_by k es false n v stays = stays v

stays_from : (k : Key) (v : Version Content) (es : List (Event Content)) → is_some (version_from apply k (Some v) es) ≡ true
stays_from k v [] = refl
stays_from k v (e ∷ es) = stays_by k es (is_about k e.entry) _ v (λ x. stays_from k x es)

still_there : (k : Key) (o : Option (Version Content)) (es : List (Event Content)) → is_some o ≡ true → is_some (version_from apply k o es) ≡ true
still_there k (Some v) es e = stays_from k v es
still_there k None es e = absurd cc

has_later : (h g : Story) (m : Manifest) → Extends g h → has_workflow h m ≡ true → has_workflow g m ≡ true
has_later h g m later has =
    let k = of_key.Workflow m.name in
    let start : version_at apply g k ≡ version_from apply k (version_at_start apply k h.start) g.events = ap (λ s. version_from apply k (version_at_start apply k s) g.events) later.same_start in
    let parts : version_at apply g k ≡ version_from apply k (version_at apply h k) later.rest = start ∙ ap (version_from apply k (version_at_start apply k h.start)) later.goes_on ∙ version_from-append apply k (version_at_start apply k h.start) h.events later.rest in
    ap is_some parts ∙ still_there k (version_at apply h k) later.rest has

-- ---- submissions

submission_on : (h : Story) (m : Manifest) → Extends (with_submission h m) h
submission_on h m = by (has_workflow h m)
  where
    by : (b : Bool) → Extends (if b then h else grown h (submission m)) h
    by true = extends_itself h
    by false = extends_grown h (submission m)

submissions_on : (h : Story) (ms : List Manifest) → Extends (with_submissions h ms) h
submissions_on h [] = extends_itself h
submissions_on h (m ∷ ms) = extends_later (with_submissions (with_submission h m) ms) (with_submission h m) h (submissions_on (with_submission h m) ms) (submission_on h m)

-- it is there behind its submission
there_after : (h : Story) (m : Manifest) → has_workflow (with_submission h m) m ≡ true
there_after h m = by (has_workflow h m) refl
  where
    k : Key
    k = of_key.Workflow m.name

    made : (v : Option (Version Content)) → is_some (next_version apply v (submission m)) ≡ true
    made None = refl
    made (Some v) = refl

    by : (b : Bool) → has_workflow h m ≡ b → has_workflow (if b then h else grown h (submission m)) m ≡ true
    by true has = has
    by false lacks =
        ap is_some (version_at-grown apply h (submission m) k)
        ∙ ap (λ b. is_some (cond b (next_version apply (version_at apply h k) (submission m)) (version_at apply h k))) (bytes_eq-refl m.name)
        ∙ made (version_at apply h k)

-- none is lacking behind the submissions
pub none_lacking : (ms : List Manifest) (h g : Story) → Extends g (with_submissions h ms) → with_submissions g ms ≡ g
none_lacking [] h g later = refl
none_lacking (m ∷ ms) h g later =
    let first = with_submission h m in
    let has = has_later first g m (extends_later g (with_submissions first ms) first later (submissions_on first ms)) (there_after h m) in
    ap (λ b. with_submissions (if b then g else grown g (submission m)) ms) has ∙ none_lacking ms first g later

-- ---- so many steps of the schedule

pub record Sofar (D : Document) (s : Schedule) (os : List SaidStep) (h : Story) (before : ℕ) (g : Story) (hands : List Hand) (now : ℕ) : Type 0 where
  pub notes : List CallNote
  pub played : Played D (stage h (hands_of s)) (map step_of os) notes (stage g hands)
  pub few : failures notes + before ≤ now

pub sofar_none : (D : Document) (s : Schedule) (h : Story) (before : ℕ) (hands : List Hand) → hands ≡ hands_of s → Sofar D s [] h before h hands before
sofar_none D s h before hands is =
    subst (λ hs. Sofar D s [] h before h hs before) (sym is) record { notes = []; played = over; few = omega arith }

pub sofar_next : (D : Document) (s : Schedule) (os : List SaidStep) (h : Story) (before : ℕ) (g : Story) (hands : List Hand) (now i : ℕ) (o : SaidStep) (k : Story) (hands_now : List Hand) (later : ℕ) → i < length os → o ≡ get_or os i o → Sofar D s (take i os) h before g hands now → StepPlayed D (step_of o) (stage g hands) now (stage k hands_now) later → Sofar D s (take (i + 1) os) h before k hands_now later
sofar_next D s os h before g hands now i o k hands_now later below is a b = record {
  notes = a.notes ++ b.notes;
  played = subst (λ ss. Played D (stage h (hands_of s)) ss (a.notes ++ b.notes) (stage k hands_now)) (sym (map_next os i o below is step_of))
      (played_then D (stage h (hands_of s)) (stage g hands) (stage k hands_now) (map step_of (take i os)) a.notes b.notes (step_of o) a.played b.plays);
  few = let both = failures_then a.notes b.notes in let first = a.few in let second = b.few in omega (arith, both, first, second);
}

-- all of them
pub sofar_all : (D : Document) (s : Schedule) (h : Story) (before : ℕ) (g : Story) (hands : List Hand) (now i : ℕ) → length s.steps ≤ i → i ≤ length s.steps → Sofar D s (take i s.steps) h before g hands now → Followed D s h before g now
sofar_all D s h before g hands now i above below a =
    let at_end : i ≡ length s.steps = omega (arith, above, below) in
    let is : take i s.steps ≡ s.steps = ap (λ k. take k s.steps) at_end ∙ take-length s.steps in
    record {
      notes = a.notes;
      hands = hands;
      played = subst (λ (os : List SaidStep). Played D (stage h (hands_of s)) (map step_of os) a.notes (stage g hands)) is a.played;
      few = a.few;
    }

-- at each stage the history is lawful, and the hands have read what stood in it
pub sofar_lawful : PlaysLawfully → (D : Document) (s : Schedule) (os : List SaidStep) (h : Story) (before : ℕ) (g : Story) (hands : List Hand) (now : ℕ) → HasValidWorkflows D → IsLawful D h → Sofar D s os h before g hands now → IsLawfulStage D (stage g hands)
sofar_lawful law D s os h before g hands now valid lawful a =
    law.plays D (stage h (hands_of s)) (stage g hands) (map step_of os) a.notes valid (law.begin D h s.workers lawful) a.played

-- ---- the whole run

pub simulated_by : (D : Document) (s : Schedule) (h mid_begun mid g : Story) (before begun_faults followed_faults after : ℕ) → before ≤ begun_faults → followed_faults ≤ after → mid_begun ≡ with_submissions h D.workflows → Extends mid mid_begun → Followed D s mid_begun begun_faults mid followed_faults → (full : List Text) → Swept D mid g full → Simulated D s h before g after full
simulated_by D s h first mid g before begun_faults followed_faults after up_first up_last is later f full swept =
    let same : with_submissions mid D.workflows ≡ mid = none_lacking D.workflows h mid (subst (Extends mid) is later) in
    let few : failures f.notes + begun_faults ≤ followed_faults = f.few in
    record {
      end = mid;
      followed = subst (λ k. Followed D s k before mid after) is record { notes = f.notes; hands = f.hands; played = f.played; few = omega (arith, few, up_first, up_last) };
      later = subst (Extends g) same swept.later;
      paced = subst (λ k. IsPaced D (entries_in k) g) same swept.paced;
      over = swept.over;
    }

pub simulation_gives : (D : Document) (s : Schedule) (h first mid g : Story) (before begun_faults followed_faults after : ℕ) → before ≤ begun_faults → followed_faults ≤ after → first ≡ with_submissions h D.workflows → Extends mid first → Followed D s first begun_faults mid followed_faults → (r : Result Unit RunEnd) → SweepGives D mid r g → SimulationGives D s h before r g after
simulation_gives D s h first mid g before b f after up_first up_last is later followed (Ok x) swept =
    simulated_by D s h first mid g before b f after up_first up_last is later followed [] swept
simulation_gives D s h first mid g before b f after up_first up_last is later followed (Err (TooLarge full)) swept =
    (simulated_by D s h first mid g before b f after up_first up_last is later followed full swept.0, swept.1)
simulation_gives D s h first mid g before b f after up_first up_last is later followed (Err StoreFault) swept = tt
simulation_gives D s h first mid g before b f after up_first up_last is later followed (Err OutOfMemory) swept = tt

-- before the sweep
pub early : (D : Document) (s : Schedule) (h g : Story) (before after : ℕ) (r : Result Unit RunEnd) (e : RunEnd) → r ≡ Err e → NamesNone (let x : Result Unit RunEnd = Err e in x) → SimulationGives D s h before r g after
early D s h g before after r (TooLarge full) is none = absurd none
early D s h g before after r StoreFault is none = subst (λ x. SimulationGives D s h before x g after) (sym is) tt
early D s h g before after r OutOfMemory is none = subst (λ x. SimulationGives D s h before x g after) (sym is) tt
