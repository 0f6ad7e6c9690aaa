-- Where the third pass found nothing, each hand that a step of the schedule names is there.
use Rattle.std.proofs.Common.{◌≡◌, ℕ, suc, List, [], ◌∷◌, ◌++◌, Bool, true, false, Option, Some, None, Ok, refl, subst, inl, inr, filter_map}
use Rattle.std.specs.Prelude.{if◌then◌else◌}
use Rattle.std.specs.List.{flat_map, cons_option}
use Rattle.serde_json.specs.Data.{Data}
use Rattle.field_kinds.specs.Reading.{◌>>=◌}
use Rattle.field_kinds.specs.Rules as rules
use Rattle.growth.specs.Growth.{Among}
use Rattle.item_reader.specs.declared.schedules.ScheduleStep.{ScheduleStep}
use Rattle.item_reader.specs.declared.schedules.Schedule.{Schedule as SaidSchedule}
use Rattle.item_reader.specs.declared.items.Item.{Item}
use Rattle.item_reader.specs.declared.items.Item.TheVariants as item
use Rattle.bundle_rules.specs.declared.asked.Asked.{Asked}
use Rattle.bundle_rules.specs.Findings.{refuse}
use Rattle.bundle_rules.specs.Claims.{seconds_asked}
use Rattle.bundle_rules.specs.Names.{first_broken, names_asked, step_at}
use Rattle.bundle_rules.specs.Schedules.{is_of_hands, is_step, hands_asked, schedules_in, schedules_asked}
use Rattle.wf_bundle.specs.declared.document.Document.{Document}
use Rattle.wf_bundle.specs.Documents.{whole_asked, schedule_in, first_or, no_schedule, schedule_of, document, document_of}
use Rattle.document_laws.specs.Schedules.{HasItsHands}
use Rattle.document_laws.proofs.Passes.{found_ok, passed}

abbrev Fits : SaidSchedule → Type 0
Fits s = HasItsHands (schedule_of s)

-- one step of the schedule holds, and so do those behind it
module _ (i : ℕ) (places : List Asked) where
  if_holds : (b : Bool) (j : ℕ) → (if b then first_broken rules.bad_schedule places else refuse i rules.bad_schedule (step_at j)) ≡ Ok tt → (b ≡ true) × (first_broken rules.bad_schedule places ≡ Ok tt)
  if_holds true j e = (refl, e)
  if_holds false j e = absurd cc

module _ (w i : ℕ) (rest : List Asked) where
  among_steps : (s : Option ScheduleStep) (os : List ScheduleStep) (o : ScheduleStep) → Among o (cons_option s os) → is_step w s ≡ true → (Among o os → is_of_hands w o ≡ true) → is_of_hands w o ≡ true
  among_steps None os o a e behind = absurd cc
  among_steps (Some s) os o (inl same) e behind = subst (λ (x : ScheduleStep). is_of_hands w x ≡ true) same e
  among_steps (Some s) os o (inr a) e behind = behind a

  hands_hold : (j : ℕ) (ss : List (Option ScheduleStep)) → first_broken rules.bad_schedule (hands_asked w i j ss ++ rest) ≡ Ok tt → (o : ScheduleStep) → Among o (filter_map (λ s. s) ss) → is_of_hands w o ≡ true
  hands_hold j [] e o a = absurd a
  hands_hold j (s ∷ ss) e o a =
      let here = if_holds i (hands_asked w i (suc j) ss ++ rest) (is_step w s) j e in
      among_steps s (filter_map (λ x. x) ss) o a here.0 (hands_hold (suc j) ss here.1 o)

none_fits : Fits no_schedule
none_fits o a = absurd a

fits : (i : ℕ) (xs : List Item) → first_broken rules.bad_schedule (schedules_in i xs) ≡ Ok tt → Fits (first_or no_schedule (flat_map schedule_in xs))
fits i [] e = none_fits
fits i (item.Schedule s ∷ xs) e = hands_hold s.workers i (schedules_in (suc i) xs) 0 s.steps e
fits i (item.Workflow m ∷ xs) e = fits (suc i) xs e
fits i (item.Config c ∷ xs) e = fits (suc i) xs e
fits i (item.Outcomes plan ∷ xs) e = fits (suc i) xs e
fits i (item.Commands cs ∷ xs) e = fits (suc i) xs e

whole_fits : (xs : List Item) → whole_asked xs ≡ Ok tt → HasItsHands (document xs).schedule
unfolding whole_asked
whole_fits xs e =
    let s = found_ok (seconds_asked xs) (λ _. names_asked xs >>= λ _. schedules_asked xs) tt e in
    let n = found_ok (names_asked xs) (λ _. schedules_asked xs) tt s.2 in
    fits 0 xs n.2

pub hands_are_there : (d : Data) (D : Document) → document_of d ≡ Ok D → HasItsHands D.schedule
hands_are_there d D e =
    let p = passed d D e in
    subst (λ (x : Document). HasItsHands x.schedule) p.is (whole_fits p.items p.whole)
