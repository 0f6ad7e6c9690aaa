-- One step of a schedule, played.
use Rattle.std.proofs.Common.{◌≡◌, ℕ, ◌+◌, ◌<◌, ◌≤◌, List, [], ◌∷◌, ◌++◌, length, get_or, true, false, refl, sym, subst, Option, Some, None, Result, Ok, Err, arith}
use Rattle.std.specs.Prelude.{◌≢◌, nat_lt, slice_get, slice_set, IfOk, OnOk}
use Rattle.std.proofs.lemmas.Bool.{ltb-true}
use Rattle.std.proofs.lemmas.Option.{slice_get_read}
use Rattle.tree_types.specs.declared.entry.Entry.TheVariants.{Tick}
use Rattle.history.specs.History.{event, clock_of}
use Rattle.law.specs.Documents.{Document}
use Rattle.law.specs.Contents.{Story}
use Rattle.next_step.specs.Hands.{Given, Hand, idle_hand}
use Rattle.next_step.specs.Plays.{has_none, ScheduleStep, give_job, make_step, restart, set_lag, set_clock, stage, gave, stepped, restarted, lagged, ticked, stayed, failed}
use Rattle.object_store.specs.Answers.{is_fault, TickGives, Adds}
use Rattle.object_store.specs.declared.refused.StoreRefused.{StoreRefused}
use Rattle.object_store.specs.declared.refused.StoreRefused.TheVariants as refused
use Rattle.sim_schedule.specs.Inside.Steps.{HandMoves, StepPlayed}

pub on_ok : {T E P Q : Type 0} (r : Result T E) → (P → Q) → OnOk r P → OnOk r Q
on_ok (Ok x) f p = f p
on_ok (Err e) f p = tt

pub if_ok : {T E : Type 0} {P Q : T → Type 0} (r : Result T E) → ((x : T) → P x → Q x) → IfOk r P → IfOk r Q
if_ok (Ok x) f p = f x p
if_ok (Err e) f p = tt

-- the hand of a number that is there
pub at_hand : (hands : List Hand) (i : ℕ) (a : Hand) → nat_lt i (length hands) ≡ true → a ≡ get_or hands i a → slice_get hands i ≡ Some a
at_hand hands i a there is = slice_get_read hands (length hands) i a refl (ltb-true i (length hands) there) is

-- ---- steps that make no call

module _ (D : Document) (h : Story) (hands : List Hand) (i : ℕ) (a b : Hand) (faults : ℕ) (at : slice_get hands i ≡ Some a) where
  abbrev Put : ScheduleStep → Hand → Type 0
  Put o x = StepPlayed D o (stage h hands) faults (stage h (slice_set hands i x)) faults

  pub given_so : (job : Given) → b ≡ record a { jobs = a.jobs ++ job ∷ [] } → Put (give_job i job) b
  given_so job is = subst (Put (give_job i job)) (sym is) record { notes = []; plays = gave i job a at; few = omega arith }

  pub restarted_so : b ≡ idle_hand → Put (restart i) b
  restarted_so is = subst (Put (restart i)) (sym is) record { notes = []; plays = restarted i a at; few = omega arith }

  pub lagged_so : (back : ℕ) → b ≡ record a { lag = back } → Put (set_lag i back) b
  lagged_so back is = subst (Put (set_lag i back)) (sym is) record { notes = []; plays = lagged i back a at; few = omega arith }

-- ---- a step of a hand

pub stepped_so : (D : Document) (h g : Story) (hands : List Hand) (i : ℕ) (a b : Hand) (before now : ℕ) → slice_get hands i ≡ Some a → HandMoves D h a before g b now → StepPlayed D (make_step i) (stage h hands) before (stage g (slice_set hands i b)) now
stepped_so D h g hands i a b before now at moves =
    let m = moves i in record { notes = m.notes; plays = stepped i a b m.notes g at m.stepped; few = m.few }

-- a hand without a job does nothing
pub none_moved : (D : Document) (h : Story) (a : Hand) (faults : ℕ) → a.jobs ≡ [] → HandMoves D h a faults h a faults
none_moved D h a faults none i = record { notes = []; stepped = has_none none; few = omega arith }

-- ---- the clock

module _ (D : Document) (h g : Story) (to before now : ℕ) (hands : List Hand) where
  abbrev Moved : Story → Type 0
  Moved k = StepPlayed D (set_clock to) (stage h hands) before (stage k hands) now

  pub clock_moved : (r : Result Unit StoreRefused) → r ≢ Err refused.Memory → TickGives to (clock_of h) r → Adds h (event (Tick to) None) r g → (is_fault r ≡ true → before < now) → (is_fault r ≡ false → now ≡ before) → Moved g
  clock_moved (Ok x) answered gives adds rose stood =
      let same : now ≡ before = stood refl in
      subst Moved (sym adds) record { notes = _; plays = ticked to gives; few = omega (arith, same) }
  clock_moved (Err (refused.Behind told)) answered gives adds rose stood =
      let same : now ≡ before = stood refl in
      subst Moved (sym adds) record { notes = _; plays = stayed to gives.1; few = omega (arith, same) }
  clock_moved (Err refused.Fault) answered gives adds rose stood =
      let more : before < now = rose refl in
      subst Moved (sym adds) record { notes = _; plays = failed to; few = omega (arith, more) }
  clock_moved (Err refused.Memory) answered gives adds rose stood = absurd (answered refl)
  clock_moved (Err refused.NoObject) answered gives adds rose stood = absurd gives
  clock_moved (Err refused.Exists) answered gives adds rose stood = absurd gives
  clock_moved (Err (refused.Conflict expected there)) answered gives adds rose stood = absurd gives
