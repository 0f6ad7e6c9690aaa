-- Jobs that are done one after the other, behind others.
use Rattle.std.proofs.Common.{◌≡◌, ℕ, ◌+◌, ◌<◌, ◌≤◌, List, [], ◌∷◌, ◌++◌, length, take, get_or, map, Bool, false, sym, ◌∙◌, ap, ap₂, subst, append_assoc, append-nil, arith}
use Rattle.std.proofs.Math.Seq.{take-length}
use Rattle.law.specs.Documents.{Text, Document}
use Rattle.law.specs.Contents.{Story}
use Rattle.next_step.specs.Hands.{Given}
use Rattle.next_step.specs.Rounds.{jobs_of}
use Rattle.run_laws.specs.Rounds.{JobsDone, RoundsAreDone}
use Rattle.sim_schedule.specs.declared.jobs.Job.{Job}
use Rattle.sim_schedule.specs.declared.roster.Roster.{Roster}
use Rattle.sim_schedule.specs.declared.round.Round.{Round}
use Rattle.sim_schedule.specs.Inside.Jobs.{given}
use Rattle.sim_schedule.specs.Inside.Rosters.{IsOf}
use Rattle.sim_schedule.proofs.Listing.{map_next}

module _ (D : Document) (start : Story) (before : List Given) (g : Story) (full : List Text) (failed : Bool) where
  pub none_yet : JobsDone D start before g full failed → JobsDone D start (before ++ []) g full failed
  none_yet done = subst (λ js. JobsDone D start js g full failed) (sym (append-nil before)) done

  pub one_more : (jobs : List Job) (i : ℕ) (job : Job) → i < length jobs → job ≡ get_or jobs i job → JobsDone D start ((before ++ map given (take i jobs)) ++ given job ∷ []) g full failed → JobsDone D start (before ++ map given (take (i + 1) jobs)) g full failed
  one_more jobs i job below is done =
      subst (λ js. JobsDone D start js g full failed)
      (append_assoc before (map given (take i jobs)) (given job ∷ []) ∙ ap (λ js. before ++ js) (sym (map_next jobs i job below is given)))
      done

  pub all_done : (jobs : List Job) (i : ℕ) → length jobs ≤ i → i ≤ length jobs → JobsDone D start (before ++ map given (take i jobs)) g full failed → JobsDone D start (before ++ map given jobs) g full failed
  all_done jobs i above below done =
      let at_end : i ≡ length jobs = omega (arith, above, below) in
      subst (λ (js : List Job). JobsDone D start (before ++ map given js) g full failed) (ap (λ k. take k jobs) at_end ∙ take-length jobs) done

-- a round: the workflows' jobs, then the pods'
pub round_done : RoundsAreDone → (D : Document) (h mid g : Story) (r : Round) → r ≡ record { full = []; failed = false } → (k : Roster) → IsOf h k → (flows pods : List Job) → flows ≡ k.workflows → pods ≡ k.pods → (full_mid : List Text) (failed_mid : Bool) (full : List Text) (failed : Bool) → (JobsDone D h [] h r.full r.failed → JobsDone D h ([] ++ map given flows) mid full_mid failed_mid) → (JobsDone D h (map given flows) mid full_mid failed_mid → JobsDone D h (map given flows ++ map given pods) g full failed) → JobsDone D h (jobs_of h) g full failed
round_done law D h mid g r fresh k is flows pods same_flows same_pods full_mid failed_mid full failed first second =
    let none : JobsDone D h [] h r.full r.failed = subst (λ (x : Round). JobsDone D h [] h x.full x.failed) (sym fresh) (law.none D h) in
    subst (λ js. JobsDone D h js g full failed)
    (ap₂ (λ (xs ys : List Job). map given xs ++ map given ys) same_flows same_pods ∙ ap₂ (λ (xs ys : List Given). xs ++ ys) is.workflows is.pods)
    (second (first none))
