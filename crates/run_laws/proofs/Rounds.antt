-- Why jobs that run one after the other are the jobs of a round.
use Rattle.std.proofs.Common.{◌≡◌, ℕ, ◌+◌, ◌<◌, Bool, true, false, ◌||◌, nat_lt, List, [], ◌∷◌, ◌++◌, append_assoc, append-nil, refl, sym, ◌∙◌, ap, ap₂, arith}
use Rattle.std.proofs.lemmas.Bool.Decides.{nat_tests}
use Rattle.law.specs.Documents.{Text, Document}
use Rattle.law.specs.Contents.{Story}
use Rattle.next_step.specs.Views.{Views}
use Rattle.next_step.specs.Replies.{Reply, found, accepted, no_object, exists, conflict, fault}
use Rattle.next_step.specs.Hands.{Given, for_flow, for_pod}
use Rattle.next_step.specs.Rounds.{faults_of, WorkerEnds, by_done, by_full, by_get, by_change, JobRan, worker_ran, runner_missed, runner_rested, runner_finished, JobsRan, no_more, one_more}
use Rattle.run_laws.specs.Whole.{Told, went, was_full, failed, was_moved, told_by, told_of_end, told_of_job, Ran}
use Rattle.run_laws.specs.Rounds.{full_of_end, full_of_job, full_in, full_by, is_failed, JobsDone, RoundsAreDone}

-- ---- what is told of a job's end

none_full : (w : Text) (r : Reply) → [] ≡ full_by (for_flow w) (told_by r)
none_full w (found x) = refl
none_full w (accepted x) = refl
none_full w no_object = refl
none_full w exists = refl
none_full w (conflict a b) = refl
none_full w fault = refl

end_full : (D : Document) (w : Text) (h : Story) (v : Views) (calls faults : ℕ) (g : Story) → (end : WorkerEnds D w h v calls faults g) → full_of_end end ≡ full_by (for_flow w) (told_of_end end)
end_full D w h v calls faults g (by_done e) = refl
end_full D w h v calls faults g (by_full x s e viewed t) = refl
end_full D w h v calls faults g (by_get k r e n got on) = none_full w r
end_full D w h v calls faults g (by_change m s facts r i e n viewed adds d on) = none_full w r

runner_full : (w name : Text) (t : Told) → [] ≡ full_by (for_pod w name) t
runner_full w name went = refl
runner_full w name was_full = refl
runner_full w name failed = refl
runner_full w name (was_moved a b) = refl

job_full : (D : Document) (h g : Story) (job : Given) (calls faults : ℕ) → (ran : JobRan D h job calls faults g) → full_of_job ran ≡ full_by job (told_of_job ran)
job_full D h g job calls faults (worker_ran w i j u last fail ran end) = end_full D w i u last fail g end
job_full D h g job calls faults (runner_missed w name r got e) = runner_full w name (told_by r)
job_full D h g job calls faults (runner_rested w name r x got e n) = runner_full w name went
job_full D h g job calls faults (runner_finished w name r s x o i got e n d) = runner_full w name (told_by s)

reply_failed : (r : Reply) → is_failed (told_by r) ≡ nat_lt 0 (faults_of r)
reply_failed (found x) = refl
reply_failed (accepted x) = refl
reply_failed no_object = refl
reply_failed exists = refl
reply_failed (conflict a b) = refl
reply_failed fault = refl

end_failed : (D : Document) (w : Text) (h : Story) (v : Views) (calls faults : ℕ) (g : Story) → (end : WorkerEnds D w h v calls faults g) → is_failed (told_of_end end) ≡ nat_lt 0 faults
end_failed D w h v calls faults g (by_done e) = refl
end_failed D w h v calls faults g (by_full x s e viewed t) = refl
end_failed D w h v calls faults g (by_get k r e n got on) = reply_failed r
end_failed D w h v calls faults g (by_change m s facts r i e n viewed adds d on) = reply_failed r

job_failed : (D : Document) (h g : Story) (job : Given) (calls faults : ℕ) → (ran : JobRan D h job calls faults g) → is_failed (told_of_job ran) ≡ nat_lt 0 faults
job_failed D h g job calls faults (worker_ran w i j u last fail ran end) = end_failed D w i u last fail g end
job_failed D h g job calls faults (runner_missed w name r got e) = reply_failed r
job_failed D h g job calls faults (runner_rested w name r x got e n) = refl
job_failed D h g job calls faults (runner_finished w name r s x o i got e n d) = reply_failed s

-- ---- one job more

record OneMore (D : Document) (h : Story) (jobs : List Given) (job : Given) (g : Story) (full : List Text) (faults : ℕ) : Type 0 where
  calls : ℕ
  fails : ℕ
  ran : JobsRan D h (jobs ++ job ∷ []) calls fails g
  is_full : full_in ran ≡ full
  is_faults : fails ≡ faults

no_faults_before : (n : ℕ) → n + 0 ≡ 0 + n
no_faults_before n = omega arith

then_one : (D : Document) (h i g : Story) (jobs : List Given) (job : Given) (calls faults more fail : ℕ) → (js : JobsRan D h jobs calls faults i) → (j : JobRan D i job more fail g) → OneMore D h jobs job g (full_in js ++ full_of_job j) (faults + fail)
then_one D h i g jobs job calls faults more fail no_more j =
    record { calls = more + 0; fails = fail + 0; ran = one_more j no_more; is_full = append-nil (full_of_job j); is_faults = no_faults_before fail }
then_one D h i g jobs job calls faults more fail (one_more {i = k} {job = first} {others = others} {calls = some} {faults = fails} {more = after} {fail = last} ran rest) j =
    let s = then_one D k i g others job after last more fail rest j in
    let q = s.is_faults in
    record {
      calls = some + s.calls;
      fails = fails + s.fails;
      ran = one_more ran s.ran;
      is_full = ap (λ ns. full_of_job ran ++ ns) s.is_full ∙ sym (append_assoc (full_of_job ran) (full_in rest) (full_of_job j));
      is_faults = omega (arith, q);
    }

-- ---- whether one failed

is_some : (n : ℕ) → nat_lt 0 n ≡ true → 0 < n
is_some n e = grind (arith, nat_tests)

is_none : (n : ℕ) → nat_lt 0 n ≡ false → n ≡ 0
is_none n e = grind (arith, nat_tests)

above : (n : ℕ) → 0 < n → nat_lt 0 n ≡ true
above n l = grind (arith, nat_tests)

either_some : (a b : ℕ) → (nat_lt 0 a || nat_lt 0 b) ≡ nat_lt 0 (a + b)
either_some a b = by (nat_lt 0 a) refl
  where
    by : (t : Bool) → nat_lt 0 a ≡ t → (t || nat_lt 0 b) ≡ nat_lt 0 (a + b)
    by true e = let l = is_some a e in sym (above (a + b) (omega (arith, l)))
    by false e = let z = is_none a e in let same : b ≡ a + b = omega (arith, z) in ap (λ n. nat_lt 0 n) same

one_done : (D : Document) (h i g : Story) (jobs : List Given) (job : Given) (told : Told) (full : List Text) (failed : Bool) → JobsDone D h jobs i full failed → Ran D i job told g → JobsDone D h (jobs ++ job ∷ []) g (full ++ full_by job told) (failed || is_failed told)
one_done D h i g jobs job told full some a b =
    let s = then_one D h i g jobs job a.calls a.faults b.calls b.faults a.ran b.ran in
    record {
      calls = s.calls;
      faults = s.fails;
      ran = s.ran;
      is_full = ap₂ (λ xs ys. xs ++ ys) a.is_full (ap (full_by job) b.is_told ∙ sym (job_full D i g job b.calls b.faults b.ran)) ∙ sym s.is_full;
      has_failed = ap₂ (λ x y. x || y) a.has_failed (ap is_failed b.is_told ∙ job_failed D i g job b.calls b.faults b.ran) ∙ either_some a.faults b.faults ∙ ap (λ n. nat_lt 0 n) (sym s.is_faults);
    }

pub rounds_are_done : RoundsAreDone
rounds_are_done = record {
  none = λ D h. record { calls = 0; faults = 0; ran = no_more; is_full = refl; has_failed = refl };
  more = one_done;
}
