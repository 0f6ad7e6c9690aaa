-- What jobs in which no entry came leave: the history as it was.
use Rattle.std.proofs.Common.{◌≡◌, ℕ, ◌+◌, nat_lt, false, List, [], ◌∷◌, ◌++◌, length, length-append, append-nil, refl, sym, ◌∙◌, ap, ap₂, arith}
use Rattle.std.proofs.lemmas.Bool.Decides.{nat_tests}
use Rattle.history.specs.History.{Event, Extends, grown}
use Rattle.history.proofs.Extends.{extends_itself, extends_later}
use Rattle.law.specs.Documents.{Text, Document}
use Rattle.law.specs.Contents.{Content, Story}
use Rattle.next_step.specs.Views.{Views, nothing}
use Rattle.next_step.specs.Changes.{change_of}
use Rattle.next_step.specs.Runner.{finish_change}
use Rattle.next_step.specs.Hands.{Given}
use Rattle.next_step.specs.Rounds.{WorkerEnds, by_done, by_full, by_get, by_change, JobRan, worker_ran, runner_missed, runner_rested, runner_finished, JobsRan, no_more, one_more, entries_in}
use Rattle.next_laws.proofs.Keeping.{did_extends, goes_on_from}

no_rest : {A : Type 0} (xs : List A) → length xs ≡ 0 → xs ≡ []
no_rest [] e = refl
no_rest (x ∷ xs) e = absurd (omega (arith, e))

-- a history that is as long is the same
pub same_story : (i h : Story) → Extends i h → entries_in i ≡ entries_in h → i ≡ h
same_story i h b e =
    let n : entries_in i ≡ entries_in h + length b.rest = ap length b.goes_on ∙ length-append h.events b.rest in
    let none : b.rest ≡ [] = no_rest b.rest (omega (arith, e, n)) in
    ap₂ (λ start events. record { start = start; events = events }) b.same_start (b.goes_on ∙ ap (λ es. h.events ++ es) none ∙ append-nil h.events)

not_shorter : (i h : Story) → Extends i h → (n : ℕ) × (entries_in i ≡ entries_in h + n)
not_shorter i h b = (length b.rest, ap length b.goes_on ∙ length-append h.events b.rest)

-- of three of which the last is as long as the first
pub same_middle : (g i h : Story) → Extends g i → Extends i h → entries_in g ≡ entries_in h → i ≡ h
same_middle g i h a b e =
    let p = not_shorter g i a in
    let q = not_shorter i h b in
    let m = p.1 in
    let n = q.1 in
    same_story i h b (omega (arith, e, m, n))

pub not_grown : {B : Type 0} (g h : Story) (e : Event Content) → g ≡ grown h e → entries_in g ≡ entries_in h → B
not_grown g h e q n =
    let a : entries_in g ≡ entries_in h + 1 = ap entries_in q ∙ length-append h.events (e ∷ []) in
    absurd (omega (arith, a, n))

pub ends_on : (D : Document) (w : Text) (h : Story) (v : Views) (calls faults : ℕ) (g : Story) → WorkerEnds D w h v calls faults g → Extends g h
ends_on D w h v calls faults g (by_done e) = extends_itself h
ends_on D w h v calls faults g (by_full x s e viewed t) = extends_itself h
ends_on D w h v calls faults g (by_get k r e n got on) = extends_itself h
ends_on D w h v calls faults g (by_change m s facts r i e n viewed adds d on) = did_extends h g (change_of w v s facts m) r d

pub job_on : (D : Document) (h g : Story) (job : Given) (calls faults : ℕ) → JobRan D h job calls faults g → Extends g h
job_on D h g job calls faults (worker_ran w i j u last fail ran end) = extends_later g i h (ends_on D w i u last fail g end) (goes_on_from D w h nothing i u ran)
job_on D h g job calls faults (runner_missed w name r got e) = extends_itself h
job_on D h g job calls faults (runner_rested w name r x got e n) = extends_itself h
job_on D h g job calls faults (runner_finished w name r s x o i got e n d) = did_extends h g (finish_change w name x o) s d

pub jobs_on : (D : Document) (h g : Story) (jobs : List Given) (calls faults : ℕ) → JobsRan D h jobs calls faults g → Extends g h
jobs_on D h g jobs calls faults no_more = extends_itself h
jobs_on D h g jobs calls faults (one_more {i = i} {job = job} {others = others} {calls = first} {faults = fails} {more = more} {fail = fail} ran rest) =
    extends_later g i h (jobs_on D i g others more fail rest) (job_on D h i job first fails ran)

-- no call failed
pub no_faults : (n : ℕ) → false ≡ nat_lt 0 n → n ≡ 0
no_faults n e = by (sym e)
  where
    by : nat_lt 0 n ≡ false → n ≡ 0
    by q = grind (arith, nat_tests)
