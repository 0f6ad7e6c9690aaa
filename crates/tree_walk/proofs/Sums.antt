-- The nodes of the tasks of a DAG, counted in another order.
use Rattle.std.proofs.Common.{◌≡◌, ◌≢◌, ◌⊎◌, inl, inr, ℕ, zero, suc, ◌+◌, ◌<◌, ◌≤◌, Bool, true, false, List, [], ◌∷◌, length, slice_index_or, get_or, take, refl, ap, ◌∙◌, subst, arith}
use Rattle.std.specs.List.{AllPairs, Contains}
use Rattle.meaning.specs.declared.lines.Place.{Place}
use Rattle.meaning.specs.Dags.{Standing, waiting, ready, exists, Standings, task_place, task_then, tasks_below}
use Rattle.meaning.specs.Lines.{Parts}
use Rattle.tree_state.specs.Counting.{count_below}
use Rattle.dag_board.specs.Boards.{stood}
use Rattle.tree_walk.specs.Tasks.{stood_count, count_at}

-- the nodes of all tasks
abbrev total : Standings → ℕ
total [] = 0
total (s ∷ ss) = stood_count s.1 + total ss

counted_then : (doomed : Bool) (at : Place) (s : Standing) (more : Parts) → count_below (task_then doomed at s more) ≡ stood_count s + count_below more
counted_then doomed at (exists m branch seen) more = omega arith
counted_then false at ready more = omega arith
counted_then true at ready more = omega arith
counted_then false at waiting more = omega arith
counted_then true at waiting more = omega arith

-- what stands below a DAG's node has these nodes
counted_below : (doomed : Bool) (place : Place) (i : ℕ) (ss : Standings) → count_below (tasks_below doomed place i ss) ≡ total ss
counted_below doomed place i [] = refl
counted_below doomed place i (s ∷ ss) =
    omega (arith, counted_then doomed (task_place place i s.0) s.1 (tasks_below doomed place (suc i) ss), counted_below doomed place (suc i) ss)

-- ---- without the task at a position

abbrev wipe : ℕ → Standings → Standings
wipe p [] = []
wipe zero (s ∷ ss) = (s.0, waiting) ∷ ss
wipe (suc p) (s ∷ ss) = s ∷ wipe p ss

abbrev wipe_all : List ℕ → Standings → Standings
wipe_all [] ss = ss
wipe_all (p ∷ ps) ss = wipe_all ps (wipe p ss)

wiped_total : (p : ℕ) (ss : Standings) → total ss ≡ stood_count (stood ss p) + total (wipe p ss)
wiped_total p [] = omega arith
wiped_total zero (s ∷ ss) = omega arith
wiped_total (suc p) (s ∷ ss) = omega (arith, wiped_total p ss)

wiped_other : (p q : ℕ) (ss : Standings) → p ≢ q → stood (wipe p ss) q ≡ stood ss q
wiped_other p q [] apart = refl
wiped_other zero zero (s ∷ ss) apart = absurd (apart refl)
wiped_other zero (suc q) (s ∷ ss) apart = refl
wiped_other (suc p) zero (s ∷ ss) apart = refl
wiped_other (suc p) (suc q) (s ∷ ss) apart = wiped_other p q ss (λ e. apart (ap suc e))

wiped_here : (p : ℕ) (ss : Standings) → stood_count (stood (wipe p ss) p) ≡ 0
wiped_here p [] = refl
wiped_here zero (s ∷ ss) = refl
wiped_here (suc p) (s ∷ ss) = wiped_here p ss

stays_none : (p q : ℕ) (ss : Standings) → stood_count (stood ss q) ≡ 0 → stood_count (stood (wipe p ss) q) ≡ 0
stays_none p q [] none = none
stays_none zero zero (s ∷ ss) none = refl
stays_none zero (suc q) (s ∷ ss) none = none
stays_none (suc p) zero (s ∷ ss) none = none
stays_none (suc p) (suc q) (s ∷ ss) none = stays_none p q ss none

all_stay_none : (ps : List ℕ) (q : ℕ) (ss : Standings) → stood_count (stood ss q) ≡ 0 → stood_count (stood (wipe_all ps ss) q) ≡ 0
all_stay_none [] q ss none = none
all_stay_none (p ∷ ps) q ss none = all_stay_none ps q (wipe p ss) (stays_none p q ss none)

-- ---- positions, each once

abbrev Among : ℕ → List ℕ → Type 0
Among q [] = ⊥
Among q (p ∷ ps) = (p ≡ q) ⊎ Among q ps

abbrev Apart : ℕ → List ℕ → Type 0
Apart p [] = Unit {0}
Apart p (q ∷ qs) = (p ≢ q) × Apart p qs

abbrev Once : List ℕ → Type 0
Once [] = Unit {0}
Once (p ∷ ps) = Apart p ps × Once ps

count_apart : (p : ℕ) (ps : List ℕ) (ss : Standings) → Apart p ps → count_at (wipe p ss) ps ≡ count_at ss ps
count_apart p [] ss apart = refl
count_apart p (q ∷ qs) ss apart = omega (arith, ap stood_count (wiped_other p q ss apart.0), count_apart p qs ss apart.1)

split_total : (ps : List ℕ) (ss : Standings) → Once ps → total ss ≡ count_at ss ps + total (wipe_all ps ss)
split_total [] ss once = omega arith
split_total (p ∷ ps) ss once = omega (arith, wiped_total p ss, split_total ps (wipe p ss) once.1, count_apart p ps ss once.0)

gone : (ps : List ℕ) (q : ℕ) (ss : Standings) → Among q ps → stood_count (stood (wipe_all ps ss) q) ≡ 0
gone [] q ss among = absurd among
gone (p ∷ ps) q ss (inl here) = all_stay_none ps q (wipe p ss) (subst (λ x. stood_count (stood (wipe p ss) x) ≡ 0) here (wiped_here p ss))
gone (p ∷ ps) q ss (inr later) = gone ps q (wipe p ss) later

none_total : (ss : Standings) → ((q : ℕ) → stood_count (stood ss q) ≡ 0) → total ss ≡ 0
none_total [] none = refl
none_total (s ∷ ss) none = omega (arith, none 0, none_total ss (λ q. none (suc q)))

past_none : (ss : Standings) (q : ℕ) → length ss ≤ q → stood_count (stood ss q) ≡ 0
past_none [] q past = refl
past_none (s ∷ ss) zero past = absurd (omega (arith, past))
past_none (s ∷ ss) (suc q) past = let less : length ss ≤ q = omega (arith, past) in past_none ss q less

-- all positions, each once: the nodes of the tasks in this order are the nodes of all tasks
total_in_order : (ps : List ℕ) (ss : Standings) → Once ps → ((q : ℕ) → q < length ss → Among q ps) → total ss ≡ count_at ss ps
total_in_order ps ss once whole =
    let rest : total (wipe_all ps ss) ≡ 0 = none_total (wipe_all ps ss) (λ q. by_place q (below q (length ss))) in
    omega (arith, split_total ps ss once, rest)
  where
    below : (q n : ℕ) → (q < n) ⊎ (n ≤ q)
    below q zero = inr (omega arith)
    below zero (suc n) = inl (omega arith)
    below (suc q) (suc n) = next (below q n)
      where
        next : (q < n) ⊎ (n ≤ q) → (suc q < suc n) ⊎ (suc n ≤ suc q)
        next (inl less) = inl (omega (arith, less))
        next (inr more) = inr (omega (arith, more))

    by_place : (q : ℕ) → (q < length ss) ⊎ (length ss ≤ q) → stood_count (stood (wipe_all ps ss) q) ≡ 0
    by_place q (inl less) = gone ps q ss (whole q less)
    by_place q (inr past) = all_stay_none ps q ss (past_none ss q past)

-- ---- from facts by index

apart_from : (p : ℕ) (ps : List ℕ) → ((j : ℕ) → j < length ps → p ≢ slice_index_or ps j 0) → Apart p ps
apart_from p [] differ = tt
apart_from p (q ∷ qs) differ = (differ 0 (omega arith), apart_from p qs (λ j low. differ (suc j) (omega (arith, low))))

once_from : (ps : List ℕ) → AllPairs ◌≢◌ ps → Once ps
once_from [] pairs = tt
once_from (p ∷ ps) pairs =
    (apart_from p ps (λ j low. pairs 0 (suc j) 0 (omega arith) (omega (arith, low))), once_from ps (λ i j d less low. pairs (suc i) (suc j) d (omega (arith, less)) (omega (arith, low))))

among_from : (ps : List ℕ) (q k : ℕ) → k < length ps → slice_index_or ps k q ≡ q → Among q ps
among_from [] q k low is = absurd (omega (arith, low))
among_from (p ∷ ps) q zero low is = inl is
among_from (p ∷ ps) q (suc k) low is = inr (among_from ps q k (omega (arith, low)) is)

-- the nodes below a DAG's node, counted in an order of all its tasks
pub counted_in_order : (doomed : Bool) (place : Place) (ss : Standings) (order : List ℕ) → AllPairs ◌≢◌ order → ((p : ℕ) → p < length ss → Contains order p) →
    count_below (tasks_below doomed place 0 ss) ≡ count_at ss order
counted_in_order doomed place ss order once whole =
    counted_below doomed place 0 ss ∙ total_in_order order ss (once_from order once) (λ q low. let c = whole q low in among_from order q c.0 c.1 c.2)

-- ---- a start of an order

pub count_next : (ss : Standings) (order : List ℕ) (k : ℕ) → k < length order → count_at ss (take (suc k) order) ≡ count_at ss (take k order) + stood_count (stood ss (get_or order k 0))
count_next ss [] k low = absurd (omega (arith, low))
count_next ss (p ∷ ps) zero low = omega arith
count_next ss (p ∷ ps) (suc k) low = let less : k < length ps = omega (arith, low) in omega (arith, count_next ss ps k less)

pub count_start : (ss : Standings) (order : List ℕ) (k : ℕ) → count_at ss (take k order) ≤ count_at ss order
count_start ss [] zero = omega arith
count_start ss [] (suc k) = omega arith
count_start ss (p ∷ ps) zero = omega arith
count_start ss (p ∷ ps) (suc k) = omega (arith, count_start ss ps k)
