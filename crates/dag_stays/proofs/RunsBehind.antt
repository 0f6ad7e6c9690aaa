-- A DAG of which a task ends runs on over those that wait for it.
use Rattle.std.proofs.Common.{◌≡◌, inl, inr, ℕ, zero, suc, ◌+◌, ◌<◌, List, [], ◌∷◌, ◌++◌, Bool, true, false, not, ◌&&◌, ◌||◌, ◌==◌, length, map, Some, codes, refl, sym, ap, ◌∙◌, subst, arith}
use Rattle.std.specs.Prelude.{slice_get}
use Rattle.std.specs.List.{list_any, AllByRecursion}
use Rattle.std.proofs.lemmas.Bool.{eq-eqb, eqb-true}
use Rattle.std.proofs.lemmas.List.Folds.{list_any-append}
use Rattle.base_types.specs.Names.{is_among, all_differ}
use Rattle.tree_types.specs.declared.path.Sel.TheVariants.{Task as task_sel}
use Rattle.tree_types.specs.declared.phase.Phase.{Phase}
use Rattle.tree_types.specs.declared.phase.Phase.TheVariants.{Running}
use Rattle.wf_manifest.specs.declared.calls.Task.{Task}
use Rattle.wf_manifest.specs.declared.calls.Dag.{Dag}
use Rattle.wf_manifest.specs.declared.manifest.Manifest.{Manifest}
use Rattle.wf_manifest.specs.declared.templates.OutputDecl.{OutputDecl}
use Rattle.wf_manifest.specs.Valid.{HasRank, task_names}
use Rattle.scopes.specs.Substitution.{Scope}
use Rattle.meaning.specs.declared.lines.Place.{Place}
use Rattle.meaning.specs.Answers.{Sels, Answers}
use Rattle.meaning.specs.Lines.{Own, Made, Parts, nothing, row_in, all_finished}
use Rattle.meaning.specs.Steps.{Caller, covered}
use Rattle.meaning.specs.Dags.{parents, Standing, waiting, exists, is_over, is_bad, branch_of, has_failed, look, Standings, standing, standings, is_doomed, is_at_rest, dag_phase, dag_tags, task_place, task_then, tasks_below, dag_by, dag_made}
use Rattle.meaning.specs.Calls.{calls}
use Rattle.growth.specs.Rounds.{RoundsSettle}
use Rattle.locality.specs.Answered.{SameBut}
use Rattle.dag_board.specs.Boards.{stood}
use Rattle.dag_board.proofs.Lookups.{stood_is, long}
use Rattle.tree_state.specs.declared.inserting.Entry.{Entry}
use Rattle.tree_state.specs.Inserting.{IsPut, HasPut, entry_then}
use Rattle.tree_state.specs.Replacing.{call_at, replaced, with_call}
use Rattle.dag_stays.specs.ByTask.{is_of_task}
use Rattle.dag_stays.specs.Over.{IsOwn, AreOwn, StandsOver}
use Rattle.dag_stays.specs.Behind.{put, again, ended, stands_behind, followed, AreBehind, HasFollowed, Goes, OneGoes, GoesOn}
use Rattle.dag_stays.proofs.Naming.{task_at}
use Rattle.dag_stays.proofs.Found.{StandsHere, own_standing, own_standings}
use Rattle.dag_stays.proofs.PutTask.{at_task, IsEntry, put_task}
use Rattle.dag_stays.proofs.RunsOn.{never_both, over_parts, IsAt, found_at, still_doomed, stands_again, runs_with, unfinished_runs, depth_is}
use Rattle.dag_stays.proofs.Begins.{ready_runs}
use Rattle.dag_stays.proofs.Placed.{call_is_here}
use Rattle.dag_stays.proofs.Followed.{put_same, put_long, stood_put, own_put, followed_more, followed_doomed, followed_long, followed_stood, followed_own, standings_followed, waited_before, not_itself, ended_tasks}

-- ---- one task more is looked at

each_more : {X : Type 0} (P : X → Type 0) (xs : List X) (x : X) → AllByRecursion P xs → P x → AllByRecursion P (xs ++ x ∷ [])
each_more P [] x all here = (here, tt)
each_more P (y ∷ xs) x all here = (all.0, each_more P xs x all.1 here)

or_right : (a b : Bool) → b ≡ true → (a || b) ≡ true
or_right true b is = refl
or_right false b is = is

or_left : (a b : Bool) → a ≡ true → (a || b) ≡ true
or_left true b is = refl
or_left false b is = absurd (cc is)

module _ (A : Answers) (called : Caller) (here : StandsHere called) (place : Place) (scope : Scope) (d : Dag) (us : Standings) (ks : List ℕ) (b : Made) (behind : AreBehind A called place scope d us ks b)
    (done : List ℕ) (k : ℕ) (among : list_any (λ n. n == k) ks ≡ true) (fresh : list_any (λ n. n == k) done ≡ false) (state : Made) (so_far : HasFollowed A called place scope d us done b state) where
  abbrev ss : Standings
  ss = followed A called place scope d us us done

  abbrev y : Standing
  y = stands_behind A called place scope d us k

  still_waits : stood ss k ≡ waiting
  still_waits = followed_stood A called place scope d us us done k fresh ∙ behind.waiting k among

  -- it waits
  pub step_waits : y ≡ waiting → HasFollowed A called place scope d us (done ++ k ∷ []) b state
  step_waits is = record {
    own = so_far.own;
    parts =
        so_far.parts
        ∙ ap (λ (us : Standings). tasks_below false place 0 us) (sym (followed_more A called place scope d us us done k ∙ put_same ss k y (still_waits ∙ sym is)));
    not_over = each_more (λ (n : ℕ). is_over (stands_behind A called place scope d us n) ≡ false) done k so_far.not_over (ap is_over is);
  }

  module _ (e : Entry) (new : Made) (open_still : is_over y ≡ false) (entry : (t : Task) → IsEntry false place k y (entry_then e nothing) t) (lt : k < length d.tasks) (is_put : HasPut k e state new) where
    same_depth : length state.own.node.path.sels ≡ length place.sels
    same_depth = ap (λ (o : Own). length o.node.path.sels) so_far.own ∙ sym behind.over.depth

    as_long : length ss ≡ length d.tasks
    as_long = followed_long A called place scope d us us done ∙ sym (tasks_long us) ∙ ap (λ (ts : List Task). length ts) behind.tasks
      where
        tasks_long : (vs : Standings) → length (map (λ (s : Task × Standing). s.0) vs) ≡ length vs
        tasks_long [] = refl
        tasks_long (v ∷ vs) = ap suc (tasks_long vs)

    put_so : IsPut (at_task false place k) (entry_then e nothing) (tasks_below false place 0 ss) new.parts
    put_so =
        subst (λ (n : ℕ). IsPut (record { depth = n; task = k }) (entry_then e nothing) (tasks_below false place 0 ss) new.parts) same_depth
        (subst (λ (p : Parts). IsPut (record { depth = length state.own.node.path.sels; task = k }) (entry_then e nothing) p new.parts) so_far.parts is_put.parts)

    -- its entry is put
    pub step_enters : HasFollowed A called place scope d us (done ++ k ∷ []) b new
    step_enters = record {
      own = is_put.own ∙ so_far.own;
      parts =
          put_task false place k y (entry_then e nothing) ss (followed_own A called place scope d us here us done behind.over.own) (omega (arith, lt, as_long)) entry
          (λ t more. ap (λ (s : Standing). task_then false (task_place place k t) s more) still_waits) new.parts put_so
          ∙ ap (λ (us : Standings). tasks_below false place 0 us) (sym (followed_more A called place scope d us us done k));
      not_over = each_more (λ (n : ℕ). is_over (stands_behind A called place scope d us n) ≡ false) done k so_far.not_over open_still;
    }

  -- one that goes
  pub one_goes : k < length d.tasks → Goes y → OneGoes A called place scope d us (done ++ k ∷ [])
  one_goes low goes = record {
    k = k;
    low = low;
    among = list_any-append (λ n. n == k) done (k ∷ []) ∙ or_right (list_any (λ n. n == k) done) ((k == k) || false) (or_left (k == k) false (eq-eqb k k refl));
    goes = goes;
  }

module _ (A : Answers) (called : Caller) (place : Place) (scope : Scope) (d : Dag) (us : Standings) where
  -- one that went before goes on
  pub still_goes : (done : List ℕ) (k : ℕ) → OneGoes A called place scope d us done → OneGoes A called place scope d us (done ++ k ∷ [])
  still_goes done k one = record {
    k = one.k;
    low = one.low;
    among = list_any-append (λ n. n == one.k) done (k ∷ []) ∙ or_left (list_any (λ n. n == one.k) done) (list_any (λ n. n == one.k) (k ∷ [])) one.among;
    goes = one.goes;
  }

-- ---- all that were looked at

stood_here : (ss : Standings) (p : ℕ) (y : Standing) → p < length ss → stood (put ss p y) p ≡ y
stood_here [] p y lt = absurd (omega (arith, lt))
stood_here (s ∷ ss) zero y lt = refl
stood_here (s ∷ ss) (suc p) y lt = stood_here ss p y (omega (arith, lt))

all_from : (P : ℕ → Type 0) (ks : List ℕ) → ((k : ℕ) → list_any (λ n. n == k) ks ≡ true → P k) → AllByRecursion P ks
all_from P [] each = tt
all_from P (k ∷ ks) each = (each k (or_left (k == k) (list_any (λ n. n == k) ks) (eq-eqb k k refl)), all_from P ks (λ m among. each m (or_right (k == m) (list_any (λ n. n == m) ks) among)))

pub one_of : (P : ℕ → Type 0) (ks : List ℕ) (k : ℕ) → AllByRecursion P ks → list_any (λ n. n == k) ks ≡ true → P k
one_of P [] k all among = absurd (cc among)
one_of P (m ∷ ks) k all among = by_test (λ later. one_of P ks k all.1 later) (m == k) refl among
  where
    by_test : (list_any (λ n. n == k) ks ≡ true → P k) → (b : Bool) → (m == k) ≡ b → (b || list_any (λ n. n == k) ks) ≡ true → P k
    by_test next true is among = subst P (eqb-true m k is) all.0
    by_test next false is among = next among

module _ (A : Answers) (called : Caller) (place : Place) (scope : Scope) (d : Dag) (us : Standings) where
  followed_here : (ss : Standings) (ks : List ℕ) (k : ℕ) → k < length ss → list_any (λ n. n == k) ks ≡ true → stood (followed A called place scope d us ss ks) k ≡ stands_behind A called place scope d us k
  followed_here ss [] k lt among = absurd (cc among)
  followed_here ss (m ∷ ks) k lt among =
      by_later (λ later. followed_here (put ss m (stands_behind A called place scope d us m)) ks k (omega (arith, lt, put_long ss m (stands_behind A called place scope d us m))) later) (list_any (λ n. n == k) ks) refl
    where
      next : Standings
      next = put ss m (stands_behind A called place scope d us m)

      first : list_any (λ n. n == k) ks ≡ false → (m == k) ≡ true
      first off = by_test (m == k) among
        where
          by_test : (b : Bool) → (b || list_any (λ n. n == k) ks) ≡ true → b ≡ true
          by_test true is = refl
          by_test false is = absurd (cc (off, is))

      by_later : (list_any (λ n. n == k) ks ≡ true → stood (followed A called place scope d us next ks) k ≡ stands_behind A called place scope d us k) → (b : Bool) → list_any (λ n. n == k) ks ≡ b →
          stood (followed A called place scope d us next ks) k ≡ stands_behind A called place scope d us k
      by_later so true later = so later
      by_later so false off =
          let same : m ≡ k = eqb-true m k (first off) in
          followed_stood A called place scope d us next ks k off
          ∙ (λ i. stood (put ss (same i) (stands_behind A called place scope d us (same i))) k)
          ∙ stood_here ss k (stands_behind A called place scope d us k) lt

  -- one that goes keeps the DAG from its end
  goes_runs : (ks : List ℕ) → length us ≡ length d.tasks → is_doomed d (followed A called place scope d us us ks) ≡ false → OneGoes A called place scope d us ks → dag_phase d (followed A called place scope d us us ks) ≡ Running
  goes_runs ks long spared one =
      let here : stood (followed A called place scope d us us ks) one.k ≡ stands_behind A called place scope d us one.k = followed_here us ks one.k (omega (arith, one.low, long)) one.among in
      by_goes here one.goes
    where
      by_goes : stood (followed A called place scope d us us ks) one.k ≡ stands_behind A called place scope d us one.k → Goes (stands_behind A called place scope d us one.k) → dag_phase d (followed A called place scope d us us ks) ≡ Running
      by_goes here (inl is) = ready_runs d (followed A called place scope d us us ks) one.k (here ∙ is) spared
      by_goes here (inr off) = runs_with d (followed A called place scope d us us ks) one.k (ap is_at_rest here ∙ off)

-- ---- the law

module _ (m : Manifest) (A B : Answers) (changed : Sels) (same : SameBut A B changed) (g : Scope) (left : ℕ) (settle : RoundsSettle) (place : Place) (scope : Scope) (d : Dag) (ranked : HasRank d.tasks) (differ : all_differ (task_names d) ≡ true)
    (j : ℕ) (rest : Sels) (way : changed ≡ place.sels ++ task_sel j ∷ rest) (t : Task) (task : slice_get d.tasks j ≡ Some t) (declared : List OutputDecl) (at : ℕ) (old one z : Made) where
  abbrev called_now : Caller
  called_now = calls m A g left

  abbrev called_then : Caller
  called_then = calls m B g left

  abbrev before : Standings
  before = standings B called_then place scope d

  abbrev us : Standings
  us = ended before j t z

  module _ (is : old ≡ dag_made B called_then place scope declared d) (there : call_at old.parts at ≡ Some one) (sought : is_of_task (length old.own.node.path.sels) j one ≡ true) (off : one.own.finished ≡ false)
      (spared : (d.fail_fast && is_bad (covered t.call.continue_on z.own.node.phase)) ≡ false) (begins : (not d.fail_fast || A.begun one.own.node.path.sels) ≡ true)
      (new : (s : Scope) → one ≡ called_then (codes "tasks.") (task_place place j t) (s ++ scope) t.call → called_now (codes "tasks.") (task_place place j t) (s ++ scope) t.call ≡ z) where
    deep : length place.sels ≡ length old.own.node.path.sels
    deep = depth_is m A B changed same g left settle place scope declared d ranked old is

    own : AreOwn place.sels 0 before
    own = own_standings B called_then (call_is_here m B g left) place scope d

    found : IsAt (tasks_below (is_doomed d before) place 0) place.sels 0 at j before one z
    found = found_at (is_doomed d before) place j one z (ap (λ (n : ℕ). is_of_task n j one) deep ∙ sought) 0 at before own (sym (ap (λ (b : Made). call_at b.parts at) is) ∙ there)

    number : found.p ≡ j
    number = omega (arith, found.here)

    stands : stood before j ≡ exists one found.branch found.seen
    stands = ap (stood before) (sym number) ∙ found.stands

    not_over_before : is_over (stood before j) ≡ false
    not_over_before = ap is_over stands ∙ off

    ends_so : again t z (stood before j) ≡ exists z (covered t.call.continue_on z.own.node.phase) found.seen
    ends_so = ap (again t z) stands

    began : (not d.fail_fast || A.begun (task_place place j t).sels) ≡ true
    began = ap (λ (p : Sels). not d.fail_fast || A.begun p) (sym found.own) ∙ begins

    now : standing A called_now place scope d (look before) j t ≡ again t z (stood before j)
    now =
        stands_again A B called_now called_then place scope d (look before) j t one z found.branch found.seen off began new (sym (stood_is B called_then place scope d settle ranked j t task) ∙ stands)
        ∙ sym ends_so

    -- the tree in which the task alone changed
    pub ended_over : StandsOver (is_doomed d before) place us (with_call old at z)
    ended_over = record {
      own = own_put place.sels 0 j before (again t z (stood before j)) own
          (let zeroth : 0 + j ≡ j = omega arith in
          subst (λ (q : ℕ). IsOwn place.sels q (again t z (stood before j))) (sym zeroth)
          (subst (λ (s : Standing). IsOwn place.sels j s) now (own_standing A called_now (call_is_here m A g left) place scope d (look before) j t)));
      depth = deep;
      parts =
          ap (λ (b : Made). replaced b.parts at z) is
          ∙ sym (found.below (covered t.call.continue_on z.own.node.phase) found.seen)
          ∙ (λ i. tasks_below (is_doomed d before) place 0 (put before (number i) (sym ends_so i)));
    }

    pub doomed_before : is_doomed d before ≡ is_doomed d us
    doomed_before =
        still_doomed d before j (again t z (stood before j)) (ap (λ (b : Bool). b && is_bad (branch_of (stood before j))) not_over_before)
        (ap (λ (s : Standing). d.fail_fast && has_failed s) ends_so ∙ never_both d.fail_fast z.own.finished (is_bad (covered t.call.continue_on z.own.node.phase)) spared)

    module _ (ks : List ℕ) (who : (k : ℕ) (u : Task) → slice_get d.tasks k ≡ Some u → is_among (parents d.tasks u) t.call.name ≡ list_any (λ n. n == k) ks) (within : (k : ℕ) → list_any (λ n. n == k) ks ≡ true → k < length d.tasks) (doom : is_doomed d us ≡ false) where
      waits_still : (k : ℕ) → list_any (λ n. n == k) ks ≡ true → stood us k ≡ waiting
      waits_still k among =
          let (u, there) = task_at d.tasks k (within k among) in
          let apart : list_any (λ n. n == j) ks ≡ false = not_itself m A B changed same g left settle place scope d ranked differ j rest way t task z now not_over_before ks who in
          stood_put before j k (again t z (stood before j)) (λ e. (let both : true ≡ false = sym among ∙ ap (λ (q : ℕ). list_any (λ n. n == q) ks) (sym e) ∙ apart in cc both))
          ∙ waited_before m A B changed same g left settle place scope d ranked differ j rest way t task z now not_over_before ks who k u there among

      -- so the tasks that wait for it are looked at
      pub are_behind : AreBehind A called_now place scope d us ks (with_call old at z)
      are_behind = record {
        over = subst (λ (b : Bool). StandsOver b place us (with_call old at z)) (doomed_before ∙ doom) ended_over;
        tasks = ended_tasks B called_then place scope d settle ranked j t z;
        waiting = waits_still;
      }

      pub dag_follows : (state : Made) → HasFollowed A called_now place scope d us ks (with_call old at z) state → GoesOn A called_now place scope d us ks state → dag_made A called_now place scope declared d ≡ state
      dag_follows state follows goes =
          let F = followed A called_now place scope d us us ks in
          let stood_so : standings A called_now place scope d ≡ F =
          standings_followed m A B changed same g left settle place scope d ranked differ j rest way t task z now not_over_before ks who
          (λ k u there among. one_of (λ (n : ℕ). is_over (stands_behind A called_now place scope d us n) ≡ false) ks k follows.not_over among) in
          let doomed : is_doomed d F ≡ false =
          sym (followed_doomed A called_now place scope d us us ks (all_from (λ (k : ℕ). is_over (stood us k) ≡ false) ks (λ k among. ap is_over (waits_still k among))) follows.not_over) ∙ doom in
          let phase : dag_phase d F ≡ Running = by_goes doomed goes in
          let tags = dag_tags F ++ scope in
          ap (dag_by place scope declared d) stood_so
          ∙ (λ k. over_parts place declared (phase k) tags (tasks_below (doomed k) place 0 F))
          ∙ ap (λ (p : Parts). over_parts place declared Running tags p) (sym follows.parts)
          ∙ ap (λ (p : Phase). over_parts place declared p (dag_tags before ++ scope) state.parts) (sym (runs_with d before j (ap is_at_rest stands ∙ off)))
          ∙ sym (ap (λ (b : Made). record b { parts = state.parts }) is)
          ∙ (λ i. record { own = sym follows.own i; parts = state.parts })
        where
          by_goes : is_doomed d (followed A called_now place scope d us us ks) ≡ false → GoesOn A called_now place scope d us ks state → dag_phase d (followed A called_now place scope d us us ks) ≡ Running
          by_goes doomed (inl unfinished) = unfinished_runs d (followed A called_now place scope d us us ks) false place (ap (λ (p : Parts). all_finished (row_in p)) (sym follows.parts) ∙ unfinished)
          by_goes doomed (inr one) = goes_runs A called_now place scope d us ks (put_long before j (again t z (stood before j)) ∙ long B called_then place scope d settle ranked) doomed one
