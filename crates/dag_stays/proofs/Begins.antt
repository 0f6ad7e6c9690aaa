-- A task that was ready begins where no other task sees what it makes: the DAG runs on over one call more.
use Rattle.std.proofs.Common.{◌≡◌, ℕ, zero, suc, ◌+◌, List, [], ◌∷◌, ◌++◌, Bool, true, false, cond, not, ◌&&◌, ◌||◌, Option, Some, None, codes, refl, sym, ap, ◌∙◌, arith}
use Rattle.std.specs.Prelude.{slice_get, option_map, map}
use Rattle.std.specs.List.{list_all, list_any}
use Rattle.std.proofs.lemmas.List.{append_cancel_left}
use Rattle.tree_types.specs.declared.path.Sel.TheVariants.{Task as task_sel}
use Rattle.tree_types.specs.declared.path.Path.{Path}
use Rattle.tree_types.specs.declared.phase.Phase.{Phase}
use Rattle.tree_types.specs.declared.phase.Phase.TheVariants.{Running}
use Rattle.tree_types.specs.Places.{sels_eq}
use Rattle.tree_types.specs.Phases.{worst_of}
use Rattle.tree_types.proofs.Sels.{sels_same}
use Rattle.wf_manifest.specs.declared.calls.Task.{Task}
use Rattle.wf_manifest.specs.declared.calls.Dag.{Dag}
use Rattle.wf_manifest.specs.Valid.{HasRank}
use Rattle.wf_manifest.specs.declared.manifest.Manifest.{Manifest}
use Rattle.wf_manifest.specs.declared.templates.OutputDecl.{OutputDecl}
use Rattle.scopes.specs.Substitution.{Scope}
use Rattle.meaning.specs.declared.lines.Place.{Place}
use Rattle.meaning.specs.Answers.{Sels, Answers, path}
use Rattle.meaning.specs.Lines.{Made, Parts, nothing, call, may_begin, row_in, all_finished}
use Rattle.meaning.specs.Steps.{Caller, covered}
use Rattle.depends_expr.specs.Expression.{Expression}
use Rattle.depends_expr.specs.Truth.{truth, named}
use Rattle.meaning.specs.Dags.{Names, awaited, named_by, parents, is_meant, Standing, waiting, ready, exists, is_over, branch_of, Look, Standings, look, task_place, tags_before, begun_task, free_by, decided_by, waits_by, result_of, meant, meant_by, standing, has_failed, targets, is_doomed, is_ready, is_at_rest, may_go_on, dag_phase, task_then, tasks_below, standings, dag_tags, dag_by, dag_made}
use Rattle.meaning.specs.Calls.{calls}
use Rattle.growth.specs.Rounds.{RoundsSettle}
use Rattle.locality.specs.Answered.{SameBut}
use Rattle.dag_board.specs.Boards.{stood}
use Rattle.dag_board.proofs.Lookups.{stood_is}
use Rattle.tree_state.specs.Beginning.{begun}
use Rattle.dag_stays.specs.Unseen.{IsUnseen}
use Rattle.dag_stays.specs.Behind.{put}
use Rattle.dag_stays.proofs.RunsOn.{never, still_doomed, unfinished_runs, over_parts, seen_not_over, seen_not_failed, standings_by_either}

-- ---- the task itself

module _ (A B : Answers) (called other : Caller) (place : Place) (scope : Scope) (d : Dag) (l : Look) (j : ℕ) (t : Task) (begins : (not d.fail_fast || A.begun (task_place place j t).sels) ≡ true) where
  abbrev begun_behind : Names → Standing
  begun_behind ns = begun_task A called place scope d (tags_before l ns) j t

  begins_decided : (e : Expression) (b : Bool) → decided_by B other place scope d l j t e b ≡ ready → decided_by A called place scope d l j t e b ≡ begun_behind (named e)
  begins_decided e false was = absurd (cc was)
  begins_decided e true was = ap (free_by A called place scope d (tags_before l (named e)) j t) begins

  begins_waits : (e : Expression) (b : Bool) → waits_by B other place scope d l j t e b ≡ ready → waits_by A called place scope d l j t e b ≡ begun_behind (named e)
  begins_waits e false was = absurd (cc was)
  begins_waits e true was = begins_decided e (truth (λ n. result_of (l n)) e) was

  begins_meant : (w : Option Expression) → meant B other place scope d l j t w ≡ ready → meant A called place scope d l j t w ≡ begun_behind (named_by w)
  begins_meant None was = ap (free_by A called place scope d [] j t) begins
  begins_meant (Some e) was = begins_waits e (list_all (λ n. is_over (l n)) (named e)) was

  begins_by : (b : Bool) → meant_by B other place scope d l j t b ≡ ready → meant_by A called place scope d l j t b ≡ begun_behind (parents d.tasks t)
  begins_by false was = absurd (cc was)
  begins_by true was = begins_meant (awaited d.tasks t) was

  begins_as : (z : Made) → z ≡ called (codes "tasks.") (task_place place j t) (tags_before l (parents d.tasks t) ++ scope) t.call → standing B other place scope d l j t ≡ ready →
      standing A called place scope d l j t ≡ exists z (covered t.call.continue_on z.own.node.phase) (tags_before l (parents d.tasks t))
  begins_as z is was =
      begins_by (is_meant d t) was ∙ (λ k. exists (sym is k) (covered t.call.continue_on (sym is k).own.node.phase) (tags_before l (parents d.tasks t)))

-- ---- its place among what stands below the DAG

-- the task that may begin stands at position p, and what it makes then stands there
record BeginsAt (under : Standings → Parts) (i j : ℕ) (ss : Standings) (doomed : Bool) (z : Made) (parts : Parts) : Type 0 where
  p : ℕ
  here : i + p ≡ j
  stands : stood ss p ≡ ready
  spared : doomed ≡ false
  below : (b : Phase) (s : Scope) → under (put ss p (exists z b s)) ≡ parts

mapped : {X Y : Type 0} (f : X → Y) (o : Option X) (y : Y) → option_map f o ≡ Some y → (x : X) × (o ≡ Some x) × (f x ≡ y)
mapped f None y e = absurd (cc e)
mapped f (Some x) y e = (x, refl, cc e)

module _ (doomed : Bool) (place : Place) (j : ℕ) (z : Made) (at : Path) (is_at : at.sels ≡ place.sels ++ task_sel j ∷ []) where
  abbrev first_by : Bool → ℕ → Standings → Parts
  first_by b i [] = nothing
  first_by b i (s ∷ ss) = task_then b (task_place place i s.0) s.1 (tasks_below doomed place (suc i) ss)

  first_is : (i : ℕ) (ss : Standings) → first_by doomed i ss ≡ tasks_below doomed place i ss
  first_is i [] = refl
  first_is i (s ∷ ss) = refl

  number : (i : ℕ) (t : Task) → sels_eq (task_place place i t).sels at.sels ≡ true → i ≡ j
  number i t e =
      let same : place.sels ++ task_sel i ∷ [] ≡ place.sels ++ task_sel j ∷ [] = sels_same (task_place place i t).sels at.sels e ∙ is_at in
      let last : ◌≡◌ {A = Sels} (task_sel i ∷ []) (task_sel j ∷ []) = append_cancel_left place.sels (task_sel i ∷ []) (task_sel j ∷ []) same in
      cc last

  module _ (i : ℕ) (t : Task) (ss : Standings) (later : (parts : Parts) → begun (tasks_below doomed place (suc i) ss) at z ≡ Some parts → BeginsAt (tasks_below doomed place (suc i)) (suc i) j ss doomed z parts) where
    abbrev rest : Parts
    rest = tasks_below doomed place (suc i) ss

    by_ready : (c : Bool) (parts : Parts) → doomed ≡ false → sels_eq (task_place place i t).sels at.sels ≡ c →
        cond c (Some (call z.own z.parts rest)) (option_map (may_begin (path (task_place place i t).sels)) (begun rest at z)) ≡ Some parts → BeginsAt (first_by false i) i j ((t, ready) ∷ ss) doomed z parts
    by_ready true parts spared here is =
        record { p = zero; here = omega (arith, number i t here); stands = refl; spared = spared; below = λ b s. cc is }
    by_ready false parts spared here is =
        let (inner, found, same) = mapped (may_begin (path (task_place place i t).sels)) (begun rest at z) parts is in
        let r = later inner found in
        record { p = suc r.p; here = omega (arith, r.here); stands = r.stands; spared = spared; below = λ b s. ap (may_begin (path (task_place place i t).sels)) (r.below b s) ∙ same }

    by_standing : (b : Bool) (x : Standing) (parts : Parts) → b ≡ doomed → begun (task_then b (task_place place i t) x rest) at z ≡ Some parts → BeginsAt (first_by b i) i j ((t, x) ∷ ss) doomed z parts
    by_standing true waiting parts same is = let r = later parts is in record { p = suc r.p; here = omega (arith, r.here); stands = r.stands; spared = r.spared; below = r.below }
    by_standing false waiting parts same is = let r = later parts is in record { p = suc r.p; here = omega (arith, r.here); stands = r.stands; spared = r.spared; below = r.below }
    by_standing true ready parts same is = let r = later parts is in record { p = suc r.p; here = omega (arith, r.here); stands = r.stands; spared = r.spared; below = r.below }
    by_standing false ready parts same is = by_ready (sels_eq (task_place place i t).sels at.sels) parts (sym same) refl is
    by_standing true (exists m branch seen) parts same is =
        let (inner, found, whole) = mapped (call m.own m.parts) (begun rest at z) parts is in
        let r = later inner found in
        record { p = suc r.p; here = omega (arith, r.here); stands = r.stands; spared = r.spared; below = λ b s. ap (call m.own m.parts) (r.below b s) ∙ whole }
    by_standing false (exists m branch seen) parts same is =
        let (inner, found, whole) = mapped (call m.own m.parts) (begun rest at z) parts is in
        let r = later inner found in
        record { p = suc r.p; here = omega (arith, r.here); stands = r.stands; spared = r.spared; below = λ b s. ap (call m.own m.parts) (r.below b s) ∙ whole }

  begun_at : (i : ℕ) (ss : Standings) (parts : Parts) → begun (tasks_below doomed place i ss) at z ≡ Some parts → BeginsAt (tasks_below doomed place i) i j ss doomed z parts
  begun_at i [] parts is = absurd (cc is)
  begun_at i (s ∷ ss) parts is =
      let r = by_standing i s.0 ss (λ inner found. begun_at (suc i) ss inner found) doomed s.1 parts refl is in
      record { p = r.p; here = r.here; stands = r.stands; spared = r.spared; below = λ b x. sym (first_is i (put (s ∷ ss) r.p (exists z b x))) ∙ r.below b x }

-- ---- a DAG of which a task may begin

any_ready : (ss : Standings) (p : ℕ) → stood ss p ≡ ready → list_any (λ s. is_ready s.1) ss ≡ true
any_ready [] p is = absurd (cc is)
any_ready (s ∷ ss) zero is = ap (λ (x : Standing). is_ready x || list_any (λ u. is_ready u.1) ss) is
any_ready (s ∷ ss) (suc p) is = ap (λ (b : Bool). is_ready s.1 || b) (any_ready ss p is) ∙ always (is_ready s.1)
  where
    always : (b : Bool) → (b || true) ≡ true
    always true = refl
    always false = refl

pub ready_runs : (d : Dag) (ss : Standings) (p : ℕ) → stood ss p ≡ ready → is_doomed d ss ≡ false → dag_phase d ss ≡ Running
ready_runs d ss p is spared =
    let on : may_go_on d ss ≡ true = ap (λ (b : Bool). not b && list_any (λ s. is_ready s.1) ss) spared ∙ any_ready ss p is in
    ap (λ (b : Bool). cond (list_all (λ s. is_at_rest s.1) ss && not b) (worst_of (map branch_of (targets d ss))) Running) on
    ∙ ap (λ (b : Bool). cond b (worst_of (map branch_of (targets d ss))) Running) (never (list_all (λ s. is_at_rest s.1) ss))

module _ (m : Manifest) (A B : Answers) (changed : Sels) (same : SameBut A B changed) (g : Scope) (left : ℕ) (settle : RoundsSettle) where
  abbrev called_now : Caller
  called_now = calls m A g left

  abbrev called_then : Caller
  called_then = calls m B g left

  -- the tags that a task sees of those that it waits for
  abbrev pub tags_seen : Place → Scope → Dag → Task → Scope
  tags_seen place scope d t = tags_before (look (standings B called_then place scope d)) (parents d.tasks t)

  pub dag_begins : (place : Place) (scope : Scope) (declared : List OutputDecl) (d : Dag) → HasRank d.tasks → (j : ℕ) (rest : Sels) (old z : Made) (parts : Parts) (t : Task) (at : Path) → changed ≡ place.sels ++ task_sel j ∷ rest →
      old ≡ dag_made B called_then place scope declared d → slice_get d.tasks j ≡ Some t → at.sels ≡ (task_place place j t).sels →
      (not d.fail_fast || A.begun (task_place place j t).sels) ≡ true → z ≡ called_now (codes "tasks.") (task_place place j t) (tags_seen place scope d t ++ scope) t.call → IsUnseen d t z →
      begun old.parts at z ≡ Some parts → all_finished (row_in parts) ≡ false → dag_made A called_now place scope declared d ≡ record old { parts = parts }
  dag_begins place scope declared d ranked j rest old z parts t at way is task here begins new unseen there goes_on =
      let ss = standings B called_then place scope d in
      let found = begun_at (is_doomed d ss) place j z at here 0 ss parts (sym (ap (λ (b : Made). begun b.parts at z) is) ∙ there) in
      let number : found.p ≡ j = omega (arith, found.here) in
      let stands : stood ss j ≡ ready = ap (stood ss) (sym number) ∙ found.stands in
      let seen : Scope = tags_seen place scope d t in
      let x : Standing = exists z (covered t.call.continue_on z.own.node.phase) seen in
      let us : Standings = put ss j x in
      let below : tasks_below (is_doomed d ss) place 0 us ≡ parts =
      ap (λ (p : ℕ). tasks_below (is_doomed d ss) place 0 (put ss p x)) (sym number) ∙ found.below (covered t.call.continue_on z.own.node.phase) seen in
      let over : is_over (stood ss j) ≡ false = ap is_over stands in
      let fallen : has_failed (stood ss j) ≡ false = ap has_failed stands in
      let doomed : is_doomed d ss ≡ is_doomed d us = still_doomed d ss j x fallen (seen_not_failed d t z seen unseen) in
      let now : standing A called_now place scope d (look ss) j t ≡ x =
      begins_as A B called_now called_then place scope d (look ss) j t begins z new (sym (stood_is B called_then place scope d settle ranked j t task) ∙ stands) in
      let phase : dag_phase d us ≡ Running = unfinished_runs d us (is_doomed d ss) place (ap (λ (p : Parts). all_finished (row_in p)) below ∙ goes_on) in
      ap (dag_by place scope declared d) (standings_by_either m A B changed same g left settle place scope d ranked j rest way t task x now over (seen_not_over d t z (covered t.call.continue_on z.own.node.phase) seen unseen))
      ∙ (λ k. over_parts place declared (phase k) (dag_tags us ++ scope) (tasks_below (sym doomed k) place 0 us))
      ∙ ap (λ (p : Parts). over_parts place declared Running (dag_tags us ++ scope) p) below
      ∙ ap (λ (p : Phase). over_parts place declared p (dag_tags ss ++ scope) parts) (sym (ready_runs d ss j stands found.spared))
      ∙ sym (ap (λ (b : Made). record b { parts = parts }) is)

  -- the same of the state that stands over one call more
  pub dag_begins_as : (place : Place) (scope : Scope) (declared : List OutputDecl) (d : Dag) → HasRank d.tasks → (j : ℕ) (rest : Sels) (old z state : Made) (t : Task) (at : Path) → changed ≡ place.sels ++ task_sel j ∷ rest →
      old ≡ dag_made B called_then place scope declared d → slice_get d.tasks j ≡ Some t → at.sels ≡ (task_place place j t).sels →
      (not d.fail_fast || A.begun (task_place place j t).sels) ≡ true → z ≡ called_now (codes "tasks.") (task_place place j t) (tags_seen place scope d t ++ scope) t.call → IsUnseen d t z →
      option_map (λ (parts : Parts). record old { parts = parts }) (begun old.parts at z) ≡ Some state → all_finished (row_in state.parts) ≡ false → dag_made A called_now place scope declared d ≡ state
  dag_begins_as place scope declared d ranked j rest old z state t at way is task here begins new unseen found goes_on =
      let (parts, there, same_state) = mapped (λ (p : Parts). record old { parts = p }) (begun old.parts at z) state found in
      dag_begins place scope declared d ranked j rest old z parts t at way is task here begins new unseen there (ap (λ (b : Made). all_finished (row_in b.parts)) same_state ∙ goes_on)
      ∙ same_state
