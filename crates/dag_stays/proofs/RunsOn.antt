-- A DAG of which a task runs on: no other task sees anything of what it makes.
use Rattle.std.proofs.Common.{◌≡◌, inl, inr, ℕ, zero, suc, ◌+◌, ◌<◌, List, [], ◌∷◌, ◌++◌, Bool, true, false, cond, not, ◌&&◌, ◌||◌, length, map, Option, Some, None, codes, refl, sym, ap, ◌∙◌, subst, arith}
use Rattle.std.specs.Prelude.{slice_get, bytes_eq, ◌⊎◌}
use Rattle.base_types.specs.Names.{is_among}
use Rattle.std.specs.List.{list_all, list_any, filter}
use Rattle.std.proofs.lemmas.Bool.{eqb-true, ne_eqb}
use Rattle.tree_types.specs.declared.path.Sel.TheVariants.{Task as task_sel}
use Rattle.tree_types.specs.declared.phase.Phase.{Phase}
use Rattle.tree_types.specs.declared.phase.Phase.TheVariants.{Running, Omitted}
use Rattle.tree_types.specs.declared.node.Kind.TheVariants as kind
use Rattle.tree_types.specs.declared.node.Note.TheVariants as note
use Rattle.tree_types.specs.Phases.{worst_of}
use Rattle.depends_expr.specs.Expression.{Expression}
use Rattle.depends_expr.specs.Truth.{truth, named}
use Rattle.wf_manifest.specs.declared.calls.Task.{Task}
use Rattle.wf_manifest.specs.declared.calls.Dag.{Dag}
use Rattle.wf_manifest.specs.Valid.{HasRank}
use Rattle.wf_manifest.specs.declared.manifest.Manifest.{Manifest}
use Rattle.wf_manifest.specs.declared.templates.OutputDecl.{OutputDecl}
use Rattle.scopes.specs.Substitution.{Scope}
use Rattle.meaning.specs.declared.lines.Place.{Place}
use Rattle.meaning.specs.Answers.{Sels, Answers, path}
use Rattle.meaning.specs.Lines.{numbered, Made, Parts, alone, nothing, call, may_begin, no_outputs, made, row_in, all_finished}
use Rattle.meaning.specs.Steps.{Caller, covered}
use Rattle.meaning.specs.Dags.{Names, awaited, named_by, parents, is_meant, Standing, waiting, ready, exists, is_over, result_of, branch_of, Look, Standings, look, task_place, tags_before, free_by, free, decided_by, waits_by, meant, meant_by, standing, is_bad, is_existing, has_failed, target_names, targets, is_doomed, is_last, is_at_rest, may_go_on, dag_phase, task_then, tasks_below, standings_by, standings, dag_tags, dag_by, dag_made}
use Rattle.meaning.specs.Calls.{calls}
use Rattle.meaning.specs.Outputs.{computed, ended_node}
use Rattle.growth.proofs.DagRounds.{Agree, awaited_same}
use Rattle.growth.specs.Rounds.{RoundsSettle}
use Rattle.locality.specs.Paths.{IsOff}
use Rattle.locality.specs.Answered.{SameBut}
use Rattle.locality.proofs.Paths.{off_other_child}
use Rattle.locality.proofs.OffPath.{task_stays}
use Rattle.dag_board.specs.Boards.{stood}
use Rattle.dag_board.proofs.Lookups.{rows_are, stood_is}
use Rattle.tree_state.specs.Replacing.{call_at, replaced, with_call}
use Rattle.dag_stays.specs.ByTask.{is_of_task}
use Rattle.dag_stays.specs.Unseen.{IsUnseen}
use Rattle.dag_stays.specs.Behind.{put}
use Rattle.dag_stays.proofs.Placed.{ended, call_is_here}
use Rattle.dag_stays.specs.Over.{IsOwn, AreOwn}
use Rattle.dag_stays.proofs.Found.{own_standings, is_sought}

-- ---- how two tasks look

-- the same, or neither is over
abbrev pub Near : Standing → Standing → Type 0
Near s u = (s ≡ u) ⊎ ((is_over s ≡ false) × (is_over u ≡ false))

-- the same, or neither has failed
abbrev Close : Standing → Standing → Type 0
Close s u = (s ≡ u) ⊎ ((has_failed s ≡ false) × (has_failed u ≡ false))

pub never : (b : Bool) → (b && false) ≡ false
never true = refl
never false = refl

-- looks agree on these names, or by neither all of them are over
abbrev all_over : Look → Names → Bool
all_over l ns = list_all (λ n. is_over (l n)) ns

abbrev pub AgreeOrWait : Look → Look → Names → Type 0
AgreeOrWait at by ns = Agree at by ns ⊎ ((all_over at ns ≡ false) × (all_over by ns ≡ false))

-- looks that differ in tasks alone that are not over
module _ (at by : Look) (near : (n : List ℕ) → Near (at n) (by n)) where
  pub agree_or_wait : (ns : Names) → AgreeOrWait at by ns
  agree_or_wait [] = inl tt
  agree_or_wait (n ∷ ns) = both (near n) (agree_or_wait ns)
    where
      both : Near (at n) (by n) → AgreeOrWait at by ns → AgreeOrWait at by (n ∷ ns)
      both (inl same) (inl others) = inl (same, others)
      both (inl same) (inr off) = inr (ap (λ (b : Bool). is_over (at n) && b) off.0 ∙ never (is_over (at n)), ap (λ (b : Bool). is_over (by n) && b) off.1 ∙ never (is_over (by n)))
      both (inr run) others = inr (ap (λ (b : Bool). b && all_over at ns) run.0, ap (λ (b : Bool). b && all_over by ns) run.1)

neither : (a b : Bool) → (a || b) ≡ false → (a ≡ false) × (b ≡ false)
neither true b e = absurd (cc e)
neither false b e = (refl, e)

-- looks that differ in one name alone, where it is not among these
agree_but : (at by : Look) (name : List ℕ) → ((n : List ℕ) → bytes_eq name n ≡ false → at n ≡ by n) → (ns : Names) → is_among ns name ≡ false → Agree at by ns
agree_but at by name same [] off = tt
agree_but at by name same (n ∷ ns) off =
    let parts = neither (bytes_eq name n) (is_among ns name) off in
    (same n parts.0, agree_but at by name same ns parts.1)

-- then a task that waits for these stands the same
module _ (at by : Look) (A : Answers) (called : Caller) (place : Place) (scope : Scope) (d : Dag) (i : ℕ) (t : Task) where
  waits_alike : (e : Expression) → AgreeOrWait at by (named e) → meant A called place scope d at i t (Some e) ≡ meant A called place scope d by i t (Some e)
  waits_alike e (inl agree) = awaited_same A called place scope d at by i t e agree
  waits_alike e (inr off) = ap (waits_by A called place scope d at i t e) off.0 ∙ sym (ap (waits_by A called place scope d by i t e) off.1)

  meant_alike : (w : Option Expression) → AgreeOrWait at by (named_by w) → meant A called place scope d at i t w ≡ meant A called place scope d by i t w
  meant_alike None alike = refl
  meant_alike (Some e) alike = waits_alike e alike

  by_alike : (b : Bool) → AgreeOrWait at by (parents d.tasks t) → meant_by A called place scope d at i t b ≡ meant_by A called place scope d by i t b
  by_alike false alike = refl
  by_alike true alike = meant_alike (awaited d.tasks t) alike

  pub standing_alike : AgreeOrWait at by (parents d.tasks t) → standing A called place scope d at i t ≡ standing A called place scope d by i t
  standing_alike alike = by_alike (is_meant d t) alike

-- no more targets have failed by the one look than by the other
module _ (at by : Look) (close : (n : List ℕ) → Close (at n) (by n)) where
  not_fallen : (s : Standing) (xs : List Standing) → has_failed s ≡ false → list_any has_failed (cond (is_existing s) (s ∷ xs) xs) ≡ list_any has_failed xs
  not_fallen s xs off = by_existing (is_existing s)
    where
      by_existing : (b : Bool) → list_any has_failed (cond b (s ∷ xs) xs) ≡ list_any has_failed xs
      by_existing true = ap (λ (b : Bool). b || list_any has_failed xs) off
      by_existing false = refl

  fallen_close : (ns : Names) → list_any has_failed (filter is_existing (map at ns)) ≡ list_any has_failed (filter is_existing (map by ns))
  fallen_close [] = refl
  fallen_close (n ∷ ns) = one (close n) (fallen_close ns)
    where
      one : Close (at n) (by n) → list_any has_failed (filter is_existing (map at ns)) ≡ list_any has_failed (filter is_existing (map by ns)) →
          list_any has_failed (filter is_existing (map at (n ∷ ns))) ≡ list_any has_failed (filter is_existing (map by (n ∷ ns)))
      one (inr both) others =
          not_fallen (at n) (filter is_existing (map at ns)) both.0 ∙ others ∙ sym (not_fallen (by n) (filter is_existing (map by ns)) both.1)
      one (inl same) others = first (is_existing (at n)) (is_existing (by n)) (ap is_existing same)
        where
          first : (b c : Bool) → b ≡ c → list_any has_failed (cond b (at n ∷ filter is_existing (map at ns)) (filter is_existing (map at ns))) ≡ list_any has_failed (cond c (by n ∷ filter is_existing (map by ns)) (filter is_existing (map by ns)))
          first true true e = λ k. has_failed (same k) || others k
          first false false e = others
          first true false e = absurd (cc e)
          first false true e = absurd (cc e)

-- ---- one task stands otherwise

-- each looks related
pub put_looks : (R : Standing → Standing → Type 0) → ((s : Standing) → R s s) → (ss : Standings) (p : ℕ) (x : Standing) → R (stood ss p) x → (n : List ℕ) → R (look ss n) (look (put ss p x) n)
put_looks R self [] p x related n = self waiting
put_looks R self (s ∷ ss) zero x related n = named_so (bytes_eq s.0.call.name n)
  where
    named_so : (b : Bool) → R (cond b s.1 (look ss n)) (cond b x (look ss n))
    named_so true = related
    named_so false = self (look ss n)
put_looks R self (s ∷ ss) (suc p) x related n = named_so (bytes_eq s.0.call.name n) (put_looks R self ss p x related n)
  where
    named_so : (b : Bool) → R (look ss n) (look (put ss p x) n) → R (cond b s.1 (look ss n)) (cond b s.1 (look (put ss p x) n))
    named_so true later = self s.1
    named_so false later = later

-- and the tasks of other names stand the same
put_others : (ss : Standings) (p : ℕ) (x : Standing) (t : Task) → slice_get (map (λ (s : Task × Standing). s.0) ss) p ≡ Some t → (n : List ℕ) → bytes_eq t.call.name n ≡ false → look ss n ≡ look (put ss p x) n
put_others [] p x t task n other = refl
put_others (s ∷ ss) zero x t task n other =
    let one_task : s.0 ≡ t = cc task in
    let off : bytes_eq s.0.call.name n ≡ false = ap (λ (u : Task). bytes_eq u.call.name n) one_task ∙ other in
    ap (λ (b : Bool). cond b s.1 (look ss n)) off ∙ sym (ap (λ (b : Bool). cond b x (look ss n)) off)
put_others (s ∷ ss) (suc p) x t task n other = ap (λ (u : Standing). cond (bytes_eq s.0.call.name n) s.1 u) (put_others ss p x t task n other)

not_at_rest : (ss : Standings) (p : ℕ) → is_at_rest (stood ss p) ≡ false → list_all (λ s. is_at_rest s.1) ss ≡ false
not_at_rest [] p run = absurd (cc run)
not_at_rest (s ∷ ss) zero run = ap (λ (b : Bool). b && list_all (λ u. is_at_rest u.1) ss) run
not_at_rest (s ∷ ss) (suc p) run = ap (λ (b : Bool). is_at_rest s.1 && b) (not_at_rest ss p run) ∙ never (is_at_rest s.1)

-- a DAG of which a task runs
pub runs_with : (d : Dag) (ss : Standings) (p : ℕ) → is_at_rest (stood ss p) ≡ false → dag_phase d ss ≡ Running
runs_with d ss p run = ap (λ (b : Bool). cond (b && not (may_go_on d ss)) (worst_of (map branch_of (targets d ss))) Running) (not_at_rest ss p run)

doomed_alike : (d : Dag) (ss : Standings) (p : ℕ) (x : Standing) → has_failed (stood ss p) ≡ false → has_failed x ≡ false → is_doomed d ss ≡ is_doomed d (put ss p x)
doomed_alike d ss p x was is = ap (λ (b : Bool). d.fail_fast && b) (fallen_close (look ss) (look (put ss p x)) (put_looks Close (λ s. inl refl) ss p x (inr (was, is))) (target_names d))

-- a DAG that no failure dooms
never_doomed : (d : Dag) (ss us : Standings) → d.fail_fast ≡ false → is_doomed d ss ≡ is_doomed d us
never_doomed d ss us off = ap (λ (b : Bool). b && list_any has_failed (targets d ss)) off ∙ sym (ap (λ (b : Bool). b && list_any has_failed (targets d us)) off)

-- where no failure dooms it, or the task has not failed
pub still_doomed : (d : Dag) (ss : Standings) (p : ℕ) (x : Standing) → has_failed (stood ss p) ≡ false → (d.fail_fast && has_failed x) ≡ false → is_doomed d ss ≡ is_doomed d (put ss p x)
still_doomed d ss p x was is = by_fast d.fail_fast refl is
  where
    by_fast : (b : Bool) → d.fail_fast ≡ b → (b && has_failed x) ≡ false → is_doomed d ss ≡ is_doomed d (put ss p x)
    by_fast false fast off = never_doomed d ss (put ss p x) fast
    by_fast true fast off = doomed_alike d ss p x was off

-- a DAG below which some call is not finished
module _ (doomed : Bool) (place : Place) where
  row_rests : (i : ℕ) (ss : Standings) → all_finished (row_in (tasks_below doomed place i ss)) ≡ list_all (λ s. is_at_rest s.1) ss
  row_rests i [] = refl
  row_rests i (s ∷ ss) = by_standing doomed s.1 (row_rests (suc i) ss)
    where
      by_standing : (b : Bool) (x : Standing) → all_finished (row_in (tasks_below doomed place (suc i) ss)) ≡ list_all (λ u. is_at_rest u.1) ss →
          all_finished (row_in (task_then b (task_place place i s.0) x (tasks_below doomed place (suc i) ss))) ≡ (is_at_rest x && list_all (λ u. is_at_rest u.1) ss)
      by_standing true waiting later = later
      by_standing false waiting later = later
      by_standing true ready later = later
      by_standing false ready later = later
      by_standing true (exists m branch seen) later = ap (λ (b : Bool). m.own.finished && b) later
      by_standing false (exists m branch seen) later = ap (λ (b : Bool). m.own.finished && b) later

pub unfinished_runs : (d : Dag) (ss : Standings) (doomed : Bool) (place : Place) → all_finished (row_in (tasks_below doomed place 0 ss)) ≡ false → dag_phase d ss ≡ Running
unfinished_runs d ss doomed place off =
    ap (λ (b : Bool). cond (b && not (may_go_on d ss)) (worst_of (map branch_of (targets d ss))) Running) (sym (row_rests doomed place 0 ss) ∙ off)

module _ (f h : ℕ → Task → Standing) (sees : Task → Bool) where
  rest_same : (i : ℕ) (ts : List Task) → list_any sees ts ≡ false → ((k : ℕ) (t : Task) → sees t ≡ false → i < suc k → f k t ≡ h k t) → ◌≡◌ {A = Standings} (numbered (λ k t. (t, f k t)) i ts) (numbered (λ k t. (t, h k t)) i ts)
  rest_same i [] none same = refl
  rest_same i (t ∷ ts) none same =
      let parts = neither (sees t) (list_any sees ts) none in
      λ j. (t, same i t parts.0 (omega arith) j) ∷ rest_same (suc i) ts parts.1 (λ k u off lt. same k u off (omega arith)) j

  -- all but the task at position p, from task i on, stand the same
  put_rows : (i p : ℕ) (ts : List Task) (x : Standing) → list_any sees ts ≡ false → ((k : ℕ) (t : Task) → sees t ≡ false → (k ≡ i + p → ⊥) → f k t ≡ h k t) → ((t : Task) → slice_get ts p ≡ Some t → x ≡ h (i + p) t) →
      put (numbered (λ k t. (t, f k t)) i ts) p x ≡ numbered (λ k t. (t, h k t)) i ts
  put_rows i p [] x none same here = refl
  put_rows i zero (t ∷ ts) x none same here =
      let parts = neither (sees t) (list_any sees ts) none in
      let now : x ≡ h i t = here t refl ∙ ap (λ (n : ℕ). h n t) (omega arith) in
      λ j. (t, now j) ∷ rest_same (suc i) ts parts.1 (λ k u off lt. same k u off (λ e. omega (arith, e))) j
  put_rows i (suc p) (t ∷ ts) x none same here =
      let parts = neither (sees t) (list_any sees ts) none in
      let first : f i t ≡ h i t = same i t parts.0 (λ e. omega (arith, e)) in
      λ j. (t, first j) ∷ put_rows (suc i) p ts x parts.1 (λ k u off apart. same k u off (λ e. apart (omega (arith, e)))) (λ u found. here u found ∙ ap (λ (n : ℕ). h n u) (omega arith)) j

pub tasks_kept : (f : ℕ → Task → Standing) (i : ℕ) (ts : List Task) → map (λ (s : Task × Standing). s.0) (numbered (λ k t. (t, f k t)) i ts) ≡ ts
tasks_kept f i [] = refl
tasks_kept f i (t ∷ ts) = ap (λ (us : List Task). t ∷ us) (tasks_kept f (suc i) ts)

none_sees : (ts : List Task) → list_any (λ (u : Task). false) ts ≡ false
none_sees [] = refl
none_sees (t ∷ ts) = none_sees ts

one_sees : (sees : Task → Bool) (ts : List Task) (p : ℕ) (t : Task) → list_any sees ts ≡ false → slice_get ts p ≡ Some t → sees t ≡ false
one_sees sees [] p t none there = absurd (cc there)
one_sees sees (u ∷ ts) zero t none there =
    let same : u ≡ t = cc there in
    ap sees (sym same) ∙ (neither (sees u) (list_any sees ts) none).0
one_sees sees (u ∷ ts) (suc p) t none there = one_sees sees ts p t (neither (sees u) (list_any sees ts) none).1 there

-- ---- the task itself

module _ (A B : Answers) (called other : Caller) (place : Place) (scope : Scope) (d : Dag) (at : Look) (j : ℕ) (t : Task) (one z : Made) (branch : Phase) (seen : Scope) (off : one.own.finished ≡ false)
    (begins : (not d.fail_fast || A.begun (task_place place j t).sels) ≡ true)
    (new : (s : Scope) → one ≡ other (codes "tasks.") (task_place place j t) (s ++ scope) t.call → called (codes "tasks.") (task_place place j t) (s ++ scope) t.call ≡ z) where
  abbrev was : Standing
  was = exists one branch seen

  abbrev is_now : Standing
  is_now = exists z (covered t.call.continue_on z.own.node.phase) seen

  again_free : (s : Scope) (b : Bool) → free_by B other place scope d s j t b ≡ was → free A called place scope d s j t ≡ is_now
  again_free s false is = absurd (cc is)
  again_free s true is =
      let before : one ≡ other (codes "tasks.") (task_place place j t) (s ++ scope) t.call = cc is in
      let sees : s ≡ seen = cc is in
      let made : called (codes "tasks.") (task_place place j t) (s ++ scope) t.call ≡ z = new s before in
      ap (free_by A called place scope d s j t) begins
      ∙ (λ k. exists (made k) (covered t.call.continue_on (made k).own.node.phase) (sees k))

  again_decided : (e : Expression) (b : Bool) → decided_by B other place scope d at j t e b ≡ was → decided_by A called place scope d at j t e b ≡ is_now
  again_decided e true is = again_free (tags_before at (named e)) (not d.fail_fast || B.begun (task_place place j t).sels) is
  again_decided e false is =
      let same : alone (task_place place j t) kind.Skipped Omitted note.DependsFalse ≡ one = cc is in
      let over : true ≡ false = ap (λ (m : Made). m.own.finished) same ∙ off in
      absurd (cc over)

  again_waits : (e : Expression) (b : Bool) → waits_by B other place scope d at j t e b ≡ was → waits_by A called place scope d at j t e b ≡ is_now
  again_waits e false is = absurd (cc is)
  again_waits e true is = again_decided e (truth (λ n. result_of (at n)) e) is

  again_meant : (w : Option Expression) → meant B other place scope d at j t w ≡ was → meant A called place scope d at j t w ≡ is_now
  again_meant None is = again_free [] (not d.fail_fast || B.begun (task_place place j t).sels) is
  again_meant (Some e) is = again_waits e (list_all (λ n. is_over (at n)) (named e)) is

  again_by : (b : Bool) → meant_by B other place scope d at j t b ≡ was → meant_by A called place scope d at j t b ≡ is_now
  again_by false is = absurd (cc is)
  again_by true is = again_meant (awaited d.tasks t) is

  pub stands_again : standing B other place scope d at j t ≡ was → standing A called place scope d at j t ≡ is_now
  stands_again is = again_by (is_meant d t) is

-- ---- its call among those below the DAG

-- the call at a position is the one of the task that stands at position p, and once the task makes something else only that call is another
pub record IsAt (under : Standings → Parts) (at_dag : Sels) (i at j : ℕ) (ss : Standings) (one z : Made) : Type 0 where
  pub p : ℕ
  pub own : one.own.node.path.sels ≡ at_dag ++ task_sel j ∷ []
  pub here : i + p ≡ j
  pub branch : Phase
  pub seen : Scope
  pub stands : stood ss p ≡ exists one branch seen
  pub below : (b : Phase) (s : Scope) → under (put ss p (exists z b s)) ≡ replaced (under ss) at z

module _ (doomed : Bool) (place : Place) (j : ℕ) (one z : Made) (sought : is_of_task (length place.sels) j one ≡ true) where
  abbrev first_by : Bool → ℕ → Standings → Parts
  first_by b i [] = nothing
  first_by b i (s ∷ ss) = task_then b (task_place place i s.0) s.1 (tasks_below doomed place (suc i) ss)

  first_is : (i : ℕ) (ss : Standings) → first_by doomed i ss ≡ tasks_below doomed place i ss
  first_is i [] = refl
  first_is i (s ∷ ss) = refl

  module _ (i : ℕ) (t : Task) (ss : Standings) (later : (at : ℕ) → call_at (tasks_below doomed place (suc i) ss) at ≡ Some one → IsAt (tasks_below doomed place (suc i)) place.sels (suc i) at j ss one z) where
    by_standing : (b : Bool) (x : Standing) (at : ℕ) → IsOwn place.sels i x → call_at (task_then b (task_place place i t) x (tasks_below doomed place (suc i) ss)) at ≡ Some one → IsAt (first_by b i) place.sels i at j ((t, x) ∷ ss) one z
    by_standing true waiting at own is = let r = later at is in record { p = suc r.p; own = r.own; here = omega (arith, r.here); branch = r.branch; seen = r.seen; stands = r.stands; below = r.below }
    by_standing false waiting at own is = let r = later at is in record { p = suc r.p; own = r.own; here = omega (arith, r.here); branch = r.branch; seen = r.seen; stands = r.stands; below = r.below }
    by_standing true ready at own is = let r = later at is in record { p = suc r.p; own = r.own; here = omega (arith, r.here); branch = r.branch; seen = r.seen; stands = r.stands; below = r.below }
    by_standing false ready at own is =
        let r = later at is in
        record { p = suc r.p; own = r.own; here = omega (arith, r.here); branch = r.branch; seen = r.seen; stands = r.stands; below = λ b s. ap (may_begin (path (task_place place i t).sels)) (r.below b s) }
    by_standing b (exists m branch seen) zero own is =
        let same : m ≡ one = cc is in
        let number : i ≡ j = eqb-true i j (sym (is_sought place.sels j i m own) ∙ ap (is_of_task (length place.sels) j) same ∙ sought) in
        record { p = zero; own = sym (ap (λ (x : Made). x.own.node.path.sels) same) ∙ own ∙ ap (λ (n : ℕ). place.sels ++ task_sel n ∷ []) number; here = omega (arith, number); branch = branch; seen = seen; stands = ap (λ (x : Made). exists x branch seen) same; below = λ c s. refl }
    by_standing b (exists m branch seen) (suc at) own is =
        let r = later at is in
        record { p = suc r.p; own = r.own; here = omega (arith, r.here); branch = r.branch; seen = r.seen; stands = r.stands; below = λ c s. ap (call m.own m.parts) (r.below c s) }

  pub found_at : (i at : ℕ) (ss : Standings) → AreOwn place.sels i ss → call_at (tasks_below doomed place i ss) at ≡ Some one → IsAt (tasks_below doomed place i) place.sels i at j ss one z
  found_at i at [] own is = absurd (cc is)
  found_at i at (s ∷ ss) own is =
      let r = by_standing i s.0 ss (λ k there. found_at (suc i) k ss own.1 there) doomed s.1 at own.0 is in
      record { p = r.p; own = r.own; here = r.here; branch = r.branch; seen = r.seen; stands = r.stands; below = λ b x. sym (first_is i (put (s ∷ ss) r.p (exists z b x))) ∙ r.below b x }

-- ---- what no other task sees

pub seen_not_over : (d : Dag) (t : Task) (z : Made) (branch : Phase) (seen : Scope) → IsUnseen d t z → (is_over (exists z branch seen) ≡ false) ⊎ (is_last d.tasks t ≡ true)
seen_not_over d t z branch seen (inl off) = inl off
seen_not_over d t z branch seen (inr ends) = inr ends.last

pub never_both : (a b c : Bool) → (a && c) ≡ false → (a && (b && c)) ≡ false
never_both false b c e = refl
never_both true true c e = e
never_both true false c e = refl

pub seen_not_failed : (d : Dag) (t : Task) (z : Made) (seen : Scope) → IsUnseen d t z → (d.fail_fast && has_failed (exists z (covered t.call.continue_on z.own.node.phase) seen)) ≡ false
seen_not_failed d t z seen (inl off) = ap (λ (b : Bool). d.fail_fast && (b && is_bad (covered t.call.continue_on z.own.node.phase))) off ∙ never d.fail_fast
seen_not_failed d t z seen (inr ends) = never_both d.fail_fast z.own.finished (is_bad (covered t.call.continue_on z.own.node.phase)) ends.spared

-- ---- the DAG

-- its node, over these parts
abbrev pub over_parts : Place → List OutputDecl → Phase → Scope → Parts → Made
over_parts place declared p tags parts = made (ended_node place kind.DAG p note.None no_outputs (computed tags declared)) [] parts

module _ (m : Manifest) (A B : Answers) (changed : Sels) (same : SameBut A B changed) (g : Scope) (left : ℕ) (settle : RoundsSettle) where
  abbrev called_now : Caller
  called_now = calls m A g left

  abbrev called_then : Caller
  called_then = calls m B g left

  -- by the new answers the task at position j stands so
  module _ (place : Place) (scope : Scope) (d : Dag) (ranked : HasRank d.tasks) (j : ℕ) (rest : Sels) (way : changed ≡ place.sels ++ task_sel j ∷ rest) (t : Task) (task : slice_get d.tasks j ≡ Some t) (x : Standing)
      (now : standing A called_now place scope d (look (standings B called_then place scope d)) j t ≡ x) where
    abbrev before : Standings
    before = standings B called_then place scope d

    abbrev after : Standings
    after = put before j x

    -- no task sees the difference
    module _ (sees : Task → Bool) (none : list_any sees d.tasks ≡ false) (alike : (u : Task) → sees u ≡ false → AgreeOrWait (look before) (look after) (parents d.tasks u)) where
      others_stay : (k : ℕ) (u : Task) → sees u ≡ false → (k ≡ 0 + j → ⊥) → standing B called_then place scope d (look before) k u ≡ standing A called_now place scope d (look after) k u
      others_stay k u unseen apart =
          sym (task_stays A B changed same m g left place scope d (look before) (look before) k u
          (subst (λ (p : Sels). IsOff p (place.sels ++ task_sel k ∷ [])) (sym way) (off_other_child place.sels rest [] (task_sel j) (task_sel k) (ne_eqb j k (λ e. apart (omega (arith, e))))))
          (λ a b c. refl))
          ∙ standing_alike (look before) (look after) A called_now place scope d k u (alike u unseen)

      itself : standing A called_now place scope d (look after) j t ≡ x
      itself = sym (standing_alike (look before) (look after) A called_now place scope d j t (alike t (one_sees sees d.tasks j t none task))) ∙ now

      solves : after ≡ standings_by A called_now place scope d (look after)
      solves =
          ap (λ (ss : Standings). put ss j x) (rows_are B called_then place scope d settle ranked)
          ∙ put_rows (λ k u. standing B called_then place scope d (look before) k u) (λ k u. standing A called_now place scope d (look after) k u) sees 0 j d.tasks x none others_stay
          (λ u found.
          let one_task : t ≡ u = cc (task, found) in
          let number : j ≡ 0 + j = omega arith in
          sym itself ∙ (λ k. standing A called_now place scope d (look after) (number k) (one_task k)))

      standings_are : standings A called_now place scope d ≡ after
      standings_are = sym (settle A called_now place scope d after ranked solves)

    tasks_there : slice_get (map (λ (s : Task × Standing). s.0) before) j ≡ Some t
    tasks_there =
        ap (λ (ss : Standings). slice_get (map (λ (s : Task × Standing). s.0) ss) j) (rows_are B called_then place scope d settle ranked)
        ∙ ap (λ (ts : List Task). slice_get ts j) (tasks_kept (λ k u. standing B called_then place scope d (look before) k u) 0 d.tasks)
        ∙ task

    -- it is not over
    open_alike : is_over (stood before j) ≡ false → is_over x ≡ false → (u : Task) → AgreeOrWait (look before) (look after) (parents d.tasks u)
    open_alike before_not off u = agree_or_wait (look before) (look after) (put_looks Near (λ s. inl refl) before j x (inr (before_not, off))) (parents d.tasks u)

    -- no task waits for it
    lone_alike : (u : Task) → is_among (parents d.tasks u) t.call.name ≡ false → AgreeOrWait (look before) (look after) (parents d.tasks u)
    lone_alike u unseen = inl (agree_but (look before) (look after) t.call.name (put_others before j x t tasks_there) (parents d.tasks u) unseen)

    not_last : (b : Bool) → not b ≡ true → b ≡ false
    not_last true e = absurd (cc e)
    not_last false e = refl

    pub standings_by_either : is_over (stood before j) ≡ false → (is_over x ≡ false) ⊎ (is_last d.tasks t ≡ true) → standings A called_now place scope d ≡ after
    standings_by_either before_not (inl off) = standings_are (λ u. false) (none_sees d.tasks) (λ u e. open_alike before_not off u)
    standings_by_either before_not (inr last) =
        standings_are (λ u. is_among (parents d.tasks u) t.call.name) (not_last (list_any (λ u. is_among (parents d.tasks u) t.call.name) d.tasks) last) lone_alike

  -- the DAG's node is the same, over what the task makes now
  module _ (place : Place) (scope : Scope) (declared : List OutputDecl) (d : Dag) (ranked : HasRank d.tasks) where
    -- its node stands at its place
    pub depth_is : (old : Made) → old ≡ dag_made B called_then place scope declared d → length place.sels ≡ length old.own.node.path.sels
    depth_is old is =
        let ss = standings B called_then place scope d in
        sym (ap (λ (b : Made). length b.own.node.path.sels) is ∙ ap (λ (p : Sels). length p) (ended place kind.DAG (dag_phase d ss) note.None no_outputs (computed (dag_tags ss ++ scope) declared)))

    pub dag_was_running : (at j : ℕ) (old one : Made) → old ≡ dag_made B called_then place scope declared d → call_at old.parts at ≡ Some one → is_of_task (length old.own.node.path.sels) j one ≡ true → one.own.finished ≡ false →
        old.own.node.phase ≡ Running
    dag_was_running at j old one is there sought off =
        let ss = standings B called_then place scope d in
        let found = found_at (is_doomed d ss) place j one one (ap (λ (n : ℕ). is_of_task n j one) (depth_is old is) ∙ sought) 0 at ss (own_standings B called_then (call_is_here m B g left) place scope d) (sym (ap (λ (b : Made). call_at b.parts at) is) ∙ there) in
        ap (λ (b : Made). b.own.node.phase) is
        ∙ ap (λ (p : Phase). (ended_node place kind.DAG p note.None no_outputs (computed (dag_tags ss ++ scope) declared)).phase)
        (runs_with d ss found.p (ap is_at_rest found.stands ∙ off))

    pub dag_runs_on : (at j : ℕ) (rest : Sels) (old one z : Made) (t : Task) → changed ≡ place.sels ++ task_sel j ∷ rest →
        old ≡ dag_made B called_then place scope declared d → slice_get d.tasks j ≡ Some t →
        call_at old.parts at ≡ Some one → is_of_task (length old.own.node.path.sels) j one ≡ true → one.own.finished ≡ false → IsUnseen d t z →
        all_finished (row_in (with_call old at z).parts) ≡ false →
        (not d.fail_fast || A.begun one.own.node.path.sels) ≡ true →
        ((s : Scope) → one ≡ called_then (codes "tasks.") (task_place place j t) (s ++ scope) t.call → called_now (codes "tasks.") (task_place place j t) (s ++ scope) t.call ≡ z) →
        dag_made A called_now place scope declared d ≡ with_call old at z
    dag_runs_on at j rest old one z t way is task there sought off unseen goes_on begins new =
        let ss = standings B called_then place scope d in
        let found = found_at (is_doomed d ss) place j one z (ap (λ (n : ℕ). is_of_task n j one) (depth_is old is) ∙ sought) 0 at ss (own_standings B called_then (call_is_here m B g left) place scope d) (sym (ap (λ (b : Made). call_at b.parts at) is) ∙ there) in
        let number : found.p ≡ j = omega (arith, found.here) in
        let stands : stood ss j ≡ exists one found.branch found.seen = ap (stood ss) (sym number) ∙ found.stands in
        let x : Standing = exists z (covered t.call.continue_on z.own.node.phase) found.seen in
        let us : Standings = put ss j x in
        let over : is_over (stood ss j) ≡ false = ap is_over stands ∙ off in
        let fallen : has_failed (stood ss j) ≡ false = ap (λ (b : Bool). b && is_bad (branch_of (stood ss j))) over in
        let began : (not d.fail_fast || A.begun (task_place place j t).sels) ≡ true = ap (λ (p : Sels). not d.fail_fast || A.begun p) (sym found.own) ∙ begins in
        let below : tasks_below (is_doomed d ss) place 0 us ≡ replaced (tasks_below (is_doomed d ss) place 0 ss) at z =
        ap (λ (p : ℕ). tasks_below (is_doomed d ss) place 0 (put ss p x)) (sym number) ∙ found.below (covered t.call.continue_on z.own.node.phase) found.seen in
        let doomed : is_doomed d ss ≡ is_doomed d us = still_doomed d ss j x fallen (seen_not_failed d t z found.seen unseen) in
        let now : standing A called_now place scope d (look ss) j t ≡ x =
        stands_again A B called_now called_then place scope d (look ss) j t one z found.branch found.seen off began new (sym (stood_is B called_then place scope d settle ranked j t task) ∙ stands) in
        let phase : dag_phase d us ≡ Running =
        unfinished_runs d us (is_doomed d ss) place (ap (λ (parts : Parts). all_finished (row_in parts)) below ∙ sym (ap (λ (b : Made). all_finished (row_in (replaced b.parts at z))) is) ∙ goes_on) in
        ap (dag_by place scope declared d) (standings_by_either place scope d ranked j rest way t task x now over (seen_not_over d t z (covered t.call.continue_on z.own.node.phase) found.seen unseen))
        ∙ (λ k. over_parts place declared (phase k) (dag_tags us ++ scope) (tasks_below (sym doomed k) place 0 us))
        ∙ ap (λ (parts : Parts). over_parts place declared Running (dag_tags us ++ scope) parts) below
        ∙ ap (λ (p : Phase). over_parts place declared p (dag_tags ss ++ scope) (replaced (tasks_below (is_doomed d ss) place 0 ss) at z)) (sym (runs_with d ss j (ap is_at_rest stands ∙ off)))
        ∙ sym (ap (λ (b : Made). with_call b at z) is)
