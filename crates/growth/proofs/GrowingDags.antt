-- A DAG grows: tasks go from waiting to ready to existing, one that is finished stays, and a DAG that is over
-- begins no further task.
use Rattle.std.proofs.Common.{◌≡◌, refl, sym, ◌∙◌, ap, subst, ◌⊎◌, arith}
use Rattle.std.proofs.Math.Logic.{inl, inr}
use Rattle.std.specs.Prelude.{ℕ, zero, suc, List, [], ◌∷◌, ◌++◌, Bool, true, false, cond, not, ◌&&◌, ◌||◌, Option, Some, None, length, codes}
use Rattle.std.specs.List.{list_all, list_any}
use Rattle.tree_types.specs.declared.phase.Phase.{Phase}
use Rattle.tree_types.specs.declared.phase.Phase.TheVariants.{Running, Omitted}
use Rattle.tree_types.specs.declared.node.Kind.TheVariants as kind
use Rattle.tree_types.specs.declared.node.Note.TheVariants as note
use Rattle.tree_types.specs.declared.node.Node.{Node}
use Rattle.tree_types.specs.Phases.{fulfilled}
use Rattle.depends_expr.specs.Expression.{Expression}
use Rattle.depends_expr.specs.Truth.{named}
use Rattle.wf_manifest.specs.declared.calls.Task.{Task}
use Rattle.wf_manifest.specs.declared.calls.Dag.{Dag}
use Rattle.wf_manifest.specs.declared.templates.OutputDecl.{OutputDecl}
use Rattle.scopes.specs.Substitution.{Scope}
use Rattle.meaning.specs.declared.lines.Place.{Place}
use Rattle.meaning.specs.Answers.{Sels, Answers}
use Rattle.meaning.specs.Lines.{Made, lines_in, no_outputs, alone}
use Rattle.meaning.specs.Outputs.{computed, ended_node}
use Rattle.meaning.specs.Steps.{Caller, covered}
use Rattle.meaning.specs.Dags.{awaited, is_meant, Standing, waiting, ready, exists, is_over, is_ready, is_at_rest, Look, Standings, look, task_place, tags_before, free_by, free, decided_by, waits_by, meant, meant_by, with_standing, rounds, standings, is_doomed, may_go_on, dag_over, dag_phase, dag_tags, dag_by, dag_made, tasks_below}
use Rattle.growth.specs.Growth.{SaysMore, New}
use Rattle.growth.proofs.Numbered.{All, Pairs, both_true, all_map, pairs_from}
use Rattle.growth.proofs.Lines.{Has, Proper, proper_map, proper_holds, child_not_deep, Under, Inside, AtChild, Deep, From, under_deep, from_inside, rows_in, rows_fair, Fair, fair_below, fair_map}
use Rattle.growth.proofs.Keeping.{not_both, AllKept, Later, Grew, Begun, begun_below, begun_nothing, rows_kept, rows_begun, unchanged, ending_ends, same_place, made_later}
use Rattle.growth.proofs.OnePath.{paths}
use Rattle.growth.proofs.SoundBodies.{task_at, task_ways, tasks_laid, Sound, StandSound, rounds_sound, lines_proper, standing_lines, task_lines, dag_lines}
use Rattle.growth.proofs.GrowingBodies.{Growing, fair_under}
use Rattle.growth.proofs.DagRounds.{Keeps, keeps_agree, look_related, Related, truth_at, all_over, Knows, awaited_same, round_down, AllHold, rounds_stay}

-- ---- under later answers

-- how a task may stand later
abbrev pub StandLater : Answers → Answers → Standing → Standing → Type 0
StandLater A B waiting u = Unit {0}
StandLater A B ready waiting = ⊥
StandLater A B ready ready = Unit {0}
StandLater A B ready (exists n c t) = Unit {0}
StandLater A B (exists m b s) waiting = ⊥
StandLater A B (exists m b s) ready = ⊥
StandLater A B (exists m b s) (exists n c t) = Later A B m n × (m.own.finished ≡ true → c ≡ b) × (t ≡ s)

-- a task that is finished stands so for good
over_equal : (A B : Answers) (s u : Standing) → StandLater A B s u → is_over s ≡ true → u ≡ s
over_equal A B waiting u h e = not_both false e refl
over_equal A B ready u h e = not_both false e refl
over_equal A B (exists m b s) waiting h e = absurd h
over_equal A B (exists m b s) ready h e = absurd h
over_equal A B (exists m b s) (exists n c t) h e = λ i. exists (h.0.done e i) (h.1 e i) (h.2 i)

later_keep : (A B : Answers) → Keeps (StandLater A B)
later_keep A B = record { over = over_equal A B }

or_grows : (x b c : Bool) → (b ≡ true → c ≡ true) → (x || b) ≡ true → (x || c) ≡ true
or_grows true b c h e = refl
or_grows false b c h e = h e

neither : (a b : Bool) → (a || b) ≡ false → (a ≡ false) × (b ≡ false)
neither true b e = absurd (cc e)
neither false b e = (refl, e)

abbrev AllRest : Standings → Bool
AllRest ss = list_all (λ s. is_at_rest s.1) ss

all_rest : (i : ℕ) (ss : Standings) → AllRest ss ≡ true → All (λ k x. is_at_rest x.1 ≡ true) i ss
all_rest i [] e = tt
all_rest i (s ∷ ss) e = let two = both_true (is_at_rest s.1) (AllRest ss) e in (two.0, all_rest (suc i) ss two.1)

module _ (A B : Answers) (g : SaysMore A B) (run ran : Caller) (sound : Sound paths A run) (sounds : Sound paths B ran) (grows : Growing A B run ran) (p : Place) (scope : Scope) (d : Dag) where
  abbrev before : ℕ → Standings
  before n = rounds A run p scope d n

  abbrev now : ℕ → Standings
  now n = rounds B ran p scope d n

  -- what newly begins below a task may begin by that task's lines
  abbrev StandFair : ℕ → Task → Standing → Type 0
  StandFair k t waiting = Unit {0}
  StandFair k t ready = Unit {0}
  StandFair k t (exists m b s) = Fair (New A B) (Under (task_place p k t).sels) (lines_in m)

  abbrev FairAt : ℕ → Task × Standing → Type 0
  FairAt k x = StandFair k x.0 x.1

  fair_down : (k : ℕ) (t : Task) (x u : Standing) → Knows x u → StandFair k t u → StandFair k t x
  fair_down k t waiting u h f = tt
  fair_down k t ready u h f = tt
  fair_down k t (exists m b s) u h f = subst (StandFair k t) h f

  round_fair : (n : ℕ) → All FairAt 0 (before (suc n)) → All FairAt 0 (before n)
  round_fair n f = round_down A run p scope d FairAt fair_down n f

  -- ---- each task grows: how it stands later, and that what newly begins stands

  abbrev StandBegun : ℕ → Task → Standing → Standing → Type 0
  StandBegun k t ready ready = B.begun (task_place p k t).sels ≡ false
  StandBegun k t ready (exists n c r) = Has (task_place p k t).sels (lines_in n)
  StandBegun k t (exists m b s) (exists n c r) = Begun (New A B) (lines_in m) (lines_in n)
  StandBegun k t _ _ = Unit {0}

  abbrev StandGrew : ℕ → Task → Standing → Standing → Type 0
  StandGrew k t x u = StandLater A B x u × StandBegun k t x u

  nothing_waits : (k : ℕ) (t : Task) (u : Standing) → StandGrew k t waiting u
  nothing_waits k t waiting = (tt, tt)
  nothing_waits k t ready = (tt, tt)
  nothing_waits k t (exists m b s) = (tt, tt)

  free_by_grew : (seen : Scope) (k : ℕ) (t : Task) (x y : Bool) → (x ≡ true → y ≡ true) → (not d.fail_fast || B.begun (task_place p k t).sels) ≡ y → StandFair k t (free_by A run p scope d seen k t x) → StandGrew k t (free_by A run p scope d seen k t x) (free_by B ran p scope d seen k t y)
  free_by_grew seen k t false false h e f = (tt, (neither (not d.fail_fast) (B.begun (task_place p k t).sels) e).1)
  free_by_grew seen k t false true h e f = (tt, (sounds (codes "tasks.") (task_place p k t) (seen ++ scope) t.call).has)
  free_by_grew seen k t true false h e f = not_both false (h refl) refl
  free_by_grew seen k t true true h e f = let l = grows (codes "tasks.") (task_place p k t) (seen ++ scope) t.call f in ((l.later, (λ e. ap (λ (m : Made). covered t.call.continue_on m.own.node.phase) (l.later.done e)), refl), l.begun)

  free_grew : (seen : Scope) (k : ℕ) (t : Task) → StandFair k t (free A run p scope d seen k t) → StandGrew k t (free A run p scope d seen k t) (free B ran p scope d seen k t)
  free_grew seen k t f = free_by_grew seen k t _ _ (or_grows (not d.fail_fast) (A.begun (task_place p k t).sels) (B.begun (task_place p k t).sels) (g.begun (task_place p k t).sels)) refl f

  decided_grew : (a : Look) (k : ℕ) (t : Task) (e : Expression) (c : Bool) → StandFair k t (decided_by A run p scope d a k t e c) → StandGrew k t (decided_by A run p scope d a k t e c) (decided_by B ran p scope d a k t e c)
  decided_grew a k t e true f = free_grew (tags_before a (named e)) k t f
  decided_grew a k t e false f = let x : Made = alone (task_place p k t) kind.Skipped Omitted note.DependsFalse in ((unchanged A B refl, (λ _. refl), refl), begun_nothing (New A B) A (lines_in x) (lines_in x) ((λ _ r. absurd (cc r)), tt))

  waits_grew : (a b : Look) (k : ℕ) (t : Task) (e : Expression) (c : Bool) → all_over a e ≡ c → ((n : List ℕ) → StandLater A B (a n) (b n)) → StandFair k t (waits_by A run p scope d a k t e c) → StandGrew k t (waits_by A run p scope d a k t e c) (meant B ran p scope d b k t (Some e))
  waits_grew a b k t e false o h f = nothing_waits k t (meant B ran p scope d b k t (Some e))
  waits_grew a b k t e true o h f = subst (λ (u : Standing). StandGrew k t (decided_by A run p scope d a k t e (truth_at a e)) u) (sym (awaited_same B ran p scope d b a k t e (keeps_agree (StandLater A B) a b (named e) (later_keep A B) h o) ∙ ap (waits_by B ran p scope d a k t e) o)) (decided_grew a k t e (truth_at a e) f)

  awaited_grew : (a b : Look) (k : ℕ) (t : Task) (w : Option Expression) → ((n : List ℕ) → StandLater A B (a n) (b n)) → StandFair k t (meant A run p scope d a k t w) → StandGrew k t (meant A run p scope d a k t w) (meant B ran p scope d b k t w)
  awaited_grew a b k t None h f = free_grew [] k t f
  awaited_grew a b k t (Some e) h f = waits_grew a b k t e (all_over a e) refl h f

  meant_grew : (a b : Look) (k : ℕ) (t : Task) (c : Bool) → ((n : List ℕ) → StandLater A B (a n) (b n)) → StandFair k t (meant_by A run p scope d a k t c) → StandGrew k t (meant_by A run p scope d a k t c) (meant_by B ran p scope d b k t c)
  meant_grew a b k t false h f = (tt, tt)
  meant_grew a b k t true h f = awaited_grew a b k t (awaited d.tasks t) h f

  abbrev TaskGrew : ℕ → Task × Standing → Task × Standing → Type 0
  TaskGrew k x y = (y.0 ≡ x.0) × StandGrew k x.0 x.1 y.1

  pairs_later : (i : ℕ) (ss us : Standings) → Pairs TaskGrew i ss us → Pairs (Related (StandLater A B)) i ss us
  pairs_later i [] [] h = tt
  pairs_later i [] (u ∷ us) h = absurd h
  pairs_later i (s ∷ ss) [] h = absurd h
  pairs_later i (s ∷ ss) (u ∷ us) h = ((h.0.0, h.0.1.0), pairs_later (suc i) ss us h.1)

  rounds_grew : (n : ℕ) → All FairAt 0 (before n) → Pairs TaskGrew 0 (before n) (now n)
  rounds_grew zero f = tt
  rounds_grew (suc n) f =
      let a = look (before n) in
      let b = look (now n) in
      let later = look_related (StandLater A B) 0 (before n) (now n) tt (pairs_later 0 (before n) (now n) (rounds_grew n (round_fair n f))) in
      pairs_from (with_standing A run p scope d a) (with_standing B ran p scope d b) FairAt TaskGrew 0 d.tasks (λ k t q. (refl, meant_grew a b k t (is_meant d t) later q)) f

  -- ---- its lines

  line_kept : (x y : Bool) (at to : Place) (k : ℕ) (t : Task) (s u : Standing) → StandLater A B s u → AllKept A B (standing_lines x at s) (standing_lines y to u)
  line_kept true y at to k t waiting u h = tt
  line_kept false y at to k t waiting u h = tt
  line_kept true y at to k t ready u h = tt
  line_kept false y at to k t ready u h = (tt, tt)
  line_kept x y at to k t (exists m b s) waiting h = absurd h
  line_kept x y at to k t (exists m b s) ready h = absurd h
  line_kept true true at to k t (exists m b s) (exists n c r) h = h.0.kept
  line_kept true false at to k t (exists m b s) (exists n c r) h = h.0.kept
  line_kept false true at to k t (exists m b s) (exists n c r) h = h.0.kept
  line_kept false false at to k t (exists m b s) (exists n c r) h = h.0.kept

  only_one : (q r : Sels) (X : Type 0) → (q ≡ r → X) → (q ≡ r) ⊎ ⊥ → X
  only_one q r X f (inl e) = f e
  only_one q r X f (inr h) = absurd h

  line_begun : (x y : Bool) (k : ℕ) (t : Task) (s u : Standing) → StandGrew k t s u → Begun (New A B) (standing_lines x (task_place p k t) s) (standing_lines y (task_place p k t) u)
  line_begun true y k t waiting u h q n i = absurd i
  line_begun false y k t waiting u h q n i = absurd i
  line_begun true y k t ready u h q n i = absurd i
  line_begun false y k t ready waiting h q n i = absurd h.0
  line_begun false true k t ready ready h q n i = only_one (task_place p k t).sels q _ (λ e. not_both (B.begun q) n.0 (ap B.begun (sym e) ∙ h.1)) i
  line_begun false false k t ready ready h q n i = only_one (task_place p k t).sels q _ (λ e. not_both (B.begun q) n.0 (ap B.begun (sym e) ∙ h.1)) i
  line_begun false true k t ready (exists m c r) h q n i = only_one (task_place p k t).sels q _ (λ e. subst (λ (z : Sels). Has z (lines_in m)) e h.1) i
  line_begun false false k t ready (exists m c r) h q n i = only_one (task_place p k t).sels q _ (λ e. subst (λ (z : Sels). Has z (lines_in m)) e h.1) i
  line_begun x y k t (exists m b s) waiting h q n i = absurd h.0
  line_begun x y k t (exists m b s) ready h q n i = absurd h.0
  line_begun true true k t (exists m b s) (exists o c r) h q n i = h.1 q n i
  line_begun true false k t (exists m b s) (exists o c r) h q n i = h.1 q n i
  line_begun false true k t (exists m b s) (exists o c r) h q n i = h.1 q n i
  line_begun false false k t (exists m b s) (exists o c r) h q n i = h.1 q n i

  row_begun : (x y : Bool) (k : ℕ) (s u : Task × Standing) → TaskGrew k s u → Begun (New A B) (task_lines x p k s) (task_lines y p k u)
  row_begun x y k s u h = subst (λ (t : Task). Begun (New A B) (task_lines x p k s) (standing_lines y (task_place p k t) u.1)) (sym h.0) (line_begun x y k s.0 s.1 u.1 h.1)

  line_fair : (x : Bool) (k : ℕ) (t : Task) (s : Standing) → Fair (New A B) (AtChild p.sels (task_at k)) (standing_lines x (task_place p k t) s) → StandFair k t s
  line_fair x k t waiting f = tt
  line_fair x k t ready f = tt
  line_fair true k t (exists m b s) f = fair_under A B run ran sound grows p.sels (task_at k) (lines_in m) f
  line_fair false k t (exists m b s) f = fair_under A B run ran sound grows p.sels (task_at k) (lines_in m) f

  -- ---- the DAG

  same_begun : (x a b : Bool) → (a ≡ true → b ≡ true) → (b ≡ true → a ≡ false → ⊥) → (x || b) ≡ (x || a)
  same_begun x true b h n = ap (λ (y : Bool). x || y) (h refl)
  same_begun x false true h n = absurd (n refl refl)
  same_begun x false false h n = refl

  over_dag : (b : Bool) (ph : Phase) → fulfilled (cond b ph Running) ≡ true → b ≡ true
  over_dag true ph e = refl
  over_dag false ph e = not_both false e refl

  abbrev ss : Standings
  ss = standings A run p scope d

  abbrev doomed : Bool
  doomed = is_doomed d ss

  -- where no task is ready, what may begin lies below the tasks
  line_deep : (x : Bool) (k : ℕ) (t : Task) (u : Standing) → (x ≡ false → is_ready u ≡ false) → StandSound paths A run sound p scope d k t u → Proper A (Deep p.sels) (standing_lines x (task_place p k t) u)
  line_deep true k t waiting r h = tt
  line_deep false k t waiting r h = tt
  line_deep true k t ready r h = tt
  line_deep false k t ready r h = absurd (cc (r refl))
  line_deep true k t (exists m b seen) r h = proper_map A (Under (task_place p k t).sels) (Deep p.sels) (lines_in m) (under_deep p.sels (task_at k)) h.proper
  line_deep false k t (exists m b seen) r h = proper_map A (Under (task_place p k t).sels) (Deep p.sels) (lines_in m) (under_deep p.sels (task_at k)) h.proper

  all_deep : (x : Bool) (i : ℕ) (us : Standings) → (x ≡ false → list_any (λ s. is_ready s.1) us ≡ false) → All (λ k y. StandSound paths A run sound p scope d k y.0 y.1) i us → All (λ k y. Proper A (Deep p.sels) (task_lines x p k y)) i us
  all_deep x i [] r h = tt
  all_deep x i (u ∷ us) r h = (line_deep x i u.0 u.1 (λ e. (neither (is_ready u.1) (list_any (λ s. is_ready s.1) us) (r e)).0) h.0, all_deep x (suc i) us (λ e. (neither (is_ready u.1) (list_any (λ s. is_ready s.1) us) (r e)).1) h.1)

  not_going_on : (x r : Bool) → not (not x && r) ≡ true → x ≡ false → r ≡ false
  not_going_on true r e f = absurd (cc f)
  not_going_on false true e f = absurd (cc e)
  not_going_on false false e f = refl

  -- a task that is finished, and below which what newly begins may begin
  abbrev FairAndDone : ℕ → Task → Made → Type 0
  FairAndDone k t m = Fair (New A B) (Under (task_place p k t).sels) (lines_in m) × (m.own.finished ≡ true)

  done_same : (seen : Scope) (k : ℕ) (t : Task) → FairAndDone k t (run (codes "tasks.") (task_place p k t) (seen ++ scope) t.call) → ran (codes "tasks.") (task_place p k t) (seen ++ scope) t.call ≡ run (codes "tasks.") (task_place p k t) (seen ++ scope) t.call
  done_same seen k t h = (grows (codes "tasks.") (task_place p k t) (seen ++ scope) t.call h.0).later.done h.1

  module _ (begun : (k : ℕ) (t : Task) → (not d.fail_fast || B.begun (task_place p k t).sels) ≡ (not d.fail_fast || A.begun (task_place p k t).sels)) where
    both_stand : (k : ℕ) (t : Task) (x : Standing) → StandFair k t x → is_at_rest x ≡ true → AllHold A B run ran p scope d FairAndDone done_same begun k (t, x)
    both_stand k t waiting f r = tt
    both_stand k t ready f r = tt
    both_stand k t (exists m b s) f r = (f, r)

    both_hold : (i : ℕ) (us : Standings) → All FairAt i us → All (λ k x. is_at_rest x.1 ≡ true) i us → All (AllHold A B run ran p scope d FairAndDone done_same begun) i us
    both_hold i [] f r = tt
    both_hold i (u ∷ us) f r = (both_stand i u.0 u.1 f.0 r.0, both_hold (suc i) us f.1 r.1)

    rounds_rest : (n : ℕ) → All FairAt 0 (before n) → AllRest (before n) ≡ true → now n ≡ before n
    rounds_rest n f e = rounds_stay A B run ran p scope d FairAndDone done_same begun n (both_hold 0 (before n) f (all_rest 0 (before n) e))

  -- a DAG that is over begins no further task, and stays
  over_stays : All FairAt 0 ss → Fair (New A B) (From task_at p.sels 0) (dag_lines doomed p ss) → dag_over d ss ≡ true → standings B ran p scope d ≡ ss
  over_stays fair f e =
      let two = both_true (AllRest ss) (not (may_go_on d ss)) e in
      let deep : Proper A (Deep p.sels) (dag_lines doomed p ss) = rows_in (tasks_laid doomed p) A (Deep p.sels) 0 ss (all_deep doomed 0 ss (not_going_on doomed (list_any (λ s. is_ready s.1) ss) two.1) (rounds_sound paths A run sound p scope d (length d.tasks))) in
      let none = λ (k : ℕ) (t : Task) (b : B.begun (task_place p k t).sels ≡ true) (a : A.begun (task_place p k t).sels ≡ false). child_not_deep p.sels (task_at k) (proper_holds A (Deep p.sels) (task_place p k t).sels (dag_lines doomed p ss) deep (f (task_place p k t).sels (k, [], omega arith, refl) (b, a))) in
      rounds_rest (λ k t. same_begun (not d.fail_fast) (A.begun (task_place p k t).sels) (B.begun (task_place p k t).sels) (g.begun (task_place p k t).sels) (none k t)) (length d.tasks) fair two.0

  abbrev dag_node : List OutputDecl → Standings → Node
  dag_node ds us = ended_node p kind.DAG (dag_phase d us) note.None no_outputs (computed (dag_tags us ++ scope) ds)

  pub dag_grew : (ds : List OutputDecl) → Fair (New A B) (Inside p.sels) (lines_in (dag_made A run p scope ds d)) → Grew A B (dag_made A run p scope ds d) (dag_made B ran p scope ds d)
  dag_grew ds f =
      let us = standings B ran p scope d in
      let from = fair_below (New A B) (From task_at p.sels 0) (dag_node ds ss) [] (dag_lines doomed p ss) (fair_map (New A B) (Inside p.sels) (From task_at p.sels 0) (lines_in (dag_made A run p scope ds d)) (from_inside task_at task_ways p.sels 0) f) in
      let each = rows_fair task_at task_ways p.sels (tasks_laid doomed p) A (New A B) 0 ss (lines_proper paths A run sound p scope d doomed 0 ss (rounds_sound paths A run sound p scope d (length d.tasks))) from in
      let fair : All FairAt 0 ss = all_map (λ k x. Fair (New A B) (AtChild p.sels (task_at k)) (task_lines doomed p k x)) FairAt 0 ss (λ k x. line_fair doomed k x.0 x.1) each in
      let grew = rounds_grew (length d.tasks) fair in
      let e = λ (x : Standings). ending_ends p kind.DAG (dag_phase d x) note.None no_outputs (computed (dag_tags x ++ scope) ds) in
      let same = λ (t : fulfilled (dag_node ds ss).phase ≡ true). over_stays fair from (over_dag (dag_over d ss) _ ((e ss).fulfilled t)) in
      record {
        later = made_later A B (dag_node ds ss) (dag_node ds us) [] [] (tasks_below doomed p 0 ss) (tasks_below (is_doomed d us) p 0 us)
            (same_place p (dag_node ds ss) (dag_node ds us) (e ss).at (e us).at (λ t. ap (dag_node ds) (same t))) tt
            (rows_kept (tasks_laid doomed p) (tasks_laid (is_doomed d us) p) A B TaskGrew 0 ss us (λ k x y h. line_kept doomed (is_doomed d us) (task_place p k x.0) (task_place p k y.0) k x.0 x.1 y.1 h.1.0) grew)
            (λ t. ap (dag_by p scope ds d) (same t));
        begun = begun_below (New A B) (dag_node ds ss) (dag_node ds us) [] [] (dag_lines doomed p ss) (dag_lines (is_doomed d us) p us) (rows_begun (tasks_laid doomed p) (tasks_laid (is_doomed d us) p) (New A B) TaskGrew 0 ss us (row_begun doomed (is_doomed d us)) grew);
      }
