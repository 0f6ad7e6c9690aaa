-- What a body makes is sound: it asks for nothing that is answered, its tasks that may begin lie below its place,
-- and its nodes are told apart.
use Rattle.std.proofs.Common.{◌≡◌, refl, sym, ap, subst, ◌+◌, arith}
use Rattle.std.proofs.Math.Logic.{inl}
use Rattle.std.specs.Prelude.{ℕ, zero, suc, List, [], ◌∷◌, ◌++◌, Bool, true, false, not, ◌||◌, Option, Some, None, Ok, Err, map, length, codes}
use Rattle.tree_types.specs.declared.path.Path.{Path}
use Rattle.tree_types.specs.declared.path.Sel.{Sel}
use Rattle.tree_types.specs.declared.path.Sel.TheVariants.{Group, Step, Task as task_sel, Attempt}
use Rattle.tree_types.specs.declared.phase.Phase.{Phase}
use Rattle.tree_types.specs.declared.phase.Phase.TheVariants.{Running, Succeeded, Omitted, Error}
use Rattle.tree_types.specs.declared.node.Kind.{Kind}
use Rattle.tree_types.specs.declared.node.Kind.TheVariants as kind
use Rattle.tree_types.specs.declared.node.Note.{Note}
use Rattle.tree_types.specs.declared.node.Note.TheVariants as note
use Rattle.tree_types.specs.declared.node.Node.{Node}
use Rattle.tree_types.specs.declared.outcome.Outcome.{Outcome}
use Rattle.tree_types.specs.declared.outcome.Outputs.{Outputs}
use Rattle.tree_types.specs.declared.want.Want.{Want}
use Rattle.tree_types.specs.declared.want.Want.TheVariants as want
use Rattle.tree_types.specs.Phases.{fulfilled}
use Rattle.node_names.specs.declared.seg.Seg.TheVariants as seg
use Rattle.depends_expr.specs.Expression.{Expression}
use Rattle.depends_expr.specs.Truth.{named}
use Rattle.tag_text.specs.declared.part.Part.{Part}
use Rattle.wf_manifest.specs.declared.calls.Call.{Call}
use Rattle.wf_manifest.specs.declared.calls.Task.{Task}
use Rattle.wf_manifest.specs.declared.calls.Dag.{Dag}
use Rattle.wf_manifest.specs.declared.templates.OutputDecl.{OutputDecl}
use Rattle.wf_manifest.specs.declared.templates.Backoff.{Backoff}
use Rattle.wf_manifest.specs.declared.templates.Retry.{Retry}
use Rattle.scopes.specs.Substitution.{Found, Scope}
use Rattle.meaning.specs.declared.lines.Place.{Place}
use Rattle.meaning.specs.declared.lines.Line.{Line}
use Rattle.meaning.specs.declared.lines.Line.TheVariants.{Asks, MayBegin}
use Rattle.meaning.specs.Answers.{path, Sels, Answers}
use Rattle.meaning.specs.Lines.{lines_below, then_parts, asked, row_of, nothing, Parts, Made, lines_in, numbered, no_outputs, node, made, alone, lines_of}
use Rattle.meaning.specs.Outputs.{Ending, completed, computed, defaulted, succeeded_node, ended_node}
use Rattle.meaning.specs.Pods.{outputs_of, pod_by, Attempts, ends_with, first_begin, further, attempt, may_start, ended_attempt, started_by, retried_by, follows, attempt_by, attempts_from, attempts, next_timer, retry_node, retry_made}
use Rattle.meaning.specs.Suspends.{seconds_of, timer_wants, suspend_wants, suspend_by, suspended, suspend_made}
use Rattle.meaning.specs.Steps.{Caller, Member, member_place, member, members, makings, group_phase, group_made, Groups, group_place, groups_by, members_at, groups_from, steps_phase, steps_made}
use Rattle.meaning.specs.Dags.{Standing, waiting, ready, exists, Look, Standings, look, task_place, tags_before, awaited, is_meant, free_by, free, decided_by, waits_by, meant, meant_by, standing, with_standing, rounds, standings, is_doomed, dag_phase, dag_tags, dag_made, task_then, tasks_below}
use Rattle.meaning.proofs.Flattening.{lines_tried}
use Rattle.growth.proofs.Numbered.{all_map, All, all_numbered, Laid}
use Rattle.growth.proofs.Lines.{Has, AllOpen, Unresumed, Proper, proper_append, proper_map, proper_wants, Nowhere, Under, Inside, AtChild, From, inside_under, under_at_child, Ways, from_inside, child_then, rows_proper}
use Rattle.growth.proofs.Keeping.{At, node_at, ending_ends}
use Rattle.growth.proofs.Geometry.{Descent, down, Geometry, Placed, placed_map, placed_none, placed_wants, placed_before, Inner, Top, outer, placed_made, Kin, Kids, kids_inner, placed_then, placed_last, rows_placed}

-- ---- the children of each kind

abbrev pub group_at : ℕ → Sel
group_at i = Group i

abbrev pub step_at : ℕ → Sel
step_at i = Step i

abbrev pub task_at : ℕ → Sel
task_at i = task_sel i

pub group_ways : Ways group_at
group_ways = record { differ = λ i j e. cc e; inner = λ i. refl }

pub step_ways : Ways step_at
step_ways = record { differ = λ i j e. cc e; inner = λ i. refl }

pub task_ways : Ways task_at
task_ways = record { differ = λ i j e. cc e; inner = λ i. refl }

abbrev pub attempt_step : ℕ → Unit {0} → Descent
attempt_step i x = (Attempt i, seg.Attempt i)

-- attempts, one more than a number
abbrev pub tries : ℕ → List (Unit {0})
tries zero = tt ∷ []
tries (suc n) = tt ∷ tries n

abbrev pub group_step : ℕ → List Call → Descent
group_step i cs = (Group i, seg.Group i)

abbrev pub member_step : ℕ → Call → Descent
member_step i c = (Step i, seg.Call c.name)

abbrev pub task_step : ℕ → Task → Descent
task_step i t = (task_sel i, seg.Call t.call.name)

abbrev pub members_laid : Laid Member
members_laid = record { one = λ i m. (lines_in m.1); rows = λ i ms. lines_of (makings ms); none = λ i. refl; more = λ i m ms. refl }

abbrev pub items_laid : Laid Made
items_laid = record { one = λ i m. (lines_in m); rows = λ i ms. lines_of ms; none = λ i. refl; more = λ i m ms. refl }

-- what stands for a task, as lines
abbrev pub standing_lines : Bool → Place → Standing → List Line
standing_lines doomed at (exists m branch seen) = lines_in m
standing_lines false at ready = MayBegin (path at.sels) ∷ []
standing_lines doomed at _ = []

abbrev pub task_lines : Bool → Place → ℕ → Task × Standing → List Line
task_lines doomed place i s = standing_lines doomed (task_place place i s.0) s.1

abbrev pub dag_lines : Bool → Place → Standings → List Line
dag_lines doomed place ss = lines_below (tasks_below doomed place 0 ss)

pub task_laid : (doomed : Bool) (at : Place) (u : Standing) (more : Parts) → lines_below (task_then doomed at u more) ≡ standing_lines doomed at u ++ lines_below more
task_laid doomed at (exists m branch seen) more = refl
task_laid false at ready more = refl
task_laid true at ready more = refl
task_laid false at waiting more = refl
task_laid true at waiting more = refl

abbrev pub tasks_laid : Bool → Place → Laid (Task × Standing)
tasks_laid doomed place = record { one = task_lines doomed place; rows = λ i ss. lines_below (tasks_below doomed place i ss); none = λ i. refl; more = λ i s ss. task_laid doomed (task_place place i s.0) s.1 (tasks_below doomed place (suc i) ss) }

-- ---- which manifests' names fit

module _ (G : Geometry) where
  abbrev pub StepsFit : List (List Call) → Type 0
  StepsFit [] = Unit {0}
  StepsFit (cs ∷ gs) = Kin G member_step 0 cs × StepsFit gs

  abbrev pub GroupsFit : List (List Call) → Type 0
  GroupsFit gs = StepsFit gs × Kin G group_step 0 gs

  -- each attempt that a retry allows
  abbrev pub AttemptsFit : Option Retry → Type 0
  AttemptsFit None = Unit {0}
  AttemptsFit (Some r) = Kin G attempt_step 0 (tries (further r))

  abbrev pub DagFits : Dag → Type 0
  DagFits d = Kin G task_step 0 d.tasks

neither_left : (a b : Bool) → (a || b) ≡ false → (a ≡ false) × (b ≡ false)
neither_left true b e = absurd (cc e)
neither_left false b e = (refl, e)

module _ (G : Geometry) (A : Answers) where
  -- what a template makes: its node stands at this place, and it is finished when that node is fulfilled
  pub record Topped (p : Place) (b : Made) : Type 0 where
    pub at : At p b.own.node
    pub over : b.own.finished ≡ fulfilled b.own.node.phase
    pub proper : Proper A (Inside p.sels) (lines_in b)
    pub placed : Placed G (Top G p) (lines_in b)

  -- what a call makes
  pub record Called (p : Place) (b : Made) : Type 0 where
    pub has : Has p.sels (lines_in b)
    pub proper : Proper A (Under p.sels) (lines_in b)
    pub placed : Placed G (G.Below p) (lines_in b)

  pub topped_called : (p : Place) (b : Made) → Topped p b → Called p b
  topped_called p b h = record {
    has = inl (ap (λ (x : Path). x.sels) h.at.path);
    proper = proper_map A (Inside p.sels) (Under p.sels) (lines_in b) (inside_under p.sels) h.proper;
    placed = outer G p (lines_in b) h.placed;
  }

  pub made_topped : (p : Place) (n : Node) (ws : List Want) (parts : Parts) → At p n → Unresumed A n → AllOpen A ws → Proper A (Inside p.sels) (lines_below parts) → Placed G (Inner G p) (lines_below parts) → Topped p (made n ws parts)
  made_topped p n ws parts at u o r d = record {
    at = at;
    over = refl;
    proper = (u, proper_append A (Inside p.sels) (map Asks ws) (lines_below parts) (proper_wants A (Inside p.sels) ws o) r);
    placed = placed_made G p n ws (lines_below parts) at d;
  }

  -- a node that asks for something, with nothing below it
  pub leaf_topped : (p : Place) (n : Node) (ws : List Want) → At p n → Unresumed A n → AllOpen A ws → Topped p (made n ws nothing)
  leaf_topped p n ws at u o = made_topped p n ws nothing at u o tt (placed_none G (Inner G p))

  pub alone_topped : (p : Place) (k : Kind) (ph : Phase) (n : Note) → (ph ≡ Running → ⊥) → Topped p (alone p k ph n)
  alone_topped p k ph n f = leaf_topped p (node p k ph n no_outputs) [] (node_at p k ph n no_outputs) (λ _ e. absurd (f e)) tt

  -- a node that would end so, over lines below it
  pub ending_topped : (p : Place) (k : Kind) (ph : Phase) (n : Note) (o : Outputs) (d : Ending) (parts : Parts) → (k ≡ kind.Suspend → ⊥) → Proper A (Inside p.sels) (lines_below parts) → Placed G (Inner G p) (lines_below parts) → Topped p (made (ended_node p k ph n o d) [] parts)
  ending_topped p k ph n o d parts f r h =
      let e = ending_ends p k ph n o d in
      made_topped p (ended_node p k ph n o d) [] parts e.at (λ s _. absurd (f (cc (s, e.kind)))) tt r h

  -- ---- pods and attempts

  pub pod_topped : (p : Place) (ds : List OutputDecl) (o : Option (Note × Outcome)) → A.outcome p ≡ o → Topped p (pod_by p ds o)
  pod_topped p ds None e = leaf_topped p (node p kind.Pod Running note.None no_outputs) (want.Pod (path p.sels) ∷ []) (node_at p kind.Pod Running note.None no_outputs) (λ s _. absurd (cc s)) ((p, refl, e), tt)
  pod_topped p ds (Some o) e = ending_topped p kind.Pod o.1.phase o.0 (outputs_of o.1) (completed ds (outputs_of o.1)) nothing (λ s. absurd (cc s)) tt (placed_none G (Inner G p))

  pub pod_proper : (p : Place) (ds : List OutputDecl) (o : Option (Note × Outcome)) → A.outcome p ≡ o → Proper A Nowhere (lines_in (pod_by p ds o))
  pod_proper p ds None e = ((λ s _. absurd (cc s)), ((p, refl, e), tt))
  pod_proper p ds (Some o) e = let n = ending_ends p kind.Pod o.1.phase o.0 (outputs_of o.1) (completed ds (outputs_of o.1)) in ((λ s _. absurd (cc (s, n.kind))), tt)

  module _ (p : Place) (ds : List OutputDecl) (r : Retry) where
    abbrev Region : ℕ → ℕ → Node → Type 0
    Region k n = Kids G attempt_step p k (tries n)

    abbrev TriesKin : ℕ → ℕ → Type 0
    TriesKin k n = Kin G attempt_step k (tries n)

    -- the attempts from one on: their lines are proper, and the timer of the next was not due
    record Trying (k n : ℕ) (a : Attempts) : Type 0 where
      pods : Proper A Nowhere (lines_of a.all)
      placed : Placed G (Region k n) (lines_of a.all)
      timer : (tick : ℕ) → a.next ≡ Some tick → A.due (attempt p (k + length a.all)).sels ≡ false

    one_placed : (k : ℕ) (o : Option (Note × Outcome)) → A.outcome (attempt p k) ≡ o → Placed G (G.Below (down p (attempt_step k tt))) (lines_in (pod_by (attempt p k) ds o))
    one_placed k o e = outer G (attempt p k) (lines_in (pod_by (attempt p k) ds o)) (pod_topped (attempt p k) ds o e).placed

    last_placed : (k n : ℕ) (o : Option (Note × Outcome)) → A.outcome (attempt p k) ≡ o → Placed G (Region k n) (lines_of (pod_by (attempt p k) ds o ∷ []))
    last_placed k zero o e = placed_last G attempt_step p k tt [] (lines_in (pod_by (attempt p k) ds o)) (one_placed k o e)
    last_placed k (suc n) o e = placed_last G attempt_step p k tt (tries n) (lines_in (pod_by (attempt p k) ds o)) (one_placed k o e)

    one_ends : (k n : ℕ) (o : Option (Note × Outcome)) (over : Bool) → A.outcome (attempt p k) ≡ o → Trying k n (ends_with (pod_by (attempt p k) ds o) over)
    one_ends k n o over e = record {
      pods = proper_append A Nowhere (lines_in (pod_by (attempt p k) ds o)) [] (pod_proper (attempt p k) ds o e) tt;
      placed = last_placed k n o e;
      timer = λ tick f. absurd (cc f);
    }

    not_due : (b : Option Backoff) (k : ℕ) → may_start A p b k ≡ false → A.due (attempt p k).sels ≡ false
    not_due None k e = absurd (cc e)
    not_due (Some b) k e = e

    module _ (k n : ℕ) (o : Note × Outcome) (known : A.outcome (attempt p k) ≡ Some o) (begin : ℕ) (rest : ℕ → Attempts) (more : Trying (suc k) n (rest begin)) (kin : TriesKin k (suc n)) where
      abbrev this : Made
      this = ended_attempt p ds k o

      trying_started : (b : Bool) → may_start A p r.backoff (suc k) ≡ b → Trying k (suc n) (started_by A p ds r k o begin rest b)
      trying_started false e = record {
        pods = proper_append A Nowhere (lines_in this) [] (pod_proper (attempt p k) ds (Some o) known) tt;
        placed = last_placed k (suc n) (Some o) known;
        timer = λ tick _. (let s : suc k ≡ k + 1 = omega arith in subst (λ (i : ℕ). A.due (attempt p i).sels ≡ false) s (not_due r.backoff (suc k) e));
      }
      trying_started true e = record {
        pods = proper_append A Nowhere (lines_in this) (lines_of (rest begin).all) (pod_proper (attempt p k) ds (Some o) known) more.pods;
        placed = placed_then G attempt_step p k tt (tries n) (lines_in this) (lines_of (rest begin).all) kin (one_placed k (Some o) known) more.placed;
        timer = λ tick f. (let s : suc k + length (rest begin).all ≡ k + suc (length (rest begin).all) = omega arith in subst (λ (i : ℕ). A.due (attempt p i).sels ≡ false) s (more.timer tick f));
      }

      trying_retried : (b : Bool) → Trying k (suc n) (retried_by A p ds r k o begin rest b)
      trying_retried false = one_ends k (suc n) (Some o) true known
      trying_retried true = trying_started (may_start A p r.backoff (suc k)) refl

    trying_by : (k n : ℕ) (first : Option ℕ) (rest : ℕ → Attempts) → ((begin : ℕ) → Trying (suc k) n (rest begin)) → TriesKin k (suc n) → (o : Option (Note × Outcome)) → A.outcome (attempt p k) ≡ o → Trying k (suc n) (attempt_by A p ds r k first rest o)
    trying_by k n first rest more kin None e = one_ends k (suc n) None false e
    trying_by k n first rest more kin (Some o) e = trying_retried k n o e (first_begin first o.1) rest (more (first_begin first o.1)) kin (follows p ds r o k (first_begin first o.1))

    trying : (n k : ℕ) (first : Option ℕ) → TriesKin k n → Trying k n (attempts_from A p ds r n k first)
    trying zero k first kin = one_ends k zero (A.outcome (attempt p k)) _ refl
    trying (suc n) k first kin = trying_by k n first (λ begin. attempts_from A p ds r n (suc k) (Some begin)) (λ begin. trying n (suc k) (Some begin) kin.2) kin (A.outcome (attempt p k)) refl

    timer_open : (a : Attempts) (n : ℕ) → Trying 0 n a → (t : Option ℕ) → a.next ≡ t → AllOpen A (next_timer p a.all t)
    timer_open a n h None e = tt
    timer_open a n h (Some tick) e = (let s : 0 + length a.all ≡ length a.all = omega arith in subst (λ (i : ℕ). A.due (attempt p i).sels ≡ false) s (h.timer tick e), tt)

    abbrev the : Attempts
    the = attempts A p ds r

    abbrev timers : List Want
    timers = next_timer p the.all the.next

    abbrev below_it : Parts
    below_it = then_parts (row_of the.all) (asked timers)

    laid : lines_of the.all ++ map Asks timers ≡ lines_below below_it
    laid = sym (lines_tried (row_of the.all) timers)

    -- each attempt that may follow fits
    abbrev AttemptsKin : Type 0
    AttemptsKin = TriesKin 0 (further r)

    below_proper : AttemptsKin → Proper A Nowhere (lines_of the.all ++ map Asks timers)
    below_proper kin = let h = trying (further r) 0 None kin in proper_append A Nowhere (lines_of the.all) (map Asks timers) h.pods (proper_wants A Nowhere timers (timer_open the (further r) h the.next refl))

    below_placed : AttemptsKin → Placed G (Inner G p) (lines_of the.all ++ map Asks timers)
    below_placed kin =
        let n = further r in
        let h = trying n 0 None kin in
        placed_before G (Inner G p) (lines_of the.all) (map Asks timers) (placed_map G (Region 0 n) (Inner G p) (lines_of the.all) (kids_inner G attempt_step p 0 (tries n) (λ j x. refl) kin) h.placed) (placed_wants G (λ k. ⊥) timers)

    pub retry_at : (a : Attempts) (b : Bool) → At p (retry_node p a b)
    retry_at a true = node_at p kind.Retry a.last.own.node.phase note.None a.last.own.node.outputs
    retry_at a false = node_at p kind.Retry Running note.None no_outputs

    unresumed : (a : Attempts) (b : Bool) → Unresumed A (retry_node p a b)
    unresumed a true s _ = absurd (cc s)
    unresumed a false s _ = absurd (cc s)

    pub retry_topped : AttemptsKin → Topped p (retry_made A p ds r)
    retry_topped kin = made_topped p (retry_node p the the.over) [] below_it (retry_at the the.over) (unresumed the the.over) tt (proper_map A Nowhere (Inside p.sels) (lines_below below_it) (λ q x. absurd x) (subst (Proper A Nowhere) laid (below_proper kin))) (subst (Placed G (Inner G p)) laid (below_placed kin))

    pub retry_proper : AttemptsKin → Proper A Nowhere (lines_in (retry_made A p ds r))
    retry_proper kin = (unresumed the the.over, subst (Proper A Nowhere) laid (below_proper kin))

  -- ---- suspended nodes

  timer_wants_open : (p : Place) (tick : ℕ) (n : Option ℕ) → A.due p.sels ≡ false → AllOpen A (timer_wants p tick n)
  timer_wants_open p tick None e = tt
  timer_wants_open p tick (Some n) e = (e, tt)

  suspend_open : (p : Place) (n t : Option ℕ) → A.armed p.sels ≡ t → A.due p.sels ≡ false → AllOpen A (suspend_wants p n t)
  suspend_open p n None e d = (e, tt)
  suspend_open p n (Some tick) e d = timer_wants_open p tick n d

  suspend_by_topped : (p : Place) (ds : List OutputDecl) (n : Option ℕ) (b : Bool) → (A.due p.sels || A.resumed p.sels) ≡ b → Topped p (suspend_by p ds n (A.armed p.sels) b)
  suspend_by_topped p ds n true e = let x = ended_well (defaulted ds).outputs (defaulted ds).lack in leaf_topped p (ended_node p kind.Suspend Succeeded note.None no_outputs (defaulted ds)) [] (ending_ends p kind.Suspend Succeeded note.None no_outputs (defaulted ds)).at x tt
    where
      ended_well : (o : Outputs) (lack : Option (List ℕ)) → Unresumed A (succeeded_node p kind.Suspend note.None o lack)
      ended_well o None k r = absurd (cc r)
      ended_well o (Some name) k r = absurd (cc r)
  suspend_by_topped p ds n false e = let two = neither_left (A.due p.sels) (A.resumed p.sels) e in leaf_topped p (node p kind.Suspend Running note.None no_outputs) (suspend_wants p n (A.armed p.sels)) (node_at p kind.Suspend Running note.None no_outputs) (λ _ _. two.1) (suspend_open p n (A.armed p.sels) refl two.0)

  suspended_topped : (p : Place) (ds : List OutputDecl) (f : Found (Option ℕ)) → Topped p (suspended A p ds f)
  suspended_topped p ds (Err fault) = alone_topped p kind.Suspend Error fault (λ e. absurd (cc e))
  suspended_topped p ds (Ok n) = suspend_by_topped p ds n _ refl

  pub suspend_topped : (p : Place) (s : Scope) (ds : List OutputDecl) (o : Option (List Part)) → Topped p (suspend_made A p s ds o)
  suspend_topped p s ds o = suspended_topped p ds (seconds_of s o)

  -- ---- what calls others

  abbrev pub Sound : Caller → Type 0
  Sound run = (prefix : List ℕ) (p : Place) (s : Scope) (c : Call) → Called p (run prefix p s c)

  pub at_child : (P : Sels) (s : Sel) (ls : List Line) → Proper A (Under (P ++ s ∷ [])) ls → Proper A (AtChild P s) ls
  at_child P s ls h = proper_map A (Under (P ++ s ∷ [])) (AtChild P s) ls (under_at_child P s) h

  module _ (run : Caller) (sound : Sound run) where
    pub members_proper : (g : Place) (s : Scope) (i : ℕ) (cs : List Call) → All (λ j m. Proper A (AtChild g.sels (step_at j)) (lines_in m.1)) i (numbered (member run g s) i cs)
    members_proper g s i cs = all_numbered (member run g s) (λ j m. Proper A (AtChild g.sels (step_at j)) (lines_in m.1)) i cs (λ j c. at_child g.sels (step_at j) (lines_in (member run g s j c).1) (sound (codes "steps.") (member_place g j c) s c).proper)

    pub group_called : (g : Place) (s : Scope) (cs : List Call) → Kin G member_step 0 cs → Called g (group_made g (members run g s cs))
    group_called g s cs k =
        let ms = members run g s cs in
        topped_called g (group_made g ms) (made_topped g (node g kind.StepGroup (group_phase ms) note.None no_outputs) [] (row_of (makings ms)) (node_at g kind.StepGroup (group_phase ms) note.None no_outputs) (λ e _. absurd (cc e)) tt (proper_map A (From step_at g.sels 0) (Inside g.sels) (lines_of (makings ms)) (from_inside step_at step_ways g.sels 0) (rows_proper step_at step_ways g.sels members_laid A 0 ms (members_proper g s 0 cs))) (placed_map G (Kids G member_step g 0 cs) (Inner G g) (lines_of (makings ms)) (kids_inner G member_step g 0 cs (λ j x. refl) k) (rows_placed G member_step members_laid (member run g s) g 0 cs k (λ j c. (sound (codes "steps.") (member_place g j c) s c).placed))))

    module _ (p : Place) where
      -- the groups from one on
      pub record Grouped (i : ℕ) (gs : List (List Call)) (ls : List Line) : Type 0 where
        pub proper : Proper A (From group_at p.sels i) ls
        pub placed : Placed G (Kids G group_step p i gs) ls

      groups_by_sound : (i : ℕ) (s tags : Scope) (cs : List Call) (gs : List (List Call)) (rest : Scope → Groups) → Called (group_place p i) (group_made (group_place p i) (members_at run p i s cs)) → ((inner : Scope) → Grouped (suc i) gs (lines_of (rest inner).all)) → Kin G group_step i (cs ∷ gs) → (b : Bool) → Grouped i (cs ∷ gs) (lines_of (groups_by (group_made (group_place p i) (members_at run p i s cs)) tags s rest b).all)
      groups_by_sound i s tags cs gs rest g h kin true =
          let ls = (lines_in (group_made (group_place p i) (members_at run p i s cs))) in
          let r = h (tags ++ s) in
          record { proper = child_then group_at group_ways p.sels A i ls (lines_of (rest (tags ++ s)).all) (at_child p.sels (group_at i) ls g.proper) r.proper; placed = placed_then G group_step p i cs gs ls (lines_of (rest (tags ++ s)).all) kin g.placed r.placed }
      groups_by_sound i s tags cs gs rest g h kin false =
          let ls = (lines_in (group_made (group_place p i) (members_at run p i s cs))) in
          record { proper = child_then group_at group_ways p.sels A i ls [] (at_child p.sels (group_at i) ls g.proper) tt; placed = placed_last G group_step p i cs gs ls g.placed }

      pub groups_sound : (i : ℕ) (s : Scope) (gs : List (List Call)) → StepsFit G gs → Kin G group_step i gs → Grouped i gs (lines_of (groups_from run p i s gs).all)
      groups_sound i s [] k kin = record { proper = tt; placed = placed_none G (Kids G group_step p i []) }
      groups_sound i s (cs ∷ gs) k kin = groups_by_sound i s _ cs gs (λ inner. groups_from run p (suc i) inner gs) (group_called (group_place p i) s cs k.0) (λ inner. groups_sound (suc i) inner gs k.1 kin.2) kin _

    pub steps_topped : (p : Place) (s : Scope) (ds : List OutputDecl) (gs : List (List Call)) → StepsFit G gs → Kin G group_step 0 gs → Topped p (steps_made run p s ds gs)
    steps_topped p s ds gs k kin =
        let a = groups_from run p 0 s gs in
        let h = groups_sound p 0 s gs k kin in
        ending_topped p kind.Steps (steps_phase a.all) note.None no_outputs (computed a.scope ds) (row_of a.all) (λ e. absurd (cc e)) (proper_map A (From group_at p.sels 0) (Inside p.sels) (lines_of a.all) (from_inside group_at group_ways p.sels 0) h.proper) (placed_map G (Kids G group_step p 0 gs) (Inner G p) (lines_of a.all) (kids_inner G group_step p 0 gs (λ j x. refl) kin) h.placed)

    -- ---- DAGs

    module _ (p : Place) (s : Scope) (d : Dag) where
      abbrev pub StandSound : ℕ → Task → Standing → Type 0
      StandSound k t waiting = Unit {0}
      StandSound k t ready = A.begun (task_place p k t).sels ≡ false
      StandSound k t (exists m b seen) = Called (task_place p k t) m

      free_by_sound : (seen : Scope) (k : ℕ) (t : Task) (b : Bool) → (not d.fail_fast || A.begun (task_place p k t).sels) ≡ b → StandSound k t (free_by A run p s d seen k t b)
      free_by_sound seen k t false e = (neither_left (not d.fail_fast) (A.begun (task_place p k t).sels) e).1
      free_by_sound seen k t true e = sound _ _ _ t.call

      free_sound : (seen : Scope) (k : ℕ) (t : Task) → StandSound k t (free A run p s d seen k t)
      free_sound seen k t = free_by_sound seen k t _ refl

      decided_sound : (a : Look) (k : ℕ) (t : Task) (e : Expression) (b : Bool) → StandSound k t (decided_by A run p s d a k t e b)
      decided_sound a k t e false = topped_called (task_place p k t) _ (alone_topped (task_place p k t) kind.Skipped Omitted note.DependsFalse (λ x. absurd (cc x)))
      decided_sound a k t e true = free_sound (tags_before a (named e)) k t

      waits_sound : (a : Look) (k : ℕ) (t : Task) (e : Expression) (b : Bool) → StandSound k t (waits_by A run p s d a k t e b)
      waits_sound a k t e false = tt
      waits_sound a k t e true = decided_sound a k t e _

      awaited_sound : (a : Look) (k : ℕ) (t : Task) (w : Option Expression) → StandSound k t (meant A run p s d a k t w)
      awaited_sound a k t None = free_sound [] k t
      awaited_sound a k t (Some e) = waits_sound a k t e _

      meant_sound : (a : Look) (k : ℕ) (t : Task) (b : Bool) → StandSound k t (meant_by A run p s d a k t b)
      meant_sound a k t false = tt
      meant_sound a k t true = awaited_sound a k t (awaited d.tasks t)

      abbrev pub AllSound : Standings → Type 0
      AllSound ss = All (λ k x. StandSound k x.0 x.1) 0 ss

      pub rounds_sound : (n : ℕ) → AllSound (rounds A run p s d n)
      rounds_sound zero = tt
      rounds_sound (suc n) = all_numbered (with_standing A run p s d (look (rounds A run p s d n))) (λ k x. StandSound k x.0 x.1) 0 d.tasks (λ k t. meant_sound (look (rounds A run p s d n)) k t (is_meant d t))

      -- a task that is ready may begin at its own path, what one that exists made may begin below it
      pub line_proper : (x : Bool) (k : ℕ) (t : Task) (u : Standing) → StandSound k t u → Proper A (AtChild p.sels (task_at k)) (standing_lines x (task_place p k t) u)
      line_proper true k t waiting h = tt
      line_proper false k t waiting h = tt
      line_proper true k t ready h = tt
      line_proper false k t ready h = ((([], refl), h), tt)
      line_proper true k t (exists m b seen) h = at_child p.sels (task_at k) (lines_in m) h.proper
      line_proper false k t (exists m b seen) h = at_child p.sels (task_at k) (lines_in m) h.proper

      line_placed : (x : Bool) (k : ℕ) (t : Task) (u : Standing) → StandSound k t u → Placed G (G.Below (task_place p k t)) (standing_lines x (task_place p k t) u)
      line_placed true k t waiting h = placed_none G _
      line_placed false k t waiting h = placed_none G _
      line_placed true k t ready h = placed_none G _
      line_placed false k t ready h = record { lies = (tt, tt); apart = (tt, tt) }
      line_placed true k t (exists m b seen) h = h.placed
      line_placed false k t (exists m b seen) h = h.placed

      pub lines_proper : (x : Bool) (i : ℕ) (ss : Standings) → All (λ k y. StandSound k y.0 y.1) i ss → All (λ k y. Proper A (AtChild p.sels (task_at k)) (task_lines x p k y)) i ss
      lines_proper x i ss h = all_map (λ k y. StandSound k y.0 y.1) (λ k y. Proper A (AtChild p.sels (task_at k)) (task_lines x p k y)) i ss (λ k y. line_proper x k y.0 y.1) h

      rounds_placed : (x : Bool) (n : ℕ) → DagFits G d → Placed G (Kids G task_step p 0 d.tasks) (dag_lines x p (rounds A run p s d n))
      rounds_placed x zero k = placed_none G (Kids G task_step p 0 d.tasks)
      rounds_placed x (suc n) k = let a = look (rounds A run p s d n) in rows_placed G task_step (tasks_laid x p) (with_standing A run p s d a) p 0 d.tasks k (λ i t. line_placed x i t (standing A run p s d a i t) (meant_sound a i t (is_meant d t)))

      pub dag_topped : (ds : List OutputDecl) → DagFits G d → Topped p (dag_made A run p s ds d)
      dag_topped ds k =
          let ss = standings A run p s d in
          let x = is_doomed d ss in
          ending_topped p kind.DAG (dag_phase d ss) note.None no_outputs (computed (dag_tags ss ++ s) ds) (tasks_below x p 0 ss) (λ e. absurd (cc e)) (proper_map A (From task_at p.sels 0) (Inside p.sels) (dag_lines x p ss) (from_inside task_at task_ways p.sels 0) (rows_proper task_at task_ways p.sels (tasks_laid x p) A 0 ss (lines_proper x 0 ss (rounds_sound (length d.tasks))))) (placed_map G (Kids G task_step p 0 d.tasks) (Inner G p) (dag_lines x p ss) (kids_inner G task_step p 0 d.tasks (λ j y. refl) k) (rounds_placed x (length d.tasks) k))
