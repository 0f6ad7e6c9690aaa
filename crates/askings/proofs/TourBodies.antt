-- A tour of a template's body.
use Rattle.std.proofs.Common.{◌≡◌, refl, sym, ◌∙◌, ap, subst, ◌+◌, arith}
use Rattle.std.proofs.Math.Logic.{inl}
use Rattle.std.specs.Prelude.{ℕ, zero, suc, List, [], ◌∷◌, ◌++◌, Bool, true, false, not, ◌||◌, Option, Some, None, Result, Ok, Err, map, length, codes, slice_get}
use Rattle.std.specs.List.{list_all}
use Rattle.tree_types.specs.declared.path.Path.{Path}
use Rattle.tree_types.specs.declared.path.Sel.TheVariants.{Group, Step, Task as task_sel, Attempt}
use Rattle.tree_types.specs.declared.phase.Phase.{Phase}
use Rattle.tree_types.specs.declared.phase.Phase.TheVariants.{Pending, Running, Succeeded, Skipped, Failed, Error, Omitted}
use Rattle.tree_types.specs.declared.node.Kind.{Kind}
use Rattle.tree_types.specs.declared.node.Kind.TheVariants as kind
use Rattle.tree_types.specs.declared.node.Note.{Note}
use Rattle.tree_types.specs.declared.node.Note.TheVariants as note
use Rattle.tree_types.specs.declared.node.Node.{Node}
use Rattle.tree_types.specs.declared.outcome.Outcome.{Outcome}
use Rattle.tree_types.specs.declared.outcome.Outputs.{Outputs}
use Rattle.tree_types.specs.declared.want.Want.{Want}
use Rattle.tree_types.specs.declared.want.Want.TheVariants as want
use Rattle.tree_types.specs.Phases.{fulfilled, is_end, is_succeeded}
use Rattle.depends_expr.specs.Expression.{Expression}
use Rattle.depends_expr.specs.Truth.{named}
use Rattle.tag_text.specs.declared.part.Part.{Part as TagPart}
use Rattle.wf_manifest.specs.declared.calls.Call.{Call}
use Rattle.wf_manifest.specs.declared.calls.Task.{Task}
use Rattle.wf_manifest.specs.declared.calls.Dag.{Dag}
use Rattle.wf_manifest.specs.declared.calls.Hook.{Hook}
use Rattle.wf_manifest.specs.declared.templates.OutputDecl.{OutputDecl}
use Rattle.wf_manifest.specs.declared.templates.Retry.{Retry}
use Rattle.wf_manifest.specs.declared.templates.Body.{Body}
use Rattle.wf_manifest.specs.declared.templates.Body.TheVariants as body
use Rattle.wf_manifest.specs.declared.templates.Template.{Template}
use Rattle.wf_manifest.specs.declared.manifest.Manifest.{Manifest}
use Rattle.time_text.specs.declared.duration.DurationRefused.{DurationRefused}
use Rattle.time_text.specs.Durations.{duration_of}
use Rattle.scopes.specs.Substitution.{Found, ◌>>=◌, Scope, said}
use Rattle.meaning.specs.declared.lines.Place.{Place}
use Rattle.meaning.specs.declared.lines.Line.{Line}
use Rattle.meaning.specs.declared.lines.Line.TheVariants.{Stands, Asks}
use Rattle.meaning.specs.Answers.{path, Answers}
use Rattle.meaning.specs.Lines.{Made, lines_in, no_outputs, node, made, alone, lines_of, all_finished, Parts, nothing, row_of, asked, then_parts, lines_below}
use Rattle.meaning.specs.Outputs.{Ending, completed, computed, defaulted, succeeded_node, ended_node}
use Rattle.meaning.specs.Pods.{outputs_of, pod_by, Attempts, before_attempts, first_begin, further, due_tick, attempt, may_start, ended_attempt, started_by, retried_by, follows, attempt_by, attempts_from, attempts, next_timer, retry_node, retry_made}
use Rattle.meaning.specs.Suspends.{seconds_read, seconds_of, suspend_wants, suspend_by, suspended, suspend_made}
use Rattle.meaning.specs.Steps.{Caller, Member, member_place, member, members, makings, group_phase, group_made, Groups, group_place, groups_by, members_at, groups_from, steps_phase, steps_made}
use Rattle.meaning.specs.Dags.{Standing, waiting, ready, exists, Look, look, task_place, tags_before, is_over, awaited, is_meant, free_by, free, decided_by, waits_by, meant, meant_by, with_standing, rounds, standings, is_doomed, dag_phase, dag_tags, dag_made, tasks_below}
use Rattle.meaning.specs.Guards.{of_template, of_group, nowhere, inside, inside_body, group_spot, call_spot, call_of_task}
use Rattle.growth.proofs.Numbered.{All, all_map, all_from, all_numbered, both_true, Laid}
use Rattle.meaning.specs.Trees.{nodes_in}
use Rattle.growth.proofs.Lines.{Every, every_append, Any, any_right, IsNode}
use Rattle.growth.proofs.Keeping.{not_both, At, node_at, ending_ends}
use Rattle.growth.proofs.SoundBodies.{members_laid, tasks_laid, standing_lines, task_lines, dag_lines}
use Rattle.growth.proofs.GrowingBodies.{finished_group}
use Rattle.growth.proofs.GrowingTrees.{among_nodes}
use Rattle.growth.specs.Ticks.{place_of}
use Rattle.askings.specs.Ends.{SucceededByOutcome}
use Rattle.askings.specs.Owners.{is_attempt, memo_of_spot, memo_at}
use Rattle.askings.specs.ByTemplate.{duration_in, duration_of_spot, duration_at, retry_of_spot, AttemptStands, NextDue, IsTemplateScope}
use Rattle.askings.proofs.Walks.{PlacedIn, positions, Stood, stood_in, stood_as, stood_not_attempt, inside_not_exit, inside_attempt, no_lock, Within, within_child, all_guarded}
use Rattle.askings.proofs.Tours.{Part, part_left, part_right, Quiet, Idle, over_idle, Unsaved, unsucceeded, unmemoized, Trial, Headed, made_headed, Tour}
use Rattle.meaning.proofs.Flattening.{lines_tried}

module _ (m : Manifest) (A : Answers) (whole : List Line) (T : Tour m A whole) (own : T.Known []) where
  abbrev pub Good : List Line → Type 0
  Good ls = T.Good ls

  abbrev pub PartOf : List Line → Type 0
  PartOf ls = Part whole ls

  abbrev pub GoodPart : List Line → Type 0
  GoodPart ls = PartOf ls → Good ls

  -- what stands at a place, and what is known above it
  pub record Placed (p : Place) (hook : Option Hook) (t : Template) : Type 0 where
    pub stood : Stood m p.sels (of_template t hook)
    pub within : Within T.Known p.sels
    pub here : T.Known p.sels

  -- what a node asks for, and what stands below it
  abbrev pub after_node : Made → List Line
  after_node b = map Asks b.own.wants ++ lines_below b.parts

  -- a body: its node stands at this place, and asks for nothing once it Succeeded; what it is saved in is not of it
  pub record BodyGood (p : Place) (b : Made) : Type 0 where
    pub at : At p b.own.node
    pub good : Unsaved m A b.own.node → Good (lines_in b)
    pub tail : is_succeeded b.own.node.phase ≡ true → Good (after_node b)
    pub succeeded : SucceededByOutcome A b.own.node

  pub alone_good : (p : Place) (k : Kind) (ph : Phase) (n : Note) → fulfilled ph ≡ true → is_succeeded ph ≡ false → Good (lines_in (alone p k ph n))
  alone_good p k ph n r s = T.stands (node p k ph n no_outputs) [] (over_idle A whole (node p k ph n no_outputs) r (λ e c. not_both (is_succeeded ph) (ap is_succeeded c) s)) (unsucceeded m A (node p k ph n no_outputs) s) T.none

  -- a node that asks for nothing, over lines
  pub over_good : (p : Place) (n : Node) (parts : Parts) → At p n → Idle A whole n → Good (lines_below parts) → BodyGood p (made n [] parts)
  over_good p n parts at i g = record { at = at; good = λ u. T.stands n (lines_below parts) i u g; tail = λ _. g; succeeded = i.succeeded }

  succeeded_note : (p : Place) (k : Kind) (o : Outputs) (lack : Option (List ℕ)) → (succeeded_node p k note.None o lack).phase ≡ Pending → (succeeded_node p k note.None o lack).note ≡ note.None
  succeeded_note p k o None e = refl
  succeeded_note p k o (Some name) e = absurd (cc e)

  -- a node that would end so, with no note
  no_note : (p : Place) (k : Kind) (ph : Phase) (o : Outputs) (d : Ending) → (ended_node p k ph note.None o d).phase ≡ Pending → (ended_node p k ph note.None o d).note ≡ note.None
  no_note p k Succeeded o d e = succeeded_note p k d.outputs d.lack e
  no_note p k Pending o d e = refl
  no_note p k Running o d e = refl
  no_note p k Skipped o d e = refl
  no_note p k Failed o d e = refl
  no_note p k Error o d e = refl
  no_note p k Omitted o d e = refl

  -- a node of another kind
  other_idle : (p : Place) (k : Kind) (ph : Phase) (o : Outputs) (d : Ending) → (k ≡ kind.Suspend → ⊥) → (k ≡ kind.Pod → ⊥) → (k ≡ kind.Retry → ⊥) → Idle A whole (ended_node p k ph note.None o d)
  other_idle p k ph o d f g h = record {
    suspended = λ e r. f (sym (ending_ends p k ph note.None o d).kind ∙ e);
    pod = λ e r. g (sym (ending_ends p k ph note.None o d).kind ∙ e);
    pending = no_note p k ph o d;
    retry = λ e r. absurd (h (sym (ending_ends p k ph note.None o d).kind ∙ e));
    succeeded = λ e. absurd (g (sym (ending_ends p k ph note.None o d).kind ∙ e));
  }

  succeeded_over : (p : Place) (k : Kind) (n : Note) (o : Outputs) (lack : Option (List ℕ)) → fulfilled (succeeded_node p k n o lack).phase ≡ true
  succeeded_over p k n o None = refl
  succeeded_over p k n o (Some name) = refl

  ending_over : (p : Place) (k : Kind) (ph : Phase) (n : Note) (o : Outputs) (d : Ending) → fulfilled ph ≡ true → fulfilled (ended_node p k ph n o d).phase ≡ true
  ending_over p k Succeeded n o d e = succeeded_over p k n d.outputs d.lack
  ending_over p k Pending n o d e = e
  ending_over p k Running n o d e = e
  ending_over p k Skipped n o d e = e
  ending_over p k Failed n o d e = e
  ending_over p k Error n o d e = e
  ending_over p k Omitted n o d e = e

  end_over : (ph : Phase) → is_end ph ≡ true → fulfilled ph ≡ true
  end_over Succeeded e = refl
  end_over Failed e = refl
  end_over Error e = refl
  end_over Skipped e = refl
  end_over Omitted e = refl
  end_over Pending e = not_both false e refl
  end_over Running e = not_both false e refl

  -- a node that ends so
  ended_idle : (p : Place) (k : Kind) (ph : Phase) (n : Note) (o : Outputs) (d : Ending) → fulfilled ph ≡ true → SucceededByOutcome A (ended_node p k ph n o d) → Idle A whole (ended_node p k ph n o d)
  ended_idle p k ph n o d e s = over_idle A whole (ended_node p k ph n o d) (ending_over p k ph n o d e) s

  -- it Succeeds only in that phase
  ending_succeeds : (p : Place) (k : Kind) (ph : Phase) (n : Note) (o : Outputs) (d : Ending) → (ended_node p k ph n o d).phase ≡ Succeeded → is_succeeded ph ≡ true
  ending_succeeds p k Succeeded n o d e = refl
  ending_succeeds p k Pending n o d e = ap is_succeeded e
  ending_succeeds p k Running n o d e = ap is_succeeded e
  ending_succeeds p k Skipped n o d e = ap is_succeeded e
  ending_succeeds p k Failed n o d e = ap is_succeeded e
  ending_succeeds p k Error n o d e = ap is_succeeded e
  ending_succeeds p k Omitted n o d e = ap is_succeeded e

  at_place : (p : Place) (n : Node) → At p n → place_of n ≡ p
  at_place p n a = λ i. record { sels = (a.path i).sels; name = a.name i; depth = a.depth i }

  -- a pod that ended so has Succeeded by its outcome
  ended_succeeds : (p : Place) (o : Note × Outcome) (d : Ending) → A.outcome p ≡ Some o → SucceededByOutcome A (ended_node p kind.Pod o.1.phase o.0 (outputs_of o.1) d)
  ended_succeeds p o d e k s h =
      let n : Node = ended_node p kind.Pod o.1.phase o.0 (outputs_of o.1) d in
      let at : p ≡ place_of n = sym (at_place p n (ending_ends p kind.Pod o.1.phase o.0 (outputs_of o.1) d).at) in
      (o, subst (λ (q : Place). A.outcome q ≡ Some o) at e, ending_succeeds p kind.Pod o.1.phase o.0 (outputs_of o.1) d s)

  -- a node that runs
  open_good : (p : Place) (n : Node) (ws : List Want) (parts : Parts) → At p n → is_succeeded n.phase ≡ false → Good (lines_in (made n ws parts)) → BodyGood p (made n ws parts)
  open_good p n ws parts at r g = record { at = at; good = λ _. g; tail = λ s. not_both (is_succeeded n.phase) s r; succeeded = λ k s. not_both (is_succeeded n.phase) (ap is_succeeded s) r }

  -- things in a row
  pub rows_good : {Y : Type 0} (L : Laid Y) (i : ℕ) (ys : List Y) → All (λ j y. GoodPart (L.one j y)) i ys → GoodPart (L.rows i ys)
  rows_good L i [] h f = subst Good (sym (L.none i)) T.none
  rows_good L i (y ∷ ys) h f =
      let g : PartOf (L.one i y ++ L.rows (suc i) ys) = subst PartOf (L.more i y ys) f in
      subst Good (sym (L.more i y ys)) (T.both (L.one i y) (L.rows (suc i) ys) (h.0 (part_left whole (L.one i y) (L.rows (suc i) ys) g)) (rows_good L (suc i) ys h.1 (part_right whole (L.one i y) (L.rows (suc i) ys) g)))

  -- ---- pods

  pub pod_good : (p : Place) (ds : List OutputDecl) (o : Option (Note × Outcome)) → A.outcome p ≡ o → Within T.Known p.sels → T.Known p.sels → PartOf (lines_in (pod_by p ds o)) → BodyGood p (pod_by p ds o)
  pod_good p ds None e w h f = open_good p (node p kind.Pod Running note.None no_outputs) (want.Pod (path p.sels) ∷ []) nothing (node_at p kind.Pod Running note.None no_outputs) refl (T.pod p e (all_guarded T.Known own p.sels w h) f)
  pod_good p ds (Some o) e w h f = over_good p (ended_node p kind.Pod o.1.phase o.0 (outputs_of o.1) (completed ds (outputs_of o.1))) nothing (ending_ends p kind.Pod o.1.phase o.0 (outputs_of o.1) (completed ds (outputs_of o.1))).at (ended_idle p kind.Pod o.1.phase o.0 (outputs_of o.1) (completed ds (outputs_of o.1)) (end_over o.1.phase o.1.ended) (ended_succeeds p o (completed ds (outputs_of o.1)) e)) T.none

  pod_trial : (p : Place) (ds : List OutputDecl) (o : Option (Note × Outcome)) → Every Trial (lines_in (pod_by p ds o))
  pod_trial p ds None = (tt, (tt, tt))
  pod_trial p ds (Some o) = (tt, tt)

  -- ---- attempts

  module _ (p : Place) (ds : List OutputDecl) (r : Retry) (t : Template) (hook : Option Hook) (is : t.retry ≡ Some r) (a : Placed p hook t) where
    abbrev try : ℕ → Place
    try k = attempt p k

    try_stood : (k : ℕ) → Stood m (try k).sels nowhere
    try_stood k = stood_as m (try k).sels (inside m (of_template t hook) (Attempt k)) nowhere (stood_in m p.sels (Attempt k) (of_template t hook) a.stood) (inside_not_exit m t hook (Attempt k) refl ∙ inside_attempt m t.body k)

    try_headed : (k : ℕ) (o : Option (Note × Outcome)) → Headed (try k) (pod_by (try k) ds o)
    try_headed k None = made_headed (try k) (node (try k) kind.Pod Running note.None no_outputs) (want.Pod (path (try k).sels) ∷ []) nothing (node_at (try k) kind.Pod Running note.None no_outputs)
    try_headed k (Some o) = made_headed (try k) (ended_node (try k) kind.Pod o.1.phase o.0 (outputs_of o.1) (completed ds (outputs_of o.1))) [] nothing (ending_ends (try k) kind.Pod o.1.phase o.0 (outputs_of o.1) (completed ds (outputs_of o.1))).at

    try_unsaved : (k : ℕ) (o : Option (Note × Outcome)) → Unsaved m A (pod_by (try k) ds o).own.node
    try_unsaved k o = unmemoized m A (pod_by (try k) ds o).own.node (ap (λ (q : Path). memo_at m q.sels) (try_headed k o).at.path ∙ ap memo_of_spot (try_stood k).is)

    try_quiet : (k : ℕ) (o : Option (Note × Outcome)) → (pod_by (try k) ds o).own.finished ≡ true → Every Quiet (lines_in (pod_by (try k) ds o))
    try_quiet k None e = not_both false e refl
    try_quiet k (Some o) e = (tt, tt)

    try_good : (k : ℕ) (o : Option (Note × Outcome)) → A.outcome (try k) ≡ o → PartOf (lines_in (pod_by (try k) ds o)) → Good (lines_in (pod_by (try k) ds o))
    try_good k o e f = T.guarded (try k) (pod_by (try k) ds o) (no_lock m (try k).sels nowhere (A.granted (try k).sels ≡ true) (try_stood k) refl) (try_headed k o) (try_quiet k o) f (λ h. (pod_good (try k) ds o e (within_child T.Known p.sels (Attempt k) a.within a.here) h f).good (try_unsaved k o))

    -- the pod of an attempt stands in these lines
    record Tried (k : ℕ) (ls : List Line) : Type 0 where
      pod : Node
      stands : Any (IsNode pod) ls
      below : pod.path.sels ≡ (try k).sels

    one_stands : (k : ℕ) (o : Option (Note × Outcome)) (ls : List Line) → Tried k (lines_in (pod_by (try k) ds o) ++ ls)
    one_stands k o ls = record { pod = (pod_by (try k) ds o).own.node; stands = inl refl; below = ap (λ (q : Path). q.sels) (try_headed k o).at.path }

    stands_behind : (k : ℕ) (ls ks : List Line) → Tried k ks → Tried k (ls ++ ks)
    stands_behind k ls ks x = record { pod = x.pod; stands = any_right (IsNode x.pod) ls ks x.stands; below = x.below }

    -- attempts from attempt k on, the last of which has ended, and the next one is due at this tick
    record Awaits (k : ℕ) (x : Attempts) (tick : ℕ) : Type 0 where
      over : x.over ≡ false
      last : ℕ
      count : k + length x.all ≡ suc last
      tried : Tried last (lines_of x.all)
      outcome : Note × Outcome
      ended : A.outcome (try last) ≡ Some outcome
      due : tick ≡ due_tick r.backoff outcome.1.finish (suc last)

    -- an attempt that runs
    record Runs (x : Attempts) : Type 0 where
      number : ℕ
      tried : Tried number (lines_of x.all)
      runs : tried.pod.phase ≡ Running

    -- attempts: good, their lines ask for pods alone; they are over with the last, or the next is due, or one runs
    record Tries (k : ℕ) (x : Attempts) : Type 0 where
      good : GoodPart (lines_of x.all)
      trials : Every Trial (lines_of x.all)
      ends : x.over ≡ true → fulfilled x.last.own.node.phase ≡ true
      waits : (tick : ℕ) → x.next ≡ Some tick → Awaits k x tick
      runs : x.over ≡ false → x.next ≡ None → Runs x

    abbrev one_of : ℕ → Option (Note × Outcome) → Option ℕ → Bool → Attempts
    one_of k o next over = record { all = pod_by (try k) ds o ∷ []; last = pod_by (try k) ds o; next = next; over = over }

    one_tried : (k : ℕ) (o : Option (Note × Outcome)) (next : Option ℕ) (over : Bool) → (over ≡ true → fulfilled (pod_by (try k) ds o).own.node.phase ≡ true) → ((tick : ℕ) → next ≡ Some tick → Awaits k (one_of k o next over) tick) → (over ≡ false → next ≡ None → (pod_by (try k) ds o).own.node.phase ≡ Running) → A.outcome (try k) ≡ o → Tries k (one_of k o next over)
    unfolding one_stands
    one_tried k o next over h w r e = record {
      good = λ f. T.both (lines_in (pod_by (try k) ds o)) [] (try_good k o e (part_left whole (lines_in (pod_by (try k) ds o)) [] f)) T.none;
      trials = every_append Trial (lines_in (pod_by (try k) ds o)) [] (pod_trial (try k) ds o) tt;
      ends = h;
      waits = w;
      runs = λ x y. record { number = k; tried = one_stands k o []; runs = r x y };
    }

    pod_over : (k : ℕ) (o : Note × Outcome) → fulfilled (pod_by (try k) ds (Some o)).own.node.phase ≡ true
    pod_over k o = ending_over (try k) kind.Pod o.1.phase o.0 (outputs_of o.1) (completed ds (outputs_of o.1)) (end_over o.1.phase o.1.ended)

    pod_runs : (k : ℕ) (o : Option (Note × Outcome)) → (pod_by (try k) ds o).own.finished ≡ false → (pod_by (try k) ds o).own.node.phase ≡ Running
    pod_runs k None e = refl
    pod_runs k (Some o) e = not_both (fulfilled (pod_by (try k) ds (Some o)).own.node.phase) (pod_over k o) e

    module _ (k : ℕ) (o : Note × Outcome) (known : A.outcome (try k) ≡ Some o) (begin : ℕ) (rest : ℕ → Attempts) (more : Tries (suc k) (rest begin)) where
      abbrev first : Made
      first = ended_attempt p ds k o

      awaits_behind : (tick : ℕ) → Awaits (suc k) (rest begin) tick → Awaits k (before_attempts first (rest begin)) tick
      awaits_behind tick w = record {
        over = w.over;
        last = w.last;
        count = (let c : suc k + length (rest begin).all ≡ suc w.last = w.count in let e : k + suc (length (rest begin).all) ≡ suc w.last = omega arith in e);
        tried = stands_behind w.last (lines_in first) (lines_of (rest begin).all) w.tried;
        outcome = w.outcome;
        ended = w.ended;
        due = w.due;
      }

      runs_behind : Runs (rest begin) → Runs (before_attempts first (rest begin))
      unfolding stands_behind
      runs_behind x = record { number = x.number; tried = stands_behind x.number (lines_in first) (lines_of (rest begin).all) x.tried; runs = x.runs }

      started_tried : (b : Bool) → Tries k (started_by A p ds r k o begin rest b)
      started_tried false = one_tried k (Some o) (Some (due_tick r.backoff o.1.finish (suc k))) false (λ e. not_both false e refl) (λ tick n. record { over = refl; last = k; count = (let c : k + 1 ≡ suc k = omega arith in c); tried = one_stands k (Some o) []; outcome = o; ended = known; due = cc n }) (λ e n. absurd (cc n)) known
      started_tried true =
          let ls = lines_in first in
          let ks = lines_of (rest begin).all in
          record {
            good = λ f. T.both ls ks (try_good k (Some o) known (part_left whole ls ks f)) (more.good (part_right whole ls ks f));
            trials = every_append Trial ls ks (pod_trial (try k) ds (Some o)) more.trials;
            ends = more.ends;
            waits = λ tick n. awaits_behind tick (more.waits tick n);
            runs = λ e n. runs_behind (more.runs e n);
          }

      retried_tried : (b : Bool) → Tries k (retried_by A p ds r k o begin rest b)
      retried_tried false = one_tried k (Some o) None true (λ e. pod_over k o) (λ tick n. absurd (cc n)) (λ e n. not_both true refl e) known
      retried_tried true = started_tried (may_start A p r.backoff (suc k))

    tried_by : (k : ℕ) (first : Option ℕ) (rest : ℕ → Attempts) → ((begin : ℕ) → Tries (suc k) (rest begin)) → (o : Option (Note × Outcome)) → A.outcome (try k) ≡ o → Tries k (attempt_by A p ds r k first rest o)
    tried_by k first rest more None e = one_tried k None None false (λ e. not_both false e refl) (λ tick n. absurd (cc n)) (λ e n. refl) e
    tried_by k first rest more (Some o) e = retried_tried k o e (first_begin first o.1) rest (more (first_begin first o.1)) (follows p ds r o k (first_begin first o.1))

    tried : (n k : ℕ) (first : Option ℕ) → Tries k (attempts_from A p ds r n k first)
    tried zero k first = let b : Made = pod_by (try k) ds (A.outcome (try k)) in one_tried k (A.outcome (try k)) None b.own.finished (λ e. sym (try_headed k (A.outcome (try k))).over ∙ e) (λ tick n. absurd (cc n)) (λ e n. pod_runs k (A.outcome (try k)) e) refl
    tried (suc n) k first = tried_by k first (λ begin. attempts_from A p ds r n (suc k) (Some begin)) (λ begin. tried n (suc k) (Some begin)) (A.outcome (try k)) refl

    abbrev the : Attempts
    the = attempts A p ds r

    abbrev parts_of : Option ℕ → Parts
    parts_of next = then_parts (row_of the.all) (asked (next_timer p the.all next))

    laid : (next : Option ℕ) → lines_below (parts_of next) ≡ lines_of the.all ++ map Asks (next_timer p the.all next)
    laid next = lines_tried (row_of the.all) (next_timer p the.all next)

    abbrev Shown : Bool → Option ℕ → Made
    Shown over next = made (retry_node p the over) [] (parts_of next)

    retry_at : (over : Bool) → At p (retry_node p the over)
    retry_at true = node_at p kind.Retry the.last.own.node.phase note.None the.last.own.node.outputs
    retry_at false = node_at p kind.Retry Running note.None no_outputs

    abbrev tries : Tries 0 the
    tries = tried (further r) 0 None

    -- below the Retry node an attempt stands in the tree
    stands_below : (over : Bool) (k : ℕ) → PartOf (lines_of the.all) → Tried k (lines_of the.all) → AttemptStands (nodes_in whole) (retry_node p the over) k
    stands_below true k f x = record { pod = x.pod; stands = among_nodes x.pod whole (f x.pod x.stands); below = x.below }
    stands_below false k f x = record { pod = x.pod; stands = among_nodes x.pod whole (f x.pod x.stands); below = x.below }

    retry_idle : (over : Bool) → the.over ≡ over → the.next ≡ None → PartOf (lines_of the.all) → Idle A whole (retry_node p the over)
    unfolding stands_below tried
    retry_idle true e n f = over_idle A whole (retry_node p the true) (tries.ends e) (λ k. absurd (cc k))
    retry_idle false e n f =
        let x : Runs the = tries.runs e n in
        record { suspended = λ e r. absurd (cc e); pod = λ e r. absurd (cc e); pending = λ r. refl; retry = λ _ _. (x.number, stands_below false x.number f x.tried, x.runs); succeeded = λ e. absurd (cc e) }

    -- the timer of the next attempt, behind the attempts
    abbrev Awaiting : ℕ → ℕ → List Line
    Awaiting tick k = Stands (node p kind.Retry Running note.None no_outputs) ∷ (lines_of the.all ++ Asks (want.Timer (path (try k).sels) tick) ∷ [])

    awaiting_good : (tick : ℕ) → Awaits 0 the tick → PartOf (Awaiting tick (length the.all)) → Good (Awaiting tick (length the.all))
    awaiting_good tick w g =
        let n : Node = node p kind.Retry Running note.None no_outputs in
        let ks = Asks (want.Timer (path (try (length the.all)).sels) tick) ∷ [] in
        let part : PartOf (lines_of the.all) = part_left whole (lines_of the.all) ks (part_right whole (Stands n ∷ []) (lines_of the.all ++ ks) g) in
        let due : NextDue m A n w.last tick = record { retry = r; is = ap retry_of_spot a.stood.is ∙ is; outcome = w.outcome; ended = w.ended; due = w.due } in
        let number : suc w.last ≡ length the.all = (let c : 0 + length the.all ≡ suc w.last = w.count in omega arith) in
        subst (λ (k : ℕ). PartOf (Awaiting tick k) → Good (Awaiting tick k)) number (T.retry p w.last tick (lines_of the.all) (stands_below false w.last part w.tried) due tries.trials (tries.good part)) g

    shown_good : (over : Bool) (next : Option ℕ) → the.over ≡ over → the.next ≡ next → PartOf (lines_in (Shown over next)) → BodyGood p (Shown over next)
    shown_good over None e n f =
        let part : PartOf (lines_of the.all) = part_left whole (lines_of the.all) [] (subst PartOf (laid None) (part_right whole (Stands (retry_node p the over) ∷ []) (lines_below (parts_of None)) f)) in
        over_good p (retry_node p the over) (parts_of None) (retry_at over) (retry_idle over e n part) (subst Good (sym (laid None)) (T.both (lines_of the.all) [] (tries.good part) T.none))
    shown_good true (Some tick) e n f = not_both the.over e (tries.waits tick n).over
    shown_good false (Some tick) e n f =
        let top : Node = node p kind.Retry Running note.None no_outputs in
        let g : PartOf (Awaiting tick (length the.all)) = subst (λ (ls : List Line). PartOf (Stands top ∷ ls)) (laid (Some tick)) f in
        open_good p top [] (parts_of (Some tick)) (retry_at false) refl (subst (λ (ls : List Line). Good (Stands top ∷ ls)) (sym (laid (Some tick))) (awaiting_good tick (tries.waits tick n) g))

    pub retry_good : PartOf (lines_in (retry_made A p ds r)) → BodyGood p (retry_made A p ds r)
    retry_good f = shown_good the.over the.next refl refl f

  -- ---- suspended nodes

  module _ (p : Place) (s : Scope) (ds : List OutputDecl) (t : Template) (hook : Option Hook) (a : Placed p hook t) (k : IsTemplateScope m A s) where
    abbrev running : Node
    running = node p kind.Suspend Running note.None no_outputs

    not_attempt : is_attempt p.sels ≡ false
    not_attempt = stood_not_attempt m p.sels t hook a.stood

    run_at : At p running
    run_at = node_at p kind.Suspend Running note.None no_outputs

    -- a duration that is read is some
    no_read : (x : Result ℕ DurationRefused) → seconds_read x ≡ Ok None → ⊥
    no_read (Ok n) e = absurd (cc e)
    no_read (Err refused) e = absurd (cc e)

    no_seconds : (x : Found (List ℕ)) → (x >>= λ v. seconds_read (duration_of v)) ≡ Ok None → ⊥
    no_seconds (Ok v) e = no_read (duration_of v) e
    no_seconds (Err fault) e = absurd (cc e)

    run_good : (o : Option (List TagPart)) → duration_at m p.sels ≡ o → (n u : Option ℕ) → seconds_of s o ≡ Ok n → A.armed p.sels ≡ u → PartOf (lines_in (made running (suspend_wants p n u) nothing)) → BodyGood p (made running (suspend_wants p n u) nothing)
    run_good o d n None q e f = open_good p running _ nothing run_at refl (T.arming p not_attempt e f)
    run_good None d None (Some armed) q e f = open_good p running [] nothing run_at refl (T.resting p armed not_attempt e d)
    run_good (Some duration) d None (Some armed) q e f = absurd (no_seconds (said s duration) q)
    run_good None d (Some n) (Some armed) q e f = absurd (cc q)
    run_good (Some duration) d (Some n) (Some armed) q e f = open_good p running _ nothing run_at refl (T.timer p s duration armed n k not_attempt e d q f)

    module _ (o : Option (List TagPart)) (is : t.body ≡ body.Suspend o) where
      lasts : duration_at m p.sels ≡ o
      lasts = ap duration_of_spot a.stood.is ∙ ap duration_in is

      suspend_by_good : (n : Option ℕ) (b : Bool) → seconds_of s o ≡ Ok n → PartOf (lines_in (suspend_by p ds n (A.armed p.sels) b)) → BodyGood p (suspend_by p ds n (A.armed p.sels) b)
      suspend_by_good n true q f = over_good p (ended_node p kind.Suspend Succeeded note.None no_outputs (defaulted ds)) nothing (ending_ends p kind.Suspend Succeeded note.None no_outputs (defaulted ds)).at (ended_idle p kind.Suspend Succeeded note.None no_outputs (defaulted ds) refl (λ e. absurd (cc (sym (ending_ends p kind.Suspend Succeeded note.None no_outputs (defaulted ds)).kind ∙ e)))) T.none
      suspend_by_good n false q f = run_good o lasts n (A.armed p.sels) q refl f

      suspended_good : (x : Found (Option ℕ)) → seconds_of s o ≡ x → PartOf (lines_in (suspended A p ds x)) → BodyGood p (suspended A p ds x)
      suspended_good (Err fault) q f = over_good p (node p kind.Suspend Error fault no_outputs) nothing (node_at p kind.Suspend Error fault no_outputs) (over_idle A whole (node p kind.Suspend Error fault no_outputs) refl (λ e. absurd (cc e))) T.none
      suspended_good (Ok n) q f = suspend_by_good n (A.due p.sels || A.resumed p.sels) q f

      pub suspend_good : PartOf (lines_in (suspend_made A p s ds o)) → BodyGood p (suspend_made A p s ds o)
      suspend_good f = suspended_good (seconds_of s o) refl f

  -- ---- what calls others

  abbrev pub RunGood : Caller → Type 0
  RunGood run = (prefix : List ℕ) (p : Place) (s : Scope) (c : Call) → Stood m p.sels (call_spot m (Some c)) → Within T.Known p.sels → GoodPart (lines_in (run prefix p s c))

  -- a call that is finished asks for nothing but saves
  abbrev pub RunQuiet : Caller → Type 0
  RunQuiet run = (prefix : List ℕ) (p : Place) (s : Scope) (c : Call) → (run prefix p s c).own.finished ≡ true → Every Quiet (lines_in (run prefix p s c))

  pub rows_quiet : {Y : Type 0} (L : Laid Y) (i : ℕ) (ys : List Y) → All (λ j y. Every Quiet (L.one j y)) i ys → Every Quiet (L.rows i ys)
  rows_quiet L i [] h = subst (Every Quiet) (sym (L.none i)) tt
  rows_quiet L i (y ∷ ys) h = subst (Every Quiet) (sym (L.more i y ys)) (every_append Quiet (L.one i y) (L.rows (suc i) ys) h.0 (rows_quiet L (suc i) ys h.1))

  module _ (run : Caller) (good : RunGood run) (quiet : RunQuiet run) where
    members_quiet : (i : ℕ) (ms : List Member) → All (λ j x. x.1.own.finished ≡ true → Every Quiet (lines_in x.1)) i ms → all_finished (makings ms) ≡ true → All (λ j x. Every Quiet (lines_in x.1)) i ms
    members_quiet i [] h e = tt
    members_quiet i (x ∷ ms) h e = let two = both_true x.1.own.finished (all_finished (makings ms)) e in (h.0 two.0, members_quiet (suc i) ms h.1 two.1)

    module _ (g : Place) (s : Scope) (cs : List Call) (stood : Stood m g.sels (of_group cs)) (w : Within T.Known g.sels) where
      member_good : T.Known g.sels → (i : ℕ) (c : Call) → slice_get cs i ≡ Some c → GoodPart (lines_in (member run g s i c).1)
      member_good h i c e = good (codes "steps.") (member_place g i c) s c (stood_as m (member_place g i c).sels (call_spot m (slice_get cs i)) (call_spot m (Some c)) (stood_in m g.sels (Step i) (of_group cs) stood) (ap (call_spot m) e)) (within_child T.Known g.sels (Step i) w h)

      abbrev ms : List Member
      ms = members run g s cs

      abbrev group_node : Node
      group_node = node g kind.StepGroup (group_phase ms) note.None no_outputs

      group_quiet : (group_made g ms).own.finished ≡ true → Every Quiet (lines_in (group_made g ms))
      group_quiet e = (tt, rows_quiet members_laid 0 ms (members_quiet 0 ms (all_numbered (member run g s) (λ j x. x.1.own.finished ≡ true → Every Quiet (lines_in x.1)) 0 cs (λ j c. quiet (codes "steps.") (member_place g j c) s c)) (finished_group (all_finished (makings ms)) _ e)))

      pub group_good : GoodPart (lines_in (group_made g ms))
      group_good f = T.guarded g (group_made g ms) (no_lock m g.sels (of_group cs) (A.granted g.sels ≡ true) stood refl) (made_headed g group_node [] (row_of (makings ms)) (node_at g kind.StepGroup (group_phase ms) note.None no_outputs)) group_quiet f (λ h. T.stands group_node (lines_of (makings ms)) (record { suspended = λ e r. absurd (cc e); pod = λ e r. absurd (cc e); pending = λ r. refl; retry = λ e r. absurd (cc e); succeeded = λ e. absurd (cc e) }) (unmemoized m A group_node (ap memo_of_spot stood.is)) (rows_good members_laid 0 ms (all_from (member run g s) (λ j c. slice_get cs j ≡ Some c) (λ j x. GoodPart (lines_in x.1)) 0 cs (member_good h) (positions cs)) (part_right whole (Stands group_node ∷ []) (lines_of (makings ms)) f)))

    module _ (p : Place) (t : Template) (hook : Option Hook) (all : List (List Call)) (is : t.body ≡ body.Steps all) (a : Placed p hook t) where
      group_stood : (i : ℕ) (cs : List Call) → slice_get all i ≡ Some cs → Stood m (group_place p i).sels (of_group cs)
      group_stood i cs e = stood_as m (group_place p i).sels (inside m (of_template t hook) (Group i)) (of_group cs) (stood_in m p.sels (Group i) (of_template t hook) a.stood) (inside_not_exit m t hook (Group i) refl ∙ ap (λ (b : Body). inside_body m b (Group i)) is ∙ ap group_spot e)

      abbrev group_lines : ℕ → Scope → List Call → List Line
      group_lines i s cs = (lines_in (group_made (group_place p i) (members_at run p i s cs)))

      group_lines_good : (i : ℕ) (s : Scope) (cs : List Call) → slice_get all i ≡ Some cs → GoodPart (group_lines i s cs)
      group_lines_good i s cs e = group_good (group_place p i) s cs (group_stood i cs e) (within_child T.Known p.sels (Group i) a.within a.here)

      groups_by_good : (i : ℕ) (s tags : Scope) (cs : List Call) (rest : Scope → Groups) → slice_get all i ≡ Some cs → ((inner : Scope) → GoodPart (lines_of (rest inner).all)) → (b : Bool) → GoodPart (lines_of (groups_by (group_made (group_place p i) (members_at run p i s cs)) tags s rest b).all)
      groups_by_good i s tags cs rest e h true f =
          let ks = lines_of (rest (tags ++ s)).all in
          T.both (group_lines i s cs) ks (group_lines_good i s cs e (part_left whole (group_lines i s cs) ks f)) (h (tags ++ s) (part_right whole (group_lines i s cs) ks f))
      groups_by_good i s tags cs rest e h false f = T.both (group_lines i s cs) [] (group_lines_good i s cs e (part_left whole (group_lines i s cs) [] f)) T.none

      groups_good : (i : ℕ) (s : Scope) (gs : List (List Call)) → PlacedIn all i gs → GoodPart (lines_of (groups_from run p i s gs).all)
      groups_good i s [] k f = T.none
      groups_good i s (cs ∷ gs) k f = groups_by_good i s _ cs (λ inner. groups_from run p (suc i) inner gs) k.0 (λ inner. groups_good (suc i) inner gs k.1) _ f

      pub steps_good : (s : Scope) (ds : List OutputDecl) → PartOf (lines_in (steps_made run p s ds all)) → BodyGood p (steps_made run p s ds all)
      steps_good s ds f =
          let x = groups_from run p 0 s all in
          let n : Node = ended_node p kind.Steps (steps_phase x.all) note.None no_outputs (computed x.scope ds) in
          over_good p n (row_of x.all) (ending_ends p kind.Steps (steps_phase x.all) note.None no_outputs (computed x.scope ds)).at (other_idle p kind.Steps (steps_phase x.all) no_outputs (computed x.scope ds) (λ e. absurd (cc e)) (λ e. absurd (cc e)) (λ e. absurd (cc e))) (groups_good 0 s all (positions all) (part_right whole (Stands n ∷ []) (lines_of x.all) f))

    -- ---- DAGs

    module _ (p : Place) (s : Scope) (d : Dag) (t : Template) (hook : Option Hook) (is : t.body ≡ body.Dag d) (a : Placed p hook t) where
      abbrev StandGood : Standing → Type 0
      StandGood (exists b branch seen) = GoodPart (lines_in b)
      StandGood _ = Unit {0}

      task_stood : (i : ℕ) (x : Task) → slice_get d.tasks i ≡ Some x → Stood m (task_place p i x).sels (call_spot m (Some x.call))
      task_stood i x e = stood_as m (task_place p i x).sels (inside m (of_template t hook) (task_sel i)) (call_spot m (Some x.call)) (stood_in m p.sels (task_sel i) (of_template t hook) a.stood) (inside_not_exit m t hook (task_sel i) refl ∙ ap (λ (b : Body). inside_body m b (task_sel i)) is ∙ ap (λ (o : Option Task). call_spot m (call_of_task o)) e)

      module _ (i : ℕ) (x : Task) (e : slice_get d.tasks i ≡ Some x) where
        free_by_good : (seen : Scope) (b : Bool) → StandGood (free_by A run p s d seen i x b)
        free_by_good seen false = tt
        free_by_good seen true = good (codes "tasks.") (task_place p i x) (seen ++ s) x.call (task_stood i x e) (within_child T.Known p.sels (task_sel i) a.within a.here)

        free_good : (seen : Scope) → StandGood (free A run p s d seen i x)
        free_good seen = free_by_good seen (not d.fail_fast || A.begun (task_place p i x).sels)

        decided_good : (at : Look) (w : Expression) (b : Bool) → StandGood (decided_by A run p s d at i x w b)
        decided_good at w false = λ f. alone_good (task_place p i x) kind.Skipped Omitted note.DependsFalse refl refl
        decided_good at w true = free_good (tags_before at (named w))

        waits_good : (at : Look) (w : Expression) (b : Bool) → StandGood (waits_by A run p s d at i x w b)
        waits_good at w false = tt
        waits_good at w true = decided_good at w _

        meant_good : (at : Look) (o : Option Expression) → StandGood (meant A run p s d at i x o)
        meant_good at None = free_good []
        meant_good at (Some w) = waits_good at w (list_all (λ n. is_over (at n)) (named w))

        meant_by_good : (at : Look) (b : Bool) → StandGood (meant_by A run p s d at i x b)
        meant_by_good at false = tt
        meant_by_good at true = meant_good at (awaited d.tasks x)

      rounds_good : (n : ℕ) → All (λ k y. StandGood y.1) 0 (rounds A run p s d n)
      rounds_good zero = tt
      rounds_good (suc n) = let at = look (rounds A run p s d n) in all_from (with_standing A run p s d at) (λ j x. slice_get d.tasks j ≡ Some x) (λ k y. StandGood y.1) 0 d.tasks (λ j x e. meant_by_good j x e at (is_meant d x)) (positions d.tasks)

      line_good : (doomed : Bool) (at : Place) (u : Standing) → StandGood u → GoodPart (standing_lines doomed at u)
      line_good true at waiting h f = T.none
      line_good false at waiting h f = T.none
      line_good true at ready h f = T.none
      line_good false at ready h f = T.begins (path at.sels)
      line_good true at (exists b branch seen) h f = h f
      line_good false at (exists b branch seen) h f = h f

      pub dag_good : (ds : List OutputDecl) → PartOf (lines_in (dag_made A run p s ds d)) → BodyGood p (dag_made A run p s ds d)
      dag_good ds f =
          let ss = standings A run p s d in
          let x = is_doomed d ss in
          let n : Node = ended_node p kind.DAG (dag_phase d ss) note.None no_outputs (computed (dag_tags ss ++ s) ds) in
          over_good p n (tasks_below x p 0 ss) (ending_ends p kind.DAG (dag_phase d ss) note.None no_outputs (computed (dag_tags ss ++ s) ds)).at (other_idle p kind.DAG (dag_phase d ss) no_outputs (computed (dag_tags ss ++ s) ds) (λ e. absurd (cc e)) (λ e. absurd (cc e)) (λ e. absurd (cc e))) (rows_good (tasks_laid x p) 0 ss (all_map (λ k y. StandGood y.1) (λ k y. GoodPart (task_lines x p k y)) 0 ss (λ k y h. line_good x (task_place p k y.0) y.1 h) (rounds_good (length d.tasks))) (part_right whole (Stands n ∷ []) (dag_lines x p ss) f))
