-- A workflow is over exactly where each of its nodes is fulfilled: what is finished has only fulfilled nodes.
use Rattle.std.proofs.Common.{◌≡◌, refl, sym, ◌∙◌, ap, subst}
use Rattle.std.proofs.Math.Logic.{inl, inr}
use Rattle.std.specs.Prelude.{ℕ, zero, suc, List, [], ◌∷◌, ◌++◌, Bool, true, false, cond, not, ◌&&◌, ◌||◌, Option, Some, None, Ok, Err, map, length, codes}
use Rattle.std.specs.List.{list_all}
use Rattle.tree_types.specs.declared.path.LockId.{LockId}
use Rattle.tree_types.specs.declared.phase.Phase.{Phase}
use Rattle.tree_types.specs.declared.phase.Phase.TheVariants.{Pending, Running, Succeeded, Skipped, Failed, Error, Omitted}
use Rattle.tree_types.specs.declared.node.Kind.{Kind}
use Rattle.tree_types.specs.declared.node.Note.{Note}
use Rattle.tree_types.specs.declared.node.Note.TheVariants as note
use Rattle.tree_types.specs.declared.node.Kind.TheVariants as kind
use Rattle.tree_types.specs.declared.node.Node.{Node}
use Rattle.tree_types.specs.declared.outcome.Outcome.{Outcome}
use Rattle.tree_types.specs.declared.outcome.Outputs.{Outputs}
use Rattle.tree_types.specs.declared.want.Want.{Want}
use Rattle.tree_types.specs.declared.want.Want.TheVariants as want
use Rattle.tree_types.specs.Phases.{fulfilled, is_end, is_succeeded, is_skipped, is_omitted}
use Rattle.depends_expr.specs.Expression.{Expression}
use Rattle.depends_expr.specs.Truth.{truth, named}
use Rattle.tag_text.specs.declared.part.Part.{Part}
use Rattle.wf_manifest.specs.declared.calls.Argument.{Argument}
use Rattle.wf_manifest.specs.declared.calls.Call.{Call}
use Rattle.wf_manifest.specs.declared.calls.Hook.{Hook}
use Rattle.wf_manifest.specs.declared.calls.Loop.{Loop}
use Rattle.wf_manifest.specs.declared.calls.Task.{Task}
use Rattle.wf_manifest.specs.declared.calls.Dag.{Dag}
use Rattle.wf_manifest.specs.declared.templates.Body.{Body}
use Rattle.wf_manifest.specs.declared.templates.Body.TheVariants as body
use Rattle.wf_manifest.specs.declared.templates.Memoize.{Memoize}
use Rattle.wf_manifest.specs.declared.templates.OutputDecl.{OutputDecl}
use Rattle.wf_manifest.specs.declared.templates.Retry.{Retry}
use Rattle.wf_manifest.specs.declared.templates.Template.{Template}
use Rattle.wf_manifest.specs.declared.manifest.Manifest.{Manifest}
use Rattle.scopes.specs.Substitution.{Found, Scope, said}
use Rattle.fanout.specs.Items.{items}
use Rattle.fanout.specs.ItemTexts.{item_tags}
use Rattle.serde_json.specs.Data.{Data}
use Rattle.meaning.specs.declared.lines.Place.{Place}
use Rattle.meaning.specs.declared.lines.Line.{Line}
use Rattle.meaning.specs.declared.lines.Line.TheVariants.{Stands, Asks, MayBegin}
use Rattle.meaning.specs.Answers.{path, Answers, MemoAnswer}
use Rattle.meaning.specs.Lines.{Made, lines_in, Parts, nothing, row_of, lines_below, numbered, no_outputs, node, made, alone, lines_of, all_finished}
use Rattle.meaning.specs.Outputs.{Ending, completed, computed, succeeded_node, ended_node}
use Rattle.meaning.specs.Pods.{outputs_of, pod_by, ended_pod, pod_made, Attempts, ends_with, first_begin, further, attempt, may_start, ended_attempt, started_by, retried_by, follows, attempt_by, attempts_from, attempts, next_timer, retry_node, retry_made}
use Rattle.meaning.specs.Suspends.{seconds_of, suspend_wants, suspend_by, suspended, suspend_made}
use Rattle.meaning.specs.Steps.{Caller, Member, member, makings, group_phase, group_made, group_tags, Groups, group_place, groups_by, members_at, groups_from, steps_phase, steps_made}
use Rattle.meaning.specs.Dags.{Standing, waiting, ready, exists, Look, look, Standings, task_place, is_over, awaited, is_meant, free_by, omitted, decided_by, waits_by, meant, meant_by, with_standing, rounds, standings, is_at_rest, may_go_on, dag_over, dag_phase, is_doomed, tasks_below, dag_made, tags_before, worst_branch, result_of}
use Rattle.meaning.specs.Calls.{template_named, kind_named, kind_of, template_scope, stopped_by, stopped_if, stopped_before_loop, stopped_at_item, unless_stopped, hook_runs, hook_place, loop_node, loop_made, item_place, body_by, body_made, saving_if, remembered, keyed, memo_made, locked, template_by, template_made, entry, call_by, call_of_template, hook_made, hooked_if, hooked, one_made, item_made, items_made, declared_by, looped, each_made, call_made, calls, truth_said}
use Rattle.meaning.specs.Trees.{root, exit_root, globals_of, status_tags, top_call, main_made, exit_made, exit_if, exit_of, exit_lines, running_lines, lines_locked, lines_started, lines_by, lines, nodes_in, ended_phase, running_phase, granted_phase, lock_granted, started_phase, workflow_phase}
use Rattle.growth.specs.Growth.{Among, IsOver}
use Rattle.growth.proofs.Numbered.{both_true}
use Rattle.growth.proofs.Lines.{Every, every_append}
use Rattle.growth.proofs.Keeping.{not_both}
use Rattle.growth.proofs.SoundBodies.{standing_lines, task_laid}
use Rattle.meaning.proofs.Flattening.{lines_tried, lines_hooked}

-- a node that stands here is fulfilled
abbrev pub OverLine : Line → Type 0
OverLine (Stands n) = fulfilled n.phase ≡ true
OverLine _ = Unit {0}

abbrev pub AllOver : List Line → Type 0
AllOver ls = Every OverLine ls

-- what is finished has only fulfilled nodes
abbrev Done : Made → Type 0
Done b = b.own.finished ≡ true → AllOver (lines_in b)

-- and is finished exactly when its own node is fulfilled
record Own (b : Made) : Type 0 where
  tied : b.own.finished ≡ fulfilled b.own.node.phase
  done : Done b

asks_over : (ws : List Want) (ls : List Line) → AllOver ls → AllOver (map Asks ws ++ ls)
asks_over [] ls h = h
asks_over (w ∷ ws) ls h = (tt, asks_over ws ls h)

made_own : (n : Node) (ws : List Want) (ps : Parts) → (fulfilled n.phase ≡ true → AllOver (lines_below ps)) → Own (made n ws ps)
made_own n ws ps h = record { tied = refl; done = λ e. (e, asks_over ws (lines_below ps) (h e)) }

alone_own : (p : Place) (k : Kind) (ph : Phase) (n : Note) → Own (alone p k ph n)
alone_own p k ph n = made_own (node p k ph n no_outputs) [] nothing (λ e. tt)

-- ---- phases

if_running : (b : Bool) (x : Phase) → fulfilled (cond b x Running) ≡ true → (b ≡ true) × (fulfilled x ≡ true)
if_running true x e = (refl, e)
if_running false x e = not_both false e refl

ended_full : (p : Place) (k : Kind) (n : Note) (o : Outputs) (lack : Option (List ℕ)) → fulfilled (succeeded_node p k n o lack).phase ≡ true
ended_full p k n o None = refl
ended_full p k n o (Some name) = refl

ending_over : (p : Place) (k : Kind) (ph : Phase) (n : Note) (o : Outputs) (d : Ending) → fulfilled ph ≡ true → fulfilled (ended_node p k ph n o d).phase ≡ true
ending_over p k Succeeded n o d e = ended_full p k n d.outputs d.lack
ending_over p k Pending n o d e = e
ending_over p k Running n o d e = e
ending_over p k Skipped n o d e = e
ending_over p k Failed n o d e = e
ending_over p k Error n o d e = e
ending_over p k Omitted n o d e = e

over_ending : (p : Place) (k : Kind) (ph : Phase) (n : Note) (o : Outputs) (d : Ending) → fulfilled (ended_node p k ph n o d).phase ≡ true → fulfilled ph ≡ true
over_ending p k Succeeded n o d e = refl
over_ending p k Pending n o d e = e
over_ending p k Running n o d e = e
over_ending p k Skipped n o d e = e
over_ending p k Failed n o d e = e
over_ending p k Error n o d e = e
over_ending p k Omitted n o d e = e

end_over : (ph : Phase) → is_end ph ≡ true → fulfilled ph ≡ true
end_over Succeeded e = refl
end_over Failed e = refl
end_over Error e = refl
end_over Skipped e = refl
end_over Omitted e = refl
end_over Pending e = not_both false e refl
end_over Running e = not_both false e refl

succeeded_over : (ph : Phase) → is_succeeded ph ≡ true → fulfilled ph ≡ true
succeeded_over Succeeded e = refl
succeeded_over Skipped e = refl
succeeded_over Failed e = refl
succeeded_over Error e = refl
succeeded_over Omitted e = refl
succeeded_over Pending e = not_both false e refl
succeeded_over Running e = not_both false e refl

-- ---- several

abbrev Dones : List Made → Type 0
Dones [] = Unit {0}
Dones (b ∷ bs) = Done b × Dones bs

all_over : (bs : List Made) → Dones bs → all_finished bs ≡ true → AllOver (lines_of bs)
all_over [] d e = tt
all_over (b ∷ bs) d e = let two = both_true b.own.finished (all_finished bs) e in every_append OverLine (lines_in b) (lines_of bs) (d.0 two.0) (all_over bs d.1 two.1)

dones_numbered : {X : Type 0} (f : ℕ → X → Made) (i : ℕ) (xs : List X) → ((j : ℕ) (x : X) → Done (f j x)) → Dones (numbered f i xs)
dones_numbered f i [] h = tt
dones_numbered f i (x ∷ xs) h = (h i x, dones_numbered f (suc i) xs h)

-- ---- pods

pod_own : (p : Place) (ds : List OutputDecl) (o : Option (Note × Outcome)) → Own (pod_by p ds o)
pod_own p ds None = made_own (node p kind.Pod Running note.None no_outputs) (want.Pod (path p.sels) ∷ []) nothing (λ e. tt)
pod_own p ds (Some o) = made_own _ [] nothing (λ e. tt)

-- a pod that ended is over
ended_over : (p : Place) (ds : List OutputDecl) (o : Note × Outcome) → AllOver (lines_in (ended_pod p ds o))
ended_over p ds o = (ending_over p kind.Pod o.1.phase o.0 (outputs_of o.1) (completed ds (outputs_of o.1)) (end_over o.1.phase o.1.ended), tt)

module _ (A : Answers) (place : Place) (ds : List OutputDecl) (r : Retry) where
  abbrev AttemptsDone : Attempts → Type 0
  AttemptsDone a = a.over ≡ true → AllOver (lines_of a.all)

  one_done : (b : Made) (over : Bool) → (over ≡ true → AllOver (lines_in b)) → AttemptsDone (ends_with b over)
  one_done b over h e = every_append OverLine (lines_in b) [] (h e) tt

  attempts_done : (n k : ℕ) (first : Option ℕ) → AttemptsDone (attempts_from A place ds r n k first)
  attempts_done zero k first = let b : Made = pod_made A (attempt place k) ds in one_done b b.own.finished (pod_own (attempt place k) ds (A.outcome (attempt place k))).done
  attempts_done (suc n) k first = by (A.outcome (attempt place k)) (λ begin. attempts_done n (suc k) (Some begin))
    where
      rest : ℕ → Attempts
      rest begin = attempts_from A place ds r n (suc k) (Some begin)

      started : (o : Note × Outcome) (begin : ℕ) (b : Bool) → ((t : ℕ) → AttemptsDone (rest t)) → AttemptsDone (started_by A place ds r k o begin rest b)
      started o begin false ih e = not_both false e refl
      started o begin true ih e = every_append OverLine (lines_in (ended_attempt place ds k o)) (lines_of (rest begin).all) (ended_over (attempt place k) ds o) (ih begin e)

      retried : (o : Note × Outcome) (begin : ℕ) (b : Bool) → ((t : ℕ) → AttemptsDone (rest t)) → AttemptsDone (retried_by A place ds r k o begin rest b)
      retried o begin false ih = one_done (ended_attempt place ds k o) true (λ e. ended_over (attempt place k) ds o)
      retried o begin true ih = started o begin (may_start A place r.backoff (suc k)) ih

      by : (x : Option (Note × Outcome)) → ((t : ℕ) → AttemptsDone (rest t)) → AttemptsDone (attempt_by A place ds r k first rest x)
      by None ih = λ e. not_both false e refl
      by (Some o) ih = retried o (first_begin first o.1) (follows place ds r o k (first_begin first o.1)) ih

  timers_over : (ws : List Want) → AllOver (map Asks ws)
  timers_over [] = tt
  timers_over (w ∷ ws) = (tt, timers_over ws)

  retry_own : Own (retry_made A place ds r)
  retry_own =
      let a : Attempts = attempts A place ds r in
      made_own (retry_node place a a.over) [] _ (λ e. subst AllOver (sym (lines_tried (row_of a.all) (next_timer place a.all a.next))) (every_append OverLine (lines_of a.all) (map Asks (next_timer place a.all a.next)) (attempts_done (further r) 0 None (over_of a a.over e)) (timers_over (next_timer place a.all a.next))))
    where
      over_of : (a : Attempts) (b : Bool) → fulfilled (retry_node place a b).phase ≡ true → b ≡ true
      over_of a true e = refl
      over_of a false e = not_both false e refl

-- ---- steps

RunDone : Caller → Type 0
RunDone run = (prefix : List ℕ) (p : Place) (scope : Scope) (c : Call) → Done (run prefix p scope c)

module _ (run : Caller) (ran : RunDone run) where
  members_done : (p : Place) (scope : Scope) (i : ℕ) (cs : List Call) → Dones (makings (numbered (member run p scope) i cs))
  unfolding RunDone
  members_done p scope i [] = tt
  members_done p scope i (c ∷ cs) = (ran (codes "steps.") _ scope c, members_done p scope (suc i) cs)

  group_own : (p : Place) (ms : List Member) → Dones (makings ms) → Own (group_made p ms)
  group_own p ms d = made_own (node p kind.StepGroup (group_phase ms) note.None no_outputs) [] (row_of (makings ms)) (λ e. all_over (makings ms) d (if_running (all_finished (makings ms)) _ e).0)

  module _ (place : Place) where
    abbrev GroupsDone : List Made → Type 0
    GroupsDone gs = fulfilled (steps_phase gs) ≡ true → AllOver (lines_of gs)

    groups_done : (i : ℕ) (scope : Scope) (gs : List (List Call)) → GroupsDone (groups_from run place i scope gs).all
    groups_done i scope [] = λ e. tt
    groups_done i scope (cs ∷ gs) = by (is_succeeded (group_phase ms)) refl (λ inner. groups_done (suc i) inner gs)
      where
        ms : List Member
        ms = members_at run place i scope cs

        g : Made
        g = group_made (group_place place i) ms

        own : Own g
        own = group_own (group_place place i) ms (members_done (group_place place i) scope 0 cs)

        rest : Scope → Groups
        rest inner = groups_from run place (suc i) inner gs

        first : (t : Bool) (hs : List Made) → is_succeeded g.own.node.phase ≡ t → fulfilled (cond t (steps_phase hs) g.own.node.phase) ≡ true → (GroupsDone hs) → (t ≡ false → AllOver (lines_of hs)) → AllOver ((lines_in g) ++ lines_of hs)
        first true hs s e h n = every_append OverLine (lines_in g) (lines_of hs) (own.done (own.tied ∙ succeeded_over g.own.node.phase s)) (h e)
        first false hs s e h n = every_append OverLine (lines_in g) (lines_of hs) (own.done (own.tied ∙ e)) (n refl)

        by : (b : Bool) → is_succeeded (group_phase ms) ≡ b → ((inner : Scope) → GroupsDone (rest inner).all) → GroupsDone (groups_by g (group_tags ms) scope rest b).all
        by false s ih e = first (is_succeeded g.own.node.phase) [] refl e (λ x. tt) (λ x. tt)
        by true s ih e = first (is_succeeded g.own.node.phase) (rest (group_tags ms ++ scope)).all refl e (ih (group_tags ms ++ scope)) (λ x. not_both (is_succeeded g.own.node.phase) s x)

  steps_own : (p : Place) (scope : Scope) (ds : List OutputDecl) (gs : List (List Call)) → Own (steps_made run p scope ds gs)
  steps_own p scope ds gs =
      let all : Groups = groups_from run p 0 scope gs in
      made_own (ended_node p kind.Steps (steps_phase all.all) note.None no_outputs (computed all.scope ds)) [] (row_of all.all)
      (λ e. groups_done p 0 scope gs (over_ending p kind.Steps (steps_phase all.all) note.None no_outputs (computed all.scope ds) e))

-- ---- DAGs

abbrev StandDone : Standing → Type 0
StandDone (exists b branch seen) = Done b
StandDone _ = Unit {0}

abbrev StandsDone : Standings → Type 0
StandsDone [] = Unit {0}
StandsDone (s ∷ ss) = StandDone s.1 × StandsDone ss

standing_over : (doomed : Bool) (at : Place) (s : Standing) → StandDone s → is_at_rest s ≡ true → AllOver (standing_lines doomed at s)
standing_over doomed at (exists b branch seen) d e = d e
standing_over false at ready d e = (tt, tt)
standing_over true at ready d e = tt
standing_over true at waiting d e = tt
standing_over false at waiting d e = tt

tasks_over : (doomed : Bool) (p : Place) (i : ℕ) (ss : Standings) → StandsDone ss → list_all (λ (s : Task × Standing). is_at_rest s.1) ss ≡ true → AllOver (lines_below (tasks_below doomed p i ss))
tasks_over doomed p i [] d e = tt
tasks_over doomed p i (s ∷ ss) d e =
    let two = both_true (is_at_rest s.1) (list_all (λ (s : Task × Standing). is_at_rest s.1) ss) e in
    subst AllOver (sym (task_laid doomed (task_place p i s.0) s.1 (tasks_below doomed p (suc i) ss))) (every_append OverLine (standing_lines doomed (task_place p i s.0) s.1) (lines_below (tasks_below doomed p (suc i) ss)) (standing_over doomed (task_place p i s.0) s.1 d.0 two.0) (tasks_over doomed p (suc i) ss d.1 two.1))

module _ (A : Answers) (run : Caller) (ran : RunDone run) (p : Place) (scope : Scope) (d : Dag) where
  free_done : (seen : Scope) (i : ℕ) (t : Task) (b : Bool) → StandDone (free_by A run p scope d seen i t b)
  unfolding RunDone
  free_done seen i t false = tt
  free_done seen i t true = ran (codes "tasks.") (task_place p i t) (seen ++ scope) t.call

  omitted_done : (branch : Phase) (seen : Scope) (i : ℕ) (t : Task) → StandDone (omitted A run p scope d branch seen i t)
  omitted_done branch seen i t = (alone_own (task_place p i t) kind.Skipped Omitted note.DependsFalse).done

  decided_done : (at : Look) (i : ℕ) (t : Task) (e : Expression) (b : Bool) → StandDone (decided_by A run p scope d at i t e b)
  decided_done at i t e false = omitted_done (worst_branch at (named e)) (tags_before at (named e)) i t
  decided_done at i t e true = free_done (tags_before at (named e)) i t (not d.fail_fast || A.begun (task_place p i t).sels)

  waits_done : (at : Look) (i : ℕ) (t : Task) (e : Expression) (b : Bool) → StandDone (waits_by A run p scope d at i t e b)
  waits_done at i t e false = tt
  waits_done at i t e true = decided_done at i t e (truth (λ n. result_of (at n)) e)

  meant_done : (at : Look) (i : ℕ) (t : Task) (e : Option Expression) → StandDone (meant A run p scope d at i t e)
  meant_done at i t None = free_done [] i t (not d.fail_fast || A.begun (task_place p i t).sels)
  meant_done at i t (Some e) = waits_done at i t e (list_all (λ n. is_over (at n)) (named e))

  standing_done : (at : Look) (i : ℕ) (t : Task) (b : Bool) → StandDone (meant_by A run p scope d at i t b)
  standing_done at i t false = tt
  standing_done at i t true = meant_done at i t (awaited d.tasks t)

  stands_done : (at : Look) (i : ℕ) (ts : List Task) → StandsDone (numbered (with_standing A run p scope d at) i ts)
  stands_done at i [] = tt
  stands_done at i (t ∷ ts) = (standing_done at i t (is_meant d t), stands_done at (suc i) ts)

  rounds_done : (n : ℕ) → StandsDone (rounds A run p scope d n)
  rounds_done zero = tt
  rounds_done (suc n) = stands_done (look (rounds A run p scope d n)) 0 d.tasks

  dag_own : (ds : List OutputDecl) → Own (dag_made A run p scope ds d)
  dag_own ds =
      let ss : Standings = standings A run p scope d in
      made_own _ [] (tasks_below (is_doomed d ss) p 0 ss) (λ e.
      let over = (if_running (dag_over d ss) _ (over_ending p kind.DAG (dag_phase d ss) note.None no_outputs _ e)).0 in
      tasks_over (is_doomed d ss) p 0 ss (rounds_done (length d.tasks)) (both_true (list_all (λ (s : Task × Standing). is_at_rest s.1) ss) (not (may_go_on d ss)) over).0)

-- ---- suspended nodes

suspend_own : (A : Answers) (p : Place) (scope : Scope) (ds : List OutputDecl) (duration : Option (List Part)) → Own (suspend_made A p scope ds duration)
suspend_own A p scope ds duration = by (seconds_of scope duration)
  where
    waits : (seconds : Option ℕ) (b : Bool) → Own (suspend_by p ds seconds (A.armed p.sels) b)
    waits seconds true = made_own _ [] nothing (λ e. tt)
    waits seconds false = made_own (node p kind.Suspend Running note.None no_outputs) (suspend_wants p seconds (A.armed p.sels)) nothing (λ e. tt)

    by : (s : Found (Option ℕ)) → Own (suspended A p ds s)
    by (Err fault) = alone_own p kind.Suspend Error fault
    by (Ok seconds) = waits seconds (A.due p.sels || A.resumed p.sels)

-- ---- calls

stop_done : (o : Option Made) (b : Made) → ((x : Made) → o ≡ Some x → Done x) → Done b → Done (unless_stopped o b)
stop_done None b h d = d
stop_done (Some x) b h d = h x refl

stopped_done : (p : Place) (k : Kind) (f : Found Bool) (x : Made) → stopped_by p k f ≡ Some x → Done x
stopped_done p k (Err fault) x e = subst Done (let s : alone p k Error fault ≡ x = cc e in s) (alone_own p k Error fault).done
stopped_done p k (Ok false) x e = subst Done (let s : alone p kind.Skipped Skipped note.WhenFalse ≡ x = cc e in s) (alone_own p kind.Skipped Skipped note.WhenFalse).done
stopped_done p k (Ok true) x e = absurd (cc e)

stopped_if_done : (b : Bool) (p : Place) (k : Kind) (scope : Scope) (t : List Part) (x : Made) → stopped_if b p k scope t ≡ Some x → Done x
stopped_if_done true p k scope t x e = stopped_done p k (truth_said scope t) x e
stopped_if_done false p k scope t x e = absurd (cc e)

before_done : (p : Place) (k : Kind) (scope : Scope) (o : Option (List Part)) (x : Made) → stopped_before_loop p k scope o ≡ Some x → Done x
before_done p k scope None x e = absurd (cc e)
before_done p k scope (Some t) x e = stopped_if_done _ p k scope t x e

item_stop_done : (p : Place) (k : Kind) (scope : Scope) (o : Option (List Part)) (x : Made) → stopped_at_item p k scope o ≡ Some x → Done x
item_stop_done p k scope None x e = absurd (cc e)
item_stop_done p k scope (Some t) x e = stopped_if_done _ p k scope t x e

loop_done : (p : Place) (ds : List OutputDecl) (bs : List Made) → Dones bs → Done (loop_made p ds bs)
loop_done p ds bs d e = (e, all_over bs d (by (all_finished bs) e))
  where
    by : (b : Bool) → fulfilled (loop_node p ds bs b).phase ≡ true → b ≡ true
    by true h = refl
    by false h = not_both false h refl

module _ (m : Manifest) (A : Answers) (flow : Scope) (run : Caller) (ran : RunDone run) where
  body_own : (p : Place) (scope : Scope) (ds : List OutputDecl) (r : Option Retry) (b : Body) → Own (body_by A run p scope ds r b)
  body_own p scope ds None body.Pod = pod_own p ds (A.outcome p)
  body_own p scope ds (Some r) body.Pod = retry_own A p ds r
  body_own p scope ds r (body.Steps gs) = steps_own run ran p scope ds gs
  body_own p scope ds r (body.Dag d) = dag_own A run ran p scope d ds
  body_own p scope ds r (body.Suspend duration) = suspend_own A p scope ds duration

  saving_own : (p : Place) (c : Memoize) (key : List ℕ) (b : Made) (s : Bool) → Own b → Own (saving_if s p c key b)
  saving_own p c key b false o = o
  saving_own p c key b true o = record { tied = o.tied; done = λ e. let h = o.done e in (h.0, (tt, h.1)) }

  memo_own : (p : Place) (scope : Scope) (t : Template) (o : Option Memoize) → Own (memo_made A run p scope t o)
  memo_own p scope t None = body_own p scope t.outputs t.retry t.body
  memo_own p scope t (Some c) = by (said scope c.key)
    where
      known : (key : List ℕ) (x : Option MemoAnswer) → Own (remembered A run p scope t c key x)
      known key None = made_own (node p (kind_of t) Pending (note.Looking c.cache) no_outputs) (want.LookUp (path p.sels) c.cache key c.max_age ∷ []) nothing (λ e. tt)
      known key (Some None) = let b : Made = body_made A run p scope t in saving_own p c key b (is_succeeded b.own.node.phase) (body_own p scope t.outputs t.retry t.body)
      known key (Some (Some kept)) = made_own _ [] nothing (λ e. tt)

      by : (k : Found (List ℕ)) → Own (keyed A run p scope t c k)
      by (Err fault) = alone_own p (kind_of t) Error fault
      by (Ok key) = known key (A.memo p.sels)

  template_own : (p : Place) (scope : Scope) (t : Template) → Own (template_made A run p scope t)
  template_own p scope t = by t.lock
    where
      held : (l : LockId) (b : Bool) → Own (locked A run p scope t l b)
      held l false = made_own (node p (kind_of t) Pending (note.Waiting l) no_outputs) (want.Lock (path p.sels) l ∷ []) nothing (λ e. tt)
      held l true = memo_own p scope t t.memoize

      by : (o : Option LockId) → Own (template_by A run p scope t o)
      by None = memo_own p scope t t.memoize
      by (Some l) = held l (A.granted p.sels)

  plain_done : (p : Place) (scope : Scope) (name : List ℕ) (given : List Argument) (follow : Made → Made) → ((b : Made) → Own b → Done (follow b)) → Done (call_of_template m A flow run p scope name given follow)
  plain_done p scope name given follow f = by (template_named m name)
    where
      enters : (t : Template) (s : Found Scope) → Done (entry A run p t follow s)
      enters t (Err fault) = (alone_own p (kind_of t) Error fault).done
      enters t (Ok inner) = f (template_made A run p inner t) (template_own p inner t)

      by : (o : Option Template) → Done (call_by A flow run p scope given follow o)
      by None = (alone_own p kind.Pod Error note.None).done
      by (Some t) = enters t (template_scope flow scope given t.inputs)

  hooked_done : (label : List ℕ) (p : Place) (scope : Scope) (o : Option Hook) (b : Made) → Own b → Done (hooked m A flow run label p scope o b)
  hooked_done label p scope None b own = own.done
  hooked_done label p scope (Some h) b own = by (hook_runs b.own.node.phase) refl
    where
      by : (r : Bool) → hook_runs b.own.node.phase ≡ r → Done (hooked_if m A flow run r label p scope h b)
      by false e = own.done
      by true e = λ x.
          let k : Made = hook_made m A flow run label p scope h b in
          let over = (both_true (fulfilled b.own.node.phase) (not (is_skipped b.own.node.phase)) (both_true (fulfilled b.own.node.phase && not (is_skipped b.own.node.phase)) (not (is_omitted b.own.node.phase)) e).0).0 in
          subst AllOver (sym (lines_hooked b k)) (every_append OverLine (lines_in b) (lines_in k) (own.done (own.tied ∙ over)) (plain_done (hook_place p) _ h.template h.arguments (λ y. y) (λ y o. o.done) x))

  one_is_done : (prefix : List ℕ) (p : Place) (scope : Scope) (c : Call) → Done (one_made m A flow run prefix p scope c)
  one_is_done prefix p scope c =
      let follow : Made → Made = hooked m A flow run (prefix ++ c.name) p scope c.exit in
      stop_done (stopped_at_item p (kind_named m c.template) scope c.when) (call_of_template m A flow run p scope c.template c.arguments follow) (item_stop_done p (kind_named m c.template) scope c.when) (plain_done p scope c.template c.arguments follow (λ b own. hooked_done (prefix ++ c.name) p scope c.exit b own))

  call_done : (prefix : List ℕ) (p : Place) (scope : Scope) (c : Call) → Done (call_made m A flow run prefix p scope c)
  call_done prefix p scope c = stop_done (stopped_before_loop p (kind_named m c.template) scope c.when) (each_made m A flow run prefix p scope c c.each) (before_done p (kind_named m c.template) scope c.when) (by c.each)
    where
      fans : (r : Found (List Data)) → Done (looped m A flow run prefix p scope c r)
      fans (Err fault) = (alone_own p kind.TaskGroup Error fault).done
      fans (Ok []) = (alone_own p kind.Skipped Skipped note.NoItems).done
      fans (Ok (x ∷ xs)) = loop_done p (declared_by (template_named m c.template)) (items_made m A flow run prefix p scope c (x ∷ xs)) (dones_numbered (item_made m A flow run prefix p scope c) 0 (x ∷ xs) (λ i y. one_is_done prefix (item_place p i y) (item_tags y ++ scope) c))

      by : (o : Option Loop) → Done (each_made m A flow run prefix p scope c o)
      by None = one_is_done prefix p scope c
      by (Some l) = fans (items scope l)

calls_done : (m : Manifest) (A : Answers) (flow : Scope) (n : ℕ) → RunDone (calls m A flow n)
unfolding RunDone
calls_done m A flow zero = λ prefix p scope c. (alone_own p (kind_named m c.template) Error note.TooDeep).done
calls_done m A flow (suc n) = call_done m A flow (calls m A flow n) (calls_done m A flow n)

-- ---- the tree

module _ (m : Manifest) (A : Answers) where
  top_done : (scope : Scope) (p : Place) (name : List ℕ) → Done (top_call m A scope p name)
  top_done scope p name = plain_done m A scope (calls m A scope 31) (calls_done m A scope 31) p scope name m.arguments (λ b. b) (λ b o. o.done)

  abbrev b : Made
  b = main_made m A

  exit_over : (o : Option (List ℕ)) (t : Bool) → fulfilled (ended_phase b (exit_if t m A b o)) ≡ true → AllOver (exit_lines (exit_if t m A b o))
  exit_over None true e = tt
  exit_over None false e = tt
  exit_over (Some n) false e = tt
  exit_over (Some n) true e = let h : Made = exit_made m A b n in top_done (status_tags m b) (exit_root m) n (if_running h.own.finished (workflow_phase b.own.node.phase (Some h.own.node.phase)) e).0

  running_over : fulfilled (running_phase m A b) ≡ true → AllOver (running_lines m A b)
  running_over e =
      let two = if_running b.own.finished (ended_phase b (exit_of m A b)) e in
      every_append OverLine (lines_in b) (exit_lines (exit_of m A b)) (top_done (globals_of m) (root m) m.entrypoint two.0) (exit_over m.on_exit b.own.finished two.1)

  locked_over : (l : LockId) (t : Bool) → fulfilled (granted_phase m A t) ≡ true → AllOver (lines_locked m A l t)
  locked_over l true e = running_over e
  locked_over l false e = not_both false e refl

  started_over : (o : Option LockId) → fulfilled (granted_phase m A (lock_granted A o)) ≡ true → AllOver (lines_started m A o)
  started_over None e = running_over e
  started_over (Some l) e = locked_over l (A.granted []) e

  by_over : (t : Bool) → fulfilled (started_phase m A t) ≡ true → AllOver (lines_by m A t)
  by_over true e = started_over m.lock e
  by_over false e = not_both false e refl

  lines_over : IsOver m A → AllOver (lines m A)
  lines_over e = by_over A.started e

node_over : (ls : List Line) (n : Node) → AllOver ls → Among n (nodes_in ls) → fulfilled n.phase ≡ true
node_over [] n h i = absurd i
node_over (Stands k ∷ ls) n h (inl e) = ap (λ (x : Node). fulfilled x.phase) (sym e) ∙ h.0
node_over (Stands k ∷ ls) n h (inr i) = node_over ls n h.1 i
node_over (Asks w ∷ ls) n h i = node_over ls n h.1 i
node_over (MayBegin p ∷ ls) n h i = node_over ls n h.1 i

-- each node of a workflow that is over is fulfilled
pub nodes_over : (m : Manifest) (A : Answers) → IsOver m A → (n : Node) → Among n (nodes_in (lines m A)) → fulfilled n.phase ≡ true
nodes_over m A e n i = node_over (lines m A) n (lines_over m A e) i
