-- The node of what a call makes stands at the call's place.
use Rattle.std.proofs.Common.{◌≡◌, ℕ, zero, suc, List, [], ◌∷◌, ◌++◌, Bool, true, false, Option, Some, None, Ok, Err, refl, ap}
use Rattle.std.specs.Prelude.{not, ◌||◌}
use Rattle.serde_json.specs.Data.{Data}
use Rattle.tree_types.specs.declared.path.Path.{Path}
use Rattle.tree_types.specs.declared.path.LockId.{LockId}
use Rattle.tree_types.specs.declared.phase.Phase.{Phase}
use Rattle.tree_types.specs.declared.node.Kind.{Kind}
use Rattle.tree_types.specs.declared.node.Kind.TheVariants as kind
use Rattle.tree_types.specs.declared.node.Note.{Note}
use Rattle.tree_types.specs.declared.node.Note.TheVariants as note
use Rattle.tree_types.specs.declared.phase.Phase.TheVariants.{Succeeded}
use Rattle.tree_types.specs.declared.outcome.Outcome.{Outcome}
use Rattle.tree_types.specs.declared.outcome.Outputs.{Outputs}
use Rattle.tree_types.specs.Phases.{is_succeeded}
use Rattle.tag_text.specs.declared.part.Part.{Part}
use Rattle.wf_manifest.specs.declared.calls.Argument.{Argument}
use Rattle.wf_manifest.specs.declared.calls.Hook.{Hook}
use Rattle.wf_manifest.specs.declared.calls.Loop.{Loop}
use Rattle.wf_manifest.specs.declared.calls.Call.{Call}
use Rattle.wf_manifest.specs.declared.templates.OutputDecl.{OutputDecl}
use Rattle.wf_manifest.specs.declared.templates.Memoize.{Memoize}
use Rattle.wf_manifest.specs.declared.templates.Retry.{Retry}
use Rattle.wf_manifest.specs.declared.templates.Body.{Body}
use Rattle.wf_manifest.specs.declared.templates.Body.TheVariants as body
use Rattle.wf_manifest.specs.declared.templates.Template.{Template}
use Rattle.wf_manifest.specs.declared.manifest.Manifest.{Manifest}
use Rattle.scopes.specs.Substitution.{Found, Scope, said, has_item_tag}
use Rattle.fanout.specs.Items.{items}
use Rattle.meaning.specs.declared.lines.Place.{Place}
use Rattle.meaning.specs.Answers.{MemoAnswer, Answers}
use Rattle.meaning.specs.Lines.{Made, no_outputs, all_finished}
use Rattle.meaning.specs.Outputs.{Ending, completed, defaulted, computed, ended_node}
use Rattle.meaning.specs.Pods.{Attempts, outputs_of, pod_by, retry_node, attempts}
use Rattle.meaning.specs.Suspends.{seconds_of, suspend_by, suspended}
use Rattle.meaning.specs.Steps.{Caller, steps_phase, groups_from}
use Rattle.meaning.specs.Dags.{dag_phase, dag_tags, standings}
use Rattle.meaning.specs.Calls.{template_named, kind_named, template_scope, truth_said, stopped_by, stopped_if, stopped_before_loop, stopped_at_item, unless_stopped, hook_runs, declared_by, loop_node, items_made, saving_if, body_by, body_made, remembered, keyed, memo_made, locked, template_by, template_made, entry, call_by, call_of_template, hooked_if, hooked, one_made, looped, each_made, calls}
use Rattle.growth.proofs.Keeping.{ending_ends}

abbrev pub Here : Place → Made → Type 0
Here p b = b.own.node.path.sels ≡ p.sels

pub ended : (p : Place) (k : Kind) (ph : Phase) (n : Note) (o : Outputs) (d : Ending) → (ended_node p k ph n o d).path.sels ≡ p.sels
ended p k ph n o d = ap (λ (x : Path). x.sels) (ending_ends p k ph n o d).at.path

-- ---- bodies

pod : (p : Place) (ds : List OutputDecl) (o : Option (Note × Outcome)) → Here p (pod_by p ds o)
pod p ds None = refl
pod p ds (Some o) = ended p kind.Pod o.1.phase o.0 (outputs_of o.1) (completed ds (outputs_of o.1))

retry : (p : Place) (a : Attempts) (over : Bool) → (retry_node p a over).path.sels ≡ p.sels
retry p a true = refl
retry p a false = refl

suspend : (p : Place) (ds : List OutputDecl) (seconds armed : Option ℕ) (over : Bool) → Here p (suspend_by p ds seconds armed over)
suspend p ds seconds armed true = ended p kind.Suspend Succeeded note.None no_outputs (defaulted ds)
suspend p ds seconds armed false = refl

suspend_said : (A : Answers) (p : Place) (ds : List OutputDecl) (f : Found (Option ℕ)) → Here p (suspended A p ds f)
suspend_said A p ds (Err fault) = refl
suspend_said A p ds (Ok seconds) = suspend p ds seconds (A.armed p.sels) (A.due p.sels || A.resumed p.sels)

module _ (A : Answers) (called : Caller) (p : Place) (s : Scope) where
  body_is : (ds : List OutputDecl) (r : Option Retry) (b : Body) → Here p (body_by A called p s ds r b)
  body_is ds None body.Pod = pod p ds (A.outcome p)
  body_is ds (Some r) body.Pod = let a = attempts A p ds r in retry p a a.over
  body_is ds None (body.Steps gs) =
      let groups = groups_from called p 0 s gs in ended p kind.Steps (steps_phase groups.all) note.None no_outputs (computed groups.scope ds)
  body_is ds (Some r) (body.Steps gs) =
      let groups = groups_from called p 0 s gs in ended p kind.Steps (steps_phase groups.all) note.None no_outputs (computed groups.scope ds)
  body_is ds None (body.Dag d) =
      let ss = standings A called p s d in ended p kind.DAG (dag_phase d ss) note.None no_outputs (computed (dag_tags ss ++ s) ds)
  body_is ds (Some r) (body.Dag d) =
      let ss = standings A called p s d in ended p kind.DAG (dag_phase d ss) note.None no_outputs (computed (dag_tags ss ++ s) ds)
  body_is ds None (body.Suspend duration) = suspend_said A p ds (seconds_of s duration)
  body_is ds (Some r) (body.Suspend duration) = suspend_said A p ds (seconds_of s duration)

  -- ---- templates

  saved : (c : Memoize) (key : List ℕ) (b : Made) (over : Bool) → Here p b → Here p (saving_if over p c key b)
  saved c key b true here = here
  saved c key b false here = here

  module _ (t : Template) where
    plain : Here p (body_made A called p s t)
    plain = body_is t.outputs t.retry t.body

    answered : (c : Memoize) (key : List ℕ) (o : Option MemoAnswer) → Here p (remembered A called p s t c key o)
    answered c key None = refl
    answered c key (Some None) = let b = body_made A called p s t in saved c key b (is_succeeded b.own.node.phase) plain
    answered c key (Some (Some kept)) = refl

    with_key : (c : Memoize) (f : Found (List ℕ)) → Here p (keyed A called p s t c f)
    with_key c (Err fault) = refl
    with_key c (Ok key) = answered c key (A.memo p.sels)

    memo : (o : Option Memoize) → Here p (memo_made A called p s t o)
    memo None = plain
    memo (Some c) = with_key c (said s c.key)

    behind : (l : LockId) (b : Bool) → Here p (locked A called p s t l b)
    behind l false = refl
    behind l true = memo t.memoize

    template : (o : Option LockId) → Here p (template_by A called p s t o)
    template None = memo t.memoize
    template (Some l) = behind l (A.granted p.sels)

-- ---- calls

stop_by : (p : Place) (k : Kind) (f : Found Bool) (b : Made) → Here p b → Here p (unless_stopped (stopped_by p k f) b)
stop_by p k (Err fault) b here = refl
stop_by p k (Ok false) b here = refl
stop_by p k (Ok true) b here = here

stop_if : (c : Bool) (p : Place) (k : Kind) (s : Scope) (w : List Part) (b : Made) → Here p b → Here p (unless_stopped (stopped_if c p k s w) b)
stop_if true p k s w b here = stop_by p k (truth_said s w) b here
stop_if false p k s w b here = here

stop_before : (p : Place) (k : Kind) (s : Scope) (w : Option (List Part)) (b : Made) → Here p b → Here p (unless_stopped (stopped_before_loop p k s w) b)
stop_before p k s None b here = here
stop_before p k s (Some w) b here = stop_if (not (has_item_tag w)) p k s w b here

stop_at : (p : Place) (k : Kind) (s : Scope) (w : Option (List Part)) (b : Made) → Here p b → Here p (unless_stopped (stopped_at_item p k s w) b)
stop_at p k s None b here = here
stop_at p k s (Some w) b here = stop_if (has_item_tag w) p k s w b here

looped_node : (p : Place) (ds : List OutputDecl) (ms : List Made) (over : Bool) → (loop_node p ds ms over).path.sels ≡ p.sels
looped_node p ds ms true = refl
looped_node p ds ms false = refl

module _ (m : Manifest) (A : Answers) (g : Scope) (called : Caller) (p : Place) (s : Scope) where
  follows : (label : List ℕ) (h : Hook) (b : Made) (runs : Bool) → Here p b → Here p (hooked_if m A g called runs label p s h b)
  follows label h b true here = here
  follows label h b false here = here

  with_hook : (label : List ℕ) (h : Option Hook) (b : Made) → Here p b → Here p (hooked m A g called label p s h b)
  with_hook label None b here = here
  with_hook label (Some h) b here = follows label h b (hook_runs b.own.node.phase) here

  module _ (label : List ℕ) (h : Option Hook) where
    enters : (t : Template) (f : Found Scope) → Here p (entry A called p t (hooked m A g called label p s h) f)
    enters t (Err fault) = refl
    enters t (Ok inner) = with_hook label h (template_made A called p inner t) (template A called p inner t t.lock)

    finds : (given : List Argument) (o : Option Template) → Here p (call_by A g called p s given (hooked m A g called label p s h) o)
    finds given None = refl
    finds given (Some t) = enters t (template_scope g s given t.inputs)

  one : (prefix : List ℕ) (c : Call) → Here p (one_made m A g called prefix p s c)
  one prefix c =
      stop_at p (kind_named m c.template) s c.when (call_of_template m A g called p s c.template c.arguments (hooked m A g called (prefix ++ c.name) p s c.exit))
      (finds (prefix ++ c.name) c.exit c.arguments (template_named m c.template))

  loops : (prefix : List ℕ) (c : Call) (f : Found (List Data)) → Here p (looped m A g called prefix p s c f)
  loops prefix c (Err fault) = refl
  loops prefix c (Ok []) = refl
  loops prefix c (Ok (d ∷ ds)) =
      let ms = items_made m A g called prefix p s c (d ∷ ds) in
      looped_node p (declared_by (template_named m c.template)) ms (all_finished ms)

  each : (prefix : List ℕ) (c : Call) (l : Option Loop) → Here p (each_made m A g called prefix p s c l)
  each prefix c None = one prefix c
  each prefix c (Some l) = loops prefix c (items s l)

-- with any number of depths left
pub call_is_here : (m : Manifest) (A : Answers) (g : Scope) (left : ℕ) (prefix : List ℕ) (p : Place) (s : Scope) (c : Call) → Here p (calls m A g left prefix p s c)
call_is_here m A g zero prefix p s c = refl
call_is_here m A g (suc left) prefix p s c =
    let called = calls m A g left in
    stop_before p (kind_named m c.template) s c.when (each_made m A g called prefix p s c c.each) (each m A g called p s prefix c c.each)
