-- What one recorded fact changes of a call that runs, form by form.
use Rattle.std.proofs.Common.{◌≡◌, ℕ, zero, suc, ◌+◌, ◌<◌, List, [], ◌∷◌, ◌++◌, Bool, true, false, Option, Some, None, Ok, Err, codes, refl, sym, ap, ◌∙◌, subst, arith}
use Rattle.std.specs.Prelude.{slice_get, is_some, ◌&&◌}
use Rattle.std.specs.List.{list_all}
use Rattle.std.proofs.Common.{ne_eqb}
use Rattle.tree_types.specs.declared.path.Sel.TheVariants.{Group, Step, Item}
use Rattle.tree_types.specs.declared.phase.Phase.TheVariants.{Running, Skipped, Error}
use Rattle.tree_types.specs.declared.outcome.Outcome.{Outcome}
use Rattle.tree_types.specs.declared.node.Note.{Note}
use Rattle.tree_types.specs.declared.node.Note.TheVariants as note
use Rattle.tree_types.specs.declared.node.Kind.TheVariants as kind
use Rattle.tree_types.specs.declared.node.Node.{Node}
use Rattle.tree_types.specs.Places.{sels_eq}
use Rattle.wf_manifest.specs.declared.calls.Argument.{Argument}
use Rattle.wf_manifest.specs.declared.calls.Loop.{Loop}
use Rattle.wf_manifest.specs.declared.calls.Call.{Call}
use Rattle.wf_manifest.specs.declared.calls.Dag.{Dag}
use Rattle.wf_manifest.specs.declared.calls.Hook.{Hook}
use Rattle.wf_manifest.specs.declared.templates.OutputDecl.{OutputDecl}
use Rattle.wf_manifest.specs.declared.templates.Memoize.{Memoize}
use Rattle.wf_manifest.specs.declared.templates.Retry.{Retry}
use Rattle.wf_manifest.specs.declared.templates.Body.{Body}
use Rattle.wf_manifest.specs.declared.templates.Body.TheVariants as body
use Rattle.wf_manifest.specs.declared.templates.Template.{Template}
use Rattle.wf_manifest.specs.declared.manifest.Manifest.{Manifest}
use Rattle.scopes.specs.Substitution.{Found, Scope, said}
use Rattle.fanout.specs.Items.{items}
use Rattle.fanout.specs.ItemTexts.{item_tags}
use Rattle.serde_json.specs.Data.{Data}
use Rattle.meaning.specs.declared.lines.Place.{Place}
use Rattle.meaning.specs.Answers.{Sels, Answers}
use Rattle.meaning.specs.Lines.{numbered, Made, row_of, row_in, no_outputs, all_finished}
use Rattle.meaning.specs.Pods.{Attempts, outputs_of, pod_by, pod_made, attempts, retry_node, retry_made}
use Rattle.meaning.specs.Outputs.{completed}
use Rattle.meaning.specs.Steps.{Caller, members, member_place, makings, group_made, group_place, steps_made}
use Rattle.meaning.specs.Dags.{dag_made}
use Rattle.meaning.specs.Calls.{declared_by, item_place, item_made, items_made, looped, template_named, stopped_before_loop, stopped_at_item, unless_stopped, kind_named, hook_runs, hooked, saving, body_by, body_made, template_made, call_of_template, one_made, each_made, calls}
use Rattle.growth.proofs.Keeping.{At, node_at, ending_ends}
use Rattle.locality.specs.Paths.{IsOff}
use Rattle.locality.specs.Answered.{SameBut}
use Rattle.locality.proofs.Paths.{off_other_child}
use Rattle.locality.proofs.OffPath.{call_stays, item_stays, group_stays}
use Rattle.tree_state.specs.Replacing.{call_at, replaced, with_call, with_item}
use Rattle.growth.specs.Ticks.{place_of}
use Rattle.tree_change.specs.Entered.{IsRunning}
use Rattle.tree_change.specs.Open.{unlocked, IsOpen}
use Rattle.tree_change.proofs.Entering.{goes_on_before, goes_on_at, made_inside, has_entered, no_hook, runs_alone}
use Rattle.tree_change.proofs.Opening.{is_open, open_phase, open_made, plain_made, saved_made, open_alike}
use Rattle.tree_change.proofs.Rows.{row_other, numbered_at, making, makings_are, group_other, groups_other, steps_other, unfinished_row, loop_other}

-- a pod's node stands at its place
pub pod_at : (place : Place) (ds : List OutputDecl) (o : Option (Note × Outcome)) → At place (pod_by place ds o).own.node
pod_at place ds None = node_at place kind.Pod Running note.None no_outputs
pod_at place ds (Some o) = (ending_ends place kind.Pod o.1.phase o.0 (outputs_of o.1) (completed ds (outputs_of o.1))).at

-- with a retry too
retry_at : (place : Place) (a : Attempts) (over : Bool) → place_of (retry_node place a over) ≡ place
retry_at place a true = refl
retry_at place a false = refl

pub at_place : (place : Place) (n : Node) → At place n → place_of n ≡ place
at_place place n at = λ i. record { sels = (at.path i).sels; name = at.name i; depth = at.depth i }

-- the body of a template by its form, whatever its retry
steps_body : (A : Answers) (called : Caller) (place : Place) (s : Scope) (ds : List OutputDecl) (r : Option Retry) (gs : List (List Call)) → body_by A called place s ds r (body.Steps gs) ≡ steps_made called place s ds gs
steps_body A called place s ds None gs = refl
steps_body A called place s ds (Some r) gs = refl

dag_body : (A : Answers) (called : Caller) (place : Place) (s : Scope) (ds : List OutputDecl) (r : Option Retry) (d : Dag) → body_by A called place s ds r (body.Dag d) ≡ dag_made A called place s ds d
dag_body A called place s ds None d = refl
dag_body A called place s ds (Some r) d = refl

module _ (m : Manifest) (A B : Answers) (changed : Sels) (same : SameBut A B changed) (g : Scope) (left : ℕ) where
  abbrev called : Caller
  called = calls m A g left

  abbrev other : Caller
  other = calls m B g left

  -- ---- groups

  off_step : (q : Place) (j k : ℕ) (rest : Sels) → changed ≡ q.sels ++ Step j ∷ rest → (k ≡ 0 + j → ⊥) → IsOff changed (q.sels ++ Step k ∷ [])
  off_step q j k rest way apart =
      subst (λ (p : Sels). IsOff p (q.sels ++ Step k ∷ [])) (sym way) (off_other_child q.sels rest [] (Step j) (Step k) (ne_eqb j k (λ e. apart (omega (arith, e)))))

  pub off_group : (place : Place) (i n : ℕ) (rest : Sels) → changed ≡ place.sels ++ Group i ∷ rest → n < 0 + i → IsOff changed (place.sels ++ Group n ∷ [])
  off_group place i n rest way lt =
      subst (λ (p : Sels). IsOff p (place.sels ++ Group n ∷ [])) (sym way) (off_other_child place.sels rest [] (Group i) (Group n) (ne_eqb i n (λ e. omega (arith, e))))

  -- the members of a group, of which one changed
  pub members_other : (q : Place) (s : Scope) (cs : List Call) (j : ℕ) (rest : Sels) (z : Made) → changed ≡ q.sels ++ Step j ∷ rest →
      ((c : Call) → slice_get cs j ≡ Some c → called (codes "steps.") (member_place q j c) s c ≡ z) →
      row_of (makings (members called q s cs)) ≡ replaced (row_of (makings (members other q s cs))) j z
  members_other q s cs j rest z way here =
      ap (λ (ms : List Made). row_of ms) (makings_are called q s 0 cs)
      ∙ row_other (making called q s) (making other q s) 0 j cs z
      (λ k c apart. call_stays A B changed same m g left (codes "steps.") (member_place q k c) s c (off_step q j k rest way apart))
      (λ c found. ap (λ (n : ℕ). making called q s n c) (omega arith) ∙ here c found)
      ∙ ap (λ (ms : List Made). replaced (row_of ms) j z) (sym (makings_are other q s 0 cs))

  -- what a member made
  pub member_stood : (q : Place) (s : Scope) (cs : List Call) (j : ℕ) (one : Made) (c : Call) → call_at (row_of (makings (members other q s cs))) j ≡ Some one → slice_get cs j ≡ Some c →
      one ≡ other (codes "steps.") (member_place q j c) s c
  member_stood q s cs j one c at found =
      let there : Some one ≡ Some (making other q s (0 + j) c) = sym at ∙ ap (λ (ms : List Made). call_at (row_of ms) j) (makings_are other q s 0 cs) ∙ numbered_at (making other q s) 0 j cs c found in
      let next : 0 + j ≡ j = omega arith in
      let same_member : one ≡ making other q s (0 + j) c = cc in
      same_member ∙ ap (λ (n : ℕ). making other q s n c) next

  pub group_changes : (q : Place) (s : Scope) (cs : List Call) (j : ℕ) (rest : Sels) (old one z : Made) →
      changed ≡ q.sels ++ Step j ∷ rest → old ≡ group_made q (members other q s cs) → IsRunning old → call_at old.parts j ≡ Some one →
      ((c : Call) → slice_get cs j ≡ Some c → one ≡ other (codes "steps.") (member_place q j c) s c → called (codes "steps.") (member_place q j c) s c ≡ z) →
      list_all (λ b. b.own.finished) (row_in (replaced old.parts j z)) ≡ false →
      group_made q (members called q s cs) ≡ with_call old j z
  group_changes q s cs j rest old one z way is runs at here off =
      let there = sym (ap (λ (b : Made). call_at b.parts j) is) ∙ at in
      group_other q (members called q s cs) (members other q s cs) old j z is runs
      (members_other q s cs j rest z way (λ c found. here c found (member_stood q s cs j one c there found)))
      off

  pub steps_change : (place : Place) (s : Scope) (declared : List OutputDecl) (gs : List (List Call)) (i : ℕ) (rest : Sels) (old one z : Made) →
      changed ≡ place.sels ++ Group i ∷ rest → old ≡ steps_made other place s declared gs → call_at old.parts i ≡ Some one → IsRunning one → IsRunning z →
      ((t : Scope) (cs : List Call) → slice_get gs i ≡ Some cs → one ≡ group_made (group_place place i) (members other (group_place place i) t cs) → group_made (group_place place i) (members called (group_place place i) t cs) ≡ z) →
      steps_made called place s declared gs ≡ with_call old i z
  steps_change place s declared gs i rest old one z way is at runs runs_now here =
      let next : 0 + i ≡ i = omega arith in
      steps_other called other place i s declared gs old z is
      (groups_other called other place i 0 s gs one z
      (λ n t cs lt. group_stays A B changed same m g left place n t cs (off_group place i n rest way lt))
      (λ t cs found was. ap (λ (n : ℕ). group_made (group_place place n) (members called (group_place place n) t cs)) next ∙ here t cs found (was ∙ ap (λ (n : ℕ). group_made (group_place place n) (members other (group_place place n) t cs)) next))
      (sym (ap (λ (b : Made). call_at b.parts i) is) ∙ at) runs runs_now)

  -- ---- templates

  was_body : (place : Place) (inner : Scope) (t : Template) (old : Made) → old ≡ template_made B other place inner t → IsRunning old → IsOpen B place inner t × (old ≡ body_made B other place inner t)
  was_body place inner t old is runs =
      let running : IsRunning (template_made B other place inner t) = sym (ap (λ (b : Made). b.own.node.phase) is) ∙ runs in
      let past = is_open B other place inner t running in
      (past, is ∙ open_made B other place inner t past (sym (open_phase B other place inner t past) ∙ running))

  pub steps_were : (place : Place) (inner : Scope) (t : Template) (gs : List (List Call)) (old : Made) →
      old ≡ template_made B other place inner t → IsRunning old → t.body ≡ body.Steps gs → old ≡ steps_made other place inner t.outputs gs
  steps_were place inner t gs old is runs form =
      (was_body place inner t old is runs).1 ∙ ap (body_by B other place inner t.outputs t.retry) form ∙ steps_body B other place inner t.outputs t.retry gs

  -- a template of steps that runs on
  pub steps_template_changes : (place : Place) (inner : Scope) (t : Template) (gs : List (List Call)) (old new : Made) →
      old ≡ template_made B other place inner t → IsRunning old → t.body ≡ body.Steps gs → sels_eq place.sels changed ≡ false →
      (old ≡ steps_made other place inner t.outputs gs → (new ≡ steps_made called place inner t.outputs gs) × IsRunning new) →
      template_made A called place inner t ≡ new
  steps_template_changes place inner t gs old new is runs form apart change =
      let was = was_body place inner t old is runs in
      let changed_so = change (steps_were place inner t gs old is runs form) in
      let now : body_made A called place inner t ≡ new = ap (body_by A called place inner t.outputs t.retry) form ∙ steps_body A called place inner t.outputs t.retry gs ∙ sym changed_so.0 in
      let running : IsRunning (body_made A called place inner t) = ap (λ (b : Made). b.own.node.phase) now ∙ changed_so.1 in
      open_made A called place inner t (open_alike A B place inner t (same.granted place.sels apart) (same.memo place.sels apart) was.0) running ∙ now

  -- a steps template without a cache, above the change: it is past its lock, as it was
  pub steps_template_again : (place : Place) (inner : Scope) (t : Template) (gs : List (List Call)) (old : Made) →
      old ≡ template_made B other place inner t → IsRunning old → t.body ≡ body.Steps gs → t.memoize ≡ None → sels_eq place.sels changed ≡ false →
      template_made A called place inner t ≡ steps_made called place inner t.outputs gs
  steps_template_again place inner t gs old is runs form plain apart =
      let past = open_alike A B place inner t (same.granted place.sels apart) (same.memo place.sels apart) (was_body place inner t old is runs).0 in
      plain_made A called place inner t plain past.unlocked
      ∙ ap (body_by A called place inner t.outputs t.retry) form
      ∙ steps_body A called place inner t.outputs t.retry gs

  -- and one with a cache that had nothing
  pub steps_template_saved : (place : Place) (inner : Scope) (t : Template) (gs : List (List Call)) (c : Memoize) (key : List ℕ) (old : Made) →
      old ≡ template_made B other place inner t → IsRunning old → t.body ≡ body.Steps gs → t.memoize ≡ Some c → said inner c.key ≡ Ok key → sels_eq place.sels changed ≡ false →
      template_made A called place inner t ≡ saving place c key (steps_made called place inner t.outputs gs)
  steps_template_saved place inner t gs c key old is runs form cached keyed apart =
      let past = open_alike A B place inner t (same.granted place.sels apart) (same.memo place.sels apart) (was_body place inner t old is runs).0 in
      saved_made A called place inner t c key past cached keyed
      ∙ ap (λ (b : Made). saving place c key b) (ap (body_by A called place inner t.outputs t.retry) form ∙ steps_body A called place inner t.outputs t.retry gs)

  pub dag_were : (place : Place) (inner : Scope) (t : Template) (d : Dag) (old : Made) →
      old ≡ template_made B other place inner t → IsRunning old → t.body ≡ body.Dag d → old ≡ dag_made B other place inner t.outputs d
  dag_were place inner t d old is runs form =
      (was_body place inner t old is runs).1 ∙ ap (body_by B other place inner t.outputs t.retry) form ∙ dag_body B other place inner t.outputs t.retry d

  -- a template of a DAG that runs on
  pub dag_template_changes : (place : Place) (inner : Scope) (t : Template) (d : Dag) (old new : Made) →
      old ≡ template_made B other place inner t → IsRunning old → t.body ≡ body.Dag d → sels_eq place.sels changed ≡ false →
      (old ≡ dag_made B other place inner t.outputs d → (new ≡ dag_made A called place inner t.outputs d) × IsRunning new) →
      template_made A called place inner t ≡ new
  dag_template_changes place inner t d old new is runs form apart change =
      let was = was_body place inner t old is runs in
      let changed_so = change (dag_were place inner t d old is runs form) in
      let now : body_made A called place inner t ≡ new = ap (body_by A called place inner t.outputs t.retry) form ∙ dag_body A called place inner t.outputs t.retry d ∙ sym changed_so.0 in
      let running : IsRunning (body_made A called place inner t) = ap (λ (b : Made). b.own.node.phase) now ∙ changed_so.1 in
      open_made A called place inner t (open_alike A B place inner t (same.granted place.sels apart) (same.memo place.sels apart) was.0) running ∙ now

  -- a DAG without a cache, above the change
  pub dag_template_again : (place : Place) (inner : Scope) (t : Template) (d : Dag) (old : Made) →
      old ≡ template_made B other place inner t → IsRunning old → t.body ≡ body.Dag d → t.memoize ≡ None → sels_eq place.sels changed ≡ false →
      template_made A called place inner t ≡ dag_made A called place inner t.outputs d
  dag_template_again place inner t d old is runs form plain apart =
      let past = open_alike A B place inner t (same.granted place.sels apart) (same.memo place.sels apart) (was_body place inner t old is runs).0 in
      plain_made A called place inner t plain past.unlocked
      ∙ ap (body_by A called place inner t.outputs t.retry) form
      ∙ dag_body A called place inner t.outputs t.retry d

  -- and one with a cache that had nothing
  pub dag_template_saved : (place : Place) (inner : Scope) (t : Template) (d : Dag) (c : Memoize) (key : List ℕ) (old : Made) →
      old ≡ template_made B other place inner t → IsRunning old → t.body ≡ body.Dag d → t.memoize ≡ Some c → said inner c.key ≡ Ok key → sels_eq place.sels changed ≡ false →
      template_made A called place inner t ≡ saving place c key (dag_made A called place inner t.outputs d)
  dag_template_saved place inner t d c key old is runs form cached keyed apart =
      let past = open_alike A B place inner t (same.granted place.sels apart) (same.memo place.sels apart) (was_body place inner t old is runs).0 in
      saved_made A called place inner t c key past cached keyed
      ∙ ap (λ (b : Made). saving place c key b) (ap (body_by A called place inner t.outputs t.retry) form ∙ dag_body A called place inner t.outputs t.retry d)

  -- a pod without a cache and a retry, past its lock
  pub pod_template_changes : (place : Place) (inner : Scope) (t : Template) (old z : Made) →
      old ≡ template_made B other place inner t → IsRunning old → t.body ≡ body.Pod → t.retry ≡ None → t.memoize ≡ None →
      unlocked (A.granted (place_of old.own.node).sels) t.lock ≡ true → pod_made A (place_of old.own.node) t.outputs ≡ z →
      template_made A called place inner t ≡ z
  pod_template_changes place inner t old z is runs form alone plain granted now =
      let was = was_body place inner t old is runs in
      let by : (X : Answers) (f : Caller) → body_made X f place inner t ≡ pod_made X place t.outputs = λ X f. ap (λ (b : Body). body_by X f place inner t.outputs t.retry b) form ∙ ap (λ (r : Option Retry). body_by X f place inner t.outputs r body.Pod) alone in
      let here : place_of old.own.node ≡ place =
      ap (λ (b : Made). place_of b.own.node) (was.1 ∙ by B other) ∙ at_place place (pod_made B place t.outputs).own.node (pod_at place t.outputs (B.outcome place)) in
      plain_made A called place inner t plain (ap (λ (p : Place). unlocked (A.granted p.sels) t.lock) (sym here) ∙ granted)
      ∙ by A called
      ∙ ap (λ (p : Place). pod_made A p t.outputs) (sym here)
      ∙ now

  -- a pod with a retry and without a cache, past its lock
  pub retried_template_changes : (place : Place) (inner : Scope) (t : Template) (r : Retry) (old z : Made) →
      old ≡ template_made B other place inner t → IsRunning old → t.body ≡ body.Pod → t.retry ≡ Some r → t.memoize ≡ None →
      unlocked (A.granted (place_of old.own.node).sels) t.lock ≡ true → retry_made A (place_of old.own.node) t.outputs r ≡ z →
      template_made A called place inner t ≡ z
  retried_template_changes place inner t r old z is runs form again plain granted now =
      let was = was_body place inner t old is runs in
      let by : (X : Answers) (f : Caller) → body_made X f place inner t ≡ retry_made X place t.outputs r = λ X f. ap (λ (b : Body). body_by X f place inner t.outputs t.retry b) form ∙ ap (λ (o : Option Retry). body_by X f place inner t.outputs o body.Pod) again in
      let tries : Attempts = attempts B place t.outputs r in
      let here : place_of old.own.node ≡ place = ap (λ (b : Made). place_of b.own.node) (was.1 ∙ by B other) ∙ retry_at place tries tries.over in
      plain_made A called place inner t plain (ap (λ (p : Place). unlocked (A.granted p.sels) t.lock) (sym here) ∙ granted)
      ∙ by A called
      ∙ ap (λ (p : Place). retry_made A p t.outputs r) (sym here)
      ∙ now

  -- ---- a call without a loop, or one item

  hook_off : (label : List ℕ) (place : Place) (scope : Scope) (h : Option Hook) (z : Made) → (is_some h && hook_runs z.own.node.phase) ≡ false → hooked m A g called label place scope h z ≡ z
  hook_off label place scope None z off = refl
  hook_off label place scope (Some h) z off = no_hook m A g called label place scope (Some h) z off

  pub one_changes : (prefix : List ℕ) (place : Place) (scope : Scope) (c : Call) (old z : Made) →
      old ≡ one_made m B g other prefix place scope c → IsRunning old →
      ((t : Template) (inner : Scope) → template_named m c.template ≡ Some t → old ≡ template_made B other place inner t → template_made A called place inner t ≡ z) →
      (is_some c.exit && hook_runs z.own.node.phase) ≡ false →
      one_made m A g called prefix place scope c ≡ z
  one_changes prefix place scope c old z is runs new off =
      let k = kind_named m c.template in
      let label = prefix ++ c.name in
      let followed : Made → Made = hooked m B g other label place scope c.exit in
      let inside : Made = call_of_template m B g other place scope c.template c.arguments followed in
      let running : IsRunning (one_made m B g other prefix place scope c) = sym (ap (λ (b : Made). b.own.node.phase) is) ∙ runs in
      let on : stopped_at_item place k scope c.when ≡ None = goes_on_at place k scope c.when inside running in
      let went : one_made m B g other prefix place scope c ≡ inside = ap (λ (o : Option Made). unless_stopped o inside) on in
      let entered = has_entered m B g other place scope c.template c.arguments followed (sym (ap (λ (b : Made). b.own.node.phase) went) ∙ running) in
      let t = entered.0 in
      let inner = entered.1 in
      let made = made_inside m B g other place scope c.template c.arguments followed t inner entered.2 in
      let hooked_runs : IsRunning (followed (template_made B other place inner t)) = sym (ap (λ (b : Made). b.own.node.phase) (went ∙ made)) ∙ running in
      let was : old ≡ template_made B other place inner t = is ∙ went ∙ made ∙ runs_alone m B g other label place scope c.exit (template_made B other place inner t) hooked_runs in
      ap (λ (o : Option Made). unless_stopped o (call_of_template m A g called place scope c.template c.arguments (hooked m A g called label place scope c.exit))) on
      ∙ made_inside m A g called place scope c.template c.arguments (hooked m A g called label place scope c.exit) t inner entered.2
      ∙ ap (hooked m A g called label place scope c.exit) (new t inner entered.2.found was)
      ∙ hook_off label place scope c.exit z off

  -- the entrypoint, or the exit handler
  pub top_changes : (place : Place) (scope : Scope) (name : List ℕ) (given : List Argument) (old z : Made) →
      old ≡ call_of_template m B g other place scope name given (λ b. b) → IsRunning old →
      ((t : Template) (inner : Scope) → template_named m name ≡ Some t → old ≡ template_made B other place inner t → template_made A called place inner t ≡ z) →
      call_of_template m A g called place scope name given (λ b. b) ≡ z
  top_changes place scope name given old z is runs new =
      let itself : Made → Made = λ b. b in
      let entered = has_entered m B g other place scope name given itself (sym (ap (λ (b : Made). b.own.node.phase) is) ∙ runs) in
      let t = entered.0 in
      let inner = entered.1 in
      made_inside m A g called place scope name given itself t inner entered.2
      ∙ new t inner entered.2.found (is ∙ made_inside m B g other place scope name given itself t inner entered.2)

-- ---- a call

-- what an item made
pub item_stood : (m : Manifest) (B : Answers) (g : Scope) (n : ℕ) (prefix : List ℕ) (place : Place) (scope : Scope) (c : Call) (ds : List Data) (i : ℕ) (one : Made) (x : Data) →
    call_at (row_of (items_made m B g (calls m B g n) prefix place scope c ds)) i ≡ Some one → slice_get ds i ≡ Some x → one ≡ item_made m B g (calls m B g n) prefix place scope c i x
item_stood m B g n prefix place scope c ds i one x at found =
    let there = numbered_at (item_made m B g (calls m B g n) prefix place scope c) 0 i ds x found in
    let same_item : one ≡ item_made m B g (calls m B g n) prefix place scope c (0 + i) x = cc (at, there) in
    let next : 0 + i ≡ i = omega arith in
    same_item ∙ ap (λ (k : ℕ). item_made m B g (calls m B g n) prefix place scope c k x) next

module _ (m : Manifest) (A B : Answers) (g : Scope) where
  -- a call that runs went on
  pub went_on : (n : ℕ) (prefix : List ℕ) (place : Place) (scope : Scope) (c : Call) (old : Made) → old ≡ calls m B g (suc n) prefix place scope c → IsRunning old →
      (stopped_before_loop place (kind_named m c.template) scope c.when ≡ None) × (old ≡ each_made m B g (calls m B g n) prefix place scope c c.each)
  went_on n prefix place scope c old is runs =
      let each : Made = each_made m B g (calls m B g n) prefix place scope c c.each in
      let on = goes_on_before place (kind_named m c.template) scope c.when each (sym (ap (λ (b : Made). b.own.node.phase) is) ∙ runs) in
      (on, is ∙ ap (λ (o : Option Made). unless_stopped o each) on)

  -- a call without a loop
  pub call_changes : (left : ℕ) (prefix : List ℕ) (place : Place) (scope : Scope) (c : Call) (old z : Made) → old ≡ calls m B g left prefix place scope c → IsRunning old → c.each ≡ None →
      ((n : ℕ) → old ≡ one_made m B g (calls m B g n) prefix place scope c → one_made m A g (calls m A g n) prefix place scope c ≡ z) →
      calls m A g left prefix place scope c ≡ z
  call_changes zero prefix place scope c old z is runs single new =
      let clash : Error ≡ Running = sym (ap (λ (b : Made). b.own.node.phase) is) ∙ runs in
      absurd (cc)
  call_changes (suc n) prefix place scope c old z is runs single new =
      let went = went_on n prefix place scope c old is runs in
      ap (λ (o : Option Made). unless_stopped o (each_made m A g (calls m A g n) prefix place scope c c.each)) went.0
      ∙ ap (each_made m A g (calls m A g n) prefix place scope c) single
      ∙ new n (went.1 ∙ ap (each_made m B g (calls m B g n) prefix place scope c) single)

  -- the items of a looped call, of which one changed
  pub items_other : (changed : Sels) → SameBut A B changed → (n : ℕ) (prefix : List ℕ) (place : Place) (scope : Scope) (c : Call) (i : ℕ) (rest : Sels) (ds : List Data) (z : Made) → changed ≡ place.sels ++ Item i ∷ rest →
      ((x : Data) → slice_get ds i ≡ Some x → item_made m A g (calls m A g n) prefix place scope c i x ≡ z) →
      row_of (items_made m A g (calls m A g n) prefix place scope c ds) ≡ replaced (row_of (items_made m B g (calls m B g n) prefix place scope c ds)) i z
  items_other changed same n prefix place scope c i rest ds z way here =
      row_other (item_made m A g (calls m A g n) prefix place scope c) (item_made m B g (calls m B g n) prefix place scope c) 0 i ds z
      (λ k x apart. item_stays A B changed same m g n prefix place scope c k x (off_item k x apart))
      (λ x found. ap (λ (k : ℕ). item_made m A g (calls m A g n) prefix place scope c k x) (omega arith) ∙ here x found)
    where
      off_item : (k : ℕ) (x : Data) → (k ≡ 0 + i → ⊥) → IsOff changed (item_place place k x).sels
      off_item k x apart =
          subst (λ (p : Sels). IsOff p (place.sels ++ Item k ∷ [])) (sym way) (off_other_child place.sels rest [] (Item i) (Item k) (ne_eqb i k (λ e. apart (omega (arith, e)))))

  -- a looped call, of which an item changed
  pub loop_changes : (changed : Sels) → SameBut A B changed → (left : ℕ) (prefix : List ℕ) (place : Place) (scope : Scope) (c : Call) (l : Loop) (i : ℕ) (rest : Sels) (old one z : Made) →
      changed ≡ place.sels ++ Item i ∷ rest → old ≡ calls m B g left prefix place scope c → IsRunning old → c.each ≡ Some l →
      call_at old.parts i ≡ Some one → one.own.finished ≡ false →
      ((n : ℕ) (at : Place) (inner : Scope) → at.sels ≡ place.sels ++ Item i ∷ [] → one ≡ one_made m B g (calls m B g n) prefix at inner c → one_made m A g (calls m A g n) prefix at inner c ≡ z) →
      all_finished (row_in (replaced old.parts i z)) ≡ false →
      calls m A g left prefix place scope c ≡ with_item old i z
  loop_changes changed same zero prefix place scope c l i rest old one z way is runs looped_by at unfinished new off =
      let clash : Error ≡ Running = sym (ap (λ (b : Made). b.own.node.phase) is) ∙ runs in
      absurd (cc)
  loop_changes changed same (suc n) prefix place scope c l i rest old one z way is runs looped_by at unfinished new off =
      let went = went_on n prefix place scope c old is runs in
      ap (λ (o : Option Made). unless_stopped o (each_made m A g (calls m A g n) prefix place scope c c.each)) went.0
      ∙ ap (each_made m A g (calls m A g n) prefix place scope c) looped_by
      ∙ by (items scope l) (went.1 ∙ ap (each_made m B g (calls m B g n) prefix place scope c) looped_by)
    where
      by : (f : Found (List Data)) → old ≡ looped m B g (calls m B g n) prefix place scope c f → looped m A g (calls m A g n) prefix place scope c f ≡ with_item old i z
      by (Err fault) was =
          let clash : Error ≡ Running = sym (ap (λ (b : Made). b.own.node.phase) was) ∙ runs in
          absurd (cc)
      by (Ok []) was =
          let clash : Skipped ≡ Running = sym (ap (λ (b : Made). b.own.node.phase) was) ∙ runs in
          absurd (cc)
      by (Ok (d ∷ ds)) was =
          let theirs = item_made m B g (calls m B g n) prefix place scope c in
          let there = sym (ap (λ (b : Made). call_at b.parts i) was) ∙ at in
          loop_other place (declared_by (template_named m c.template)) (items_made m A g (calls m A g n) prefix place scope c (d ∷ ds)) (numbered theirs 0 (d ∷ ds)) old z i was (unfinished_row (numbered theirs 0 (d ∷ ds)) i one there unfinished)
          (items_other changed same n prefix place scope c i rest (d ∷ ds) z way
          (λ x found. new n (item_place place i x) (item_tags x ++ scope) refl (item_stood m B g n prefix place scope c (d ∷ ds) i one x there found)))
          off
