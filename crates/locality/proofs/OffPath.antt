-- What stays where one path changes: all that stands beside the way down to it.
use Rattle.std.proofs.Common.{◌≡◌, ℕ, ◌+◌, ◌<◌, ◌≤◌, List, [], ◌∷◌, ◌++◌, Bool, true, false, Option, Some, length, take, sym, ap, ◌∙◌, subst, arith}
use Rattle.std.specs.Prelude.{slice_get, All}
use Rattle.std.proofs.lemmas.Bool.{ne_eqb}
use Rattle.serde_json.specs.Data.{Data}
use Rattle.tree_types.specs.declared.path.Sel.{Sel}
use Rattle.tree_types.specs.declared.path.Sel.TheVariants.{Exit, Group, Step, Item, Attempt, Task as task_sel}
use Rattle.tree_types.specs.Places.{sel_eq, sels_eq}
use Rattle.tag_text.specs.declared.part.Part.{Part}
use Rattle.wf_manifest.specs.declared.calls.Argument.{Argument}
use Rattle.wf_manifest.specs.declared.calls.Hook.{Hook}
use Rattle.wf_manifest.specs.declared.calls.Call.{Call}
use Rattle.wf_manifest.specs.declared.calls.Task.{Task}
use Rattle.wf_manifest.specs.declared.calls.Dag.{Dag}
use Rattle.wf_manifest.specs.declared.templates.OutputDecl.{OutputDecl}
use Rattle.wf_manifest.specs.declared.templates.Memoize.{Memoize}
use Rattle.wf_manifest.specs.declared.templates.Retry.{Retry}
use Rattle.wf_manifest.specs.declared.templates.Template.{Template}
use Rattle.wf_manifest.specs.declared.manifest.Manifest.{Manifest}
use Rattle.scopes.specs.Substitution.{Scope}
use Rattle.meaning.specs.declared.lines.Place.{Place}
use Rattle.meaning.specs.Answers.{Sels, Answers}
use Rattle.meaning.specs.Lines.{Made}
use Rattle.meaning.specs.Pods.{pod_by, pod_made, attempt, attempts_from}
use Rattle.meaning.specs.Suspends.{suspend_made}
use Rattle.meaning.specs.Steps.{Caller, member, member_place, members, group_place, members_at, groups_from}
use Rattle.meaning.specs.Dags.{parents, Look, look, task_place, begun_task, free, standing, standings, dag_made}
use Rattle.meaning.specs.Calls.{body_made, memo_made, template_made, call_of_template, hook_place, hook_made, hooked, one_made, item_place, item_made, items_made, calls}
use Rattle.locality.specs.Paths.{IsOff}
use Rattle.locality.specs.Answered.{SameBelow, SameBut}
use Rattle.locality.specs.Local.{SameCallers, SameChildren}
use Rattle.locality.proofs.Paths.{above_differs, off_below, off_own_children, off_other_child}
use Rattle.locality.proofs.Answered.{off_is_same}
use Rattle.locality.proofs.Leaves.{suspended_by_own, first_attempts_are_local}
use Rattle.locality.proofs.Rows.{members_are_local, groups_are_local, members_at_same, steps_are_local, first_groups_are_local}
use Rattle.locality.proofs.Dags.{begun_tasks_are_local, free_same, dags_are_local}
use Rattle.locality.proofs.Tasks.{tasks_are_local, kept_tasks_are_local}
use Rattle.locality.proofs.Calls.{bodies_are_local, memos_are_local, templates_are_local, calls_of_templates_are_local, hooks_are_local, hooked_are_local, single_calls_are_local, items_are_local, loops_are_local, calls_are_local}

module _ (A B : Answers) (changed : Sels) (same : SameBut A B changed) where
  pub same_off : (at : Sels) → IsOff changed at → SameBelow A B at
  same_off at off = off_is_same A B changed at same off

  -- ---- the children of a place that the change is at, or below

  -- by a change at the place itself each child is the same
  pub children_of_changed : (place : Place) (child : ℕ → Sel) (i n : ℕ) → changed ≡ place.sels → SameChildren A B place child i n
  children_of_changed place child i n here =
      λ j l u. same_off (place.sels ++ child j ∷ []) (subst (λ (x : Sels). IsOff x (place.sels ++ child j ∷ [])) (sym here) (off_own_children place.sels [] (child j)))

  -- by a change below one selector each child of another one is the same
  pub other_child : (at rest : Sels) (s t : Sel) → changed ≡ at ++ s ∷ rest → sel_eq s t ≡ false → SameBelow A B (at ++ t ∷ [])
  other_child at rest s t way e =
      same_off (at ++ t ∷ []) (subst (λ (x : Sels). IsOff x (at ++ t ∷ [])) (sym way) (off_other_child at rest [] s t e))

  pub other_children : (place : Place) (child : ℕ → Sel) (i n : ℕ) (rest : Sels) (s : Sel) → changed ≡ place.sels ++ s ∷ rest → ((j : ℕ) → i ≤ j → j < i + n → sel_eq s (child j) ≡ false) → SameChildren A B place child i n
  other_children place child i n rest s way e = λ j l u. other_child place.sels rest s (child j) way (e j l u)

  -- the groups in front of the one that the change is in, and the attempts
  pub groups_in_front : (place : Place) (i n k : ℕ) (rest : Sels) → changed ≡ place.sels ++ Group k ∷ rest → i + n ≤ k → SameChildren A B place Group i n
  groups_in_front place i n k rest way le =
      other_children place Group i n rest (Group k) way (λ j l u. ne_eqb k j (λ e. omega arith))

  pub attempts_in_front : (place : Place) (i n k : ℕ) (rest : Sels) → changed ≡ place.sels ++ Attempt k ∷ rest → i + n ≤ k → SameChildren A B place Attempt i n
  attempts_in_front place i n k rest way le =
      other_children place Attempt i n rest (Attempt k) way (λ j l u. ne_eqb k j (λ e. omega arith))

  -- at a place on the way down to the change the same is answered: its lock, its memoized answer, its beginning
  pub apart_on_way : (at rest : Sels) (s : Sel) → changed ≡ at ++ s ∷ rest → sels_eq at changed ≡ false
  apart_on_way at rest s way = ap (sels_eq at) way ∙ above_differs at rest s

  -- ---- nodes without calls: by what is answered at their own paths

  pub pod_stays : (place : Place) (ds : List OutputDecl) → sels_eq place.sels changed ≡ false → pod_made A place ds ≡ pod_made B place ds
  pod_stays place ds apart = ap (pod_by place ds) (same.outcome place apart)

  pub suspended_stays : (place : Place) (scope : Scope) (ds : List OutputDecl) (duration : Option (List Part)) → sels_eq place.sels changed ≡ false → suspend_made A place scope ds duration ≡ suspend_made B place scope ds duration
  suspended_stays place scope ds duration apart =
      suspended_by_own A B place scope ds duration (same.armed place.sels apart) (same.due place.sels apart) (same.resumed place.sels apart)

  -- ---- attempts

  pub attempt_stays : (place : Place) (ds : List OutputDecl) (k : ℕ) → sels_eq (attempt place k).sels changed ≡ false → pod_made A (attempt place k) ds ≡ pod_made B (attempt place k) ds
  attempt_stays place ds k apart = pod_stays (attempt place k) ds apart

  pub attempts_in_front_stay : (place : Place) (ds : List OutputDecl) (r : Retry) (n : ℕ) (first : Option ℕ) (i tried k : ℕ) (rest : Sels) → changed ≡ place.sels ++ Attempt k ∷ rest → i + tried ≤ k
      → take tried (attempts_from A place ds r n i first).all ≡ take tried (attempts_from B place ds r n i first).all
  attempts_in_front_stay place ds r n first i tried k rest way le =
      first_attempts_are_local A B place ds r n i first tried (attempts_in_front place i tried k rest way le)

  -- ---- calls, with so many depths left

  module _ (m : Manifest) (g : Scope) (left : ℕ) where
    abbrev called : Caller
    called = calls m A g left

    abbrev other : Caller
    other = calls m B g left

    each : SameCallers A B (calls m A g left) (calls m B g left)
    each = calls_are_local m A B g left

    pub call_stays : (prefix : List ℕ) (place : Place) (scope : Scope) (c : Call) → IsOff changed place.sels → called prefix place scope c ≡ other prefix place scope c
    call_stays prefix place scope c off = each prefix place scope c (same_off place.sels off)

    pub single_call_stays : (prefix : List ℕ) (place : Place) (scope : Scope) (c : Call) → IsOff changed place.sels → one_made m A g called prefix place scope c ≡ one_made m B g other prefix place scope c
    single_call_stays prefix place scope c off = single_calls_are_local m A B g called other prefix place scope c each (same_off place.sels off)

    pub item_stays : (prefix : List ℕ) (place : Place) (scope : Scope) (c : Call) (i : ℕ) (d : Data) → IsOff changed (item_place place i d).sels → item_made m A g called prefix place scope c i d ≡ item_made m B g other prefix place scope c i d
    item_stays prefix place scope c i d off = items_are_local m A B g called other prefix place scope c i d each (same_off (item_place place i d).sels off)

    -- all items, where the change is at their node or in its exit hook
    pub items_stay : (prefix : List ℕ) (place : Place) (scope : Scope) (c : Call) (ds : List Data) → SameChildren A B place Item 0 (length ds) → items_made m A g called prefix place scope c ds ≡ items_made m B g other prefix place scope c ds
    items_stay prefix place scope c ds children = loops_are_local m A B g called other prefix place scope c ds each children

    pub template_stays : (place : Place) (scope : Scope) (t : Template) → IsOff changed place.sels → template_made A called place scope t ≡ template_made B other place scope t
    template_stays place scope t off = templates_are_local A B called other place scope t each (same_off place.sels off)

    pub memo_stays : (place : Place) (scope : Scope) (t : Template) (c : Option Memoize) → IsOff changed place.sels → memo_made A called place scope t c ≡ memo_made B other place scope t c
    memo_stays place scope t c off = memos_are_local A B called other place scope t c each (same_off place.sels off)

    pub body_stays : (place : Place) (scope : Scope) (t : Template) → IsOff changed place.sels → body_made A called place scope t ≡ body_made B other place scope t
    body_stays place scope t off = bodies_are_local A B called other place scope t each (same_off place.sels off)

    pub hook_stays : (label : List ℕ) (place : Place) (scope : Scope) (h : Hook) (b : Made) → IsOff changed (hook_place place).sels → hook_made m A g called label place scope h b ≡ hook_made m B g other label place scope h b
    hook_stays label place scope h b off = hooks_are_local m A B g called other label place scope h b each (same_off (hook_place place).sels off)

    pub hooked_stays : (label : List ℕ) (place : Place) (scope : Scope) (h : Option Hook) (b : Made) → IsOff changed (hook_place place).sels → hooked m A g called label place scope h b ≡ hooked m B g other label place scope h b
    hooked_stays label place scope h b off = hooked_are_local m A B g called other label place scope h b each (same_off (hook_place place).sels off)

    -- a call of a template with its exit hook
    pub hooked_call_stays : (place : Place) (scope : Scope) (name : List ℕ) (given : List Argument) (label : List ℕ) (h : Option Hook) → IsOff changed place.sels
        → call_of_template m A g called place scope name given (hooked m A g called label place scope h) ≡ call_of_template m B g other place scope name given (hooked m B g other label place scope h)
    hooked_call_stays place scope name given label h off =
        calls_of_templates_are_local m A B g called other place scope name given (hooked m A g called label place scope h) (hooked m B g other label place scope h) each (same_off place.sels off) (λ b. hooked_stays label place scope h b (off_below changed place.sels (Exit ∷ []) off))

    pub member_stays : (group : Place) (scope : Scope) (i : ℕ) (c : Call) → IsOff changed (member_place group i c).sels → member called group scope i c ≡ member other group scope i c
    member_stays group scope i c off = members_are_local A B called other group scope i c each (same_off (member_place group i c).sels off)

    -- all members, where the change is at their group
    pub members_stay : (group : Place) (scope : Scope) (cs : List Call) → SameChildren A B group Step 0 (length cs) → members called group scope cs ≡ members other group scope cs
    members_stay group scope cs children = groups_are_local A B called other group scope cs each children

    pub group_stays : (place : Place) (i : ℕ) (scope : Scope) (cs : List Call) → IsOff changed (group_place place i).sels → members_at called place i scope cs ≡ members_at other place i scope cs
    group_stays place i scope cs off = members_at_same A B called other each place i scope cs (same_off (group_place place i).sels off)

    -- groups in front of the one that the change is in, with the scope behind them
    pub groups_in_front_stay : (place : Place) (i : ℕ) (scope : Scope) (gs : List (List Call)) (k : ℕ) (rest : Sels) → changed ≡ place.sels ++ Group k ∷ rest → i + length gs ≤ k → groups_from called place i scope gs ≡ groups_from other place i scope gs
    groups_in_front_stay place i scope gs k rest way le =
        steps_are_local A B called other place i scope gs each (groups_in_front place i (length gs) k rest way le)

    -- the same groups, with others behind them
    pub first_groups_stay : (place : Place) (i : ℕ) (scope : Scope) (gs : List (List Call)) (n k : ℕ) (rest : Sels) → changed ≡ place.sels ++ Group k ∷ rest → i + n ≤ k → take n (groups_from called place i scope gs).all ≡ take n (groups_from other place i scope gs).all
    first_groups_stay place i scope gs n k rest way le =
        first_groups_are_local A B called other place i scope gs n each (groups_in_front place i n k rest way le)

    pub begun_task_stays : (place : Place) (scope : Scope) (d : Dag) (seen : Scope) (i : ℕ) (t : Task) → IsOff changed (task_place place i t).sels → begun_task A called place scope d seen i t ≡ begun_task B other place scope d seen i t
    begun_task_stays place scope d seen i t off = begun_tasks_are_local A B called other place scope d seen i t each (same_off (task_place place i t).sels off)

    pub free_task_stays : (place : Place) (scope : Scope) (d : Dag) (seen : Scope) (i : ℕ) (t : Task) → IsOff changed (task_place place i t).sels → free A called place scope d seen i t ≡ free B other place scope d seen i t
    free_task_stays place scope d seen i t off = free_same A B called other each place scope d i t (same_off (task_place place i t).sels off) seen

    pub task_stays : (place : Place) (scope : Scope) (d : Dag) (at by : Look) (i : ℕ) (t : Task) → IsOff changed (task_place place i t).sels → All (λ n. at n ≡ by n) (parents d.tasks t) → standing A called place scope d at i t ≡ standing B other place scope d by i t
    task_stays place scope d at by i t off alike = tasks_are_local A B called other place scope d at by i t each (same_off (task_place place i t).sels off) alike

    -- tasks that are not the changed one, and wait for no task but such
    pub kept_tasks_stay : (place : Place) (scope : Scope) (d : Dag) (kept : List ℕ → Bool) (k : ℕ) (rest : Sels) (name : List ℕ) → changed ≡ place.sels ++ task_sel k ∷ rest
        → ((t : Task) → slice_get d.tasks k ≡ Some t → kept t.call.name ≡ false)
        → ((i : ℕ) (t : Task) → slice_get d.tasks i ≡ Some t → kept t.call.name ≡ true → All (λ n. kept n ≡ true) (parents d.tasks t))
        → kept name ≡ true → look (standings A called place scope d) name ≡ look (standings B other place scope d) name
    kept_tasks_stay place scope d kept k rest name way not_kept awaited =
        kept_tasks_are_local A B called other place scope d kept name each (record { below = λ i t is h. other_child place.sels rest (task_sel k) (task_sel i) way (ne_eqb k i (λ e. clash i t is h e)); awaited = awaited })
      where
        clash : (i : ℕ) (t : Task) → slice_get d.tasks i ≡ Some t → kept t.call.name ≡ true → k ≡ i → ⊥
        clash i t is h e = let none = not_kept t (ap (slice_get d.tasks) e ∙ is) in cc (none, h)

    pub dag_stays : (place : Place) (scope : Scope) (ds : List OutputDecl) (d : Dag) → SameChildren A B place task_sel 0 (length d.tasks) → dag_made A called place scope ds d ≡ dag_made B other place scope ds d
    dag_stays place scope ds d children = dags_are_local A B called other place scope ds d each children
