-- Worked examples of locks: which path carries one, and what it guards.
use Rattle.std.proofs.Common.{◌≡◌, refl}
use Rattle.std.specs.Prelude.{ℕ, List, [], ◌∷◌, ◌++◌, Bool, true, false, Option, Some, None, codes}
use Rattle.tree_types.specs.declared.path.Sel.TheVariants.{Main, Exit, Group, Step, Task as task_sel, Item, Attempt}
use Rattle.tree_types.specs.declared.path.LockId.{LockId}
use Rattle.wf_manifest.specs.declared.calls.Call.{Call}
use Rattle.wf_manifest.specs.declared.templates.Policy.TheVariants.{OnFailure}
use Rattle.wf_manifest.specs.declared.templates.Template.{Template}
use Rattle.wf_manifest.specs.declared.templates.Body.TheVariants as body
use Rattle.wf_manifest.specs.declared.manifest.Manifest.{Manifest}
use Rattle.meaning.specs.Answers.{Sels}
use Rattle.meaning.specs.Guards.{lock_at, guards}
use Rattle.meaning.proofs.Samples.{template, container, workflow_of, call_with, over, hook_with, task, mutex}

-- a container with a retry and the mutex of its name
abbrev locked : List ℕ → Template
locked name = record (template name body.Pod) {
  lock = Some (mutex name);
  retry = Some (record { limit = None; policy = OnFailure; backoff = None });
}

-- a step of a template, with the template l2 as its exit hook
abbrev hooked : List ℕ → List ℕ → Call
hooked name template = record (call_with name template []) { exit = Some (hook_with (codes "l2") []) }

-- two groups: the step a of l1, and a looped step b of l1, each with an exit hook of l2; then a step d of a DAG with
-- the mutex g, whose task T is of l2; and the exit handler is of l1
abbrev many_locks : Manifest
many_locks =
    record (workflow_of (codes "w")
    (template (codes "main")
    (body.Steps
    ((hooked (codes "a") (codes "l1")
    ∷ record (hooked (codes "b") (codes "l1")) { each = Some (over (codes "x" ∷ [])) } ∷ [])
    ∷ (hooked (codes "d") (codes "g") ∷ []) ∷ []))
    ∷ record (template (codes "g")
    (body.Dag (record { targets = []; fail_fast = true; tasks = task (call_with (codes "T") (codes "l2") []) ∷ [] })))
    { lock = Some (mutex (codes "g")) }
    ∷ locked (codes "l1") ∷ locked (codes "l2") ∷ container ∷ []))
    { on_exit = Some (codes "l1"); lock = Some (mutex (codes "own")) }

abbrev carried_at : Sels → Option LockId
carried_at p = lock_at many_locks p

abbrev a : Sels
a = Main ∷ Group 0 ∷ Step 0 ∷ []

abbrev b : Sels
b = Main ∷ Group 0 ∷ Step 1 ∷ []

abbrev d : Sels
d = Main ∷ Group 1 ∷ Step 0 ∷ []

abbrev t : Sels
t = d ++ task_sel 0 ∷ []

-- ---- which path carries which lock

-- the empty path carries the workflow's own lock
pub the_workflows_own : carried_at [] ≡ Some (mutex (codes "own"))
the_workflows_own = refl

-- main has no lock
pub none_of_main : carried_at (Main ∷ []) ≡ None
none_of_main = refl

-- nor has a group of steps
pub none_of_a_group : carried_at (Main ∷ Group 0 ∷ []) ≡ None
none_of_a_group = refl

-- a step's path carries the lock of its template
pub of_a_step : carried_at a ≡ Some (mutex (codes "l1"))
of_a_step = refl

-- the Retry node carries it, and no attempt does
pub none_of_an_attempt : carried_at (a ++ Attempt 0 ∷ []) ≡ None
none_of_an_attempt = refl

-- the hook's template has its own
pub of_a_hook : carried_at (a ++ Exit ∷ []) ≡ Some (mutex (codes "l2"))
of_a_hook = refl

-- of a looped step each item carries it, and the TaskGroup does not
pub none_of_a_loop : carried_at b ≡ None
none_of_a_loop = refl

-- as here
pub of_an_item : carried_at (b ++ Item 0 ∷ []) ≡ Some (mutex (codes "l1"))
of_an_item = refl

-- the hook of an item has its own too
pub of_an_items_hook : carried_at (b ++ Item 0 ∷ Exit ∷ []) ≡ Some (mutex (codes "l2"))
of_an_items_hook = refl

-- behind the TaskGroup no hook stands
pub none_behind_a_loop : carried_at (b ++ Exit ∷ []) ≡ None
none_behind_a_loop = refl

-- a DAG's path carries the lock of its template
pub of_a_dag : carried_at d ≡ Some (mutex (codes "g"))
of_a_dag = refl

-- and a task's that of its own
pub of_a_task : carried_at t ≡ Some (mutex (codes "l2"))
of_a_task = refl

-- the exit handler's path carries the lock of its template
pub of_the_exit_handler : carried_at (Exit ∷ []) ≡ Some (mutex (codes "l1"))
of_the_exit_handler = refl

-- a path at which no node can stand
pub none_where_nothing_stands : carried_at (Main ∷ Group 7 ∷ Step 0 ∷ []) ≡ None
none_where_nothing_stands = refl

-- ---- what a lock guards

-- the workflow's own lock guards every pod
pub own_guards_a_pod : guards [] (a ++ Attempt 0 ∷ []) ≡ true
own_guards_a_pod = refl

-- also that of the exit handler
pub own_guards_the_exit_handler : guards [] (Exit ∷ Attempt 0 ∷ []) ≡ true
own_guards_the_exit_handler = refl

-- a template's lock guards its node
pub it_guards_its_node : guards a a ≡ true
it_guards_its_node = refl

-- and each attempt below it
pub it_guards_an_attempt : guards a (a ++ Attempt 3 ∷ []) ≡ true
it_guards_an_attempt = refl

-- but not its exit hook
pub it_does_not_guard_its_hook : guards a (a ++ Exit ∷ []) ≡ false
it_does_not_guard_its_hook = refl

-- nor what stands below that
pub it_does_not_guard_the_hooks_pod : guards a (a ++ Exit ∷ Attempt 0 ∷ []) ≡ false
it_does_not_guard_the_hooks_pod = refl

-- a DAG's lock guards its tasks
pub it_guards_a_task : guards d t ≡ true
it_guards_a_task = refl

-- with their exit hooks, which are of calls inside it
pub it_guards_a_tasks_hook : guards d (t ++ Exit ∷ []) ≡ true
it_guards_a_tasks_hook = refl

-- a step's lock does not guard another step
pub it_does_not_guard_another_step : guards a d ≡ false
it_does_not_guard_another_step = refl

-- nor another item of a loop
pub it_does_not_guard_another_item : guards (b ++ Item 0 ∷ []) (b ++ Item 1 ∷ []) ≡ false
it_does_not_guard_another_item = refl

-- nor what stands above it
pub it_does_not_guard_what_is_above : guards a (Main ∷ Group 0 ∷ []) ≡ false
it_does_not_guard_what_is_above = refl

-- ---- the locks that guard a pod: those of the beginnings of its path

abbrev with_lock : Bool → Option LockId → List LockId → List LockId
with_lock true (Some l) rest = l ∷ rest
with_lock _ _ rest = rest

-- those of a beginning of the path and of what follows it, up to the whole path
abbrev locks_from : Sels → Sels → List LockId
locks_from front [] = with_lock (guards front front) (carried_at front) []
locks_from front (s ∷ rest) =
    with_lock (guards front (front ++ s ∷ rest)) (carried_at front) (locks_from (front ++ s ∷ []) rest)

abbrev locks_of : Sels → List LockId
locks_of q = locks_from [] q

-- the pod of a step: the workflow's lock, and that of its template
pub of_a_steps_pod : locks_of (a ++ Attempt 0 ∷ []) ≡ mutex (codes "own") ∷ mutex (codes "l1") ∷ []
of_a_steps_pod = refl

-- its hook's pod: not the lock of the step, but that of the hook's own template
pub of_a_hooks_pod : locks_of (a ++ Exit ∷ Attempt 0 ∷ []) ≡ mutex (codes "own") ∷ mutex (codes "l2") ∷ []
of_a_hooks_pod = refl

-- an item's pod as a step's
pub of_an_items_pod : locks_of (b ++ Item 0 ∷ Attempt 0 ∷ []) ≡ mutex (codes "own") ∷ mutex (codes "l1") ∷ []
of_an_items_pod = refl

-- a task's pod: also the lock of the DAG that it is in
pub of_a_tasks_pod : locks_of (t ++ Attempt 0 ∷ []) ≡ mutex (codes "own") ∷ mutex (codes "g") ∷ mutex (codes "l2") ∷ []
of_a_tasks_pod = refl

-- the exit handler's pod: the workflow's lock, and that of its own template
pub of_the_exit_handlers_pod : locks_of (Exit ∷ Attempt 0 ∷ []) ≡ mutex (codes "own") ∷ mutex (codes "l1") ∷ []
of_the_exit_handlers_pod = refl
