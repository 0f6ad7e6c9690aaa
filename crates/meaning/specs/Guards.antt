-- Which paths carry a lock, and which paths a lock guards: read off the manifest alone, selector by selector (own).
use Rattle.std.specs.Prelude.{ℕ, List, [], ◌∷◌, Bool, true, false, not, ◌&&◌, Option, Some, None, fold, slice_get}
use Rattle.tree_types.specs.declared.path.Sel.{Sel}
use Rattle.tree_types.specs.declared.path.Sel.TheVariants.{Main, Exit, Group, Step, Task, Item}
use Rattle.tree_types.specs.declared.path.LockId.{LockId}
use Rattle.tree_types.specs.Places.{sel_eq}
use Rattle.wf_manifest.specs.declared.calls.Loop.{Loop}
use Rattle.wf_manifest.specs.declared.calls.Hook.{Hook}
use Rattle.wf_manifest.specs.declared.calls.Call.{Call}
use Rattle.wf_manifest.specs.declared.calls.Task.{Task as DagTask}
use Rattle.wf_manifest.specs.declared.templates.Body.{Body}
use Rattle.wf_manifest.specs.declared.templates.Body.TheVariants as body
use Rattle.wf_manifest.specs.declared.templates.Template.{Template}
use Rattle.wf_manifest.specs.declared.manifest.Manifest.{Manifest}
use Rattle.meaning.specs.Answers.{Sels}
use Rattle.meaning.specs.Calls.{template_named}

-- ---- the template whose node stands at a path, where it is reached

pub data Spot : Type 0 where
  nowhere : Spot
  -- a template's node, and the exit hook of its call
  of_template : Template → Option Hook → Spot
  of_group : List Call → Spot
  -- the TaskGroup of a looped call
  of_loop : Call → Spot

abbrev pub template_spot : Option Hook → Option Template → Spot
template_spot hook None = nowhere
template_spot hook (Some t) = of_template t hook

abbrev pub spot_named : Manifest → List ℕ → Option Hook → Spot
spot_named m name hook = template_spot hook (template_named m name)

abbrev pub called_spot : Manifest → Call → Option Loop → Spot
called_spot m c None = spot_named m c.template c.exit
called_spot m c (Some l) = of_loop c

abbrev pub call_spot : Manifest → Option Call → Spot
call_spot m None = nowhere
call_spot m (Some c) = called_spot m c c.each

abbrev pub group_spot : Option (List Call) → Spot
group_spot None = nowhere
group_spot (Some cs) = of_group cs

abbrev pub call_of_task : Option DagTask → Option Call
call_of_task None = None
call_of_task (Some t) = Some t.call

abbrev pub inside_body : Manifest → Body → Sel → Spot
inside_body m (body.Steps gs) (Group i) = group_spot (slice_get gs i)
inside_body m (body.Dag d) (Task i) = call_spot m (call_of_task (slice_get d.tasks i))
inside_body m _ _ = nowhere

abbrev pub inside_template : Manifest → Template → Option Hook → Sel → Spot
inside_template m t (Some h) Exit = spot_named m h.template None
inside_template m t hook sel = inside_body m t.body sel

abbrev pub inside : Manifest → Spot → Sel → Spot
inside m (of_template t hook) sel = inside_template m t hook sel
inside m (of_group cs) (Step j) = call_spot m (slice_get cs j)
inside m (of_loop c) (Item i) = spot_named m c.template c.exit
inside m _ _ = nowhere

abbrev pub handler_spot : Manifest → Option (List ℕ) → Spot
handler_spot m None = nowhere
handler_spot m (Some name) = spot_named m name None

-- the spot of a path: one selector after the other
abbrev pub spot : Manifest → Sels → Spot
spot m (Main ∷ sels) = fold (inside m) (spot_named m m.entrypoint None) sels
spot m (Exit ∷ sels) = fold (inside m) (handler_spot m m.on_exit) sels
spot m _ = nowhere

-- ---- locks

abbrev pub lock_of_spot : Spot → Option LockId
lock_of_spot (of_template t hook) = t.lock
lock_of_spot _ = None

-- the lock that a path carries, if any; the empty path carries the workflow's own
abbrev pub lock_at : Manifest → Sels → Option LockId
lock_at m [] = m.lock
lock_at m (sel ∷ sels) = lock_of_spot (spot m (sel ∷ sels))

-- ---- guards

abbrev pub begins_with_exit : Sels → Bool
begins_with_exit [] = false
begins_with_exit (sel ∷ sels) = sel_eq sel Exit

-- what stands at the path or below it, its exit hook left out
abbrev pub guards_inside : Sels → Sels → Bool
guards_inside [] rest = not (begins_with_exit rest)
guards_inside (a ∷ p) [] = false
guards_inside (a ∷ p) (b ∷ q) = sel_eq a b && guards_inside p q

-- a path's lock guards it and all below it but its exit hook; the workflow's own lock guards every path
abbrev pub guards : Sels → Sels → Bool
guards [] q = true
guards (a ∷ p) q = guards_inside (a ∷ p) q
