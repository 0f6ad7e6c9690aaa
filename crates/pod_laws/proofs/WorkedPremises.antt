-- The premises of the laws hold together: each law, put to a workflow of two pods side by side.
use Rattle.std.proofs.Common.{◌≡◌, [], ◌∷◌, ◌++◌, Some, refl, inl, codes, lit≤}
use Rattle.tree_types.specs.declared.path.Path.{Path}
use Rattle.tree_types.specs.declared.path.LockId.{LockId}
use Rattle.tree_types.specs.declared.path.Sel.TheVariants.{Main, Group, Step}
use Rattle.tree_types.specs.declared.fact.Fact.{Fact}
use Rattle.tree_types.specs.declared.fact.Fact.TheVariants.{Started, Granted}
use Rattle.tree_types.specs.declared.want.Want.TheVariants as want
use Rattle.wf_manifest.specs.declared.templates.Body.TheVariants as body
use Rattle.wf_manifest.specs.declared.manifest.Manifest.{Manifest}
use Rattle.meaning.specs.Answers.{path, Facts}
use Rattle.meaning.proofs.Samples.{template, workflow_of, workflow, call_with, call, mutex, succeeded, settled}
use Rattle.pod_laws.specs.NewPods.{pods, NoneNew, OneNew, KeepsFront, IsAnswer, KeepsNames}
use Rattle.pod_laws.specs.NewLocks.{locks}
use Rattle.pod_laws.proofs.Asked.{none_new_by_count, one_new_by_count}
use Rattle.pod_laws.proofs.Locks.{none_new_locks_by_count}
use Rattle.pod_laws.proofs.Names.{names_are_kept}
use Rattle.pod_laws.proofs.Ordered.{front_is_kept}

abbrev at_x : Path
at_x = path (Main ∷ Group 0 ∷ Step 0 ∷ [])

abbrev at_y : Path
at_y = path (Main ∷ Group 0 ∷ Step 1 ∷ [])

abbrev two : Manifest
two = workflow (codes "b") (body.Steps ((call (codes "x") ∷ call (codes "y") ∷ []) ∷ []))

abbrev J : Facts
J = Started ∷ []

-- the first of the two ends
abbrev x_settled : Fact
x_settled = settled (Group 0 ∷ Step 0 ∷ []) succeeded

before_is : pods two J ≡ want.Pod at_x ∷ want.Pod at_y ∷ []
before_is = refl

after_is : pods two (J ++ x_settled ∷ []) ≡ want.Pod at_y ∷ []
after_is = refl

answers_x : IsAnswer two J x_settled
answers_x = inl refl

-- one pod is left of the two
y_is_left : NoneNew (pods two (J ++ x_settled ∷ [])) (pods two J)
y_is_left = none_new_by_count two J x_settled answers_x (lit≤ tt)

y_keeps_its_name : KeepsNames two J (J ++ x_settled ∷ [])
y_keeps_its_name = names_are_kept two J x_settled answers_x

y_stands_behind_none : KeepsFront (pods two (J ++ x_settled ∷ [])) (pods two J)
y_stands_behind_none = front_is_kept two J x_settled answers_x

-- a workflow of one pod, which is new where it starts
abbrev one : Manifest
one = workflow (codes "a") (body.Steps ((call (codes "x") ∷ []) ∷ []))

x_is_new : OneNew (pods one ([] ++ Started ∷ [])) (pods one [])
x_is_new = one_new_by_count one [] Started tt (lit≤ tt)

-- two pods side by side under one lock, which the first of them is granted
abbrev lock : LockId
lock = mutex (codes "l")

abbrev locked : Manifest
locked =
    workflow_of (codes "b")
    (template (codes "main") (body.Steps ((call_with (codes "x") (codes "k") [] ∷ call_with (codes "y") (codes "k") [] ∷ []) ∷ [])) ∷ record (template (codes "k") body.Pod) { lock = Some lock } ∷ [])

locks_before : locks locked J ≡ want.Lock at_x lock ∷ want.Lock at_y lock ∷ []
locks_before = refl

locks_after : locks locked (J ++ Granted at_x ∷ []) ≡ want.Lock at_y lock ∷ []
locks_after = refl

y_waits_on : NoneNew (locks locked (J ++ Granted at_x ∷ [])) (locks locked J)
y_waits_on = none_new_locks_by_count locked J (Granted at_x) tt (lit≤ tt)
