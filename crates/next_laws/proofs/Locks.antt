-- A manifest of which a path asks for a lock has a lock.
use Rattle.std.proofs.Common.{◌≡◌, ℕ, Bool, true, false, ◌||◌, List, [], ◌∷◌, fold, slice_get, bytes_eq, refl, ap, Option, Some, None, is_some, inl, inr, ◌∙◌}
use Rattle.std.specs.List.{list_any}
use Rattle.tree_types.specs.declared.path.Sel.{Sel}
use Rattle.tree_types.specs.declared.path.Sel.TheVariants.{Main, Exit, Group, Step, Task, Item, Attempt}
use Rattle.tree_types.specs.declared.path.Path.{Path}
use Rattle.tree_types.specs.declared.path.LockId.{LockId}
use Rattle.tree_types.specs.declared.want.Want.TheVariants as want
use Rattle.wf_manifest.specs.declared.calls.Loop.{Loop}
use Rattle.wf_manifest.specs.declared.calls.Hook.{Hook}
use Rattle.wf_manifest.specs.declared.calls.Call.{Call}
use Rattle.wf_manifest.specs.declared.templates.Body.{Body}
use Rattle.wf_manifest.specs.declared.templates.Body.TheVariants as body
use Rattle.wf_manifest.specs.declared.templates.Template.{Template}
use Rattle.wf_manifest.specs.declared.manifest.Manifest.{Manifest}
use Rattle.meaning.specs.Answers.{Sels, Facts, answers}
use Rattle.meaning.specs.Guards.{Spot, nowhere, of_template, of_group, of_loop, template_spot, spot_named, called_spot, call_spot, group_spot, call_of_task, inside_body, inside_template, inside, handler_spot, spot, lock_of_spot, lock_at}
use Rattle.meaning.specs.Calls.{template_named}
use Rattle.meaning.specs.Trees.{wants}
use Rattle.growth.specs.Growth.{Among}
use Rattle.askings.proofs.HasNode.{has_node}
use Rattle.lawful.proofs.Facts.{none_some}
use Rattle.lawful.proofs.DueIsJustified.{found}
use Rattle.next_step.specs.Next.{has_locks}

module _ (m : Manifest) where
  -- a template at the spot is one of the manifest's
  abbrev Own : Spot → Type 0
  Own (of_template t hook) = Among t m.templates
  Own _ = Unit {0}

  named_own : (name : List ℕ) (hook : Option Hook) → Own (spot_named m name hook)
  named_own name hook = by (template_named m name) refl
    where
      by : (o : Option Template) → template_named m name ≡ o → Own (template_spot hook o)
      by None e = tt
      by (Some t) e = (found (λ (t : Template). bytes_eq t.name name) m.templates t e).0

  called_own : (c : Call) (each : Option Loop) → Own (called_spot m c each)
  called_own c None = named_own c.template c.exit
  called_own c (Some l) = tt

  call_own : (o : Option Call) → Own (call_spot m o)
  call_own None = tt
  call_own (Some c) = called_own c c.each

  group_own : (o : Option (List Call)) → Own (group_spot o)
  group_own None = tt
  group_own (Some cs) = tt

  body_own : (b : Body) (s : Sel) → Own (inside_body m b s)
  body_own (body.Steps gs) (Group i) = group_own (slice_get gs i)
  body_own (body.Dag d) (Task i) = call_own (call_of_task (slice_get d.tasks i))
  body_own _ _ = tt

  template_own : (t : Template) (hook : Option Hook) (s : Sel) → Own (inside_template m t hook s)
  template_own t (Some h) Exit = named_own h.template None
  template_own t (Some h) Main = body_own t.body Main
  template_own t (Some h) (Group i) = body_own t.body (Group i)
  template_own t (Some h) (Step i) = body_own t.body (Step i)
  template_own t (Some h) (Task i) = body_own t.body (Task i)
  template_own t (Some h) (Item i) = body_own t.body (Item i)
  template_own t (Some h) (Attempt i) = body_own t.body (Attempt i)
  template_own t None s = body_own t.body s

  group_inside : (cs : List Call) (s : Sel) → Own (inside m (of_group cs) s)
  group_inside cs (Step j) = call_own (slice_get cs j)
  group_inside cs Main = tt
  group_inside cs Exit = tt
  group_inside cs (Group i) = tt
  group_inside cs (Task i) = tt
  group_inside cs (Item i) = tt
  group_inside cs (Attempt i) = tt

  loop_inside : (c : Call) (s : Sel) → Own (inside m (of_loop c) s)
  loop_inside c (Item i) = named_own c.template c.exit
  loop_inside c Main = tt
  loop_inside c Exit = tt
  loop_inside c (Group i) = tt
  loop_inside c (Step i) = tt
  loop_inside c (Task i) = tt
  loop_inside c (Attempt i) = tt

  nowhere_inside : (s : Sel) → Own (inside m nowhere s)
  nowhere_inside Main = tt
  nowhere_inside Exit = tt
  nowhere_inside (Group i) = tt
  nowhere_inside (Step i) = tt
  nowhere_inside (Task i) = tt
  nowhere_inside (Item i) = tt
  nowhere_inside (Attempt i) = tt

  inside_own : (x : Spot) (s : Sel) → Own (inside m x s)
  inside_own (of_template t hook) s = template_own t hook s
  inside_own (of_group cs) s = group_inside cs s
  inside_own (of_loop c) s = loop_inside c s
  inside_own nowhere s = nowhere_inside s

  from_own : (x : Spot) (p : Sels) → Own x → Own (fold (inside m) x p)
  from_own x [] a = a
  from_own x (s ∷ p) a = from_own (inside m x s) p (inside_own x s)

  handler_own : (o : Option (List ℕ)) → Own (handler_spot m o)
  handler_own None = tt
  handler_own (Some name) = named_own name None

  spot_own : (p : Sels) → Own (spot m p)
  spot_own [] = tt
  spot_own (Main ∷ p) = from_own (spot_named m m.entrypoint None) p (named_own m.entrypoint None)
  spot_own (Exit ∷ p) = from_own (handler_spot m m.on_exit) p (handler_own m.on_exit)
  spot_own (Group i ∷ p) = tt
  spot_own (Step i ∷ p) = tt
  spot_own (Task i ∷ p) = tt
  spot_own (Item i ∷ p) = tt
  spot_own (Attempt i ∷ p) = tt

  is_there : (o : Option LockId) (l : LockId) → o ≡ Some l → is_some o ≡ true
  is_there None l e = none_some l e
  is_there (Some k) l e = refl

  any_lock : (ts : List Template) (t : Template) (l : LockId) → Among t ts → t.lock ≡ Some l → list_any (λ (u : Template). is_some u.lock) ts ≡ true
  any_lock [] t l i e = absurd i
  any_lock (u ∷ ts) t l (inl q) e = ap (λ b. b || list_any (λ (x : Template). is_some x.lock) ts) (is_there u.lock l (ap (λ (x : Template). x.lock) q ∙ e))
  any_lock (u ∷ ts) t l (inr i) e = or_right (is_some u.lock) (list_any (λ (x : Template). is_some x.lock) ts) (any_lock ts t l i e)
    where
      or_right : (a b : Bool) → b ≡ true → (a || b) ≡ true
      or_right true b e = refl
      or_right false b e = e

  spot_has : (x : Spot) (l : LockId) → Own x → lock_of_spot x ≡ Some l → has_locks m ≡ true
  spot_has (of_template t hook) l a e = or_right (is_some m.lock) (list_any (λ (u : Template). is_some u.lock) m.templates) (any_lock m.templates t l a e)
    where
      or_right : (a b : Bool) → b ≡ true → (a || b) ≡ true
      or_right true b e = refl
      or_right false b e = e
  spot_has nowhere l a e = none_some l e
  spot_has (of_group cs) l a e = none_some l e
  spot_has (of_loop c) l a e = none_some l e

  -- a path that carries a lock is of a manifest that has one
  carries_has : (p : Sels) (l : LockId) → lock_at m p ≡ Some l → has_locks m ≡ true
  carries_has [] l e = ap (λ b. b || list_any (λ (u : Template). is_some u.lock) m.templates) (is_there m.lock l e)
  carries_has (s ∷ p) l e = spot_has (spot m (s ∷ p)) l (spot_own (s ∷ p)) e

  pub asks_has : (J : Facts) (p : Path) (l : LockId) → Among (want.Lock p l) (wants m J) → has_locks m ≡ true
  asks_has J p l i = let n = has_node m (answers J) (want.Lock p l) i in carries_has p.sels l n.2.3
