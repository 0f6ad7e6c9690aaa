-- A path has one name, and is over for good.
use Rattle.std.proofs.Common.{◌≡◌, refl, sym, ◌∙◌, ap, subst}
use Rattle.std.proofs.Math.Logic.{inl}
use Rattle.std.specs.Prelude.{ℕ, List, [], ◌∷◌, ◌++◌, Bool, true, false, cond, Option, Some, None}
use Rattle.tree_types.specs.declared.path.Path.{Path}
use Rattle.tree_types.specs.declared.path.LockId.{LockId}
use Rattle.tree_types.specs.declared.phase.Phase.{Phase}
use Rattle.tree_types.specs.declared.phase.Phase.TheVariants.{Running}
use Rattle.tree_types.specs.declared.node.Node.{Node}
use Rattle.tree_types.specs.declared.fact.Fact.{Fact}
use Rattle.tree_types.specs.declared.fact.Fact.TheVariants.{Started, Begun}
use Rattle.tree_types.specs.Phases.{fulfilled, is_succeeded}
use Rattle.tree_types.specs.Journals.{knows}
use Rattle.wf_manifest.specs.declared.manifest.Manifest.{Manifest}
use Rattle.meaning.specs.declared.lines.Place.{Place}
use Rattle.meaning.specs.declared.lines.Line.{Line}
use Rattle.meaning.specs.Answers.{Facts, Answers, answers}
use Rattle.meaning.specs.Trees.{exit_root, main_made, root, status_tags, exit_made, exit_if, exit_of, exit_lines, running_lines, lines_locked, lines_started, lines_by, lines, nodes_in, tree, begin_at, workflow_phase, ended_phase, running_phase, granted_phase, lock_granted, started_phase}
use Rattle.meaning.specs.Lines.{Made, lines_in}
use Rattle.growth.specs.Growth.{Among, SaysMore, IsFair, IsOver}
use Rattle.growth.specs.Writes.{OneByOne, stay, asks, begins_first}
use Rattle.growth.proofs.Lines.{one_of, Any, any_left, any_right, IsNode}
use Rattle.growth.proofs.Keeping.{not_both}
use Rattle.growth.proofs.OnePath.{paths, all_fit, one_path}
use Rattle.growth.proofs.SoundBodies.{Topped}
use Rattle.growth.proofs.SoundCalls.{main_topped, top_topped}
use Rattle.growth.proofs.GrowingTrees.{among_nodes, stays}
use Rattle.growth.proofs.Journals.{one_says_more, asked_says_more, asked_begins}
use Rattle.growth.proofs.GrowingJournals.{with_fact, begun_is_first, grows, lawful_steps}
use Rattle.askings.specs.Locks.{IsOverAt}
use Rattle.askings.specs.Later.{KeepsNames, StaysOver}
use Rattle.askings.proofs.OverAsksNot.{same_node}

pub keeps_names : KeepsNames
keeps_names m I K n o j i k e =
    let f = grows m I K j n i in
    let same : f.0 ≡ o = same_node (tree m (I ++ K)) (one_path m (answers (I ++ K))) f.0 o f.1 k (f.2.path ∙ e) in
    sym f.2.name ∙ ap (λ (x : Node). x.name) same

-- ---- a workflow each node of which is fulfilled is over

abbrev AllOver : List Line → Type 0
AllOver ls = (n : Node) → Any (IsNode n) ls → fulfilled n.phase ≡ true

-- what a template makes is finished, if its nodes are fulfilled
top_over : (A : Answers) (p : Place) (b : Made) → Topped paths A p b → AllOver (lines_in b) → (b.own.finished ≡ true) × (fulfilled b.own.node.phase ≡ true)
top_over A p b t h =
    let e : fulfilled b.own.node.phase ≡ true = h b.own.node (inl refl) in
    (t.over ∙ e, e)

if_true : (b : Bool) (x y : Phase) → b ≡ true → fulfilled x ≡ true → fulfilled (cond b x y) ≡ true
if_true true x y e f = f
if_true false x y e f = not_both false e refl

either_way : (b : Bool) (x y : Phase) → fulfilled x ≡ true → fulfilled y ≡ true → fulfilled (cond b x y) ≡ true
either_way true x y e f = e
either_way false x y e f = f

module _ (m : Manifest) (A : Answers) where
  abbrev b : Made
  b = main_made m A

  ended_over : (o : Option (List ℕ)) → b.own.finished ≡ true → fulfilled b.own.node.phase ≡ true → (t : Bool) → b.own.finished ≡ t → AllOver (exit_lines (exit_if t m A b o)) → fulfilled (ended_phase b (exit_if t m A b o)) ≡ true
  ended_over None f e true g h = e
  ended_over None f e false g h = e
  ended_over (Some n) f e false g h = e
  ended_over (Some n) f e true g h =
      let x : Made = exit_made m A b n in
      let two = top_over A (exit_root m) x (top_topped paths A m (all_fit m.templates) (status_tags m b) (exit_root m) n) h in
      if_true x.own.finished (workflow_phase b.own.node.phase (Some x.own.node.phase)) Running two.0 (either_way (is_succeeded b.own.node.phase) x.own.node.phase b.own.node.phase two.1 e)

  running_over : AllOver (running_lines m A b) → fulfilled (running_phase m A b) ≡ true
  running_over h =
      let ks = exit_lines (exit_of m A b) in
      let two = top_over A (root m) b (main_topped paths A m (all_fit m.templates)) (λ n i. h n (any_left (IsNode n) (lines_in b) ks i)) in
      if_true b.own.finished (ended_phase b (exit_of m A b)) Running two.0 (ended_over m.on_exit two.0 two.1 b.own.finished refl (λ n i. h n (any_right (IsNode n) (lines_in b) ks i)))

  locked_over : (l : LockId) (t : Bool) → AllOver (lines_locked m A l t) → fulfilled (granted_phase m A t) ≡ true
  locked_over l true h = running_over h
  locked_over l false h = h _ (inl refl)

  started_over : (o : Option LockId) → AllOver (lines_started m A o) → fulfilled (granted_phase m A (lock_granted A o)) ≡ true
  started_over None h = running_over h
  started_over (Some l) h = locked_over l (A.granted []) h

  by_over : (t : Bool) → AllOver (lines_by m A t) → fulfilled (started_phase m A t) ≡ true
  by_over true h = started_over m.lock h
  by_over false h = h _ (inl refl)

  pub over_all : ((n : Node) → Among n (nodes_in (lines m A)) → fulfilled n.phase ≡ true) → IsOver m A
  over_all h = by_over A.started (λ n i. h n (among_nodes n (lines m A) i))

-- ---- a path is over for good

abbrev AllNodesOver : Manifest → Facts → Type 0
AllNodesOver m J = IsOverAt [] (tree m J)

module _ (m : Manifest) where
  all_next : (J : Facts) (f : Fact) → SaysMore (answers J) (answers (with_fact J f)) → IsFair m (answers J) (answers (with_fact J f)) → AllNodesOver m J → AllNodesOver m (with_fact J f)
  all_next J f g h a = subst (λ (ls : List Line). IsOverAt [] (nodes_in ls)) (sym (stays m (answers J) (answers (with_fact J f)) g h (over_all m (answers J) a))) a

  all_on : (J K : Facts) → OneByOne m J K → AllNodesOver m J → AllNodesOver m K
  all_on J K stay a = a
  all_on J K (asks f h s) a = all_on (with_fact J f) K s (all_next J f (asked_says_more m J f h) (λ p n. absurd (asked_begins m J f h p n)) a)
  all_on J K (begins_first p ps e s) a = all_on (begin_at J p) K s (all_next J (Begun p) (one_says_more J (Begun p) (λ q x c. refl)) (begun_is_first m J p ps e) a)

  -- what is not started is not over
  unstarted_open : (I : Facts) → knows I Started ≡ false → AllNodesOver m I → ⊥
  unstarted_open I e a = absurd (cc ((subst (λ (t : Bool). IsOverAt [] (nodes_in (lines_by m (answers I) t))) e a) _ (inl refl)))

pub stays_over : StaysOver
stays_over m I K [] j a = one_of (λ e. absurd (unstarted_open m I e a)) (λ s. all_on m I (I ++ K) s a) (lawful_steps m I K j)
stays_over m I K (s ∷ q) j a =
    let f = grows m I K j a.0 a.1 in
    (f.0, f.1, ap (λ (x : Path). x.sels) f.2.path ∙ a.2, ap (λ (n : Node). fulfilled n.phase) (f.2.unchanged a.3) ∙ a.3)
