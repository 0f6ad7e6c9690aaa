-- Why what is next is still justified, and why a fact that is next is new.
use Rattle.std.proofs.Common.{◌≡◌, ℕ, ◌≤◌, Bool, true, false, cond, nat_le, List, [], ◌∷◌, refl, sym, ◌∙◌, ap, subst, Option, Some, None, arith}
use Rattle.std.proofs.lemmas.Bool.Decides.{nat_tests}
use Rattle.tree_types.specs.declared.path.Path.{Path}
use Rattle.tree_types.specs.declared.fact.Fact.{Fact}
use Rattle.tree_types.specs.declared.fact.Fact.TheVariants as fact
use Rattle.tree_types.specs.declared.node.Node.{Node}
use Rattle.tree_types.specs.declared.outcome.Outcome.{Outcome}
use Rattle.tree_types.specs.declared.want.Want.TheVariants as want
use Rattle.tree_types.specs.declared.entry.Key.TheVariants as of_key
use Rattle.tree_types.specs.declared.entry.Entry.TheVariants.{Save}
use Rattle.tree_types.specs.Phases.{fulfilled}
use Rattle.meaning.specs.Answers.{Sels, Facts, path}
use Rattle.growth.specs.Growth.{Among}
use Rattle.growth.specs.Writes.{Asked}
use Rattle.growth.proofs.Journals.{asked_is_new}
use Rattle.history.specs.History.{map_content, number_of, Extends, version_at, IsVersionOf, Lawful}
use Rattle.history.proofs.Extends.{extends_later}
use Rattle.history.proofs.Carrying.{still_the_same}
use Rattle.saves.specs.declared.Saved.{Saved}
use Rattle.law.specs.Documents.{Text, PlannedOutcome, ended_by, Document}
use Rattle.law.specs.Contents.{Flow, PodObject, Book, OfWorkflow, OfPod, apply, Story, starts, flow_in, pod_in, pod_of, HasFlow}
use Rattle.law.specs.Justified.{tree_of, wants_of, IsOverIn, key, IsNamed, Justified, IsLawful}
use Rattle.law.specs.Due.{Matter, record_fact, create, name_at}
use Rattle.lawful.specs.Manifests.{HasValidWorkflows}
use Rattle.lawful.specs.Still.{FlowView, PodView, BookView, SavesView}
use Rattle.lawful.proofs.Facts.{some_same}
use Rattle.lawful.proofs.Moments.{pod_later}
use Rattle.lawful.proofs.DueIsJustified.{pods_by_name}
use Rattle.lawful.proofs.Still.{started_still, settled_still, granted_still, memo_still, armed_still, due_still, resumed_still, filed_still, released_still, saved_still, created_still, finished_still, resubmitted_still}
use Rattle.next_step.specs.Views.{Seen, Views, look_at, found_in}
use Rattle.next_step.specs.Changes.{change_of, number_seen, tick_seen, AddsFor, ViewsOf}
use Rattle.next_step.specs.Runner.{finish, not_due, due_at, by_plan, by_outcome, finish_change}
use Rattle.next_laws.specs.Acts.{ChangeStill, ActsStill, FinishesStill, ActIsNew}
use Rattle.next_laws.proofs.Reasons.{NodeAt, node_at, IsPast, own_past, node_past, Reason, by_start, by_end, by_grant, by_wait, by_look, by_arming, by_timer, by_command, by_absence, by_save, by_past, by_over, reason}

-- ---- a fact that is next

asked_by : (D : Document) (w : Text) (v : Views) (s : Seen Flow) (m : Matter) → Reason D w v s m → (x : Fact) → m ≡ record_fact x → Asked s.content.manifest s.content.journal x
asked_by D w v s m r x e = by m r x e
  where
    same : (x y : Fact) → record_fact x ≡ record_fact y → x ≡ y
    same x y e = cc

    by : (m : Matter) → Reason D w v s m → (x : Fact) → m ≡ record_fact x → Asked s.content.manifest s.content.journal x
    by m (by_start k) x e = subst (Asked s.content.manifest s.content.journal) (same fact.Started x e) k
    by m (by_end p o r) x e = subst (Asked s.content.manifest s.content.journal) (same (fact.Settled p o) x e) r.asks
    by m (by_grant p l r i h) x e = subst (Asked s.content.manifest s.content.journal) (same (fact.Granted p) x e) (l, i)
    by m (by_look p c k g t r) x e = subst (Asked s.content.manifest s.content.journal) (same _ x e) (c, k, g, r.asks)
    by m (by_arming p i) x e = subst (Asked s.content.manifest s.content.journal) (same (fact.Armed p s.tick) x e) i
    by m (by_timer p t i h) x e = subst (Asked s.content.manifest s.content.journal) (same (fact.Due p) x e) (t, i)
    by m (by_command n t c r) x e = subst (Asked s.content.manifest s.content.journal) (same (fact.Resumed n.path) x e) (n, r.place, (refl, r.is_suspend, r.runs))
    by m (by_wait p l n r) x e = absurd cc
    by m (by_absence p n r) x e = absurd cc
    by m (by_save p c k o t r u) x e = absurd cc
    by m (by_past p r q h) x e = absurd cc
    by m (by_over c r) x e = absurd cc

pub act_is_new : ActIsNew
act_is_new D w v s x viewed e =
    let a = asked_by D w v s (record_fact x) (reason D w v s (record_fact x) viewed e) x refl in
    (a, asked_is_new s.content.manifest s.content.journal x a)

-- ---- what a worker does next

module _ (D : Document) (seen : Story) (w : Text) (v : Views) (s : Seen Flow) (facts : Facts) (valid : HasValidWorkflows D) (start : seen.start ≡ starts D) (views : ViewsOf seen w v) (viewed : v.flow ≡ Some s) where
  abbrev view : FlowView seen w
  view = let a = views.flow s viewed in record { number = s.number; flow = s.content; tick = s.tick; shown = record { before = views.moment; extends = views.extends; stood = a.stood; clock = a.clock } }

  abbrev book_view : (b : Seen Book) → v.book ≡ Some b → BookView seen
  book_view b t = record { number = b.number; book = b.content; tick = b.tick; shown = views.book b t }

  abbrev saves_view : (c : Seen (List Saved)) → v.saves ≡ Some c → SavesView seen
  saves_view c t = let a = views.saves c t in record { number = c.number; saves = c.content; tick = c.tick; shown = record { before = a.then; extends = a.extends; stood = a.shown.stood; clock = a.shown.clock } }

  abbrev pod_view : (name : Text) (x : Seen PodObject) → found_in (look_at v name) ≡ Some x → PodView seen w name
  pod_view name x t = record { number = x.number; pod = x.content; tick = x.tick; shown = views.pods name x t }

  abbrev Fine : Matter → Type 0
  Fine x = AddsFor s facts x → ChangeStill D seen (change_of w v s facts x)

  -- where the workflow is unmoved, the pod of a node's name is the node's
  pod_path : (h : Story) → Extends h seen → IsLawful D h → number_of (version_at apply h (of_key.Workflow w)) ≡ s.number → (p : Path) (name : Text) (x : Seen PodObject) → IsVersionOf apply seen (of_key.Pod w name) x.number (OfPod x.content) x.tick → NodeAt s.content p name → x.content.path ≡ p
  pod_path h b l n p name x is k =
      let stands : HasFlow h w s.content = ap (λ o. flow_in (map_content o)) (still_the_same apply h seen (of_key.Workflow w) s.number (OfWorkflow s.content) s.tick b view.shown n) in
      let then : pod_of is.before w name ≡ Some x.content = ap (λ o. pod_in (map_content o)) is.stood in
      let on = pod_later D h is.before w name x.content (extends_later h seen is.before b is.extends) l then in
      let now : pod_of h w k.node.name ≡ Some on.now = ap (pod_of h w) k.named ∙ on.stands in
      sym on.path ∙ pods_by_name D h w s.content k.node on.now valid l stands k.place now ∙ k.path

  lawful_at : (h : Story) → Extends h seen → Lawful (Justified D) h → IsLawful D h
  lawful_at h b l = record { start = b.same_start ∙ start; each = l }

  named_in : (p : Sels) (name : Text) → name_at s.content p ≡ Some name → IsNamed s.content p name
  named_in [] name e = sym (some_same s.content.manifest.name name e)
  named_in (t ∷ p) name e = let k = node_at s.content (path (t ∷ p)) name e in (k.node, k.place, ap (λ (q : Path). q.sels) k.path, k.named)

  over_at : (n : Node) → Among n (tree_of s.content) → fulfilled n.phase ≡ true → (p : Sels) → n.path.sels ≡ p → (p ≡ [] → ⊥) → IsOverIn s.content.manifest s.content.journal p
  over_at n i e [] q below = absurd (below refl)
  over_at n i e (t ∷ p) q below = (n, i, q, e)

  past : (p : Path) → IsPast D w v s p → IsOverIn s.content.manifest s.content.journal p.sels
  past p (own_past over) = over
  past p (node_past n i over below) = over_at n i over n.path.sels refl below

  absent : (p : Path) (name : Text) → NodeAt s.content p name → Among (want.Pod p) (wants_of s.content) → Fine (create p name)
  absent p name k i =
      subst (λ q. Fine (create q name)) k.path (subst (λ m. Fine (create k.node.path m)) k.named
      (λ adds. created_still D seen w view k.node k.place (subst (λ q. Among (want.Pod q) (wants_of s.content)) (sym k.path) i)))

  fine : (x : Matter) → Reason D w v s x → Fine x
  fine x (by_start k) = λ adds. started_still D seen w view facts adds
  fine x (by_end p o r) = λ adds h b l n.
      let is = views.pods r.name r.pod r.seen in
      let same = pod_path h b (lawful_at h b l) n p r.name r.pod is (node_at s.content p r.name r.named) in
      settled_still D seen w view r.name (pod_view r.name r.pod r.seen) o facts r.outcome
      (subst (λ q. Among (want.Pod q) (wants_of s.content)) (sym same) r.asks)
      (subst (λ q. AddsFor s facts (record_fact (fact.Settled q o))) (sym same) adds) h b l n
  fine x (by_grant p l r i k) = λ adds. granted_still D seen w view (book_view k.book k.seen) p l r facts k.stands k.holding i adds
  fine x (by_look p cache entry age c r) = λ adds. memo_still D seen w view (saves_view c r.seen) p cache entry age facts (views.saves c r.seen).since r.asks adds
  fine x (by_arming p i) = λ adds. armed_still D seen w view p facts i adds
  fine x (by_timer p t i reached) = λ adds. due_still D seen w view p t facts i reached adds
  fine x (by_command n armed c r) = λ adds. resumed_still D seen w view n.path n armed c facts r.place (refl, r.is_suspend, r.runs) r.armed_then r.given r.of_this r.after r.reached adds
  fine x (by_wait p l name r) = λ adds h b lh n.
      filed_still D seen w view (book_view r.book r.seen) p l name r.unknown r.asks (named_in p.sels name r.named) h b lh (n ∙ ap number_seen r.seen)
  fine x (by_past p r over k) = λ adds h b l n.
      released_still D seen w view (book_view k.book k.seen) p r k.stands k.holding (past p over) h b l (n ∙ ap number_seen k.seen)
  fine x (by_absence p name r) = absent p name (node_at s.content p name r.named) r.asks
  fine x (by_save p cache entry o c r new) = λ adds h b l n.
      subst (λ t. Justified D h record { entry = Save cache entry (key w p) o t; made = None }) (sym (ap tick_seen r.seen))
      (saved_still D seen w view (saves_view c r.seen) p cache entry o start (views.saves c r.seen).since new r.asks h b l (n ∙ ap number_seen r.seen))
  fine x (by_over c r) = λ adds. resubmitted_still D seen w view c r.given r.of_this r.reached r.over

pub acts_still : ActsStill
acts_still D seen w v s facts x valid start views viewed e adds =
    fine D seen w v s facts valid start views viewed x (reason D w v s x viewed e) adds

-- ---- what a runner does next

module _ (D : Document) (seen : Story) (w name : Text) (x : Seen PodObject) (is : IsVersionOf apply seen (of_key.Pod w name) x.number (OfPod x.content) x.tick) where
  abbrev view_of : PodView seen w name
  view_of = record { number = x.number; pod = x.content; tick = x.tick; shown = is }

  at_most : (a b : ℕ) → nat_le a b ≡ true → a ≤ b
  at_most a b h = grind (arith, nat_tests)

  due_still_by : (o : Outcome) → x.content.outcome ≡ None → (p : PlannedOutcome) → D.planned w name ≡ Some p → (b : Bool) → nat_le (due_at x p) x.tick ≡ b → cond b (finish (ended_by p x.content.begin x.tick)) (not_due (due_at x p)) ≡ finish o → ChangeStill D seen (finish_change w name x o)
  due_still_by o u p q true t e =
      let same : ended_by p x.content.begin x.tick ≡ o = cc in
      subst (λ y. ChangeStill D seen (finish_change w name x y)) same (finished_still D seen w name view_of p u q (at_most (due_at x p) x.tick t))
  due_still_by o u p q false t e = absurd cc

  planned_still : (o : Outcome) → x.content.outcome ≡ None → (p : Option PlannedOutcome) → D.planned w name ≡ p → by_plan x p ≡ finish o → ChangeStill D seen (finish_change w name x o)
  planned_still o u None q e = absurd cc
  planned_still o u (Some p) q e = due_still_by o u p q (nat_le (due_at x p) x.tick) refl e

  finish_by : (o : Outcome) (y : Option Outcome) → x.content.outcome ≡ y → by_outcome D w name x y ≡ finish o → ChangeStill D seen (finish_change w name x o)
  finish_by o None u e = planned_still o u (D.planned w name) refl e
  finish_by o (Some y) u e = absurd cc

pub finishes_still : FinishesStill
finishes_still D seen w name x o is e = finish_by D seen w name x is o x.content.outcome refl e
