-- The premises of the laws of what a tree asks for hold together: each law, put to a worked workflow.
use Rattle.std.proofs.Common.{◌≡◌, refl, sym, subst}
use Rattle.std.proofs.Math.Logic.{inl, inr}
use Rattle.std.specs.Fmt.{digits}
use Rattle.std.specs.Prelude.{ℕ, List, [], ◌∷◌, true, false, Option, Some, None, codes}
use Rattle.tree_types.specs.declared.path.Path.{Path}
use Rattle.tree_types.specs.declared.path.LockId.{LockId}
use Rattle.tree_types.specs.declared.path.Sel.TheVariants.{Main, Group, Step, Attempt}
use Rattle.tree_types.specs.declared.phase.Phase.TheVariants as phase
use Rattle.tree_types.specs.declared.node.Kind.TheVariants as kind
use Rattle.tree_types.specs.declared.node.Note.TheVariants as note
use Rattle.tree_types.specs.declared.node.Node.{Node}
use Rattle.tree_types.specs.declared.fact.Fact.{Fact}
use Rattle.tree_types.specs.declared.fact.Fact.TheVariants.{Started, Granted, Memo, Armed}
use Rattle.tree_types.specs.declared.want.Want.{Want}
use Rattle.tree_types.specs.declared.want.Want.TheVariants as want
use Rattle.tag_text.specs.declared.part.Part.{Part}
use Rattle.tag_text.specs.Parts.{parts_of}
use Rattle.wf_manifest.specs.declared.templates.Body.TheVariants as body
use Rattle.wf_manifest.specs.declared.templates.Memoize.{Memoize}
use Rattle.wf_manifest.specs.declared.templates.Policy.TheVariants.{OnFailure}
use Rattle.wf_manifest.specs.declared.templates.Template.{Template}
use Rattle.wf_manifest.specs.declared.manifest.Manifest.{Manifest}
use Rattle.meaning.specs.Answers.{path, answers, first_of, settled_in, carried_in, outcome_at}
use Rattle.meaning.specs.Lines.{no_outputs}
use Rattle.meaning.specs.Trees.{lines, wants_in, tree, wants, closed}
use Rattle.meaning.proofs.Samples.{template, container, workflow_of, call, call_with, mutex, succeeded, failed, settled}
use Rattle.growth.specs.Growth.{Among, SaysMore, IsFair, KeepsTicks, Unanswered, IsOver}
use Rattle.growth.specs.Writes.{unwritten, written, IsSubmission, IsLawfulJournal}
use Rattle.growth.proofs.Journals.{one_says_more}
use Rattle.askings.specs.Owners.{waiting_at, AsksFor}
use Rattle.askings.specs.ByTemplate.{AttemptRuns, AsksTimer, AsksNext, AsksSave}
use Rattle.askings.specs.Locks.{IsOverAt}
use Rattle.askings.specs.Ends.{HasSucceeded}
use Rattle.askings.proofs.AsksOn.{on_by_answers, asks_on, saves_on}
use Rattle.askings.proofs.HasNode.{has_node, asks_granted, pods_are_new}
use Rattle.askings.proofs.Later.{keeps_names, over_all, stays_over}
use Rattle.askings.proofs.OverAsksNot.{over_asks_not}
use Rattle.askings.proofs.OverIsAll.{nodes_over}
use Rattle.askings.proofs.PodsSucceed.{pods_succeed}
use Rattle.askings.proofs.TemplatesAsk.{templates_ask}
use Rattle.askings.proofs.WaitsAsk.{waits_ask}

-- ---- two steps side by side, the first of which misses its cache and Succeeds, and then the second

abbrev memo : Memoize
memo = record { key = parts_of (codes "k"); max_age = None; cache = codes "mc" }

abbrev memoized : Template
memoized = record (template (codes "k") body.Pod) { memoize = Some memo }

abbrev m : Manifest
m = workflow_of (codes "b") (template (codes "main") (body.Steps ((call_with (codes "x") (codes "k") [] ∷ call (codes "y") ∷ []) ∷ [])) ∷ container ∷ memoized ∷ [])

abbrev at_x : Path
at_x = path (Main ∷ Group 0 ∷ Step 0 ∷ [])

abbrev at_y : Path
at_y = path (Main ∷ Group 0 ∷ Step 1 ∷ [])

abbrev missed : List Fact
missed = Started ∷ Memo at_x None ∷ []

abbrev x_settled : Fact
x_settled = settled (Group 0 ∷ Step 0 ∷ []) succeeded

abbrev y_settled : Fact
y_settled = settled (Group 0 ∷ Step 1 ∷ []) succeeded

abbrev x_ended : List Fact
x_ended = Started ∷ Memo at_x None ∷ x_settled ∷ []

abbrev both_ended : List Fact
both_ended = Started ∷ Memo at_x None ∷ x_settled ∷ y_settled ∷ []

abbrev x_node : Node
x_node = record { path = at_x; name = codes "b[0].x"; kind = kind.Pod; phase = phase.Succeeded; note = note.None; outputs = no_outputs; depth = 3 }

abbrev y_node : Node
y_node = record { path = at_y; name = codes "b[0].y"; kind = kind.Pod; phase = phase.Running; note = note.None; outputs = no_outputs; depth = 3 }

abbrev save : Want
save = want.Save at_x (codes "mc") (codes "k") no_outputs

nothing_carried : IsSubmission []
nothing_carried = record { carried = refl; once = refl }

lawful : IsLawfulJournal m both_ended
unfolding digits
lawful = record {
  submitted = [];
  submission = nothing_carried;
  writes =
      written Started refl (closed refl)
      (written (Memo at_x None) (codes "mc", codes "k", None, inl refl) (closed refl)
      (written x_settled (inl refl) (closed refl) (written y_settled (inr (inl refl)) (closed refl) unwritten)));
}

lawful_so_far : IsLawfulJournal m x_ended
unfolding digits
lawful_so_far = record {
  submitted = [];
  submission = nothing_carried;
  writes =
      written Started refl (closed refl)
      (written (Memo at_x None) (codes "mc", codes "k", None, inl refl) (closed refl)
      (written x_settled (inl refl) (closed refl) unwritten));
}

-- the second step's pod is asked for until it has an outcome, the first one's save for good

still_asked : Among (want.Pod at_y) (wants m x_ended)
unfolding digits
still_asked = asks_on m missed (x_settled ∷ []) (want.Pod at_y) lawful_so_far (inr (inl refl)) refl

save_asked : Among save (wants m both_ended)
unfolding digits
save_asked = saves_on m x_ended (y_settled ∷ []) save lawful tt (inl refl)

-- by answers

more : SaysMore (answers missed) (answers x_ended)
more = one_says_more missed x_settled (λ p x e. absurd (let none : None ≡ Some x = e in cc))

ticks : KeepsTicks (answers missed) (answers x_ended)
ticks p tick e = absurd (let none : None ≡ Some tick = e in cc)

begins_none : IsFair m (answers missed) (answers x_ended)
begins_none p n = absurd (let none : false ≡ true = n.0 in cc)

unanswered : Unanswered (answers x_ended) (want.Pod at_y)
unanswered place e = subst (λ s. outcome_at x_ended s ≡ None) (sym e) refl

asked_by_answers : Among (want.Pod at_y) (wants_in (lines m (answers x_ended)))
unfolding digits
asked_by_answers = on_by_answers m (answers missed) (answers x_ended) (want.Pod at_y) more ticks begins_none (inr (inl refl)) unanswered

-- ---- who asks

owner : (n : Node) × Among n (tree m x_ended) × AsksFor m (answers x_ended) n (want.Pod at_y)
unfolding digits
owner = has_node m (answers x_ended) (want.Pod at_y) (inr (inl refl))

y_is_new : (first_of (settled_in at_y.sels) x_ended ≡ None) × (first_of (carried_in at_y.sels) x_ended ≡ None)
unfolding digits
y_is_new = pods_are_new m x_ended at_y (inr (inl refl))

y_is_heard : Among (want.Pod at_y) (wants m x_ended)
unfolding digits
y_is_heard = (waits_ask m (answers x_ended) y_node (inr (inr (inr (inl refl))))).pod refl refl

abbrev looking_node : Node
looking_node = record x_node { phase = phase.Pending; note = note.Looking (codes "mc") }

look_is_heard : (key : List ℕ) × (age : Option ℕ) × Among (want.LookUp at_x (codes "mc") key age) (wants m (Started ∷ []))
unfolding digits
look_is_heard = (waits_ask m (answers (Started ∷ [])) looking_node (inr (inr (inl refl)))).look (codes "mc") refl refl

asks_to_save : AsksSave m (answers x_ended) (wants m x_ended) x_node memo
unfolding digits
asks_to_save = (templates_ask m (answers x_ended) x_node (inr (inr (inl refl)))).save memo refl refl refl

-- ---- what stays, and what is over

same_name : codes "b[0].y" ≡ codes "b[0].y"
unfolding digits
same_name =
    keeps_names m x_ended (y_settled ∷ []) y_node (record y_node { phase = phase.Succeeded }) lawful
    (inr (inr (inr (inl refl)))) (inr (inr (inr (inl refl)))) refl

x_is_over : IsOverAt at_x.sels (tree m x_ended)
unfolding digits
x_is_over = (x_node, inr (inr (inl refl)), refl, refl)

x_stays_over : IsOverAt at_x.sels (tree m both_ended)
x_stays_over = stays_over m x_ended (y_settled ∷ []) at_x.sels lawful x_is_over

x_asks_no_pod : Among (want.Pod at_x) (wants m x_ended) → ⊥
x_asks_no_pod = over_asks_not m (answers x_ended) at_x at_x.sels x_is_over refl

x_has_succeeded : HasSucceeded (answers x_ended) x_node
unfolding digits
x_has_succeeded = pods_succeed m (answers x_ended) x_node (inr (inr (inl refl))) refl refl refl

is_over : IsOver m (answers both_ended)
unfolding digits
is_over = refl

each_is_over : IsOverAt [] (tree m both_ended)
each_is_over = nodes_over m (answers both_ended) is_over

over_again : IsOver m (answers both_ended)
over_again = over_all m (answers both_ended) each_is_over

-- ---- a pod under a mutex

abbrev main : Path
main = path (Main ∷ [])

abbrev lock : LockId
lock = mutex (codes "l")

abbrev locked : Manifest
locked = workflow_of (codes "w") (record (template (codes "main") body.Pod) { lock = Some lock } ∷ [])

abbrev waiting_node : Node
waiting_node = record { path = main; name = codes "w"; kind = kind.Pod; phase = phase.Pending; note = note.Waiting lock; outputs = no_outputs; depth = 1 }

lock_is_heard : (p : Path) × (main.sels ≡ waiting_at p.sels) × Among (want.Lock p lock) (wants locked (Started ∷ []))
unfolding digits
lock_is_heard = (waits_ask locked (answers (Started ∷ [])) waiting_node (inl refl)).lock lock refl refl

is_granted : (answers (Started ∷ Granted main ∷ [])).granted main.sels ≡ true
unfolding digits
is_granted = asks_granted locked (answers (Started ∷ Granted main ∷ [])) main main.sels lock (inl refl) refl refl

-- ---- a suspended node with a duration

abbrev duration : List Part
duration = parts_of (codes "20")

abbrev suspended : Manifest
suspended = workflow_of (codes "u") (template (codes "main") (body.Suspend (Some duration)) ∷ [])

abbrev suspended_node : Node
suspended_node = record { path = main; name = codes "u"; kind = kind.Suspend; phase = phase.Running; note = note.None; outputs = no_outputs; depth = 1 }

arming_is_heard : Among (want.Arming main) (wants suspended (Started ∷ []))
unfolding digits
arming_is_heard = (waits_ask suspended (answers (Started ∷ [])) suspended_node (inl refl)).arming refl refl refl

abbrev armed : List Fact
armed = Started ∷ Armed main 0 ∷ []

asks_for_timer : AsksTimer suspended (answers armed) (wants suspended armed) suspended_node duration 0
unfolding digits
asks_for_timer = (templates_ask suspended (answers armed) suspended_node (inl refl)).timer duration 0 refl refl refl refl

-- ---- a retry, between two attempts

abbrev retried : Manifest
retried =
    workflow_of (codes "r")
    (record (template (codes "main") body.Pod) {
      retry = Some (record { limit = None; policy = OnFailure; backoff = Some (record { duration = 10; factor = 1; max_duration = None }) });
    } ∷ [])

abbrev once_failed : List Fact
once_failed = Started ∷ settled (Attempt 0 ∷ []) failed ∷ []

abbrev retry_node : Node
retry_node = record { path = main; name = codes "r"; kind = kind.Retry; phase = phase.Running; note = note.None; outputs = no_outputs; depth = 1 }

none_runs : AttemptRuns (tree retried once_failed) retry_node → ⊥
unfolding digits
none_runs a = by a.1.stands
  where
    by : Among a.1.pod (tree retried once_failed) → ⊥
    by (inl i) =
        let below : Main ∷ [] ≡ Main ∷ Attempt a.0 ∷ [] = subst (λ (n : Node). n.path.sels ≡ Main ∷ Attempt a.0 ∷ []) (sym i) a.1.below in
        absurd cc
    by (inr (inl i)) =
        let runs : phase.Failed ≡ phase.Running = subst (λ (n : Node). n.phase ≡ phase.Running) (sym i) a.2 in
        absurd cc
    by (inr (inr i)) = i

asks_for_next : AsksNext retried (answers once_failed) (tree retried once_failed) (wants retried once_failed) retry_node
unfolding digits
asks_for_next = (templates_ask retried (answers once_failed) retry_node (inl refl)).next refl refl none_runs
