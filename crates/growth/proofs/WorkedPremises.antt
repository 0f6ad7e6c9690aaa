-- The premises of the laws of trees and journals hold together: each law, put to a worked journal.
use Rattle.std.proofs.Common.{◌≡◌, ◌≤◌, ◌<◌, refl, lit<}
use Rattle.std.proofs.Math.Logic.{inl}
use Rattle.std.proofs.lemmas.List.Elements.{All-nil, All-cons}
use Rattle.std.specs.Fmt.{digits}
use Rattle.std.specs.List.{All}
use Rattle.std.specs.Prelude.{ℕ, List, [], ◌∷◌, true, false, Some, None, length, codes, if◌then◌else◌, bytes_eq}
use Rattle.tree_types.specs.declared.path.Path.{Path}
use Rattle.tree_types.specs.declared.path.Sel.TheVariants.{Main, Task as task_sel}
use Rattle.tree_types.specs.declared.node.Node.{Node}
use Rattle.tree_types.specs.declared.fact.Fact.{Fact}
use Rattle.tree_types.specs.declared.fact.Fact.TheVariants.{Started, Memo, Due}
use Rattle.tree_types.specs.declared.want.Want.TheVariants as want
use Rattle.tree_types.specs.Journals.{knows, is_journal}
use Rattle.tag_text.specs.Parts.{parts_of}
use Rattle.wf_manifest.specs.declared.calls.Task.{Task}
use Rattle.wf_manifest.specs.declared.calls.Dag.{Dag}
use Rattle.wf_manifest.specs.declared.templates.Body.TheVariants as body
use Rattle.wf_manifest.specs.declared.templates.Template.{Template}
use Rattle.wf_manifest.specs.declared.manifest.Manifest.{Manifest}
use Rattle.wf_manifest.specs.Valid.{waits_for, HasRank, HasNoCircle, Valid}
use Rattle.meaning.specs.Answers.{path, answers}
use Rattle.meaning.specs.Lines.{no_outputs}
use Rattle.meaning.specs.Trees.{globals_of, root, lines, nodes_in, tree, Closes, closed, begins}
use Rattle.meaning.specs.Calls.{calls}
use Rattle.meaning.specs.Steps.{Caller}
use Rattle.meaning.specs.Dags.{Standings, standings}
use Rattle.meaning.proofs.Samples.{template, container, workflow_of, workflow, call, task, task_after, succeeded, failed, settled, begun}
use Rattle.growth.specs.Growth.{Among, Grown, SaysMore, IsFair, IsSave}
use Rattle.growth.specs.Nodes.{Unlike, NamesApart}
use Rattle.growth.specs.Rounds.{Solves}
use Rattle.growth.specs.Writes.{unwritten, written, IsSubmission, IsLawfulJournal, OneByOne, stay, asks, begins_first, none_yet, one_more, EndsWithin}
use Rattle.growth.proofs.Journals.{one_says_more, asked_is_new}
use Rattle.growth.proofs.GrowingTrees.{grows_by_answers, stays, asks_only_saves}
use Rattle.growth.proofs.GrowingJournals.{begun_is_first, grows, is_once, closes_once}
use Rattle.growth.proofs.BegunAreNodes.{begun_are_nodes, begun_stands}
use Rattle.growth.proofs.CloseEnds.{beginnings_add_nodes, close_ends}
use Rattle.growth.proofs.StayingJournals.{stays_in_journals}
use Rattle.growth.proofs.RoundsSettle.{rounds_settle}
use Rattle.growth.proofs.NamesApart.{valid_are_apart}
use Rattle.growth.proofs.OneName.{one_name}
use Rattle.growth.proofs.WorkedJournal.{doomed, facts, lawful}

-- ---- the journal of a DAG, of which two tasks begin with it

abbrev at_start : List Fact
at_start = Started ∷ []

abbrev both_begun : List Fact
both_begun = Started ∷ begun 0 ∷ begun 1 ∷ []

abbrev first_task : Path
first_task = path (Main ∷ task_sel 0 ∷ [])

abbrev second_task : Path
second_task = path (Main ∷ task_sel 1 ∷ [])

grown : Grown (tree doomed both_begun) (tree doomed facts)
grown = grows doomed both_begun (settled (task_sel 0 ∷ []) failed ∷ settled (task_sel 1 ∷ []) succeeded ∷ []) lawful

once : is_journal facts ≡ true
once = is_once doomed facts lawful

is_new : knows both_begun (settled (task_sel 0 ∷ []) failed) ≡ false
unfolding digits
is_new = asked_is_new doomed both_begun (settled (task_sel 0 ∷ []) failed) (inl refl)

stands : (n : Node) × Among n (tree doomed facts) × (n.path ≡ first_task)
stands = begun_stands doomed facts first_task lawful refl

-- ---- its beginnings

closes : Closes doomed at_start both_begun
unfolding digits
closes = begins refl (begins refl (closed refl))

one_closure : both_begun ≡ both_begun
one_closure = closes_once doomed at_start both_begun both_begun closes closes

no_submission : IsSubmission []
no_submission = record { carried = refl; once = refl }

starts : OneByOne doomed [] at_start
starts = asks Started refl stay

begin_one_by_one : OneByOne doomed [] both_begun
unfolding digits
begin_one_by_one =
    asks Started refl (begins_first first_task (second_task ∷ []) refl (begins_first second_task [] refl stay))

two_begun : 2 ≤ length (tree doomed both_begun)
two_begun = begun_are_nodes doomed [] both_begun no_submission begin_one_by_one

two_beginnings : 2 ≤ length (tree doomed both_begun)
unfolding digits
two_beginnings = beginnings_add_nodes doomed [] at_start both_begun 2 no_submission starts (one_more refl (one_more refl none_yet))

ends : EndsWithin doomed 10001 at_start
ends = close_ends doomed [] at_start no_submission starts

-- ---- answers that say more, one of them a beginning

more : SaysMore (answers at_start) (answers (Started ∷ begun 0 ∷ []))
more = one_says_more at_start (begun 0) (λ p x e. refl)

fair : IsFair doomed (answers at_start) (answers (Started ∷ begun 0 ∷ []))
unfolding digits
fair = begun_is_first doomed at_start first_task (second_task ∷ []) refl

grown_by_answers : Grown (nodes_in (lines doomed (answers at_start))) (nodes_in (lines doomed (answers (Started ∷ begun 0 ∷ []))))
grown_by_answers = grows_by_answers doomed (answers at_start) (answers (Started ∷ begun 0 ∷ [])) more fair

-- ---- a workflow that is over

abbrev pod : Manifest
pod = workflow_of (codes "p") (template (codes "main") body.Pod ∷ [])

abbrev ended : List Fact
ended = Started ∷ settled [] failed ∷ []

abbrev also_due : List Fact
also_due = Started ∷ settled [] failed ∷ Due (path (Main ∷ [])) ∷ []

says_more : SaysMore (answers ended) (answers also_due)
says_more = one_says_more ended (Due (path (Main ∷ []))) (λ p x e. refl)

begins_none : IsFair pod (answers ended) (answers also_due)
begins_none p n = absurd (let none : false ≡ true = n.0 in cc)

stays_over : lines pod (answers also_due) ≡ lines pod (answers ended)
unfolding digits
stays_over = stays pod (answers ended) (answers also_due) says_more begins_none refl

lawful_end : IsLawfulJournal pod ended
unfolding digits
lawful_end = record {
  submitted = [];
  submission = record { carried = refl; once = refl };
  writes = written Started refl (closed refl) (written (settled [] failed) (inl refl) (closed refl) unwritten);
}

-- a workflow that is over asks for nothing that a fact may answer, so nothing is written behind its end
stays_written : lines pod (answers ended) ≡ lines pod (answers ended)
unfolding digits
stays_written = stays_in_journals pod ended [] lawful_end refl

abbrev remembering : Manifest
remembering = workflow_of (codes "b") (record (template (codes "main") body.Pod) { memoize = Some (record { key = parts_of (codes "k"); max_age = None; cache = codes "mc" }) } ∷ [])

abbrev missed : List Fact
missed = Started ∷ Memo (path (Main ∷ [])) None ∷ settled [] succeeded ∷ []

asks_for_save : IsSave (want.Save (path (Main ∷ [])) (codes "mc") (codes "k") no_outputs)
unfolding digits
asks_for_save = asks_only_saves remembering (answers missed) (want.Save (path (Main ∷ [])) (codes "mc") (codes "k") no_outputs) refl (inl refl)

-- ---- the DAG is valid, so its names are apart

abbrev T1 : Task
T1 = task_after (codes "T1") []

abbrev V : Task
V = task_after (codes "V") []

abbrev U : Task
U = task_after (codes "U") (codes "V" ∷ [])

abbrev T2 : Task
T2 = task_after (codes "T2") (codes "U" ∷ [])

abbrev rank : List ℕ → ℕ
rank n = if bytes_eq n (codes "T2") then 2 else if bytes_eq n (codes "U") then 1 else 0

abbrev Lower : Task → List ℕ → Type 0
Lower t name = rank name < rank t.call.name

abbrev Higher : Task → Type 0
Higher t = All (Lower t) (waits_for t)

has_rank : HasRank (T1 ∷ V ∷ U ∷ T2 ∷ [])
has_rank = record {
  rank = rank;
  higher =
      All-cons Higher T1 (V ∷ U ∷ T2 ∷ []) (All-nil (Lower T1))
      (All-cons Higher V (U ∷ T2 ∷ []) (All-nil (Lower V))
      (All-cons Higher U (T2 ∷ []) (All-cons (Lower U) (codes "V") [] (lit< tt) (All-nil (Lower U)))
      (All-cons Higher T2 [] (All-cons (Lower T2) (codes "U") [] (lit< tt) (All-nil (Lower T2)))
      (All-nil Higher))));
}

abbrev NoCircle : Template → Type 0
NoCircle t = HasNoCircle t.body

abbrev dag_template : Template
dag_template = template (codes "main") (body.Dag (record { targets = []; fail_fast = true; tasks = T1 ∷ V ∷ U ∷ T2 ∷ [] }))

valid : Valid doomed
valid = record {
  templates_differ = refl;
  steps_differ = refl;
  step_names = refl;
  parameters_differ = refl;
  parameter_names = refl;
  calls = refl;
  entry = refl;
  short = refl;
  short_parameters = refl;
  retries = refl;
  values = refl;
  entry_values = refl;
  tasks = refl;
  one_spelling = refl;
  no_circle = All-cons NoCircle dag_template (container ∷ []) has_rank (All-cons NoCircle container [] tt (All-nil NoCircle));
}

apart : NamesApart doomed
apart = valid_are_apart doomed valid

names_differ : Unlike (λ n. n.name) (nodes_in (lines doomed (answers facts)))
names_differ = one_name doomed (answers facts) apart

-- ---- the equations of a DAG are solved

abbrev A_task : Task
A_task = task (call (codes "A"))

abbrev B_task : Task
B_task = task_after (codes "B") (codes "A" ∷ [])

abbrev two : Dag
two = record { targets = []; fail_fast = false; tasks = A_task ∷ B_task ∷ [] }

abbrev of_two : Manifest
of_two = workflow (codes "d") (body.Dag two)

abbrev A_ended : List Fact
A_ended = Started ∷ settled (task_sel 0 ∷ []) succeeded ∷ []

abbrev caller : Caller
caller = calls of_two (answers A_ended) (globals_of of_two) 31

abbrev solution : Standings
solution = standings (answers A_ended) caller (root of_two) (globals_of of_two) two

abbrev B_rank : List ℕ → ℕ
B_rank n = if bytes_eq n (codes "B") then 1 else 0

abbrev B_lower : Task → List ℕ → Type 0
B_lower t name = B_rank name < B_rank t.call.name

abbrev B_higher : Task → Type 0
B_higher t = All (B_lower t) (waits_for t)

two_have_rank : HasRank (A_task ∷ B_task ∷ [])
two_have_rank = record {
  rank = B_rank;
  higher =
      All-cons B_higher A_task (B_task ∷ []) (All-nil (B_lower A_task))
      (All-cons B_higher B_task [] (All-cons (B_lower B_task) (codes "A") [] (lit< tt) (All-nil (B_lower B_task)))
      (All-nil B_higher));
}

solves : Solves (answers A_ended) caller (root of_two) (globals_of of_two) two solution
unfolding digits
solves = refl

settles : solution ≡ standings (answers A_ended) caller (root of_two) (globals_of of_two) two
settles = rounds_settle (answers A_ended) caller (root of_two) (globals_of of_two) two solution two_have_rank solves
