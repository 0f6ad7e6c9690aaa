-- What calls that are read keep of `Valid`: their lists are within their limits.
use Rattle.std.proofs.Common.{ℕ, true, List, [], ◌∷◌, length, map, Option, Some, None, refl, sym, subst, ◌∙◌}
use Rattle.std.specs.Prelude.{All, is_some, IsTrue, IfSome, ◌&&◌, codes, nat_le}
use Rattle.std.specs.List.{AllByRecursion, list_all, flat_map}
use Rattle.std.proofs.lemmas.Bool.{and_from, le-leb}
use Rattle.std.proofs.lemmas.List.{length-map}
use Rattle.std.proofs.lemmas.List.Folds.{list_all-append}
use Rattle.std.proofs.lemmas.List.Elements.{All-head, All-tail, All-nil, All-append, All-from_recursion}
use Rattle.base_types.specs.Limits.{most_members}
use Rattle.wf_manifest.specs.declared.calls.Argument.{Argument}
use Rattle.wf_manifest.specs.declared.calls.Hook.{Hook}
use Rattle.wf_manifest.specs.declared.calls.Call.{Call}
use Rattle.wf_manifest.specs.declared.calls.Task.{Task}
use Rattle.wf_manifest.specs.declared.calls.Dag.{Dag}
use Rattle.wf_manifest.specs.Valid.{argument_names, hook_lists, call_lists, calls_in, is_short}
use Rattle.field_kinds.specs.Reading.{Kind}
use Rattle.depends_expr.specs.Meaning.{depends_of}
use Rattle.json_fields.specs.Paths.{field_of}
use Rattle.field_kinds.specs.Kinds.{text, flag, of, object_of, list_of, all_of}
use Rattle.field_kinds.specs.Fields.{optional, required, default, written_text, written_of, refused_all, refused_but, unsupported_if}
use Rattle.field_kinds.proofs.Makes.{Makes, then_ok, ok_is, makes_object, makes_list, makes_list-length, makes_optional, makes_required, makes_default}
use Rattle.call_reader.specs.declared.hooks.Hooks.{Hooks}
use Rattle.call_reader.specs.declared.steps.CallHead.{CallHead}
use Rattle.call_reader.specs.declared.steps.CallTail.{CallTail}
use Rattle.call_reader.specs.Tags.{tags}
use Rattle.call_reader.specs.Words.{task_names}
use Rattle.call_reader.specs.Calls.{argument_fields, arguments_fields, arguments, hook_fields, hooks_fields, hook_of, has_exit_hook, exit_hook, loop_said, continue_fields, head_fields, tail_fields, call_of, step_fields, group, groups, task_fields, dag_fields}

-- ---- lists

-- a list within the limit, of which this holds of each member
abbrev pub ShortOf : {A : Type 0} → (A → Type 0) → List A → Type 0
ShortOf P xs = IsTrue (is_short xs) × AllByRecursion P xs

pub short_list : {A : Type 0} (kind : Kind A) (P : A → Type 0) → Makes kind P → Makes (list_of most_members kind) (ShortOf P)
short_list kind P makes at d xs e = (
  le-leb (length xs) most_members (makes_list-length most_members kind at d xs e),
  makes_list most_members kind P makes at d xs e,
)

-- and so are the names of its members
pub short_names : {A : Type 0} (name : A → List ℕ) (xs : List A) → IsTrue (is_short xs) → IsTrue (is_short (map name xs))
short_names name xs short = subst (λ n. IsTrue (nat_le n most_members)) (sym (length-map xs name)) short

-- ---- arguments

abbrev pub ArgumentsKept : List Argument → Type 0
ArgumentsKept given = IsTrue (is_short given)

abbrev Anything : {A : Type 0} → A → Type 0
Anything x = Unit {0}

pub anything : {A : Type 0} (kind : Kind A) → Makes kind Anything
anything kind at d x e = tt

arguments_fields_kept : Makes arguments_fields ArgumentsKept
unfolding arguments_fields
arguments_fields_kept at d given e =
    let a = then_ok (refused_all (codes "artifacts" ∷ []) at d) _ given e in
    (makes_default (list_of most_members (object_of argument_fields)) (ShortOf Anything) [] (codes "parameters") (refl, tt) (short_list (object_of argument_fields) Anything (anything (object_of argument_fields))) at d given a.2).0

pub arguments_kept : Makes arguments ArgumentsKept
arguments_kept =
    makes_default (object_of arguments_fields) ArgumentsKept [] (codes "arguments") refl (makes_object arguments_fields ArgumentsKept arguments_fields_kept)

-- ---- exit hooks

abbrev HookKept : Hook → Type 0
HookKept hook = ArgumentsKept hook.arguments

hook_kept : Makes hook_fields HookKept
unfolding hook_fields
hook_kept at d hook e =
    let a = then_ok (refused_all (codes "templateRef" ∷ codes "expression" ∷ []) at d) _ hook e in
    let b = then_ok (required text (codes "template") at d) _ hook a.2 in
    let c = then_ok (arguments at d) _ hook b.2 in
    subst HookKept (ok_is _ _ c.2) (arguments_kept at d c.0 c.1)

abbrev HooksKept : Hooks → Type 0
HooksKept hooks = IfSome hooks.exit HookKept

hooks_kept : Makes hooks_fields HooksKept
unfolding hooks_fields
hooks_kept at d hooks e =
    let a = then_ok (refused_but (codes "exit") at d) _ hooks e in
    let b = then_ok (optional (object_of hook_fields) (codes "exit") at d) _ hooks a.2 in
    subst HooksKept (ok_is _ _ b.2) (makes_optional (object_of hook_fields) HookKept (codes "exit") (makes_object hook_fields HookKept hook_kept) at d b.0 b.1)

abbrev ExitKept : Option Hook → Type 0
ExitKept exit = IfSome exit HookKept

hook_of_kept : (short : Option (List ℕ)) (hooks : Option Hooks) → IfSome hooks HooksKept → ExitKept (hook_of short hooks)
hook_of_kept (Some template) hooks kept = refl
hook_of_kept None (Some hooks) kept = kept
hook_of_kept None None kept = tt

exit_kept : Makes exit_hook ExitKept
unfolding exit_hook
exit_kept at d exit e =
    let a = then_ok (written_text (codes "onExit") at d) _ exit e in
    let b = then_ok (unsupported_if (is_some a.0 && has_exit_hook d) (field_of at (codes "onExit"))) _ exit a.2 in
    let c = then_ok (optional (object_of hooks_fields) (codes "hooks") at d) _ exit b.2 in
    subst ExitKept (ok_is _ _ c.2) (hook_of_kept a.0 c.0 (makes_optional (object_of hooks_fields) HooksKept (codes "hooks") (makes_object hooks_fields HooksKept hooks_kept) at d c.0 c.1))

-- ---- steps

abbrev HeadKept : CallHead → Type 0
HeadKept head = ArgumentsKept head.arguments

head_kept : Makes head_fields HeadKept
unfolding head_fields
head_kept at d head e =
    let a = then_ok (refused_all (codes "templateRef" ∷ codes "inline" ∷ []) at d) _ head e in
    let b = then_ok (required text (codes "name") at d) _ head a.2 in
    let c = then_ok (required text (codes "template") at d) _ head b.2 in
    let g = then_ok (arguments at d) _ head c.2 in
    subst HeadKept (ok_is _ _ g.2) (arguments_kept at d g.0 g.1)

abbrev TailKept : CallTail → Type 0
TailKept tail = ExitKept tail.exit

tail_kept : Makes tail_fields TailKept
unfolding tail_fields
tail_kept at d tail e =
    let a = then_ok (written_of tags (codes "when") at d) _ tail e in
    let b = then_ok (loop_said at d) _ tail a.2 in
    let c = then_ok (optional (object_of continue_fields) (codes "continueOn") at d) _ tail b.2 in
    let x = then_ok (exit_hook at d) _ tail c.2 in
    subst TailKept (ok_is _ _ x.2) (exit_kept at d x.0 x.1)

-- its lists of parameters
abbrev pub CallKept : Call → Type 0
CallKept c = IsTrue (list_all is_short (call_lists c))

hook_lists_kept : (exit : Option Hook) → ExitKept exit → IsTrue (list_all is_short (hook_lists exit))
hook_lists_kept None kept = refl
hook_lists_kept (Some hook) kept =
    and_from (is_short (argument_names hook.arguments)) true (short_names (λ (a : Argument). a.name) hook.arguments kept) refl

call_kept : (c : Call) → ArgumentsKept c.arguments → ExitKept c.exit → CallKept c
call_kept c given exit =
    and_from (is_short (argument_names c.arguments)) (list_all is_short (hook_lists c.exit)) (short_names (λ (a : Argument). a.name) c.arguments given) (hook_lists_kept c.exit exit)

step_kept : Makes step_fields CallKept
unfolding step_fields
step_kept at d c e =
    let a = then_ok (head_fields at d) _ c e in
    let b = then_ok (tail_fields at d) _ c a.2 in
    subst CallKept (ok_is _ _ b.2) (call_kept (call_of a.0 b.0) (head_kept at d a.0 a.1) (tail_kept at d b.0 b.1))

-- ---- groups of steps

abbrev GroupKept : List Call → Type 0
GroupKept cs = ShortOf CallKept cs

group_kept : Makes group GroupKept
group_kept = short_list (object_of step_fields) CallKept (makes_object step_fields CallKept step_kept)

pub calls_kept : (cs : List Call) → All CallKept cs → IsTrue (list_all is_short (flat_map call_lists cs))
calls_kept [] kept = refl
calls_kept (c ∷ cs) kept =
    list_all-append is_short (call_lists c) (flat_map call_lists cs) ∙ and_from (list_all is_short (call_lists c)) (list_all is_short (flat_map call_lists cs)) (All-head CallKept c cs kept) (calls_kept cs (All-tail CallKept c cs kept))

-- groups within their limits, and the lists of parameters of their steps
abbrev pub GroupsKept : List (List Call) → Type 0
GroupsKept gs =
    IsTrue (is_short gs && list_all is_short gs) × IsTrue (list_all is_short (flat_map call_lists (calls_in gs)))

each_short : (gs : List (List Call)) → AllByRecursion GroupKept gs → IsTrue (list_all is_short gs)
each_short [] kept = refl
each_short (cs ∷ gs) kept = and_from (is_short cs) (list_all is_short gs) kept.0.0 (each_short gs kept.1)

all_calls : (gs : List (List Call)) → AllByRecursion GroupKept gs → All CallKept (calls_in gs)
all_calls [] kept = All-nil CallKept
all_calls (cs ∷ gs) kept = All-append CallKept cs (calls_in gs) (All-from_recursion CallKept cs kept.0.1) (all_calls gs kept.1)

pub groups_kept : Makes groups GroupsKept
groups_kept at d gs e =
    let kept = short_list group GroupKept group_kept at d gs e in (
      and_from (is_short gs) (list_all is_short gs) kept.0 (each_short gs kept.1),
      calls_kept (calls_in gs) (all_calls gs kept.1),
    )

-- ---- DAGs

abbrev TaskKept : Task → Type 0
TaskKept t = CallKept t.call

task_kept : Makes task_fields TaskKept
unfolding task_fields
task_kept at d t e =
    let a = then_ok (head_fields at d) _ t e in
    let b = then_ok (optional (all_of text) (codes "dependencies") at d) _ t a.2 in
    let c = then_ok (written_of depends_of (codes "depends") at d) _ t b.2 in
    let f = then_ok (tail_fields at d) _ t c.2 in
    subst TaskKept (ok_is _ _ f.2) (call_kept (call_of a.0 f.0) (head_kept at d a.0 a.1) (tail_kept at d f.0 f.1))

-- tasks within their limit, and their lists of parameters
abbrev pub DagKept : Dag → Type 0
DagKept dag = IsTrue (is_short dag.tasks) × IsTrue (list_all is_short (flat_map call_lists (map (λ t. t.call) dag.tasks)))

tasks_kept : (ts : List Task) → AllByRecursion TaskKept ts → IsTrue (list_all is_short (flat_map call_lists (map (λ t. t.call) ts)))
tasks_kept [] kept = refl
tasks_kept (t ∷ ts) kept =
    let rest = flat_map call_lists (map (λ (t : Task). t.call) ts) in
    list_all-append is_short (call_lists t.call) rest ∙ and_from (list_all is_short (call_lists t.call)) (list_all is_short rest) kept.0 (tasks_kept ts kept.1)

pub dag_kept : Makes dag_fields DagKept
unfolding dag_fields
dag_kept at d dag e =
    let a = then_ok (default [] (of task_names text) (codes "target") at d) _ dag e in
    let b = then_ok (default true flag (codes "failFast") at d) _ dag a.2 in
    let c = then_ok (required (list_of most_members (object_of task_fields)) (codes "tasks") at d) _ dag b.2 in
    let kept = makes_required (list_of most_members (object_of task_fields)) (ShortOf TaskKept) (codes "tasks") (short_list (object_of task_fields) TaskKept (makes_object task_fields TaskKept task_kept)) at d c.0 c.1 in
    subst DagKept (ok_is _ _ c.2) (kept.0, tasks_kept c.0 kept.1)
