-- The premises of the laws hold together: the first member of a group is settled, and the second one makes what it made.
use Rattle.std.proofs.Common.{◌≡◌, ℕ, zero, suc, List, [], ◌∷◌, Bool, true, false, not, Option, Some, None, length, take, refl, ap, subst, arith}
use Rattle.std.proofs.lemmas.List.Elements.{All-from_recursion}
use Rattle.std.proofs.lemmas.Bool.{ne_eqb}
use Rattle.std.specs.Prelude.{codes, bytes_eq, slice_get, All}
use Rattle.serde_json.specs.Data.{Data}
use Rattle.tree_types.specs.declared.path.Sel.{Sel}
use Rattle.tree_types.specs.declared.path.Sel.TheVariants.{Main, Exit, Group, Step, Item, Attempt, Task as task_sel}
use Rattle.tree_types.specs.declared.fact.Fact.{Fact}
use Rattle.tree_types.specs.declared.fact.Fact.TheVariants.{Started}
use Rattle.tag_text.specs.declared.part.Part.{Part}
use Rattle.wf_manifest.specs.declared.calls.Argument.{Argument}
use Rattle.wf_manifest.specs.declared.calls.Hook.{Hook}
use Rattle.wf_manifest.specs.declared.calls.Call.{Call}
use Rattle.wf_manifest.specs.declared.calls.Task.{Task}
use Rattle.wf_manifest.specs.declared.calls.Dag.{Dag}
use Rattle.wf_manifest.specs.declared.templates.OutputDecl.{OutputDecl}
use Rattle.wf_manifest.specs.declared.templates.Memoize.{Memoize}
use Rattle.wf_manifest.specs.declared.templates.Retry.{Retry}
use Rattle.wf_manifest.specs.declared.templates.Template.{Template}
use Rattle.wf_manifest.specs.declared.manifest.Manifest.{Manifest}
use Rattle.scopes.specs.Substitution.{Scope}
use Rattle.meaning.specs.declared.lines.Place.{Place}
use Rattle.meaning.specs.Answers.{Sels, Answers, answers}
use Rattle.meaning.specs.Lines.{Made}
use Rattle.meaning.specs.Pods.{pod_made, attempts_from}
use Rattle.meaning.specs.Suspends.{suspend_made}
use Rattle.meaning.specs.Steps.{Caller, member, members, groups_from}
use Rattle.meaning.specs.Dags.{parents, Look, look, begun_task, standing, standings, dag_made}
use Rattle.meaning.specs.Calls.{body_made, memo_made, template_made, call_of_template, hook_made, hooked, one_made, item_made, items_made, calls}
use Rattle.meaning.specs.Trees.{exit_root, top_call_within}
use Rattle.meaning.proofs.Samples.{call, task, task_after, succeeded, settled}
use Rattle.locality.specs.Paths.{IsOff}
use Rattle.locality.specs.Answered.{SameBelow, SameBut, FactIsOff}
use Rattle.locality.specs.Local.{SameCallers, SameChildren, AreKept}
use Rattle.locality.proofs.Paths.{off_other_child}
use Rattle.locality.proofs.Answered.{same_further, off_is_same, facts_are_local, journals_are_local}
use Rattle.locality.proofs.OffPath.{other_children, groups_in_front, attempts_in_front}
use Rattle.locality.proofs.Leaves.{pods_are_local, suspended_are_local, attempts_are_local, first_attempts_are_local}
use Rattle.locality.proofs.Rows.{members_are_local, groups_are_local, steps_are_local, first_groups_are_local}
use Rattle.locality.proofs.Dags.{begun_tasks_are_local, dags_are_local}
use Rattle.locality.proofs.Tasks.{tasks_are_local, kept_tasks_are_local}
use Rattle.locality.proofs.Calls.{bodies_are_local, memos_are_local, templates_are_local, calls_of_templates_are_local, hooks_are_local, hooked_are_local, single_calls_are_local, items_are_local, loops_are_local, calls_are_local, calls_off_stay, top_calls_are_local, top_calls_off_stay}

-- ---- the fact, and the answers before and behind it

abbrev ended : Fact
ended = settled (Group 0 ∷ Step 0 ∷ []) succeeded

abbrev first : Sels
first = Main ∷ Group 0 ∷ Step 0 ∷ []

abbrev old : Answers
old = answers (Started ∷ [])

abbrev new : Answers
new = answers (Started ∷ ended ∷ [])

same : SameBut new old first
same = facts_are_local (Started ∷ []) ended first refl

abbrev member_of : ℕ → Place
member_of i = record { sels = Main ∷ Group 0 ∷ Step i ∷ []; name = codes "w[0].m"; depth = 3 }

-- at the member that is settled the answers differ
differs : new.outcome (member_of 0) ≡ old.outcome (member_of 0) → ⊥
differs e = cc e

-- at and below the other one they do not
abbrev second : Place
second = member_of 1

off : IsOff first second.sels
off = refl

below : SameBelow new old second.sels
below = off_is_same new old first second.sels same off

-- nor below any child of the other one
children : (child : ℕ → Sel) (i n : ℕ) → SameChildren new old second child i n
children child i n = λ j l u. same_further new old second.sels (child j ∷ []) below

-- nor by both facts at once
both_off : All (FactIsOff second.sels) (Started ∷ ended ∷ [])
both_off = All-from_recursion (FactIsOff second.sels) (Started ∷ ended ∷ []) (tt, (refl, tt))

both_below : SameBelow new (answers []) second.sels
both_below = journals_are_local [] (Started ∷ ended ∷ []) second.sels both_off

-- the group of the two
abbrev first_group : Place
first_group = record { sels = Main ∷ Group 0 ∷ []; name = codes "w[0]"; depth = 2 }

-- the change is in group 0: groups 1 and 2 are the same
abbrev main : Place
main = record { sels = Main ∷ []; name = codes "w"; depth = 1 }

behind : SameChildren new old main Group 1 2
behind = other_children new old first same main Group 1 2 (Step 0 ∷ []) (Group 0) refl (λ j l u. ne_eqb 0 j (λ e. omega arith))

-- ---- nodes without calls

pod_same : (ds : List OutputDecl) → pod_made new second ds ≡ pod_made old second ds
pod_same ds = pods_are_local new old second ds below

suspended_same : (scope : Scope) (ds : List OutputDecl) (duration : Option (List Part)) → suspend_made new second scope ds duration ≡ suspend_made old second scope ds duration
suspended_same scope ds duration = suspended_are_local new old second scope ds duration below

attempts_same : (ds : List OutputDecl) (r : Retry) (n : ℕ) → attempts_from new second ds r n 0 None ≡ attempts_from old second ds r n 0 None
attempts_same ds r n = attempts_are_local new old second ds r n 0 None (children Attempt 0 (suc n))

-- the second attempt is settled: the first one is the same
abbrev second_try : Fact
second_try = settled (Attempt 1 ∷ []) succeeded

abbrev tried : Answers
tried = answers (Started ∷ second_try ∷ [])

tried_same : SameBut tried old (Main ∷ Attempt 1 ∷ [])
tried_same = facts_are_local (Started ∷ []) second_try (Main ∷ Attempt 1 ∷ []) refl

first_attempt_same : (ds : List OutputDecl) (r : Retry) (n : ℕ) → take 1 (attempts_from tried main ds r n 0 None).all ≡ take 1 (attempts_from old main ds r n 0 None).all
first_attempt_same ds r n = first_attempts_are_local tried old main ds r n 0 None 1 (attempts_in_front tried old (Main ∷ Attempt 1 ∷ []) tried_same main 0 1 1 [] refl (omega arith))

-- ---- calls

abbrev of_group : Fact
of_group = settled (Group 1 ∷ Step 0 ∷ []) succeeded

abbrev grouped : Answers
grouped = answers (Started ∷ of_group ∷ [])

grouped_same : SameBut grouped old (Main ∷ Group 1 ∷ Step 0 ∷ [])
grouped_same = facts_are_local (Started ∷ []) of_group (Main ∷ Group 1 ∷ Step 0 ∷ []) refl

module _ (m : Manifest) (g : Scope) (left : ℕ) where
  abbrev called : Caller
  called = calls m new g left

  abbrev other : Caller
  other = calls m old g left

  each : SameCallers new old (calls m new g left) (calls m old g left)
  each = calls_are_local m new old g left

  call_same : (prefix : List ℕ) (scope : Scope) (c : Call) → called prefix second scope c ≡ other prefix second scope c
  call_same prefix scope c = calls_off_stay m new old first g left prefix second scope c same off

  single_same : (prefix : List ℕ) (scope : Scope) (c : Call) → one_made m new g called prefix second scope c ≡ one_made m old g other prefix second scope c
  single_same prefix scope c = single_calls_are_local m new old g called other prefix second scope c each below

  hooked_same : (label : List ℕ) (scope : Scope) (h : Option Hook) (b : Made) → hooked m new g called label second scope h b ≡ hooked m old g other label second scope h b
  hooked_same label scope h b = hooked_are_local m new old g called other label second scope h b each (same_further new old second.sels (Exit ∷ []) below)

  hook_same : (label : List ℕ) (scope : Scope) (h : Hook) (b : Made) → hook_made m new g called label second scope h b ≡ hook_made m old g other label second scope h b
  hook_same label scope h b = hooks_are_local m new old g called other label second scope h b each (same_further new old second.sels (Exit ∷ []) below)

  called_same : (scope : Scope) (name : List ℕ) (given : List Argument) (label : List ℕ) (h : Option Hook)
      → call_of_template m new g called second scope name given (hooked m new g called label second scope h) ≡ call_of_template m old g other second scope name given (hooked m old g other label second scope h)
  called_same scope name given label h =
      calls_of_templates_are_local m new old g called other second scope name given (hooked m new g called label second scope h) (hooked m old g other label second scope h) each below (λ b. hooked_same label scope h b)

  item_same : (prefix : List ℕ) (scope : Scope) (c : Call) (i : ℕ) (d : Data) → item_made m new g called prefix second scope c i d ≡ item_made m old g other prefix second scope c i d
  item_same prefix scope c i d = items_are_local m new old g called other prefix second scope c i d each (same_further new old second.sels (Item i ∷ []) below)

  items_same : (prefix : List ℕ) (scope : Scope) (c : Call) (ds : List Data) → items_made m new g called prefix second scope c ds ≡ items_made m old g other prefix second scope c ds
  items_same prefix scope c ds = loops_are_local m new old g called other prefix second scope c ds each (children Item 0 (length ds))

  template_same : (scope : Scope) (t : Template) → template_made new called second scope t ≡ template_made old other second scope t
  template_same scope t = templates_are_local new old called other second scope t each below

  memo_same : (scope : Scope) (t : Template) (c : Option Memoize) → memo_made new called second scope t c ≡ memo_made old other second scope t c
  memo_same scope t c = memos_are_local new old called other second scope t c each below

  body_same : (scope : Scope) (t : Template) → body_made new called second scope t ≡ body_made old other second scope t
  body_same scope t = bodies_are_local new old called other second scope t each below

  member_same : (scope : Scope) (c : Call) → member called first_group scope 1 c ≡ member other first_group scope 1 c
  member_same scope c = members_are_local new old called other first_group scope 1 c each below

  members_same : (scope : Scope) (cs : List Call) → members called second scope cs ≡ members other second scope cs
  members_same scope cs = groups_are_local new old called other second scope cs each (children Step 0 (length cs))

  groups_same : (scope : Scope) (cs ds : List Call) → groups_from called main 1 scope (cs ∷ ds ∷ []) ≡ groups_from other main 1 scope (cs ∷ ds ∷ [])
  groups_same scope cs ds = steps_are_local new old called other main 1 scope (cs ∷ ds ∷ []) each behind

  -- a member of group 1 is settled: group 0 is the same
  first_group_same : (scope : Scope) (gs : List (List Call)) → take 1 (groups_from (calls m grouped g left) main 0 scope gs).all ≡ take 1 (groups_from other main 0 scope gs).all
  first_group_same scope gs =
      first_groups_are_local grouped old (calls m grouped g left) other main 0 scope gs 1 (calls_are_local m grouped old g left) (groups_in_front grouped old (Main ∷ Group 1 ∷ Step 0 ∷ []) grouped_same main 0 1 1 (Step 0 ∷ []) refl (omega arith))

  begun_same : (scope : Scope) (d : Dag) (seen : Scope) (i : ℕ) (t : Task) → begun_task new called second scope d seen i t ≡ begun_task old other second scope d seen i t
  begun_same scope d seen i t = begun_tasks_are_local new old called other second scope d seen i t each (same_further new old second.sels (task_sel i ∷ []) below)

  -- a task that waits for none, however the others stand
  task_same : (scope : Scope) (d : Dag) (at by : Look) (i : ℕ) → standing new called second scope d at i (task (call (codes "a"))) ≡ standing old other second scope d by i (task (call (codes "a")))
  task_same scope d at by i =
      tasks_are_local new old called other second scope d at by i (task (call (codes "a"))) each (same_further new old second.sels (task_sel i ∷ []) below) (All-from_recursion (λ n. at n ≡ by n) [] tt)

  dag_same : (scope : Scope) (ds : List OutputDecl) (d : Dag) → dag_made new called second scope ds d ≡ dag_made old other second scope ds d
  dag_same scope ds d = dags_are_local new old called other second scope ds d each (children task_sel 0 (length d.tasks))

  -- the exit handler
  exit_same : (template : List ℕ) → top_call_within left m new g (exit_root m) template ≡ top_call_within left m old g (exit_root m) template
  exit_same template = top_calls_are_local left m new old g (exit_root m) template (off_is_same new old first (Exit ∷ []) same refl)

  exit_stays : (template : List ℕ) → top_call_within left m new g (exit_root m) template ≡ top_call_within left m old g (exit_root m) template
  exit_stays template = top_calls_off_stay left m new old first g (exit_root m) template same refl

-- ---- a DAG: its first task is settled, the second one does not wait for it, the third one waits for the second

abbrev three : List Task
three = task (call (codes "a")) ∷ task (call (codes "b")) ∷ task_after (codes "c") (codes "b" ∷ []) ∷ []

abbrev dag : Dag
dag = record { targets = []; fail_fast = false; tasks = three }

abbrev done : Fact
done = settled (task_sel 0 ∷ []) succeeded

abbrev later : Answers
later = answers (Started ∷ done ∷ [])

done_same : SameBut later old (Main ∷ task_sel 0 ∷ [])
done_same = facts_are_local (Started ∷ []) done (Main ∷ task_sel 0 ∷ []) refl

abbrev not_a : List ℕ → Bool
not_a n = not (bytes_eq n (codes "a"))

task_below : (i : ℕ) (t : Task) → slice_get three i ≡ Some t → not_a t.call.name ≡ true → SameBelow later old (Main ∷ task_sel i ∷ [])
task_below zero t is h =
    let is_a : task (call (codes "a")) ≡ t = cc is in absurd (cc (ap (λ (x : Task). not_a x.call.name) is_a, h))
task_below (suc i) t is h =
    off_is_same later old (Main ∷ task_sel 0 ∷ []) (Main ∷ task_sel (suc i) ∷ []) done_same (off_other_child (Main ∷ []) [] [] (task_sel 0) (task_sel (suc i)) (ne_eqb 0 (suc i) (λ e. absurd (omega arith))))

abbrev WaitsForKept : Task → Type 0
WaitsForKept t = All (λ n. not_a n ≡ true) (parents three t)

task_awaited : (i : ℕ) (t : Task) → slice_get three i ≡ Some t → not_a t.call.name ≡ true → WaitsForKept t
task_awaited zero t is h =
    let is_a : task (call (codes "a")) ≡ t = cc is in subst WaitsForKept is_a (All-from_recursion (λ n. not_a n ≡ true) [] tt)
task_awaited (suc zero) t is h =
    let is_b : task (call (codes "b")) ≡ t = cc is in subst WaitsForKept is_b (All-from_recursion (λ n. not_a n ≡ true) [] tt)
task_awaited (suc (suc zero)) t is h =
    let is_c : task_after (codes "c") (codes "b" ∷ []) ≡ t = cc is in
    subst WaitsForKept is_c (All-from_recursion (λ n. not_a n ≡ true) (codes "b" ∷ []) (refl, tt))
task_awaited (suc (suc (suc i))) t is h = absurd (cc is)

kept : AreKept later old main three not_a
kept = record { below = task_below; awaited = task_awaited }

c_stays : (m : Manifest) (g : Scope) (left : ℕ) (scope : Scope) → look (standings later (calls m later g left) main scope dag) (codes "c") ≡ look (standings old (calls m old g left) main scope dag) (codes "c")
c_stays m g left scope =
    kept_tasks_are_local later old (calls m later g left) (calls m old g left) main scope dag not_a (codes "c") (calls_are_local m later old g left) kept refl
