-- Tasks of a DAG: they stand the same by the same answers, where those do that they wait for.
use Rattle.std.proofs.Common.{◌≡◌, ℕ, zero, suc, ◌+◌, List, [], ◌∷◌, ◌++◌, Bool, true, false, cond, not, ◌&&◌, ◌||◌, Option, Some, None, length, map, refl, ap, ◌∙◌, arith}
use Rattle.std.proofs.lemmas.List.Elements.{recursion_from_All}
use Rattle.std.proofs.lemmas.Slice.Eq.{bytes_eq-Decides}
use Rattle.std.specs.Prelude.{bytes_eq, slice_get, slice_index_or}
use Rattle.std.specs.List.{list_all, AllByRecursion}
use Rattle.tree_types.specs.Phases.{worst_of}
use Rattle.depends_expr.specs.Expression.{Expression, bare, has, negation, both, either}
use Rattle.depends_expr.specs.Truth.{holds, bare_holds, truth, named}
use Rattle.wf_manifest.specs.declared.calls.Task.{Task}
use Rattle.wf_manifest.specs.declared.calls.Dag.{Dag}
use Rattle.scopes.specs.Substitution.{Scope}
use Rattle.meaning.specs.declared.lines.Place.{Place}
use Rattle.meaning.specs.Answers.{Answers}
use Rattle.meaning.specs.Lines.{numbered}
use Rattle.meaning.specs.Steps.{Caller}
use Rattle.meaning.specs.Dags.{Names, awaited, named_by, parents, is_meant, Standing, is_over, result_of, branch_of, tags_up_to, Look, Standings, look, tags_before, free, omitted, decided_by, waits_by, meant, meant_by, standing, with_standing, rounds}
use Rattle.locality.specs.Local.{SameCallers, AreKept, TasksAreLocal, KeptTasksAreLocal}
use Rattle.locality.proofs.Dags.{standing_same}

-- ---- how a task stands depends only on how the tasks stand that it waits for

-- two looks show the same of these names
abbrev Shows : Look → Look → Names → Type 0
Shows at by ns = AllByRecursion (λ n. at n ≡ by n) ns

module _ (at by : Look) where
  shows_left : (ns ms : Names) → Shows at by (ns ++ ms) → Shows at by ns
  shows_left [] ms h = tt
  shows_left (n ∷ ns) ms h = (h.0, shows_left ns ms h.1)

  shows_right : (ns ms : Names) → Shows at by (ns ++ ms) → Shows at by ms
  shows_right [] ms h = h
  shows_right (n ∷ ns) ms h = shows_right ns ms h.1

  overs_same : (ns : Names) → Shows at by ns → list_all (λ n. is_over (at n)) ns ≡ list_all (λ n. is_over (by n)) ns
  overs_same [] h = refl
  overs_same (n ∷ ns) h = λ i. is_over (h.0 i) && overs_same ns h.1 i

  branches_same : (ns : Names) → Shows at by ns → map (λ n. branch_of (at n)) ns ≡ map (λ n. branch_of (by n)) ns
  branches_same [] h = refl
  branches_same (n ∷ ns) h = λ i. branch_of (h.0 i) ∷ branches_same ns h.1 i

  tags_same : (ns : Names) → Shows at by ns → tags_before at ns ≡ tags_before by ns
  tags_same [] h = refl
  tags_same (n ∷ ns) h = λ i. tags_up_to n (h.0 i) ++ tags_same ns h.1 i

  truth_same : (e : Expression) → Shows at by (named e) → truth (λ n. result_of (at n)) e ≡ truth (λ n. result_of (by n)) e
  truth_same (bare n) h = ap (λ (s : Standing). bare_holds (result_of s)) h.0
  truth_same (has n w) h = ap (λ (s : Standing). holds (result_of s) w) h.0
  truth_same (negation e) h = ap not (truth_same e h)
  truth_same (both d e) h =
      λ i. truth_same d (shows_left (named d) (named e) h) i && truth_same e (shows_right (named d) (named e) h) i
  truth_same (either d e) h =
      λ i. truth_same d (shows_left (named d) (named e) h) i || truth_same e (shows_right (named d) (named e) h) i

  module _ (A : Answers) (called : Caller) (place : Place) (scope : Scope) (d : Dag) (i : ℕ) (t : Task) where
    decided_shown : (e : Expression) (b : Bool) → Shows at by (named e) → decided_by A called place scope d at i t e b ≡ decided_by A called place scope d by i t e b
    decided_shown e true h = ap (λ (seen : Scope). free A called place scope d seen i t) (tags_same (named e) h)
    decided_shown e false h =
        λ j. omitted A called place scope d (worst_of (branches_same (named e) h j)) (tags_same (named e) h j) i t

    waits_shown : (e : Expression) (b : Bool) → Shows at by (named e) → waits_by A called place scope d at i t e b ≡ waits_by A called place scope d by i t e b
    waits_shown e false h = refl
    waits_shown e true h =
        decided_shown e (truth (λ n. result_of (at n)) e) h ∙ ap (decided_by A called place scope d by i t e) (truth_same e h)

    meant_shown : (w : Option Expression) → Shows at by (named_by w) → meant A called place scope d at i t w ≡ meant A called place scope d by i t w
    meant_shown None h = refl
    meant_shown (Some e) h =
        waits_shown e (list_all (λ n. is_over (at n)) (named e)) h ∙ ap (waits_by A called place scope d by i t e) (overs_same (named e) h)

    meant_by_shown : (b : Bool) → Shows at by (parents d.tasks t) → meant_by A called place scope d at i t b ≡ meant_by A called place scope d by i t b
    meant_by_shown false h = refl
    meant_by_shown true h = meant_shown (awaited d.tasks t) h

    pub standing_shown : Shows at by (parents d.tasks t) → standing A called place scope d at i t ≡ standing A called place scope d by i t
    standing_shown h = meant_by_shown (is_meant d t) h

pub tasks_are_local : TasksAreLocal
tasks_are_local A B called other place scope d at by i t each same alike =
    standing_same A B called other each place scope d i t same at
    ∙ standing_shown at by B other place scope d i t (recursion_from_All (λ n. at n ≡ by n) (parents d.tasks t) alike)

-- ---- kept tasks

module _ (A B : Answers) (called other : Caller) (each : SameCallers A B called other) (place : Place) (scope : Scope) (d : Dag) where
  abbrev stood : Answers → Caller → Look → ℕ → Task → Standing
  stood C by at i t = standing C by place scope d at i t

  abbrev stand_from : Answers → Caller → Look → ℕ → List Task → Standings
  stand_from C by at i ts = numbered (with_standing C by place scope d at) i ts

  first_same : (at by : Look) (name : List ℕ) (i : ℕ) (t : Task) (ts : List Task) → (t.call.name ≡ name → stood A called at i t ≡ stood B other by i t)
      → look (stand_from A called at (suc i) ts) name ≡ look (stand_from B other by (suc i) ts) name → (b : Bool) → bytes_eq t.call.name name ≡ b
      → cond b (stood A called at i t) (look (stand_from A called at (suc i) ts) name) ≡ cond b (stood B other by i t) (look (stand_from B other by (suc i) ts) name)
  first_same at by name i t ts here behind true e = here ((bytes_eq-Decides t.call.name name).0 e)
  first_same at by name i t ts here behind false e = behind

  -- a task is found the same where those of its name stand the same
  found_same : (at by : Look) (name : List ℕ) (i : ℕ) (ts : List Task) → ((k j : ℕ) (t : Task) → k ≡ i + j → slice_get ts j ≡ Some t → t.call.name ≡ name → stood A called at k t ≡ stood B other by k t)
      → look (stand_from A called at i ts) name ≡ look (stand_from B other by i ts) name
  found_same at by name i [] h = refl
  found_same at by name i (t ∷ ts) h =
      first_same at by name i t ts (h i 0 t (omega arith) refl) (found_same at by name (suc i) ts (λ k j u p e s. h k (suc j) u (omega arith) e s)) (bytes_eq t.call.name name) refl

  module _ (kept : List ℕ → Bool) (are : AreKept A B place d.tasks kept) where
    one_kept : (at by : Look) → ((n : List ℕ) → kept n ≡ true → at n ≡ by n) → (k j : ℕ) (t : Task) → k ≡ 0 + j → slice_get d.tasks j ≡ Some t → kept t.call.name ≡ true → stood A called at k t ≡ stood B other by k t
    one_kept at by e k j t p is h =
        let number : k ≡ j = omega arith in
        let here : slice_get d.tasks k ≡ Some t = ap (slice_get d.tasks) number ∙ is in
        tasks_are_local A B called other place scope d at by k t each (are.below k t here h) (λ x n l. e (slice_index_or (parents d.tasks t) x n) (are.awaited k t here h x n l))

    rounds_kept : (n : ℕ) (name : List ℕ) → kept name ≡ true → look (rounds A called place scope d n) name ≡ look (rounds B other place scope d n) name
    rounds_kept zero name h = refl
    rounds_kept (suc n) name h =
        let at : Look = look (rounds A called place scope d n) in
        let by : Look = look (rounds B other place scope d n) in
        found_same at by name 0 d.tasks (λ k j t p e s. one_kept at by (rounds_kept n) k j t p e (ap kept s ∙ h))

pub kept_tasks_are_local : KeptTasksAreLocal
kept_tasks_are_local A B called other place scope d kept name each are h =
    rounds_kept A B called other each place scope d kept are (length d.tasks) name h
