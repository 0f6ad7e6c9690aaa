-- The tags of the ancestors of a task begin with `tasks.`.
use Rattle.std.proofs.Common.{◌≡◌, ℕ, zero, suc, List, [], ◌∷◌, ◌++◌, Bool, true, false, cond, not, ◌||◌, Option, Some, None, codes, length, refl}
use Rattle.std.specs.Prelude.{bytes_eq}
use Rattle.std.specs.List.{list_all}
use Rattle.depends_expr.specs.Expression.{Expression}
use Rattle.depends_expr.specs.Truth.{truth, named}
use Rattle.wf_manifest.specs.declared.calls.Task.{Task}
use Rattle.wf_manifest.specs.declared.calls.Dag.{Dag}
use Rattle.scopes.specs.Substitution.{Scope}
use Rattle.meaning.specs.declared.lines.Place.{Place}
use Rattle.meaning.specs.Answers.{Answers}
use Rattle.meaning.specs.Lines.{numbered, tags_of}
use Rattle.meaning.specs.Steps.{Caller}
use Rattle.meaning.specs.Dags.{Names, awaited, is_meant, Standing, waiting, ready, exists, is_over, result_of, tags_up_to, Look, look, task_place, tags_before, free_by, decided_by, waits_by, meant, meant_by, standing, with_standing, rounds, standings}
use Rattle.mentions.specs.Unasked.{TaskTagsBeginSo}
use Rattle.mentions.proofs.GroupTags.{begin_so, both, tags_so, passed}

abbrev pub so : Scope → Bool
so tags = begin_so (codes "tasks.") tags

-- the tags of the tasks before one
abbrev pub seen_by : Standing → Scope
seen_by (exists m branch seen) = seen
seen_by _ = []

up_to_so : (n : List ℕ) (s : Standing) → so (seen_by s) ≡ true → so (tags_up_to n s) ≡ true
up_to_so n waiting e = refl
up_to_so n ready e = refl
up_to_so n (exists m branch seen) e = both (codes "tasks.") (tags_of (codes "tasks." ++ n) m) seen (tags_so (codes "tasks.") n m) e

module _ (at : Look) (all : (n : List ℕ) → so (seen_by (at n)) ≡ true) where
  pub before_so : (ns : Names) → so (tags_before at ns) ≡ true
  before_so [] = refl
  before_so (n ∷ ns) = both (codes "tasks.") (tags_up_to n (at n)) (tags_before at ns) (up_to_so n (at n) (all n)) (before_so ns)

  module _ (A : Answers) (called : Caller) (place : Place) (scope : Scope) (d : Dag) (i : ℕ) (t : Task) where
    free_so : (seen : Scope) (b : Bool) → so seen ≡ true → so (seen_by (free_by A called place scope d seen i t b)) ≡ true
    free_so seen false e = refl
    free_so seen true e = e

    decided_so : (e : Expression) (b : Bool) → so (seen_by (decided_by A called place scope d at i t e b)) ≡ true
    decided_so e false = before_so (named e)
    decided_so e true = free_so (tags_before at (named e)) (not d.fail_fast || A.begun (task_place place i t).sels) (before_so (named e))

    waits_so : (e : Expression) (b : Bool) → so (seen_by (waits_by A called place scope d at i t e b)) ≡ true
    waits_so e false = refl
    waits_so e true = decided_so e (truth (λ n. result_of (at n)) e)

    meant_so : (w : Option Expression) → so (seen_by (meant A called place scope d at i t w)) ≡ true
    meant_so None = free_so [] (not d.fail_fast || A.begun (task_place place i t).sels) refl
    meant_so (Some e) = waits_so e (list_all (λ n. is_over (at n)) (named e))

    by_so : (b : Bool) → so (seen_by (meant_by A called place scope d at i t b)) ≡ true
    by_so false = refl
    by_so true = meant_so (awaited d.tasks t)

  module _ (A : Answers) (called : Caller) (place : Place) (scope : Scope) (d : Dag) where
    rows_so : (i : ℕ) (ts : List Task) (n : List ℕ) → so (seen_by (look (numbered (with_standing A called place scope d at) i ts) n)) ≡ true
    rows_so i [] n = refl
    rows_so i (t ∷ ts) n = one (bytes_eq t.call.name n) (rows_so (suc i) ts n)
      where
        one : (b : Bool) → so (seen_by (look (numbered (with_standing A called place scope d at) (suc i) ts) n)) ≡ true →
            so (seen_by (cond b (standing A called place scope d at i t) (look (numbered (with_standing A called place scope d at) (suc i) ts) n))) ≡ true
        one true later = by_so A called place scope d i t (is_meant d t)
        one false later = later

pub rounds_so : (A : Answers) (called : Caller) (place : Place) (scope : Scope) (d : Dag) (k : ℕ) (n : List ℕ) → so (seen_by (look (rounds A called place scope d k) n)) ≡ true
rounds_so A called place scope d zero n = refl
rounds_so A called place scope d (suc k) n =
    rows_so (look (rounds A called place scope d k)) (rounds_so A called place scope d k) A called place scope d 0 d.tasks n

pub task_tags_begin_so : TaskTagsBeginSo
task_tags_begin_so A called place scope d ns around = λ tag other.
    let at = look (standings A called place scope d) in
    passed (codes "tasks.") (tags_before at ns) around tag (before_so at (rounds_so A called place scope d (length d.tasks)) ns) other
