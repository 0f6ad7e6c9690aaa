-- When a task's `depends` is true, and which tasks it names (Argo's enhanced depends logic).
use Rattle.std.specs.Prelude.{ℕ, List, [], ◌∷◌, ◌++◌, Bool, false, not, ◌&&◌, ◌||◌, bytes_eq, if◌then◌else◌}
use Rattle.std.specs.List.{list_any}
use Rattle.depends_expr.specs.declared.results.TaskResult.{TaskResult}
use Rattle.depends_expr.specs.Expression.{Word, succeeded, failed, errored, skipped, omitted, daemoned, any_succeeded, all_failed, Expression, bare, has, negation, both, either}

-- no task of this project is a daemon, so none is daemoned
abbrev pub holds : TaskResult → Word → Bool
holds task succeeded = task.succeeded
holds task failed = task.failed
holds task errored = task.errored
holds task skipped = task.skipped
holds task omitted = task.omitted
holds task daemoned = false
holds task any_succeeded = task.any_succeeded
holds task all_failed = task.all_failed

-- a bare name is Succeeded, Skipped or Daemoned
abbrev pub bare_holds : TaskResult → Bool
bare_holds task = holds task succeeded || holds task skipped || holds task daemoned

-- `of` is the result of the task of a name
abbrev pub truth : (List ℕ → TaskResult) → Expression → Bool
truth of (bare name) = bare_holds (of name)
truth of (has name word) = holds (of name) word
truth of (negation e) = not (truth of e)
truth of (both d e) = truth of d && truth of e
truth of (either d e) = truth of d || truth of e

-- the names in order, with repeats
abbrev pub named : Expression → List (List ℕ)
named (bare name) = name ∷ []
named (has name word) = name ∷ []
named (negation e) = named e
named (both d e) = named d ++ named e
named (either d e) = named d ++ named e

-- the names so far, and one more unless it is among them
abbrev pub add_name : List (List ℕ) → List ℕ → List (List ℕ)
add_name names name = if list_any (bytes_eq name) names then names else names ++ name ∷ []

abbrev pub add_names : List (List ℕ) → List (List ℕ) → List (List ℕ)
add_names names [] = names
add_names names (n ∷ ns) = add_names (add_name names n) ns

-- the names, each once, by first place
abbrev pub names_of : Expression → List (List ℕ)
names_of e = add_names [] (named e)
