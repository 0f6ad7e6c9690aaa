-- What is kept of the ancestors of tasks.
use Rattle.std.specs.Prelude.{◌≡◌, List, false, IsTrue, Option, Some, None}
use Rattle.wf_manifest.specs.declared.calls.Task.{Task}
use Rattle.wf_places.specs.Circles.{has_circle}

-- nothing where there is a circle
abbrev pub IsKnown : List Task → Option (List Task) → Type 0
IsKnown tasks None = IsTrue (has_circle tasks)
IsKnown tasks (Some known) = (known ≡ tasks) × (has_circle tasks ≡ false)
