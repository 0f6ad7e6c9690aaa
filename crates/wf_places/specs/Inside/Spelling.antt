-- Parts of what is asked of a DAG.
use Rattle.std.specs.Prelude.{ℕ, List, ◌++◌, Bool, is_some}
use Rattle.std.specs.List.{list_all, list_any}
use Rattle.json_fields.specs.Paths.{Path}
use Rattle.wf_manifest.specs.declared.calls.Task.{Task}
use Rattle.wf_manifest.specs.Valid.{fits_depends}
use Rattle.wf_places.specs.declared.place.Place.{Place}
use Rattle.wf_places.specs.Dags.{dependencies_places, depends_places}

abbrev pub some_depends : List Task → Bool
some_depends tasks = list_any (λ t. is_some t.depends) tasks

abbrev pub all_fit : List Task → Bool
all_fit tasks = list_all fits_depends tasks

-- the places of what a task waits for
abbrev pub waited_places : List (List ℕ) → Path → Task → List Place
waited_places known at t = dependencies_places known at t.dependencies ++ depends_places known at t.depends
