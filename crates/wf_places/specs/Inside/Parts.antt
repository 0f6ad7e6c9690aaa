-- The places of one member of a list.
use Rattle.std.specs.Prelude.{ℕ, List, [], ◌++◌, take, codes}
use Rattle.base_types.specs.Bytes.{is_name}
use Rattle.base_types.specs.Names.{is_among}
use Rattle.json_fields.specs.Paths.{Path, field_of}
use Rattle.field_kinds.specs.Rules as rules
use Rattle.wf_manifest.specs.declared.calls.Argument.{Argument}
use Rattle.wf_manifest.specs.declared.calls.Task.{Task}
use Rattle.wf_manifest.specs.declared.templates.Input.{Input}
use Rattle.wf_manifest.specs.declared.templates.OutputDecl.{OutputDecl}
use Rattle.wf_manifest.specs.declared.templates.Body.{Body}
use Rattle.wf_manifest.specs.declared.templates.Body.TheVariants as body
use Rattle.wf_manifest.specs.declared.templates.Template.{Template}
use Rattle.wf_manifest.specs.Valid.{template_names}
use Rattle.wf_places.specs.declared.place.Place.{Place}
use Rattle.wf_places.specs.Broken.{broken, plain_places, name_places}
use Rattle.wf_places.specs.Tags.{Around, text_places, text_if_there}
use Rattle.wf_places.specs.Places.{source_places, inside, template_inside}

abbrev pub argument_place : Around → List (List ℕ) → ℕ → Path → Argument → List Place
argument_place a names i at x =
    name_places (is_among (take i names) x.name) (is_name x.name) at ++ text_places a (field_of at (codes "value")) x.value

abbrev pub input_place : Around → List (List ℕ) → ℕ → Path → Input → List Place
input_place a names i at x =
    name_places (is_among (take i names) x.name) (is_name x.name) at
    ++ text_if_there a (field_of at (codes "value")) x.value
    ++ text_if_there a (field_of at (codes "default")) x.default

abbrev pub output_place : Around → List (List ℕ) → ℕ → Path → OutputDecl → List Place
output_place a names i at o =
    name_places (is_among (take i names) o.name) (is_name o.name) at ++ source_places a at o

abbrev pub template_place : List (List ℕ) → Around → ℕ → Path → Template → List Place
template_place limited a i at t =
    broken rules.double_name (is_among (take i (template_names a.templates)) t.name) (field_of at (codes "name"))
    ++ plain_places (field_of at (codes "name")) t.name
    ++ template_inside limited (inside a t) at t

-- the tasks of a body
abbrev pub dag_tasks : Body → List Task
dag_tasks (body.Dag dag) = dag.tasks
dag_tasks _ = []
