-- What stands around a text, as the code keeps it.
use Rattle.std.specs.Prelude.{List, [], None, option_map}
use Rattle.wf_manifest.specs.declared.calls.Task.{Task}
use Rattle.wf_places.specs.declared.around.Before.{Before as Kept}
use Rattle.wf_places.specs.declared.around.Before.TheVariants as kept
use Rattle.wf_places.specs.declared.around.Inside.{Inside}
use Rattle.wf_places.specs.declared.around.Outside.{Outside}
use Rattle.wf_places.specs.declared.around.Spot.{Spot}
use Rattle.wf_places.specs.Tags.{Around, Before, all, first, ancestors, only_name}

abbrev pub before_of : List Task → Kept → Before
before_of tasks kept.All = all
before_of tasks (kept.First k) = first k
before_of tasks (kept.Ancestors task) = ancestors tasks task.now

abbrev pub around_of : Inside → Spot → Around
around_of inside spot =
    record { reach = spot.reach; arguments = inside.outside.now.arguments; inputs = inside.inputs; templates = inside.outside.now.templates; steps = inside.steps; tasks = inside.tasks; before = before_of inside.ancestry spot.before; own = option_map (λ name. name.now) spot.own }

-- what stands around the texts of a template, where nothing is said of the place
abbrev pub around_template : Inside → Around
around_template inside =
    record { reach = only_name; arguments = inside.outside.now.arguments; inputs = inside.inputs; templates = inside.outside.now.templates; steps = inside.steps; tasks = inside.tasks; before = all; own = None }

-- and around the workflow's own texts
abbrev pub around_workflow : Outside → Around
around_workflow outside =
    record { reach = only_name; arguments = outside.arguments; inputs = []; templates = outside.templates; steps = []; tasks = []; before = all; own = None }
