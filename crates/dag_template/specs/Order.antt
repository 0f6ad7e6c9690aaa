-- How the tasks of a DAG are seen.
use Rattle.std.specs.Prelude.{List, map}
use Rattle.wf_manifest.specs.declared.calls.Dag.{Dag}
use Rattle.dag_template.specs.declared.states.TaskState.{TaskState}
use Rattle.dag_template.specs.declared.stands.Stand.{Stand}
use Rattle.dag_template.specs.Step.{stand}
use Rattle.dag_template.specs.Stands.{sight}

-- how the tasks of a DAG are seen by their states
abbrev pub sights : Dag → List TaskState → List Stand
sights d states = map (λ s. sight s.1) (stand d states)
