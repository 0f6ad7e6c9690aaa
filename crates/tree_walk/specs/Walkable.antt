-- What a valid manifest has in each of its templates, as far as a walk over them needs it.
use Rattle.std.specs.Prelude.{All, List, IsTrue}
use Rattle.base_types.specs.Names.{all_differ}
use Rattle.node_names.specs.Names.{is_step_name}
use Rattle.wf_manifest.specs.declared.calls.Call.{Call}
use Rattle.wf_manifest.specs.declared.calls.Dag.{Dag}
use Rattle.wf_manifest.specs.declared.templates.Body.{Body}
use Rattle.wf_manifest.specs.declared.templates.Body.TheVariants as body
use Rattle.wf_manifest.specs.declared.templates.Template.{Template}
use Rattle.wf_manifest.specs.Valid.{HasRank, task_names, tasks_are_there, is_short, retry_fits}

-- a call whose name is of its grammar
abbrev pub IsNamed : Call → Type 0
IsNamed c = IsTrue (is_step_name c.name)

pub record IsWalkableDag (d : Dag) : Type 0 where
  pub named : All (λ t. IsNamed t.call) d.tasks
  pub differ : IsTrue (all_differ (task_names d))
  pub there : IsTrue (tasks_are_there (body.Dag d))
  pub short : IsTrue (is_short d.tasks)
  pub ranked : HasRank d.tasks

abbrev pub AreNamed : List (List Call) → Type 0
AreNamed gs = All (All IsNamed) gs

abbrev pub IsWalkableBody : Body → Type 0
IsWalkableBody body.Pod = Unit {0}
IsWalkableBody (body.Steps gs) = AreNamed gs
IsWalkableBody (body.Dag d) = IsWalkableDag d
IsWalkableBody (body.Suspend duration) = Unit {0}

pub record IsWalkable (t : Template) : Type 0 where
  pub parts : IsWalkableBody t.body
  pub retry : IsTrue (retry_fits t.retry)
