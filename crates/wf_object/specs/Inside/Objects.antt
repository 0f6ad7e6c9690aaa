-- How a workflow is kept.
use Rattle.std.specs.Prelude.{◌≡◌}
use Rattle.wf_manifest.specs.Valid.{Valid}
use Rattle.law.specs.Contents.{Flow, flow}
use Rattle.wf_object.specs.declared.object.WfObject.TheInside.{Inside}

abbrev pub flow_of : Inside → Flow
flow_of a = flow a.state.manifest a.state.facts

-- the manifest that is kept for resubmissions is that of the tree
pub record IsKept (a : Inside) : Type 0 where
  pub same : a.valid.value ≡ a.state.manifest
  pub valid : Valid a.valid.value
