-- What lent answers say.
use Rattle.tag_names.specs.Tags.{Field, result, status, parameter, TagName, workflow_name, workflow_status, workflow_parameter, input_parameter, step, task, item, item_key, unknown}
use Rattle.tag_names.specs.declared.tag_name.StepField.{StepField}
use Rattle.tag_names.specs.declared.tag_name.StepField.TheVariants as asked
use Rattle.tag_names.specs.declared.tag_name.TagName.{TagName as Lent}
use Rattle.tag_names.specs.declared.tag_name.TagName.TheVariants as lent

abbrev pub field_of : StepField → Field
field_of asked.Result = result
field_of asked.Status = status
field_of (asked.Parameter name) = parameter name.now

abbrev pub tag_of : Lent → TagName
tag_of lent.WorkflowName = workflow_name
tag_of lent.WorkflowStatus = workflow_status
tag_of (lent.WorkflowParameter name) = workflow_parameter name.now
tag_of (lent.InputParameter name) = input_parameter name.now
tag_of (lent.Step name field) = step name.now (field_of field)
tag_of (lent.Task name field) = task name.now (field_of field)
tag_of lent.Item = item
tag_of (lent.ItemKey key) = item_key key.now
tag_of lent.Unknown = unknown
