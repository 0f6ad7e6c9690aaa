-- What is made by a number is a document.
use Rattle.serde_json.specs.View.{view as data_of}
use Rattle.generator.specs.Bundles.{bundle}
use Rattle.wf_program.proofs.Refusing.{breaks_none}
use Rattle.wf_program.proofs.documents.generated.Goals as goal

pub returns-in-Ok-clause-sound : goal.returns-in-Ok-clause-sound
returns-in-Ok-clause-sound c = record {
  valid = c.workflows_valid.ensures c.in-Ok.document c.in-Ok.ensures.valid;
  names = c.names_differ.ensures (data_of c.in_ok-value.value) c.in-Ok.document c.in-Ok.ensures.read;
  hands = c.hands_are_there.ensures (data_of c.in_ok-value.value) c.in-Ok.document c.in-Ok.ensures.read;
}

pub unreachable-requires : goal.unreachable-requires
unreachable-requires c =
    let is = c.are_documents.ensures c.args.order.seed c.args.order.size c.requires in
    breaks_none (data_of c.in_ok-value.value) (bundle c.args.order.seed c.args.order.size) is.read c.in-Err-Rule.field-0
    c.in-Err-Rule.field-0-0 c.in-Err-Rule.field-0-1 _ c.in_ok-value.ensures is.reads c.in-Err-Rule.field-0-is c.in-Err-Rule.ensures.read
