-- The value is a document.
use Rattle.std.proofs.Common.{inl}
use Rattle.serde_json.specs.View.{view as data_of}
use Rattle.wf_program.proofs.documents.of_value.Goals as goal

pub returns-in-Ok : goal.returns-in-Ok
returns-in-Ok c = inl record {
  document = c.in-Ok.document;
  sound = record {
    valid = c.workflows_valid.ensures c.in-Ok.document c.in-Ok.ensures.valid;
    names = c.names_differ.ensures (data_of c.args.value.now) c.in-Ok.document c.in-Ok.ensures.read;
    hands = c.hands_are_there.ensures (data_of c.args.value.now) c.in-Ok.document c.in-Ok.ensures.read;
  };
  reads = c.in-Ok.ensures.read;
  is = c.of_document.ensures;
}
