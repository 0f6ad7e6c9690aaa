-- The history after a create goes on from what the client had seen.
use Rattle.std.proofs.Common.{Some}
use Rattle.history.specs.History.{event, clock_of, version_at}
use Rattle.law.specs.Contents.{apply}
use Rattle.job_calls.proofs.Adding.{adds_later, made_content}
use Rattle.job_calls.proofs.calls.create.Goals as goal

pub returns-clause-leaves : goal.returns-clause-leaves
returns-clause-leaves g c = record {
  later = adds_later (g.C.Client.seen c.args.client.now) c.create.ensures.created.at (g.C.Client.seen c.create.new.self) (event c.args.change (Some c.args.content)) c.create.result c.create.ensures.created.later c.create.ensures.created.adds;
  lawful = c.create.ensures.lawful;
  same_law = c.create.ensures.law;
  same_place = c.create.ensures.place;
  rising = c.create.ensures.faults;
}

pub returns-clause-content : goal.returns-clause-content
returns-clause-content g c =
    let created = c.create.ensures.created in
    made_content c.args.key c.args.content (clock_of created.at) (version_at apply created.at c.args.key) c.create.result created.gives
