-- A write is answered as of a history that goes on from what the client had seen.
use Rattle.std.proofs.Common.{None}
use Rattle.history.specs.History.{event, clock_of, version_at}
use Rattle.law.specs.Contents.{apply}
use Rattle.job_calls.proofs.Adding.{adds_later, written_content}
use Rattle.job_calls.proofs.calls.write.Goals as goal

pub returns-clause-did : goal.returns-clause-did
returns-clause-did g c = λ m.
    c.writes_are_done.ensures c.args.from.now c.args.next c.args.change (g.C.Client.seen c.args.client.now)
    (g.C.Client.seen c.write.new.self) c.write.result (g.C.Client.others c.args.client.now)
    (g.C.Client.others c.write.new.self) c.requires.entry c.requires.leads c.requires.of c.write.ensures.wrote m

pub returns-clause-leaves : goal.returns-clause-leaves
returns-clause-leaves g c = record {
  later = adds_later (g.C.Client.seen c.args.client.now) c.write.ensures.wrote.at (g.C.Client.seen c.write.new.self) (event c.args.change None) c.write.result c.write.ensures.wrote.later c.write.ensures.wrote.adds;
  lawful = c.write.ensures.lawful;
  same_law = c.write.ensures.law;
  same_place = c.write.ensures.place;
  rising = c.write.ensures.faults;
}

pub returns-clause-content : goal.returns-clause-content
returns-clause-content g c =
    let wrote = c.write.ensures.wrote in
    written_content c.args.from.now c.args.next (clock_of wrote.at) (version_at apply wrote.at c.args.from.now.key) c.write.result wrote.gives
