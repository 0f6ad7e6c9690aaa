use Rattle.wf_places.proofs.Waiting.{asked_answer, always_asked}
use Rattle.wf_places.proofs.ancestry.Ancestry.is_ancestor.Goals as goal

pub returns-in-Some : goal.returns-in-Some
returns-in-Some c =
    asked_answer c.self.inside.tasks.now c.args.self.now c.self.inside.known c.in-Some.known c.args.name.now c.args.task.now c.as_str-in-Some.result.now c.as_str.result.now c.waits_for.result c.self.view_is c.self.invariant c.in-Some.is c.as_str-in-Some.ensures c.as_str.ensures c.waits_for.ensures

pub returns-in-None : goal.returns-in-None
returns-in-None c =
    always_asked c.self.inside.tasks.now c.args.self.now c.self.inside.known c.args.name.now c.args.task.now c.self.view_is c.self.invariant c.in-None.is
