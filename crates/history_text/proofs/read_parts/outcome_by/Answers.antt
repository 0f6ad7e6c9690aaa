use Rattle.history_text.proofs.Outcomes.{made}
use Rattle.history_text.proofs.read_parts.outcome_by.Goals as goal

pub returns-in-Succeeded : goal.returns-in-Succeeded
returns-in-Succeeded c = made c.args.phase c.args.left _
