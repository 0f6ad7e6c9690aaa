-- Each task stands by its verdict.
use Rattle.dag_template.proofs.Seeing.{by_verdict}
use Rattle.dag_template.proofs.law.stands_by_verdict.Goals as goal

pub returns : goal.returns
returns c = by_verdict
