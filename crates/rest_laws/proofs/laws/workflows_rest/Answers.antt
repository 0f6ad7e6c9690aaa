-- The law, proved beside the others.
use Rattle.rest_laws.proofs.Rest.{workflows_rest}
use Rattle.rest_laws.proofs.laws.workflows_rest.Goals as goal

pub returns : goal.returns
returns c = workflows_rest
