-- What its template makes a node ask for is asked for.
use Rattle.askings.proofs.TemplatesAsk.{templates_ask}
use Rattle.askings.proofs.laws.templates_ask.Goals as goal

pub returns : goal.returns
returns c = templates_ask
