-- A workflow that is over keeps its tree in longer lawful journals.
use Rattle.growth.proofs.StayingJournals.{stays_in_journals}
use Rattle.growth.proofs.laws.stays_in_journals.Goals as goal

pub returns : goal.returns
returns c = stays_in_journals
