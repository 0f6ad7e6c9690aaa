-- The law, proved beside the others.
use Rattle.books.proofs.ReleasesOnce.{released_once}
use Rattle.books.proofs.laws.releases_once.Goals as goal

pub returns : goal.returns
returns c = released_once
