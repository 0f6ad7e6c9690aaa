-- The law, proved beside the others.
use Rattle.books.proofs.Ranks.{rank_total}
use Rattle.books.proofs.laws.orders_ranks.Goals as goal

pub returns : goal.returns
returns c = rank_total
