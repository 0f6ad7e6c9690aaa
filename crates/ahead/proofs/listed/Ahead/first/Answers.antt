-- What the list finds is what the tree finds.
use Rattle.std.proofs.Common.{sym, ◌∙◌}
use Rattle.ahead.proofs.listed.Ahead.first.Goals as goal

pub returns-in-Some : goal.returns-in-Some
returns-in-Some g c = c.first_in.ensures ∙ c.requires.finds c.in-Some.left.now (sym c.in-Some.ensures)
