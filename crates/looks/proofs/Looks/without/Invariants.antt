-- What was looked at so far is kept but for the name.
use Rattle.std.proofs.Common.{◌≡◌, not, reverse}
use Rattle.std.specs.Prelude.{filter}
use Rattle.looks.specs.Named.{is_named}
use Rattle.looks.proofs.Looks.without.Given as goal

abbrev pub invariant-loop-look : goal.invariant-loop-look
invariant-loop-look g l = l.left ≡ filter (λ x. not (is_named l.name x)) (reverse l.yielded)
