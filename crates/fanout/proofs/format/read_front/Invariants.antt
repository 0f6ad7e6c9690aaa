use Rattle.std.proofs.Common.{◌≡◌, ◌++◌, length, option_map}
use denote.Text.{Utf8}
use denote.Shadow.{shadow}
use Rattle.fanout.specs.Inside.Shapes.{plain, parts_in}
use Rattle.fanout.proofs.format.read_front.Given as goal

abbrev pub invariant-loop-plain : goal.invariant-loop-plain
invariant-loop-plain l =
    shadow (Utf8 l.rest) × (parts_in l.text ≡ option_map (λ qs. plain l.before ++ qs) (parts_in l.rest))

abbrev pub decreases-loop-plain : goal.decreases-loop-plain
decreases-loop-plain l = length l.rest
