use Rattle.std.proofs.Common.{◌≡◌, ◌<◌, ◌^◌, drop}
use Rattle.history_text.specs.Inside.Reading.{number_after}
use Rattle.history_text.proofs.read_path.number_of.Given as goal

abbrev pub invariant-loop-digit : goal.invariant-loop-digit
invariant-loop-digit l = (l.number < 2 ^ 32) × (number_after l.number (drop l.digit-index l.digits) ≡ number_after 0 l.digits)
