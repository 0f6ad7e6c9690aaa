-- So calls make the same that are off the one path that changed.
use Rattle.locality.proofs.Calls.{calls_off_stay}
use Rattle.locality.proofs.laws.calls_off_stay.Goals as goal

pub returns : goal.returns
returns c = calls_off_stay
