-- So do they where they are off the one path that changed.
use Rattle.locality.proofs.Calls.{top_calls_off_stay}
use Rattle.locality.proofs.laws.top_calls_off_stay.Goals as goal

pub returns : goal.returns
returns c = top_calls_off_stay
