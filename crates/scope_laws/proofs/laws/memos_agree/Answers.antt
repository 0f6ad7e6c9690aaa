-- So is what follows a template's lock.
use Rattle.scope_laws.proofs.Calls.{memos_agree}
use Rattle.scope_laws.proofs.laws.memos_agree.Goals as goal

pub returns : goal.returns
returns c = memos_agree
