use Rattle.std.proofs.Common.{◌≡◌, drop}
use Rattle.std.specs.List.{find}
use Rattle.ahead.proofs.listed.first_in.Given as goal

-- those before do not pass
abbrev pub invariant-loop-want : goal.invariant-loop-want
invariant-loop-want g l = find (g.T.WantTest.accepts l.test) (drop l.want-index l.wants) ≡ find (g.T.WantTest.accepts l.test) l.wants
