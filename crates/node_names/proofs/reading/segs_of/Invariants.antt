use Rattle.std.proofs.Common.{length}
use denote.Text.{Utf8}
use denote.Shadow.{shadow}
use Rattle.node_names.proofs.IsWay.{IsReadTo}
use Rattle.node_names.proofs.reading.segs_of.Given as goal

-- the suffixes so far are those of the way
abbrev pub invariant-loop-rest : goal.invariant-loop-rest
invariant-loop-rest l = shadow (Utf8 l.rest) × IsReadTo l.initial.rest l.way l.rest

abbrev pub decreases-loop-rest : goal.decreases-loop-rest
decreases-loop-rest l = length l.rest
