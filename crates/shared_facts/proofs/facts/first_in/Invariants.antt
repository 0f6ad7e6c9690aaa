use Rattle.std.proofs.Common.{◌≡◌, drop}
use Rattle.std.specs.List.{find}
use Rattle.shared_facts.specs.Inside.Kinds.{is_of}
use Rattle.shared_facts.proofs.facts.first_in.Given as goal

-- the facts before the position are not of this kind and path
abbrev pub invariant-loop-position : goal.invariant-loop-position
invariant-loop-position l = find (is_of l.kind l.sels) (drop l.position l.bucket) ≡ find (is_of l.kind l.sels) l.bucket
