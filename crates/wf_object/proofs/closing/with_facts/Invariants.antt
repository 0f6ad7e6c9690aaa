-- The facts so far are added.
use Rattle.std.proofs.Common.{◌≡◌, ◌++◌, take}
use Rattle.wf_object.proofs.closing.with_facts.Given as goal

abbrev pub invariant-loop-fact : goal.invariant-loop-fact
invariant-loop-fact l = record {
  manifest : l.state.manifest ≡ l.from.manifest;
  facts : l.state.facts ≡ l.from.facts ++ take l.fact-index l.facts;
}
