use Rattle.std.proofs.Common.{◌≡◌, ◌<◌, drop}
use Rattle.buckets.specs.Buckets as buckets
use Rattle.buckets.proofs.bucket.with_sels.Given as goal

abbrev pub invariant-loop-sel : goal.invariant-loop-sel
invariant-loop-sel l = record {
  few : l.bucket < buckets.buckets;
  rest : buckets.with_sels l.bucket (drop l.sel-index l.sels) ≡ buckets.with_sels l.initial.bucket l.sels;
}
