use Rattle.std.proofs.Common.{◌≡◌, ◌<◌, drop}
use Rattle.buckets.specs.Buckets as buckets
use Rattle.buckets.proofs.bucket.with_text.Given as goal

abbrev pub invariant-loop-byte : goal.invariant-loop-byte
invariant-loop-byte l = record {
  few : l.bucket < buckets.buckets;
  rest : buckets.with_text l.bucket (drop l.byte-index l.text) ≡ buckets.with_text l.initial.bucket l.text;
}
