-- A source in memory, as its contracts see it.
use Rattle.std.specs.Prelude.{ℕ, List, ◌++◌, length, take, drop, min, if◌then◌else◌}
use Rattle.std.specs.declared.result.Result.{Result}
use Rattle.std.specs.declared.result.Result.TheVariants.{Ok, Err}
use Rattle.io_edge.specs.Plans.{fails_next, after_call}
use Rattle.io_edge.specs.declared.call_plan.CallPlan.{CallPlan}
use Rattle.io_edge.specs.declared.source.Failed.{Failed}

-- the bytes that are left, how many a read gives at most, and which reads fail
pub record Supply : Type 0 where
  pub left : List ℕ
  pub piece : ℕ
  pub plan : CallPlan

-- how many bytes a read gives that does not fail, into so much room
abbrev pub given_count : Supply → ℕ → ℕ
given_count source room = min (min (length source.left) room) source.piece

-- what a read answers that has so much room
abbrev pub read_answer : Supply → ℕ → Result ℕ Failed
read_answer source room = if fails_next source.plan then Err (record {}) else Ok (given_count source room)

-- A read that fails leaves the bytes; another takes away what it gives.
abbrev pub left_after_read : Supply → ℕ → List ℕ
left_after_read source room = if fails_next source.plan then source.left else drop (given_count source room) source.left

-- the source after a read that has so much room
abbrev pub after_read : Supply → ℕ → Supply
after_read source room = record source {
  left = left_after_read source room;
  plan = after_call source.plan (fails_next source.plan);
}

-- What a read makes of a buffer: its front is given, and its rest stays.
abbrev pub bytes_after_read : Supply → List ℕ → List ℕ
bytes_after_read source into = if fails_next source.plan then into
    else take (given_count source (length into)) source.left ++ drop (given_count source (length into)) into
