-- A sink in memory, as its contracts see it.
use Rattle.std.specs.Prelude.{ℕ, ◌-◌, Bool, ◌&&◌, ◌||◌, not, ◌==◌, List, ◌++◌, length, take, min, if◌then◌else◌}
use Rattle.std.specs.declared.result.Result.{Result}
use Rattle.std.specs.declared.result.Result.TheVariants.{Ok, Err}
use Rattle.io_edge.specs.Plans.{fails_next, after_call}
use Rattle.io_edge.specs.declared.call_plan.CallPlan.{CallPlan}
use Rattle.io_edge.specs.declared.source.Failed.{Failed}

-- the bytes that it holds, how many it holds at most, how many a write takes at most, and which writes fail
pub record Store : Type 0 where
  pub bytes : List ℕ
  pub room : ℕ
  pub piece : ℕ
  pub plan : CallPlan

-- the room is full
abbrev pub is_full : Store → Bool
is_full sink = length sink.bytes == sink.room

-- A write fails by the plan, and where it has a byte and finds the room full.
abbrev pub fails_write : Store → List ℕ → Bool
fails_write sink bytes = fails_next sink.plan || (is_full sink && not (length bytes == 0))

-- how many bytes a write takes that does not fail
abbrev pub taken_count : Store → List ℕ → ℕ
taken_count sink bytes = min (min (sink.room - length sink.bytes) (length bytes)) sink.piece

-- what a write of these bytes answers
abbrev pub write_answer : Store → List ℕ → Result ℕ Failed
write_answer sink bytes = if fails_write sink bytes then Err (record {}) else Ok (taken_count sink bytes)

-- A write that fails takes nothing; another takes a front of the bytes.
abbrev pub bytes_after_write : Store → List ℕ → List ℕ
bytes_after_write sink bytes = if fails_write sink bytes then sink.bytes
    else sink.bytes ++ take (taken_count sink bytes) bytes

-- the sink after a write of these bytes
abbrev pub after_write : Store → List ℕ → Store
after_write sink bytes = record sink {
  bytes = bytes_after_write sink bytes;
  plan = after_call sink.plan (fails_write sink bytes);
}
