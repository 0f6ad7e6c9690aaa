-- One call in the place of another.
use Rattle.std.specs.Prelude.{ℕ, zero, suc, Bool, List, Option, Some, None}
use Rattle.std.specs.List.{list_any, list_all}
use Rattle.tree_types.specs.Phases.{is_succeeded, is_failed}
use Rattle.meaning.specs.Lines.{Parts, nothing, call, may_begin, asks, Made, row_in}

-- the call of this position among the calls
abbrev pub call_at : Parts → ℕ → Option Made
call_at nothing i = None
call_at (call own inner rest) zero = Some (record { own = own; parts = inner })
call_at (call own inner rest) (suc i) = call_at rest i
call_at (may_begin p rest) i = call_at rest i
call_at (asks w rest) i = call_at rest i

-- another call at this position, and all else as it is
abbrev pub replaced : Parts → ℕ → Made → Parts
replaced nothing i m = nothing
replaced (call own inner rest) zero m = call m.own m.parts rest
replaced (call own inner rest) (suc i) m = call own inner (replaced rest i m)
replaced (may_begin p rest) i m = may_begin p (replaced rest i m)
replaced (asks w rest) i m = asks w (replaced rest i m)

-- the same node over another call at this position
abbrev pub with_call : Made → ℕ → Made → Made
with_call b i m = record b { parts = replaced b.parts i m }

-- ---- the same of a looped call, of which others see how its items ended

abbrev pub some_succeeded : List Made → Bool
some_succeeded ms = list_any (λ m. is_succeeded m.own.node.phase) ms

abbrev pub all_fell : List Made → Bool
all_fell ms = list_all (λ m. is_failed m.own.node.phase) ms

abbrev pub over_items : Made → Parts → Made
over_items b parts = record {
  own = record b.own { any_succeeded = some_succeeded (row_in parts); all_failed = all_fell (row_in parts) };
  parts = parts;
}

abbrev pub with_item : Made → ℕ → Made → Made
with_item b i m = over_items b (replaced b.parts i m)
