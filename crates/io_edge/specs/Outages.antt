-- Which calls of a store fail by a plan. This plan is the project's own: with it a test picks the calls that fail.
use Rattle.std.specs.Prelude.{ℕ, ◌+◌, ◌^◌, ◌-◌, Bool, ◌&&◌, nat_lt, ◌==◌, List, if◌then◌else◌}
use Rattle.std.specs.List.{list_any}

-- the numbers of the calls that fail, how many calls were asked, and how many failed
pub record Plan : Type 0 where
  pub failing : List ℕ
  pub calls : ℕ
  pub faults : ℕ

-- a plan of which no call was asked
abbrev pub plan : List ℕ → Plan
plan failing = record { failing = failing; calls = 0; faults = 0 }

-- there is a next number
abbrev pub goes_on : Plan → Bool
goes_on p = nat_lt p.calls (2 ^ 64 - 1)

-- the next call has a number that fails
abbrev pub fails : Plan → Bool
fails p = goes_on p && list_any (λ number. number == p.calls + 1) p.failing

-- the plan after one more call
abbrev pub after_asking : Plan → Plan
after_asking p = record p {
  calls = if goes_on p then p.calls + 1 else p.calls;
  faults = if fails p then p.faults + 1 else p.faults;
}
