-- Where no read and no write failed, no status says that one did.
use Rattle.std.proofs.Common.{◌≡◌, ℕ, ◌+◌, ◌-◌, ◌^◌, ◌<◌, ◌≤◌, List, min, refl, sym, ◌∙◌, ap, subst, arith}
use Rattle.std.specs.declared.option.Option.{Option}
use Rattle.std.specs.declared.option.Option.TheVariants.{Some, None}
use Rattle.io_edge.specs.Cause.{Rose}
use Rattle.wf_program.specs.declared.status.Status.{Status}
use Rattle.wf_program.specs.declared.status.Status.TheVariants.{Done, Usage, ReadFault, WriteFault, NotJson, Refused, StoreFault, TooLarge, Memory, TooLong}
use Rattle.wf_program.specs.Runs.{Edge, Kept, Run, SomeFailed, HasRun, Ends, Did, IsUnfailed, NoTransferFailed, NamesNoFailedTransfer}

not_more : (most before after : ℕ) → after ≡ before → before < most → min (before + 1) most ≤ after → ⊥
not_more most before after same below rose = absurd (omega (arith, same, below, rose))

none_rose : (edge : Edge) → IsUnfailed edge → SomeFailed edge → ⊥
none_rose edge is rose = not_more (2 ^ 64 - 1) edge.faults_before edge.faults_after is.none is.shows rose

run_names : (words : List (List ℕ)) (source : Edge) (before : ℕ) (k : Kept) (text : List ℕ) → HasRun words source before k ReadFault text → ⊥
run_names words source before k text run = run.ends

ends_names : (words : List (List ℕ)) (source : Edge) (before : ℕ) (store : Option Kept) (text : List ℕ) → IsUnfailed source → Ends words source before store ReadFault text → ⊥
ends_names words source before None text is ends = none_rose source is ends.4
ends_names words source before (Some k) text is ends = run_names words source before k text ends

pub complete_by : (run : Run) (status : Status) → Did run status → NoTransferFailed run → NamesNoFailedTransfer status
complete_by run WriteFault did none = none_rose run.sink none.sink did.4
complete_by run ReadFault did none = ends_names run.words run.source run.faults_before run.store did.0 none.source did.1
complete_by run Done did none = tt
complete_by run Usage did none = tt
complete_by run NotJson did none = tt
complete_by run Refused did none = tt
complete_by run StoreFault did none = tt
complete_by run TooLarge did none = tt
complete_by run Memory did none = tt
complete_by run TooLong did none = tt
