-- The names that are left decide.
use Rattle.std.proofs.Common.{◌≡◌, drop}
use Rattle.std.specs.Prelude.{bytes_eq}
use Rattle.std.specs.List.{list_any}
use Rattle.worker_job.proofs.job.is_among.Given as goal

abbrev pub invariant-loop-tried : goal.invariant-loop-tried
invariant-loop-tried l =
    list_any (bytes_eq l.name) (drop l.tried-index l.names) ≡ list_any (bytes_eq l.name) l.names
