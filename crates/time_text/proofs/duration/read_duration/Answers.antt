use Rattle.std.proofs.Common.{◌≡◌, subst, sym}
use Rattle.time_text.specs.Durations.{IsReading, duration_of}
use Rattle.time_text.proofs.IsReading.{duration_of_reads}
use Rattle.time_text.proofs.duration.read_duration.Goals as goal

pub returns-clause-grammar : goal.returns-clause-grammar
returns-clause-grammar c =
    let meant : c.read_seconds.result ≡ duration_of c.args.text.now = cc (c.as_bytes.ensures.value, c.read_seconds.ensures) in
    subst (λ r. IsReading c.args.text.now r) (sym meant) (duration_of_reads c.args.text.now)
