use Rattle.std.proofs.Common.{sym}
use Rattle.std.proofs.lemmas.Result.{IfOk-weaker}
use Rattle.history_text.proofs.Readable.{both}
use Rattle.history_text.proofs.history.print_history.Goals as goal

pub returns-clause-reads_back : goal.returns-clause-reads_back
returns-clause-reads_back c =
    IfOk-weaker c.print_lines.result _ _ (λ text same ranked. (both c.args.entries.now c.entries_fit.ensures ranked, sym same)) c.print_lines.ensures
