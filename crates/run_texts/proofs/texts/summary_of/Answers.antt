use Rattle.run_texts.proofs.Told.{summary_told}
use Rattle.run_texts.proofs.texts.summary_of.Goals as goal

pub returns : goal.returns
returns g c = summary_told c.print_summary.result c.args.store.now.history c.in_ok-counts.counts c.in_ok-counts.ensures c.print_summary.ensures
