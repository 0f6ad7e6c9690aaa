use Rattle.history_text.proofs.LinesBack.{no_feed, no_line}
use Rattle.history_text.proofs.lines.first_line.Goals as goal

pub returns-in_default : goal.returns-in_default
returns-in_default c = no_feed c.args.bytes.now c.in_default.ensures

pub returns-in-Err : goal.returns-in-Err
returns-in-Err c = no_line c.args.bytes.now c.in-Some.len c.in-Err.fault c.in-Some.ensures c.in-Err.ensures
