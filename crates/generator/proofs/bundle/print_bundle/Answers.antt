-- Its text is exact, and reads back.
use Rattle.std.proofs.Common.{◌≤◌, Some, ap, ◌∙◌, arith}
use Rattle.serde_json.specs.Data.{depth}
use Rattle.serde_json.specs.Read.{max_depth}
use Rattle.serde_json.specs.Read.{read}
use Rattle.serde_json.specs.View.{view}
use Rattle.serde_json.specs.Written.{has_float, compact_text}
use Rattle.generator.specs.Bundles.{bundle_text}
use Rattle.generator.specs.Draws.{drawn}
use Rattle.generator.proofs.Printed.{plain, flat}
use Rattle.generator.proofs.bundle.print_bundle.Goals as goal

pub returns-clause-text : goal.returns-clause-text
unfolding bundle_text
returns-clause-text c =
    c.from_vec.ensures
    ∙ c.in_ok-to_vec.ensures.text (ap has_float c.in_ok-bundle.ensures ∙ plain (drawn c.args.seed 0 c.args.size))
    ∙ ap compact_text c.in_ok-bundle.ensures

pub returns-clause-reads_back : goal.returns-clause-reads_back
returns-clause-reads_back c =
    let deep : depth (view c.in_ok-bundle.bundle) ≤ max_depth = omega (arith, ap depth c.in_ok-bundle.ensures, flat (drawn c.args.seed 0 c.args.size)) in
    ap read c.from_vec.ensures ∙ c.in_ok-to_vec.ensures.reads_back deep ∙ ap Some c.in_ok-bundle.ensures
