use Rattle.std.proofs.Common.{◌≡◌, ◌++◌, subst}
use Rattle.std.specs.Prelude.{OnOk}
use Rattle.wf_places.specs.Places.{output_places}
use Rattle.wf_places.specs.Inside.Views.{around_of}
use Rattle.wf_places.proofs.templates.add_outputs.Goals as goal

pub returns : goal.returns
returns c =
    subst (λ names. OnOk c.add_all_outputs.result (c.add_all_outputs.new.out.items ≡ c.args.out.now.items ++ output_places (around_of c.args.inside.now c.args.spot) names c.args.at.now 0 c.args.outputs.now)) c.in_ok-names.ensures c.add_all_outputs.ensures
