use Rattle.std.proofs.Common.{◌≡◌, ◌++◌, subst}
use Rattle.std.specs.Prelude.{OnOk, codes}
use Rattle.json_fields.specs.Paths.{field_of}
use Rattle.wf_places.specs.Calls.{argument_places}
use Rattle.wf_places.specs.Inside.Views.{around_of}
use Rattle.wf_places.proofs.arguments.add_arguments.Goals as goal

pub returns : goal.returns
returns c =
    let around = around_of c.args.inside.now c.args.spot in
    let list = field_of c.args.at.now (codes "arguments.parameters") in
    let at_list = subst (λ path. OnOk c.add_all.result (c.add_all.new.out.items ≡ c.args.out.now.items ++ argument_places around c.args.names.now path 0 c.args.arguments.now)) c.in_ok-list.ensures c.add_all.ensures in
    subst (λ names. OnOk c.add_all.result (c.add_all.new.out.items ≡ c.args.out.now.items ++ argument_places around names list 0 c.args.arguments.now)) c.requires at_list
