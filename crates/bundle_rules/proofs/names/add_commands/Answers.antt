use Rattle.std.proofs.Common.{◌++◌, add-one}
use Rattle.bundle_rules.specs.Names.{made, commands_asked}
use Rattle.bundle_rules.proofs.Commands.{named_more, listed_more}
use Rattle.bundle_rules.proofs.names.add_commands.Goals as goal

pub loop-j-preserved : goal.loop-j-preserved
loop-j-preserved c =
    let cs = c.args.commands.now in
    let j = c.loop-j.j in
    let turn = c.index-commands-j.result in
    rw add-one (record {
      listed = listed_more cs j turn c.loop-j-test.true c.index-commands-j.is c.args.all.now c.loop-j.names c.in_ok-names.names c.args.item
          c.loop-j.places c.push.new.self (c.args.places.now ++ commands_asked c.args.all.now c.args.before c.args.item 0 cs)
          c.in_ok-command_asked.field-0 c.in_ok-command_asked.ensures c.in_ok-push.ensures.ok c.in_ok-names.ensures
          c.loop-j.invariant.listed;
      named = named_more cs j turn c.loop-j-test.true c.index-commands-j.is c.loop-j.names c.in_ok-names.names
          (c.args.before ++ made cs) c.in_ok-names.ensures c.loop-j.invariant.named;
    })
