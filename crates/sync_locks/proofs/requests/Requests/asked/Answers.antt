-- There is a request at the place.
use Rattle.std.proofs.Common.{sym, ◌∙◌, ap}
use Rattle.std.specs.Prelude.{option_map, option_copied}
use Rattle.sync_locks.specs.Inside.Rows.{asked_of}
use Rattle.sync_locks.proofs.Stands.{asked_seen, there, lent_some}
use Rattle.sync_locks.proofs.requests.Requests.asked.Goals as goal

pub unwrap-requires : goal.unwrap-requires
unwrap-requires c =
    let x = there c.args.self.now c.args.place c.requires in
    lent_some c.get.result (asked_of x.0)
    (c.get.ensures ∙ asked_seen c.self.inside.asked c.self.inside.states c.args.self.now c.args.place c.self.invariant.kept.each_stands c.self.view_is ∙ ap (option_map asked_of) x.1)

pub returns : goal.returns
returns c =
    sym (ap option_copied c.unwrap.ensures) ∙ c.get.ensures ∙ asked_seen c.self.inside.asked c.self.inside.states c.args.self.now c.args.place c.self.invariant.kept.each_stands c.self.view_is
