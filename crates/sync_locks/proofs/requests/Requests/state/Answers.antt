-- There is a state at the place.
use Rattle.std.proofs.Common.{arith, sym, ap, ◌∙◌}
use Rattle.std.specs.Prelude.{is_some}
use Rattle.std.proofs.lemmas.Option.{slice_get-get_or}
use Rattle.books.specs.declared.LockState.TheVariants.{Holding}
use Rattle.sync_locks.proofs.Stands.{length_seen, state_seen}
use Rattle.sync_locks.proofs.requests.Requests.state.Goals as goal

pub unwrap-requires : goal.unwrap-requires
unwrap-requires c =
    let states = c.self.inside.states in
    let long = length_seen c.self.inside.asked states c.args.self.now c.self.invariant.kept.each_stands c.self.view_is in
    ap is_some (c.get.ensures ∙ slice_get-get_or states c.args.place Holding (omega (arith, c.requires, long)))

pub returns : goal.returns
returns c =
    sym c.unwrap.ensures
    ∙ c.get.ensures
    ∙ state_seen c.self.inside.asked c.self.inside.states c.args.self.now c.args.place c.self.invariant.kept.each_stands c.self.view_is
