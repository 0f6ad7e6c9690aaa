-- The entrypoint stays as it was, and the exit handler makes what is meant of it.
use Rattle.std.proofs.Common.{◌≡◌, ◌+◌, ap, ◌∙◌, subst, arith}
use Rattle.std.specs.Prelude.{ℕ}
use Rattle.tree_state.specs.Counting.{count}
use Rattle.tree_eval.proofs.Behind.{both_made, exit_fails, main_fails}
use Rattle.tree_eval.proofs.tops.Tops.again_behind.Goals as goal

pub returns-in_err-take_all : goal.returns-in_err-take_all
returns-in_err-take_all g c =
    main_fails c.args.manifest.now (g.R.Recorded.answers c.args.recorded.now) (g.R.Recorded.answers c.args.before.now) c.args.rest.now c.top_calls_off_stay.ensures c.requires.same c.args.self.now c.requires.old
    c.new-room.result c.take_all.new.self c.count.result c.new-room.ensures (c.count.ensures.all ∙ ap count c.state.ensures)
    c.from_residual-in_err-take_all.result c.in_err-take_all.field-0.0 c.from_residual-in_err-take_all.ensures.1 c.in_err-take_all.ensures.takes

pub returns-in_err-exit : goal.returns-in_err-exit
returns-in_err-exit g c =
    let many : c.count.result ≡ count c.args.self.now.main = c.count.ensures.all ∙ ap count c.state.ensures in
    let taken : c.take_all.new.self + count c.args.self.now.main ≡ c.new-room.result = subst (λ (n : ℕ). c.take_all.new.self + n ≡ c.new-room.result) many c.in_ok-take_all.ensures.takes in
    exit_fails c.args.manifest.now (g.R.Recorded.answers c.args.recorded.now) (g.R.Recorded.answers c.args.before.now) c.args.rest.now c.top_calls_off_stay.ensures c.requires.same c.args.self.now c.requires.old
    c.new-room.result c.take_all.new.self c.exit_after.new.room c.new-room.ensures taken
    c.from_residual-in_err-exit.result c.in_err-exit.field-0.0 c.from_residual-in_err-exit.ensures.1 c.in_err-exit.ensures

pub returns : goal.returns
returns g c =
    let many : c.count.result ≡ count c.args.self.now.main = c.count.ensures.all ∙ ap count c.state.ensures in
    let taken : c.take_all.new.self + count c.args.self.now.main ≡ c.new-room.result = subst (λ (n : ℕ). c.take_all.new.self + n ≡ c.new-room.result) many c.in_ok-take_all.ensures.takes in
    both_made c.args.manifest.now (g.R.Recorded.answers c.args.recorded.now) (g.R.Recorded.answers c.args.before.now) c.args.rest.now c.top_calls_off_stay.ensures c.requires.same c.args.self.now c.requires.old
    c.new-room.result c.take_all.new.self c.exit_after.new.room c.new-room.ensures taken
    c.in_ok-main.main c.in_ok-exit.exit c.in_ok-main.ensures c.in_ok-exit.ensures
