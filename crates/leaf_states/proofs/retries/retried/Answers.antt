use Rattle.std.proofs.Common.{◌≡◌, ◌∙◌, suc, arith}
use Rattle.meaning.specs.Pods.{attempts}
use Rattle.leaf_states.proofs.Tries.{over_all, count_retry, retry_fails}
use Rattle.leaf_states.proofs.retries.retried.Goals as goal

pub returns-in_err-tries : goal.returns-in_err-tries
returns-in_err-tries g c =
    let a = attempts (g.R.Recorded.answers c.args.recorded.now) c.args.place c.args.declared.now c.args.retry.now in
    let taken : c.args.room.now ≡ suc c.take.new.self = c.in_ok-take.ensures.takes in
    retry_fails c.args.place a c.args.room.now c.take.new.self c.try_all.new.room c.from_residual-in_err-tries.result c.in_err-tries.field-0.0 taken c.in_err-tries.ensures c.from_residual-in_err-tries.ensures.1

pub returns : goal.returns
returns g c =
    let a = attempts (g.R.Recorded.answers c.args.recorded.now) c.args.place c.args.declared.now c.args.retry.now in
    let tries = c.in_ok-tries.tries in
    let e = c.in_ok-tries.ensures in
    let taken : c.args.room.now ≡ suc c.take.new.self = c.in_ok-take.ensures.takes in (
      c.in_ok-retry_state.ensures a.last e.0.last_is ∙ over_all c.args.place tries.all tries.follow a e.0,
      omega (arith, count_retry c.args.place a, taken, e.1),
    )
