use Rattle.std.proofs.Common.{◌≡◌, ◌∷◌, [], ◌∙◌, refl, sym, ap, ap₂, arith}
use Rattle.std.specs.Prelude.{nat_lt, Some}
use Rattle.std.specs.Fn.{FnOnceReturnsAtMut}
use Rattle.atomic_table.specs.Table.{rest}
use Rattle.store_turn.proofs.Took.{held_one}
use Rattle.store_turn.proofs.table.TurnTable.work.Goals as goal

pub returns-clause-did : goal.returns-clause-did
returns-clause-did g c =
    let me = c.args.seat.now.me in
    let before = c.slot_mut-value.result.now in
    let after = c.job-result.new.arg2 in
    let out = c.requires.out in
    let empty : rest me.1 ≡ [] = ap rest out.out in
    let is : out.value ≡ before = held_one out.value before [] (rest me.1) (sym out.out ∙ c.slot_mut-value.ensures.value) in
    let seen : me.0.seen ≡ g.T.Grows.list before = out.all ∙ ap g.T.Grows.list is in
    let based : me.0.base ≡ Some (g.T.Grows.base before) = out.kept ∙ ap (λ y. Some (g.T.Grows.base y)) is in
    let gave : FnOnceReturnsAtMut g.F.FnOnce c.args.job before c.job-result.result after = record { shown = _; shows = refl; left = _; met = c.job-result.ensures; leaves = refl } in
    record {
      before = before;
      after = after;
      had = c.slot_mut-value.ensures.value ∙ ap (λ l. (0, before) ∷ l) empty;
      seen = seen;
      gave = gave;
      now = ap (λ l. (me.0, (0, after) ∷ l)) empty;
      grew = c.requires.grows before c.job-result.result after (sym seen) (sym based) gave;
      told = ap₂ nat_lt c.len-before.ensures c.len-after.ensures;
      fits = (let e = c.len-after.ensures in let t = c.len-after.type_inv in omega arith);
    }
