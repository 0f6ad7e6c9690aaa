-- The save that is looked at is the last of its cache and key, since none behind it is.
use Rattle.std.proofs.Common.{◌≡◌, ℕ, ◌+◌, ◌-◌, true, false, drop, sym, ◌∙◌, ap, arith}
use Rattle.std.specs.Prelude.{Some, None, slice_get, option_copied}
use Rattle.saves.specs.Saves.{last_save}
use Rattle.memo_cache.proofs.Found.{last_from, is_last}
use Rattle.memo_cache.proofs.table.last_in.Goals as goal

pub returns-then-is_of : goal.returns-then-is_of
returns-then-is_of c =
    let ss = c.args.bucket.now in
    let cache = c.args.cache.now in
    let key = c.args.key.now in
    let i : ℕ = c.loop-left.left - 1 in
    let there : slice_get ss i ≡ Some c.unwrap-saved.result.now = sym c.get.ensures ∙ ap option_copied c.unwrap-saved.ensures in
    let left : i + 1 ≡ c.loop-left.left = omega arith in
    let behind : last_save (drop (i + 1) ss) cache key ≡ None = ap (λ (n : ℕ). last_save (drop n ss) cache key) left ∙ c.loop-left.invariant.none in
    sym (is_last ss i c.unwrap-saved.result.now cache key (last_from ss i c.unwrap-saved.result.now cache key true there behind (sym c.is_of.ensures ∙ c.if-is_of.true)))

pub loop-left-preserved : goal.loop-left-preserved
loop-left-preserved c =
    let ss = c.args.bucket.now in
    let cache = c.args.cache.now in
    let key = c.args.key.now in
    let i : ℕ = c.loop-left.left - 1 in
    let there : slice_get ss i ≡ Some c.unwrap-saved.result.now = sym c.get.ensures ∙ ap option_copied c.unwrap-saved.ensures in
    let left : i + 1 ≡ c.loop-left.left = omega arith in
    let behind : last_save (drop (i + 1) ss) cache key ≡ None = ap (λ (n : ℕ). last_save (drop n ss) cache key) left ∙ c.loop-left.invariant.none in
    record {
      within = (let h = c.loop-left.invariant.within in omega arith);
      none = last_from ss i c.unwrap-saved.result.now cache key false there behind (sym c.is_of.ensures ∙ c.if-is_of.false);
    }
