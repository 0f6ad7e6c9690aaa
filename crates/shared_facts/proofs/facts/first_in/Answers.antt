-- The fact at the position is of this kind and path, or the first one stands behind it.
use Rattle.std.proofs.Common.{◌≡◌, sym, ◌∙◌, ap}
use Rattle.std.specs.Prelude.{Some, slice_get, option_copied}
use Rattle.shared_facts.specs.Inside.Kinds.{is_of}
use Rattle.shared_facts.proofs.Found.{found_here, found_later}
use Rattle.shared_facts.proofs.facts.first_in.Goals as goal

pub returns-then-is_of : goal.returns-then-is_of
returns-then-is_of c =
    let J = c.args.bucket.now in
    let i = c.loop-position.position in
    let f = c.unwrap-fact.result.now in
    let there : slice_get J i ≡ Some f = sym c.get.ensures ∙ ap option_copied c.unwrap-fact.ensures in
    found_here (is_of c.args.kind c.args.sels.now) J i f there (sym c.is_of.ensures ∙ c.if-is_of.true) c.loop-position.invariant

pub loop-position-preserved : goal.loop-position-preserved
loop-position-preserved c =
    let J = c.args.bucket.now in
    let i = c.loop-position.position in
    let f = c.unwrap-fact.result.now in
    let there : slice_get J i ≡ Some f = sym c.get.ensures ∙ ap option_copied c.unwrap-fact.ensures in
    found_later (is_of c.args.kind c.args.sels.now) J i f there (sym c.is_of.ensures ∙ c.if-is_of.false) c.loop-position.invariant
