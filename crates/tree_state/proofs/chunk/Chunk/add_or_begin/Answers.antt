use Rattle.std.proofs.Common.{Option, None, refl, ap, ◌∙◌}
use Rattle.std.specs.Prelude.{option_map}
use Rattle.std.proofs.lemmas.Result.{on_ok_weaker}
use Rattle.meaning.specs.Lines.{Made, then_parts}
use Rattle.tree_state.specs.Inside.Kids.{kid_before}
use Rattle.tree_state.specs.Inside.Begun.{begun_by}
use Rattle.tree_state.proofs.Begins.{kid_stays, kid_skips, kid_begun}
use Rattle.tree_state.proofs.chunk.Chunk.add_or_begin.Goals as goal

-- the kid's line does not let the task begin
pub returns-then-not-lets_begin : goal.returns-then-not-lets_begin
returns-then-not-lets_begin c =
    let kid = c.args.kid.now in
    let path = c.args.path.now in
    let call = c.args.call.now in
    on_ok_weaker c.add.result (λ added rest. kid_stays kid c.in_ok-shared.field-0 c.args.self.now c.add.new.self rest path call c.in_ok-shared.ensures added (kid_skips kid path call c.lets_begin.result c.lets_begin.ensures c.if-not-lets_begin.true)) c.add.ensures.ok

-- the call has its place already
pub returns-in_ok-shared-in-None : goal.returns-in_ok-shared-in-None
returns-in_ok-shared-in-None c =
    let kid = c.args.kid.now in
    let path = c.args.path.now in
    on_ok_weaker c.add-in-None.result
    (λ added rest.
    ap (λ (o : Option Made). option_map (then_parts c.add-in-None.new.self) (begun_by rest path o)) c.in-None.ensures.after
    ∙ kid_stays kid c.in_ok-shared-in-None.field-0 c.args.self.now c.add-in-None.new.self rest path None c.in_ok-shared-in-None.ensures added (λ more. refl)
    ∙ ap (λ (o : Option Made). option_map (then_parts c.args.self.now) (begun_by (kid_before kid rest) path o)) c.in-None.ensures.value)
    c.add-in-None.ensures.ok

-- the call stands in the place of the line
pub returns-in-Some : goal.returns-in-Some
returns-in-Some c =
    let kid = c.args.kid.now in
    let path = c.args.path.now in
    on_ok_weaker c.add_begun.result
    (λ added rest.
    ap (λ (o : Option Made). option_map (then_parts c.add_begun.new.self) (begun_by rest path o)) c.in-Some.ensures.after
    ∙ kid_begun kid c.args.self.now c.add_begun.new.self rest path c.in-Some.call c.lets_begin.result c.lets_begin.ensures c.if-not-lets_begin.false added
    ∙ ap (λ (o : Option Made). option_map (then_parts c.args.self.now) (begun_by (kid_before kid rest) path o)) c.in-Some.ensures.value)
    c.add_begun.ensures
