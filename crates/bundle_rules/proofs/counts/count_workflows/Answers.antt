use Rattle.std.proofs.Common.{◌≡◌, ◌++◌, drop, ap, sym, arith, ◌∙◌}
use Rattle.base_types.specs.Limits.{most_workflows}
use Rattle.field_kinds.specs.Rules as rules
use Rattle.bundle_rules.specs.Findings.{refuse}
use Rattle.bundle_rules.specs.Counts.{workflow_spots, made_spots, none_over}
use Rattle.bundle_rules.proofs.Over.{few_enough, too_many}
use Rattle.bundle_rules.proofs.counts.count_workflows.Goals as goal

pub returns-then-len-le-MOST_WORKFLOWS : goal.returns-then-len-le-MOST_WORKFLOWS
returns-then-len-le-MOST_WORKFLOWS c =
    let xs = c.args.items.now in
    let listed : c.add_made.new.spots ≡ workflow_spots 0 xs ++ made_spots 0 xs =
    c.in_ok-add_made.ensures ∙ ap (λ ss. ss ++ made_spots 0 xs) (c.in_ok-add_workflows.ensures ∙ ap (λ ss. ss ++ workflow_spots 0 xs) c.new-spots.ensures) in
    ap (λ ss. none_over (drop most_workflows ss)) (sym listed) ∙ few_enough most_workflows c.add_made.new.spots (omega (arith, c.len.ensures, c.if-len-le-MOST_WORKFLOWS.true))

pub returns : goal.returns
returns c =
    let xs = c.args.items.now in
    let listed : c.add_made.new.spots ≡ workflow_spots 0 xs ++ made_spots 0 xs =
    c.in_ok-add_made.ensures ∙ ap (λ ss. ss ++ made_spots 0 xs) (c.in_ok-add_workflows.ensures ∙ ap (λ ss. ss ++ workflow_spots 0 xs) c.new-spots.ensures) in
    ap (λ ss. none_over (drop most_workflows ss)) (sym listed)
    ∙ too_many most_workflows c.add_made.new.spots c.get-spot.result.now c.get-spot.ensures
    ∙ ap (λ path. refuse c.get-spot.result.now.item rules.too_many path) (sym c.in_ok-copy.ensures)
