-- The end by what is seen of the tasks and the targets.
use Rattle.std.proofs.Common.{◌≡◌, ◌<◌, ℕ, List, length, map, get_or, sym, ap, ◌∙◌, subst}
use Rattle.std.specs.List.{All}
use Rattle.meaning.specs.Dags.{target_names}
use Rattle.dag_template.specs.declared.stands.Stand.{Stand}
use Rattle.dag_template.specs.Stands.{waits}
use Rattle.dag_template.specs.Following.{phase_seen}
use Rattle.dag_template.proofs.Places.{places_low}
use Rattle.dag_board.specs.Inside.Parts.{or_running}
use Rattle.dag_board.proofs.Endings.{end_told}
use Rattle.dag_board.proofs.board.Board.end.Goals as goal

pub stands_at-requires : goal.stands_at-requires
stands_at-requires c =
    let d = c.args.dag.now in
    let plan = c.args.plan.now in
    let long = c.requires.fits.stands in
    subst (λ (ps : List ℕ). All (λ p. p < length c.as_slice-stands.result.now) ps) (sym c.as_slice.ensures)
    (subst (λ (n : ℕ). All (λ p. p < n) plan.targets) (sym (ap (λ (xs : List Stand). length xs) c.as_slice-stands.ensures.value ∙ long))
    (places_low d.tasks (target_names d) plan.targets c.requires.plan.targets))

pub returns : goal.returns
returns c A called place scope shown =
    let d = c.args.dag.now in
    let plan = c.args.plan.now in
    let b = c.args.self.now in
    let found : c.as_slice-2.result.now ≡ map (λ q. get_or b.stands.items q waits) plan.targets =
    c.as_slice-2.ensures ∙ c.in_ok-targets.ensures
    ∙ (λ i. map (λ q. get_or (c.as_slice-stands.ensures.value i) q waits) (c.as_slice.ensures i)) in
    end_told d plan c.requires.plan b c.rounds_settle.ensures A called place scope shown
    (record { doomed = c.is_doomed-doomed.result; phase = c.or_running-phase.result })
    c.as_slice-stands.result.now c.as_slice-2.result.now c.as_slice-stands.ensures.value found c.is_doomed-doomed.ensures
    (c.or_running-phase.ensures
    ∙ ap or_running
    (c.phase_seen.ensures ∙ ap (phase_seen c.is_doomed-doomed.result c.as_slice-stands.result.now) (c.as_slice-3.ensures ∙ sym c.as_slice-2.ensures)))
