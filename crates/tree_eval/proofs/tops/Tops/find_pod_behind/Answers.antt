-- The first of the entrypoint, else of the exit handler.
use Rattle.std.proofs.Common.{ap, ◌∙◌, refl, arith, length, ◌≤◌, ◌+◌}
use Rattle.std.specs.Prelude.{Some, None, ℕ}
use Rattle.tree_types.specs.declared.want.Want.{Want}
use Rattle.meaning.specs.Lines.{Made, lines_in}
use Rattle.tree_state.specs.Finding.{found_from}
use Rattle.tree_eval.proofs.Pods.{pods_of, main_pod, main_known, main_exact, no_exit, no_exit_exact, exit_pod, exit_known, exit_exact, counts}
use Rattle.tree_eval.proofs.tops.Tops.find_pod_behind.Goals as goal

pub returns-in-Some-clause-exact : goal.returns-in-Some-clause-exact
returns-in-Some-clause-exact g c few =
    let t = g.T.WantTest.accepts c.args.test.now in
    main_exact c.args.self.now t c.args.known (c.in-Some.found.0, c.in-Some.found.1.now) (c.in-Some.ensures ∙ ap (λ (b : Made). found_from c.args.known t (pods_of (lines_in b))) c.state-main.ensures)

pub returns-in-Some-clause-first : goal.returns-in-Some-clause-first
returns-in-Some-clause-first g c none =
    let t = g.T.WantTest.accepts c.args.test.now in
    main_pod c.args.self.now t c.args.known none (c.in-Some.found.0, c.in-Some.found.1.now) (c.in-Some.ensures ∙ ap (λ (b : Made). found_from c.args.known t (pods_of (lines_in b))) c.state-main.ensures)

pub returns-in-Some-clause-known : goal.returns-in-Some-clause-known
returns-in-Some-clause-known g c none =
    let t = g.T.WantTest.accepts c.args.test.now in
    main_known c.args.self.now t c.args.known none (c.in-Some.found.0, c.in-Some.found.1.now) (c.in-Some.ensures ∙ ap (λ (b : Made). found_from c.args.known t (pods_of (lines_in b))) c.state-main.ensures)

pub returns-in_default-exit-clause-exact : goal.returns-in_default-exit-clause-exact
returns-in_default-exit-clause-exact g c few =
    let t = g.T.WantTest.accepts c.args.test.now in
    no_exit_exact c.args.self.now t c.args.known (c.in_default.ensures ∙ ap (λ (b : Made). found_from c.args.known t (pods_of (lines_in b))) c.state-main.ensures) c.in_default-exit.is

pub returns-in_default-exit-clause-first : goal.returns-in_default-exit-clause-first
returns-in_default-exit-clause-first g c none =
    let t = g.T.WantTest.accepts c.args.test.now in
    no_exit c.args.self.now t c.args.known none (c.in_default.ensures ∙ ap (λ (b : Made). found_from c.args.known t (pods_of (lines_in b))) c.state-main.ensures) c.in_default-exit.is

pub returns-in-None-clause-exact : goal.returns-in-None-clause-exact
returns-in-None-clause-exact g c few =
    let t = g.T.WantTest.accepts c.args.test.now in
    exit_exact c.args.self.now t c.args.known (c.in_default.ensures ∙ ap (λ (b : Made). found_from c.args.known t (pods_of (lines_in b))) c.state-main.ensures) c.in-Some-exit.exit None c.saturating_sub.result c.pods-before.result c.in-Some-exit.is c.in-None.ensures c.saturating_sub.ensures (c.pods-before.ensures ∙ ap (λ (b : Made). length (pods_of (lines_in b))) c.state-main.ensures)

pub returns-in-None-clause-first : goal.returns-in-None-clause-first
returns-in-None-clause-first g c none =
    let t = g.T.WantTest.accepts c.args.test.now in
    exit_pod c.args.self.now t c.args.known none (c.in_default.ensures ∙ ap (λ (b : Made). found_from c.args.known t (pods_of (lines_in b))) c.state-main.ensures) c.in-Some-exit.exit None None c.saturating_sub.result c.pods-before.result c.in-Some-exit.is refl c.in-None.ensures c.saturating_sub.ensures (c.pods-before.ensures ∙ ap (λ (b : Made). length (pods_of (lines_in b))) c.state-main.ensures)

pub returns-in-Some-find_pod_from-clause-exact : goal.returns-in-Some-find_pod_from-clause-exact
returns-in-Some-find_pod_from-clause-exact g c few =
    let t = g.T.WantTest.accepts c.args.test.now in
    let count = c.pods-before.ensures ∙ ap (λ (b : Made). length (pods_of (lines_in b))) c.state-main.ensures in
    let found : ℕ × Want = (c.in-Some-find_pod_from.at, c.in-Some-find_pod_from.want.now) in
    ap (λ (k : ℕ). Some (k, c.in-Some-find_pod_from.want.now)) (counts c.args.self.now t c.in-Some-exit.exit found c.saturating_sub.result c.pods-before.result c.saturating_add.result c.in-Some-exit.is c.in-Some-find_pod_from.ensures count few c.saturating_add.ensures)
    ∙ exit_exact c.args.self.now t c.args.known (c.in_default.ensures ∙ ap (λ (b : Made). found_from c.args.known t (pods_of (lines_in b))) c.state-main.ensures) c.in-Some-exit.exit (Some found) c.saturating_sub.result c.pods-before.result c.in-Some-exit.is c.in-Some-find_pod_from.ensures c.saturating_sub.ensures count

pub returns-in-Some-find_pod_from-clause-first : goal.returns-in-Some-find_pod_from-clause-first
returns-in-Some-find_pod_from-clause-first g c none =
    let t = g.T.WantTest.accepts c.args.test.now in
    exit_pod c.args.self.now t c.args.known none (c.in_default.ensures ∙ ap (λ (b : Made). found_from c.args.known t (pods_of (lines_in b))) c.state-main.ensures) c.in-Some-exit.exit (Some c.in-Some-find_pod_from.want.now) (Some (c.in-Some-find_pod_from.at, c.in-Some-find_pod_from.want.now)) c.saturating_sub.result c.pods-before.result c.in-Some-exit.is refl c.in-Some-find_pod_from.ensures c.saturating_sub.ensures (c.pods-before.ensures ∙ ap (λ (b : Made). length (pods_of (lines_in b))) c.state-main.ensures)

pub returns-in-Some-find_pod_from-clause-known : goal.returns-in-Some-find_pod_from-clause-known
returns-in-Some-find_pod_from-clause-known g c none =
    let t = g.T.WantTest.accepts c.args.test.now in
    let few : c.saturating_add.result ≤ c.pods-before.result + c.in-Some-find_pod_from.at = omega (arith, c.saturating_add.ensures) in
    exit_known c.args.self.now t c.args.known none (c.in_default.ensures ∙ ap (λ (b : Made). found_from c.args.known t (pods_of (lines_in b))) c.state-main.ensures) c.in-Some-exit.exit (c.in-Some-find_pod_from.at, c.in-Some-find_pod_from.want.now) c.saturating_sub.result c.pods-before.result c.saturating_add.result c.in-Some-exit.is c.in-Some-find_pod_from.ensures c.saturating_sub.ensures (c.pods-before.ensures ∙ ap (λ (b : Made). length (pods_of (lines_in b))) c.state-main.ensures) few
