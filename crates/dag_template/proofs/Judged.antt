-- What tasks see of each other, as far as it is looked up.
use Rattle.std.proofs.Common.{◌≡◌, ℕ, List, [], ◌∷◌, map, Bool, true, refl, ap, sym, ◌∙◌}
use Rattle.std.specs.Prelude.{if◌then◌else◌}
use Rattle.std.specs.List.{list_all}
use Rattle.tree_types.specs.Phases.{worst_of}
use Rattle.depends_expr.specs.declared.results.TaskResult.{TaskResult}
use Rattle.depends_expr.specs.Expression.{Expression}
use Rattle.depends_expr.specs.Truth.{truth, names_of}
use Rattle.dag_template.specs.declared.stands.Stand.{Stand}
use Rattle.dag_template.specs.declared.judging.Verdict.TheVariants.{Waits, Holds, Denied}
use Rattle.dag_template.specs.Stands.{Sight, verdict_named}

results_found :
    (of : Sight) (ns : List (List ℕ)) → map (λ n. (of n).result) ns ≡ map (λ (s : Stand). s.result) (map of ns)
results_found of [] = refl
results_found of (n ∷ ns) = ap (λ (rs : List TaskResult). (of n).result ∷ rs) (results_found of ns)

-- by results that are those of the names
pub judged :
    (of : Sight) (e : Expression) (found : List Stand) (results : List TaskResult) (over holds : Bool) →
    found ≡ map of (names_of e) → over ≡ list_all (λ (s : Stand). s.over) found → over ≡ true →
    results ≡ map (λ (s : Stand). s.result) found →
    ((g : List ℕ → TaskResult) → map g (names_of e) ≡ results → holds ≡ truth g e) →
    (if holds then Holds else Denied (worst_of (map (λ (s : Stand). s.branch) found))) ≡ verdict_named of e
judged of e found results over holds is over_is is_over results_is value =
    let ns = names_of e in
    let of_names : map (λ n. (of n).result) ns ≡ results =
    results_found of ns ∙ ap (λ (ss : List Stand). map (λ (s : Stand). s.result) ss) (sym is) ∙ sym results_is in
    let true_is : holds ≡ truth (λ n. (of n).result) e = value (λ n. (of n).result) of_names in
    let all : true ≡ list_all (λ (s : Stand). s.over) found = sym is_over ∙ over_is in
    ap (λ (b : Bool). if b then Holds else Denied (worst_of (map (λ (s : Stand). s.branch) found))) true_is
    ∙ ap
    (λ (b : Bool).
    if b
    then (if truth (λ n. (of n).result) e then Holds else Denied (worst_of (map (λ (s : Stand). s.branch) found)))
    else Waits)
    all
    ∙ ap
    (λ (ss : List Stand).
    if list_all (λ (s : Stand). s.over) ss
    then (if truth (λ n. (of n).result) e then Holds else Denied (worst_of (map (λ (s : Stand). s.branch) ss)))
    else Waits)
    is
