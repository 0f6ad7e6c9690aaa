-- Whether a task may begin, and whether it waits, is told by what is over and by results alone.
use Rattle.std.proofs.Common.{◌≡◌, ℕ, List, [], ◌∷◌, map, Bool, true, false, ◌&&◌, Option, Some, None, refl, ap, subst}
use Rattle.std.specs.Prelude.{if◌then◌else◌}
use Rattle.std.specs.List.{list_all}
use Rattle.tree_types.specs.declared.phase.Phase.{Phase}
use Rattle.tree_types.specs.Phases.{worst_of}
use Rattle.depends_expr.specs.declared.results.TaskResult.{TaskResult}
use Rattle.depends_expr.specs.Expression.{Expression}
use Rattle.depends_expr.specs.Truth.{truth, names_of}
use Rattle.wf_manifest.specs.declared.calls.Task.{Task}
use Rattle.meaning.specs.Dags.{Names}
use Rattle.dag_template.specs.declared.stands.Stand.{Stand}
use Rattle.dag_template.specs.declared.judging.Verdict.{Verdict}
use Rattle.dag_template.specs.declared.judging.Verdict.TheVariants.{Waits, Holds, Denied}
use Rattle.dag_template.specs.Stands.{Sight, covers_of, is_met, are_met, verdict_by, verdict_waiting, verdict}

-- but for a branch phase, one verdict says what another says
abbrev Keeps : Verdict → Verdict → Type 0
Keeps v w = (v ≡ Holds → w ≡ Holds) × (v ≡ Waits → w ≡ Waits)

abbrev decided : Bool → Bool → Phase → Verdict
decided over holds branch = if over then (if holds then Holds else Denied branch) else Waits

branch_apart : (over holds : Bool) (p q : Phase) → Keeps (decided over holds p) (decided over holds q)
branch_apart true true p q = (λ e. e, λ e. e)
branch_apart true false p q = (λ e. absurd (let no : Denied p ≡ Holds = e in cc), λ e. absurd (let no : Denied p ≡ Waits = e in cc))
branch_apart false holds p q = (λ e. e, λ e. e)

by_alike :
    (found others : List Stand) (b c : Bool) → list_all (λ (s : Stand). s.over) found ≡ list_all (λ (s : Stand). s.over) others → b ≡ c →
    Keeps (verdict_by found b) (verdict_by others c)
by_alike found others b c over same =
    subst (λ (x : Bool). Keeps (verdict_by found b) (decided x c (worst_of (map (λ (s : Stand). s.branch) others)))) over
    (subst (λ (y : Bool). Keeps (verdict_by found b) (decided (list_all (λ (s : Stand). s.over) found) y (worst_of (map (λ (s : Stand). s.branch) others)))) same
    (branch_apart (list_all (λ (s : Stand). s.over) found) b (worst_of (map (λ (s : Stand). s.branch) found)) (worst_of (map (λ (s : Stand). s.branch) others))))

module _ (ts : List Task) (of by : Sight) (alike : (n : List ℕ) → ((of n).over ≡ (by n).over) × ((of n).result ≡ (by n).result)) where
  over_alike : (ns : Names) → list_all (λ (s : Stand). s.over) (map of ns) ≡ list_all (λ (s : Stand). s.over) (map by ns)
  over_alike [] = refl
  over_alike (n ∷ ns) = λ i. (alike n).0 i && over_alike ns i

  met_alike : (ns : Names) → are_met ts ns (map of ns) ≡ are_met ts ns (map by ns)
  met_alike [] = refl
  met_alike (n ∷ ns) = λ i. is_met (covers_of ts n) ((alike n).1 i) && met_alike ns i

  truth_alike : (e : Expression) → truth (λ n. (of n).result) e ≡ truth (λ n. (by n).result) e
  truth_alike e = ap (λ (f : List ℕ → TaskResult). truth f e) (λ i n. (alike n).1 i)

  waiting_alike : (o : Option Expression) (dependencies : Option Names) → Keeps (verdict_waiting ts of o dependencies) (verdict_waiting ts by o dependencies)
  waiting_alike (Some e) dependencies =
      by_alike (map of (names_of e)) (map by (names_of e)) (truth (λ n. (of n).result) e) (truth (λ n. (by n).result) e) (over_alike (names_of e)) (truth_alike e)
  waiting_alike None (Some ns) = by_alike (map of ns) (map by ns) (are_met ts ns (map of ns)) (are_met ts ns (map by ns)) (over_alike ns) (met_alike ns)
  waiting_alike None None = (λ e. e, λ e. e)

-- branch phases matter to what is Denied alone
pub verdicts_alike :
    (ts : List Task) (of by : Sight) (t : Task) → ((n : List ℕ) → ((of n).over ≡ (by n).over) × ((of n).result ≡ (by n).result)) →
    (verdict ts of t ≡ Holds → verdict ts by t ≡ Holds) × (verdict ts of t ≡ Waits → verdict ts by t ≡ Waits)
verdicts_alike ts of by t alike = waiting_alike ts of by alike t.depends t.dependencies
