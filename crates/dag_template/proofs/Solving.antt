-- Where the tasks of a DAG have a rank, its standings solve its equations: after k rounds each task stands for good that
-- ranks below k.
use Rattle.std.proofs.Common.{◌≡◌, refl, sym, ap, subst, ◌∙◌, ◌+◌, ◌<◌, arith}
use Rattle.std.proofs.lemmas.Slice.Eq.{bytes_eq-Decides}
use Rattle.std.proofs.lemmas.List.Elements.{recursion_from_All}
use Rattle.std.specs.Prelude.{ℕ, zero, suc, List, [], ◌∷◌, ◌++◌, Bool, true, false, cond, Option, Some, None, bytes_eq}
use Rattle.std.specs.List.{All, AllByRecursion, list_all}
use Rattle.tree_types.specs.Phases.{worst_of}
use Rattle.depends_expr.specs.Expression.{Expression}
use Rattle.depends_expr.specs.Truth.{truth, named}
use Rattle.wf_manifest.specs.declared.calls.Task.{Task}
use Rattle.wf_manifest.specs.declared.calls.Dag.{Dag}
use Rattle.wf_manifest.specs.Valid.{waits_for, HasRank}
use Rattle.scopes.specs.Substitution.{Scope}
use Rattle.meaning.specs.declared.lines.Place.{Place}
use Rattle.meaning.specs.Answers.{Answers}
use Rattle.meaning.specs.Lines.{numbered}
use Rattle.meaning.specs.Steps.{Caller}
use Rattle.meaning.specs.Dags.{Names, awaited, is_meant, Standing, is_over, result_of, tags_up_to, tags_before, Look, look, Standings, free, omitted, decided_by, waits_by, meant, meant_by, standing, with_standing, rounds, standings}
use Rattle.growth.specs.Rounds.{Solves, RoundsSettle}
use Rattle.dag_template.proofs.Awaiting.{Each, each_map, awaited_each}
use Rattle.dag_template.proofs.Alike.{Alike, alike_refl, AlikeAt, over_same, branches_same, truth_same}

same_alike : (a b : Look) (n : List ℕ) → a n ≡ b n → AlikeAt a b n
same_alike a b n e = subst (λ (x : Standing). Alike (a n) x) e (alike_refl (a n))

tags_same : (a b : Look) (ns : Names) → Each (λ n. a n ≡ b n) ns → tags_before a ns ≡ tags_before b ns
tags_same a b [] h = refl
tags_same a b (n ∷ ns) h = λ i. tags_up_to n (h.0 i) ++ tags_same a b ns h.1 i

found_same : (c : Bool) (x y u v : Standing) → (c ≡ true → x ≡ y) → u ≡ v → cond c x u ≡ cond c y v
found_same true x y u v f h = f refl
found_same false x y u v f h = h

module _ (A : Answers) (called : Caller) (place : Place) (scope : Scope) (d : Dag) where
  -- ---- how a task stands depends only on the tasks that it waits for

  module _ (a b : Look) (i : ℕ) (t : Task) where
    alike_at : (w : Expression) → Each (λ n. a n ≡ b n) (named w) → Each (AlikeAt a b) (named w)
    alike_at w h = each_map (λ n. a n ≡ b n) (AlikeAt a b) (named w) (same_alike a b) h

    decided_same :
        (w : Expression) (c : Bool) → Each (λ n. a n ≡ b n) (named w) →
        decided_by A called place scope d a i t w c ≡ decided_by A called place scope d b i t w c
    decided_same w true h = ap (λ (x : Scope). free A called place scope d x i t) (tags_same a b (named w) h)
    decided_same w false h =
        λ j. omitted A called place scope d (worst_of (branches_same a b (named w) (alike_at w h) j)) (tags_same a b (named w) h j) i t

    waits_same :
        (w : Expression) (c : Bool) → Each (λ n. a n ≡ b n) (named w) →
        waits_by A called place scope d a i t w c ≡ waits_by A called place scope d b i t w c
    waits_same w false h = refl
    waits_same w true h =
        decided_same w (truth (λ n. result_of (a n)) w) h
        ∙ ap (decided_by A called place scope d b i t w) (truth_same a b w (alike_at w h))

    meant_same :
        (o : Option Expression) → ((w : Expression) → o ≡ Some w → Each (λ n. a n ≡ b n) (named w)) →
        meant A called place scope d a i t o ≡ meant A called place scope d b i t o
    meant_same None h = refl
    meant_same (Some w) h =
        waits_same w (list_all (λ n. is_over (a n)) (named w)) (h w refl)
        ∙ ap (waits_by A called place scope d b i t w) (over_same a b (named w) (alike_at w (h w refl)))

    meant_same_by :
        (c : Bool) → ((w : Expression) → awaited d.tasks t ≡ Some w → Each (λ n. a n ≡ b n) (named w)) →
        meant_by A called place scope d a i t c ≡ meant_by A called place scope d b i t c
    meant_same_by true h = meant_same (awaited d.tasks t) h
    meant_same_by false h = refl

    standing_same :
        Each (λ n. a n ≡ b n) (waits_for t) → standing A called place scope d a i t ≡ standing A called place scope d b i t
    standing_same h = meant_same_by (is_meant d t) (awaited_each (λ n. a n ≡ b n) d.tasks t h)

  abbrev entry : Look → ℕ → Task → Task × Standing
  entry a = with_standing A called place scope d a

  abbrev round : ℕ → Standings
  round k = rounds A called place scope d k

  module _ (h : HasRank d.tasks) where
    -- each task of these stands higher than those that it waits for
    abbrev Higher : List Task → Type 0
    Higher us = AllByRecursion (λ (t : Task). Each (λ n. h.rank n < h.rank t.call.name) (waits_for t)) us

    higher_of : (us : List Task) → AllByRecursion (λ (t : Task). All (λ n. h.rank n < h.rank t.call.name) (waits_for t)) us → Higher us
    higher_of [] x = tt
    higher_of (t ∷ us) x = (recursion_from_All (λ n. h.rank n < h.rank t.call.name) (waits_for t) x.0, higher_of us x.1)

    higher : Higher d.tasks
    higher = higher_of d.tasks (recursion_from_All (λ (t : Task). All (λ n. h.rank n < h.rank t.call.name) (waits_for t)) d.tasks h.higher)

    task_same :
        (k : ℕ) → ((n : List ℕ) → h.rank n < k → look (round k) n ≡ look (round (suc k)) n) → (i : ℕ) (t : Task) →
        Each (λ n. h.rank n < h.rank t.call.name) (waits_for t) → h.rank t.call.name < suc k →
        standing A called place scope d (look (round k)) i t ≡ standing A called place scope d (look (round (suc k))) i t
    task_same k before i t lower few =
        standing_same (look (round k)) (look (round (suc k))) i t
        (each_map (λ n. h.rank n < h.rank t.call.name) (λ n. look (round k) n ≡ look (round (suc k)) n) (waits_for t)
        (λ n l. before n (omega (arith, l, few))) lower)

    rows_same :
        (k : ℕ) → ((n : List ℕ) → h.rank n < k → look (round k) n ≡ look (round (suc k)) n) → (n : List ℕ) → h.rank n < suc k →
        (i : ℕ) (us : List Task) → Higher us →
        look (numbered (entry (look (round k))) i us) n ≡ look (numbered (entry (look (round (suc k)))) i us) n
    rows_same k before n few i [] lower = refl
    rows_same k before n few i (t ∷ us) lower =
        found_same (bytes_eq t.call.name n) (standing A called place scope d (look (round k)) i t)
        (standing A called place scope d (look (round (suc k))) i t)
        (look (numbered (entry (look (round k))) (suc i) us) n) (look (numbered (entry (look (round (suc k)))) (suc i) us) n)
        (λ e. (let same : t.call.name ≡ n = (bytes_eq-Decides t.call.name n).0 e in
        task_same k before i t lower.0 (subst (λ (m : List ℕ). h.rank m < suc k) (sym same) few)))
        (rows_same k before n few (suc i) us lower.1)

    settled : (k : ℕ) (n : List ℕ) → h.rank n < k → look (round k) n ≡ look (round (suc k)) n
    settled zero n few = absurd (omega (arith, few))
    settled (suc k) n few = rows_same k (settled k) n few 0 d.tasks higher

    -- no task of these ranks above
    abbrev most : List Task → ℕ
    most [] = zero
    most (t ∷ us) = h.rank t.call.name + most us

    abbrev top : ℕ
    top = suc (most d.tasks)

    rows_stay :
        (i : ℕ) (us : List Task) → Higher us → most us < top →
        numbered (entry (look (round top))) i us ≡ numbered (entry (look (round (suc top)))) i us
    rows_stay i [] lower few = refl
    rows_stay i (t ∷ us) lower few =
        let rest : most us < top = omega (arith, few) in
        let own : h.rank t.call.name < suc top = omega (arith, few) in
        let same = task_same top (settled top) i t lower.0 own in
        λ j. (t, same j) ∷ rows_stay (suc i) us lower.1 rest j

    solves_top : Solves A called place scope d (round (suc top))
    solves_top = rows_stay 0 d.tasks higher (omega arith)

    pub solve : RoundsSettle → Solves A called place scope d (standings A called place scope d)
    solve settle = subst (Solves A called place scope d) (settle A called place scope d (round (suc top)) h solves_top) solves_top
