-- What both make once one fact more is recorded below the exit handler.
use Rattle.std.proofs.Common.{◌≡◌, ℕ, ◌+◌, ◌<◌, ◌≤◌, Bool, true, false, List, [], ◌∷◌, Option, Some, None, Result, Ok, Err, refl, sym, ap, ap₂, ◌∙◌, subst, arith}
use Rattle.std.specs.Prelude.{IsErrAnd}
use Rattle.base_types.specs.Limits.{most_nodes, most_depth}
use Rattle.tree_types.specs.declared.path.Sel.TheVariants.{Exit}
use Rattle.wf_manifest.specs.declared.manifest.Manifest.{Manifest}
use Rattle.meaning.specs.Answers.{Sels, Answers}
use Rattle.meaning.specs.Lines.{Made}
use Rattle.meaning.specs.Trees.{globals_of, root, main_made, exit_made, exit_if, exit_of}
use Rattle.locality.specs.Answered.{SameBut}
use Rattle.locality.specs.Local.{TopCallsOffStay}
use Rattle.tree_state.specs.declared.refused.TreeRefused.{TreeRefused}
use Rattle.tree_state.specs.declared.refused.TreeRefused.TheVariants.{TooLarge, Memory}
use Rattle.tree_state.specs.Counting.{count, Gives, TakesAll}
use Rattle.tree_eval.specs.declared.tops.Tops.{Tops}
use Rattle.tree_eval.specs.Inside.Tops.{once, count_exit, GivesExit, meant_tops, count_tops, GivesTops}

-- ---- the exit handler, where it runs

module _ (m : Manifest) (b : Made) (template : List ℕ) (runs : Some template ≡ once b.own.finished m.on_exit) where
  abbrev name : Option (List ℕ) → List ℕ
  name None = template
  name (Some t) = t

  is_by : (A : Answers) (over : Bool) (o : Option (List ℕ)) → Some template ≡ once over o → exit_if over m A b o ≡ Some (exit_made m A b template)
  is_by A true (Some t) e = ap (λ (t : List ℕ). Some (exit_made m A b t)) (sym (ap name e))
  is_by A true None e = absurd (cc)
  is_by A false o e = absurd (cc)

  exit_is : (A : Answers) → exit_of m A b ≡ Some (exit_made m A b template)
  exit_is A = is_by A b.own.finished m.on_exit runs

  abbrev what : Made → Option Made → Made
  what d None = d
  what d (Some h) = h

  -- what it made before
  pub made_before : (B : Answers) (old : Made) → Some old ≡ exit_of m B b → old ≡ exit_made m B b template
  made_before B old is = ap (what old) (is ∙ exit_is B)

  -- what it makes is what is meant of the handler
  module _ (A : Answers) (main : Made) (same : b ≡ main) (before after : ℕ) where
    here : Some (exit_made m A b template) ≡ exit_of m A main
    here = sym (exit_is A) ∙ ap (exit_of m A) same

    pub made_now : (exit : Made) → Gives before after (Ok exit) (exit_made m A b template) → GivesExit before after (Ok (Some exit)) (exit_of m A main)
    made_now exit given = (
      ap (λ (h : Made). Some h) given.0 ∙ here,
      subst (λ (o : Option Made). after + count_exit o ≡ before) here given.1,
    )

    fails_by : (e : TreeRefused) → Gives before after (Err e) (exit_made m A b template) → GivesExit before after (Err e) (exit_of m A main)
    fails_by TooLarge few = subst (λ (o : Option Made). before < count_exit o) here few
    fails_by Memory none = tt

    pub fails_now : (r : Result (Option Made) TreeRefused) (e : TreeRefused) → IsErrAnd r (λ z. z ≡ e) → Gives before after (Err e) (exit_made m A b template) → GivesExit before after r (exit_of m A main)
    fails_now (Ok x) e is fails = absurd is
    fails_now (Err z) e is fails = fails_by z (subst (λ (w : TreeRefused). Gives before after (Err w) (exit_made m A b template)) (sym is) fails)

-- ---- both

module _ (m : Manifest) (A B : Answers) (rest : Sels) (law : TopCallsOffStay) (same : SameBut A B (Exit ∷ rest)) (tops : Tops) (was : tops ≡ meant_tops m B) where
  -- the entrypoint stays as it was
  main_is : tops.main ≡ main_made m A
  main_is = ap (λ (t : Tops). t.main) was ∙ sym (law most_depth m A B (Exit ∷ rest) (globals_of m) (root m) m.entrypoint same refl)

  exit_stays : exit_of m A tops.main ≡ exit_of m A (main_made m A)
  exit_stays = ap (exit_of m A) main_is

  counted : count_tops (meant_tops m A) ≡ count tops.main + count_exit (exit_of m A tops.main)
  counted = ap₂ (λ (b : Made) (o : Option Made). count b + count_exit o) (sym main_is) (sym exit_stays)

  module _ (most left after : ℕ) (all : most ≡ most_nodes) (taken : left + count tops.main ≡ most) where
    pub both_made : (main : Made) (exit : Option Made) → main ≡ tops.main → GivesExit left after (Ok exit) (exit_of m A tops.main) → GivesTops (Ok (record { main = main; exit = exit })) m A
    both_made main exit is given = (
      ap₂ (λ (b : Made) (o : Option Made). record { main = b; exit = o }) (is ∙ main_is) (given.0 ∙ exit_stays),
      omega (arith, counted, given.1, taken, all),
    )

    large_by : (e : TreeRefused) → GivesExit left after (Err e) (exit_of m A tops.main) → GivesTops (Err e) m A
    large_by TooLarge few = omega (arith, counted, few, taken, all)
    large_by Memory none = tt

    pub exit_fails : (r : Result Tops TreeRefused) (e : TreeRefused) → IsErrAnd r (λ z. z ≡ e) → GivesExit left after (Err e) (exit_of m A tops.main) → GivesTops r m A
    exit_fails (Ok x) e is fails = absurd is
    exit_fails (Err z) e is fails = large_by z (subst (λ (w : TreeRefused). GivesExit left after (Err w) (exit_of m A tops.main)) (sym is) fails)

  module _ (most left n : ℕ) (all : most ≡ most_nodes) (many : n ≡ count tops.main) where
    none_by : (e : TreeRefused) → TakesAll n most left (Err e) → GivesTops (Err e) m A
    none_by TooLarge few = omega (arith, counted, few, many, all)
    none_by Memory none = tt

    pub main_fails : (r : Result Tops TreeRefused) (e : TreeRefused) → IsErrAnd r (λ z. z ≡ e) → TakesAll n most left (Err e) → GivesTops r m A
    main_fails (Ok x) e is fails = absurd is
    main_fails (Err z) e is fails = none_by z (subst (λ (w : TreeRefused). TakesAll n most left (Err w)) (sym is) fails)
