-- Where the tasks of a DAG have a rank, a list that solves its equations is its standings: after k rounds each task stands
-- as by the list that fewer than k tasks rank below.
use Rattle.std.proofs.Common.{◌≡◌, refl, sym, ◌∙◌, ap, subst, ◌⊎◌, ◌≤◌, ◌<◌, arith, length}
use Rattle.std.proofs.Math.Logic.{inl, inr}
use Rattle.std.proofs.lemmas.Bool.{le-ltb, ltb-true, ltb-false}
use Rattle.std.proofs.lemmas.Slice.Eq.{bytes_eq-Decides}
use Rattle.std.proofs.lemmas.List.Elements.{recursion_from_All}
use Rattle.std.specs.Prelude.{ℕ, zero, suc, List, [], ◌∷◌, ◌++◌, Bool, true, false, cond, Option, Some, None, nat_lt, bytes_eq}
use Rattle.std.specs.List.{All, AllByRecursion}
use Rattle.depends_expr.specs.Expression.{Word, failed, errored, Expression, bare, both}
use Rattle.depends_expr.specs.Truth.{named}
use Rattle.wf_manifest.specs.declared.calls.Task.{Task}
use Rattle.wf_manifest.specs.declared.calls.Dag.{Dag}
use Rattle.wf_manifest.specs.Valid.{names_in, waits_for, HasRank}
use Rattle.scopes.specs.Substitution.{Scope}
use Rattle.meaning.specs.declared.lines.Place.{Place}
use Rattle.meaning.specs.Answers.{Answers}
use Rattle.meaning.specs.Lines.{numbered}
use Rattle.meaning.specs.Steps.{Caller, covers_failed, covers_error}
use Rattle.meaning.specs.Dags.{Names, task_named, or_covered, dependency_by, dependency, and_all, all_dependencies, awaited_by, awaited, is_meant, Standing, waiting, Look, Standings, look, meant, meant_by, with_standing, standing, rounds}
use Rattle.growth.specs.Rounds.{Solves, RoundsSettle}
use Rattle.growth.proofs.DagRounds.{Agree, awaited_same}

abbrev Each : (List ℕ → Type 0) → Names → Type 0
Each Q ns = AllByRecursion Q ns

-- ---- what a task awaits names no other tasks than it waits for

module _ (Q : List ℕ → Type 0) where
  each_append : (ns ms : Names) → Each Q ns → Each Q ms → Each Q (ns ++ ms)
  each_append [] ms h k = k
  each_append (n ∷ ns) ms h k = (h.0, each_append ns ms h.1 k)

  covered_each : (b : Bool) (n : List ℕ) (w : Word) (e : Expression) → Q n → Each Q (named e) → Each Q (named (or_covered b n w e))
  covered_each true n w e q h = each_append (named e) (n ∷ []) h (q, tt)
  covered_each false n w e q h = h

  dependency_each : (n : List ℕ) (o : Option Task) → Q n → Each Q (named (dependency_by n o))
  dependency_each n None q = (q, tt)
  dependency_each n (Some t) q =
      let on = t.call.continue_on in
      covered_each (covers_error on) n errored (or_covered (covers_failed on) n failed (bare n)) q (covered_each (covers_failed on) n failed (bare n) q (q, tt))

  and_each : (d : Expression) (o : Option Expression) (e : Expression) → Each Q (named d) → ((f : Expression) → o ≡ Some f → Each Q (named f)) → and_all d o ≡ Some e → Each Q (named e)
  and_each d None e h k i = let same : d ≡ e = cc i in subst (λ (x : Expression). Each Q (named x)) same h
  and_each d (Some f) e h k i = let same : both d f ≡ e = cc i in subst (λ (x : Expression). Each Q (named x)) same (each_append (named d) (named f) h (k f refl))

  dependencies_each : (ts : List Task) (ns : Names) → Each Q ns → (e : Expression) → all_dependencies ts ns ≡ Some e → Each Q (named e)
  dependencies_each ts [] h e i = absurd (cc i)
  dependencies_each ts (n ∷ ns) h e i = and_each (dependency ts n) (all_dependencies ts ns) e (dependency_each n (task_named ts n) h.0) (λ f j. dependencies_each ts ns h.1 f j) i

  awaited_each : (ts : List Task) (t : Task) → Each Q (waits_for t) → (e : Expression) → awaited ts t ≡ Some e → Each Q (named e)
  awaited_each ts t h e i = go t.depends t.dependencies h i
    where
      go : (o : Option Expression) (d : Option Names) → Each Q (names_in o d) → awaited_by ts o d ≡ Some e → Each Q (named e)
      go (Some f) d h i = let same : f ≡ e = cc i in subst (λ (x : Expression). Each Q (named x)) same h
      go None (Some ns) h i = dependencies_each ts ns h e i
      go None None h i = absurd (cc i)

-- ---- looking a task up

-- some of the tasks has this name
abbrev Named : List ℕ → List Task → Type 0
Named n [] = ⊥
Named n (t ∷ ts) = (t.call.name ≡ n) ⊎ Named n ts

named_or_not : (n : List ℕ) (t : Task) → (t.call.name ≡ n) ⊎ (bytes_eq t.call.name n ≡ false)
named_or_not n t = go (bytes_eq t.call.name n) refl
  where
    go : (b : Bool) → bytes_eq t.call.name n ≡ b → (t.call.name ≡ n) ⊎ (bytes_eq t.call.name n ≡ false)
    go true e = inl ((bytes_eq-Decides t.call.name n).0 e)
    go false e = inr e

named_in : (n : List ℕ) (ts : List Task) → Named n ts ⊎ (Named n ts → ⊥)
named_in n [] = inr (λ x. x)
named_in n (t ∷ ts) = go (named_or_not n t) (named_in n ts)
  where
    apart : bytes_eq t.call.name n ≡ false → (Named n ts → ⊥) → Named n (t ∷ ts) → ⊥
    apart e f (inl same) = absurd (cc (e, (bytes_eq-Decides t.call.name n).1 same))
    apart e f (inr x) = f x

    go : (t.call.name ≡ n) ⊎ (bytes_eq t.call.name n ≡ false) → Named n ts ⊎ (Named n ts → ⊥) → Named n (t ∷ ts) ⊎ (Named n (t ∷ ts) → ⊥)
    go (inl e) r = inl (inl e)
    go (inr e) (inl x) = inl (inr x)
    go (inr e) (inr f) = inr (apart e f)

-- ---- how many tasks rank below a number

module _ (rank : List ℕ → ℕ) where
  abbrev add_if : Bool → ℕ → ℕ
  add_if b n = cond b (suc n) n

  abbrev count : ℕ → List Task → ℕ
  count r [] = 0
  count r (t ∷ ts) = add_if (nat_lt (rank t.call.name) r) (count r ts)

  add_more : (x r s a b : ℕ) → r ≤ s → a ≤ b → add_if (nat_lt x r) a ≤ add_if (nat_lt x s) b
  add_more x r s a b h k = go (nat_lt x r) (nat_lt x s) refl refl
    where
      go : (c d : Bool) → nat_lt x r ≡ c → nat_lt x s ≡ d → add_if c a ≤ add_if d b
      go true true e f = omega arith
      go true false e f = let p = ltb-true x r e in let q = ltb-false x s f in omega arith
      go false true e f = omega arith
      go false false e f = omega arith

  add_less : (x r s a b : ℕ) → r ≤ s → a < b → add_if (nat_lt x r) a < add_if (nat_lt x s) b
  add_less x r s a b h k = go (nat_lt x r) (nat_lt x s) refl refl
    where
      go : (c d : Bool) → nat_lt x r ≡ c → nat_lt x s ≡ d → add_if c a < add_if d b
      go true true e f = omega arith
      go true false e f = let p = ltb-true x r e in let q = ltb-false x s f in omega arith
      go false true e f = omega arith
      go false false e f = omega arith

  -- one that ranks between counts once more
  add_between : (x r s a b : ℕ) → r ≤ x → x < s → a ≤ b → add_if (nat_lt x r) a < add_if (nat_lt x s) b
  add_between x r s a b h k l = go (nat_lt x r) (nat_lt x s) refl refl
    where
      go : (c d : Bool) → nat_lt x r ≡ c → nat_lt x s ≡ d → add_if c a < add_if d b
      go true d e f = let p = ltb-true x r e in omega arith
      go false true e f = omega arith
      go false false e f = let q = ltb-false x s f in omega arith

  add_length : (b : Bool) (n l : ℕ) → n ≤ l → add_if b n ≤ suc l
  add_length true n l h = omega arith
  add_length false n l h = omega arith

  add_shorter : (b : Bool) (n l : ℕ) → n < l → add_if b n < suc l
  add_shorter true n l h = omega arith
  add_shorter false n l h = omega arith

  count_more : (r s : ℕ) (ts : List Task) → r ≤ s → count r ts ≤ count s ts
  count_more r s [] h = omega arith
  count_more r s (t ∷ ts) h = add_more (rank t.call.name) r s (count r ts) (count s ts) h (count_more r s ts h)

  count_less : (n : List ℕ) (s : ℕ) (ts : List Task) → rank n < s → Named n ts → count (rank n) ts < count s ts
  count_less n s [] h x = absurd x
  count_less n s (t ∷ ts) h (inl e) =
      let same : rank t.call.name ≡ rank n = ap rank e in
      add_between (rank t.call.name) (rank n) s (count (rank n) ts) (count s ts) (omega arith) (omega arith) (count_more (rank n) s ts (omega arith))
  count_less n s (t ∷ ts) h (inr x) = add_less (rank t.call.name) (rank n) s (count (rank n) ts) (count s ts) (omega arith) (count_less n s ts h x)

  count_length : (r : ℕ) (ts : List Task) → count r ts ≤ length ts
  count_length r [] = omega arith
  count_length r (t ∷ ts) = add_length (nat_lt (rank t.call.name) r) (count r ts) (length ts) (count_length r ts)

  -- a task does not rank below itself
  count_shorter : (n : List ℕ) (ts : List Task) → Named n ts → count (rank n) ts < length ts
  count_shorter n [] x = absurd x
  count_shorter n (t ∷ ts) (inl e) =
      let same : rank t.call.name ≡ rank n = ap rank e in
      let none : nat_lt (rank t.call.name) (rank n) ≡ false = le-ltb (rank t.call.name) (rank n) (omega arith) in
      let k : count (rank n) ts ≤ length ts = count_length (rank n) ts in
      subst (λ (b : Bool). add_if b (count (rank n) ts) < suc (length ts)) (sym none) (omega arith)
  count_shorter n (t ∷ ts) (inr x) = add_shorter (nat_lt (rank t.call.name) (rank n)) (count (rank n) ts) (length ts) (count_shorter n ts x)

-- ---- how a task stands depends only on the tasks that it waits for

each_map : (Q S : List ℕ → Type 0) (ns : Names) → ((n : List ℕ) → Q n → S n) → Each Q ns → Each S ns
each_map Q S [] f h = tt
each_map Q S (n ∷ ns) f h = (f n h.0, each_map Q S ns f h.1)

each_agree : (a b : Look) (ns : Names) → Each (λ n. a n ≡ b n) ns → Agree a b ns
each_agree a b [] h = tt
each_agree a b (n ∷ ns) h = (h.0, each_agree a b ns h.1)

no_rows : {X Y : Type 0} (f : ℕ → X → Y) (i : ℕ) (xs : List X) → length xs ≡ 0 → numbered f i xs ≡ []
no_rows f i [] e = refl
no_rows f i (x ∷ xs) e = absurd (cc e)

module _ (A : Answers) (run : Caller) (p : Place) (s : Scope) (d : Dag) where
  abbrev entry : Look → ℕ → Task → Task × Standing
  entry a = with_standing A run p s d a

  abbrev round : ℕ → Standings
  round k = rounds A run p s d k

  standing_same : (a b : Look) (i : ℕ) (t : Task) → Each (λ n. a n ≡ b n) (waits_for t) → standing A run p s d a i t ≡ standing A run p s d b i t
  standing_same a b i t h = by (is_meant d t)
    where
      awaits : (o : Option Expression) → awaited d.tasks t ≡ o → meant A run p s d a i t o ≡ meant A run p s d b i t o
      awaits None e = refl
      awaits (Some w) e = awaited_same A run p s d a b i t w (each_agree a b (named w) (awaited_each (λ n. a n ≡ b n) d.tasks t h w e))

      by : (c : Bool) → meant_by A run p s d a i t c ≡ meant_by A run p s d b i t c
      by false = refl
      by true = awaits (awaited d.tasks t) refl

  -- a name of no task waits
  look_absent : (n : List ℕ) (a : Look) (i : ℕ) (ts : List Task) → (Named n ts → ⊥) → look (numbered (entry a) i ts) n ≡ waiting
  look_absent n a i [] f = refl
  look_absent n a i (t ∷ ts) f = go (named_or_not n t) (look_absent n a (suc i) ts (λ x. f (inr x)))
    where
      go : (t.call.name ≡ n) ⊎ (bytes_eq t.call.name n ≡ false) → look (numbered (entry a) (suc i) ts) n ≡ waiting → look (numbered (entry a) i (t ∷ ts)) n ≡ waiting
      go (inl e) r = absurd (f (inl e))
      go (inr e) r = ap (λ (b : Bool). cond b (standing A run p s d a i t) (look (numbered (entry a) (suc i) ts) n)) e ∙ r

  round_absent : (n : List ℕ) (k : ℕ) → (Named n d.tasks → ⊥) → look (round k) n ≡ waiting
  round_absent n zero f = refl
  round_absent n (suc k) f = look_absent n (look (round k)) 0 d.tasks f

  module _ (h : HasRank d.tasks) (ss : Standings) (solves : Solves A run p s d ss) where
    -- each task of these stands higher than those that it waits for
    abbrev Higher : List Task → Type 0
    Higher ts = AllByRecursion (λ (t : Task). Each (λ n. h.rank n < h.rank t.call.name) (waits_for t)) ts

    higher_of : (ts : List Task) → AllByRecursion (λ (t : Task). All (λ n. h.rank n < h.rank t.call.name) (waits_for t)) ts → Higher ts
    higher_of [] x = tt
    higher_of (t ∷ ts) x = (recursion_from_All (λ n. h.rank n < h.rank t.call.name) (waits_for t) x.0, higher_of ts x.1)

    higher : Higher d.tasks
    higher = higher_of d.tasks (recursion_from_All (λ (t : Task). All (λ n. h.rank n < h.rank t.call.name) (waits_for t)) d.tasks h.higher)

    -- how many tasks rank below
    abbrev below : ℕ → ℕ
    below r = count h.rank r d.tasks

    -- after so many rounds each name that fewer rank below stands as by the list
    abbrev Settled : ℕ → Type 0
    Settled k = (n : List ℕ) → below (h.rank n) < k → look (round k) n ≡ look ss n

    look_solves : (n : List ℕ) → look ss n ≡ look (numbered (entry (look ss)) 0 d.tasks) n
    look_solves n = ap (λ (x : Standings). look x n) solves

    lower_same : (k r : ℕ) → Settled k → below r ≤ k → (n : List ℕ) → h.rank n < r → look (round k) n ≡ look ss n
    lower_same k r f g n l = go (named_in n d.tasks)
      where
        go : Named n d.tasks ⊎ (Named n d.tasks → ⊥) → look (round k) n ≡ look ss n
        go (inl x) = f n (let c : below (h.rank n) < below r = count_less h.rank n r d.tasks l x in omega arith)
        go (inr x) = round_absent n k x ∙ sym (look_solves n ∙ look_absent n (look ss) 0 d.tasks x)

    task_same : (k : ℕ) → Settled k → (i : ℕ) (t : Task) → Each (λ n. h.rank n < h.rank t.call.name) (waits_for t) → below (h.rank t.call.name) ≤ k → standing A run p s d (look (round k)) i t ≡ standing A run p s d (look ss) i t
    task_same k f i t g c = standing_same (look (round k)) (look ss) i t (each_map (λ n. h.rank n < h.rank t.call.name) (λ n. look (round k) n ≡ look ss n) (waits_for t) (λ n l. lower_same k (h.rank t.call.name) f c n l) g)

    look_same : (k : ℕ) → Settled k → (n : List ℕ) → below (h.rank n) ≤ k → (i : ℕ) (ts : List Task) → Higher ts → look (numbered (entry (look (round k))) i ts) n ≡ look (numbered (entry (look ss)) i ts) n
    look_same k f n c i [] g = refl
    look_same k f n c i (t ∷ ts) g = go (named_or_not n t) (look_same k f n c (suc i) ts g.1)
      where
        here : t.call.name ≡ n → standing A run p s d (look (round k)) i t ≡ standing A run p s d (look ss) i t
        here e = task_same k f i t g.0 (let same : h.rank t.call.name ≡ h.rank n = ap h.rank e in subst (λ (r : ℕ). below r ≤ k) (sym same) c)

        go : (t.call.name ≡ n) ⊎ (bytes_eq t.call.name n ≡ false) → look (numbered (entry (look (round k))) (suc i) ts) n ≡ look (numbered (entry (look ss)) (suc i) ts) n → look (numbered (entry (look (round k))) i (t ∷ ts)) n ≡ look (numbered (entry (look ss)) i (t ∷ ts)) n
        go (inl e) r = λ j. cond (bytes_eq t.call.name n) (here e j) (r j)
        go (inr e) r = ap (λ (b : Bool). cond b (standing A run p s d (look (round k)) i t) (look (numbered (entry (look (round k))) (suc i) ts) n)) e ∙ r ∙ sym (ap (λ (b : Bool). cond b (standing A run p s d (look ss) i t) (look (numbered (entry (look ss)) (suc i) ts) n)) e)

    settled : (k : ℕ) → Settled k
    settled zero n c = absurd (omega (arith, c))
    settled (suc k) n c = look_same k (settled k) n (omega (arith, c)) 0 d.tasks higher ∙ sym (look_solves n)

    -- the last round: below no task rank as many as there are
    rows_same : (k : ℕ) → length d.tasks ≡ suc k → (i : ℕ) (ts : List Task) → Higher ts → ((n : List ℕ) → Named n ts → Named n d.tasks) → numbered (entry (look ss)) i ts ≡ numbered (entry (look (round k))) i ts
    rows_same k e i [] g f = refl
    rows_same k e i (t ∷ ts) g f =
        let c : below (h.rank t.call.name) < length d.tasks = count_shorter h.rank t.call.name d.tasks (f t.call.name (inl refl)) in
        let same : standing A run p s d (look (round k)) i t ≡ standing A run p s d (look ss) i t = task_same k (settled k) i t g.0 (omega arith) in
        λ j. (t, sym same j) ∷ rows_same k e (suc i) ts g.1 (λ n x. f n (inr x)) j

    settles : (n : ℕ) → length d.tasks ≡ n → ss ≡ round n
    settles zero e = solves ∙ no_rows (entry (look ss)) 0 d.tasks e
    settles (suc k) e = solves ∙ rows_same k e 0 d.tasks higher (λ n x. x)

pub rounds_settle : RoundsSettle
rounds_settle A run p s d ss h solves = settles A run p s d h ss solves (length d.tasks) refl
