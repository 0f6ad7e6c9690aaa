-- What becomes of the tasks that wait for one that ended.
use Rattle.std.proofs.Common.{◌≡◌, ◌≢◌, ◌⊎◌, inl, inr, ℕ, zero, suc, ◌+◌, ◌<◌, ◌≤◌, ◌==◌, List, [], ◌∷◌, ◌++◌, take, get_or, Bool, true, false, not, ◌&&◌, ◌||◌, Option, Some, None, codes, length, refl, sym, ap, ◌∙◌, subst, arith}
use Rattle.std.specs.List.{list_any, AllPairs}
use Rattle.std.proofs.lemmas.Bool.{eq-eqb, ne_eqb}
use Rattle.std.proofs.lemmas.List.Folds.{list_any_more}
use Rattle.std.proofs.lemmas.Option.{slice_get_cases}
use Rattle.std.specs.Prelude.{slice_get, IfSome}
use Rattle.tree_types.specs.declared.path.Path.{Path}
use Rattle.depends_expr.specs.Expression.{Expression}
use Rattle.wf_manifest.specs.declared.calls.Task.{Task}
use Rattle.wf_manifest.specs.declared.calls.Dag.{Dag}
use Rattle.wf_manifest.specs.declared.manifest.Manifest.{Manifest}
use Rattle.scopes.specs.Substitution.{Scope}
use Rattle.meaning.specs.declared.lines.Place.{Place}
use Rattle.meaning.specs.Answers.{Answers}
use Rattle.meaning.specs.Lines.{Made, may_begin}
use Rattle.meaning.specs.Steps.{Caller, covered}
use Rattle.meaning.specs.Dags.{parents, named_by, Standing, waiting, ready, exists, is_over, is_at_rest, look, Standings, task_place, task_then, tags_before, free_by, free, standing, standings}
use Rattle.meaning.specs.Calls.{calls}
use Rattle.mentions.proofs.Calls.{unasked_in_calls}
use Rattle.mentions.proofs.GroupTags.{passed}
use Rattle.mentions.proofs.TaskTags.{so, seen_by, before_so, rounds_so}
use Rattle.dag_board.specs.Boards.{stood}
use Rattle.tree_state.specs.declared.inserting.Entry.TheVariants.{MayBegin, Begun}
use Rattle.dag_stays.specs.Behind.{again, ended, standing_of, stands_behind}
use Rattle.dag_stays.proofs.RunsOn.{put_looks}
use Rattle.tree_change.specs.Inside.Behind.{AreTagged, EntersSo}
use Rattle.tree_change.specs.Inside.Unseeing.{SeesNone}

-- ---- tags

seen_again : (t : Task) (z : Made) (s : Standing) → seen_by s ≡ seen_by (again t z s)
seen_again t z waiting = refl
seen_again t z ready = refl
seen_again t z (exists m branch seen) = refl

-- a task that ends sees what it saw
pub ended_tagged : (B : Answers) (called : Caller) (place : Place) (scope : Scope) (d : Dag) (j : ℕ) (t : Task) (z : Made) → AreTagged (ended (standings B called place scope d) j t z)
ended_tagged B called place scope d j t z n =
    let ss = standings B called place scope d in
    ap so (sym (put_looks (λ s u. seen_by s ≡ seen_by u) (λ s. refl) ss j (again t z (stood ss j)) (seen_again t z (stood ss j)) n))
    ∙ rounds_so B called place scope d (length d.tasks) n

module _ (m : Manifest) (A : Answers) (g : Scope) (left : ℕ) (place : Place) (scope : Scope) (d : Dag) (us : Standings) (tagged : AreTagged us) where
  abbrev called : Caller
  called = calls m A g left

  abbrev seen : Task → Scope
  seen t = tags_before (look us) (parents d.tasks t)

  -- behind tags that it does not ask for it makes the same
  makes_alike : (t : Task) (at : Place) → SeesNone d.tasks t → called (codes "tasks.") at scope t.call ≡ called (codes "tasks.") at (seen t ++ scope) t.call
  makes_alike t at (inl none) = ap (λ (w : Option Expression). called (codes "tasks.") at (tags_before (look us) (named_by w) ++ scope) t.call) (sym none)
  makes_alike t at (inr unasked) =
      unasked_in_calls m A g left (codes "tasks.") (codes "tasks.") at scope (seen t ++ scope) t.call
      (λ tag other. sym (passed (codes "tasks.") (seen t) scope tag (before_so (look us) tagged (parents d.tasks t)) other))
      unasked

  module _ (k : ℕ) (t : Task) (there : slice_get d.tasks k ≡ Some t) (freed : standing A called place scope d (look us) k t ≡ free A called place scope d (seen t) k t) where
    stands_is : stands_behind A called place scope d us k ≡ free A called place scope d (seen t) k t
    stands_is = ap (standing_of A called place scope d us k) there ∙ freed

    -- it may begin
    pub enters_ready : (not d.fail_fast || A.begun (task_place place k t).sels) ≡ false → (p : Path) → p.sels ≡ (task_place place k t).sels → EntersSo A called place scope d us k (MayBegin p)
    enters_ready off p at =
        let is : stands_behind A called place scope d us k ≡ ready = stands_is ∙ ap (free_by A called place scope d (seen t) k t) off in
        record {
          not_over = ap is_over is;
          goes = inl is;
          entry = λ u more. ap (λ (s : Standing). task_then false (task_place place k u) s more) is ∙ (λ i. may_begin (record { sels = sym at i }) more);
        }

    -- it begins and runs
    pub enters_begun : (not d.fail_fast || A.begun (task_place place k t).sels) ≡ true → SeesNone d.tasks t → (at : Place) → at ≡ task_place place k t → (z : Made) → z ≡ called (codes "tasks.") at scope t.call → z.own.finished ≡ false →
        EntersSo A called place scope d us k (Begun z)
    enters_begun on none at here z made off =
        let same : called (codes "tasks.") (task_place place k t) (seen t ++ scope) t.call ≡ z =
        sym (makes_alike t (task_place place k t) none) ∙ ap (λ (p : Place). called (codes "tasks.") p scope t.call) (sym here) ∙ sym made in
        let is : stands_behind A called place scope d us k ≡ exists z (covered t.call.continue_on z.own.node.phase) (seen t) =
        stands_is ∙ ap (free_by A called place scope d (seen t) k t) on
        ∙ (λ i. exists (same i) (covered t.call.continue_on (same i).own.node.phase) (seen t)) in
        record {
          not_over = ap is_over is ∙ off;
          goes = inr (ap is_at_rest is ∙ off);
          entry = λ u more. ap (λ (s : Standing). task_then false (task_place place k u) s more) is;
        }

-- ---- positions, each once

module _ (ks : List ℕ) (i : ℕ) where
  abbrev k : ℕ
  k = get_or ks i 0

  fresh_to : AllPairs ◌≢◌ ks → i < length ks → (n : ℕ) → n ≤ i → list_any (λ m. m == k) (take n ks) ≡ false
  fresh_to differ lt zero le = refl
  fresh_to differ lt (suc n) le =
      let next : n + 1 ≡ suc n = omega arith in
      ap (λ (q : ℕ). list_any (λ m. m == k) (take q ks)) (sym next)
      ∙ list_any_more (λ m. m == k) ks n 0 (omega (arith, lt, le))
      ∙ ap (λ (b : Bool). b || (get_or ks n 0 == k)) (fresh_to differ lt n (omega (arith, le)))
      ∙ ne_eqb (get_or ks n 0) k (differ n i 0 (omega (arith, le)) lt)

  pub fresh : AllPairs ◌≢◌ ks → i < length ks → list_any (λ m. m == get_or ks i 0) (take i ks) ≡ false
  fresh differ lt = fresh_to differ lt i (omega arith)

pub among : (ks : List ℕ) (i : ℕ) → i < length ks → list_any (λ n. n == get_or ks i 0) ks ≡ true
among [] i lt = absurd (omega (arith, lt))
among (k ∷ ks) zero lt = ap (λ (b : Bool). b || list_any (λ n. n == k) ks) (eq-eqb k k refl)
among (k ∷ ks) (suc i) lt = ap (λ (b : Bool). (k == get_or ks i 0) || b) (among ks i (omega (arith, lt))) ∙ always (k == get_or ks i 0)
  where
    always : (b : Bool) → (b || true) ≡ true
    always true = refl
    always false = refl

-- what is said of what is there
pub some_of : {X : Type 0} (o : Option X) (x : X) (P : X → Type 0) → o ≡ Some x → IfSome o P → P x
some_of o x P is said = subst (λ p. IfSome p P) is said

-- a test that failed
pub goes_or : (goes all : Bool) → (not goes && all) ≡ false → (goes ≡ true) ⊎ (all ≡ false)
goes_or true all is = inl refl
goes_or false all is = inr is

pub not_is : (b : Bool) → not b ≡ true → b ≡ false
not_is true is = absurd (cc is)
not_is false is = refl

-- the task at a position that there is
pub task_there : (ts : List Task) (k : ℕ) → k < length ts → (t : Task) × (slice_get ts k ≡ Some t)
task_there ts k low = by_cases (slice_get_cases ts k).1
  where
    by_cases : ((x : Task) × (k < length ts) × (slice_get ts k ≡ Some x) × (get_or ts k x ≡ x)) ⊎ ((length ts ≤ k) × (slice_get ts k ≡ None)) → (t : Task) × (slice_get ts k ≡ Some t)
    by_cases (inl (x, lt, there, got)) = (x, there)
    by_cases (inr (far, none)) = absurd (omega (arith, low, far))
