-- The attempts so far, and the Retry node over all of them.
use Rattle.std.proofs.Common.{◌≡◌, ℕ, suc, ◌+◌, ◌-◌, ◌<◌, List, [], ◌∷◌, ◌++◌, length, length-append, Bool, true, false, Option, Some, refl, ap, sym, ◌∙◌, subst, append_assoc, arith}
use Rattle.std.proofs.lemmas.Result.{err_from_is_err_and}
use Rattle.std.specs.Prelude.{slice_get, Result, Err, IsErrAnd}
use Rattle.wf_manifest.specs.declared.templates.OutputDecl.{OutputDecl}
use Rattle.wf_manifest.specs.declared.templates.Retry.{Retry}
use Rattle.tree_types.specs.declared.want.Want.TheVariants as want
use Rattle.meaning.specs.declared.lines.Place.{Place}
use Rattle.meaning.specs.Answers.{path, Answers}
use Rattle.meaning.specs.Lines.{Made, made, row_of, asked, then_parts}
use Rattle.meaning.specs.Pods.{further, Attempts, ends_with, followed_at, before_attempts, attempt, attempts_from, pod_made, next_timer, retry_node, retry_by}
use Rattle.retry_policy.specs.declared.attempts.Tried.{Tried}
use Rattle.tree_state.specs.Counting.{count_below, count, Gives, GivesBelow}
use Rattle.tree_state.specs.declared.refused.TreeRefused.{TreeRefused}
use Rattle.tree_state.specs.declared.refused.TreeRefused.TheVariants.{TooLarge, Memory}
use Rattle.leaf_states.specs.declared.retries.Follow.{Follow}
use Rattle.leaf_states.specs.declared.retries.Follow.TheVariants.{Nothing, Waits, Starts}
use Rattle.leaf_states.specs.declared.retries.Tries.{Tries}
use Rattle.leaf_states.specs.Inside.Attempts.{followed, GivesAttempt, AreAll, AreTries, begin_of, behind, AreFirst, AreSoFar, retry_over}
use Rattle.leaf_states.proofs.Rows.{count_append, count_asking}
use Rattle.leaf_states.proofs.Turns.{IsTurn, turn}

one_longer : (ms : List Made) (m : Made) → length (ms ++ m ∷ []) ≡ suc (length ms)
one_longer ms m = length-append ms (m ∷ []) ∙ omega arith

get_end : (ms : List Made) (m : Made) → slice_get (ms ++ m ∷ []) (length ms) ≡ Some m
get_end [] m = refl
get_end (x ∷ ms) m = get_end ms m

get_last : (ms : List Made) (m : Made) → slice_get (ms ++ m ∷ []) (length (ms ++ m ∷ []) - 1) ≡ Some m
get_last ms m =
    let at : length (ms ++ m ∷ []) - 1 ≡ length ms = omega (arith, one_longer ms m) in
    ap (slice_get (ms ++ m ∷ [])) at ∙ get_end ms m

behind_before : (ms : List Made) (m : Made) (rest : Attempts) → behind (ms ++ m ∷ []) rest ≡ behind ms (before_attempts m rest)
behind_before ms m rest = ap (λ (xs : List Made). record rest { all = xs }) (append_assoc ms (m ∷ []) rest.all)

module _ (A : Answers) (place : Place) (ds : List OutputDecl) (r : Retry) where
  abbrev from : ℕ → ℕ → Option Tried → Attempts
  from n k first = attempts_from A place ds r n k (begin_of first)

  -- ---- one attempt more

  with_last : (ms : List Made) (first : Option Tried) (m : Made) (a : Attempts) (n : ℕ) (f : Follow) →
      length ms + n ≡ further r → behind ms (from n (length ms) first) ≡ a →
      IsTurn A place ds r n (length ms) m (from n (length ms) first) f →
      AreSoFar A place ds r (ms ++ m ∷ []) f a
  with_last ms first m a n (Nothing over) left same t =
      let whole : behind ms (ends_with m over) ≡ a = ap (behind ms) (sym t) ∙ same in
      record {
        all_is = ap (λ (x : Attempts). x.all) whole;
        last_is = get_last ms m ∙ ap (λ (x : Attempts). Some x.last) whole;
        ends = (sym (ap (λ (x : Attempts). x.next) whole), sym (ap (λ (x : Attempts). x.over) whole));
      }
  with_last ms first m a n (Waits j tick) left same t =
      let whole : behind ms (followed_at m tick) ≡ a = ap (behind ms) (sym t.0) ∙ same in
      record {
        all_is = ap (λ (x : Attempts). x.all) whole;
        last_is = get_last ms m ∙ ap (λ (x : Attempts). Some x.last) whole;
        ends = (
          sym (ap (λ (x : Attempts). x.next) whole),
          sym (ap (λ (x : Attempts). x.over) whole),
          t.1 ∙ sym (one_longer ms m) ∙ ap (λ (x : Attempts). length x.all) whole,
        );
      }
  with_last ms first m a n (Starts g) left same t = record {
    more = t.left;
    left = omega (arith, one_longer ms m, t.one_less, left);
    same =
        ap (λ (k : ℕ). behind (ms ++ m ∷ []) (from t.left k g)) (one_longer ms m)
        ∙ behind_before ms m (from t.left (suc (length ms)) g)
        ∙ ap (behind ms) (sym t.same)
        ∙ same;
  }

  pub so_far : (ms : List Made) (first : Option Tried) (k : ℕ) (m : Made) (f : Follow) (a : Attempts) →
      AreFirst A place ds r ms first a → k ≡ length ms →
      m ≡ pod_made A (attempt place k) ds →
      f ≡ followed A place ds r k (k + 1) first →
      AreSoFar A place ds r (ms ++ m ∷ []) f a
  so_far ms first k m f a firsts many made follow =
      let n = firsts.more in
      let next : k + 1 ≡ suc (length ms) = omega (arith, many) in
      let j = k + 1 in
      let t = turn A place ds r n (length ms) j first next firsts.left in
      let is_made : m ≡ pod_made A (attempt place (length ms)) ds = made ∙ ap (λ (i : ℕ). pod_made A (attempt place i) ds) many in
      let follows : f ≡ followed A place ds r (length ms) j first = follow ∙ ap (λ (i : ℕ). followed A place ds r i j first) many in
      let turned : IsTurn A place ds r n (length ms) m (from n (length ms) first) (followed A place ds r (length ms) j first) =
      subst (λ (x : Made). IsTurn A place ds r n (length ms) x (from n (length ms) first) (followed A place ds r (length ms) j first)) (sym is_made) t in
      with_last ms first m a n f firsts.left firsts.same (subst (IsTurn A place ds r n (length ms) m (from n (length ms) first)) (sym follows) turned)

  -- ---- an attempt for which there is no room

  begins : (n k : ℕ) (m : Made) (a : Attempts) (f : Follow) → IsTurn A place ds r n k m a f → (more : List Made) × (a.all ≡ m ∷ more)
  begins n k m a (Nothing over) t = ([], ap (λ (x : Attempts). x.all) t)
  begins n k m a (Waits j tick) t = ([], ap (λ (x : Attempts). x.all) t.0)
  begins n k m a (Starts g) t = ((from t.left (suc k) g).all, ap (λ (x : Attempts). x.all) t.same)

  too_large : (ms : List Made) (first : Option Tried) (k : ℕ) (a : Attempts) (room before : ℕ) →
      AreFirst A place ds r ms first a → k ≡ length ms → room + count_below (row_of ms) ≡ before →
      room < count (pod_made A (attempt place k) ds) → before < count_below (row_of a.all)
  too_large ms first k a room before firsts many taken small =
      let n = firsts.more in
      let m = pod_made A (attempt place (length ms)) ds in
      let b = begins n (length ms) m (from n (length ms) first) (followed A place ds r (length ms) (suc (length ms)) first) (turn A place ds r n (length ms) (suc (length ms)) first refl firsts.left) in
      let all : a.all ≡ ms ++ m ∷ b.0 = ap (λ (x : Attempts). x.all) (sym firsts.same) ∙ ap (λ (xs : List Made). ms ++ xs) b.1 in
      let counted = ap (λ (xs : List Made). count_below (row_of xs)) all ∙ count_append ms (m ∷ b.0) in
      let same : count (pod_made A (attempt place k) ds) ≡ count m = ap (λ (i : ℕ). count (pod_made A (attempt place i) ds)) many in
      omega (arith, counted, taken, small, same)

  refused : (ms : List Made) (first : Option Tried) (k room before after : ℕ) (f : Follow) (a : Attempts) (e : TreeRefused) →
      AreFirst A place ds r ms first a → k ≡ length ms → room + count_below (row_of ms) ≡ before →
      GivesAttempt room after (Err e) (pod_made A (attempt place k) ds) f →
      GivesBelow before after (λ (t : Tries) _. AreTries t a) (Err e) (row_of a.all)
  refused ms first k room before after f a TooLarge firsts many taken small = too_large ms first k a room before firsts many taken small
  refused ms first k room before after f a Memory firsts many taken small = tt

  pub fails : (ms : List Made) (first : Option Tried) (k room before after : ℕ) (f : Follow) (a : Attempts) (result : Result Tries TreeRefused) (e : TreeRefused) →
      AreFirst A place ds r ms first a → k ≡ length ms → room + count_below (row_of ms) ≡ before →
      GivesAttempt room after (Err e) (pod_made A (attempt place k) ds) f → IsErrAnd result (λ z. z ≡ e) →
      GivesBelow before after (λ (t : Tries) _. AreTries t a) result (row_of a.all)
  fails ms first k room before after f a result e firsts many taken gives is =
      let p = err_from_is_err_and result is in
      let same : result ≡ Err e = p.1 ∙ ap Err p.2 in
      subst (λ (x : Result Tries TreeRefused). GivesBelow before after (λ (t : Tries) _. AreTries t a) x (row_of a.all)) (sym same) (refused ms first k room before after f a e firsts many taken gives)

  pub taken_more : (ms : List Made) (m : Made) (k room before after : ℕ) → m ≡ pod_made A (attempt place k) ds →
      room + count_below (row_of ms) ≡ before → after + count (pod_made A (attempt place k) ds) ≡ room →
      after + count_below (row_of (ms ++ m ∷ [])) ≡ before
  taken_more ms m k room before after made taken more = omega (arith, count_append ms (m ∷ []), ap count made, taken, more)

-- ---- the Retry node

same_node : (place : Place) (a : Attempts) (over : Bool) → retry_node place (ends_with a.last over) over ≡ retry_node place a over
same_node place a true = refl
same_node place a false = refl

pub over_all : (place : Place) (ms : List Made) (f : Follow) (a : Attempts) → AreAll ms f a → retry_over place a.last ms f ≡ retry_by place a
over_all place ms (Nothing over) a all =
    let node = same_node place a over in
    ap (λ n. made n [] (then_parts (row_of ms) (asked []))) node
    ∙ λ i. made (retry_node place a (sym all.ends.1 i)) [] (then_parts (row_of (all.all_is i)) (asked (next_timer place (all.all_is i) (sym all.ends.0 i))))
over_all place ms (Waits k tick) a all =
    let node = same_node place a false in
    let many : k ≡ length ms = all.ends.2 ∙ ap length (sym all.all_is) in
    ap (λ n. made n [] (then_parts (row_of ms) (asked (want.Timer (path (attempt place k).sels) tick ∷ [])))) node
    ∙ ap (λ j. made (retry_node place a false) [] (then_parts (row_of ms) (asked (want.Timer (path (attempt place j).sels) tick ∷ [])))) many
    ∙ λ i. made (retry_node place a (sym all.ends.1 i)) [] (then_parts (row_of (all.all_is i)) (asked (next_timer place (all.all_is i) (sym all.ends.0 i))))
over_all place ms (Starts first) a all = absurd all.ends

pub count_retry : (place : Place) (a : Attempts) → count (retry_by place a) ≡ suc (count_below (row_of a.all))
count_retry place a = ap suc (count_asking (row_of a.all) (next_timer place a.all a.next))

retry_refused : (place : Place) (a : Attempts) (before room after : ℕ) (e : TreeRefused) → before ≡ suc room →
    GivesBelow room after (λ (t : Tries) _. AreTries t a) (Err e) (row_of a.all) → Gives before after (Err e) (retry_by place a)
retry_refused place a before room after TooLarge taken small = omega (arith, count_retry place a, taken, small)
retry_refused place a before room after Memory taken small = tt

pub retry_fails : (place : Place) (a : Attempts) (before room after : ℕ) (result : Result Made TreeRefused) (e : TreeRefused) → before ≡ suc room →
    GivesBelow room after (λ (t : Tries) _. AreTries t a) (Err e) (row_of a.all) → IsErrAnd result (λ z. z ≡ e) → Gives before after result (retry_by place a)
retry_fails place a before room after result e taken gives is =
    let p = err_from_is_err_and result is in
    let same : result ≡ Err e = p.1 ∙ ap Err p.2 in
    subst (λ (x : Result Made TreeRefused). Gives before after x (retry_by place a)) (sym same) (retry_refused place a before room after e taken gives)
