-- The calls below a DAG's node stand in the order of their tasks, so that a search by halves finds each that there is.
use Rattle.std.proofs.Common.{◌≡◌, ◌⊎◌, inl, inr, ℕ, zero, suc, ◌+◌, ◌<◌, ◌≤◌, ◌==◌, [], ◌∷◌, ◌++◌, Bool, true, false, nat_lt, length, Option, Some, None, refl, sym, ap, ◌∙◌, subst, arith}
use Rattle.std.proofs.lemmas.Bool.{ltb-true, ltb-false, lt-ltb, eqb-true, eq-eqb}
use Rattle.std.specs.Prelude.{slice_get}
use Rattle.tree_types.specs.declared.path.Sel.TheVariants.{Task as task_sel}
use Rattle.wf_manifest.specs.declared.calls.Task.{Task}
use Rattle.meaning.specs.declared.lines.Place.{Place}
use Rattle.meaning.specs.Answers.{Sels}
use Rattle.meaning.specs.Lines.{Made, Parts, nothing, call, may_begin, asks}
use Rattle.meaning.specs.Dags.{Standing, waiting, ready, exists, Standings, task_place, task_then, tasks_below}
use Rattle.dag_board.specs.Boards.{stood, made_of}
use Rattle.tree_state.specs.Counting.{count_below}
use Rattle.tree_state.specs.Replacing.{call_at}
use Rattle.dag_stays.specs.Over.{IsOwn, AreOwn, StandsOver}
use Rattle.dag_stays.specs.ByTask.{task_is, task_before, is_of_task, is_in_front, IsBound}
use Rattle.dag_stays.proofs.Found.{last_sel}
use Rattle.dag_stays.proofs.RunsOn.{found_at}

module _ (doomed : Bool) (place : Place) where
  abbrev below : ℕ → Standings → Parts
  below i ss = tasks_below doomed place i ss

  abbrev then_of : Bool → ℕ → Task → Standing → Standings → Parts
  then_of b i t x ss = task_then b (task_place place i t) x (below (suc i) ss)

  -- a call stands at a task
  abbrev IsTask : Made → ℕ → Type 0
  IsTask one n = one.own.node.path.sels ≡ place.sels ++ task_sel n ∷ []

  in_front : (one : Made) (n j : ℕ) → IsTask one n → is_in_front (length place.sels) j one ≡ nat_lt n j
  in_front one n j own = ap (λ (p : Sels). task_before j (slice_get p (length place.sels))) own ∙ ap (task_before j) (last_sel place.sels (task_sel n))

  of_task : (one : Made) (n j : ℕ) → IsTask one n → is_of_task (length place.sels) j one ≡ (n == j)
  of_task one n j own = ap (λ (p : Sels). task_is j (slice_get p (length place.sels))) own ∙ ap (task_is j) (last_sel place.sels (task_sel n))

  -- a call at a position is of that task or of a later one
  record Numbered (i at : ℕ) (one : Made) : Type 0 where
    n : ℕ
    low : i + at ≤ n
    own : IsTask one n

  number : (i at : ℕ) (ss : Standings) (one : Made) → AreOwn place.sels i ss → call_at (below i ss) at ≡ Some one → Numbered i at one
  number i at [] one own is = absurd (cc is)
  number i at (s ∷ ss) one own is = by_standing (λ at there. number (suc i) at ss one own.1 there) doomed s.1 own.0 at is
    where
      later : (at : ℕ) → Numbered (suc i) at one → Numbered i at one
      later at r = record { n = r.n; low = omega (arith, r.low); own = r.own }

      by_standing : ((at : ℕ) → call_at (below (suc i) ss) at ≡ Some one → Numbered (suc i) at one) → (b : Bool) (x : Standing) → IsOwn place.sels i x → (at : ℕ) → call_at (then_of b i s.0 x ss) at ≡ Some one → Numbered i at one
      by_standing next true waiting h at is = later at (next at is)
      by_standing next false waiting h at is = later at (next at is)
      by_standing next true ready h at is = later at (next at is)
      by_standing next false ready h at is = later at (next at is)
      by_standing next b (exists m branch seen) h zero is =
          let same : m ≡ one = cc is in
          record { n = i; low = omega arith; own = ap (λ (x : Made). x.own.node.path.sels) (sym same) ∙ h }
      by_standing next b (exists m branch seen) h (suc at) is = let r = next at is in record { n = r.n; low = omega (arith, r.low); own = r.own }

  same_number : (one : Made) (n k : ℕ) → IsTask one n → IsTask one k → n ≡ k
  same_number one n k h g =
      let test : (n == k) ≡ true = sym (of_task one n k h) ∙ of_task one k k g ∙ eq-eqb k k refl in
      eqb-true n k test

  -- of two calls the first stands for the lower task
  ordered : (i a b : ℕ) (ss : Standings) (x y : Made) (n k : ℕ) → AreOwn place.sels i ss → call_at (below i ss) a ≡ Some x → call_at (below i ss) b ≡ Some y → a < b → IsTask x n → IsTask y k → n < k
  ordered i a b [] x y n k own at_a at_b lt h g = absurd (cc at_a)
  ordered i a b (s ∷ ss) x y n k own at_a at_b lt h g = by_standing (λ a b at_a at_b lt. ordered (suc i) a b ss x y n k own.1 at_a at_b lt h g) doomed s.1 own.0 a b at_a at_b lt
    where
      by_standing : ((a b : ℕ) → call_at (below (suc i) ss) a ≡ Some x → call_at (below (suc i) ss) b ≡ Some y → a < b → n < k) → (c : Bool) (u : Standing) → IsOwn place.sels i u → (a b : ℕ) → call_at (then_of c i s.0 u ss) a ≡ Some x → call_at (then_of c i s.0 u ss) b ≡ Some y → a < b → n < k
      by_standing next true waiting o a b at_a at_b lt = next a b at_a at_b lt
      by_standing next false waiting o a b at_a at_b lt = next a b at_a at_b lt
      by_standing next true ready o a b at_a at_b lt = next a b at_a at_b lt
      by_standing next false ready o a b at_a at_b lt = next a b at_a at_b lt
      by_standing next c (exists m branch seen) o zero zero at_a at_b lt = absurd (omega (arith, lt))
      by_standing next c (exists m branch seen) o zero (suc b) at_a at_b lt =
          let same : m ≡ x = cc at_a in
          let first : i ≡ n = same_number x i n (ap (λ (z : Made). z.own.node.path.sels) (sym same) ∙ o) h in
          let r = number (suc i) b ss y own.1 at_b in
          let second : r.n ≡ k = same_number y r.n k r.own g in
          omega (arith, r.low, first, second)
      by_standing next c (exists m branch seen) o (suc a) zero at_a at_b lt = absurd (omega (arith, lt))
      by_standing next c (exists m branch seen) o (suc a) (suc b) at_a at_b lt = next a b at_a at_b (omega (arith, lt))

  -- a task that exists has its call at its own position or before
  record HasCall (i p : ℕ) (ss : Standings) (one : Made) : Type 0 where
    at : ℕ
    low : at ≤ p
    there : call_at (below i ss) at ≡ Some one
    own : IsTask one (i + p)

  has_call : (i p : ℕ) (ss : Standings) (one : Made) → AreOwn place.sels i ss → made_of (stood ss p) ≡ Some one → HasCall i p ss one
  has_call i p [] one own is = absurd (cc is)
  has_call i zero (s ∷ ss) one own is = by_standing s.1 own.0 is
    where
      by_standing : (x : Standing) → IsOwn place.sels i x → made_of x ≡ Some one → HasCall i zero ((s.0, x) ∷ ss) one
      by_standing waiting h is = absurd (cc is)
      by_standing ready h is = absurd (cc is)
      by_standing (exists m branch seen) h is =
          let same : m ≡ one = cc is in
          let here : i ≡ i + 0 = omega arith in
          record { at = zero; low = omega arith; there = ap Some same; own = ap (λ (z : Made). z.own.node.path.sels) (sym same) ∙ h ∙ ap (λ (q : ℕ). place.sels ++ task_sel q ∷ []) here }
  has_call i (suc p) (s ∷ ss) one own is =
      let r = has_call (suc i) p ss one own.1 is in
      let moved : suc i + p ≡ i + suc p = omega arith in
      let (at, low, there) = by_standing doomed s.1 r in
      record { at = at; low = low; there = there; own = r.own ∙ ap (λ (q : ℕ). place.sels ++ task_sel q ∷ []) moved }
    where
      by_standing : (b : Bool) (x : Standing) → HasCall (suc i) p ss one → (at : ℕ) × (at ≤ suc p) × (call_at (then_of b i s.0 x ss) at ≡ Some one)
      by_standing true waiting r = (r.at, omega (arith, r.low), r.there)
      by_standing false waiting r = (r.at, omega (arith, r.low), r.there)
      by_standing true ready r = (r.at, omega (arith, r.low), r.there)
      by_standing false ready r = (r.at, omega (arith, r.low), r.there)
      by_standing b (exists m branch seen) r = (suc r.at, omega (arith, r.low), r.there)

-- ---- what a search has found out

-- no call from a position on, or one there that stands behind the task
abbrev pub EndsBefore : Parts → ℕ → ℕ → ℕ → Type 0
EndsBefore parts depth j high =
    (high ≡ suc j) ⊎ ((call_at parts high ≡ None) ⊎ ((one : Made) × (call_at parts high ≡ Some one) × (is_of_task depth j one ≡ false) × (is_in_front depth j one ≡ false)))

-- nothing in front of a position, or a call in front of the task
abbrev pub BeginsBehind : Parts → ℕ → ℕ → ℕ → Type 0
BeginsBehind parts depth j low = (low ≡ 0) ⊎ ((k : ℕ) × (one : Made) × (low ≡ suc k) × (call_at parts k ≡ Some one) × (is_in_front depth j one ≡ true))

none_behind : (parts : Parts) (high q : ℕ) (one : Made) → call_at parts high ≡ None → call_at parts q ≡ Some one → q < high
none_behind nothing high q one off is = absurd (cc is)
none_behind (call o inner rest) zero q one off is = absurd (cc off)
none_behind (call o inner rest) (suc high) zero one off is = omega arith
none_behind (call o inner rest) (suc high) (suc q) one off is = omega (arith, none_behind rest high q one off is)
none_behind (may_begin p rest) high q one off is = none_behind rest high q one off is
none_behind (asks w rest) high q one off is = none_behind rest high q one off is

-- no more calls than nodes
pub no_more : (parts : Parts) (q : ℕ) → count_below parts ≤ q → call_at parts q ≡ None
no_more nothing q le = refl
no_more (call o inner rest) zero le = absurd (omega (arith, le))
no_more (call o inner rest) (suc q) le = no_more rest q (omega (arith, le))
no_more (may_begin p rest) q le = no_more rest q le
no_more (asks w rest) q le = no_more rest q le

pub ends_bound : (parts : Parts) (depth j high : ℕ) → IsBound parts j high → EndsBefore parts depth j high
ends_bound parts depth j high (inl last) = inl last
ends_bound parts depth j high (inr none) = inr (inl none)

module _ (doomed : Bool) (place : Place) (ss : Standings) (b : Made) (over : StandsOver doomed place ss b) (j : ℕ) where
  abbrev depth : ℕ
  depth = length b.own.node.path.sels

  -- a search that found the task's call
  pub found : (at : ℕ) (one : Made) → call_at b.parts at ≡ Some one → is_of_task depth j one ≡ true → Some one ≡ made_of (stood ss j)
  found at one there is =
      let r = found_at doomed place j one one (ap (λ (n : ℕ). is_of_task n j one) over.depth ∙ is) 0 at ss over.own (sym (ap (λ (p : Parts). call_at p at) over.parts) ∙ there) in
      let number : r.p ≡ j = omega (arith, r.here) in
      sym (ap made_of (ap (stood ss) (sym number) ∙ r.stands))

  module _ (low high : ℕ) (met : high ≤ low) (ends : EndsBefore b.parts depth j high) (begins : BeginsBehind b.parts depth j low) where
    excluded : (one : Made) → made_of (stood ss j) ≡ Some one → ⊥
    excluded one is =
        let r = has_call doomed place 0 j ss one over.own is in
        let zeroth : 0 + j ≡ j = omega arith in
        let own : IsTask doomed place one j = r.own ∙ ap (λ (q : ℕ). place.sels ++ task_sel q ∷ []) zeroth in
        omega (arith, met, before r own ends, behind r own begins)
      where
        there_is : HasCall doomed place 0 j ss one → (at : ℕ) → call_at b.parts at ≡ call_at (below doomed place 0 ss) at
        there_is r at = ap (λ (p : Parts). call_at p at) over.parts

        before : (r : HasCall doomed place 0 j ss one) → IsTask doomed place one j → EndsBefore b.parts depth j high → r.at < high
        before r own (inl last) = omega (arith, last, r.low)
        before r own (inr (inl none)) = none_behind b.parts high r.at one none (there_is r r.at ∙ r.there)
        before r own (inr (inr (two, there, other, late))) = by_test (nat_lt r.at high) refl
          where
            at_two : Numbered doomed place 0 high two
            at_two = number doomed place 0 high ss two over.own (sym (there_is r high) ∙ there)

            not_front : nat_lt at_two.n j ≡ false
            not_front = sym (in_front doomed place two at_two.n j at_two.own) ∙ ap (λ (n : ℕ). is_in_front n j two) over.depth ∙ late

            not_it : (at_two.n == j) ≡ false
            not_it = sym (of_task doomed place two at_two.n j at_two.own) ∙ ap (λ (n : ℕ). is_of_task n j two) over.depth ∙ other

            one_place : high ≡ r.at → ⊥
            one_place e =
                let same : two ≡ one = cc (there, r.there, there_is r high, e) in
                let number : at_two.n ≡ j = same_number doomed place one at_two.n j (subst (λ (x : Made). IsTask doomed place x at_two.n) same at_two.own) own in
                cc (not_it, eq-eqb at_two.n j number)

            by_test : (b : Bool) → nat_lt r.at high ≡ b → r.at < high
            by_test true is = ltb-true r.at high is
            by_test false is = by_place (nat_lt high r.at) refl
              where
                by_place : (c : Bool) → nat_lt high r.at ≡ c → r.at < high
                by_place true lt =
                    let later : at_two.n < j = ordered doomed place 0 high r.at ss two one at_two.n j over.own (sym (there_is r high) ∙ there) r.there (ltb-true high r.at lt) at_two.own own in
                    let front : nat_lt at_two.n j ≡ true = lt-ltb at_two.n j later in
                    absurd (cc (front, not_front))
                by_place false le =
                    let same_place : high ≡ r.at = omega (arith, ltb-false r.at high is, ltb-false high r.at le) in
                    absurd (one_place same_place)

        behind : (r : HasCall doomed place 0 j ss one) → IsTask doomed place one j → BeginsBehind b.parts depth j low → low ≤ r.at
        behind r own (inl first) = omega (arith, first)
        behind r own (inr (k, two, next, there, front)) = by_test (nat_lt k r.at) refl
          where
            at_two : Numbered doomed place 0 k two
            at_two = number doomed place 0 k ss two over.own (sym (there_is r k) ∙ there)

            is_front : nat_lt at_two.n j ≡ true
            is_front = sym (in_front doomed place two at_two.n j at_two.own) ∙ ap (λ (n : ℕ). is_in_front n j two) over.depth ∙ front

            lower : at_two.n < j
            lower = ltb-true at_two.n j is_front

            one_place : k ≡ r.at → ⊥
            one_place e =
                let same : two ≡ one = cc (there, r.there, there_is r k, e) in
                let number : at_two.n ≡ j = same_number doomed place one at_two.n j (subst (λ (x : Made). IsTask doomed place x at_two.n) same at_two.own) own in
                omega (arith, lower, number)

            by_test : (b : Bool) → nat_lt k r.at ≡ b → low ≤ r.at
            by_test true is = omega (arith, next, ltb-true k r.at is)
            by_test false is = by_place (nat_lt r.at k) refl
              where
                by_place : (c : Bool) → nat_lt r.at k ≡ c → low ≤ r.at
                by_place true lt =
                    let later : j < at_two.n = ordered doomed place 0 r.at k ss one two j at_two.n over.own r.there (sym (there_is r k) ∙ there) (ltb-true r.at k lt) own at_two.own in
                    absurd (omega (arith, later, lower))
                by_place false le =
                    let same_place : k ≡ r.at = omega (arith, ltb-false k r.at is, ltb-false r.at k le) in
                    absurd (one_place same_place)

    none_made : (o : Option Made) → ((one : Made) → o ≡ Some one → ⊥) → None ≡ o
    none_made None off = refl
    none_made (Some one) off = absurd (off one refl)

    -- a search that ended without it
    pub absent : None ≡ made_of (stood ss j)
    absent = none_made (made_of (stood ss j)) excluded
