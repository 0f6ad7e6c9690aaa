-- Each step of a walk keeps what it was to keep, and does some of the work.
use Rattle.std.proofs.Common.{◌≡◌, ◌≢◌, ℕ, ◌+◌, ◌-◌, ◌<◌, ◌≤◌, List, [], ◌∷◌, ◌++◌, length, get_or, set, take, replicate, refl, sym, ap, ◌∙◌, subst, inl, inr, arith}
use Rattle.std.proofs.lemmas.Bool.{cases_lt}
use Rattle.std.proofs.lemmas.List.{get_or_default, get_or_past, get_or_append_left, get_or_push, get_or-replicate, get_or-set_same, get_or-set_other, get_or-take, length-set, length-take, length-replicate, length_push, take-append-le, take_all}
use Rattle.std.proofs.lemmas.List.Elements.{All-push, All-take, All-get_or, Contains-push, Contains-append_left}
use Rattle.std.proofs.lemmas.List.Quantifiers.{all_pairs_push}
use Rattle.std.proofs.lemmas.List.Sums.{sum_by-set}
use Rattle.std.specs.List.{All, Contains, sum_by}
use Rattle.task_order.specs.declared.stage.Stage.{Stage}
use Rattle.task_order.specs.declared.stage.Stage.TheVariants.{New, Open, Done}
use Rattle.task_order.specs.Orders.{row, Reaches, at_once, over, StandsBehind, IsOrder}
use Rattle.task_order.specs.Inside.Walks.{stage, Sound, weight}
use Rattle.task_order.proofs.Among.{same_or}

-- one place more at the end of a way
pub on : (waits : List (List ℕ)) (goal u v : ℕ) → Reaches waits u v → Contains (row waits u) goal → Reaches waits goal v
on waits goal u v (at_once among) more = over u among (at_once more)
on waits goal u v (over w among way) more = over w among (on waits goal u w way more)

-- ---- one stage changes

stage_same : (stages : List Stage) (v : ℕ) (s : Stage) → v < length stages → stage (set stages v s) v ≡ s
stage_same stages v s below = get_or-set_same stages v s New below

stage_other : (stages : List Stage) (v w : ℕ) (s : Stage) → w ≢ v → stage (set stages v s) w ≡ stage stages w
stage_other stages v w s other = get_or-set_other stages v w s New other

-- a stage that is not the new one was there before
pub stage_before : (stages : List Stage) (v w : ℕ) (s other : Stage) → v < length stages → s ≢ other → stage (set stages v s) w ≡ other → (w ≢ v) × (stage stages w ≡ other)
stage_before stages v w s other below differ is =
    elim (same_or w v) [
      | inl same ↦ absurd (differ (sym (stage_same stages v s below) ∙ ap (λ u. stage (set stages v s) u) (sym same) ∙ is))
      | inr apart ↦ (apart, sym (stage_other stages v w s apart) ∙ is)
    ]

-- a stage that changes is not that of another place
stage_kept : (stages : List Stage) (v w : ℕ) (s old kept : Stage) → stage stages v ≡ old → old ≢ kept → stage stages w ≡ kept → stage (set stages v s) w ≡ kept
stage_kept stages v w s old kept was differ is =
    elim (same_or w v) [
      | inl same ↦ absurd (differ (sym was ∙ ap (stage stages) (sym same) ∙ is))
      | inr apart ↦ stage_other stages v w s apart ∙ is
    ]

module _ (waits : List (List ℕ)) where
  -- ---- the start

  pub sound_start : (stages : List Stage) (passed order trail : List ℕ) → stages ≡ replicate (length waits) New → passed ≡ replicate {A = ℕ} (length waits) 0 → order ≡ [] → trail ≡ [] → Sound waits stages passed order trail
  sound_start stages passed order trail stages_are passed_are order_is open_is = record {
    stages_long = ap length stages_are ∙ length-replicate (length waits) New;
    passed_long = ap length passed_are ∙ length-replicate (length waits) 0;
    order_within = λ k d low. absurd (omega (arith, ap length order_is));
    trail_within = λ k d low. absurd (omega (arith, ap length open_is));
    passed_within = λ v. let none = no_passed v in omega (arith, none);
    passed_done = λ v k low. absurd (let none = no_passed v in omega (arith, none));
    done_ordered = λ v is. absurd (let new = all_new v in let both : New ≡ Done = sym new ∙ is in cc);
    order_done = λ k d low. absurd (omega (arith, ap length order_is));
    order_once = λ i j d less low. absurd (omega (arith, ap length order_is));
    behind = λ k low. absurd (omega (arith, ap length order_is));
    open_met = λ v is. absurd (let new = all_new v in let both : New ≡ Open = sym new ∙ is in cc);
    trail_open = λ k d low. absurd (omega (arith, ap length open_is));
    trail_once = λ i j d less low. absurd (omega (arith, ap length open_is));
    path = λ i j less low. absurd (omega (arith, ap length open_is));
  }
    where
      none_passed : (n v : ℕ) → get_or (replicate {A = ℕ} n 0) v 0 ≡ 0
      none_passed n v =
          elim (cases_lt v n) [
            | inl below ↦ get_or-replicate n v 0 0 below
            | inr past ↦ get_or_past (replicate n 0) v 0 (let long : length (replicate {A = ℕ} n 0) ≡ n = length-replicate n 0 in omega (arith, long))
          ]

      no_passed : (v : ℕ) → get_or passed v 0 ≡ 0
      no_passed v = ap (λ ps. get_or ps v 0) passed_are ∙ none_passed (length waits) v

      none_met : (n v : ℕ) → stage (replicate n New) v ≡ New
      none_met n v =
          elim (cases_lt v n) [
            | inl below ↦ get_or-replicate n v New New below
            | inr past ↦ get_or_past (replicate n New) v New (let long : length (replicate {A = Stage} n New) ≡ n = length-replicate n New in omega (arith, long))
          ]

      all_new : (v : ℕ) → stage stages v ≡ New
      all_new v = ap (λ ss. stage ss v) stages_are ∙ none_met (length waits) v

  module _ (stages : List Stage) (passed order trail : List ℕ) (s : Sound waits stages passed order trail) where
    not_both : (v : ℕ) (a b : Stage) → stage stages v ≡ a → stage stages v ≡ b → a ≢ b → ⊥
    not_both v a b is_a is_b differ = differ (sym is_a ∙ is_b)

    -- ---- a place is opened

    pub sound_begun : (v : ℕ) → v < length waits → stage stages v ≡ New → ((i : ℕ) → i < length trail → Reaches waits v (get_or trail i 0)) → Sound waits (set stages v Open) passed order (trail ++ v ∷ [])
    sound_begun v below new leads = record {
      stages_long = length-set stages v Open ∙ s.stages_long;
      passed_long = s.passed_long;
      order_within = s.order_within;
      trail_within = All-push (λ u. u < length waits) trail v s.trail_within below;
      passed_within = s.passed_within;
      passed_done = λ u k low. stage_kept stages v (get_or (row waits u) k 0) Open New Done new (λ e. absurd cc) (s.passed_done u k low);
      done_ordered = λ u is. s.done_ordered u (stage_before stages v u Open Done in_stages (λ e. absurd cc) is).1;
      order_done = λ k d low. stage_kept stages v (get_or order k d) Open New Done new (λ e. absurd cc) (s.order_done k d low);
      order_once = s.order_once;
      behind = s.behind;
      open_met = λ u is. opened u is;
      trail_open =
          All-push (λ u. stage (set stages v Open) u ≡ Open) trail v
          (λ k d low. stage_kept stages v (get_or trail k d) Open New Open new (λ e. absurd cc) (s.trail_open k d low))
          (stage_same stages v Open in_stages);
      trail_once = all_pairs_push ◌≢◌ trail v s.trail_once (λ k d low same. not_both v Open New (ap (stage stages) (sym same) ∙ s.trail_open k d low) new (λ e. absurd cc));
      path = λ i j less low. way i j less low;
    }
      where
        in_stages : v < length stages
        in_stages = let long = s.stages_long in omega (arith, long)

        opened : (u : ℕ) → stage (set stages v Open) u ≡ Open → Contains (trail ++ v ∷ []) u
        opened u is =
            elim (same_or u v) [
              | inl same ↦ subst (λ w. Contains (trail ++ v ∷ []) w) (sym same) (Contains-push trail v)
              | inr apart ↦ Contains-append_left trail (v ∷ []) u (s.open_met u (sym (stage_other stages v u Open apart) ∙ is))
            ]

        way : (i j : ℕ) → i < j → j < length (trail ++ v ∷ []) → Reaches waits (get_or (trail ++ v ∷ []) j 0) (get_or (trail ++ v ∷ []) i 0)
        way i j less low =
            let long = length_push trail v in
            let front : get_or (trail ++ v ∷ []) i 0 ≡ get_or trail i 0 = get_or_append_left trail (v ∷ []) 0 i (omega (arith, long)) in
            elim (cases_lt j (length trail)) [
              | inl before ↦
                  let back : get_or (trail ++ v ∷ []) j 0 ≡ get_or trail j 0 = get_or_append_left trail (v ∷ []) 0 j before in
                  subst (λ a. Reaches waits a (get_or (trail ++ v ∷ []) i 0)) (sym back) (subst (λ b. Reaches waits (get_or trail j 0) b) (sym front) (s.path i j less before))
              | inr past ↦
                  let last : get_or (trail ++ v ∷ []) j 0 ≡ v = get_or_push trail v 0 j (omega (arith, long)) in
                  subst (λ a. Reaches waits a (get_or (trail ++ v ∷ []) i 0)) (sym last) (subst (λ b. Reaches waits v b) (sym front) (leads i (omega (arith, long))))
            ]

    -- ---- more of a row was passed

    pub sound_passed : (v next : ℕ) → v < length waits → next ≤ length (row waits v) → ((k : ℕ) → k < next → stage stages (get_or (row waits v) k 0) ≡ Done) → Sound waits stages (set passed v next) order trail
    sound_passed v next below within done_ = record {
      stages_long = s.stages_long;
      passed_long = length-set passed v next ∙ s.passed_long;
      order_within = s.order_within;
      trail_within = s.trail_within;
      passed_within = λ u. low u;
      passed_done = λ u k less. met u k less;
      done_ordered = s.done_ordered;
      order_done = s.order_done;
      order_once = s.order_once;
      behind = s.behind;
      open_met = s.open_met;
      trail_open = s.trail_open;
      trail_once = s.trail_once;
      path = s.path;
    }
      where
        here : get_or (set passed v next) v 0 ≡ next
        here = get_or-set_same passed v next 0 (let long = s.passed_long in omega (arith, long))

        low : (u : ℕ) → get_or (set passed v next) u 0 ≤ length (row waits u)
        low u =
            elim (same_or u v) [
              | inl same ↦ subst (λ w. get_or (set passed v next) w 0 ≤ length (row waits w)) (sym same) (omega (arith, here))
              | inr apart ↦ let kept = get_or-set_other passed v u next 0 apart in let old = s.passed_within u in omega (arith, kept, old)
            ]

        met : (u k : ℕ) → k < get_or (set passed v next) u 0 → stage stages (get_or (row waits u) k 0) ≡ Done
        met u k less =
            elim (same_or u v) [
              | inl same ↦
                  let less_here : k < get_or (set passed v next) v 0 = subst (λ w. k < get_or (set passed v next) w 0) same less in
                  subst (λ w. stage stages (get_or (row waits w) k 0) ≡ Done) (sym same) (done_ k (omega (arith, here, less_here)))
              | inr apart ↦ let kept = get_or-set_other passed v u next 0 apart in s.passed_done u k (omega (arith, kept))
            ]

    -- ---- the last place is done

    pub sound_finished : (v : ℕ) → 0 < length trail → v ≡ get_or trail (length trail - 1) 0 → ((k : ℕ) → k < length (row waits v) → stage stages (get_or (row waits v) k 0) ≡ Done) → Sound waits (set stages v Done) passed (order ++ v ∷ []) (take (length trail - 1) trail)
    sound_finished v some last done_ = record {
      stages_long = length-set stages v Done ∙ s.stages_long;
      passed_long = s.passed_long;
      order_within = All-push (λ u. u < length waits) order v s.order_within below;
      trail_within = All-take (λ u. u < length waits) (length trail - 1) trail s.trail_within;
      passed_within = s.passed_within;
      passed_done = λ u k low. stays (get_or (row waits u) k 0) (s.passed_done u k low);
      done_ordered = λ u is. ordered u is;
      order_done = All-push (λ u. stage (set stages v Done) u ≡ Done) order v (λ k d low. stays (get_or order k d) (s.order_done k d low)) (stage_same stages v Done in_stages);
      order_once = all_pairs_push ◌≢◌ order v s.order_once (λ k d low same. not_both v Open Done is_open (ap (stage stages) (sym same) ∙ s.order_done k d low) (λ e. absurd cc));
      behind = λ k low. stands k low;
      open_met = λ u is. opened u is;
      trail_open = λ k d low. still_open k d low;
      trail_once = λ i j d less low. apart i j d less low;
      path = λ i j less low. way i j less low;
    }
      where
        below : v < length waits
        below = subst (λ u. u < length waits) (sym last) (All-get_or (λ u. u < length waits) trail (length trail - 1) 0 (omega arith) s.trail_within)

        in_stages : v < length stages
        in_stages = let long = s.stages_long in omega (arith, long)

        is_open : stage stages v ≡ Open
        is_open = subst (λ u. stage stages u ≡ Open) (sym last) (s.trail_open (length trail - 1) 0 (omega arith))

        still_open : (k d : ℕ) → k < length (take (length trail - 1) trail) → stage (set stages v Done) (get_or (take (length trail - 1) trail) k d) ≡ Open
        still_open k d low =
            let short = length-take (length trail - 1) trail in
            let before : k < length trail - 1 = omega (arith, short) in
            let there : get_or (take (length trail - 1) trail) k d ≡ get_or trail k d = get_or-take (length trail - 1) trail k d before in
            let final : get_or trail (length trail - 1) d ≡ v = get_or_default trail (length trail - 1) d 0 (omega arith) ∙ sym last in
            subst (λ u. stage (set stages v Done) u ≡ Open) (sym there)
            (stage_other stages v (get_or trail k d) Done (λ same. s.trail_once k (length trail - 1) d before (omega arith) (same ∙ sym final)) ∙ s.trail_open k d (omega arith))

        apart : (i j d : ℕ) → i < j → j < length (take (length trail - 1) trail) → get_or (take (length trail - 1) trail) i d ≢ get_or (take (length trail - 1) trail) j d
        apart i j d less low same =
            let short = length-take (length trail - 1) trail in
            let at_j : get_or (take (length trail - 1) trail) j d ≡ get_or trail j d = get_or-take (length trail - 1) trail j d (omega (arith, short)) in
            let at_i : get_or (take (length trail - 1) trail) i d ≡ get_or trail i d = get_or-take (length trail - 1) trail i d (omega (arith, short)) in
            s.trail_once i j d less (omega (arith, short)) (sym at_i ∙ same ∙ at_j)

        stays : (u : ℕ) → stage stages u ≡ Done → stage (set stages v Done) u ≡ Done
        stays u is =
            elim (same_or u v) [
              | inl same ↦ subst (λ w. stage (set stages v Done) w ≡ Done) (sym same) (stage_same stages v Done in_stages)
              | inr apart ↦ stage_other stages v u Done apart ∙ is
            ]

        ordered : (u : ℕ) → stage (set stages v Done) u ≡ Done → Contains (order ++ v ∷ []) u
        ordered u is =
            elim (same_or u v) [
              | inl same ↦ subst (λ w. Contains (order ++ v ∷ []) w) (sym same) (Contains-push order v)
              | inr apart ↦ Contains-append_left order (v ∷ []) u (s.done_ordered u (sym (stage_other stages v u Done apart) ∙ is))
            ]

        row_ordered : All (Contains order) (row waits v)
        row_ordered = λ k d low. subst (λ u. Contains order u) (get_or_default (row waits v) k 0 d low) (s.done_ordered (get_or (row waits v) k 0) (done_ k low))

        stands : StandsBehind waits (order ++ v ∷ [])
        stands k low =
            let long = length_push order v in
            elim (cases_lt k (length order)) [
              | inl before ↦
                  let front : take k (order ++ v ∷ []) ≡ take k order = take-append-le k order (v ∷ []) (omega (arith, before)) in
                  let same : get_or (order ++ v ∷ []) k 0 ≡ get_or order k 0 = get_or_append_left order (v ∷ []) 0 k before in
                  subst (λ xs. All (Contains xs) (row waits (get_or (order ++ v ∷ []) k 0))) (sym front)
                  (subst (λ u. All (Contains (take k order)) (row waits u)) (sym same) (s.behind k before))
              | inr past ↦
                  let at : length order ≡ k = omega (arith, long) in
                  let front : take k (order ++ v ∷ []) ≡ order = take-append-le k order (v ∷ []) (omega (arith, at)) ∙ take_all k order (omega (arith, at)) in
                  let same : get_or (order ++ v ∷ []) k 0 ≡ v = get_or_push order v 0 k at in
                  subst (λ xs. All (Contains xs) (row waits (get_or (order ++ v ∷ []) k 0))) (sym front)
                  (subst (λ u. All (Contains order) (row waits u)) (sym same) row_ordered)
            ]

        opened : (u : ℕ) → stage (set stages v Done) u ≡ Open → Contains (take (length trail - 1) trail) u
        opened u is =
            let (apart, was) = stage_before stages v u Done Open in_stages (λ e. absurd cc) is in
            at apart (s.open_met u was)
          where
            at : u ≢ v → Contains trail u → Contains (take (length trail - 1) trail) u
            at apart (k, low, there) =
                elim (cases_lt k (length trail - 1)) [
                  | inl before ↦ (k, (let short = length-take (length trail - 1) trail in omega (arith, short)), get_or-take (length trail - 1) trail k u before ∙ there)
                  | inr past ↦
                      let is_last : k ≡ length trail - 1 = omega arith in
                      let same : u ≡ v = sym there ∙ get_or_default trail k u 0 low ∙ ap (λ n. get_or trail n 0) is_last ∙ sym last in
                      absurd (apart same)
                ]

        way : (i j : ℕ) → i < j → j < length (take (length trail - 1) trail) → Reaches waits (get_or (take (length trail - 1) trail) j 0) (get_or (take (length trail - 1) trail) i 0)
        way i j less low =
            let short = length-take (length trail - 1) trail in
            let at_j : get_or (take (length trail - 1) trail) j 0 ≡ get_or trail j 0 = get_or-take (length trail - 1) trail j 0 (omega (arith, short)) in
            let at_i : get_or (take (length trail - 1) trail) i 0 ≡ get_or trail i 0 = get_or-take (length trail - 1) trail i 0 (omega (arith, short)) in
            subst (λ a. Reaches waits a (get_or (take (length trail - 1) trail) i 0)) (sym at_j)
            (subst (λ b. Reaches waits (get_or trail j 0) b) (sym at_i) (s.path i j less (omega (arith, short))))

    -- ---- what the last place waits for

    -- each trail place reaches what the last one waits for
    pub leads : (v goal : ℕ) → v ≡ get_or trail (length trail - 1) 0 → Contains (row waits v) goal → (i : ℕ) → i < length trail → Reaches waits goal (get_or trail i 0)
    leads v goal last among i low =
        elim (cases_lt i (length trail - 1)) [
          | inl before ↦ on waits goal (get_or trail (length trail - 1) 0) (get_or trail i 0) (s.path i (length trail - 1) before (omega arith)) (subst (λ u. Contains (row waits u) goal) last among)
          | inr past ↦
              let is_last : i ≡ length trail - 1 = omega arith in
              subst (λ u. Reaches waits goal u) (last ∙ ap (λ n. get_or trail n 0) (sym is_last)) (at_once among)
        ]

    -- an trail place that the last one waits for reaches itself
    pub circle : (v goal : ℕ) → v ≡ get_or trail (length trail - 1) 0 → Contains (row waits v) goal → stage stages goal ≡ Open → Reaches waits goal goal
    circle v goal last among is = at (s.open_met goal is)
      where
        at : Contains trail goal → Reaches waits goal goal
        at (i, low, there) = subst (λ u. Reaches waits goal u) (get_or_default trail i 0 goal low ∙ there) (leads v goal last among i low)

    -- ---- the end

    pub order_made : trail ≡ [] → ((v : ℕ) → v < length waits → stage stages v ≢ New) → IsOrder waits order
    order_made none met = record {
      behind = s.behind;
      within = s.order_within;
      whole = λ v below. s.done_ordered v (must_be_done v (stage stages v) refl (met v below));
      once = s.order_once;
    }
      where
        not_open : (v : ℕ) → Contains trail v → ⊥
        not_open v (k, low, is) = omega (arith, ap length none)

        must_be_done : (v : ℕ) (x : Stage) → stage stages v ≡ x → x ≢ New → stage stages v ≡ Done
        must_be_done v New is differs = absurd (differs refl)
        must_be_done v Open is differs = absurd (not_open v (s.open_met v is))
        must_be_done v Done is differs = is

-- ---- the work

pub new_less : (stages : List Stage) (v n : ℕ) → v < length stages → stage stages v ≡ New → sum_by weight (set stages v Open) + (n + 1) < sum_by weight stages + n
new_less stages v n below is =
    let sums = sum_by-set weight stages v Open New below in
    let two : weight (stage stages v) ≡ 2 = ap weight is in
    omega (arith, sums, two)

pub done_less : (stages : List Stage) (v n : ℕ) → v < length stages → 0 < n → sum_by weight (set stages v Done) + (n - 1) < sum_by weight stages + n
done_less stages v n below some =
    let sums = sum_by-set weight stages v Done New below in
    omega (arith, sums)
