-- A step of a walk goes on, or meets a circle.
use Rattle.std.proofs.Common.{◌≡◌, ◌≢◌, ℕ, ◌-◌, ◌<◌, ◌≤◌, List, [], ◌∷◌, ◌++◌, length, get_or, set, take, refl, sym, ap, ◌∙◌, subst, inl, inr, arith}
use Rattle.std.proofs.lemmas.Bool.{cases_lt}
use Rattle.std.proofs.lemmas.List.{length_push, length-take, get_or_default}
use Rattle.std.proofs.lemmas.List.Elements.{All-get_or, Contains-get_or}
use Rattle.std.specs.List.{Contains, sum_by}
use Rattle.task_order.specs.declared.stage.Stage.{Stage}
use Rattle.task_order.specs.declared.stage.Stage.TheVariants.{New, Open, Done}
use Rattle.task_order.specs.declared.walk.Walk.{Walk}
use Rattle.task_order.specs.Orders.{row, AreWithin, Reaches}
use Rattle.task_order.specs.Inside.Walks.{stage, Sound, IsSound, weight, GoesOn}
use Rattle.task_order.proofs.Among.{among_from}
use Rattle.task_order.proofs.Graphs.{row_within}
use Rattle.task_order.proofs.Walks.{stage_before, sound_passed, sound_begun, sound_finished, leads, circle, new_less, done_less}

pub same_sound : (waits : List (List ℕ)) (stages stages' : List Stage) (passed passed' order order' trail trail' : List ℕ) → stages' ≡ stages → passed' ≡ passed → order' ≡ order → trail' ≡ trail → Sound waits stages passed order trail → Sound waits stages' passed' order' trail'
same_sound waits stages stages' passed passed' order order' trail trail' a b c d s =
    subst (λ x. Sound waits x passed' order' trail') (sym a)
    (subst (λ x. Sound waits stages x order' trail') (sym b)
    (subst (λ x. Sound waits stages passed x trail') (sym c)
    (subst (λ x. Sound waits stages passed order x) (sym d) s)))

pub must_be_open : (s : Stage) → s ≢ New → s ≢ Done → s ≡ Open
must_be_open New not_new not_done = absurd (not_new refl)
must_be_open Open not_new not_done = refl
must_be_open Done not_new not_done = absurd (not_done refl)

-- what a step reads: the place that was opened last, its row, how much of that was passed, and the next place left
module _ (waits : List (List ℕ)) (old new : Walk) (len v from next : ℕ) (places given : List ℕ) (stages : List Stage) (s : IsSound waits old) (some : 0 < length old.trail.items) (len_is : len ≡ length old.trail.items) (v_at : v ≡ get_or old.trail.items (len - 1) v)
    (given_at : given ≡ get_or waits v given) (places_given : places ≡ given) (from_at : from ≡ get_or old.passed.items v from) (stages_read : stages ≡ old.stages.items) (high : next ≤ length places) (done_next : (k : ℕ) → from ≤ k → k < next → stage stages (get_or places k 0) ≡ Done) where
  last : v ≡ get_or old.trail.items (length old.trail.items - 1) 0
  last = v_at ∙ get_or_default old.trail.items (len - 1) v 0 (omega arith) ∙ ap (λ n. get_or old.trail.items (n - 1) 0) len_is

  below : v < length waits
  below = subst (λ u. u < length waits) (sym last) (All-get_or (λ u. u < length waits) old.trail.items (length old.trail.items - 1) 0 (omega arith) s.trail_within)

  places_are : places ≡ row waits v
  places_are = places_given ∙ given_at ∙ get_or_default waits v given [] below

  from_is : from ≡ get_or old.passed.items v 0
  from_is = from_at ∙ get_or_default old.passed.items v from 0 (let low = below in let long = s.passed_long in omega (arith, low, long))

  done_ : (k : ℕ) → get_or old.passed.items v 0 ≤ k → k < next → stage old.stages.items (get_or places k 0) ≡ Done
  done_ k low less = subst (λ ss. stage ss (get_or places k 0) ≡ Done) stages_read (done_next k (let is = from_is in omega (arith, is)) less)

  in_stages : (u : ℕ) → u < length waits → u < length old.stages.items
  in_stages u low = let long = s.stages_long in omega (arith, long)

  all_done : (k : ℕ) → k < next → stage old.stages.items (get_or (row waits v) k 0) ≡ Done
  all_done k low =
      elim (cases_lt k (get_or old.passed.items v 0)) [
        | inl before ↦ s.passed_done v k before
        | inr after ↦ subst (λ ps. stage old.stages.items (get_or ps k 0) ≡ Done) places_are (done_ k after low)
      ]

  advanced : Sound waits old.stages.items (set old.passed.items v next) old.order.items old.trail.items
  advanced =
      sound_passed waits old.stages.items old.passed.items old.order.items old.trail.items s v next below
      (subst (λ ps. next ≤ length ps) places_are high) all_done

  pub goes_finished : next ≡ length places → new.stages.items ≡ set old.stages.items v Done → new.passed.items ≡ set old.passed.items v next → new.order.items ≡ old.order.items ++ v ∷ [] → new.trail.items ≡ take (length old.trail.items - 1) old.trail.items → GoesOn waits old new
  goes_finished whole stages_are passed_are order_is trail_is = record {
    sound = same_sound waits (set old.stages.items v Done) new.stages.items (set old.passed.items v next) new.passed.items (old.order.items ++ v ∷ []) new.order.items (take (length old.trail.items - 1) old.trail.items) new.trail.items stages_are passed_are order_is trail_is
        (sound_finished waits old.stages.items (set old.passed.items v next) old.order.items old.trail.items advanced v some last row_done);
    met = λ u is. (stage_before old.stages.items v u Done New (in_stages v below) (λ e. absurd cc) (subst (λ ss. stage ss u ≡ New) stages_are is)).1;
    less =
        let fewer = done_less old.stages.items v (length old.trail.items) (in_stages v below) some in
        let sums = ap (sum_by weight) stages_are in
        let short = ap length trail_is ∙ length-take (length old.trail.items - 1) old.trail.items in
        omega (arith, fewer, sums, short);
  }
    where
      row_done : (k : ℕ) → k < length (row waits v) → stage old.stages.items (get_or (row waits v) k 0) ≡ Done
      row_done k low = all_done k (let long = ap length places_are in omega (arith, long))

  module _ (x : Stage) (left : next < length places) (x_at : x ≡ get_or old.stages.items (get_or places next 0) x) where
    in_row : Contains (row waits v) (get_or places next 0)
    in_row = subst (λ ps. Contains ps (get_or places next 0)) places_are (Contains-get_or places next 0 left)

    low_wanted : AreWithin waits → get_or places next 0 < length waits
    low_wanted within = row_within waits v (get_or places next 0) within (among_from (row waits v) (get_or places next 0) in_row)

    pub goes_begun : AreWithin waits → x ≡ New → new.stages.items ≡ set old.stages.items (get_or places next 0) Open → new.passed.items ≡ set old.passed.items v next → new.order.items ≡ old.order.items → new.trail.items ≡ old.trail.items ++ get_or places next 0 ∷ [] → GoesOn waits old new
    goes_begun within x_new stages_are passed_are order_is trail_is = record {
      sound = same_sound waits (set old.stages.items (get_or places next 0) Open) new.stages.items (set old.passed.items v next) new.passed.items old.order.items new.order.items (old.trail.items ++ (get_or places next 0) ∷ []) new.trail.items stages_are passed_are order_is trail_is
          (sound_begun waits old.stages.items (set old.passed.items v next) old.order.items old.trail.items advanced (get_or places next 0) (low_wanted within) is_new (leads waits old.stages.items old.passed.items old.order.items old.trail.items s v (get_or places next 0) last in_row));
      met = λ u is. (stage_before old.stages.items (get_or places next 0) u Open New (in_stages (get_or places next 0) (low_wanted within)) (λ e. absurd cc) (subst (λ ss. stage ss u ≡ New) stages_are is)).1;
      less =
          let fewer = new_less old.stages.items (get_or places next 0) (length old.trail.items) (in_stages (get_or places next 0) (low_wanted within)) is_new in
          let sums = ap (sum_by weight) stages_are in
          let long = ap length trail_is ∙ length_push old.trail.items (get_or places next 0) in
          omega (arith, fewer, sums, long);
    }
      where
        is_new : stage old.stages.items (get_or places next 0) ≡ New
        is_new = ap (λ y. get_or old.stages.items (get_or places next 0) y) (sym x_new) ∙ sym x_at ∙ x_new

    pub meets_circle : AreWithin waits → x ≢ New → stage stages (get_or places next 0) ≢ Done → (u : ℕ) × Reaches waits u u
    meets_circle within not_new not_done = (
      get_or places next 0,
      circle waits old.stages.items old.passed.items old.order.items old.trail.items s v (get_or places next 0) last in_row
          (must_be_open (stage old.stages.items (get_or places next 0))
          (λ is. not_new (x_at ∙ get_or_default old.stages.items (get_or places next 0) x New (in_stages (get_or places next 0) (low_wanted within)) ∙ is))
          (λ is. not_done (subst (λ ss. stage ss (get_or places next 0) ≡ Done) (sym stages_read) is))),
    )
