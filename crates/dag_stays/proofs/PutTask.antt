-- An entry that is put where it belongs among those of a DAG's tasks stands for the task that gave nothing before.
use Rattle.std.proofs.Common.{◌≡◌, ℕ, zero, suc, ◌+◌, ◌<◌, ◌≤◌, [], ◌∷◌, ◌++◌, length, Bool, true, false, nat_lt, refl, sym, ap, ◌∙◌, arith}
use Rattle.std.proofs.lemmas.Bool.{lt-ltb, le-ltb}
use Rattle.std.specs.Prelude.{slice_get}
use Rattle.tree_types.specs.declared.path.Path.{Path}
use Rattle.tree_types.specs.declared.path.Sel.TheVariants.{Task as task_sel}
use Rattle.wf_manifest.specs.declared.calls.Task.{Task}
use Rattle.meaning.specs.declared.lines.Place.{Place}
use Rattle.meaning.specs.Answers.{Sels, path}
use Rattle.meaning.specs.Lines.{Own, Parts, nothing, call, may_begin, asks, then_parts}
use Rattle.meaning.specs.Dags.{Standing, waiting, ready, exists, Standings, task_place, task_then, tasks_below}
use Rattle.dag_board.specs.Boards.{stood}
use Rattle.tree_state.specs.declared.inserting.TaskPlace.{TaskPlace}
use Rattle.tree_state.specs.Inserting.{later_by, is_later, begins_later, ends_later, IsPut}
use Rattle.dag_stays.specs.Behind.{put}
use Rattle.dag_stays.specs.Over.{IsOwn, AreOwn}
use Rattle.dag_stays.proofs.Found.{last_sel}

none_then : (x y : Parts) → x ≡ nothing → then_parts x y ≡ y
none_then x y is = ap (λ (p : Parts). then_parts p y) is

module _ (doomed : Bool) (place : Place) (k : ℕ) where
  abbrev pub at_task : TaskPlace
  at_task = record { depth = length place.sels; task = k }

  later_is : (i : ℕ) (p : Sels) → p ≡ place.sels ++ task_sel i ∷ [] → is_later at_task p ≡ nat_lt k i
  later_is i p own = ap (λ (s : Sels). later_by k (slice_get s (length place.sels))) own ∙ ap (later_by k) (last_sel place.sels (task_sel i))

  is_behind : (i : ℕ) (p : Sels) → p ≡ place.sels ++ task_sel i ∷ [] → k < i → is_later at_task p ≡ true
  is_behind i p own lt = later_is i p own ∙ lt-ltb k i lt

  is_front : (i : ℕ) (p : Sels) → p ≡ place.sels ++ task_sel i ∷ [] → i ≤ k → is_later at_task p ≡ false
  is_front i p own le = later_is i p own ∙ le-ltb k i le

  -- ---- entries of later tasks end with one

  -- what stands in front of some of them
  ends_behind : (i : ℕ) (ss : Standings) → k < i → AreOwn place.sels i ss → (front back : Parts) → tasks_below doomed place i ss ≡ then_parts front back → ends_later at_task true front ≡ true
  ends_behind i [] lt own nothing back is = refl
  ends_behind i [] lt own (call o inner rest) back is = absurd (cc is)
  ends_behind i [] lt own (may_begin p rest) back is = absurd (cc is)
  ends_behind i [] lt own (asks w rest) back is = absurd (cc is)
  ends_behind i (s ∷ ss) lt own front back is = by_standing (λ rest more. ends_behind (suc i) ss (omega (arith, lt)) own.1 rest back more) doomed s.1 own.0 front is
    where
      by_standing : ((rest : Parts) → tasks_below doomed place (suc i) ss ≡ then_parts rest back → ends_later at_task true rest ≡ true) → (b : Bool) (x : Standing) → IsOwn place.sels i x → (front : Parts) → task_then b (task_place place i s.0) x (tasks_below doomed place (suc i) ss) ≡ then_parts front back → ends_later at_task true front ≡ true
      by_standing next true waiting h front is = next front is
      by_standing next false waiting h front is = next front is
      by_standing next true ready h front is = next front is
      by_standing next false ready h nothing is = refl
      by_standing next false ready h (may_begin p rest) is =
          let here : path (task_place place i s.0).sels ≡ p = cc is in
          let more : tasks_below doomed place (suc i) ss ≡ then_parts rest back = cc is in
          ap (λ (b : Bool). ends_later at_task b rest) (is_behind i p.sels (ap (λ (q : Path). q.sels) (sym here)) lt) ∙ next rest more
      by_standing next false ready h (call o inner rest) is = absurd (cc is)
      by_standing next false ready h (asks w rest) is = absurd (cc is)
      by_standing next b (exists m branch seen) h nothing is = refl
      by_standing next b (exists m branch seen) h (call o inner rest) is =
          let here : m.own ≡ o = cc is in
          let more : tasks_below doomed place (suc i) ss ≡ then_parts rest back = cc is in
          ap (λ (b : Bool). ends_later at_task b rest) (is_behind i o.node.path.sels (ap (λ (q : Own). q.node.path.sels) (sym here) ∙ h) lt) ∙ next rest more
      by_standing next b (exists m branch seen) h (may_begin p rest) is = absurd (cc is)
      by_standing next b (exists m branch seen) h (asks w rest) is = absurd (cc is)

  -- so nothing stands in front of them
  none_in_front : (i : ℕ) (ss : Standings) → k < i → AreOwn place.sels i ss → (front back : Parts) → tasks_below doomed place i ss ≡ then_parts front back → ends_later at_task false front ≡ false → front ≡ nothing
  none_in_front i [] lt own nothing back is ends = refl
  none_in_front i [] lt own (call o inner rest) back is ends = absurd (cc is)
  none_in_front i [] lt own (may_begin p rest) back is ends = absurd (cc is)
  none_in_front i [] lt own (asks w rest) back is ends = absurd (cc is)
  none_in_front i (s ∷ ss) lt own front back is ends = by_standing (λ front more ends. none_in_front (suc i) ss (omega (arith, lt)) own.1 front back more ends) doomed s.1 own.0 front is ends
    where
      behind : (rest : Parts) → tasks_below doomed place (suc i) ss ≡ then_parts rest back → ends_later at_task true rest ≡ true
      behind rest = ends_behind (suc i) ss (omega (arith, lt)) own.1 rest back

      by_standing : ((front : Parts) → tasks_below doomed place (suc i) ss ≡ then_parts front back → ends_later at_task false front ≡ false → front ≡ nothing) → (b : Bool) (x : Standing) → IsOwn place.sels i x → (front : Parts) → task_then b (task_place place i s.0) x (tasks_below doomed place (suc i) ss) ≡ then_parts front back → ends_later at_task false front ≡ false → front ≡ nothing
      by_standing next true waiting h front is ends = next front is ends
      by_standing next false waiting h front is ends = next front is ends
      by_standing next true ready h front is ends = next front is ends
      by_standing next false ready h nothing is ends = refl
      by_standing next false ready h (may_begin p rest) is ends =
          let here : path (task_place place i s.0).sels ≡ p = cc is in
          let more : tasks_below doomed place (suc i) ss ≡ then_parts rest back = cc is in
          let both : true ≡ false = sym (behind rest more) ∙ ap (λ (b : Bool). ends_later at_task b rest) (sym (is_behind i p.sels (ap (λ (q : Path). q.sels) (sym here)) lt)) ∙ ends in
          absurd (cc both)
      by_standing next false ready h (call o inner rest) is ends = absurd (cc is)
      by_standing next false ready h (asks w rest) is ends = absurd (cc is)
      by_standing next b (exists m branch seen) h nothing is ends = refl
      by_standing next b (exists m branch seen) h (call o inner rest) is ends =
          let here : m.own ≡ o = cc is in
          let more : tasks_below doomed place (suc i) ss ≡ then_parts rest back = cc is in
          let both : true ≡ false = sym (behind rest more) ∙ ap (λ (b : Bool). ends_later at_task b rest) (sym (is_behind i o.node.path.sels (ap (λ (q : Own). q.node.path.sels) (sym here) ∙ h) lt)) ∙ ends in
          absurd (cc both)
      by_standing next b (exists m branch seen) h (may_begin p rest) is ends = absurd (cc is)
      by_standing next b (exists m branch seen) h (asks w rest) is ends = absurd (cc is)

  -- ---- the entry of task k, which gave nothing

  module _ (y : Standing) (between : Parts) where
    abbrev pub gives : ℕ → Standings → Parts
    gives p ss = tasks_below doomed place p ss

    -- the entry, before more
    abbrev pub IsEntry : Task → Type 0
    IsEntry t = (more : Parts) → task_then doomed (task_place place k t) y more ≡ then_parts between more

    put_there : (i p : ℕ) (ss : Standings) → i + p ≡ k → AreOwn place.sels i ss → p < length ss → ((t : Task) → IsEntry t) → ((t : Task) (more : Parts) → task_then doomed (task_place place k t) (stood ss p) more ≡ more) →
        (front back : Parts) → gives i ss ≡ then_parts front back → ends_later at_task false front ≡ false → begins_later at_task back ≡ true → then_parts front (then_parts between back) ≡ gives i (put ss p y)
    put_there i p [] here own lt entry gave front back is ends begins = absurd (omega (arith, lt))
    put_there i zero (s ∷ ss) here own lt entry gave front back is ends begins =
        let number : i ≡ k = omega (arith, here) in
        let rest : gives (suc i) ss ≡ then_parts front back = sym (gave s.0 (gives (suc i) ss)) ∙ (λ j. task_then doomed (task_place place (sym number j) s.0) s.1 (gives (suc i) ss)) ∙ is in
        let none : front ≡ nothing = none_in_front (suc i) ss (omega (arith, number)) own.1 front back rest ends in
        let whole : gives (suc i) ss ≡ back = rest ∙ none_then front back none in
        none_then front (then_parts between back) none
        ∙ ap (λ (q : Parts). then_parts between q) (sym whole)
        ∙ sym (entry s.0 (gives (suc i) ss))
        ∙ (λ j. task_then doomed (task_place place (sym number j) s.0) y (gives (suc i) ss))
    put_there i (suc p) (s ∷ ss) here own lt entry gave front back is ends begins =
        by_standing (λ front is ends. put_there (suc i) p ss (omega (arith, here)) own.1 (omega (arith, lt)) entry gave front back is ends begins) doomed s.1 own.0 front is ends
      where
        le : i ≤ k
        le = omega (arith, here)

        by_standing : ((front : Parts) → gives (suc i) ss ≡ then_parts front back → ends_later at_task false front ≡ false → then_parts front (then_parts between back) ≡ gives (suc i) (put ss p y)) → (b : Bool) (x : Standing) → IsOwn place.sels i x → (front : Parts) → task_then b (task_place place i s.0) x (gives (suc i) ss) ≡ then_parts front back → ends_later at_task false front ≡ false →
            then_parts front (then_parts between back) ≡ task_then b (task_place place i s.0) x (gives (suc i) (put ss p y))
        by_standing next true waiting h front is ends = next front is ends
        by_standing next false waiting h front is ends = next front is ends
        by_standing next true ready h front is ends = next front is ends
        by_standing next false ready h nothing is ends =
            let off : true ≡ false = sym begins ∙ ap (λ (q : Parts). begins_later at_task q) (sym is) ∙ is_front i (task_place place i s.0).sels refl le in
            absurd (cc off)
        by_standing next false ready h (may_begin p rest) is ends =
            let here : path (task_place place i s.0).sels ≡ p = cc is in
            let more : gives (suc i) ss ≡ then_parts rest back = cc is in
            let off : ends_later at_task false rest ≡ false = ap (λ (b : Bool). ends_later at_task b rest) (sym (is_front i p.sels (ap (λ (q : Path). q.sels) (sym here)) le)) ∙ ends in
            λ j. may_begin (sym here j) (next rest more off j)
        by_standing next false ready h (call o inner rest) is ends = absurd (cc is)
        by_standing next false ready h (asks w rest) is ends = absurd (cc is)
        by_standing next b (exists m branch seen) h nothing is ends =
            let off : true ≡ false = sym begins ∙ ap (λ (q : Parts). begins_later at_task q) (sym is) ∙ is_front i m.own.node.path.sels h le in
            absurd (cc off)
        by_standing next b (exists m branch seen) h (call o inner rest) is ends =
            let here : m.own ≡ o = cc is in
            let below : m.parts ≡ inner = cc is in
            let more : gives (suc i) ss ≡ then_parts rest back = cc is in
            let off : ends_later at_task false rest ≡ false = ap (λ (b : Bool). ends_later at_task b rest) (sym (is_front i o.node.path.sels (ap (λ (q : Own). q.node.path.sels) (sym here) ∙ h) le)) ∙ ends in
            λ j. call (sym here j) (sym below j) (next rest more off j)
        by_standing next b (exists m branch seen) h (may_begin p rest) is ends = absurd (cc is)
        by_standing next b (exists m branch seen) h (asks w rest) is ends = absurd (cc is)

    -- an entry that is put among them
    pub put_task : (ss : Standings) → AreOwn place.sels 0 ss → k < length ss → ((t : Task) → IsEntry t) → ((t : Task) (more : Parts) → task_then doomed (task_place place k t) (stood ss k) more ≡ more) →
        (new : Parts) → IsPut at_task between (gives 0 ss) new → new ≡ gives 0 (put ss k y)
    put_task ss own lt entry gave new is_put =
        is_put.is ∙ put_there 0 k ss (omega arith) own lt entry gave is_put.front is_put.back is_put.was is_put.ends is_put.begins
