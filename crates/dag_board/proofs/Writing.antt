-- A board on which one task more is written.
use Rattle.std.proofs.Common.{◌≡◌, ◌≢◌, ◌⊎◌, ℕ, zero, suc, ◌<◌, List, [], ◌∷◌, ◌++◌, length, get_or, take, Option, None, Some, refl, sym, ap, ◌∙◌, subst, inl, inr, arith}
use Rattle.std.proofs.Math.Seq.{take-suc}
use Rattle.std.specs.List.{Contains}
use Rattle.std.proofs.lemmas.List.{length-set, length-take, get_or-take, get_or-set_same, get_or-set_other}
use Rattle.std.proofs.lemmas.List.Elements.{Contains-push, Contains-push_cases, Contains-append_left}
use Rattle.std.proofs.lemmas.Option.{slice_get_within}
use Rattle.tree_types.specs.declared.phase.Phase.{Phase}
use Rattle.wf_manifest.specs.declared.calls.Task.{Task}
use Rattle.wf_manifest.specs.declared.calls.Dag.{Dag}
use Rattle.scopes.specs.Substitution.{Scope}
use Rattle.task_order.proofs.Among.{same_or}
use Rattle.meaning.specs.declared.lines.Place.{Place}
use Rattle.meaning.specs.Answers.{Answers}
use Rattle.meaning.specs.Lines.{Made}
use Rattle.meaning.specs.Steps.{Caller}
use Rattle.meaning.specs.Dags.{waiting, ready, exists, Standings, standings}
use Rattle.dag_plan.specs.declared.plan.DagPlan.{DagPlan}
use Rattle.dag_plan.specs.Plans.{IsPlan}
use Rattle.dag_template.specs.declared.stands.Stand.{Stand}
use Rattle.dag_template.specs.Stands.{sight, waits}
use Rattle.dag_board.specs.declared.board.Board.{Board}
use Rattle.dag_board.specs.Boards.{stood, made_of, stand_at, state_at, Shows, IsBlank, IsBoard, stands_at, IsTurn}
use Rattle.dag_board.specs.Turns.{WaitingIsShown, Exists, IsReady}
use Rattle.dag_board.specs.Inside.Puts.{IsPut}

-- the next task of the order is not done
pub not_done : (d : Dag) (plan : DagPlan) → IsPlan d plan → (k i : ℕ) (t : Task) → IsTurn d plan k i t → Contains (take k plan.order) i → ⊥
not_done d plan p k i t turn (j, below, is) =
    let short : j < k = omega (arith, length-take k plan.order) in
    let low : j < length plan.order = omega (arith, length-take k plan.order) in
    let at : get_or plan.order j i ≡ i = sym (get_or-take k plan.order j i short) ∙ is in
    p.order.once j k i short turn.low (at ∙ sym (here_any plan.order k i turn.low turn.here))
  where
    here_any : (xs : List ℕ) (k i : ℕ) → k < length xs → get_or xs k 0 ≡ i → get_or xs k i ≡ i
    here_any [] k i low is = refl
    here_any (x ∷ xs) zero i low is = is
    here_any (x ∷ xs) (suc k) i low is = here_any xs k i (omega (arith, low)) is

done_cases : (order : List ℕ) (k i p : ℕ) → k < length order → get_or order k 0 ≡ i → Contains (take (suc k) order) p → Contains (take k order) p ⊎ (i ≡ p)
done_cases order k i p low here c =
    elim (Contains-push_cases (take k order) (get_or order k 0) p (subst (λ xs. Contains xs p) (take-suc order k 0 low) c)) [
      | inl before ↦ inl before
      | inr same ↦ inr (sym here ∙ same)
    ]

still_done : (order : List ℕ) (k p : ℕ) → k < length order → Contains (take k order) p → Contains (take (suc k) order) p
still_done order k p low c = subst (λ xs. Contains xs p) (sym (take-suc order k 0 low)) (Contains-append_left (take k order) (get_or order k 0 ∷ []) p c)

now_done : (order : List ℕ) (k i : ℕ) → k < length order → get_or order k 0 ≡ i → Contains (take (suc k) order) i
now_done order k i low here =
    subst (λ xs. Contains xs i) (sym (take-suc order k 0 low)) (subst (Contains (take k order ++ get_or order k 0 ∷ [])) here (Contains-push (take k order) (get_or order k 0)))

module _ (d : Dag) (plan : DagPlan) (A : Answers) (called : Caller) (place : Place) (scope : Scope) (k i : ℕ) (t : Task) (turn : IsTurn d plan k i t) (old : Board) (shown : IsBoard A called place scope d (take k plan.order) old) where
  abbrev ss : Standings
  ss = standings A called place scope d

  abbrev order : List ℕ
  order = plan.order

  module _ (new : Board) (s : Stand) (m : Option Made) (put : IsPut old new i s m) where
    low : i < length d.tasks
    low = slice_get_within d.tasks i t turn.task

    put_same_stand : stand_at new i ≡ s
    put_same_stand = ap (λ (xs : List Stand). get_or xs i waits) put.stands ∙ get_or-set_same old.stands.items i s waits (omega (arith, low, shown.fits.stands))

    put_same_state : state_at new i ≡ m
    put_same_state = ap (λ (xs : List (Option Made)). get_or xs i None) put.states ∙ get_or-set_same old.states.items i m None (omega (arith, low, shown.fits.states))

    put_other_stand : (p : ℕ) → p ≢ i → stand_at new p ≡ stand_at old p
    put_other_stand p other = ap (λ (xs : List Stand). get_or xs p waits) put.stands ∙ get_or-set_other old.stands.items i p s waits other

    put_other_state : (p : ℕ) → p ≢ i → state_at new p ≡ state_at old p
    put_other_state p other = ap (λ (xs : List (Option Made)). get_or xs p None) put.states ∙ get_or-set_other old.states.items i p m None other

    pub written :
        s ≡ sight (stood ss i) → m ≡ made_of (stood ss i) → IsBoard A called place scope d (take (suc k) order) new
    written s_is m_is = record {
      fits = record {
        stands = ap (λ (xs : List Stand). length xs) put.stands ∙ length-set old.stands.items i s ∙ shown.fits.stands;
        states = ap (λ (xs : List (Option Made)). length xs) put.states ∙ length-set old.states.items i m ∙ shown.fits.states;
      };
      shown = λ p c. shows p (same_or p i) (done_cases order k i p turn.low turn.here c);
      blank = λ p n. blanks p n (same_or p i);
    }
      where
        own : Shows ss new i
        own = record {
          stand = put_same_stand ∙ s_is;
          state = put_same_state ∙ m_is;
        }

        other_shown : (p : ℕ) → p ≢ i → Shows ss old p → Shows ss new p
        other_shown p other sh = record {
          stand = put_other_stand p other ∙ sh.stand;
          state = put_other_state p other ∙ sh.state;
        }

        shows : (p : ℕ) → (p ≡ i) ⊎ (p ≢ i) → Contains (take k order) p ⊎ (i ≡ p) → Shows ss new p
        shows p (inl same) c = subst (Shows ss new) (sym same) own
        shows p (inr other) (inl c) = other_shown p other (shown.shown p c)
        shows p (inr other) (inr same) = absurd (other (sym same))

        blanks : (p : ℕ) → (Contains (take (suc k) order) p → ⊥) → (p ≡ i) ⊎ (p ≢ i) → IsBlank new p
        blanks p n (inl same) = absurd (n (subst (Contains (take (suc k) order)) (sym same) (now_done order k i turn.low turn.here)))
        blanks p n (inr other) =
            let blank = shown.blank p (λ c. n (still_done order k p turn.low c)) in
            record {
              stand = put_other_stand p other ∙ blank.stand;
              state = put_other_state p other ∙ blank.state;
            }

  -- a task that waits
  pub passed : IsPlan d plan → stands_at A called place scope d i ≡ waiting → IsBoard A called place scope d (take (suc k) order) old
  passed p waits_is = record {
    fits = shown.fits;
    shown = λ q c. shows q (done_cases order k i q turn.low turn.here c);
    blank = λ q n. shown.blank q (λ c. n (still_done order k q turn.low c));
  }
    where
      own : IsBlank old i
      own = shown.blank i (not_done d plan p k i t turn)

      own_shown : Shows ss old i
      own_shown = record {
        stand = own.stand ∙ sym (ap sight waits_is);
        state = own.state ∙ sym (ap made_of waits_is);
      }

      shows : (q : ℕ) → Contains (take k order) q ⊎ (i ≡ q) → Shows ss old q
      shows q (inl c) = shown.shown q c
      shows q (inr same) = subst (Shows ss old) same own_shown

pub waiting_is_shown : WaitingIsShown
waiting_is_shown d plan b i p A called place scope k t shown turn waits_is = passed d plan A called place scope k i t turn b shown p waits_is

pub ready_is_shown : (d : Dag) (plan : DagPlan) (old new : Board) (i : ℕ) → IsPut old new i (sight ready) None → IsReady d plan old new i
ready_is_shown d plan old new i put A called place scope k t shown turn is =
    written d plan A called place scope k i t turn old shown new (sight ready) None put (sym (ap sight is)) (sym (ap made_of is))

pub existing_is_shown :
    (d : Dag) (plan : DagPlan) (old new : Board) (i : ℕ) (branch : Phase) (m : Made) (s : Stand) → s ≡ sight (exists m branch []) →
    IsPut old new i s (Some m) → Exists d plan old new i branch m
existing_is_shown d plan old new i branch m s s_is put A called place scope k t shown turn is =
    written d plan A called place scope k i t turn old shown new s (Some m) put (s_is ∙ sym (ap sight is)) (sym (ap made_of is))
