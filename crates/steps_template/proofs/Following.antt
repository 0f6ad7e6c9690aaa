-- The groups that the meaning lists are those that are opened.
use Rattle.std.proofs.Common.{◌≡◌, ℕ, zero, suc, ◌+◌, ◌<◌, List, [], ◌∷◌, ◌++◌, length, map, Bool, true, false, ◌&&◌, refl, ap, sym, ◌∙◌, arith}
use Rattle.std.specs.Prelude.{Option, Some, if◌then◌else◌}
use Rattle.std.specs.List.{list_all}
use Rattle.tree_types.specs.declared.phase.Phase.{Phase}
use Rattle.tree_types.specs.declared.phase.Phase.TheVariants.{Pending, Running, Succeeded, Skipped, Failed, Error, Omitted}
use Rattle.tree_types.specs.Phases.{is_succeeded, worst_of}
use Rattle.wf_manifest.specs.declared.calls.ContinueOn.{ContinueOn}
use Rattle.wf_manifest.specs.declared.calls.Call.{Call}
use Rattle.scopes.specs.Substitution.{Scope}
use Rattle.meaning.specs.declared.lines.Place.{Place}
use Rattle.meaning.specs.Lines.{Made, all_finished}
use Rattle.meaning.specs.Steps as meant
use Rattle.meaning.specs.Steps.{Caller, covers_failed, covers_error, covered, makings, group_made, group_tags, Groups, groups_by, group_place, members_at, groups_from}
use Rattle.steps_template.specs.declared.groups.Member.{Member}
use Rattle.steps_template.specs.declared.groups.GroupState.{GroupState}
use Rattle.steps_template.specs.declared.groups.StepsStep.TheVariants.{Open, Over}
use Rattle.steps_template.specs.Groups.{member_phase, group_phase, stopped, next, next_from}
use Rattle.steps_template.specs.Opened.{seen, made_state, unmade_state, states, phase_told, GroupsFollow, TellsGroup}
use Rattle.steps_template.proofs.Turns.{after, turn}

-- ---- a group is seen as it is meant

covered_same :
    (on : Option ContinueOn) (p : Phase) →
    covered (Some (record { failed = covers_failed on; error = covers_error on })) p ≡ covered on p
covered_same on Failed = refl
covered_same on Error = refl
covered_same on Skipped = refl
covered_same on Pending = refl
covered_same on Running = refl
covered_same on Succeeded = refl
covered_same on Omitted = refl

phases_same : (ms : List meant.Member) → map member_phase (map seen ms) ≡ map meant.member_phase ms
phases_same [] = refl
phases_same (m ∷ ms) =
    ap (λ (p : Phase). p ∷ map member_phase (map seen ms)) (covered_same m.0.continue_on m.1.own.node.phase)
    ∙ ap (λ (ps : List Phase). meant.member_phase m ∷ ps) (phases_same ms)

finished_same : (ms : List meant.Member) → list_all (λ (m : Member). m.finished) (map seen ms) ≡ all_finished (makings ms)
finished_same [] = refl
finished_same (m ∷ ms) = ap (λ (b : Bool). m.1.own.finished && b) (finished_same ms)

group_same : (ms : List meant.Member) → group_phase (map seen ms) ≡ meant.group_phase ms
group_same ms =
    ap (λ (b : Bool). if b then worst_of (map member_phase (map seen ms)) else Running) (finished_same ms)
    ∙ ap (λ (ps : List Phase). if all_finished (makings ms) then worst_of ps else Running) (phases_same ms)

made_turn :
    (j : ℕ) (ms : List meant.Member) (ss : List GroupState) →
    next_from j (made_state ms ∷ ss) ≡ after (meant.group_phase ms) (next_from (suc j) ss)
made_turn j ms ss = turn j (made_state ms) ss ∙ ap (λ (p : Phase). after p (next_from (suc j) ss)) (group_same ms)

-- ---- by whether the first group Succeeded

opens_by :
    (s : Bool) (g : Made) (tags scope : Scope) (rest : Scope → Groups) (j k : ℕ) (ss : List GroupState) (p : Phase) →
    (k < length (rest (tags ++ scope)).all → next_from (suc j) ss ≡ Open (suc j + k)) →
    suc k < length (groups_by g tags scope rest s).all →
    (if s then next_from (suc j) ss else stopped p) ≡ Open (j + suc k)
opens_by true g tags scope rest j k ss p later few =
    let fewer : k < length (rest (tags ++ scope)).all = omega (arith, few) in
    let same : suc j + k ≡ j + suc k = omega arith in
    later fewer ∙ ap Open same
opens_by false g tags scope rest j k ss p later few = absurd (omega (arith, few))

module _ (called : Caller) (place : Place) where
  opens_from :
      (gs : List (List Call)) (k i j : ℕ) (scope : Scope) → k < length (groups_from called place i scope gs).all →
      next_from j (states called place k i scope gs) ≡ Open (j + k)
  opens_from [] k i j scope few = absurd (omega (arith, few))
  opens_from (cs ∷ gs) zero i j scope few =
      let same : j ≡ j + 0 = omega arith in
      turn j (unmade_state cs) (map unmade_state gs) ∙ ap Open same
  opens_from (cs ∷ gs) (suc k) i j scope few =
      let ms : List meant.Member = members_at called place i scope cs in
      let ss : List GroupState = states called place k (suc i) (group_tags ms ++ scope) gs in
      made_turn j ms ss
      ∙ opens_by (is_succeeded (meant.group_phase ms)) (group_made (group_place place i) ms) (group_tags ms) scope
      (λ inner. groups_from called place (suc i) inner gs) j k ss (meant.group_phase ms)
      (opens_from gs k (suc i) (suc j) (group_tags ms ++ scope)) few

  module _ (i j : ℕ) (scope : Scope) (cs : List Call) (gs : List (List Call)) where
    abbrev ms : List meant.Member
    ms = members_at called place i scope cs

    abbrev phase : Phase
    phase = meant.group_phase ms

    abbrev inner : Groups
    inner = groups_from called place (suc i) (group_tags ms ++ scope) gs

    abbrev all_by : Bool → List Made
    all_by s =
        (groups_by (group_made (group_place place i) ms) (group_tags ms) scope
        (λ inner. groups_from called place (suc i) inner gs) s).all

    abbrev states_of : ℕ → List GroupState
    states_of k = states called place k (suc i) (group_tags ms ++ scope) gs

    stops_by :
        (s : Bool) → is_succeeded phase ≡ s → next_from (suc j) (states_of (length inner.all)) ≡ stopped (meant.steps_phase inner.all) →
        next_from j (states called place (length (all_by s)) i scope (cs ∷ gs)) ≡ stopped (meant.steps_phase (all_by s))
    stops_by true e later =
        made_turn j ms (states_of (length inner.all))
        ∙ ap (λ (b : Bool). if b then next_from (suc j) (states_of (length inner.all)) else stopped phase) e ∙ later
        ∙ sym (ap (λ (b : Bool). stopped (if b then meant.steps_phase inner.all else phase)) e)
    stops_by false e later =
        made_turn j ms (states_of 0)
        ∙ ap (λ (b : Bool). if b then next_from (suc j) (states_of 0) else stopped phase) e
        ∙ sym (ap (λ (b : Bool). stopped (if b then Succeeded else phase)) e)

  stops_from :
      (gs : List (List Call)) (i j : ℕ) (scope : Scope) →
      next_from j (states called place (length (groups_from called place i scope gs).all) i scope gs)
      ≡ stopped (meant.steps_phase (groups_from called place i scope gs).all)
  stops_from [] i j scope = refl
  stops_from (cs ∷ gs) i j scope =
      let ms : List meant.Member = members_at called place i scope cs in
      stops_by i j scope cs gs (is_succeeded (meant.group_phase ms)) refl (stops_from gs (suc i) (suc j) (group_tags ms ++ scope))

pub follows : GroupsFollow
follows called place scope gs k = record {
  opens = λ few. (let same : 0 + k ≡ k = omega arith in opens_from called place gs k 0 0 scope few ∙ ap Open same);
  stops = λ e. ap (λ (n : ℕ). next (states called place n 0 scope gs)) e ∙ stops_from called place gs 0 0 scope;
}

-- ---- a group alone

told_of : (p : Phase) → phase_told (after p (Over Succeeded)) ≡ p
told_of Pending = refl
told_of Running = refl
told_of Succeeded = refl
told_of Skipped = refl
told_of Failed = refl
told_of Error = refl
told_of Omitted = refl

pub tells_one : TellsGroup
tells_one ms = ap phase_told (made_turn 0 ms []) ∙ told_of (meant.group_phase ms)
