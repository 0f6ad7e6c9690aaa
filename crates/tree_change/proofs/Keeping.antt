-- Groups of steps whose tags are kept as far as something sees them.
use Rattle.std.proofs.Common.{◌≡◌, ℕ, suc, ◌+◌, List, [], ◌∷◌, ◌++◌, Bool, true, false, cond, Result, Ok, Err, refl, ap, ◌∙◌, arith}
use Rattle.tree_types.specs.declared.phase.Phase.{Phase}
use Rattle.tree_types.specs.declared.phase.Phase.TheVariants.{Pending, Running, Succeeded, Skipped, Failed, Error, Omitted}
use Rattle.tree_types.specs.declared.node.Node.{Node}
use Rattle.tree_types.specs.declared.node.Kind.TheVariants as kind
use Rattle.tree_types.specs.declared.node.Note.TheVariants as note
use Rattle.tree_types.specs.Phases.{is_succeeded}
use Rattle.wf_manifest.specs.declared.calls.Call.{Call}
use Rattle.wf_manifest.specs.declared.templates.OutputDecl.{OutputDecl}
use Rattle.scopes.specs.Substitution.{Scope}
use Rattle.meaning.specs.declared.lines.Place.{Place}
use Rattle.meaning.specs.Lines.{Made, row_of, no_outputs, made}
use Rattle.meaning.specs.Outputs.{Ending, computed, ended_node}
use Rattle.meaning.specs.Steps.{Caller, Member, Groups, groups_from, steps_phase, steps_by, steps_made}
use Rattle.tree_state.specs.declared.refused.TreeRefused.{TreeRefused}
use Rattle.tree_state.specs.declared.refused.TreeRefused.TheVariants.{TooLarge, Memory}
use Rattle.tree_state.specs.Counting.{count, Gives, TakesAll}
use Rattle.tree_walk.specs.declared.over.Row.{Row}
use Rattle.tree_walk.specs.declared.over.Group.{Group}
use Rattle.tree_walk.specs.Walking.{GivesGroup, groups_kept}
use Rattle.tree_change.specs.declared.front.Front.{Front}
use Rattle.tree_change.specs.Inside.Groups.{KeepsGroup, KeepsFront, IsSaid}

-- ---- all tags are as many as are asked for

pub group_keeps : (before after : ℕ) (r : Result Group TreeRefused) (place : Place) (ms : List Member) → GivesGroup before after r place ms → KeepsGroup before after r place ms
group_keeps before after (Ok group) place ms given = ((given.0.0, (λ over. given.0.1)), given.1)
group_keeps before after (Err TooLarge) place ms given = given
group_keeps before after (Err Memory) place ms given = tt

-- what there is too little room for
pub group_refused : (before after : ℕ) (place : Place) (ms : List Member) (e : TreeRefused) → KeepsGroup before after (Err e) place ms → GivesGroup before after (Err e) place ms
group_refused before after place ms TooLarge fails = fails
group_refused before after place ms Memory fails = tt

-- ---- a group that did not succeed is the last

fell_by : (x : Made) (later : Phase) (b : Bool) → is_succeeded x.own.node.phase ≡ b → is_succeeded later ≡ false → is_succeeded (cond (is_succeeded x.own.node.phase) later x.own.node.phase) ≡ false
fell_by x later true over fell = ap (λ (b : Bool). is_succeeded (cond b later x.own.node.phase)) over ∙ fell
fell_by x later false off fell = ap (λ (b : Bool). is_succeeded (cond b later x.own.node.phase)) off ∙ off

pub last_fell : (xs : List Made) (g : Made) → is_succeeded g.own.node.phase ≡ false → is_succeeded (steps_phase (xs ++ g ∷ [])) ≡ false
last_fell [] g fell = ap (λ (b : Bool). is_succeeded (cond b (steps_phase []) g.own.node.phase)) fell ∙ fell
last_fell (x ∷ xs) g fell = fell_by x (steps_phase (xs ++ g ∷ [])) (is_succeeded x.own.node.phase) refl (last_fell xs g fell)

-- ---- the node over the groups: it says outputs only where it Succeeded

unended : (place : Place) (p : Phase) → is_succeeded p ≡ false → (e f : Ending) → ended_node place kind.Steps p note.None no_outputs e ≡ ended_node place kind.Steps p note.None no_outputs f
unended place Pending off e f = refl
unended place Running off e f = refl
unended place Succeeded off e f = absurd (cc off)
unended place Skipped off e f = refl
unended place Failed off e f = refl
unended place Error off e f = refl
unended place Omitted off e f = refl

steps_same : (place : Place) (declared : List OutputDecl) (row : Row) (groups : Groups) → IsSaid row declared groups → (b : Bool) → is_succeeded (steps_phase groups.all) ≡ b → steps_by place declared (groups_kept row) ≡ steps_by place declared groups
steps_same place declared row groups said b phase =
    ap (λ (ms : List Made). made (ended_node place kind.Steps (steps_phase ms) note.None no_outputs (computed row.scope declared)) [] (row_of ms)) said.0
    ∙ ap (λ (n : Node). made n [] (row_of groups.all)) (ended b phase)
  where
    ended : (b : Bool) → is_succeeded (steps_phase groups.all) ≡ b →
        ended_node place kind.Steps (steps_phase groups.all) note.None no_outputs (computed row.scope declared) ≡ ended_node place kind.Steps (steps_phase groups.all) note.None no_outputs (computed groups.scope declared)
    ended true over = ap (λ (e : Ending). ended_node place kind.Steps (steps_phase groups.all) note.None no_outputs e) (said.1 over)
    ended false off = unended place (steps_phase groups.all) off (computed row.scope declared) (computed groups.scope declared)

pub steps_done : (called : Caller) (place : Place) (scope : Scope) (declared : List OutputDecl) (gs : List (List Call)) (front : Front) (row : Row) (state : Made) (before mid after : ℕ) → before ≡ suc mid →
    KeepsFront mid after (Ok front) scope (groups_from called place 0 scope gs) → IsSaid row declared (groups_from called place 0 scope gs) → state ≡ steps_by place declared (groups_kept row) →
    (state ≡ steps_made called place scope declared gs) × (after + count (steps_made called place scope declared gs) ≡ before)
steps_done called place scope declared gs front row state before mid after taken given said is =
    let groups = groups_from called place 0 scope gs in
    (is ∙ steps_same place declared row groups said (is_succeeded (steps_phase groups.all)) refl, omega (arith, given.1, taken))

-- there is too little room for what would be given
pub too_little : (m : Made) (n before after : ℕ) (e : TreeRefused) → n ≡ count m → TakesAll n before after (Err e) → Gives before after (Err e) m
too_little m n before after TooLarge is small = omega (arith, is, small)
too_little m n before after Memory is small = tt
