-- The premises of the laws of ticks and plans hold together: each law, put to a worked plain workflow.
use Rattle.std.proofs.Common.{◌≡◌, refl, sym, ◌∙◌, ap, subst}
use Rattle.std.proofs.Math.Logic.{inl, inr}
use Rattle.std.specs.Fmt.{digits}
use Rattle.std.specs.Prelude.{List, [], ◌∷◌, Bool, true, false, Option, Some, None, option_map, codes, if◌then◌else◌, bytes_eq}
use Rattle.tree_types.specs.declared.path.Sel.TheVariants.{Main, Group, Step}
use Rattle.tree_types.specs.declared.node.Kind.TheVariants as kind
use Rattle.tree_types.specs.declared.node.Note.{Note}
use Rattle.tree_types.specs.declared.node.Note.TheVariants as note
use Rattle.tree_types.specs.declared.node.Node.{Node}
use Rattle.tree_types.specs.declared.outcome.Outcome.{Outcome}
use Rattle.tree_types.specs.declared.fact.Fact.{Fact}
use Rattle.tree_types.specs.declared.fact.Fact.TheVariants.{Started}
use Rattle.tree_types.specs.declared.want.Want.{Want}
use Rattle.tree_types.specs.declared.want.Want.TheVariants as want
use Rattle.tree_types.specs.Places.{sels_eq}
use Rattle.wf_manifest.specs.declared.templates.Body.TheVariants as body
use Rattle.wf_manifest.specs.declared.manifest.Manifest.{Manifest}
use Rattle.meaning.specs.Answers.{Answers, outcome_at}
use Rattle.meaning.specs.Plain.{Planned, without_ticks, planned_answers, plain}
use Rattle.meaning.specs.Trees.{lines, wants_in, tree, wants}
use Rattle.meaning.proofs.Samples.{template, workflow_of, workflow, call, succeeded, settled}
use Rattle.growth.specs.Growth.{Among}
use Rattle.growth.specs.Ticks.{place_of, untimed, AgreesOnPods, IsPlanned, GoesAsPlanned, RestsOnPods, RestsAsPlanned}
use Rattle.growth.proofs.Ticks.{ticks_do_not_matter, ticks_do_not_matter_at_rest, plain_at_rest, plain_as_planned}

-- the same outcome at other ticks
abbrev late : Note × Outcome → Note × Outcome
late o = (o.0, record o.1 { begin = 3; finish = 5 })

abbrev later : Answers → Answers
later A = record A { outcome = λ place. option_map late (A.outcome place) }

later_agrees : (m : Manifest) (A : Answers) → AgreesOnPods m A (later A)
later_agrees m A n o i k e = ap (λ (x : Option (Note × Outcome)). option_map untimed (option_map late x)) e

-- ---- a workflow of one pod, that is over

abbrev one : Manifest
one = workflow_of (codes "p") (template (codes "main") body.Pod ∷ [])

abbrev all_succeed : Planned
all_succeed name = Some succeeded

same_at_other_ticks : lines one (later (planned_answers all_succeed)) ≡ lines one (planned_answers all_succeed)
unfolding digits
same_at_other_ticks =
    ticks_do_not_matter one (planned_answers all_succeed) (later (planned_answers all_succeed)) refl refl refl
    (later_agrees one (planned_answers all_succeed))

abbrev ended : List Fact
ended = Started ∷ settled [] succeeded ∷ []

-- the outcome that a journal has at a path, where it is known
is_planned : (O : Planned) (n : Node) (x : Outcome) (o : Note × Outcome) → O n.name ≡ Some x → Some (note.None, x) ≡ Some o → IsPlanned O n o
is_planned O n x o p e =
    let same : (note.None, x) ≡ o = cc in
    (x, p, ap (λ (y : Note × Outcome). without_ticks y.1) same, sym (ap (λ (y : Note × Outcome). y.0) same))

one_goes : GoesAsPlanned one ended all_succeed
unfolding digits
one_goes n o (inl i) k e =
    is_planned all_succeed n succeeded o refl
    (subst (λ (x : Node). outcome_at ended x.path.sels ≡ Some o) (sym i) e)
one_goes n o (inr i) k e = absurd i

one_as_planned : tree one ended ≡ plain one all_succeed
unfolding digits
one_as_planned = plain_as_planned one ended all_succeed refl refl one_goes

-- ---- a workflow of two pods side by side, one of which has no outcome

abbrev m : Manifest
m = workflow (codes "r") (body.Steps ((call (codes "a") ∷ call (codes "b") ∷ []) ∷ []))

abbrev J : List Fact
J = Started ∷ settled (Group 0 ∷ Step 0 ∷ []) succeeded ∷ []

abbrev O : Planned
O name = if bytes_eq name (codes "r[0].a") then Some succeeded else None

abbrev at_a : Want → Bool
at_a (want.Pod p) = sels_eq p.sels (Main ∷ Group 0 ∷ Step 0 ∷ [])
at_a _ = false

goes : GoesAsPlanned m J O
unfolding digits
goes n o (inl i) k e = absurd (let s : kind.Steps ≡ kind.Pod = subst (λ (x : Node). x.kind ≡ kind.Pod) (sym i) k in cc)
goes n o (inr (inl i)) k e = absurd (let s : kind.StepGroup ≡ kind.Pod = subst (λ (x : Node). x.kind ≡ kind.Pod) (sym i) k in cc)
goes n o (inr (inr (inl i))) k e =
    is_planned O n succeeded o (subst (λ (x : Node). O x.name ≡ Some succeeded) i refl)
    (subst (λ (x : Node). outcome_at J x.path.sels ≡ Some o) (sym i) e)
goes n o (inr (inr (inr (inl i)))) k e =
    absurd (let s : None ≡ Some o = subst (λ (x : Node). outcome_at J x.path.sels ≡ Some o) (sym i) e in cc)
goes n o (inr (inr (inr (inr i)))) k e = absurd i

-- b's pod alone is asked for
not_asked : (n : Node) → at_a (want.Pod n.path) ≡ true → Among (want.Pod n.path) (wants m J) → ⊥
unfolding digits
not_asked n e (inl w) = let s : false ≡ true = ap at_a w ∙ e in absurd cc
not_asked n e (inr w) = w

rests : RestsAsPlanned m J O
unfolding digits
rests n (inl i) a = subst (λ (x : Node). O x.name ≡ None) i refl
rests n (inr (inl i)) a = subst (λ (x : Node). O x.name ≡ None) i refl
rests n (inr (inr (inl i))) a = absurd (not_asked n (subst (λ (x : Node). at_a (want.Pod x.path) ≡ true) i refl) a)
rests n (inr (inr (inr (inl i)))) a = subst (λ (x : Node). O x.name ≡ None) i refl
rests n (inr (inr (inr (inr i)))) a = absurd i

rests_as_planned : tree m J ≡ plain m O
unfolding digits
rests_as_planned = plain_at_rest m J O refl refl goes rests

-- and by the plan at other ticks

unplanned : (n : Node) → O n.name ≡ None → (later (planned_answers O)).outcome (place_of n) ≡ None
unplanned n e = ap (λ (x : Option Outcome). option_map late (option_map (λ (y : Outcome). (note.None, without_ticks y)) x)) e

asks_not : (n : Node) → at_a (want.Pod n.path) ≡ true → Among (want.Pod n.path) (wants_in (lines m (planned_answers O))) → ⊥
unfolding digits
asks_not n e (inl w) = let s : false ≡ true = ap at_a w ∙ e in absurd cc
asks_not n e (inr w) = w

rests_by_plan : RestsOnPods m (planned_answers O) (later (planned_answers O))
unfolding digits
rests_by_plan n (inl i) a = unplanned n (subst (λ (x : Node). O x.name ≡ None) i refl)
rests_by_plan n (inr (inl i)) a = unplanned n (subst (λ (x : Node). O x.name ≡ None) i refl)
rests_by_plan n (inr (inr (inl i))) a = absurd (asks_not n (subst (λ (x : Node). at_a (want.Pod x.path) ≡ true) i refl) a)
rests_by_plan n (inr (inr (inr (inl i)))) a = unplanned n (subst (λ (x : Node). O x.name ≡ None) i refl)
rests_by_plan n (inr (inr (inr (inr i)))) a = absurd i

rests_at_other_ticks : lines m (later (planned_answers O)) ≡ lines m (planned_answers O)
unfolding digits
rests_at_other_ticks =
    ticks_do_not_matter_at_rest m (planned_answers O) (later (planned_answers O)) refl refl refl
    (later_agrees m (planned_answers O)) rests_by_plan
