-- A worked history of a full workflow: its beginning would make 10,003 nodes, so it is left as it is.
use Rattle.std.proofs.Common.{◌≡◌, ℕ, ◌<◌, Bool, true, false, cond, bytes_eq, [], ◌∷◌, length, refl, sym, subst, Some, None, inl, inr}
use Rattle.tree_types.specs.declared.fact.Fact.TheVariants as fact
use Rattle.tree_types.specs.declared.entry.Entry.TheVariants.{Submit}
use Rattle.wf_manifest.specs.declared.calls.Call.{Call}
use Rattle.wf_manifest.specs.declared.calls.Loop.TheVariants as each
use Rattle.wf_manifest.specs.declared.manifest.Manifest.{Manifest}
use Rattle.tree_types.specs.declared.want.Want.TheVariants as want
use Rattle.meaning.specs.Answers.{Facts}
use Rattle.meaning.specs.Trees.{tree, most_nodes}
use Rattle.history.specs.History.{event, map_content}
use Rattle.law.specs.Documents.{Text, Document}
use Rattle.law.specs.Contents.{Flow, OfWorkflow, flow, flow_in, Story, starts, HasFlow}
use Rattle.growth.specs.Growth.{Among}
use Rattle.law.specs.Justified.{wants_of, Adds, IsLawful}
use Rattle.std.proofs.Common.{codes, lit<}
use Rattle.tag_text.specs.Parts.{parts_of}
use Rattle.wf_manifest.specs.declared.templates.Body.TheVariants as body
use Rattle.meaning.proofs.Samples.{template, workflow_of, container, call, call_with}
use Rattle.law.specs.Due.{here, IsTooLarge, IsFull, PodDueAt, DueAt, by_pod, by_timer, by_command, IsIdle, IsQuiet}
use Rattle.lawful.proofs.Facts.{some_same, none_some}
use Rattle.lawful.proofs.AddsOrIsTooLarge.{not_both}

abbrev w : Text
w = codes "w"

-- a call so many times over
abbrev times : Text → Call → Call
times n c = record c { each = Some (each.Sequence (Some (parts_of n)) None None None) }

-- 100 times over 97 pods
abbrev m : Manifest
m =
    workflow_of w
    (template (codes "main") (body.Steps ((times (codes "100") (call_with (codes "s") (codes "t") []) ∷ []) ∷ []))
    ∷ template (codes "t") (body.Steps ((times (codes "97") (call (codes "s")) ∷ []) ∷ []))
    ∷ container ∷ [])

abbrev D : Document
D = record { workflows = m ∷ []; limits = []; planned = λ w n. None; commands = [] }

abbrev story : Story
story = record { start = starts D; events = event (Submit w None []) (Some (OfWorkflow (flow m []))) ∷ [] }

pub one_lawful : IsLawful D story
one_lawful = record { start = refl; each = (record { absent = refl; manifest = m; given = inl refl; name = refl; no_facts = refl; content = refl }, tt) }

too_many : most_nodes < length (tree m (fact.Started ∷ []))
too_many = lit< tt

too_large : IsTooLarge (flow m []) fact.Started
too_large = record { after = fact.Started ∷ []; way = here; large = too_many }

-- it is full, so its beginning is never written
full : IsFull D story w (flow m [])
full = too_large

never_added : (facts : Facts) → Adds (flow m []) fact.Started facts → ⊥
never_added facts a = not_both (flow m []) fact.Started facts a too_large

-- ---- and the state is quiet

one_flow : (v : Text) (f : Flow) → HasFlow story v f → flow m [] ≡ f
one_flow v f s = by (bytes_eq v w) s
  where
    by : (b : Bool) → flow_in (map_content (cond b (Some record { number = 1; content = OfWorkflow (flow m []) }) None)) ≡ Some f → flow m [] ≡ f
    by true e = some_same (flow m []) f e
    by false e = none_some f e

no_pod : (tick : ℕ) {A : Type 0} → PodDueAt D story tick → A
no_pod tick p = none_some p.pod p.stands

idle : IsIdle D story
idle = record { flows = λ v f s. inr (subst (λ g. IsFull D story v g) (one_flow v f s) too_large); pods = λ tick p. no_pod tick p }

nothing_next : (tick : ℕ) {A : Type 0} → DueAt D story tick → A
nothing_next tick (by_pod p) = no_pod tick p
nothing_next tick (by_timer t) = absurd (subst (λ (f : Flow). Among (want.Timer t.path tick) (wants_of f)) (sym (one_flow t.workflow t.flow t.stands)) t.asks)
nothing_next tick (by_command c) = absurd c.given

pub quiet : IsQuiet D story
quiet = record { idle = idle; no_next = λ tick d. nothing_next tick d }
