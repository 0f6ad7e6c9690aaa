-- A run of a plain workflow without pods, which is over once it is started.
use Rattle.std.proofs.Common.{◌≡◌, ℕ, Bool, true, false, cond, bytes_eq, List, [], ◌∷◌, codes, refl, sym, subst, Option, Some, None, inl, arith}
use Rattle.tree_types.specs.declared.fact.Fact.TheVariants as fact
use Rattle.tree_types.specs.declared.want.Want.TheVariants as want
use Rattle.tree_types.specs.declared.entry.Entry.TheVariants.{Submit, Write}
use Rattle.wf_manifest.specs.declared.manifest.Manifest.{Manifest}
use Rattle.wf_manifest.specs.declared.templates.Body.TheVariants as body
use Rattle.meaning.proofs.Samples.{template, workflow_of}
use Rattle.meaning.specs.Plain.{plain}
use Rattle.meaning.specs.Trees.{tree, closed}
use Rattle.growth.specs.Growth.{Among}
use Rattle.history.specs.History.{Event, event, Version, next_version, map_content}
use Rattle.law.specs.Documents.{Text, Document}
use Rattle.law.specs.Contents.{Flow, Content, OfWorkflow, flow, flow_in, apply, Story, starts, HasFlow}
use Rattle.law.specs.Due.{due_of, IsFullBy, PodDueAt, DueAt, by_pod, by_timer, by_command, IsQuiet}
use Rattle.law.specs.Justified.{wants_of, IsLawful}
use Rattle.lawful.proofs.Facts.{some_same, none_some}
use Rattle.run_laws.specs.Fulls as fulls
use Rattle.run_laws.specs.Fulls.{IsFullFlow}
use Rattle.plain_laws.specs.PlainTrees.{planned_for, IsAsPlanned}
use Rattle.plain_laws.proofs.Plain.{plain_runs_as_planned}

abbrev w : Text
w = codes "w"

-- steps without a group
abbrev m : Manifest
m = workflow_of w (template (codes "main") (body.Steps []) ∷ [])

abbrev D : Document
D = record { workflows = m ∷ []; limits = []; planned = λ x n. None; commands = [] }

abbrev now : Flow
now = flow m (fact.Started ∷ [])

abbrev written : Event Content
written = event (Write w 2 (fact.Started ∷ [])) None

abbrev story : Story
story = record { start = starts D; events = event (Submit w None []) (Some (OfWorkflow (flow m []))) ∷ written ∷ [] }

lawful : IsLawful D story
lawful = record {
  start = refl;
  each = (
    record { absent = refl; manifest = m; given = inl refl; name = refl; no_facts = refl; content = refl },
    (
      (
        refl,
        record {
          flow = flow m [];
          stands = refl;
          number = refl;
          fact = fact.Started;
          adds = record { beginnings = []; parts = refl; closes = closed refl; fits = omega arith; is_new = refl };
          justified = tt;
        },
      ),
      tt,
    ),
  );
}

abbrev first : Bool → Option (Version Content)
first b = cond b (Some record { number = 1; content = OfWorkflow (flow m []) }) None

one_flow : (v : Text) (f : Flow) → HasFlow story v f → now ≡ f
one_flow v f s = by (bytes_eq v w) s
  where
    by : (b : Bool) → flow_in (map_content (cond b (next_version apply (first b) written) (first b))) ≡ Some f → now ≡ f
    by true e = some_same now f e
    by false e = none_some f e

no_pod : (tick : ℕ) {A : Type 0} → PodDueAt D story tick → A
no_pod tick p = none_some p.pod p.stands

nothing_next : (tick : ℕ) {A : Type 0} → DueAt D story tick → A
nothing_next tick (by_pod p) = no_pod tick p
nothing_next tick (by_timer t) = absurd (subst (λ (f : Flow). Among (want.Timer t.path tick) (wants_of f)) (sym (one_flow t.workflow t.flow t.stands)) t.asks)
nothing_next tick (by_command c) = absurd c.given

quiet : IsQuiet D story
quiet = record {
  idle = record { flows = λ v f s. inl (subst (λ (g : Flow). due_of D story v g ≡ []) (one_flow v f s) refl); pods = λ tick p. no_pod tick p };
  no_next = λ tick d. nothing_next tick d;
}

not_full : IsFullFlow D story w → ⊥
not_full i = subst (λ (f : Flow). IsFullBy f (due_of D story w f) → ⊥) (one_flow w i.flow i.stands) (λ x. x) i.full

over_at_once : IsAsPlanned D story m
over_at_once =
    plain_runs_as_planned D story [] (λ x i same. i, tt) lawful record { same_start = refl; rest = written ∷ []; goes_on = refl } quiet
    (fulls.other not_full fulls.none) m (inl refl) refl (λ i. i)

is_planned : tree m (fact.Started ∷ []) ≡ plain m (planned_for D w)
is_planned = refl
