-- The trees of plain workflows at the end of a run.
use Rattle.std.specs.Prelude.{◌≡◌, true, List, option_map}
use Rattle.wf_manifest.specs.declared.manifest.Manifest.{Manifest}
use Rattle.meaning.specs.Plain.{Planned, plain, is_plain}
use Rattle.growth.specs.Growth.{Among}
use Rattle.history.specs.History.{Extends}
use Rattle.law.specs.Documents.{Text, ended_by, Document}
use Rattle.law.specs.Contents.{Flow, Story, HasFlow}
use Rattle.law.specs.Justified.{IsLawful}
use Rattle.law.specs.Due.{IsQuiet}
use Rattle.run_laws.specs.Fulls.{Fulls}
use Rattle.run_laws.specs.Submissions.{submitted, begun, NamesDiffer}

-- the outcomes that the document plans for the pods of a workflow, by the names of their nodes
abbrev pub planned_for : Document → Text → Planned
planned_for D w name = option_map (λ p. ended_by p 0 0) (D.planned w name)

-- the workflow stands with the tree that follows from its planned outcomes alone
pub record IsAsPlanned (D : Document) (h : Story) (m : Manifest) : Type 0 where
  pub flow : Flow
  pub stands : HasFlow h m.name flow
  pub tree : flow.tree ≡ plain m (planned_for D m.name)

-- so does each plain workflow of the document that is not among these
abbrev pub PlainTrees : Document → Story → List Text → Type 0
PlainTrees D h full =
    (m : Manifest) → Among m D.workflows → is_plain m ≡ true → (Among m.name full → ⊥) → IsAsPlanned D h m

-- where a lawful history begins with the submissions, and nothing is due any more but in these workflows, which are full
abbrev pub PlainRunsAsPlanned : Type 0
PlainRunsAsPlanned =
    (D : Document) (h : Story) (full : List Text) → NamesDiffer D.workflows → IsLawful D h →
    Extends h (begun D D.workflows) → IsQuiet D h → Fulls D h (submitted h) full → PlainTrees D h full
