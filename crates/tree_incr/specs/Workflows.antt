-- A workflow: its manifest, and what is recorded of it.
use Rattle.std.specs.Prelude.{List, [], ◌∷◌, ◌++◌, Result}
use Rattle.tree_types.specs.declared.fact.Fact.{Fact}
use Rattle.wf_manifest.specs.declared.manifest.Manifest.{Manifest}
use Rattle.meaning.specs.Answers.{answers}
use Rattle.meaning.specs.Trees.{tree, lines, phase}
use Rattle.tree_state.specs.declared.refused.TreeRefused.{TreeRefused}
use Rattle.tree_eval.specs.declared.whole.Evaluated.{Evaluated}
use Rattle.tree_eval.specs.Told.{told_of}
use Rattle.tree_eval.specs.Within.{within}

pub record Workflow : Type 0 where
  pub manifest : Manifest
  pub facts : List Fact

-- a workflow of which nothing is recorded
abbrev pub unstarted : Manifest → Workflow
unstarted m = record { manifest = m; facts = [] }

abbrev pub with_fact : Workflow → Fact → Workflow
with_fact w f = record w { facts = w.facts ++ f ∷ [] }

-- with one fact more, where its tree then has at most 10,000 nodes
abbrev pub added : Workflow → Fact → Result Workflow TreeRefused
added w f = within (tree w.manifest (w.facts ++ f ∷ [])) (with_fact w f)

-- what is told of it
abbrev pub told : Workflow → Evaluated
told w = told_of (lines w.manifest (answers w.facts)) (phase w.manifest (answers w.facts))
