-- Worked examples of deep trees.
use Rattle.std.proofs.Common.{◌≡◌, refl}
use Rattle.std.specs.Fmt.{digits}
use Rattle.std.specs.Prelude.{ℕ, [], ◌∷◌, Bool, true, false, length, filter, map, codes}
use Rattle.tree_types.specs.declared.phase.Phase.{Phase}
use Rattle.tree_types.specs.declared.phase.Phase.TheVariants.{Error}
use Rattle.tree_types.specs.declared.node.Note.{Note}
use Rattle.tree_types.specs.declared.node.Note.TheVariants as note
use Rattle.tree_types.specs.declared.node.Kind.{Kind}
use Rattle.tree_types.specs.declared.node.Kind.TheVariants as kind
use Rattle.tree_types.specs.declared.node.Node.{Node}
use Rattle.tree_types.specs.declared.fact.Fact.TheVariants.{Started}
use Rattle.wf_manifest.specs.declared.templates.Body.TheVariants as body
use Rattle.wf_manifest.specs.declared.manifest.Manifest.{Manifest}
use Rattle.meaning.specs.Answers.{answers}
use Rattle.meaning.specs.Trees.{tree, phase}
use Rattle.meaning.proofs.Samples.{workflow, call}

-- a template that calls itself
abbrev again : Manifest
again = workflow (codes "again") (body.Steps ((record (call (codes "s")) { template = codes "main" } ∷ []) ∷ []))

-- 32 calls, each with a node and a group, and the one that is too deep
pub nodes_of_again : length (tree again (Started ∷ [])) ≡ 65
unfolding digits
nodes_of_again = refl

abbrev is_too_deep : Note → Bool
is_too_deep note.TooDeep = true
is_too_deep _ = false

abbrev seen : Node → Phase × Kind × ℕ
seen n = (n.phase, n.kind, n.depth)

-- the call of depth 33 is Error, of the template's kind, and no other node is too deep
pub the_33rd_call : map seen (filter (λ (n : Node). is_too_deep n.note) (tree again (Started ∷ [])))
    ≡ (Error, kind.Steps, 65) ∷ []
unfolding digits
the_33rd_call = refl

pub phase_of_again : phase again (answers (Started ∷ [])) ≡ Error
unfolding digits
phase_of_again = refl
