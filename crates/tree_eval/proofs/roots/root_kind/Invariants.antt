-- No template before this one has the entrypoint's name.
use Rattle.std.proofs.Common.{◌≡◌}
use Rattle.meaning.specs.Calls.{kind_named}
use Rattle.tree_eval.proofs.KindNamed.{kind_from}
use Rattle.tree_eval.proofs.roots.root_kind.Given as goal

abbrev pub invariant-loop-template : goal.invariant-loop-template
invariant-loop-template l =
    kind_from l.template-items l.manifest.entrypoint l.template-index ≡ kind_named l.manifest l.manifest.entrypoint
