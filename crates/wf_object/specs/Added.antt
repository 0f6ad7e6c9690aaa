-- What is answered where a fact is added to a workflow.
use Rattle.std.specs.Prelude.{◌≡◌, ◌++◌, Result, Ok, Err}
use Rattle.tree_types.specs.declared.fact.Fact.{Fact}
use Rattle.meaning.specs.Answers.{Facts}
use Rattle.tree_state.specs.declared.refused.TreeRefused.{TreeRefused}
use Rattle.tree_state.specs.declared.refused.TreeRefused.TheVariants.{TooLarge, Memory}
use Rattle.law.specs.Contents.{Flow, flow}
use Rattle.law.specs.Justified.{Adds}
use Rattle.law.specs.Due.{IsTooLarge}

-- the workflow with the facts that are written, or that some tree on the way is too large
abbrev pub AddGives : Flow → Fact → Result (Flow × Facts) TreeRefused → Type 0
AddGives f x (Ok r) = Adds f x r.1 × (r.0 ≡ flow f.manifest (f.journal ++ r.1))
AddGives f x (Err TooLarge) = IsTooLarge f x
AddGives f x (Err Memory) = Unit {0}
