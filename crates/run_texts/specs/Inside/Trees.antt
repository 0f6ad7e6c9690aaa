-- The trees of a run, entry by entry.
use Rattle.std.specs.Prelude.{ℕ, List, [], ◌++◌}
use Rattle.tree_types.specs.declared.entry.Entry.{Entry}
use Rattle.tree_types.specs.declared.entry.Entry.TheVariants.{Submit}
use Rattle.law.specs.Contents.{Story}
use Rattle.run_texts.specs.RunTexts.{workflow_text}

-- of the workflow that an entry submits
abbrev pub text_by : Story → Entry → List ℕ
text_by h (Submit w old facts) = workflow_text h w
text_by h _ = []
