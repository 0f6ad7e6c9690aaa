-- What a walk that is made again starts from: the manifest may be walked over, and what is answered differs at one path alone.
use Rattle.std.specs.Prelude.{ℕ}
use Rattle.meaning.specs.Answers.{Sels, Answers}
use Rattle.meaning.specs.Steps.{Caller}
use Rattle.meaning.specs.Calls.{calls}
use Rattle.locality.specs.Answered.{SameBut}
use Rattle.tree_walk.specs.Index.{IsReady}
use Rattle.tree_change.specs.declared.again.Again.{Again}

module _ {R : Type 0} (answers : R → Answers) (a : Again R) where
  -- what is answered now is what was answered before, but at this path
  pub record Resumes (changed : Sels) : Type 0 where
    pub ready : IsReady a.walk.manifest.now a.walk.positions.now
    pub same : SameBut (answers a.walk.recorded.now) (answers a.before.now) changed

  -- what calls with so many depths left make now, and made before
  abbrev pub calls_now : ℕ → Caller
  calls_now left = calls a.walk.manifest.now (answers a.walk.recorded.now) a.walk.globals.now left

  abbrev pub calls_before : ℕ → Caller
  calls_before left = calls a.walk.manifest.now (answers a.before.now) a.walk.globals.now left
