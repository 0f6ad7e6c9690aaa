-- A DAG's node over what stands for its tasks.
use Rattle.std.specs.Prelude.{◌≡◌, ℕ, suc, [], ◌∷◌, ◌++◌, length, Bool}
use Rattle.tree_types.specs.declared.path.Sel.TheVariants.{Task as task_sel}
use Rattle.meaning.specs.declared.lines.Place.{Place}
use Rattle.meaning.specs.Answers.{Sels}
use Rattle.meaning.specs.Lines.{Made}
use Rattle.meaning.specs.Dags.{Standing, exists, Standings, tasks_below}

-- a task's node stands at its selector below the DAG
abbrev pub IsOwn : Sels → ℕ → Standing → Type 0
IsOwn at i (exists m branch seen) = m.own.node.path.sels ≡ at ++ task_sel i ∷ []
IsOwn at i _ = Unit {0}

-- from task i on
abbrev pub AreOwn : Sels → ℕ → Standings → Type 0
AreOwn at i [] = Unit {0}
AreOwn at i (s ∷ ss) = IsOwn at i s.1 × AreOwn at (suc i) ss

-- a node stands over the tasks of a DAG at a place, which stand so
pub record StandsOver (doomed : Bool) (place : Place) (ss : Standings) (b : Made) : Type 0 where
  pub own : AreOwn place.sels 0 ss
  pub depth : length place.sels ≡ length b.own.node.path.sels
  pub parts : b.parts ≡ tasks_below doomed place 0 ss
