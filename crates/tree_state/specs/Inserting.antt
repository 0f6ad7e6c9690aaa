-- One entry more among those of a DAG's tasks, which stand in the order of their tasks.
use Rattle.std.specs.Prelude.{◌≡◌, ℕ, Bool, true, false, nat_lt, Option, Some, slice_get, length}
use Rattle.tree_types.specs.declared.path.Sel.{Sel}
use Rattle.tree_types.specs.declared.path.Sel.TheVariants.{Task}
use Rattle.meaning.specs.Answers.{Sels}
use Rattle.meaning.specs.Lines.{Parts, nothing, call, may_begin, asks, then_parts, Made}
use Rattle.tree_state.specs.declared.inserting.Entry.{Entry}
use Rattle.tree_state.specs.declared.inserting.Entry.TheVariants.{MayBegin, Begun}
use Rattle.tree_state.specs.declared.inserting.TaskPlace.{TaskPlace}

-- what stands for a task, before more
abbrev pub entry_then : Entry → Parts → Parts
entry_then (MayBegin p) more = may_begin p more
entry_then (Begun m) more = call m.own m.parts more

abbrev pub later_by : ℕ → Option Sel → Bool
later_by i (Some (Task n)) = nat_lt i n
later_by i _ = false

-- a path is of a later task of the DAG
abbrev pub is_later : TaskPlace → Sels → Bool
is_later at sels = later_by at.task (slice_get sels at.depth)

module _ (at : TaskPlace) where
  -- the first entry stands for a later task, or there is none
  abbrev pub begins_later : Parts → Bool
  begins_later nothing = true
  begins_later (call own inner rest) = is_later at own.node.path.sels
  begins_later (may_begin p rest) = is_later at p.sels
  begins_later (asks w rest) = false

  -- the last entry does, where what stands before does or not
  abbrev pub ends_later : Bool → Parts → Bool
  ends_later b nothing = b
  ends_later b (call own inner rest) = ends_later (is_later at own.node.path.sels) rest
  ends_later b (may_begin p rest) = ends_later (is_later at p.sels) rest
  ends_later b (asks w rest) = ends_later false rest

  -- these stand between the entries of which the last is not of a later task, and those of which the first is
  pub record IsPut (between old new : Parts) : Type 0 where
    pub front : Parts
    pub back : Parts
    pub was : old ≡ then_parts front back
    pub is : new ≡ then_parts front (then_parts between back)
    pub ends : ends_later false front ≡ false
    pub begins : begins_later back ≡ true

-- the same node, over an entry more that stands for a task
pub record HasPut (task : ℕ) (e : Entry) (old new : Made) : Type 0 where
  pub own : new.own ≡ old.own
  pub parts : IsPut (record { depth = length old.own.node.path.sels; task = task }) (entry_then e nothing) old.parts new.parts
