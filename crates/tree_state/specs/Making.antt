-- What a looped call makes, and a node that asks for more.
use Rattle.std.specs.Prelude.{[], ◌∷◌, Bool}
use Rattle.tree_types.specs.declared.node.Node.{Node}
use Rattle.tree_types.specs.declared.want.Want.{Want}
use Rattle.tree_types.specs.Phases.{fulfilled}
use Rattle.meaning.specs.Lines.{Parts, Made}

-- the node of a looped call, and what others see of it
abbrev pub of_loop : Node → Bool → Bool → Parts → Made
of_loop n any_succeeded all_failed parts = record {
  own = record {
    node = n;
    wants = [];
    finished = fulfilled n.phase;
    any_succeeded = any_succeeded;
    all_failed = all_failed;
  };
  parts = parts;
}

-- a node that asks for this before all else
abbrev pub with_want : Want → Made → Made
with_want w m = record m { own = record m.own { wants = w ∷ m.own.wants } }
