-- What is found in what a call makes.
use Rattle.std.specs.Prelude.{◌≡◌, ℕ, suc, Bool, true, ◌&&◌, List, [], ◌∷◌, Option, Some, None, min, nat_lt, nat_le, bytes_eq, if◌then◌else◌, filter_map}
use Rattle.std.specs.List.{Contains, filter}
use Rattle.tree_types.specs.declared.node.Node.{Node}
use Rattle.tree_types.specs.declared.want.Want.{Want}
use Rattle.tree_types.specs.declared.want.Want.TheVariants as want
use Rattle.tree_types.specs.Places.{sels_eq}
use Rattle.meaning.specs.declared.lines.Line.{Line}
use Rattle.meaning.specs.Lines.{Made, lines_in}
use Rattle.meaning.specs.Trees.{nodes_in}
use Rattle.tree_state.specs.declared.kinds.WantKind.{WantKind}
use Rattle.tree_state.specs.declared.kinds.WantKind.TheVariants.{Pod, Lock}
use Rattle.tree_state.specs.declared.clue.Clue.{Clue}
use Rattle.tree_state.specs.declared.clue.Clue.TheVariants as clue
use Rattle.tree_state.specs.Asking.{is_of}

-- a want is of a kind, and passes a test
abbrev pub passes : WantKind → (Want → Bool) → Want → Bool
passes k accepts w = is_of k w && accepts w

-- ---- locks

-- those of kind Lock
abbrev pub locks_in : List Want → List Want
locks_in ws = filter (is_of Lock) ws

-- ---- pods

-- those of kind Pod
abbrev pub pods_in : List Want → List Want
pods_in ws = filter (is_of Pod) ws

-- the first that passes a test from a position on, with its position, where the first of all has this one
abbrev pub found_at : ℕ → ℕ → (Want → Bool) → List Want → Option (ℕ × Want)
found_at from at accepts [] = None
found_at from at accepts (w ∷ ws) =
    if nat_le from at && accepts w then Some (at, w) else found_at from (suc at) accepts ws

-- the same where the first of all has position 0
abbrev pub found_from : ℕ → (Want → Bool) → List Want → Option (ℕ × Want)
found_from from accepts ws = found_at from 0 accepts ws

-- ---- timers

-- the tick of a timer that is due above a clock
abbrev pub due_above : ℕ → Want → Option ℕ
due_above clock (want.Timer p tick) = if nat_lt clock tick then Some tick else None
due_above clock _ = None

-- the sooner of two ticks, where there are any
abbrev pub sooner : Option ℕ → Option ℕ → Option ℕ
sooner None b = b
sooner (Some a) None = Some a
sooner (Some a) (Some b) = Some (min a b)

-- the least of some ticks
abbrev pub least : List ℕ → Option ℕ
least [] = None
least (t ∷ ts) = sooner (Some t) (least ts)

-- the least tick above a clock at which one of these timers is due
abbrev pub next_tick : ℕ → List Want → Option ℕ
next_tick clock ws = least (filter_map (due_above clock) ws)

-- ---- nodes

-- a node has the path or the name by which it is looked for
abbrev pub fits : Clue → Node → Bool
fits (clue.Path p) n = sels_eq n.path.sels p.now
fits (clue.Name name) n = bytes_eq n.name name.now

-- among the nodes of some lines, and has the path or the name by which it is looked for
abbrev pub IsFound : Clue → List Line → Node → Type 0
IsFound c ls n = (fits c n ≡ true) × Contains (nodes_in ls) n

-- each node of the one is one of the other
abbrev pub IsWithin : Made → Made → Type 0
IsWithin a b = (n : Node) → Contains (nodes_in (lines_in a)) n → Contains (nodes_in (lines_in b)) n
