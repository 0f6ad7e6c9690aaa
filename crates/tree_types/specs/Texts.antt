-- How the nodes of a tree are written as lines of text. All of it is this project's own.
use Rattle.std.specs.Prelude.{ℕ, ◌+◌, ◌*◌, ◌/◌, ◌%◌, List, [], ◌∷◌, ◌++◌, Bool, ◌||◌, nat_lt, ◌==◌, if◌then◌else◌, codes, replicate, map, flat_map}
use Rattle.tree_types.specs.declared.phase.Phase.{Phase}
use Rattle.tree_types.specs.declared.node.Kind.{Kind}
use Rattle.tree_types.specs.declared.node.Kind.TheVariants as kind
use Rattle.tree_types.specs.declared.node.Note.{Note}
use Rattle.tree_types.specs.declared.node.Note.TheVariants as note
use Rattle.tree_types.specs.declared.node.Node.{Node}
use Rattle.tree_types.specs.Phases.{phase_text}

-- ---- escapes

-- a byte that is not printed as it stands: below 32, 127 and the backslash
abbrev pub is_escaped : ℕ → Bool
is_escaped b = nat_lt b 32 || (b == 127) || (b == 92)

-- a lower-case hexadecimal digit
abbrev pub hex_digit : ℕ → ℕ
hex_digit n = if nat_lt n 10 then 48 + n else 87 + n

-- `\x` and two digits
abbrev pub escape : ℕ → List ℕ
escape b = 92 ∷ 120 ∷ hex_digit (b / 16) ∷ hex_digit (b % 16) ∷ []

abbrev pub byte_text : ℕ → List ℕ
byte_text b = if is_escaped b then escape b else b ∷ []

abbrev pub escaped : List ℕ → List ℕ
escaped text = flat_map byte_text text

-- ---- words

abbrev pub kind_text : Kind → List ℕ
kind_text kind.Pod = codes "Pod"
kind_text kind.Steps = codes "Steps"
kind_text kind.StepGroup = codes "StepGroup"
kind_text kind.DAG = codes "DAG"
kind_text kind.TaskGroup = codes "TaskGroup"
kind_text kind.Retry = codes "Retry"
kind_text kind.Suspend = codes "Suspend"
kind_text kind.Skipped = codes "Skipped"

abbrev pub note_text : Note → List ℕ
note_text note.None = []
note_text note.WhenFalse = codes "when is false"
note_text note.DependsFalse = codes "depends is false"
note_text note.NoItems = codes "Skipped, empty params"
note_text (note.Waiting lock) = codes "waiting for " ++ lock.text
note_text (note.Looking cache) = codes "looking in " ++ cache
note_text (note.Hit cache key) = codes "hit " ++ cache ++ codes " " ++ key
note_text note.Carried = codes "carried"
note_text note.TooDeep = codes "nested too deep"
note_text (note.Unresolved tag) = codes "unresolved " ++ tag
note_text note.BadWhen = codes "bad when"
note_text note.NotNumbers = codes "not numbers"
note_text note.NotList = codes "withParam is not a list"
note_text note.BadItem = codes "bad item"
note_text note.BadNumber = codes "bad number"
note_text note.BadFormat = codes "bad format"
note_text note.TooManyItems = codes "too many items"
note_text note.BadDuration = codes "bad duration"
note_text (note.NoOutput name) = codes "missing output " ++ name

-- ---- lines

-- what stands behind a node's name
abbrev pub note_end : Note → List ℕ
note_end note.None = []
note_end n = codes " -- " ++ escaped (note_text n)

-- a node's line: two spaces for each depth, its phase, kind and name, and its note
abbrev pub node_line : Node → List ℕ
node_line n =
    replicate (2 * n.depth) 32 ++ phase_text n.phase ++ codes " " ++ kind_text n.kind ++ codes " "
    ++ escaped n.name ++ note_end n.note

-- the line of a workflow
abbrev pub workflow_line : List ℕ → Phase → List ℕ
workflow_line name phase = codes "workflow " ++ escaped name ++ codes " " ++ phase_text phase

-- the lines of a workflow and its tree
abbrev pub tree_lines : List ℕ → Phase → List Node → List (List ℕ)
tree_lines name phase nodes = workflow_line name phase ∷ map node_line nodes

-- each line ends with a line feed
abbrev pub text_of_lines : List (List ℕ) → List ℕ
text_of_lines lines = flat_map (λ line. line ++ 10 ∷ []) lines

-- the text of a workflow and its tree
abbrev pub tree_text : List ℕ → Phase → List Node → List ℕ
tree_text name phase nodes = text_of_lines (tree_lines name phase nodes)
