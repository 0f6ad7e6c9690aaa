-- What stands in a tree, in tree order, and what a call makes.
use Rattle.std.specs.Prelude.{ℕ, suc, ◌+◌, ◌-◌, ◌^◌, min, List, [], ◌∷◌, ◌++◌, Bool, false, Option, Some, None, if◌then◌else◌, map, codes}
use Rattle.std.specs.List.{list_all}
use Rattle.tree_types.specs.declared.path.Sel.{Sel}
use Rattle.tree_types.specs.declared.path.Path.{Path}
use Rattle.tree_types.specs.declared.phase.Phase.{Phase}
use Rattle.tree_types.specs.declared.node.Kind.{Kind}
use Rattle.tree_types.specs.declared.node.Note.{Note}
use Rattle.tree_types.specs.declared.node.Node.{Node}
use Rattle.tree_types.specs.declared.outcome.Param.{Param}
use Rattle.tree_types.specs.declared.outcome.Outputs.{Outputs}
use Rattle.tree_types.specs.declared.want.Want.{Want}
use Rattle.tree_types.specs.Phases.{fulfilled, phase_text}
use Rattle.node_names.specs.declared.seg.Seg.{Seg}
use Rattle.node_names.specs.Names.{suffix}
use Rattle.scopes.specs.Substitution.{Scope}
use Rattle.meaning.specs.declared.lines.Place.{Place}
use Rattle.meaning.specs.declared.lines.Line.{Line}
use Rattle.meaning.specs.declared.lines.Line.TheVariants.{Stands, Asks, MayBegin}
use Rattle.meaning.specs.Answers.{path}

-- what f makes of each, with its position
abbrev pub numbered : {A B : Type 0} → (ℕ → A → B) → ℕ → List A → List B
numbered f i [] = []
numbered f i (x ∷ xs) = f i x ∷ numbered f (suc i) xs

-- ticks that end at 64 bits: a sum above that counts as the greatest tick (a difference below 0 counts as 0)
abbrev pub later : ℕ → ℕ → ℕ
later tick seconds = min (2 ^ 64 - 1) (tick + seconds)

-- the place one selector below another, and by what its name is longer
abbrev pub below : Place → Sel → Seg → Place
below place sel seg =
    record { sels = place.sels ++ sel ∷ []; name = place.name ++ suffix seg; depth = suc place.depth }

abbrev pub no_outputs : Outputs
no_outputs = record { result = None; params = [] }

abbrev pub node : Place → Kind → Phase → Note → Outputs → Node
node place kind phase note outputs = record {
  path = path place.sels;
  name = place.name;
  kind = kind;
  phase = phase;
  note = note;
  outputs = outputs;
  depth = place.depth;
}

-- ---- what a call makes

-- its node, what the node asks for, and what others see of the call
pub record Own : Type 0 where
  pub node : Node
  pub wants : List Want
  -- the node is fulfilled, and its exit hook, where it runs, is finished
  pub finished : Bool
  -- some item of a looped call is Succeeded
  pub any_succeeded : Bool
  -- each item of a looped call is Failed
  pub all_failed : Bool

-- what stands below a node, in tree order
pub data Parts : Type 0 where
  nothing : Parts
  -- a call, what stands below its node, and what follows it
  call : Own → Parts → Parts → Parts
  -- a task that is ready, and whose beginning may be recorded
  may_begin : Path → Parts → Parts
  -- what the node asks for behind the calls before
  asks : Want → Parts → Parts

pub record Made : Type 0 where
  pub own : Own
  pub parts : Parts

-- calls in this order
abbrev pub row_of : List Made → Parts
row_of [] = nothing
row_of (m ∷ ms) = call m.own m.parts (row_of ms)

-- the calls among them, in their order
abbrev pub row_in : Parts → List Made
row_in nothing = []
row_in (call own inner rest) = record { own = own; parts = inner } ∷ row_in rest
row_in (may_begin p rest) = row_in rest
row_in (asks w rest) = row_in rest

abbrev pub asked : List Want → Parts
asked [] = nothing
asked (w ∷ ws) = asks w (asked ws)

-- these, and more behind them
abbrev pub then_parts : Parts → Parts → Parts
then_parts nothing more = more
then_parts (call own inner rest) more = call own inner (then_parts rest more)
then_parts (may_begin p rest) more = may_begin p (then_parts rest more)
then_parts (asks w rest) more = asks w (then_parts rest more)

-- a node with what it asks for and what stands below it
abbrev pub made : Node → List Want → Parts → Made
made n wants parts = record {
  own = record { node = n; wants = wants; finished = fulfilled n.phase; any_succeeded = false; all_failed = false };
  parts = parts;
}

-- a node that asks for nothing, has no outputs and has nothing below it
abbrev pub alone : Place → Kind → Phase → Note → Made
alone place kind phase note = made (node place kind phase note no_outputs) [] nothing

-- ---- its lines: a node, what it asks for, and what stands below it

abbrev pub lines_over : Node → List Want → List Line → List Line
lines_over n wants lines = Stands n ∷ (map Asks wants ++ lines)

abbrev pub lines_below : Parts → List Line
lines_below nothing = []
lines_below (call own inner rest) = lines_over own.node own.wants (lines_below inner) ++ lines_below rest
lines_below (may_begin p rest) = MayBegin p ∷ lines_below rest
lines_below (asks w rest) = Asks w ∷ lines_below rest

abbrev pub lines_in : Made → List Line
lines_in m = lines_over m.own.node m.own.wants (lines_below m.parts)

abbrev pub lines_of : List Made → List Line
lines_of ms = lines_below (row_of ms)

abbrev pub all_finished : List Made → Bool
all_finished ms = list_all (λ m. m.own.finished) ms

-- ---- the tags of a step or task that is fulfilled (Argo, "Workflow variables", Steps and DAG templates)

abbrev pub result_tag : List ℕ → Option (List ℕ) → Scope
result_tag label None = []
result_tag label (Some r) = (label ++ codes ".outputs.result", r) ∷ []

abbrev pub output_tags : List ℕ → List Param → Scope
output_tags label ps = map (λ p. (label ++ codes ".outputs.parameters." ++ p.name, p.value)) ps

abbrev pub status_tag : List ℕ → Phase → Scope
status_tag label phase = (label ++ codes ".status", phase_text phase) ∷ []

-- none while its node is not fulfilled
abbrev pub tags_of : List ℕ → Made → Scope
tags_of label m =
    let n = m.own.node in
    if fulfilled n.phase
    then status_tag label n.phase ++ result_tag label n.outputs.result ++ output_tags label n.outputs.params
    else []
