-- Declared outputs (Argo, "Output parameters"; field reference, `Outputs` and `ValueFrom`).
-- That a node without a declared output is Error is this project's own.
use Rattle.std.specs.Prelude.{ℕ, List, [], ◌∷◌, ◌++◌, Option, Some, None, Ok, Err, if◌then◌else◌, bytes_eq}
use Rattle.tree_types.specs.declared.phase.Phase.{Phase}
use Rattle.tree_types.specs.declared.phase.Phase.TheVariants.{Succeeded, Error}
use Rattle.tree_types.specs.declared.node.Kind.{Kind}
use Rattle.tree_types.specs.declared.node.Note.{Note}
use Rattle.tree_types.specs.declared.node.Note.TheVariants as note
use Rattle.tree_types.specs.declared.node.Node.{Node}
use Rattle.tree_types.specs.declared.outcome.Param.{Param}
use Rattle.tree_types.specs.declared.outcome.Outputs.{Outputs}
use Rattle.tag_text.specs.declared.part.Part.{Part}
use Rattle.wf_manifest.specs.declared.templates.OutputDecl.{OutputDecl}
use Rattle.scopes.specs.Substitution.{Found, Scope, said}
use Rattle.meaning.specs.declared.lines.Place.{Place}
use Rattle.meaning.specs.Answers.{first_or}
use Rattle.meaning.specs.Lines.{node}

-- the value of the first parameter of this name
abbrev pub param : List ℕ → List Param → Option (List ℕ)
param n [] = None
param n (p ∷ ps) = if bytes_eq p.name n then Some p.value else param n ps

-- ---- two readings of declared outputs, each of which has a value or none

abbrev pub with_value : List ℕ → Option (List ℕ) → List Param → List Param
with_value name None rest = rest
with_value name (Some v) rest = record { name = name; value = v } ∷ rest

-- those that have a value, in the order of their declarations
abbrev pub found : (OutputDecl → Option (List ℕ)) → List OutputDecl → List Param
found value [] = []
found value (d ∷ ds) = with_value d.name (value d) (found value ds)

abbrev pub lack_by : List ℕ → Option (List ℕ) → Option (List ℕ) → Option (List ℕ)
lack_by name None rest = Some name
lack_by name (Some v) rest = rest

-- the name of the first that has none
abbrev pub first_lack : (OutputDecl → Option (List ℕ)) → List OutputDecl → Option (List ℕ)
first_lack value [] = None
first_lack value (d ∷ ds) = lack_by d.name (value d) (first_lack value ds)

-- the outputs of a node that would be Succeeded, and the first declared output that it lacks
pub record Ending : Type 0 where
  pub outputs : Outputs
  pub lack : Option (List ℕ)

abbrev pub ending_with : (OutputDecl → Option (List ℕ)) → List OutputDecl → Ending
ending_with value ds = record {
  outputs = record { result = None; params = found value ds };
  lack = first_lack value ds;
}

-- ---- a pod: its outcome's outputs, and behind them the defaults of those that it lacks

-- an output that the outcome has, else its default
abbrev pub given_or_default : List Param → OutputDecl → Option (List ℕ)
given_or_default ps d = first_or (param d.name ps) d.default

abbrev pub none_if_given : Option (List ℕ) → Option (List ℕ) → Option (List ℕ)
none_if_given (Some v) default = None
none_if_given None default = default

-- the default of an output that the outcome lacks
abbrev pub default_alone : List Param → OutputDecl → Option (List ℕ)
default_alone ps d = none_if_given (param d.name ps) d.default

abbrev pub completed : List OutputDecl → Outputs → Ending
completed ds o = record {
  outputs = record o { params = o.params ++ found (default_alone o.params) ds };
  lack = first_lack (given_or_default o.params) ds;
}

-- ---- steps and DAGs: `valueFrom.parameter` where its tags have values, else its default

abbrev pub or_default : Option (List ℕ) → Found (List ℕ) → Option (List ℕ)
or_default default (Ok v) = Some v
or_default default (Err fault) = default

abbrev pub from_or_default : Scope → Option (List ℕ) → Option (List Part) → Option (List ℕ)
from_or_default scope default None = default
from_or_default scope default (Some t) = or_default default (said scope t)

abbrev pub computed : Scope → List OutputDecl → Ending
computed scope ds = ending_with (λ d. from_or_default scope d.default d.from) ds

-- ---- suspended nodes: their defaults

abbrev pub defaulted : List OutputDecl → Ending
defaulted ds = ending_with (λ d. d.default) ds

-- ---- a node that would end so: it is Succeeded only with its declared outputs

-- one that lacks an output is Error, and keeps the outputs that it has
abbrev pub succeeded_node : Place → Kind → Note → Outputs → Option (List ℕ) → Node
succeeded_node place k n outputs None = node place k Succeeded n outputs
succeeded_node place k n outputs (Some name) = node place k Error (note.NoOutput name) outputs

-- in any other phase it has the outputs given first
abbrev pub ended_node : Place → Kind → Phase → Note → Outputs → Ending → Node
ended_node place k Succeeded n outputs e = succeeded_node place k n e.outputs e.lack
ended_node place k phase n outputs e = node place k phase n outputs
