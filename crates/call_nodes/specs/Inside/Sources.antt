-- Endings, made one declared output after the other.
use Rattle.std.specs.Prelude.{ℕ, List, [], ◌++◌, Option, None}
use Rattle.tree_types.specs.declared.outcome.Param.{Param}
use Rattle.tree_types.specs.declared.outcome.Outputs.{Outputs}
use Rattle.wf_manifest.specs.declared.templates.OutputDecl.{OutputDecl}
use Rattle.meaning.specs.Answers.{first_or}
use Rattle.meaning.specs.Outputs.{with_value, found, lack_by, first_lack, Ending, given_or_default, default_alone, from_or_default}
use Rattle.call_nodes.specs.declared.endings.Source.{Source}
use Rattle.call_nodes.specs.declared.endings.Source.TheVariants.{Given, Said, Defaults}

-- the value that is put behind the others
abbrev pub put : Source → OutputDecl → Option (List ℕ)
put (Given ps) d = default_alone ps.now d
put (Said scope) d = from_or_default scope.now d.default d.from
put Defaults d = d.default

-- the value without which the output is lacking
abbrev pub needed : Source → OutputDecl → Option (List ℕ)
needed (Given ps) d = given_or_default ps.now d
needed (Said scope) d = from_or_default scope.now d.default d.from
needed Defaults d = d.default

-- an ending, and what follows it
abbrev pub behind : Ending → List Param → Option (List ℕ) → Ending
behind e ps lack = record {
  outputs = record { result = e.outputs.result; params = e.outputs.params ++ ps };
  lack = first_or e.lack lack;
}

abbrev pub begun : Outputs → Ending
begun o = record { outputs = o; lack = None }

abbrev pub with_all : Ending → Source → List OutputDecl → Ending
with_all e s ds = behind e (found (put s) ds) (first_lack (needed s) ds)

abbrev pub ended_from : Outputs → Source → List OutputDecl → Ending
ended_from o s ds = with_all (begun o) s ds

abbrev pub with_decl : Ending → Source → OutputDecl → Ending
with_decl e s d = behind e (with_value d.name (put s d) []) (lack_by d.name (needed s d) None)

abbrev pub with_output : Ending → List ℕ → Option (List ℕ) → Ending
with_output e name value = behind e (with_value name value []) (lack_by name value None)
