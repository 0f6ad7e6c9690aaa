-- How the entries of a history are written: a line each, a list of JSON without spaces. All of it is this project's own.
use Rattle.std.specs.Prelude.{ℕ, List, [], ◌∷◌, ◌++◌, Option, Some, None, codes, decimal, map, flat_map}
use Rattle.serde_json.specs.Data.{Data, null, boolean, number, string, array, unsigned}
use Rattle.serde_json.specs.Find.{of_integer}
use Rattle.serde_json.specs.View.{items_of}
use Rattle.serde_json.specs.Written.{compact_text}
use Rattle.tree_types.specs.declared.path.Sel.{Sel}
use Rattle.tree_types.specs.declared.path.Sel.TheVariants.{Main, Exit, Group, Step, Task, Item, Attempt}
use Rattle.tree_types.specs.declared.outcome.Param.{Param}
use Rattle.tree_types.specs.declared.outcome.Outcome.{Outcome}
use Rattle.tree_types.specs.declared.outcome.Outputs.{Outputs}
use Rattle.tree_types.specs.declared.fact.Fact.{Fact}
use Rattle.tree_types.specs.declared.fact.Fact.TheVariants.{Started, Settled, Carried, Granted, Memo, Armed, Due, Resumed, Begun}
use Rattle.tree_types.specs.declared.entry.Entry.{Entry}
use Rattle.tree_types.specs.declared.entry.Entry.TheVariants.{Submit, Write, Create, Finish, File, Release, Save, Tick}
use Rattle.tree_types.specs.declared.entry.Rank.{Rank}
use Rattle.tree_types.specs.Phases.{phase_text}

-- ---- places

abbrev pub sel_text : Sel → List ℕ
sel_text Main = codes "main"
sel_text Exit = codes "exit"
sel_text (Group i) = codes "g" ++ decimal i
sel_text (Step i) = codes "s" ++ decimal i
sel_text (Task i) = codes "t" ++ decimal i
sel_text (Item i) = codes "i" ++ decimal i
sel_text (Attempt k) = codes "a" ++ decimal k

-- each further selector behind a `/`; the empty path is the empty text
abbrev pub path_text : List Sel → List ℕ
path_text [] = []
path_text (first ∷ further) = sel_text first ++ flat_map (λ sel. codes "/" ++ sel_text sel) further

-- ---- the parts of a line

abbrev pub list : List Data → Data
list parts = array (items_of parts)

abbrev pub whole : ℕ → Data
whole n = number (unsigned n)

abbrev pub place : List Sel → Data
place sels = string (path_text sels)

abbrev pub text_or_null : Option (List ℕ) → Data
text_or_null None = null
text_or_null (Some text) = string text

-- a name and a text
abbrev pub param_data : Param → Data
param_data p = list (string p.name ∷ string p.value ∷ [])

abbrev pub params_data : List Param → Data
params_data params = list (map param_data params)

abbrev pub outcome_data : Outcome → Data
outcome_data o =
    list (string (phase_text o.phase) ∷ text_or_null o.result ∷ params_data o.params ∷ boolean o.transient ∷ whole o.begin ∷ whole o.finish ∷ [])

abbrev pub outputs_data : Outputs → Data
outputs_data o = list (text_or_null o.result ∷ params_data o.params ∷ [])

-- the priority, the creation and the node's name; the rank's workflow is the key's, and its own request that of the empty path
abbrev pub rank_data : Rank → Data
rank_data r = list (number (of_integer r.priority) ∷ number (of_integer r.created) ∷ string r.name ∷ [])

-- ---- facts and entries

abbrev pub fact_data : Fact → Data
fact_data Started = list (string (codes "started") ∷ [])
fact_data (Settled path outcome) = list (string (codes "settled") ∷ place path.sels ∷ outcome_data outcome ∷ [])
fact_data (Carried path outcome) = list (string (codes "carried") ∷ place path.sels ∷ outcome_data outcome ∷ [])
fact_data (Granted path) = list (string (codes "granted") ∷ place path.sels ∷ [])
fact_data (Memo path (Some outputs)) = list (string (codes "memo") ∷ place path.sels ∷ string (codes "hit") ∷ outputs_data outputs ∷ [])
fact_data (Memo path None) = list (string (codes "memo") ∷ place path.sels ∷ string (codes "miss") ∷ [])
fact_data (Armed path tick) = list (string (codes "armed") ∷ place path.sels ∷ whole tick ∷ [])
fact_data (Due path) = list (string (codes "due") ∷ place path.sels ∷ [])
fact_data (Resumed path) = list (string (codes "resumed") ∷ place path.sels ∷ [])
fact_data (Begun path) = list (string (codes "begun") ∷ place path.sels ∷ [])

abbrev pub facts_data : List Fact → Data
facts_data facts = list (map fact_data facts)

abbrev pub entry_data : Entry → Data
entry_data (Submit workflow old facts) = list (string (codes "submit") ∷ string workflow ∷ text_or_null old ∷ facts_data facts ∷ [])
entry_data (Write workflow version facts) = list (string (codes "write") ∷ string workflow ∷ whole version ∷ facts_data facts ∷ [])
entry_data (Create workflow node path begin) = list (string (codes "create") ∷ string workflow ∷ string node ∷ place path.sels ∷ whole begin ∷ [])
entry_data (Finish workflow node outcome) = list (string (codes "finish") ∷ string workflow ∷ string node ∷ outcome_data outcome ∷ [])
entry_data (File lock key rank) =
    list (string (codes "file") ∷ string lock.text ∷ string key.workflow ∷ place key.path.sels ∷ rank_data rank ∷ [])
entry_data (Release lock key) = list (string (codes "release") ∷ string lock.text ∷ string key.workflow ∷ place key.path.sels ∷ [])
entry_data (Save cache key writer outputs tick) =
    list (string (codes "save") ∷ string cache ∷ string key ∷ string writer.workflow ∷ place writer.path.sels ∷ outputs_data outputs ∷ whole tick ∷ [])
entry_data (Tick to) = list (string (codes "tick") ∷ whole to ∷ [])

abbrev pub entry_text : Entry → List ℕ
entry_text entry = compact_text (entry_data entry)

-- ---- a history

abbrev pub entry_line : Entry → List ℕ
entry_line entry = entry_text entry ++ 10 ∷ []

-- each line ends with a line feed
abbrev pub history_text : List Entry → List ℕ
history_text entries = flat_map entry_line entries
