-- Which entries can be read back. All of it is this project's own.
use Rattle.std.specs.Prelude.{◌≡◌, ◌↔◌, ◌^◌, ◌<◌, List, [], IsUtf8, IsTrue, IfSome, FitsSigned}
use Rattle.std.specs.Int.{w32, w64}
use Rattle.std.specs.List.{AllByRecursion}
use Rattle.tree_types.specs.declared.path.Sel.{Sel}
use Rattle.tree_types.specs.declared.path.Sel.TheVariants.{Main, Exit, Group, Step, Task, Item, Attempt}
use Rattle.tree_types.specs.declared.path.Path.{Path}
use Rattle.tree_types.specs.declared.outcome.Param.{Param}
use Rattle.tree_types.specs.declared.outcome.Outcome.{Outcome}
use Rattle.tree_types.specs.declared.outcome.Outputs.{Outputs}
use Rattle.tree_types.specs.declared.fact.Fact.{Fact}
use Rattle.tree_types.specs.declared.fact.Fact.TheVariants.{Started, Settled, Carried, Granted, Memo, Armed, Due, Resumed, Begun}
use Rattle.tree_types.specs.declared.entry.Entry.{Entry}
use Rattle.tree_types.specs.declared.entry.Entry.TheVariants.{Submit, Write, Create, Finish, File, Release, Save, Tick}
use Rattle.tree_types.specs.declared.entry.HolderKey.{HolderKey}
use Rattle.tree_types.specs.declared.entry.Rank.{Rank}

-- ---- what the types of the code hold: texts in UTF-8, and numbers of so many bits

abbrev pub FitsSel : Sel → Type 0
FitsSel Main = Unit {0}
FitsSel Exit = Unit {0}
FitsSel (Group i) = i < 2 ^ 32
FitsSel (Step i) = i < 2 ^ 32
FitsSel (Task i) = i < 2 ^ 32
FitsSel (Item i) = i < 2 ^ 32
FitsSel (Attempt k) = k < 2 ^ 32

abbrev pub FitsPath : Path → Type 0
FitsPath path = AllByRecursion FitsSel path.sels

abbrev pub FitsParam : Param → Type 0
FitsParam p = IsUtf8 p.name × IsUtf8 p.value

abbrev pub FitsOutputs : Outputs → Type 0
FitsOutputs o = IfSome o.result IsUtf8 × AllByRecursion FitsParam o.params

abbrev pub FitsOutcome : Outcome → Type 0
FitsOutcome o = IfSome o.result IsUtf8 × AllByRecursion FitsParam o.params × (o.begin < 2 ^ 64) × (o.finish < 2 ^ 64)

abbrev pub FitsFact : Fact → Type 0
FitsFact Started = Unit {0}
FitsFact (Settled path outcome) = FitsPath path × FitsOutcome outcome
FitsFact (Carried path outcome) = FitsPath path × FitsOutcome outcome
FitsFact (Granted path) = FitsPath path
FitsFact (Memo path answer) = FitsPath path × IfSome answer FitsOutputs
FitsFact (Armed path tick) = FitsPath path × (tick < 2 ^ 64)
FitsFact (Due path) = FitsPath path
FitsFact (Resumed path) = FitsPath path
FitsFact (Begun path) = FitsPath path

abbrev pub FitsKey : HolderKey → Type 0
FitsKey key = IsUtf8 key.workflow × FitsPath key.path

abbrev pub FitsRank : Rank → Type 0
FitsRank r = FitsSigned w32 r.priority × FitsSigned w64 r.created × IsUtf8 r.name

abbrev pub FitsEntry : Entry → Type 0
FitsEntry (Submit workflow old facts) = IsUtf8 workflow × IfSome old IsUtf8 × AllByRecursion FitsFact facts
FitsEntry (Write workflow version facts) = IsUtf8 workflow × (version < 2 ^ 64) × AllByRecursion FitsFact facts
FitsEntry (Create workflow node path begin) = IsUtf8 workflow × IsUtf8 node × FitsPath path × (begin < 2 ^ 64)
FitsEntry (Finish workflow node outcome) = IsUtf8 workflow × IsUtf8 node × FitsOutcome outcome
FitsEntry (File lock key rank) = IsUtf8 lock.text × FitsKey key × FitsRank rank
FitsEntry (Release lock key) = IsUtf8 lock.text × FitsKey key
FitsEntry (Save cache key writer outputs tick) =
    IsUtf8 cache × IsUtf8 key × FitsKey writer × FitsOutputs outputs × (tick < 2 ^ 64)
FitsEntry (Tick to) = to < 2 ^ 64

-- ---- what a line leaves out

-- the rank has the key's workflow, and is the workflow's own request exactly where the key's path is empty
abbrev pub RanksByKey : Entry → Type 0
RanksByKey (File lock key rank) = (rank.workflow ≡ key.workflow) × (IsTrue rank.own ↔ (key.path.sels ≡ []))
RanksByKey _ = Unit {0}

abbrev pub IsReadable : Entry → Type 0
IsReadable entry = FitsEntry entry × RanksByKey entry

abbrev pub AreReadable : List Entry → Type 0
AreReadable entries = AllByRecursion IsReadable entries
