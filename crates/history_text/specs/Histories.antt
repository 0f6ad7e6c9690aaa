-- Which bytes are a history's text, and which line of other bytes is the first that is no entry's.
use Rattle.std.specs.Prelude.{◌≡◌, ◌≢◌, ℕ, ◌+◌, List, [], ◌++◌, length, Result, Ok, Err}
use Rattle.tree_types.specs.declared.entry.Entry.{Entry}
use Rattle.history_text.specs.Lines.{entry_line, history_text}
use Rattle.history_text.specs.Readable.{IsReadable, AreReadable}
use Rattle.history_text.specs.declared.refused.HistoryRefused.{HistoryRefused}
use Rattle.history_text.specs.declared.refused.HistoryRefused.TheVariants.{Bad, Memory}

abbrev pub IsTextOf : List Entry → List ℕ → Type 0
IsTextOf entries bytes = AreReadable entries × (history_text entries ≡ bytes)

-- no line of an entry stands at the start of these bytes
abbrev pub BeginsWithNone : List ℕ → Type 0
BeginsWithNone bytes = (entry : Entry) (more : List ℕ) → IsReadable entry → entry_line entry ++ more ≢ bytes

-- behind the lines of some entries there are further bytes, and this line of them, counted from 1, is no entry's
pub record IsBadAt (line : ℕ) (bytes : List ℕ) : Type 0 where
  pub before : List Entry
  pub rest : List ℕ
  pub whole : history_text before ++ rest ≡ bytes
  pub readable : AreReadable before
  pub count : length before + 1 ≡ line
  pub further : rest ≢ []
  pub none : BeginsWithNone rest

-- what is refused, and why
abbrev pub IsRefusal : List ℕ → HistoryRefused → Type 0
IsRefusal bytes (Bad line) = IsBadAt line bytes
IsRefusal bytes Memory = Unit {0}

-- these entries, if there was memory
abbrev pub GivesEntries : List Entry → Result (List Entry) HistoryRefused → Type 0
GivesEntries entries (Ok found) = found ≡ entries
GivesEntries entries (Err refused) = refused ≡ Memory
