-- The lines of bytes, and what they say.
use Rattle.std.specs.Prelude.{◌≡◌, ◌≢◌, ℕ, ◌+◌, ◌<◌, ◌==◌, ◌&&◌, Bool, true, not, List, [], ◌∷◌, ◌++◌, length, take, drop, Option, Some, None, Result, Ok, Err, IsUtf8}
use Rattle.std.specs.Borrow.{Bor}
use Rattle.serde_json.specs.Read.{read}
use Rattle.serde_json.specs.View.{view}
use Rattle.serde_json.specs.declared.value.Value.{Value}
use Rattle.tree_types.specs.declared.entry.Entry.{Entry}
use Rattle.history_text.specs.Lines.{entry_text, entry_line}
use Rattle.history_text.specs.Readable.{IsReadable}
use Rattle.history_text.specs.Histories.{BeginsWithNone}
use Rattle.history_text.specs.declared.fault.Fault.{Fault}
use Rattle.history_text.specs.declared.fault.Fault.TheVariants.{Other, Memory}

-- no byte is a line feed
abbrev pub is_one_line : List ℕ → Bool
is_one_line [] = true
is_one_line (x ∷ xs) = not (x == 10) && is_one_line xs

-- the bytes before the first line feed
abbrev pub EndsAt : List ℕ → Option ℕ → Type 0
EndsAt bytes None = is_one_line bytes ≡ true
EndsAt bytes (Some n) = (n < length bytes) × (is_one_line (take n bytes) ≡ true) × (drop n bytes ≡ 10 ∷ drop (n + 1) bytes)

abbrev pub IsJson : List ℕ → Result Value Fault → Type 0
IsJson line (Ok value) = read line ≡ Some (view value)
IsJson line (Err Other) = IsUtf8 line → read line ≡ None
IsJson line (Err Memory) = Unit {0}

abbrev pub IsLine : List ℕ → Result Entry Fault → Type 0
IsLine line (Ok entry) = IsReadable entry × (entry_text entry ≡ line)
IsLine line (Err Other) = (entry : Entry) → IsReadable entry → entry_text entry ≢ line
IsLine line (Err Memory) = Unit {0}

abbrev pub IsFirst : List ℕ → Result (Entry × Bor (List ℕ)) Fault → Type 0
IsFirst bytes (Ok x) = IsReadable x.0 × (entry_line x.0 ++ x.1.now ≡ bytes)
IsFirst bytes (Err Other) = BeginsWithNone bytes
IsFirst bytes (Err Memory) = Unit {0}
