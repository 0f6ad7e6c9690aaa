-- What is said of a line by the entry that is read of it.
use Rattle.std.proofs.Common.{◌≡◌, ℕ, List, Some, None, Err, IsUtf8, true, sym, ap, ◌∙◌, subst, arith}
use Rattle.serde_json.specs.Data.{Data}
use Rattle.serde_json.specs.Read.{read}
use Rattle.tree_types.specs.declared.entry.Entry.{Entry}
use Rattle.history_text.specs.Lines.{entry_data, entry_text}
use Rattle.history_text.specs.Readable.{IsReadable}
use Rattle.history_text.specs.Inside.Bytes.{is_one_line, IsJson, IsLine}
use Rattle.history_text.specs.Inside.Reading.{Gives, entry_of}
use Rattle.history_text.specs.declared.fault.Fault.{Fault}
use Rattle.history_text.specs.declared.fault.Fault.TheVariants.{Other, Memory}
use Rattle.history_text.proofs.Plain.{read-compact_text, IsUtf8-compact_text, IsLine-compact_text}
use Rattle.history_text.proofs.PlainEntries.{plain_entry}
use Rattle.history_text.proofs.ReadBack.{entry_back}

module _ (entry : Entry) (readable : IsReadable entry) where
  utf8 : IsUtf8 (entry_text entry)
  utf8 = IsUtf8-compact_text (entry_data entry) 6 (plain_entry entry readable.0)

  read_text : read (entry_text entry) ≡ Some (entry_data entry)
  read_text = read-compact_text (entry_data entry) 6 (plain_entry entry readable.0) (omega arith)

  pub one_line : is_one_line (entry_text entry) ≡ true
  one_line = IsLine-compact_text (entry_data entry) 6 (plain_entry entry readable.0)

some_same : {A : Type 0} (x y : A) → Some x ≡ Some y → x ≡ y
some_same x y e = cc

none_some : {A : Type 0} (x : A) → None ≡ Some x → ⊥
none_some x e = cc

-- the data of a line that is an entry's give that entry
pub gives_back : (line : List ℕ) (d : Data) (entry : Entry) → read line ≡ Some d → IsReadable entry → entry_text entry ≡ line → entry_of d ≡ Some entry
gives_back line d entry e readable same =
    let known = some_same (entry_data entry) d (sym (read_text entry readable) ∙ ap read same ∙ e) in
    ap entry_of (sym known) ∙ entry_back entry readable

pub no_json : (line : List ℕ) (fault : Fault) → IsJson line (Err fault) → IsLine line (Err fault)
no_json line Other h = λ entry readable same.
    none_some (entry_data entry) (sym (h (subst IsUtf8 same (utf8 entry readable))) ∙ ap read (sym same) ∙ read_text entry readable)
no_json line Memory h = tt

pub no_entry : (line : List ℕ) (d : Data) (fault : Fault) → read line ≡ Some d → Gives {X = Entry} (λ found. found) (Err fault) (entry_of d) → IsLine line (Err fault)
no_entry line d Other e h = λ entry readable same. none_some entry (sym h ∙ gives_back line d entry e readable same)
no_entry line d Memory e h = tt

-- another entry than the one that is read of a line has another text
pub the_only : (line : List ℕ) (d : Data) (found entry : Entry) → read line ≡ Some d → entry_of d ≡ Some found → IsReadable entry → entry_text entry ≡ line → entry_text found ≡ line
the_only line d found entry e h readable same =
    ap entry_text (some_same found entry (sym h ∙ gives_back line d entry e readable same)) ∙ same

-- an entry is told by its text
pub same_entry : (entry other : Entry) → IsReadable entry → IsReadable other → entry_text entry ≡ entry_text other → entry ≡ other
same_entry entry other readable readable_too same =
    some_same entry other (sym (entry_back entry readable) ∙ gives_back (entry_text entry) (entry_data entry) other (read_text entry readable) readable_too (sym same))
