-- What is answered to an order and its whole input, where no store is needed. The texts are this project's own.
use Rattle.std.specs.Prelude.{◌≡◌, ℕ, List, ◌++◌, length, Ok, Err, IsUtf8, codes, decimal}
use Rattle.std.specs.declared.option.Option.TheVariants.{Some, None}
use Rattle.serde_json.specs.Data.{Data}
use Rattle.serde_json.specs.Read.{read}
use Rattle.json_fields.specs.Paths.{Path, printed}
use Rattle.command_words.specs.declared.order.Mode.TheVariants as mode
use Rattle.command_words.specs.declared.order.Order.{Order}
use Rattle.bundle_rules.specs.Findings.{Refused}
use Rattle.wf_bundle.specs.declared.document.Document.{Document}
use Rattle.wf_bundle.specs.Documents.{document_of}
use Rattle.wf_program.specs.declared.status.Status.{Status}
use Rattle.wf_program.specs.declared.status.Status.TheVariants as status
use Rattle.wf_program.specs.Statuses.{fixed_text, not_json_text}

-- ---- texts

abbrev pub valid_text : Document → List ℕ
valid_text D = codes "valid " ++ decimal (length D.workflows) ++ codes "\n"

abbrev pub item_text : ℕ → List ℕ
item_text item = codes "argo: refused: item " ++ decimal item

abbrev pub rule_text : ℕ → List ℕ
rule_text rule = codes ", rule " ++ decimal rule

abbrev pub field_text : Path → List ℕ
field_text field = codes ", " ++ printed field ++ codes "\n"

abbrev pub refused_text : ℕ → ℕ → Path → List ℕ
refused_text item rule field = (item_text item ++ rule_text rule) ++ field_text field

-- ---- JSON

-- the bytes are the text of this JSON value, as `serde_json` reads it
abbrev pub IsJsonOf : List ℕ → Data → Type 0
IsJsonOf bytes value = IsUtf8 bytes × (read bytes ≡ Some value)

-- the bytes are the text of no JSON value
abbrev pub IsNoJson : List ℕ → Type 0
IsNoJson bytes = IsUtf8 bytes → read bytes ≡ None

-- the bytes are the text of this document
pub record IsDocument (bytes : List ℕ) (D : Document) : Type 0 where
  pub value : Data
  pub json : IsJsonOf bytes value
  pub reads : document_of value ≡ Ok D

-- the bytes are the text of a value that is no document, for this reason
pub record IsRefused (bytes : List ℕ) (refused : Refused) : Type 0 where
  pub value : Data
  pub json : IsJsonOf bytes value
  pub reads : document_of value ≡ Err refused

-- ---- answers, by their statuses

abbrev pub Answers : Order → List ℕ → Status → List ℕ → Type 0
-- The input is the text of no JSON value.
Answers order input status.NotJson text = IsNoJson input × (text ≡ not_json_text (length input))
-- It is a value that breaks a rule. The text is its first refusal.
Answers order input status.Refused text = (refused : Refused) × IsRefused input refused
    × (text ≡ refused_text refused.item refused.rule refused.field)
-- It is a document, of which the number of workflows is asked for.
Answers order input status.Done text = (D : Document) × IsDocument input D × (order.mode ≡ mode.Check)
    × (text ≡ valid_text D)
Answers order input status.Memory text = text ≡ fixed_text status.Memory
Answers order input _ text = ⊥
