-- What a JSON value is, read as a wanted kind: None where it has another kind. The kinds are those of the field
-- reference's types; that `any_text` takes whole numbers and truth values too is as the reference's IntOrString and
-- AnyString.
use Rattle.std.specs.Prelude.{ℕ, ℤ, List, Bool, true, false, Option, Some, None, codes, decimal, option_and_then}
use Rattle.std.specs.Fmt.{signed_decimal}
use Rattle.serde_json.specs.Data.{Data, boolean, number, string, array, object, Items, unsigned, negative}
use Rattle.serde_json.specs.Find.{as_i64, as_number}

abbrev pub text : Data → Option (List ℕ)
text (string s) = Some s
text _ = None

-- a text, a whole number in decimal, `true` or `false`
abbrev pub any_text : Data → Option (List ℕ)
any_text (string s) = Some s
any_text (boolean true) = Some (codes "true")
any_text (boolean false) = Some (codes "false")
any_text (number (unsigned n)) = Some (decimal n)
any_text (number (negative z)) = Some (signed_decimal z)
any_text _ = None

-- a whole number of 64 signed bits
abbrev pub whole : Data → Option ℤ
whole d = option_and_then as_i64 (as_number d)

abbrev pub flag : Data → Option Bool
flag (boolean b) = Some b
flag _ = None

abbrev pub list : Data → Option Items
list (array ds) = Some ds
list _ = None

-- an object, as the value that it is
abbrev pub object_ : Data → Option Data
object_ (object ms) = Some (object ms)
object_ _ = None
