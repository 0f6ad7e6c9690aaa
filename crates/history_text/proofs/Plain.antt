-- Data that its compact text gives back: numbers of 64 bits, texts in UTF-8, and lists, nested at most so deep.
use Rattle.std.proofs.Common.{◌≡◌, ℕ, zero, suc, pos, negsuc, ◌^◌, ◌<◌, ◌≤◌, Bool, true, false, [], ◌∷◌, ◌++◌, Some, option_map, option_and_then, decimal, IsUtf8, refl, sym, ap, ◌∙◌, arith, append-nil}
use Rattle.std.specs.Prelude.{⊤}
use Rattle.std.proofs.lemmas.Str.{IsUtf8-append, IsUtf8-nil, IsUtf8-from_ascii}
use Rattle.std.proofs.lemmas.Fmt.{IsAscii-decimal, IsAscii-signed}
use Rattle.std.specs.Fmt.{signed_decimal}
use Rattle.json.specs.Lex.{tokens}
use Rattle.json.specs.Json as json
use Rattle.json.specs.Print.{token_text}
use Rattle.json.specs.Token as token
use Rattle.json.specs.Tree as tree
use Rattle.json.specs.Tree.{json_tokens, HasNumbers, ItemsHaveNumbers}
use Rattle.json.proofs.Printed.Tokens.{tokens-print}
use Rattle.json.proofs.Printed.Trees.{ArePrintable-json_tokens, value-json_tokens}
use Rattle.json.proofs.Printed.Decimals.{IsNumber-decimal, IsNumber-signed_decimal}
use Rattle.json.proofs.Printed.Utf8.{IsUtf8-quoted, IsUtf8-boolean, IsUtf8-are_ascii}
use Rattle.serde_json.specs.Data.{Num, unsigned, negative, float, Data, null, boolean, number, string, array, object, Items, no_items, item}
use Rattle.serde_json.specs.Read.{of_json, of_items, read, max_depth}
use Rattle.serde_json.specs.Written.{outline, items_outline, comma_if, compact_text, items_text}
use Rattle.serde_json.proofs.Numbers.{number_of-decimal, number_of-negative}
use Rattle.serde_json.proofs.Texts.{print-outline}
use Rattle.history_text.specs.Inside.Bytes.{is_one_line}
use Rattle.history_text.proofs.Feeds.{IsLine-append, IsLine-decimal, IsLine-quoted}

abbrev pub PlainNumber : Num → Type 0
PlainNumber (unsigned n) = n < 2 ^ 64
PlainNumber (negative (pos n)) = ⊥
PlainNumber (negative (negsuc n)) = n < 2 ^ 63
PlainNumber (float x) = ⊥

abbrev mutual
  pub Plain : Data → ℕ → Type 0
  Plain null k = ⊤
  Plain (boolean b) k = ⊤
  Plain (number n) k = PlainNumber n
  Plain (string s) k = IsUtf8 s
  Plain (array ds) zero = ⊥
  Plain (array ds) (suc k) = ArePlain ds k
  Plain (object ms) k = ⊥

  pub ArePlain : Items → ℕ → Type 0
  ArePlain no_items k = ⊤
  ArePlain (item d ds) k = Plain d k × ArePlain ds k

mutual
  has_numbers : (d : Data) (k : ℕ) → Plain d k → HasNumbers (outline d)
  has_numbers null k h = tt
  has_numbers (boolean b) k h = tt
  has_numbers (number (unsigned n)) k h = IsNumber-decimal n h
  has_numbers (number (negative (pos n))) k h = absurd h
  has_numbers (number (negative (negsuc n))) k h = IsNumber-signed_decimal (negsuc n) h
  has_numbers (number (float x)) k h = absurd h
  has_numbers (string s) k h = tt
  has_numbers (array ds) zero h = absurd h
  has_numbers (array ds) (suc k) h = items_have_numbers ds k h
  has_numbers (object ms) k h = absurd h

  items_have_numbers : (ds : Items) (k : ℕ) → ArePlain ds k → ItemsHaveNumbers (items_outline ds)
  items_have_numbers no_items k h = tt
  items_have_numbers (item d ds) k h = (has_numbers d k h.0, items_have_numbers ds k h.1)

mutual
  data_back : (d : Data) (k : ℕ) → Plain d k → of_json (outline d) ≡ Some d
  data_back null k h = refl
  data_back (boolean b) k h = refl
  data_back (number (unsigned n)) k h = ap (option_map number) (number_of-decimal n h)
  data_back (number (negative (pos n))) k h = absurd h
  data_back (number (negative (negsuc n))) k h = ap (option_map number) (number_of-negative n h)
  data_back (number (float x)) k h = absurd h
  data_back (string s) k h = refl
  data_back (array ds) zero h = absurd h
  data_back (array ds) (suc k) h = ap (option_map array) (items_back ds k h)
  data_back (object ms) k h = absurd h

  items_back : (ds : Items) (k : ℕ) → ArePlain ds k → of_items (items_outline ds) ≡ Some ds
  items_back no_items k h = refl
  items_back (item d ds) k h = rw (data_back d k h.0, items_back ds k h.1)

mutual
  shallow : (d : Data) (k : ℕ) → Plain d k → tree.depth (outline d) ≤ k
  shallow null k h = omega arith
  shallow (boolean b) k h = omega arith
  shallow (number n) k h = omega arith
  shallow (string s) k h = omega arith
  shallow (array ds) zero h = absurd h
  shallow (array ds) (suc k) h = let inside = items_shallow ds k h in omega arith
  shallow (object ms) k h = absurd h

  items_shallow : (ds : Items) (k : ℕ) → ArePlain ds k → tree.items_depth (items_outline ds) ≤ k
  items_shallow no_items k h = omega arith
  items_shallow (item d ds) k h = let first = shallow d k h.0 in let rest = items_shallow ds k h.1 in omega arith

comma_utf8 : (later : Bool) → IsUtf8 (comma_if later)
comma_utf8 true = IsUtf8-are_ascii (44 ∷ []) refl
comma_utf8 false = IsUtf8-nil

mutual
  utf8 : (d : Data) (k : ℕ) → Plain d k → IsUtf8 (compact_text d)
  utf8 null k h = IsUtf8-are_ascii _ refl
  utf8 (boolean b) k h = IsUtf8-boolean b
  utf8 (number (unsigned n)) k h = IsUtf8-from_ascii (decimal n) (IsAscii-decimal n h)
  utf8 (number (negative (pos n))) k h = absurd h
  utf8 (number (negative (negsuc n))) k h = IsUtf8-from_ascii (signed_decimal (negsuc n)) (IsAscii-signed (negsuc n) h)
  utf8 (number (float x)) k h = absurd h
  utf8 (string s) k h = IsUtf8-quoted s h
  utf8 (array ds) zero h = absurd h
  utf8 (array ds) (suc k) h = IsUtf8-append (91 ∷ []) (items_text false ds) (IsUtf8-are_ascii (91 ∷ []) refl) (items_utf8 false ds k h)
  utf8 (object ms) k h = absurd h

  items_utf8 : (later : Bool) (ds : Items) (k : ℕ) → ArePlain ds k → IsUtf8 (items_text later ds)
  items_utf8 later no_items k h = IsUtf8-are_ascii (93 ∷ []) refl
  items_utf8 later (item d ds) k h = IsUtf8-append (comma_if later) _ (comma_utf8 later) (IsUtf8-append (compact_text d) _ (utf8 d k h.0) (items_utf8 true ds k h.1))

comma_line : (later : Bool) → is_one_line (comma_if later) ≡ true
comma_line true = refl
comma_line false = refl

boolean_line : (b : Bool) → is_one_line (token_text (token.boolean b)) ≡ true
boolean_line true = refl
boolean_line false = refl

mutual
  line : (d : Data) (k : ℕ) → Plain d k → is_one_line (compact_text d) ≡ true
  line null k h = refl
  line (boolean b) k h = boolean_line b
  line (number (unsigned n)) k h = IsLine-decimal n h
  line (number (negative (pos n))) k h = absurd h
  line (number (negative (negsuc n))) k h = IsLine-decimal (suc n) (omega arith)
  line (number (float x)) k h = absurd h
  line (string s) k h = IsLine-quoted s
  line (array ds) zero h = absurd h
  line (array ds) (suc k) h = items_line false ds k h
  line (object ms) k h = absurd h

  items_line : (later : Bool) (ds : Items) (k : ℕ) → ArePlain ds k → is_one_line (items_text later ds) ≡ true
  items_line later no_items k h = refl
  items_line later (item d ds) k h = IsLine-append (comma_if later) _ (comma_line later) (IsLine-append (compact_text d) _ (line d k h.0) (items_line true ds k h.1))

-- ---- what the text gives

-- the text reads as the data
pub read-compact_text : (d : Data) (k : ℕ) → Plain d k → k ≤ max_depth → read (compact_text d) ≡ Some d
read-compact_text d k h bounded =
    let j = outline d in
    let same : tokens (compact_text d) ≡ json_tokens j ++ [] =
    ap tokens (sym (print-outline d)) ∙ tokens-print (json_tokens j) (ArePrintable-json_tokens j (has_numbers d k h)) ∙ sym (append-nil (json_tokens j)) in
    let depth = shallow d k h in
    ap (λ ts. option_and_then of_json (option_and_then (λ p. json.if_last p.0 p.1) (json.value max_depth ts))) same
    ∙ ap (λ o. option_and_then of_json (option_and_then (λ p. json.if_last p.0 p.1) o)) (value-json_tokens j max_depth [] (omega arith))
    ∙ data_back d k h

pub IsUtf8-compact_text : (d : Data) (k : ℕ) → Plain d k → IsUtf8 (compact_text d)
IsUtf8-compact_text = utf8

pub IsLine-compact_text : (d : Data) (k : ℕ) → Plain d k → is_one_line (compact_text d) ≡ true
IsLine-compact_text = line
