-- The parts of a text with tags.
--
-- Argo, "Workflow variables": a tag is written `{{name}}`. Of the two forms there, simple tags are read and
-- expression tags, `{{=..}}`, are refused. That a tag has to be closed and may not be empty is this project's own rule.
use Rattle.std.specs.Prelude.{ℕ, zero, suc, List, [], ◌∷◌, ◌++◌, length, drop, reverse, Option, Some, None, option_map, Result, Ok, Err, if◌then◌else◌, ◌==◌, nat_eq, codes}
use Rattle.std.specs.List.{starts_with}
use Rattle.base_types.specs.Bytes.{is_space}
use Rattle.tag_text.specs.declared.part.Part.{Part}
use Rattle.tag_text.specs.declared.part.Part.TheVariants.{Plain, Tag}
use Rattle.tag_text.specs.declared.refused.TagRefused.{TagRefused}
use Rattle.tag_text.specs.declared.refused.TagRefused.TheVariants.{Unclosed, EmptyTag, Expression}

-- the parts of a text, or what is wrong with its leftmost faulty tag
abbrev pub Parsed : Type 0
Parsed = Result (List Part) TagRefused

-- what begins a tag
abbrev pub opening : List ℕ
opening = codes "{{"

-- what ends it
abbrev pub closing : List ℕ
closing = codes "}}"

abbrev pub without_leading_spaces : List ℕ → List ℕ
without_leading_spaces [] = []
without_leading_spaces (b ∷ bs) = if is_space b then without_leading_spaces bs else b ∷ bs

abbrev pub without_trailing_spaces : List ℕ → List ℕ
without_trailing_spaces bs = reverse (without_leading_spaces (reverse bs))

-- without the spaces at both ends
abbrev pub trimmed : List ℕ → List ℕ
trimmed bs = without_trailing_spaces (without_leading_spaces bs)

abbrev pub behind : ℕ → List ℕ × List ℕ → List ℕ × List ℕ
behind b halves = (b ∷ halves.0, halves.1)

-- what stands before the first place of a mark, and what stands after it there
abbrev pub cut : List ℕ → List ℕ → Option (List ℕ × List ℕ)
cut mark [] = None
cut mark (b ∷ bs) =
    if starts_with nat_eq (b ∷ bs) mark
    then Some ([], drop (length mark) (b ∷ bs))
    else option_map (behind b) (cut mark bs)

-- text as it stands: nothing is no part
abbrev pub as_it_stands : List ℕ → List Part
as_it_stands [] = []
as_it_stands (b ∷ bs) = Plain (b ∷ bs) ∷ []

-- the tag of this name
abbrev pub tag_named : List ℕ → Result Part TagRefused
tag_named [] = Err EmptyTag
tag_named (b ∷ bs) = if b == 61 then Err Expression else Ok (Tag (b ∷ bs))

-- the parts before what is left, and those of what is left
abbrev pub followed : List Part → Parsed → Parsed
followed front (Ok parts) = Ok (front ++ parts)
followed front (Err fault) = Err fault

-- a tag behind this text, and what is left behind the tag
abbrev pub tag_then : List ℕ → Result Part TagRefused → Parsed → Parsed
tag_then before (Ok tag) left = followed (as_it_stands before ++ tag ∷ []) left
tag_then before (Err fault) left = Err fault

-- the inside of a tag behind this text, and what stands after it
abbrev pub closed : (List ℕ → Parsed) → List ℕ → Option (List ℕ × List ℕ) → Parsed
closed parse before None = Err Unclosed
closed parse before (Some inside_after) = tag_then before (tag_named (trimmed inside_after.0)) (parse inside_after.1)

-- the text before its first tag, and what stands after that tag's opening
abbrev pub opened : (List ℕ → Parsed) → List ℕ → Option (List ℕ × List ℕ) → Parsed
opened parse text None = Ok (as_it_stands text)
opened parse text (Some before_after) = closed parse before_after.0 (cut closing before_after.1)

-- a text of at most so many tags
abbrev pub parsed_within : ℕ → List ℕ → Parsed
parsed_within zero text = Ok (as_it_stands text)
parsed_within (suc tags) text = opened (parsed_within tags) text (cut opening text)

-- `{{` begins a tag, and the next `}}` ends it
abbrev pub parsed : List ℕ → Parsed
parsed text = parsed_within (length text) text

abbrev pub parts_or : List ℕ → Parsed → List Part
parts_or text (Ok parts) = parts
parts_or text (Err fault) = as_it_stands text

-- the parts of a text, and the text as it stands where a tag in it is faulty
abbrev pub parts_of : List ℕ → List Part
parts_of text = parts_or text (parsed text)
