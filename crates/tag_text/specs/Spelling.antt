-- How a text with tags is spelled.
use Rattle.std.specs.Prelude.{◌≡◌, ◌≢◌, ℕ, List, [], ◌∷◌, ◌++◌, true}
use Rattle.std.specs.List.{list_all}
use Rattle.tag_text.specs.declared.part.Part.{Part}
use Rattle.tag_text.specs.declared.part.Part.TheVariants.{Plain, Tag}
use Rattle.base_types.specs.Bytes.{is_space}
use Rattle.tag_text.specs.Parts.{opening, closing}

-- a mark stands nowhere in a text
abbrev pub Lacks : List ℕ → List ℕ → Type 0
Lacks mark text = (before after : List ℕ) → text ≢ before ++ mark ++ after

-- a mark that is put behind a text stands nowhere before that: `x` leads to `}}`, and `x}` does not
abbrev pub LeadsTo : List ℕ → List ℕ → Type 0
LeadsTo mark text = (before after : List ℕ) → text ++ mark ≡ before ++ mark ++ after → before ≡ text

-- no space stands first, and none last
abbrev pub HasNoSpaceAtItsEnds : List ℕ → Type 0
HasNoSpaceAtItsEnds text = (b : ℕ) → is_space b ≡ true → (rest : List ℕ) → (text ≢ b ∷ rest) × (text ≢ rest ++ b ∷ [])

-- what may stand in a tag: some text, that begins with no `=` and has no space at its ends
pub record IsTagName (name : List ℕ) : Type 0 where
  pub some : name ≢ []
  pub simple : (rest : List ℕ) → name ≢ 61 ∷ rest
  pub trimmed : HasNoSpaceAtItsEnds name

-- text as it stands before these parts: before a tag the tag's `{{` is the first one, and at the end there is none
abbrev pub StandsBefore : List ℕ → List Part → Type 0
StandsBefore text [] = Lacks opening text
StandsBefore text (Tag name ∷ parts) = LeadsTo opening text
StandsBefore text (Plain more ∷ parts) = ⊥

-- which lists are those of a text's parts: plain text is not empty, and stands alone between tags
abbrev pub AreParts : List Part → Type 0
AreParts [] = Unit {0}
AreParts (Plain text ∷ parts) = (text ≢ []) × StandsBefore text parts × AreParts parts
AreParts (Tag name ∷ parts) = IsTagName name × AreParts parts

-- a name between spaces, or none, in a tag that the next `}}` ends
pub record IsInside (name inside : List ℕ) : Type 0 where
  pub left : List ℕ
  pub right : List ℕ
  pub is : inside ≡ left ++ name ++ right
  pub left_spaces : list_all is_space left ≡ true
  pub right_spaces : list_all is_space right ≡ true
  pub ends : LeadsTo closing inside

-- a text that these parts are written as, one after the other
abbrev pub IsWritten : List Part → List ℕ → Type 0
IsWritten [] text = text ≡ []
IsWritten (Plain plain ∷ parts) text = (rest : List ℕ) × (text ≡ plain ++ rest) × IsWritten parts rest
IsWritten (Tag name ∷ parts) text =
    (inside rest : List ℕ) × IsInside name inside × (text ≡ opening ++ inside ++ closing ++ rest) × IsWritten parts rest

-- a text spells these parts
pub record Spells (text : List ℕ) (parts : List Part) : Type 0 where
  pub form : AreParts parts
  pub written : IsWritten parts text
