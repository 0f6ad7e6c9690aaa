-- What a lent part says of the part that it was lent from.
use Rattle.tag_text.specs.declared.part.Part.{Part}
use Rattle.tag_text.specs.declared.part.Part.TheVariants as part
use Rattle.tag_text.specs.declared.part.Piece.{Piece}
use Rattle.tag_text.specs.declared.part.Piece.TheVariants as piece

-- the part itself
abbrev pub part_of : Piece → Part
part_of (piece.Plain text) = part.Plain text.now
part_of (piece.Tag name) = part.Tag name.now
