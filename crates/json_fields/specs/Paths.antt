-- The path of a field or of a list's member. Its form is that of field paths in the Kubernetes API's messages; that the
-- whole document is a dot is this project's own.
use Rattle.std.specs.Prelude.{ℕ, List, [], ◌∷◌, ◌++◌, codes, decimal}

-- The bytes of a path. That of the whole document is empty.
abbrev pub Path : Type 0
Path = List ℕ

-- names are parted by dots
abbrev pub field_of : Path → List ℕ → Path
field_of [] name = name
field_of (byte ∷ path) name = (byte ∷ path) ++ codes "." ++ name

-- members are numbered from 0
abbrev pub member_of : Path → ℕ → Path
member_of path i = path ++ codes "[" ++ decimal i ++ codes "]"

abbrev pub printed : Path → List ℕ
printed [] = codes "."
printed (byte ∷ path) = byte ∷ path
