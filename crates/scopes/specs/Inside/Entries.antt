-- What a contract sees of the entries of a map from texts to texts.
use Rattle.std.specs.Prelude.{ℕ, List, map, String, string_bytes}

-- tags and their values
abbrev pub shown : {Y : Type 0} → List (String Y × List ℕ) → List (List ℕ × List ℕ)
shown entries = map (λ e. (string_bytes e.0, e.1)) entries
