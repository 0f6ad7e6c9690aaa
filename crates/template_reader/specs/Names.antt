-- The names of resources and of what they hold. Workflows and ConfigMaps are named by DNS subdomains, of which only the
-- length and the characters are asked (Kubernetes, "Object Names and IDs"); keys are those of Kubernetes, "ConfigMaps".
-- That a mutex's name is any text that is not empty is this project's own.
use Rattle.std.specs.Prelude.{ℕ, nat_lt, nat_le, Bool, ◌&&◌, ◌||◌, ◌==◌, if◌then◌else◌}
use Rattle.std.specs.Prelude.{List, [], ◌∷◌, length, Option, Some, None}
use Rattle.std.specs.Char.{is_ascii_lowercase, is_ascii_digit}
use Rattle.std.specs.List.{list_all}
use Rattle.base_types.specs.Bytes.{is_name_byte}
use Rattle.base_types.specs.Limits.{longest_workflow_name, longest_config_key}

-- 1 to so many
abbrev pub has_length : ℕ → ℕ → Bool
has_length most n = nat_lt 0 n && nat_le n most

-- a lower-case letter, a digit, `-` or `.`
abbrev pub is_resource_byte : ℕ → Bool
is_resource_byte b = is_ascii_lowercase b || is_ascii_digit b || (b == 45) || (b == 46)

-- 1 to 253 of them
abbrev pub is_resource_name : List ℕ → Bool
is_resource_name t = has_length longest_workflow_name (length t) && list_all is_resource_byte t

-- the name of a workflow or a ConfigMap
abbrev pub resource_name : List ℕ → Option (List ℕ)
resource_name t = if is_resource_name t then Some t else None

-- a letter, a digit, `-`, `_` or `.`
abbrev pub is_key_byte : ℕ → Bool
is_key_byte b = is_name_byte b || (b == 46)

-- 1 to 253 of them
abbrev pub is_key : List ℕ → Bool
is_key t = has_length longest_config_key (length t) && list_all is_key_byte t

-- a key of a ConfigMap
abbrev pub config_key : List ℕ → Option (List ℕ)
config_key t = if is_key t then Some t else None

-- the name of a mutex
abbrev pub mutex_name : List ℕ → Option (List ℕ)
mutex_name [] = None
mutex_name (b ∷ bs) = Some (b ∷ bs)
