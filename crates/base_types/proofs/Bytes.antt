-- What a name is made of.
use Rattle.std.proofs.Common.{◌≡◌, ℕ, ◌<◌, ◌≤◌, List, length, true, ◌&&◌}
use Rattle.std.specs.Prelude.{IsTrue, nat_lt, nat_le}
use Rattle.std.specs.List.{list_all}
use Rattle.std.proofs.lemmas.Bool.{and_parts, and_from, le-leb, lt-ltb, leb-true, ltb-true}
use Rattle.base_types.specs.Limits.{longest_name}
use Rattle.base_types.specs.Bytes.{is_name_byte, is_name}

pub record NameParts (name : List ℕ) : Type 0 where
  pub bytes : list_all is_name_byte name ≡ true
  pub some : 0 < length name
  pub short : length name ≤ longest_name

pub name_parts : (name : List ℕ) → IsTrue (is_name name) → NameParts name
name_parts name h =
    let bytes = list_all is_name_byte name in
    let some = nat_lt 0 (length name) in
    let p = and_parts (bytes && some) (nat_le (length name) longest_name) h in
    let q = and_parts bytes some p.0 in
    record {
      bytes = q.0;
      some = ltb-true 0 (length name) q.1;
      short = leb-true (length name) longest_name p.1;
    }

pub name_from : (name : List ℕ) → NameParts name → IsTrue (is_name name)
name_from name parts =
    let bytes = list_all is_name_byte name in
    let some = nat_lt 0 (length name) in
    and_from (bytes && some) (nat_le (length name) longest_name)
    (and_from bytes some parts.bytes (lt-ltb 0 (length name) parts.some))
    (le-leb (length name) longest_name parts.short)
