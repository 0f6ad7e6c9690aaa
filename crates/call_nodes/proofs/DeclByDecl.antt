-- Parameters, and endings that are made one declared output after the other.
use Rattle.std.proofs.Common.{◌≡◌, ℕ, ◌+◌, true, false, cond, List, [], ◌∷◌, ◌++◌, drop, Option, Some, None, sym, refl, ap, ap₂, ◌∙◌, append_assoc, append-nil}
use Rattle.std.specs.Prelude.{bytes_eq, slice_get}
use Rattle.tree_types.specs.declared.outcome.Param.{Param}
use Rattle.wf_manifest.specs.declared.templates.OutputDecl.{OutputDecl}
use Rattle.scopes.proofs.ValueIn.{drop_place}
use Rattle.meaning.specs.Answers.{first_or}
use Rattle.meaning.specs.Outputs.{param, with_value, found, lack_by, first_lack, Ending}
use Rattle.call_nodes.specs.declared.endings.Source.{Source}
use Rattle.call_nodes.specs.Inside.Sources.{put, needed, with_all, with_decl}

-- ---- the first parameter of a name

pub param_here : (n : List ℕ) (ps : List Param) (i : ℕ) (p : Param) → slice_get ps i ≡ Some p → bytes_eq p.name n ≡ true → param n (drop i ps) ≡ Some p.value
param_here n ps i p at same =
    ap (param n) (drop_place ps i p at) ∙ ap (λ b. cond b (Some p.value) (param n (drop (i + 1) ps))) same

pub param_later : (n : List ℕ) (ps : List Param) (i : ℕ) (p : Param) → slice_get ps i ≡ Some p → bytes_eq p.name n ≡ false → param n (drop (i + 1) ps) ≡ param n (drop i ps)
param_later n ps i p at differs =
    sym (ap (param n) (drop_place ps i p at) ∙ ap (λ b. cond b (Some p.value) (param n (drop (i + 1) ps))) differs)

-- ---- endings

values_then : (ps : List Param) (n : List ℕ) (v : Option (List ℕ)) (rest : List Param) → (ps ++ with_value n v []) ++ rest ≡ ps ++ with_value n v rest
values_then ps n None rest = ap (λ t. t ++ rest) (append-nil ps)
values_then ps n (Some v) rest = append_assoc ps (record { name = n; value = v } ∷ []) rest

lack_then : (l : Option (List ℕ)) (n : List ℕ) (v rest : Option (List ℕ)) → first_or (first_or l (lack_by n v None)) rest ≡ first_or l (lack_by n v rest)
lack_then (Some x) n v rest = refl
lack_then None n None rest = refl
lack_then None n (Some v) rest = refl

abbrev made : Option (List ℕ) → List Param → Option (List ℕ) → Ending
made result ps lack = record { outputs = record { result = result; params = ps }; lack = lack }

with_more : (e : Ending) (s : Source) (d : OutputDecl) (ds : List OutputDecl) → with_all (with_decl e s d) s ds ≡ with_all e s (d ∷ ds)
with_more e s d ds =
    ap₂ (made e.outputs.result)
    (values_then e.outputs.params d.name (put s d) (found (put s) ds))
    (lack_then e.lack d.name (needed s d) (first_lack (needed s) ds))

-- what a declared output makes of an ending, and those behind it
pub next_decl : (e new : Ending) (s : Source) (ds : List OutputDecl) (i : ℕ) (d : OutputDecl) → slice_get ds i ≡ Some d → new ≡ with_decl e s d → with_all new s (drop (i + 1) ds) ≡ with_all e s (drop i ds)
next_decl e new s ds i d at is =
    ap (λ (x : Ending). with_all x s (drop (i + 1) ds)) is
    ∙ with_more e s d (drop (i + 1) ds)
    ∙ ap (with_all e s) (sym (drop_place ds i d at))
