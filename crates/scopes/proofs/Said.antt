-- What is said, part by part.
use Rattle.std.proofs.Common.{◌≡◌, ℕ, ◌+◌, ◌≤◌, List, [], ◌∷◌, ◌++◌, length, drop, Some, Ok, Err, refl, sym, ap, ◌∙◌, append_assoc}
use Rattle.std.specs.Prelude.{slice_get}
use Rattle.std.proofs.lemmas.List.{append-nil, drop_all}
use Rattle.tree_types.specs.declared.node.Note.{Note}
use Rattle.tag_text.specs.declared.part.Part.{Part}
use Rattle.tag_text.specs.declared.part.Part.TheVariants.{Plain, Tag}
use Rattle.scopes.specs.Substitution.{Found, ◌>>=◌, Scope, found_value, part_said, said}
use Rattle.scopes.specs.Values.{HasValuesOf}
use Rattle.scopes.proofs.ValueIn.{drop_place}

-- what was said before, and what is said still
abbrev pub onto : List ℕ → Found (List ℕ) → Found (List ℕ)
onto front found = found >>= λ rest. Ok (front ++ rest)

onto_onto : (front more : List ℕ) (found : Found (List ℕ)) → onto front (found >>= λ rest. Ok (more ++ rest)) ≡ onto (front ++ more) found
onto_onto front more (Ok rest) = ap (λ (t : List ℕ). Ok t) (sym (append_assoc front more rest))
onto_onto front more (Err fault) = refl

-- one part more is said
pub says_more : (scope : Scope) (text : List Part) (i : ℕ) (part : Part) (front more : List ℕ) (total : Found (List ℕ)) → slice_get text i ≡ Some part → part_said scope part ≡ Ok more
    → onto front (said scope (drop i text)) ≡ total → onto (front ++ more) (said scope (drop (i + 1) text)) ≡ total
says_more scope text i part front more total at says so_far =
    sym (onto_onto front more (said scope (drop (i + 1) text)))
    ∙ ap (λ (f : Found (List ℕ)). onto front (f >>= λ t. said scope (drop (i + 1) text) >>= λ rest. Ok (t ++ rest))) (sym says)
    ∙ ap (λ (ps : List Part). onto front (said scope ps)) (sym (drop_place text i part at))
    ∙ so_far

-- or has no value
pub says_not : (scope : Scope) (text : List Part) (i : ℕ) (part : Part) (front : List ℕ) (fault : Note) (total : Found (List ℕ)) → slice_get text i ≡ Some part → part_said scope part ≡ Err fault
    → onto front (said scope (drop i text)) ≡ total → total ≡ Err fault
says_not scope text i part front fault total at says so_far =
    sym so_far
    ∙ ap (λ (ps : List Part). onto front (said scope ps)) (drop_place text i part at)
    ∙ ap (λ (f : Found (List ℕ)). onto front (f >>= λ t. said scope (drop (i + 1) text) >>= λ rest. Ok (t ++ rest))) says

pub starts : (found : Found (List ℕ)) → onto [] found ≡ found
starts (Ok rest) = refl
starts (Err fault) = refl

pub is_said : (scope : Scope) (text : List Part) (i : ℕ) (front : List ℕ) (total : Found (List ℕ)) → length text ≤ i → onto front (said scope (drop i text)) ≡ total → total ≡ Ok front
is_said scope text i front total past so_far =
    sym so_far ∙ ap (λ (ps : List Part). onto front (said scope ps)) (drop_all i text past) ∙ ap (λ (t : List ℕ). Ok t) (append-nil front)

-- scopes with the same values say the same
part_alike : (scope other : Scope) (part : Part) → HasValuesOf scope other → part_said scope part ≡ part_said other part
part_alike scope other (Plain text) same = refl
part_alike scope other (Tag name) same = ap (found_value name) (same name)

pub said_alike : (scope other : Scope) (text : List Part) → HasValuesOf scope other → said scope text ≡ said other text
said_alike scope other [] same = refl
said_alike scope other (part ∷ text) same =
    ap (λ (f : Found (List ℕ)). f >>= λ front. said scope text >>= λ rest. Ok (front ++ rest)) (part_alike scope other part same)
    ∙ ap (λ (g : Found (List ℕ)). part_said other part >>= λ front. g >>= λ rest. Ok (front ++ rest)) (said_alike scope other text same)
