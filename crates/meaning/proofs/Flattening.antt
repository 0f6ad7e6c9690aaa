-- The parts of what a call makes, and their lines, where they are put together.
use Rattle.std.proofs.Common.{◌≡◌, refl, sym, ◌∙◌, ap, append_assoc}
use Rattle.std.proofs.lemmas.List.{append-nil}
use Rattle.std.specs.Prelude.{List, [], ◌∷◌, ◌++◌, map}
use Rattle.tree_types.specs.declared.want.Want.{Want}
use Rattle.meaning.specs.declared.lines.Line.{Line}
use Rattle.meaning.specs.declared.lines.Line.TheVariants.{Stands, Asks, MayBegin}
use Rattle.meaning.specs.Lines.{Parts, nothing, call, may_begin, asks, Made, row_of, row_in, asked, then_parts, lines_over, lines_below, lines_in}
use Rattle.meaning.specs.Calls.{then_hook}

-- the lines of parts, and of more behind them
pub lines_then : (parts more : Parts) → lines_below (then_parts parts more) ≡ lines_below parts ++ lines_below more
lines_then nothing more = refl
lines_then (call own inner rest) more =
    let ls : List Line = lines_over own.node own.wants (lines_below inner) in
    let regrouped = sym (append_assoc ls (lines_below rest) (lines_below more)) in
    ap (λ (ks : List Line). ls ++ ks) (lines_then rest more) ∙ regrouped
lines_then (may_begin p rest) more = ap (λ (ks : List Line). MayBegin p ∷ ks) (lines_then rest more)
lines_then (asks w rest) more = ap (λ (ks : List Line). Asks w ∷ ks) (lines_then rest more)

pub lines_asked : (ws : List Want) → lines_below (asked ws) ≡ map Asks ws
lines_asked [] = refl
lines_asked (w ∷ ws) = ap (λ (ks : List Line). Asks w ∷ ks) (lines_asked ws)

-- a hook's lines stand behind those of its step or task
pub lines_hooked : (b h : Made) → lines_in (then_hook b h) ≡ lines_in b ++ lines_in h
lines_hooked b h =
    let ws : List Line = map Asks b.own.wants in
    let below : List Line = lines_below b.parts in
    let hook : Parts = row_of (h ∷ []) in
    let alone = ap (λ (ks : List Line). below ++ ks) (append-nil (lines_in h)) in
    let inner : lines_below (then_parts b.parts hook) ≡ below ++ lines_in h = lines_then b.parts hook ∙ alone in
    let regrouped = sym (append_assoc ws below (lines_in h)) in
    ap (λ (ks : List Line). Stands b.own.node ∷ ks) (ap (λ (ks : List Line). ws ++ ks) inner ∙ regrouped)

-- so do wants that are asked for behind calls
pub lines_tried : (parts : Parts) (ws : List Want)
    → lines_below (then_parts parts (asked ws)) ≡ lines_below parts ++ map Asks ws
lines_tried parts ws = lines_then parts (asked ws) ∙ ap (λ (ks : List Line). lines_below parts ++ ks) (lines_asked ws)

-- ---- the calls among parts

pub row_in_row : (ms : List Made) → row_in (row_of ms) ≡ ms
row_in_row [] = refl
row_in_row (m ∷ ms) = ap (λ (ns : List Made). m ∷ ns) (row_in_row ms)

pub row_in_then : (parts more : Parts) → row_in (then_parts parts more) ≡ row_in parts ++ row_in more
row_in_then nothing more = refl
row_in_then (call own inner rest) more =
    ap (λ (ns : List Made). record { own = own; parts = inner } ∷ ns) (row_in_then rest more)
row_in_then (may_begin p rest) more = row_in_then rest more
row_in_then (asks w rest) more = row_in_then rest more
