-- What stands below a node, chunk by chunk.
use Rattle.std.proofs.Common.{◌≡◌, ℕ, zero, suc, ◌+◌, ◌<◌, ◌≤◌, length, get_or, drop, arith, List, [], ◌∷◌, ◌++◌, subst, Option, Some, None, refl, sym, ap, ◌∙◌}
use Rattle.std.proofs.lemmas.List.{drop_all}
use Rattle.std.specs.Option.{option_or}
use Rattle.std.specs.declared.sync.Arc.{Arc}
use Rattle.std.specs.declared.alloc.Global.{Global}
use Rattle.meaning.specs.declared.lines.Line.{Line}
use Rattle.meaning.specs.Lines.{Parts, nothing, call, may_begin, asks, Made, then_parts, row_in, lines_below, lines_over, lines_in}
use Rattle.std.specs.List.{Contains}
use Rattle.std.proofs.lemmas.List.Elements.{Contains-append_left, Contains-append_right}
use Rattle.tree_types.specs.declared.node.Node.{Node}
use Rattle.meaning.specs.Trees.{node_in, nodes_in}
use Rattle.meaning.proofs.Flattening.{lines_then, row_in_then}
use Rattle.tree_state.specs.declared.told.Told.{Told}
use Rattle.tree_state.specs.Telling.{told_with}
use Rattle.tree_state.specs.Finding.{sooner}
use Rattle.tree_state.proofs.Readings.{timer_among, timers_then, sooner_moves}
use Rattle.tree_state.proofs.Tellings.{told_then, filter_append}
use Rattle.tree_state.specs.Replacing.{call_at, replaced}
use Rattle.tree_state.specs.Inside.Kids.{replaced_by}
use Rattle.tree_state.specs.Inside.Chunks.{all_of}
use Rattle.tree_state.proofs.Kids.{from_here, then_moves, then_nothing}

-- a chunk, those behind it, and the last one
pub chunks_from : (cs : List (Arc Parts Global)) (last : Parts) (i : ℕ) (c : Arc Parts Global) → i < length cs → c ≡ get_or cs i c →
    then_parts (all_of (drop i cs)) last ≡ then_parts c.value (then_parts (all_of (drop (i + 1) cs)) last)
chunks_from cs last i c lt is =
    ap (λ (ds : List (Arc Parts Global)). then_parts (all_of ds) last) (from_here cs i c lt is)
    ∙ then_moves c.value (all_of (drop (i + 1) cs)) last

-- one chunk more
pub chunk_pushed : (cs : List (Arc Parts Global)) (c : Arc Parts Global) → all_of (cs ++ c ∷ []) ≡ then_parts (all_of cs) c.value
chunk_pushed [] c = then_nothing c.value
chunk_pushed (d ∷ cs) c = ap (λ (p : Parts). then_parts d.value p) (chunk_pushed cs c) ∙ sym (then_moves d.value (all_of cs) c.value)

-- ---- a call among parts, and those behind them

pub call_within : (p q : Parts) (i : ℕ) → i < length (row_in p) → call_at (then_parts p q) i ≡ call_at p i
call_within nothing q i lt = absurd (omega (arith, lt))
call_within (call own inner rest) q zero lt = refl
call_within (call own inner rest) q (suc i) lt = call_within rest q i (omega (arith, lt))
call_within (may_begin p rest) q i lt = call_within rest q i lt
call_within (asks w rest) q i lt = call_within rest q i lt

pub call_behind : (p q : Parts) (i n : ℕ) → i ≡ length (row_in p) + n → call_at (then_parts p q) i ≡ call_at q n
call_behind nothing q i n is = let e : i ≡ n = omega (arith, is) in ap (λ (k : ℕ). call_at q k) e
call_behind (call own inner rest) q zero n is = absurd (omega (arith, is))
call_behind (call own inner rest) q (suc i) n is = call_behind rest q i n (omega (arith, is))
call_behind (may_begin p rest) q i n is = call_behind rest q i n is
call_behind (asks w rest) q i n is = call_behind rest q i n is

replaced_behind : (p q : Parts) (i n : ℕ) (m : Made) → i ≡ length (row_in p) + n → replaced (then_parts p q) i m ≡ then_parts p (replaced q n m)
replaced_behind nothing q i n m is = let e : i ≡ n = omega (arith, is) in ap (λ (k : ℕ). replaced q k m) e
replaced_behind (call own inner rest) q zero n m is = absurd (omega (arith, is))
replaced_behind (call own inner rest) q (suc i) n m is = ap (λ (r : Parts). call own inner r) (replaced_behind rest q i n m (omega (arith, is)))
replaced_behind (may_begin p rest) q i n m is = ap (λ (r : Parts). may_begin p r) (replaced_behind rest q i n m is)
replaced_behind (asks w rest) q i n m is = ap (λ (r : Parts). asks w r) (replaced_behind rest q i n m is)

pub skips_chunk : (o : Option Made) (p q : Parts) (i n : ℕ) → i ≡ length (row_in p) + n → then_parts p (replaced_by q n o) ≡ replaced_by (then_parts p q) i o
skips_chunk None p q i n is = refl
skips_chunk (Some m) p q i n is = sym (replaced_behind p q i n m is)

-- ---- what is read of lines, chunk by chunk

module _ {Y : Type 0} (join : Y → Y → Y) (look : List Line → Y) (looks : (a b : List Line) → look (a ++ b) ≡ join (look a) (look b)) where
  pub parts_read : (p q : Parts) → look (lines_below (then_parts p q)) ≡ join (look (lines_below p)) (look (lines_below q))
  parts_read p q = ap look (lines_then p q) ∙ looks (lines_below p) (lines_below q)

  pub chunks_read : (cs : List (Arc Parts Global)) (last : Parts) (i : ℕ) (c : Arc Parts Global) → i < length cs → c ≡ get_or cs i c →
      look (lines_below (then_parts (all_of (drop i cs)) last)) ≡ join (look (lines_below c.value)) (look (lines_below (then_parts (all_of (drop (i + 1) cs)) last)))
  chunks_read cs last i c lt is =
      ap (λ (p : Parts). look (lines_below p)) (chunks_from cs last i c lt is) ∙ parts_read c.value (then_parts (all_of (drop (i + 1) cs)) last)

module _ {X : Type 0} (look : List Line → Option X) (looks : (a b : List Line) → look (a ++ b) ≡ option_or (look a) (look b)) where
  -- the chunk has one
  pub chunk_has : (cs : List (Arc Parts Global)) (last : Parts) (i : ℕ) (c : Arc Parts Global) (x : X) (all : Option X) → i < length cs → c ≡ get_or cs i c →
      look (lines_below (then_parts (all_of (drop i cs)) last)) ≡ all → Some x ≡ look (lines_below c.value) → Some x ≡ all
  chunk_has cs last i c x all lt is was has =
      ap (λ o. option_or o (look (lines_below (then_parts (all_of (drop (i + 1) cs)) last)))) has ∙ sym (chunks_read option_or look looks cs last i c lt is) ∙ was

  -- it has none
  pub chunk_lacks : (cs : List (Arc Parts Global)) (last : Parts) (i : ℕ) (c : Arc Parts Global) (all : Option X) → i < length cs → c ≡ get_or cs i c →
      look (lines_below (then_parts (all_of (drop i cs)) last)) ≡ all → None ≡ look (lines_below c.value) → look (lines_below (then_parts (all_of (drop (i + 1) cs)) last)) ≡ all
  chunk_lacks cs last i c all lt is was lacks =
      ap (λ o. option_or o (look (lines_below (then_parts (all_of (drop (i + 1) cs)) last)))) lacks ∙ sym (chunks_read option_or look looks cs last i c lt is) ∙ was

-- only the last is left
pub last_left : (cs : List (Arc Parts Global)) (last : Parts) (i : ℕ) → length cs ≤ i → then_parts (all_of (drop i cs)) last ≡ last
last_left cs last i end = ap (λ (ds : List (Arc Parts Global)). then_parts (all_of ds) last) (drop_all i cs end)

-- ---- the calls, chunk by chunk

pub row_read : (cs : List (Arc Parts Global)) (last : Parts) (i : ℕ) (c : Arc Parts Global) → i < length cs → c ≡ get_or cs i c →
    row_in c.value ++ row_in (then_parts (all_of (drop (i + 1) cs)) last) ≡ row_in (then_parts (all_of (drop i cs)) last)
row_read cs last i c lt is =
    sym (row_in_then c.value (then_parts (all_of (drop (i + 1) cs)) last)) ∙ ap (λ (p : Parts). row_in p) (sym (chunks_from cs last i c lt is))

-- ---- telling, and timers

pub chunk_told : (t : Told) (cs : List (Arc Parts Global)) (last : Parts) (i : ℕ) (c : Arc Parts Global) → i < length cs → c ≡ get_or cs i c →
    told_with (told_with t (lines_below c.value)) (lines_below (then_parts (all_of (drop (i + 1) cs)) last)) ≡ told_with t (lines_below (then_parts (all_of (drop i cs)) last))
chunk_told t cs last i c lt is =
    let rest = then_parts (all_of (drop (i + 1) cs)) last in
    told_then t (lines_below c.value) (lines_below rest)
    ∙ ap (λ (ls : List Line). told_with t ls) (sym (lines_then c.value rest))
    ∙ ap (λ (p : Parts). told_with t (lines_below p)) (sym (chunks_from cs last i c lt is))

pub chunk_timer : (clock : ℕ) (cs : List (Arc Parts Global)) (last : Parts) (i : ℕ) (c : Arc Parts Global) (next now own all : Option ℕ) → i < length cs → c ≡ get_or cs i c →
    own ≡ timer_among clock (lines_below c.value) → now ≡ sooner next own → sooner next (timer_among clock (lines_below (then_parts (all_of (drop i cs)) last))) ≡ all →
    sooner now (timer_among clock (lines_below (then_parts (all_of (drop (i + 1) cs)) last))) ≡ all
chunk_timer clock cs last i c next now own all lt is due given was =
    let rest = timer_among clock (lines_below (then_parts (all_of (drop (i + 1) cs)) last)) in
    ap (λ (o : Option ℕ). sooner o rest) (given ∙ ap (sooner next) due)
    ∙ sooner_moves next (timer_among clock (lines_below c.value)) rest
    ∙ ap (sooner next) (sym (chunks_read sooner (timer_among clock) (timers_then clock) cs last i c lt is))
    ∙ was

-- ---- the nodes of a call stand among those of all

pub call_in : (p : Parts) (i : ℕ) (m : Made) (n : Node) → Some m ≡ call_at p i → Contains (nodes_in (lines_in m)) n → Contains (nodes_in (lines_below p)) n
call_in nothing i m n is has = absurd (cc)
call_in (call own inner rest) zero m n is has =
    let same : m ≡ record { own = own; parts = inner } = cc in
    subst (λ (ns : List Node). Contains ns n) (sym (filter_append node_in (lines_over own.node own.wants (lines_below inner)) (lines_below rest)))
    (Contains-append_left (nodes_in (lines_over own.node own.wants (lines_below inner))) (nodes_in (lines_below rest)) n (subst (λ (x : Made). Contains (nodes_in (lines_in x)) n) same has))
call_in (call own inner rest) (suc i) m n is has =
    subst (λ (ns : List Node). Contains ns n) (sym (filter_append node_in (lines_over own.node own.wants (lines_below inner)) (lines_below rest)))
    (Contains-append_right (nodes_in (lines_over own.node own.wants (lines_below inner))) (nodes_in (lines_below rest)) n (call_in rest i m n is has))
call_in (may_begin p rest) i m n is has = call_in rest i m n is has
call_in (asks w rest) i m n is has = call_in rest i m n is has

-- the last chunk goes to the others
pub sealed : (cs items : List (Arc Parts Global)) (c : Arc Parts Global) (new last : Parts) → items ≡ cs ++ c ∷ [] → c.value ≡ last → new ≡ nothing → then_parts (all_of items) new ≡ then_parts (all_of cs) last
sealed cs items c new last pushed same none =
    ap (λ (q : Parts). then_parts (all_of items) q) none ∙ then_nothing (all_of items) ∙ ap all_of pushed ∙ chunk_pushed cs c ∙ ap (λ (q : Parts). then_parts (all_of cs) q) same
