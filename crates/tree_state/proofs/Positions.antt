-- Pods, counted, and found from a position on.
use Rattle.std.proofs.Common.{◌≡◌, ℕ, suc, ◌+◌, ◌^◌, ◌<◌, ◌≤◌, length, length-append, get_or, drop, List, [], ◌∷◌, ◌++◌, Bool, true, false, cond, Option, Some, None, refl, sym, ap, subst, ◌∙◌, arith}
use Rattle.std.specs.Prelude.{◌&&◌, nat_le}
use Rattle.std.specs.Option.{option_or}
use Rattle.std.proofs.lemmas.Bool.{lt-leb}
use Rattle.std.specs.declared.sync.Arc.{Arc}
use Rattle.std.specs.declared.alloc.Global.{Global}
use Rattle.tree_types.specs.declared.want.Want.{Want}
use Rattle.meaning.specs.declared.lines.Line.{Line}
use Rattle.meaning.specs.Lines.{nothing, Made, lines_below, lines_in}
use Rattle.tree_state.specs.declared.kinds.WantKind.TheVariants.{Pod}
use Rattle.tree_state.specs.declared.state.Line.{Line as Line'}
use Rattle.tree_state.specs.declared.state.Kid.{Kid}
use Rattle.tree_state.specs.Finding.{pods_in, found_at}
use Rattle.tree_state.specs.Inside.Kids.{line_then, state_then, kid_parts, parts_of}
use Rattle.tree_state.proofs.Firsts.{kids_read}
use Rattle.tree_state.proofs.OfKind.{among, kind_then, kind_from, kind_over, kind_of_kid, kind_of_call}

abbrev pub pods_among : List Line → List Want
pods_among ls = among Pod ls

pub pods_then : (a b : List Line) → pods_among (a ++ b) ≡ pods_among a ++ pods_among b
pods_then a b = kind_then Pod a b

pub pods_from : (ws : List Want) (i : ℕ) (w : Want) → i < length ws → w ≡ get_or ws i w → pods_in (drop i ws) ≡ pods_in (w ∷ []) ++ pods_in (drop (i + 1) ws)
pods_from ws i w lt is = kind_from Pod ws i w lt is

-- a kid, and those behind it
pub kids_from : (kids : List Kid) (i : ℕ) (k : Kid) → i < length kids → k ≡ get_or kids i k →
    pods_among (lines_below (parts_of (drop i kids))) ≡ pods_among (lines_below (kid_parts k)) ++ pods_among (lines_below (parts_of (drop (i + 1) kids)))
kids_from = kids_read (λ (a b : List Want). a ++ b) pods_among pods_then

pub pods_over : (m : Made) → pods_among (lines_in m) ≡ pods_in m.own.wants ++ pods_among (lines_below m.parts)
pods_over m = kind_over Pod m

pub pods_of_kid : (l : Option (Arc Line' Global)) (s : Option (Arc Made Global)) →
    pods_among (lines_below (line_then l (state_then s nothing))) ≡ pods_among (lines_below (line_then l nothing)) ++ pods_among (lines_below (state_then s nothing))
pods_of_kid l s = kind_of_kid Pod l s

pub pods_of_call : (s : Arc Made Global) → pods_among (lines_below (state_then (Some s) nothing)) ≡ pods_among (lines_in s.value)
pods_of_call s = kind_of_call Pod s

-- ---- found from a position on

module _ (from : ℕ) (p : Want → Bool) where
  moves : (at : ℕ) (b : Bool) (w : Want) (o q : Option (ℕ × Want)) → cond b (Some (at, w)) (option_or o q) ≡ option_or (cond b (Some (at, w)) o) q
  moves at true w o q = refl
  moves at false w o q = refl

  -- first among these, then among those behind them
  pub found_then : (at : ℕ) (xs ys : List Want) → found_at from at p (xs ++ ys) ≡ option_or (found_at from at p xs) (found_at from (at + length xs) p ys)
  found_then at [] ys = let e : at ≡ at + 0 = omega arith in ap (λ (n : ℕ). found_at from n p ys) e
  found_then at (w ∷ xs) ys =
      let e : suc at + length xs ≡ at + suc (length xs) = omega arith in
      let o = found_at from (suc at) p xs in
      let b = nat_le from at && p w in
      ap (λ (r : Option (ℕ × Want)). cond b (Some (at, w)) r) (found_then (suc at) xs ys ∙ ap (λ (n : ℕ). option_or o (found_at from n p ys)) e)
      ∙ moves at b w o (found_at from (at + suc (length xs)) p ys)

  -- all stand before the position
  pub found_skips : (at : ℕ) (ws : List Want) → at + length ws ≤ from → found_at from at p ws ≡ None
  found_skips at [] le = refl
  found_skips at (w ∷ ws) le =
      let lt : at < from = omega (arith, le) in
      let rest : suc at + length ws ≤ from = omega (arith, le) in
      ap (λ (b : Bool). cond (b && p w) (Some (at, w)) (found_at from (suc at) p ws)) (lt-leb from at lt) ∙ found_skips (suc at) ws rest

  -- there are none
  pub found_none : (at : ℕ) (ws : List Want) → length ws ≡ 0 → found_at from at p ws ≡ None
  found_none at [] e = refl
  found_none at (w ∷ ws) e = absurd (omega (arith, e))

  -- what is still to be looked through: what is found there is what is found in all, and its last position is that of all
  abbrev pub Left : Option (ℕ × Want) → ℕ → ℕ → List Want → Type 0
  Left all end at ws = (found_at from at p ws ≡ all) × (at + length ws ≡ end)

  module _ (all : Option (ℕ × Want)) (end at : ℕ) (ws own rest : List Want) (is : ws ≡ own ++ rest) (left : Left all end at ws) where
    parted : option_or (found_at from at p own) (found_at from (at + length own) p rest) ≡ all
    parted = sym (found_then at own rest) ∙ ap (λ (vs : List Want). found_at from at p vs) (sym is) ∙ left.0

    -- the first of them has it
    pub has_left : {x : ℕ × Want} → Some x ≡ found_at from at p own → Some x ≡ all
    has_left has = ap (λ (o : Option (ℕ × Want)). option_or o (found_at from (at + length own) p rest)) has ∙ parted

    -- they have not
    pub rest_left : (n : ℕ) → n ≡ length own → None ≡ found_at from at p own → Left all end (at + n) rest
    rest_left n counted lacks =
        let here =
        ap (λ (k : ℕ). found_at from (at + k) p rest) counted
        ∙ ap (λ (o : Option (ℕ × Want)). option_or o (found_at from (at + length own) p rest)) lacks
        ∙ parted in
        let ends : at + n + length rest ≡ end = omega (arith, ap (λ (vs : List Want). length vs) is, length-append own rest, left.1, counted) in
        (here, ends)

    -- there is room for their number
    pub fits : (n : ℕ) → n ≡ length own → end < 2 ^ 64 → at + n < 2 ^ 64
    fits n counted few = omega (arith, ap (λ (vs : List Want). length vs) is, length-append own rest, left.1, counted, few)

    -- they are all
    pub none_left : length rest ≡ 0 → None ≡ found_at from at p own → None ≡ all
    none_left none lacks = sym (found_none (at + length own) rest none) ∙ (rest_left (length own) refl lacks).0

    -- those behind them stand before the position
    pub skips_left : (n : ℕ) → n ≡ length own → at + n + length rest ≤ from → None ≡ found_at from at p own → None ≡ all
    skips_left n counted le lacks = sym (found_skips (at + n) rest le) ∙ (rest_left n counted lacks).0

-- ---- the pods of a node, then those below it

module _ (from : ℕ) (p : Want → Bool) (at : ℕ) (m n : Made) (same : m ≡ n) where
  abbrev all : List Want
  all = pods_among (lines_in n)

  abbrev below : List Want
  below = pods_among (lines_below m.parts)

  is_parted : all ≡ pods_in m.own.wants ++ below
  is_parted = ap (λ (x : Made). pods_among (lines_in x)) (sym same) ∙ pods_over m

  at_first : Left from p (found_at from at p all) (at + length all) at all
  at_first = (refl, refl)

  pub node_has : {x : ℕ × Want} → Some x ≡ found_at from at p (pods_in m.own.wants) → Some x ≡ found_at from at p (pods_among (lines_in n))
  node_has has = has_left from p (found_at from at p all) (at + length all) at all (pods_in m.own.wants) below is_parted at_first has

  pub node_none : length (pods_among (lines_below m.parts)) ≡ 0 → None ≡ found_at from at p (pods_in m.own.wants) → None ≡ found_at from at p (pods_among (lines_in n))
  node_none = none_left from p (found_at from at p all) (at + length all) at all (pods_in m.own.wants) below is_parted at_first

  module _ (own : ℕ) (counted : own ≡ length (pods_in m.own.wants)) where
    pub node_fits : at + length (pods_among (lines_in n)) < 2 ^ 64 → at + own < 2 ^ 64
    node_fits = fits from p (found_at from at p all) (at + length all) at all (pods_in m.own.wants) below is_parted at_first own counted

    pub both_fit : (more : ℕ) → more ≡ length (pods_among (lines_below m.parts)) → at + length (pods_among (lines_in n)) < 2 ^ 64 → at + own + more < 2 ^ 64
    both_fit more are few = omega (arith, ap (λ (vs : List Want). length vs) is_parted, length-append (pods_in m.own.wants) below, counted, are, few)

    pub node_skips : (more : ℕ) → more ≡ length (pods_among (lines_below m.parts)) → at + own + more ≤ from → None ≡ found_at from at p (pods_in m.own.wants) → None ≡ found_at from at p (pods_among (lines_in n))
    node_skips more are le =
        skips_left from p (found_at from at p all) (at + length all) at all (pods_in m.own.wants) below is_parted at_first own counted (omega (arith, are, le))

    pub node_rest : None ≡ found_at from at p (pods_in m.own.wants) →
        Left from p (found_at from at p (pods_among (lines_in n))) (at + length (pods_among (lines_in n))) (at + own) (pods_among (lines_below m.parts))
    node_rest = rest_left from p (found_at from at p all) (at + length all) at all (pods_in m.own.wants) below is_parted at_first own counted

-- ---- the pods of a kid, then those of the kids behind it

module _ (from : ℕ) (p : Want → Bool) (all : Option (ℕ × Want)) (end at : ℕ) (kids : List Kid) (i : ℕ) (k : Kid) (lt : i < length kids) (is : k ≡ get_or kids i k)
    (left : Left from p all end at (pods_among (lines_below (parts_of (drop i kids))))) where
  pub kid_has : {x : ℕ × Want} → Some x ≡ found_at from at p (pods_among (lines_below (kid_parts k))) → Some x ≡ all
  kid_has has =
      has_left from p all end at (pods_among (lines_below (parts_of (drop i kids)))) (pods_among (lines_below (kid_parts k))) (pods_among (lines_below (parts_of (drop (i + 1) kids)))) (kids_from kids i k lt is) left has

  module _ (n : ℕ) (counted : n ≡ length (pods_among (lines_below (kid_parts k)))) where
    pub kid_fits : end < 2 ^ 64 → at + n < 2 ^ 64
    kid_fits = fits from p all end at (pods_among (lines_below (parts_of (drop i kids)))) (pods_among (lines_below (kid_parts k))) (pods_among (lines_below (parts_of (drop (i + 1) kids)))) (kids_from kids i k lt is) left n counted

    pub kid_next : None ≡ found_at from at p (pods_among (lines_below (kid_parts k))) → Left from p all end (at + n) (pods_among (lines_below (parts_of (drop (i + 1) kids))))
    kid_next = rest_left from p all end at (pods_among (lines_below (parts_of (drop i kids)))) (pods_among (lines_below (kid_parts k))) (pods_among (lines_below (parts_of (drop (i + 1) kids)))) (kids_from kids i k lt is) left n counted

    pub kid_passes : n ≡ 0 → Left from p all end at (pods_among (lines_below (parts_of (drop (i + 1) kids))))
    kid_passes none =
        let stays : at + n ≡ at = omega (arith, none) in
        subst (λ (m : ℕ). Left from p all end m (pods_among (lines_below (parts_of (drop (i + 1) kids))))) stays
        (kid_next (sym (found_none from p at (pods_among (lines_below (kid_parts k))) (sym counted ∙ none))))
