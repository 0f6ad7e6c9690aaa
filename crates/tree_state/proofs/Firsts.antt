-- The first line of a kind.
use Rattle.std.proofs.Common.{◌≡◌, ℕ, ◌+◌, ◌<◌, length, get_or, drop, List, [], ◌∷◌, ◌++◌, Bool, true, false, cond, Option, Some, None, refl, sym, ap, ◌∙◌}
use Rattle.std.specs.Prelude.{map, ◌||◌}
use Rattle.std.specs.List.{find, list_any}
use Rattle.std.specs.Option.{option_or}
use Rattle.std.proofs.lemmas.List.Folds.{find-append}
use Rattle.tree_types.specs.declared.path.Path.{Path}
use Rattle.tree_types.specs.declared.want.Want.{Want}
use Rattle.meaning.specs.declared.lines.Line.{Line}
use Rattle.meaning.specs.declared.lines.Line.TheVariants.{Asks}
use Rattle.meaning.specs.Lines.{Made, lines_below, lines_in}
use Rattle.meaning.specs.Trees.{wants_in, beginnings_in}
use Rattle.tree_state.specs.declared.kinds.WantKind.{WantKind}
use Rattle.tree_state.specs.declared.kinds.WantKind.TheVariants.{Pod, Lock, LookUp, Arming, Timer, Save}
use Rattle.tree_state.specs.declared.kinds.Asks.{Asks as Kinds}
use Rattle.tree_state.specs.declared.state.Kid.{Kid}
use Rattle.tree_state.specs.Asking.{is_of, ask_for, first}
use Rattle.tree_state.specs.Inside.Kids.{kid_parts, parts_of}
use Rattle.tree_state.specs.Inside.Sums.{asks_in, asks_of}
use Rattle.tree_state.proofs.Kids.{from_here}
use Rattle.tree_state.proofs.Tellings.{kid_lines}
use Rattle.tree_state.proofs.Readings.{want_among, beginning_among}

-- what is read of lines, and of lines behind them
module _ {Y : Type 0} (join : Y → Y → Y) (look : List Line → Y) (looks : (a b : List Line) → look (a ++ b) ≡ join (look a) (look b)) where
  -- a kid, and those behind it
  pub kids_read : (kids : List Kid) (i : ℕ) (k : Kid) → i < length kids → k ≡ get_or kids i k →
      look (lines_below (parts_of (drop i kids))) ≡ join (look (lines_below (kid_parts k))) (look (lines_below (parts_of (drop (i + 1) kids))))
  kids_read kids i k lt is =
      ap (λ ks. look (lines_below (parts_of ks))) (from_here kids i k lt is)
      ∙ ap look (kid_lines k.line k.state (parts_of (drop (i + 1) kids)))
      ∙ looks (lines_below (kid_parts k)) (lines_below (parts_of (drop (i + 1) kids)))

module _ {X : Type 0} (look : List Line → Option X) (looks : (a b : List Line) → look (a ++ b) ≡ option_or (look a) (look b)) where
  kids_from : (kids : List Kid) (i : ℕ) (k : Kid) → i < length kids → k ≡ get_or kids i k →
      look (lines_below (parts_of (drop i kids))) ≡ option_or (look (lines_below (kid_parts k))) (look (lines_below (parts_of (drop (i + 1) kids))))
  kids_from = kids_read option_or look looks

  -- the kid has one
  pub kid_has : (kids : List Kid) (i : ℕ) (k : Kid) (x : X) (all : Option X) → i < length kids → k ≡ get_or kids i k → look (lines_below (parts_of (drop i kids))) ≡ all → Some x ≡ look (lines_below (kid_parts k)) → Some x ≡ all
  kid_has kids i k x all lt is was has =
      ap (λ o. option_or o (look (lines_below (parts_of (drop (i + 1) kids))))) has ∙ sym (kids_from kids i k lt is) ∙ was

  -- it has none
  pub kid_lacks : (kids : List Kid) (i : ℕ) (k : Kid) (all : Option X) → i < length kids → k ≡ get_or kids i k → look (lines_below (parts_of (drop i kids))) ≡ all → None ≡ look (lines_below (kid_parts k)) → look (lines_below (parts_of (drop (i + 1) kids))) ≡ all
  kid_lacks kids i k all lt is was lacks =
      ap (λ o. option_or o (look (lines_below (parts_of (drop (i + 1) kids))))) lacks ∙ sym (kids_from kids i k lt is) ∙ was

-- ---- wants of a kind

none_by : {X : Type 0} (p : X → Bool) (x : X) (xs : List X) → find p xs ≡ None → (b : Bool) → p x ≡ b → (b || list_any p xs) ≡ false → find p (x ∷ xs) ≡ None
none_by p x xs rest true is off = absurd (cc)
none_by p x xs rest false is off = ap (λ b. cond b (Some x) (find p xs)) is ∙ rest

none_rest : (b c : Bool) → (b || c) ≡ false → c ≡ false
none_rest true c off = absurd (cc)
none_rest false c off = off

none_found : {X : Type 0} (p : X → Bool) (xs : List X) → list_any p xs ≡ false → find p xs ≡ None
none_found p [] off = refl
none_found p (x ∷ xs) off =
    none_by p x xs (none_found p xs (none_rest (p x) (list_any p xs) off)) (p x) refl off

pub asked_first : (ws : List Want) (ls : List Line) → wants_in (map Asks ws ++ ls) ≡ ws ++ wants_in ls
asked_first [] ls = refl
asked_first (w ∷ ws) ls = ap (λ vs. w ∷ vs) (asked_first ws ls)

module _ (p : Want → Bool) where
  -- first among those of the node, then below it
  over : (m : Made) → want_among p (lines_in m) ≡ option_or (find p m.own.wants) (want_among p (lines_below m.parts))
  over m = ap (λ ws. find p ws) (asked_first m.own.wants (lines_below m.parts)) ∙ find-append p m.own.wants (wants_in (lines_below m.parts))

  pub own_has : (m : Made) (w : Want) → Some w ≡ find p m.own.wants → Some w ≡ want_among p (lines_in m)
  own_has m w has = ap (λ o. option_or o (want_among p (lines_below m.parts))) has ∙ sym (over m)

  pub own_lacks : (m : Made) → None ≡ find p m.own.wants → want_among p (lines_below m.parts) ≡ want_among p (lines_in m)
  own_lacks m lacks = ap (λ o. option_or o (want_among p (lines_below m.parts))) lacks ∙ sym (over m)

module _ (k : WantKind) where
  kept : (ls : List Line) (j : WantKind) → asks_of j (asks_in ls) ≡ ask_for j ls
  kept ls Pod = refl
  kept ls Lock = refl
  kept ls LookUp = refl
  kept ls Arming = refl
  kept ls Timer = refl
  kept ls Save = refl

  -- no line is of the kind
  pub asks_none : (ls : List Line) (a : Kinds) (b : Bool) → a ≡ asks_in ls → b ≡ asks_of k a → b ≡ false → ask_for k ls ≡ false
  asks_none ls a b all is off = sym (is ∙ ap (asks_of k) all ∙ kept ls k) ∙ off

  pub kind_lacks : (ls : List Line) (a : Kinds) (b : Bool) → a ≡ asks_in ls → b ≡ asks_of k a → b ≡ false → None ≡ want_among (is_of k) ls
  kind_lacks ls a b all is off = sym (none_found (is_of k) (wants_in ls) (asks_none ls a b all is off))

-- ---- tasks that may begin

-- what a node asks for begins nothing
none_asked : (ws : List Want) (ls : List Line) → beginnings_in (map Asks ws ++ ls) ≡ beginnings_in ls
none_asked [] ls = refl
none_asked (w ∷ ws) ls = none_asked ws ls

pub begins_below : (m : Made) → beginning_among (lines_below m.parts) ≡ beginning_among (lines_in m)
begins_below m = ap (λ ps. first ps) (sym (none_asked m.own.wants (lines_below m.parts)))

none_first : (ps : List Path) → list_any (λ p. true) ps ≡ false → None ≡ first ps
none_first [] e = refl
none_first (p ∷ ps) e = absurd (cc)

pub begin_lacks : (ls : List Line) (a : Kinds) → a ≡ asks_in ls → a.beginnings ≡ false → None ≡ beginning_among ls
begin_lacks ls a all off = none_first (beginnings_in ls) (sym (ap (λ (x : Kinds). x.beginnings) all) ∙ off)
