-- The way that a loop has read.
use Rattle.std.proofs.Common.{◌≡◌, ◌≢◌, ℕ, ◌<◌, List, [], ◌∷◌, ◌++◌, length, drop, Some, None, refl, sym, ap, ◌∙◌, append_assoc, length-append, arith}
use Rattle.std.specs.Str.Pattern.{LacksTextAt}
use Rattle.std.proofs.lemmas.List.{append-nil, append_cancel_left}
use Rattle.node_names.specs.declared.seg.Seg.{Seg}
use Rattle.node_names.specs.declared.seg.Seg.TheVariants.{Exit, Group, Call, Item, Attempt}
use Rattle.node_names.specs.Names.{suffix, AreSound, IsWay}
use Rattle.node_names.specs.Inside.Reading.{BeginsWith, BeginsWithNone}
use Rattle.node_names.proofs.Names.{tail, name_is_tail, tail_ends, suffix_some, unsplit}

-- a way and what is left of the suffixes: each way of these suffixes goes on from this one
pub record IsReadTo (suffixes : List ℕ) (way : List Seg) (rest : List ℕ) : Type 0 where
  pub sound : AreSound way
  pub is : suffixes ≡ tail way ++ rest
  pub only : (whole : List Seg) → AreSound whole → tail whole ≡ suffixes → (more : List Seg) × (whole ≡ way ++ more) × AreSound more × (tail more ≡ rest)

pub at_start : (suffixes : List ℕ) → IsReadTo suffixes [] suffixes
at_start suffixes = record { sound = tt; is = refl; only = λ whole sound e. (whole, refl, sound, e) }

tail_append : (way more : List Seg) → tail (way ++ more) ≡ tail way ++ tail more
tail_append [] more = refl
tail_append (seg ∷ way) more = ap (λ t. suffix seg ++ t) (tail_append way more) ∙ sym (append_assoc (suffix seg) (tail way) (tail more))

sound_append : (way more : List Seg) → AreSound way → AreSound more → AreSound (way ++ more)
sound_append [] more sound rest = rest
sound_append (seg ∷ way) more sound rest = (sound.0, sound_append way more sound.1 rest)

goes_on : (way more : List Seg) (seg : Seg) (rest after : List ℕ) (whole : List Seg) → BeginsWith seg rest after → whole ≡ way ++ more → AreSound more → tail more ≡ rest
    → (others : List Seg) × (whole ≡ (way ++ seg ∷ []) ++ others) × AreSound others × (tail others ≡ after)
goes_on way [] seg rest after whole begins is sound e = absurd (suffix_some seg after (sym begins.is ∙ sym e))
goes_on way (first ∷ others) seg rest after whole begins is sound e =
    let h = unsplit first seg (tail others) after sound.0 begins.sound (tail_ends first others) begins.ends (e ∙ begins.is) in
    (others, is ∙ ap (λ (s : Seg). way ++ s ∷ others) h.0 ∙ sym (append_assoc way (seg ∷ []) others), sound.1, h.1)

pub step : (suffixes : List ℕ) (way : List Seg) (rest after : List ℕ) (seg : Seg) → IsReadTo suffixes way rest → BeginsWith seg rest after → IsReadTo suffixes (way ++ seg ∷ []) after
step suffixes way rest after seg read begins =
    record {
      sound = sound_append way (seg ∷ []) read.sound (begins.sound, tt);
      is = read.is ∙ ap (λ t. tail way ++ t) begins.is ∙ sym (append_assoc (tail way) (suffix seg) after)
          ∙ ap (λ t. tail way ++ t ++ after) (sym (append-nil (suffix seg))) ∙ ap (λ t. t ++ after) (sym (tail_append way (seg ∷ [])));
      only = λ whole sound e. let h = read.only whole sound e in goes_on way h.0 seg rest after whole begins h.1 h.2 h.3;
    }

begins_none : (more : List Seg) (rest : List ℕ) → AreSound more → BeginsWithNone rest → rest ≢ [] → tail more ≢ rest
begins_none [] rest sound none some e = some (sym e)
begins_none (seg ∷ more) rest sound none some e = none seg (tail more) sound.0 (tail_ends seg more) (sym e)

-- where the rest begins with no suffix, no way has the name
pub stuck : (root name suffixes : List ℕ) (way : List Seg) (rest : List ℕ) → name ≡ root ++ suffixes → IsReadTo suffixes way rest → BeginsWithNone rest → rest ≢ [] → IsWay root name None
stuck root name suffixes way rest is read none some whole sound e =
    let tails = append_cancel_left root (tail whole) suffixes (sym (name_is_tail root whole) ∙ e ∙ is) in
    let h = read.only whole sound tails in
    begins_none h.0 rest h.2 none some h.3

-- where nothing is left, the way has the name
pub at_end : (root name suffixes : List ℕ) (way : List Seg) (rest : List ℕ) → name ≡ root ++ suffixes → IsReadTo suffixes way rest → rest ≡ [] → IsWay root name (Some way)
at_end root name suffixes way rest is read none =
    (read.sound, name_is_tail root way ∙ ap (λ t. root ++ t) (sym (append-nil (tail way)) ∙ ap (λ t. tail way ++ t) (sym none) ∙ sym read.is) ∙ sym is)

-- a name that does not begin with the root's
pub no_root : (root name : List ℕ) → LacksTextAt root name 0 → IsWay root name None
no_root root name lacks way sound e = lacks (tail way) (sym e ∙ name_is_tail root way)

pub shorter : (seg : Seg) (rest after : List ℕ) → BeginsWith seg rest after → length after < length rest
shorter seg rest after begins = omega (arith, ap length begins.is, length-append (suffix seg) after, suffix_long seg)
  where
    suffix_long : (seg : Seg) → 0 < length (suffix seg)
    suffix_long Exit = omega arith
    suffix_long (Group i) = omega arith
    suffix_long (Call name) = omega arith
    suffix_long (Item i text) = omega arith
    suffix_long (Attempt k) = omega arith

-- a name without its root's
pub stripped : (root name given text suffixes : List ℕ) (n : ℕ) → given ≡ root → text ≡ name → text ≡ given ++ drop n text → suffixes ≡ drop n text → name ≡ root ++ suffixes
stripped root name given text suffixes n same_root same_name split is =
    sym same_name ∙ split ∙ ap (λ t. t ++ drop n text) same_root ∙ ap (λ t. root ++ t) (sym is)
