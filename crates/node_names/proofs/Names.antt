-- A name is led through in one way.
use Rattle.std.proofs.Common.{◌≡◌, ◌≢◌, ◌⊎◌, ℕ, ◌<◌, ◌^◌, Bool, true, false, List, [], ◌∷◌, ◌++◌, refl, sym, ap, ◌∙◌, inl, inr, append_assoc, arith}
use Rattle.std.specs.Prelude.{decimal, codes}
use Rattle.std.specs.Int.{IsInRange}
use Rattle.std.specs.List.{list_all}
use Rattle.std.proofs.lemmas.List.{append-nil, append_cancel_left}
use Rattle.std.proofs.lemmas.Fmt.{decimal_injective}
use Rattle.node_names.specs.declared.seg.Seg.{Seg}
use Rattle.node_names.specs.declared.seg.Seg.TheVariants.{Exit, Group, Call, Item, Attempt}
use Rattle.base_types.specs.Bytes.{is_name_byte}
use Rattle.base_types.proofs.Bytes.{name_parts}
use Rattle.node_names.specs.Names.{suffix, name_below, is_no_parenthesis, IsSound, AreSound}
use Rattle.node_names.specs.Inside.Reading.{Stops, EndsBefore}
use Rattle.node_names.proofs.Bytes.{runs_agree, decimal_passes, is_not, is_not_same, is_not_other, all_more, all_first, all_rest}

-- no number has this byte
pub number_lacks : (c n : ℕ) → c < 48 ⊎ 57 < c → n < 2 ^ 32 → list_all (is_not c) (decimal n) ≡ true
number_lacks c n outside small = decimal_passes (is_not c) (λ d digit. is_not_other c d (λ same. apart outside d digit same)) n small
  where
    apart : (c < 48 ⊎ 57 < c) → (d : ℕ) → IsInRange 48 57 d → d ≡ c → ⊥
    apart (inl below) d digit same = omega (arith, digit.0)
    apart (inr above) d digit same = omega (arith, digit.1)

-- two runs up to a closing byte are the same
pub closed : (c : ℕ) (a b rest other : List ℕ) → list_all (is_not c) a ≡ true → list_all (is_not c) b ≡ true → (a ++ c ∷ []) ++ rest ≡ (b ++ c ∷ []) ++ other → (a ≡ b) × (rest ≡ other)
closed c a b rest other all_a all_b e =
    let h = runs_agree (is_not c) a b (c ∷ rest) (c ∷ other) all_a all_b (is_not_same c) (is_not_same c) (sym (append_assoc a (c ∷ []) rest) ∙ e ∙ append_assoc b (c ∷ []) other) in
    (h.0, let tails = h.1 in cc)

all_append : (p : ℕ → Bool) (xs ys : List ℕ) → list_all p xs ≡ true → list_all p ys ≡ true → list_all p (xs ++ ys) ≡ true
all_append p [] ys all_xs all_ys = all_ys
all_append p (x ∷ xs) ys all_xs all_ys = all_more p x (xs ++ ys) (all_first p x xs all_xs) (all_append p xs ys (all_rest p x xs all_xs) all_ys)

no_closing : (b : ℕ) → is_no_parenthesis b ≡ true → is_not 41 b ≡ true
no_closing b none =
    is_not_other 41 b (λ same. absurd (let h : is_no_parenthesis b ≡ false = ap is_no_parenthesis same in cc))

text_lacks : (text : List ℕ) → list_all is_no_parenthesis text ≡ true → list_all (is_not 41) text ≡ true
text_lacks [] all = refl
text_lacks (b ∷ bs) all = all_more (is_not 41) b bs (no_closing b (all_first is_no_parenthesis b bs all)) (text_lacks bs (all_rest is_no_parenthesis b bs all))

pub item_lacks : (i : ℕ) (text : List ℕ) → IsSound (Item i text) → list_all (is_not 41) ((decimal i ++ 58 ∷ []) ++ text) ≡ true
item_lacks i text sound = all_append (is_not 41) (decimal i ++ 58 ∷ []) text (all_append (is_not 41) (decimal i) (58 ∷ []) (number_lacks 41 i (inl (omega arith)) sound.0) refl) (text_lacks text sound.1)

same_number : (m n : ℕ) → m < 2 ^ 32 → n < 2 ^ 32 → decimal m ≡ decimal n → m ≡ n
same_number m n p q e = decimal_injective m n (omega arith) (omega arith) e

pub item_is_no_attempt : (i k : ℕ) (text : List ℕ) → i < 2 ^ 32 → k < 2 ^ 32 → (decimal i ++ 58 ∷ []) ++ text ≡ decimal k → ⊥
item_is_no_attempt i k text p q e =
    let h = runs_agree (is_not 58) (decimal i) (decimal k) (58 ∷ text) [] (number_lacks 58 i (inr (omega arith)) p) (number_lacks 58 k (inr (omega arith)) q) refl tt (sym (append_assoc (decimal i) (58 ∷ []) text) ∙ e ∙ sym (append-nil (decimal k))) in
    let tails : 58 ∷ text ≡ [] = h.1 in absurd (cc)

abbrev pub first_byte : List ℕ → ℕ
first_byte [] = 0
first_byte (b ∷ bs) = b

-- one text begins with one sound segment
pub unsplit : (seg other : Seg) (rest left : List ℕ) → IsSound seg → IsSound other → EndsBefore seg rest → EndsBefore other left → suffix seg ++ rest ≡ suffix other ++ left → (seg ≡ other) × (rest ≡ left)
unsplit Exit Exit rest left sound sound' stops stops' e = (refl, append_cancel_left (codes ".onExit") rest left e)
unsplit Exit (Call name) rest left sound sound' stops stops' e =
    let h = runs_agree is_name_byte (codes "onExit") name rest left refl (name_parts name sound'.0).bytes stops stops' (cc) in
    absurd (sound'.1 (sym h.0))
unsplit (Call name) Exit rest left sound sound' stops stops' e =
    let h = runs_agree is_name_byte name (codes "onExit") rest left (name_parts name sound.0).bytes refl stops stops' (cc) in
    absurd (sound.1 h.0)
unsplit (Call name) (Call other) rest left sound sound' stops stops' e =
    let h = runs_agree is_name_byte name other rest left (name_parts name sound.0).bytes (name_parts other sound'.0).bytes stops stops' (cc) in
    (ap (λ (t : List ℕ). Call t) h.0, h.1)
unsplit (Group i) (Group j) rest left sound sound' stops stops' e =
    let h = closed 93 (decimal i) (decimal j) rest left (number_lacks 93 i (inr (omega arith)) sound) (number_lacks 93 j (inr (omega arith)) sound') (cc) in
    (ap (λ (n : ℕ). Group n) (same_number i j sound sound' h.0), h.1)
unsplit (Attempt k) (Attempt n) rest left sound sound' stops stops' e =
    let h = closed 41 (decimal k) (decimal n) rest left (number_lacks 41 k (inl (omega arith)) sound) (number_lacks 41 n (inl (omega arith)) sound') (cc) in
    (ap (λ (n : ℕ). Attempt n) (same_number k n sound sound' h.0), h.1)
unsplit (Item i text) (Attempt k) rest left sound sound' stops stops' e =
    let h = closed 41 ((decimal i ++ 58 ∷ []) ++ text) (decimal k) rest left (item_lacks i text sound) (number_lacks 41 k (inl (omega arith)) sound') (cc) in
    absurd (item_is_no_attempt i k text sound.0 sound' h.0)
unsplit (Attempt k) (Item i text) rest left sound sound' stops stops' e =
    let h = closed 41 (decimal k) ((decimal i ++ 58 ∷ []) ++ text) rest left (number_lacks 41 k (inl (omega arith)) sound) (item_lacks i text sound') (cc) in
    absurd (item_is_no_attempt i k text sound'.0 sound (sym h.0))
unsplit (Item i text) (Item j more) rest left sound sound' stops stops' e =
    let h = closed 41 ((decimal i ++ 58 ∷ []) ++ text) ((decimal j ++ 58 ∷ []) ++ more) rest left (item_lacks i text sound) (item_lacks j more sound') (cc) in
    let k = closed 58 (decimal i) (decimal j) text more (number_lacks 58 i (inr (omega arith)) sound.0) (number_lacks 58 j (inr (omega arith)) sound'.0) h.0 in
    let number : i ≡ j = same_number i j sound.0 sound'.0 k.0 in
    let texts : text ≡ more = k.1 in
    (cc, h.1)
unsplit seg other rest left sound sound' stops stops' e = absurd (let first = ap first_byte e in omega arith)

-- ---- whole names

-- the suffixes one after the other
abbrev pub tail : List Seg → List ℕ
tail [] = []
tail (seg ∷ way) = suffix seg ++ tail way

pub name_is_tail : (root : List ℕ) (way : List Seg) → name_below root way ≡ root ++ tail way
name_is_tail root [] = sym (append-nil root)
name_is_tail root (seg ∷ way) = name_is_tail (root ++ suffix seg) way ∙ append_assoc root (suffix seg) (tail way)

-- no suffix begins as a name goes on
suffix_stops : (seg : Seg) (rest : List ℕ) → Stops is_name_byte (suffix seg ++ rest)
suffix_stops Exit rest = refl
suffix_stops (Group i) rest = refl
suffix_stops (Call name) rest = refl
suffix_stops (Item i text) rest = refl
suffix_stops (Attempt k) rest = refl

pub tail_stops : (way : List Seg) → Stops is_name_byte (tail way)
tail_stops [] = tt
tail_stops (seg ∷ way) = suffix_stops seg (tail way)

pub tail_ends : (seg : Seg) (way : List Seg) → EndsBefore seg (tail way)
tail_ends Exit way = tail_stops way
tail_ends (Group i) way = tt
tail_ends (Call name) way = tail_stops way
tail_ends (Item i text) way = tt
tail_ends (Attempt k) way = tt

pub suffix_some : (seg : Seg) (rest : List ℕ) → suffix seg ++ rest ≢ []
suffix_some Exit rest e = absurd (cc)
suffix_some (Group i) rest e = absurd (cc)
suffix_some (Call name) rest e = absurd (cc)
suffix_some (Item i text) rest e = absurd (cc)
suffix_some (Attempt k) rest e = absurd (cc)

pub same_way : (way other : List Seg) → AreSound way → AreSound other → tail way ≡ tail other → way ≡ other
same_way [] [] sound sound' e = refl
same_way [] (seg ∷ other) sound sound' e = absurd (suffix_some seg (tail other) (sym e))
same_way (seg ∷ way) [] sound sound' e = absurd (suffix_some seg (tail way) e)
same_way (seg ∷ way) (first ∷ other) sound sound' e =
    let h = unsplit seg first (tail way) (tail other) sound.0 sound'.0 (tail_ends seg way) (tail_ends first other) e in
    let one : seg ≡ first = h.0 in
    let others : way ≡ other = same_way way other sound.1 sound'.1 h.1 in
    cc

pub distinct : (root : List ℕ) (way other : List Seg) → AreSound way → AreSound other → name_below root way ≡ name_below root other → way ≡ other
distinct root way other sound sound' e =
    same_way way other sound sound' (append_cancel_left root (tail way) (tail other) (sym (name_is_tail root way) ∙ e ∙ name_is_tail root other))
