-- A name is led through in one way, also where the numbers in it have 64 bits.
use Rattle.std.proofs.Common.{◌≡◌, ◌≢◌, ◌⊎◌, ℕ, ◌<◌, ◌^◌, Bool, true, false, List, [], ◌∷◌, ◌++◌, refl, sym, ap, ◌∙◌, inl, inr, append_assoc, arith}
use Rattle.std.specs.Prelude.{decimal, codes, IsTrue}
use Rattle.std.specs.Int.{IsInRange}
use Rattle.std.specs.List.{list_all, AllByRecursion}
use Rattle.std.specs.Str.Parse.{AllDigits}
use Rattle.std.proofs.lemmas.Str.Parse.{digit_from_value}
use Rattle.std.proofs.lemmas.List.{append-nil, append_cancel_left}
use Rattle.std.proofs.lemmas.Fmt.{decimal_injective, digits_decimal}
use Rattle.node_names.specs.declared.seg.Seg.{Seg}
use Rattle.node_names.specs.declared.seg.Seg.TheVariants.{Exit, Group, Call, Item, Attempt}
use Rattle.base_types.specs.Bytes.{is_name_byte, is_name}
use Rattle.base_types.proofs.Bytes.{name_parts}
use Rattle.node_names.specs.Names.{suffix, name_below, is_no_parenthesis}
use Rattle.node_names.specs.Inside.Reading.{EndsBefore}
use Rattle.node_names.proofs.Bytes.{all_first, all_rest, all_more, runs_agree, numerals, is_not, is_not_other}
use Rattle.node_names.proofs.Names.{closed, first_byte, tail, name_is_tail, tail_ends, suffix_some}

-- a number of 64 bits, a name that is not `onExit`, and a text without a parenthesis
abbrev pub IsClear : Seg → Type 0
IsClear Exit = Unit {0}
IsClear (Group i) = i < 2 ^ 64
IsClear (Call name) = IsTrue (is_name name) × (name ≢ codes "onExit")
IsClear (Item i text) = (i < 2 ^ 64) × (list_all is_no_parenthesis text ≡ true)
IsClear (Attempt k) = k < 2 ^ 64

abbrev pub AreClear : List Seg → Type 0
AreClear way = AllByRecursion IsClear way

digits_pass : (p : ℕ → Bool) → ((c : ℕ) → IsInRange 48 57 c → p c ≡ true) → (ds : List ℕ) → AllDigits 10 ds → list_all p ds ≡ true
digits_pass p passes [] digits = refl
digits_pass p passes (d ∷ ds) digits = all_more p d ds (passes d (digit_from_value d digits.0)) (digits_pass p passes ds digits.1)

number_lacks : (c n : ℕ) → c < 48 ⊎ 57 < c → n < 2 ^ 64 → list_all (is_not c) (decimal n) ≡ true
number_lacks c n outside small = digits_pass (is_not c) (λ d digit. is_not_other c d (λ same. apart outside d digit same)) (decimal n) (digits_decimal numerals n small)
  where
    apart : (c < 48 ⊎ 57 < c) → (d : ℕ) → IsInRange 48 57 d → d ≡ c → ⊥
    apart (inl below) d digit same = omega (arith, digit.0)
    apart (inr above) d digit same = omega (arith, digit.1)

all_append : (p : ℕ → Bool) (xs ys : List ℕ) → list_all p xs ≡ true → list_all p ys ≡ true → list_all p (xs ++ ys) ≡ true
all_append p [] ys all_xs all_ys = all_ys
all_append p (x ∷ xs) ys all_xs all_ys = all_more p x (xs ++ ys) (all_first p x xs all_xs) (all_append p xs ys (all_rest p x xs all_xs) all_ys)

no_closing : (b : ℕ) → is_no_parenthesis b ≡ true → is_not 41 b ≡ true
no_closing b none = is_not_other 41 b (λ same. absurd (let h : is_no_parenthesis b ≡ false = ap is_no_parenthesis same in cc))

text_lacks : (text : List ℕ) → list_all is_no_parenthesis text ≡ true → list_all (is_not 41) text ≡ true
text_lacks [] all = refl
text_lacks (b ∷ bs) all = all_more (is_not 41) b bs (no_closing b (all_first is_no_parenthesis b bs all)) (text_lacks bs (all_rest is_no_parenthesis b bs all))

item_lacks : (i : ℕ) (text : List ℕ) → IsClear (Item i text) → list_all (is_not 41) ((decimal i ++ 58 ∷ []) ++ text) ≡ true
item_lacks i text clear = all_append (is_not 41) (decimal i ++ 58 ∷ []) text (all_append (is_not 41) (decimal i) (58 ∷ []) (number_lacks 41 i (inl (omega arith)) clear.0) refl) (text_lacks text clear.1)

item_is_no_attempt : (i k : ℕ) (text : List ℕ) → i < 2 ^ 64 → k < 2 ^ 64 → (decimal i ++ 58 ∷ []) ++ text ≡ decimal k → ⊥
item_is_no_attempt i k text p q e =
    let h = runs_agree (is_not 58) (decimal i) (decimal k) (58 ∷ text) [] (number_lacks 58 i (inr (omega arith)) p) (number_lacks 58 k (inr (omega arith)) q) refl tt (sym (append_assoc (decimal i) (58 ∷ []) text) ∙ e ∙ sym (append-nil (decimal k))) in
    let tails : 58 ∷ text ≡ [] = h.1 in absurd (cc)

-- one text begins with one segment
unsplit : (seg other : Seg) (rest left : List ℕ) → IsClear seg → IsClear other → EndsBefore seg rest → EndsBefore other left → suffix seg ++ rest ≡ suffix other ++ left → (seg ≡ other) × (rest ≡ left)
unsplit Exit Exit rest left clear clear' stops stops' e = (refl, append_cancel_left (codes ".onExit") rest left e)
unsplit Exit (Call name) rest left clear clear' stops stops' e =
    let h = runs_agree is_name_byte (codes "onExit") name rest left refl (name_parts name clear'.0).bytes stops stops' (cc) in
    absurd (clear'.1 (sym h.0))
unsplit (Call name) Exit rest left clear clear' stops stops' e =
    let h = runs_agree is_name_byte name (codes "onExit") rest left (name_parts name clear.0).bytes refl stops stops' (cc) in
    absurd (clear.1 h.0)
unsplit (Call name) (Call other) rest left clear clear' stops stops' e =
    let h = runs_agree is_name_byte name other rest left (name_parts name clear.0).bytes (name_parts other clear'.0).bytes stops stops' (cc) in
    (ap (λ (t : List ℕ). Call t) h.0, h.1)
unsplit (Group i) (Group j) rest left clear clear' stops stops' e =
    let h = closed 93 (decimal i) (decimal j) rest left (number_lacks 93 i (inr (omega arith)) clear) (number_lacks 93 j (inr (omega arith)) clear') (cc) in
    (ap (λ (n : ℕ). Group n) (decimal_injective i j clear clear' h.0), h.1)
unsplit (Attempt k) (Attempt n) rest left clear clear' stops stops' e =
    let h = closed 41 (decimal k) (decimal n) rest left (number_lacks 41 k (inl (omega arith)) clear) (number_lacks 41 n (inl (omega arith)) clear') (cc) in
    (ap (λ (n : ℕ). Attempt n) (decimal_injective k n clear clear' h.0), h.1)
unsplit (Item i text) (Attempt k) rest left clear clear' stops stops' e =
    let h = closed 41 ((decimal i ++ 58 ∷ []) ++ text) (decimal k) rest left (item_lacks i text clear) (number_lacks 41 k (inl (omega arith)) clear') (cc) in
    absurd (item_is_no_attempt i k text clear.0 clear' h.0)
unsplit (Attempt k) (Item i text) rest left clear clear' stops stops' e =
    let h = closed 41 (decimal k) ((decimal i ++ 58 ∷ []) ++ text) rest left (number_lacks 41 k (inl (omega arith)) clear) (item_lacks i text clear') (cc) in
    absurd (item_is_no_attempt i k text clear'.0 clear (sym h.0))
unsplit (Item i text) (Item j more) rest left clear clear' stops stops' e =
    let h = closed 41 ((decimal i ++ 58 ∷ []) ++ text) ((decimal j ++ 58 ∷ []) ++ more) rest left (item_lacks i text clear) (item_lacks j more clear') (cc) in
    let k = closed 58 (decimal i) (decimal j) text more (number_lacks 58 i (inr (omega arith)) clear.0) (number_lacks 58 j (inr (omega arith)) clear'.0) h.0 in
    let number : i ≡ j = decimal_injective i j clear.0 clear'.0 k.0 in
    let texts : text ≡ more = k.1 in
    (cc, h.1)
unsplit seg other rest left clear clear' stops stops' e = absurd (let first = ap first_byte e in omega arith)

same_way : (way other : List Seg) → AreClear way → AreClear other → tail way ≡ tail other → way ≡ other
same_way [] [] clear clear' e = refl
same_way [] (seg ∷ other) clear clear' e = absurd (suffix_some seg (tail other) (sym e))
same_way (seg ∷ way) [] clear clear' e = absurd (suffix_some seg (tail way) e)
same_way (seg ∷ way) (first ∷ other) clear clear' e =
    let h = unsplit seg first (tail way) (tail other) clear.0 clear'.0 (tail_ends seg way) (tail_ends first other) e in
    let one : seg ≡ first = h.0 in
    let others : way ≡ other = same_way way other clear.1 clear'.1 h.1 in
    cc

pub distinct : (root : List ℕ) (way other : List Seg) → AreClear way → AreClear other → name_below root way ≡ name_below root other → way ≡ other
distinct root way other clear clear' e =
    same_way way other clear clear' (append_cancel_left root (tail way) (tail other) (sym (name_is_tail root way) ∙ e ∙ name_is_tail root other))
