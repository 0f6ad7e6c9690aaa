-- Where a text begins with no suffix.
use Rattle.std.proofs.Common.{Bor, Option, Some, None, MatchOption, ◌≡◌, ◌≢◌, ℕ, zero, suc, ◌<◌, ◌^◌, Bool, true, false, List, [], ◌∷◌, ◌++◌, length, get_or, refl, sym, ap, subst, ◌∙◌, inl, inr, append_assoc, length-append, arith}
use Rattle.std.specs.Prelude.{decimal, codes}
use Rattle.std.specs.List.{list_all}
use Rattle.std.proofs.lemmas.Bool.Decides.{nat_tests}
use Rattle.std.proofs.lemmas.List.{get_or_at, append-nil}
use Rattle.node_names.specs.declared.seg.Seg.{Seg}
use Rattle.node_names.specs.declared.seg.Seg.TheVariants.{Exit, Group, Call, Item, Attempt}
use Rattle.base_types.specs.Bytes.{is_name_byte, is_name}
use Rattle.base_types.proofs.Bytes.{name_parts}
use Rattle.node_names.specs.Names.{is_no_parenthesis, IsSound}
use Rattle.node_names.specs.Inside.Reading.{Stops, BeginsWith, BeginsWithNone}
use Rattle.node_names.proofs.Bytes.{runs_agree, is_not, is_not_other, all_first, all_rest, all_more}
use Rattle.node_names.proofs.Names.{closed, number_lacks, item_lacks, first_byte}

-- a byte stands nowhere in a text
abbrev pub LacksByte : ℕ → List ℕ → Type 0
LacksByte c text = (i : ℕ) → i < length text → get_or text i 0 ≢ c

lacks_rest : (c b : ℕ) (bs : List ℕ) → LacksByte c (b ∷ bs) → LacksByte c bs
lacks_rest c b bs lacks i small = lacks (suc i) (omega arith)

pub all_lacking : (c : ℕ) (text : List ℕ) → LacksByte c text → list_all (is_not c) text ≡ true
all_lacking c [] lacks = refl
all_lacking c (b ∷ bs) lacks = all_more (is_not c) b bs (is_not_other c b (lacks 0 (omega arith))) (all_lacking c bs (lacks_rest c b bs lacks))

lacks_mark : (c : ℕ) (text front rest : List ℕ) → LacksByte c text → text ≢ (front ++ c ∷ []) ++ rest
lacks_mark c text front rest lacks e =
    let whole : text ≡ front ++ c ∷ rest = e ∙ append_assoc front (c ∷ []) rest in
    lacks (length front) (omega (arith, ap length whole, length-append front (c ∷ rest))) (ap (λ t. get_or t (length front) 0) whole ∙ get_or_at front c rest 0 (length front) refl)

-- a text that begins with none of the three bytes
pub no_mark : (text : List ℕ) → ((rest : List ℕ) → text ≢ 46 ∷ rest) → ((rest : List ℕ) → text ≢ 91 ∷ rest) → ((rest : List ℕ) → text ≢ 40 ∷ rest) → BeginsWithNone text
no_mark text dot bracket parenthesis Exit rest sound ends e = dot (codes "onExit" ++ rest) e
no_mark text dot bracket parenthesis (Group i) rest sound ends e = bracket ((decimal i ++ codes "]") ++ rest) e
no_mark text dot bracket parenthesis (Call name) rest sound ends e = dot (name ++ rest) e
no_mark text dot bracket parenthesis (Item i inside) rest sound ends e = parenthesis ((((decimal i ++ codes ":") ++ inside) ++ codes ")") ++ rest) e
no_mark text dot bracket parenthesis (Attempt k) rest sound ends e = parenthesis ((decimal k ++ codes ")") ++ rest) e

-- a dot behind which no name of a step stands
pub no_name : (after name rest : List ℕ) → after ≡ name ++ rest → list_all is_name_byte name ≡ true → Stops is_name_byte rest → name ≢ codes "onExit" → is_name name ≡ false → BeginsWithNone (46 ∷ after)
no_name after name rest is all stops differs unfit Exit left sound ends e =
    let tails : name ++ rest ≡ codes "onExit" ++ left = sym is ∙ (cc) in
    differs (runs_agree is_name_byte name (codes "onExit") rest left all refl stops ends tails).0
no_name after name rest is all stops differs unfit (Call other) left sound ends e =
    let tails : name ++ rest ≡ other ++ left = sym is ∙ (cc) in
    let same : name ≡ other = (runs_agree is_name_byte name other rest left all (name_parts other sound.0).bytes stops ends tails).0 in
    let no : false ≡ true = sym unfit ∙ ap is_name same ∙ sound.0 in
    absurd cc
no_name after name rest is all stops differs unfit seg left sound ends e = absurd (let first = ap first_byte e in omega arith)

only_group : (after : List ℕ) → ((i : ℕ) (rest : List ℕ) → i < 2 ^ 32 → after ≢ (decimal i ++ 93 ∷ []) ++ rest) → BeginsWithNone (91 ∷ after)
only_group after none (Group i) rest sound ends e = none i rest sound (cc)
only_group after none seg rest sound ends e = absurd (let first = ap first_byte e in omega arith)

-- a bracket that is not closed
pub no_bracket : (after : List ℕ) → LacksByte 93 after → BeginsWithNone (91 ∷ after)
no_bracket after lacks = only_group after (λ i rest small e. lacks_mark 93 after (decimal i) rest lacks e)

rejoin : (c : ℕ) (text front rest : List ℕ) → text ≡ front ++ (c ∷ rest) → text ≡ (front ++ c ∷ []) ++ rest
rejoin c text front rest is = is ∙ sym (append_assoc front (c ∷ []) rest)

-- a bracket in which no number stands
pub no_number : (after digits rest : List ℕ) → after ≡ digits ++ (93 ∷ rest) → LacksByte 93 digits → ((n : ℕ) → n < 2 ^ 32 → digits ≢ decimal n) → BeginsWithNone (91 ∷ after)
no_number after digits rest is lacks none = only_group after (λ i left small e.
    none i small (closed 93 digits (decimal i) rest left (all_lacking 93 digits lacks) (number_lacks 93 i (inr (omega arith)) small) (sym (rejoin 93 after digits rest is) ∙ e)).0)

only_inside : (after : List ℕ) → ((k : ℕ) (rest : List ℕ) → k < 2 ^ 32 → after ≢ (decimal k ++ 41 ∷ []) ++ rest)
    → ((i : ℕ) (text rest : List ℕ) → IsSound (Item i text) → after ≢ (((decimal i ++ 58 ∷ []) ++ text) ++ 41 ∷ []) ++ rest) → BeginsWithNone (40 ∷ after)
only_inside after attempt item (Attempt k) rest sound ends e = attempt k rest sound (cc)
only_inside after attempt item (Item i text) rest sound ends e = item i text rest sound (cc)
only_inside after attempt item seg rest sound ends e = absurd (let first = ap first_byte e in omega arith)

-- a parenthesis that is not closed
pub no_parenthesis : (after : List ℕ) → LacksByte 41 after → BeginsWithNone (40 ∷ after)
no_parenthesis after lacks =
    only_inside after (λ k rest small e. lacks_mark 41 after (decimal k) rest lacks e) (λ i text rest sound e. lacks_mark 41 after ((decimal i ++ 58 ∷ []) ++ text) rest lacks e)

-- parentheses in which neither an attempt nor an item stands
no_inside : (after inside rest : List ℕ) → after ≡ inside ++ (41 ∷ rest) → LacksByte 41 inside → ((k : ℕ) → k < 2 ^ 32 → inside ≢ decimal k)
    → ((i : ℕ) (text : List ℕ) → IsSound (Item i text) → inside ≢ (decimal i ++ 58 ∷ []) ++ text) → BeginsWithNone (40 ∷ after)
no_inside after inside rest is lacks attempt item =
    only_inside after
    (λ k left small e. attempt k small (closed 41 inside (decimal k) rest left (all_lacking 41 inside lacks) (number_lacks 41 k (inl (omega arith)) small) (sym (rejoin 41 after inside rest is) ∙ e)).0)
    (λ i text left sound e. item i text sound (closed 41 inside ((decimal i ++ 58 ∷ []) ++ text) rest left (all_lacking 41 inside lacks) (item_lacks i text sound) (sym (rejoin 41 after inside rest is) ∙ e)).0)

-- no colon, and no number
pub no_attempt : (after inside rest : List ℕ) → after ≡ inside ++ (41 ∷ rest) → LacksByte 41 inside → LacksByte 58 inside → ((n : ℕ) → n < 2 ^ 32 → inside ≢ decimal n) → BeginsWithNone (40 ∷ after)
no_attempt after inside rest is lacks no_colon none =
    no_inside after inside rest is lacks none (λ i text sound e. lacks_mark 58 inside (decimal i) text no_colon e)

-- a colon, and no item
no_item : (after inside rest digits text : List ℕ) → after ≡ inside ++ (41 ∷ rest) → LacksByte 41 inside → inside ≡ digits ++ (58 ∷ text) → LacksByte 58 digits
    → ((i : ℕ) (other : List ℕ) → IsSound (Item i other) → digits ≡ decimal i → text ≡ other → ⊥) → BeginsWithNone (40 ∷ after)
no_item after inside rest digits text is lacks split no_colon none =
    no_inside after inside rest is lacks
    (λ k small e. item_no_attempt k small e)
    (λ i other sound e.
    let h = closed 58 digits (decimal i) text other (all_lacking 58 digits no_colon) (number_lacks 58 i (inr (omega arith)) sound.0) (sym (rejoin 58 inside digits text split) ∙ e) in
    none i other sound h.0 h.1)
  where
    item_no_attempt : (k : ℕ) → k < 2 ^ 32 → inside ≡ decimal k → ⊥
    item_no_attempt k small e =
        let h = runs_agree (is_not 58) digits (decimal k) (58 ∷ text) [] (all_lacking 58 digits no_colon) (number_lacks 58 k (inr (omega arith)) small) refl tt (sym split ∙ e ∙ sym (append-nil (decimal k))) in
        let tails : 58 ∷ text ≡ [] = h.1 in absurd (cc)

-- an item's number that is none
pub no_item_number : (after inside rest digits text : List ℕ) → after ≡ inside ++ (41 ∷ rest) → LacksByte 41 inside → inside ≡ digits ++ (58 ∷ text) → LacksByte 58 digits
    → ((n : ℕ) → n < 2 ^ 32 → digits ≢ decimal n) → BeginsWithNone (40 ∷ after)
no_item_number after inside rest digits text is lacks split no_colon none =
    no_item after inside rest digits text is lacks split no_colon (λ i other sound number same. none i sound.0 number)

passes_at : (p : ℕ → Bool) (bs : List ℕ) (k : ℕ) → list_all p bs ≡ true → k < length bs → p (get_or bs k 0) ≡ true
passes_at p [] k all small = absurd (omega arith)
passes_at p (b ∷ bs) zero all small = all_first p b bs all
passes_at p (b ∷ bs) (suc k) all small = passes_at p bs k (all_rest p b bs all) (omega arith)

-- an item's text with a parenthesis
pub no_item_text : (after inside rest digits text : List ℕ) (k : ℕ) → after ≡ inside ++ (41 ∷ rest) → LacksByte 41 inside → inside ≡ digits ++ (58 ∷ text) → LacksByte 58 digits
    → k < length text → get_or text k 0 ≡ 40 → BeginsWithNone (40 ∷ after)
no_item_text after inside rest digits text k is lacks split no_colon small opens =
    no_item after inside rest digits text is lacks split no_colon (λ i other sound number same.
    let passes = passes_at is_no_parenthesis text k (ap (list_all is_no_parenthesis) same ∙ sound.1) small in
    absurd (let h : is_no_parenthesis (get_or text k 0) ≡ false = ap is_no_parenthesis opens in cc))

lacks_later : (c b : ℕ) (front text : List ℕ) → LacksByte c (front ++ (b ∷ text)) → LacksByte c text
lacks_later c b [] text lacks = lacks_rest c b text lacks
lacks_later c b (x ∷ front) text lacks = lacks_later c b front text (lacks_rest c x (front ++ (b ∷ text)) lacks)

no_parenthesis_byte : (b : ℕ) → b ≢ 40 → b ≢ 41 → is_no_parenthesis b ≡ true
no_parenthesis_byte b opens closes = grind (arith, nat_tests)

no_parentheses : (text : List ℕ) → LacksByte 40 text → LacksByte 41 text → list_all is_no_parenthesis text ≡ true
no_parentheses [] opens closes = refl
no_parentheses (b ∷ bs) opens closes =
    all_more is_no_parenthesis b bs (no_parenthesis_byte b (opens 0 (omega arith)) (closes 0 (omega arith))) (no_parentheses bs (lacks_rest 40 b bs opens) (lacks_rest 41 b bs closes))

-- an item
pub begins_item : (after inside rest digits text : List ℕ) (n : ℕ) → after ≡ inside ++ (41 ∷ rest) → LacksByte 41 inside → inside ≡ digits ++ (58 ∷ text) → n < 2 ^ 32 → digits ≡ decimal n → LacksByte 40 text → BeginsWith (Item n text) (40 ∷ after) rest
begins_item after inside rest digits text n is lacks split small number opens =
    record {
      sound = (small, no_parentheses text opens (lacks_later 41 58 digits text (subst (LacksByte 41) split lacks)));
      is = ap (λ t. 40 ∷ t) (rejoin 41 after inside rest is ∙ ap (λ t. (t ++ 41 ∷ []) ++ rest) (rejoin 58 inside digits text split ∙ ap (λ t. (t ++ 58 ∷ []) ++ text) number));
      ends = tt;
    }

-- an attempt
pub begins_attempt : (after inside rest : List ℕ) (n : ℕ) → after ≡ inside ++ (41 ∷ rest) → n < 2 ^ 32 → inside ≡ decimal n → BeginsWith (Attempt n) (40 ∷ after) rest
begins_attempt after inside rest n is small number =
    record { sound = small; is = ap (λ t. 40 ∷ t) (rejoin 41 after inside rest is ∙ ap (λ t. (t ++ 41 ∷ []) ++ rest) number); ends = tt }

-- an attempt, or neither
pub attempt_found : (after inside : List ℕ) (rest : Bor (List ℕ)) (found : Option (Seg × Bor (List ℕ))) → after ≡ inside ++ (41 ∷ rest.now) → LacksByte 41 inside → LacksByte 58 inside
    → MatchOption found ((n : ℕ) → n < 2 ^ 32 → inside ≢ decimal n) (λ x. (n : ℕ) × (n < 2 ^ 32) × (x.0 ≡ Attempt n) × (inside ≡ decimal n) × (x.1.now ≡ rest.now))
    → MatchOption found (BeginsWithNone (40 ∷ after)) (λ x. BeginsWith x.0 (40 ∷ after) x.1.now)
attempt_found after inside rest None is lacks no_colon none = no_attempt after inside rest.now is lacks no_colon none
attempt_found after inside rest (Some x) is lacks no_colon (n, small, seg, number, left) =
    subst (λ (s : Seg). BeginsWith s (40 ∷ after) x.1.now) (sym seg) (subst (λ (t : List ℕ). BeginsWith (Attempt n) (40 ∷ after) t) (sym left) (begins_attempt after inside rest.now n is small number))
