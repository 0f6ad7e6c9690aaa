-- What an item says in the name of its node.
use Rattle.std.proofs.Common.{◌≡◌, ◌≢◌, ℕ, suc, ◌<◌, Bool, true, false, ◌||◌, cond, List, [], ◌∷◌, ◌++◌, length, get_or, Some, arith, refl, sym, ap, ◌∙◌, codes, append_assoc, append-nil}
use Rattle.std.specs.Prelude.{◌==◌, filter, not}
use Rattle.std.specs.List.{join_with_byte}
use Rattle.std.proofs.lemmas.Bool.{ne_eqb}
use Rattle.std.proofs.lemmas.List.Elements.{filter-append}
use Rattle.serde_json.specs.Data.{Data, null, boolean, number, string, array, object, Members, no_members, member}
use Rattle.serde_json.specs.Find.{as_object}
use Rattle.fanout.specs.Items.{is_whole, members_are_whole}
use Rattle.fanout.specs.ItemTexts.{item_text, pair_texts, without_parentheses}
use Rattle.fanout.specs.Inside.Shapes.{and_pair}

-- ---- a map's members

pub whole_members : (d : Data) (ms : Members) → as_object d ≡ Some ms → is_whole d ≡ true → members_are_whole ms ≡ true
whole_members null ms e w = cc
whole_members (boolean b) ms e w = cc
whole_members (number n) ms e w = cc
whole_members (string s) ms e w = cc
whole_members (array ds) ms e w = cc
whole_members (object os) ms e w = let same : os ≡ ms = cc in ap members_are_whole (sym same) ∙ w

-- ---- pairs

abbrev pub pair : List ℕ → Data → List ℕ
pair k d = k ++ codes ":" ++ item_text d

-- a text and the pairs that follow it
abbrev pub with_pairs : List ℕ → Members → List ℕ
with_pairs t no_members = t
with_pairs t (member k d ms) = with_pairs (and_pair t (pair k d)) ms

-- the pairs that follow one
abbrev commas : Members → List ℕ
commas no_members = []
commas (member k d ms) = 44 ∷ (pair k d ++ commas ms)

join-commas : (p : List ℕ) (ms : Members) → join_with_byte 44 (p ∷ pair_texts ms) ≡ p ++ commas ms
join-commas p no_members = sym (append-nil p)
join-commas p (member k d ms) = ap (λ t. p ++ 44 ∷ t) (join-commas (pair k d) ms)

with_pairs-commas : (b : ℕ) (t : List ℕ) (ms : Members) → with_pairs (b ∷ t) ms ≡ (b ∷ t) ++ commas ms
with_pairs-commas b t no_members = sym (append-nil (b ∷ t))
with_pairs-commas b t (member k d ms) =
    with_pairs-commas b ((t ++ codes ",") ++ pair k d) ms
    ∙ append_assoc ((b ∷ t) ++ codes ",") (pair k d) (commas ms)
    ∙ append_assoc (b ∷ t) (codes ",") (pair k d ++ commas ms)

with_pairs-first : (k : List ℕ) (d : Data) (ms : Members) → with_pairs (pair k d) ms ≡ pair k d ++ commas ms
with_pairs-first [] d ms = with_pairs-commas 58 (item_text d) ms
with_pairs-first (b ∷ k) d ms = with_pairs-commas b ((k ++ codes ":") ++ item_text d) ms

-- the pairs, one after the other
pub with_pairs-all : (ms : Members) → with_pairs [] ms ≡ join_with_byte 44 (pair_texts ms)
with_pairs-all no_members = refl
with_pairs-all (member k d ms) = with_pairs-first k d ms ∙ sym (join-commas (pair k d) ms)

-- ---- parentheses

abbrev pub Lacks : ℕ → List ℕ → Type 0
Lacks c t = (i : ℕ) → i < length t → get_or t i 0 ≢ c

lacks_first : (c b : ℕ) (t : List ℕ) → Lacks c (b ∷ t) → (b == c) ≡ false
lacks_first c b t none = ne_eqb b c (none 0 (omega arith))

lacks_later : (c b : ℕ) (t : List ℕ) → Lacks c (b ∷ t) → Lacks c t
lacks_later c b t none i h = none (suc i) (omega arith)

abbrev pub without_closing : List ℕ → List ℕ
without_closing t = filter (λ b. not (b == 41)) t

kept : (b : ℕ) (t u : List ℕ) → (b == 41) ≡ false → t ≡ u → cond (not (b == 41)) (b ∷ t) t ≡ b ∷ u
kept b t u e same = rw e (ap (λ z. b ∷ z) same)

pub without_closing-plain : (t : List ℕ) → Lacks 41 t → without_closing t ≡ t
without_closing-plain [] none = refl
without_closing-plain (b ∷ t) none = kept b (without_closing t) t (lacks_first 41 b t none) (without_closing-plain t (lacks_later 41 b t none))

either : (a c : Bool) (b : ℕ) (t u : List ℕ) → a ≡ false → t ≡ u → cond (not (a || c)) (b ∷ t) t ≡ cond (not c) (b ∷ u) u
either a c b t u e same = rw (e, same) refl

pub without_parentheses-plain : (t : List ℕ) → Lacks 40 t → without_parentheses t ≡ without_closing t
without_parentheses-plain [] none = refl
without_parentheses-plain (b ∷ t) none =
    either (b == 40) (b == 41) b (without_parentheses t) (without_closing t) (lacks_first 40 b t none) (without_parentheses-plain t (lacks_later 40 b t none))

-- a text that is cut at a closing parenthesis
pub closing_cut : (before front behind rest whole : List ℕ) → whole ≡ before ++ without_closing rest → rest ≡ front ++ 41 ∷ behind → Lacks 41 front →
    whole ≡ (before ++ front) ++ without_closing behind
closing_cut before front behind rest whole is cut none =
    is ∙ ap (λ t. before ++ without_closing t) cut
    ∙ ap (λ t. before ++ t) (filter-append (λ b. not (b == 41)) front (41 ∷ behind) ∙ ap (λ t. t ++ without_closing behind) (without_closing-plain front none))
    ∙ sym (append_assoc before front (without_closing behind))

pub closing_end : (before rest whole : List ℕ) → whole ≡ before ++ without_closing rest → Lacks 41 rest → whole ≡ before ++ rest
closing_end before rest whole is none = is ∙ ap (λ t. before ++ t) (without_closing-plain rest none)

-- a text that is cut at an opening parenthesis
pub opening_cut : (before front behind rest whole : List ℕ) → whole ≡ before ++ without_parentheses rest → rest ≡ front ++ 40 ∷ behind → Lacks 40 front →
    whole ≡ (before ++ without_closing front) ++ without_parentheses behind
opening_cut before front behind rest whole is cut none =
    is ∙ ap (λ t. before ++ without_parentheses t) cut
    ∙ ap (λ t. before ++ t) (filter-append (λ b. not ((b == 40) || (b == 41))) front (40 ∷ behind) ∙ ap (λ t. t ++ without_parentheses behind) (without_parentheses-plain front none))
    ∙ sym (append_assoc before (without_closing front) (without_parentheses behind))

pub opening_end : (before rest whole : List ℕ) → whole ≡ before ++ without_parentheses rest → Lacks 40 rest → whole ≡ before ++ without_closing rest
opening_end before rest whole is none = is ∙ ap (λ t. before ++ t) (without_parentheses-plain rest none)
