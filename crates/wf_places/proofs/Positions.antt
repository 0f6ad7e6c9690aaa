-- Positions of names, and tags in texts.
use Rattle.std.proofs.Common.{◌≡◌, ℕ, zero, suc, ◌+◌, ◌-◌, ◌<◌, ◌≤◌, Bool, true, false, cond, ◌&&◌, ◌||◌, List, [], ◌∷◌, ◌++◌, length, get_or, drop, take, drop-cons, map, Option, Some, None, Result, Ok, Err, refl, sym, ap, ◌∙◌, add-one, append_assoc, nat_eq, arith, subst}
use Rattle.std.specs.Prelude.{bytes_eq, codes, slice_get, option_map, OnOk, if◌then◌else◌, ◌==◌, nat_lt}
use Rattle.std.specs.List.{find, list_all, starts_with}
use Rattle.std.specs.Option.{unwrap_or}
use Rattle.std.specs.Cmp.Lexicographic.{pointwise, nat_list_eq_equiv}
use Rattle.std.specs.HashMap.{get}
use Rattle.std.proofs.lemmas.Grind.{common_steps}
use Rattle.std.proofs.lemmas.List.{length-map}
use Rattle.std.proofs.lemmas.Bool.{ltb_from_iff, ltb-true, lt-ltb, le-ltb}
use Rattle.std.proofs.lemmas.Option.{slice_get-map}
use Rattle.base_types.specs.Names.{is_among}
use Rattle.tag_text.specs.declared.part.Part.{Part}
use Rattle.tag_text.specs.declared.part.Part.TheVariants.{Plain, Tag}
use Rattle.wf_manifest.specs.declared.calls.Call.{Call}
use Rattle.wf_manifest.specs.declared.templates.Template.{Template}
use Rattle.wf_manifest.specs.Valid.{template_names}
use Rattle.wf_places.specs.declared.place.Place.{Place}
use Rattle.wf_places.specs.Broken.{has_tag}
use Rattle.wf_places.specs.Tags.{Around, call_names, named_template, has_output, text_places}
use Rattle.wf_places.specs.Inside.Pieces.{piece_places}
use Rattle.wf_places.specs.Inside.Tables.{first_of, Positions, position_in, IsTable, output_names}

-- ---- tags

cons_not : (t : List ℕ) (test : Bool) → test ≡ false → (if test then true else has_tag t) ≡ has_tag t
cons_not t test e = rw e refl

pub all_left : (text : List ℕ) (i : ℕ) → take (length text - i) (drop i text) ≡ drop i text
all_left text i = grind (arith, common_steps)

pub tag_later : (text : List ℕ) (i d : ℕ) → i < length text → starts_with nat_eq (drop i text) (codes "{{") ≡ false → has_tag (drop (i + 1) text) ≡ has_tag (drop i text)
tag_later text i d lt e =
    let split = drop-cons text i d lt in
    rw add-one (sym (ap has_tag split ∙ cons_not (drop (suc i) text) (starts_with nat_eq (get_or text i d ∷ drop (suc i) text) (codes "{{")) (sym (ap (λ t. starts_with nat_eq t (codes "{{")) split) ∙ e)))

-- ---- positions

next_lt : (a b : ℕ) → nat_lt (suc a) (suc b) ≡ nat_lt a b
next_lt a b = ltb_from_iff ((λ h. let l = ltb-true (suc a) (suc b) h in omega (arith, l)), (λ l. lt-ltb (suc a) (suc b) (omega (arith, l))))

and_none : (b : Bool) → (b && false) ≡ false
and_none true = refl
and_none false = refl

-- a name is among the first so many where the first of this name is
pub before_first : (k : ℕ) (names : List (List ℕ)) (name : List ℕ) → (nat_lt (first_of name names) k && nat_lt (first_of name names) (length names)) ≡ is_among (take k names) name
before_first zero names name =
    ap (λ b. b && nat_lt (first_of name names) (length names)) (le-ltb (first_of name names) 0 (omega arith))
before_first (suc k) [] name = and_none (nat_lt 0 (suc k))
before_first (suc k) (n ∷ ns) name = either (bytes_eq name n) (before_first k ns name)
  where
    either : (is : Bool) → (nat_lt (first_of name ns) k && nat_lt (first_of name ns) (length ns)) ≡ is_among (take k ns) name → (nat_lt (if is then 0 else suc (first_of name ns)) (suc k) && nat_lt (if is then 0 else suc (first_of name ns)) (suc (length ns))) ≡ (is || is_among (take k ns) name)
    either true rest =
        ap (λ b. b && nat_lt 0 (suc (length ns))) (lt-ltb 0 (suc k) (omega arith)) ∙ lt-ltb 0 (suc (length ns)) (omega arith)
    either false rest =
        ap (λ b. b && nat_lt (suc (first_of name ns)) (suc (length ns))) (next_lt (first_of name ns) k)
        ∙ ap (λ b. nat_lt (first_of name ns) k && b) (next_lt (first_of name ns) (length ns))
        ∙ rest

-- a name is among all of them where there is a first of it
pub has_first : (names : List (List ℕ)) (name : List ℕ) → nat_lt (first_of name names) (length names) ≡ is_among names name
has_first [] name = refl
has_first (n ∷ ns) name = either (bytes_eq name n) (has_first ns name)
  where
    either : (is : Bool) → nat_lt (first_of name ns) (length ns) ≡ is_among ns name → nat_lt (if is then 0 else suc (first_of name ns)) (suc (length ns)) ≡ (is || is_among ns name)
    either true rest = lt-ltb 0 (suc (length ns)) (omega arith)
    either false rest = next_lt (first_of name ns) (length ns) ∙ rest

-- what is found by its name stands at the position of the name
pub found_first : {A : Type 0} (f : A → List ℕ) (xs : List A) (name : List ℕ) → find (λ x. bytes_eq (f x) name) xs ≡ slice_get xs (first_of name (map f xs))
found_first f [] name = refl
found_first f (x ∷ xs) name =
    ap (λ b. cond b (Some x) (find (λ x. bytes_eq (f x) name) xs)) (nat_list_eq_equiv.symm (f x) name) ∙ either (bytes_eq name (f x)) (found_first f xs name)
  where
    either : (is : Bool) → find (λ x. bytes_eq (f x) name) xs ≡ slice_get xs (first_of name (map f xs)) → cond is (Some x) (find (λ x. bytes_eq (f x) name) xs) ≡ slice_get (x ∷ xs) (if is then 0 else suc (first_of name (map f xs)))
    either true rest = refl
    either false rest = rest

-- ---- tables

chosen : (is : Bool) (o : Option ℕ) (len j place : ℕ) → unwrap_or o len ≡ suc j + place → unwrap_or (cond is (Some j) o) len ≡ j + (if is then 0 else suc place)
chosen true o len j place e = omega arith
chosen false o len j place e = e ∙ omega arith

-- the name at this position is found before those behind it
pub table_more : (old new : Positions) (names : List (List ℕ)) (i j : ℕ) (n name : List ℕ) → suc j ≡ i → drop j names ≡ n ∷ drop (suc j) names → name ≡ n → ((q : List ℕ) → get (pointwise ◌==◌) new q ≡ cond (pointwise ◌==◌ name q) (Some j) (get (pointwise ◌==◌) old q)) → IsTable old names i → IsTable new names j
table_more old new names i j n name next split is updates table q =
    let rest : position_in old names q ≡ suc j + first_of q (drop (suc j) names) = subst (λ (k : ℕ). position_in old names q ≡ k + first_of q (drop k names)) (sym next) (table q) in
    ap (λ o. unwrap_or o (length names)) (updates q)
    ∙ ap (λ (m : List ℕ). unwrap_or (cond (pointwise ◌==◌ m q) (Some j) (get (pointwise ◌==◌) old q)) (length names)) is
    ∙ ap (λ b. unwrap_or (cond b (Some j) (get (pointwise ◌==◌) old q)) (length names)) (nat_list_eq_equiv.symm n q)
    ∙ chosen (bytes_eq q n) (get (pointwise ◌==◌) old q) (length names) j (first_of q (drop (suc j) names)) rest
    ∙ ap (λ ns. j + first_of q ns) (sym split)

map_drop : {A B : Type 0} (f : A → B) (j : ℕ) (xs : List A) → drop j (map f xs) ≡ map f (drop j xs)
map_drop f zero xs = refl
map_drop f (suc j) [] = refl
map_drop f (suc j) (x ∷ xs) = map_drop f j xs

-- the same, where the names are lent
pub table_step : {A : Type 0} (f : A → List ℕ) (old new : Positions) (xs : List A) (i : ℕ) (x : A) (name : List ℕ) → 0 < i → i ≤ length xs → x ≡ get_or xs (i - 1) x → name ≡ f x → ((q : List ℕ) → get (pointwise ◌==◌) new q ≡ cond (pointwise ◌==◌ name q) (Some (i - 1)) (get (pointwise ◌==◌) old q)) → IsTable old (map f xs) i → IsTable new (map f xs) (i - 1)
table_step f old new xs i x name low high at is updates table =
    let next : suc (i - 1) ≡ i = omega (arith, low) in
    let below : (i - 1) < length xs = omega (arith, low, high) in
    let split : drop (i - 1) (map f xs) ≡ f x ∷ drop (suc (i - 1)) (map f xs) = map_drop f (i - 1) xs ∙ ap (map f) (drop-cons xs (i - 1) x below ∙ ap (λ y. y ∷ drop (suc (i - 1)) xs) (sym at)) ∙ ap (λ ys. f x ∷ ys) (sym (map_drop f (suc (i - 1)) xs)) in
    table_more old new (map f xs) i (i - 1) (f x) name next split is updates table

-- ---- what is asked of a table whose names are lent

pub has_told : {A : Type 0} (f : A → List ℕ) (xs : List A) (names : List (List ℕ)) (name : List ℕ) (p n : ℕ) → map f xs ≡ names → p ≡ first_of name names → n ≡ length xs → nat_lt p n ≡ is_among names name
has_told f xs names name p n are is all =
    ap (λ (k : ℕ). nat_lt k n) is
    ∙ ap (λ (k : ℕ). nat_lt (first_of name names) k) (all ∙ sym (length-map xs f) ∙ ap length are)
    ∙ has_first names name

pub before_told : {A : Type 0} (f : A → List ℕ) (xs : List A) (names : List (List ℕ)) (name : List ℕ) (count p n : ℕ) (answer : Bool) → map f xs ≡ names → p ≡ first_of name names → n ≡ length xs → answer ≡ (nat_lt p count && nat_lt p n) → answer ≡ is_among (take count names) name
before_told f xs names name count p n answer are is all told =
    told
    ∙ ap (λ (k : ℕ). nat_lt k count && nat_lt k n) is
    ∙ ap (λ (k : ℕ). nat_lt (first_of name names) count && nat_lt (first_of name names) k) (all ∙ sym (length-map xs f) ∙ ap length are)
    ∙ before_first count names name

-- ---- calls and templates by their names

pub call_told : {A : Type 0} (f : A → Call) (xs : List A) (cs : List Call) (names : List (List ℕ)) (name : List ℕ) (p : ℕ) (o : Option A) → map f xs ≡ cs → names ≡ call_names (map f xs) → p ≡ first_of name names → o ≡ slice_get xs p → option_map f o ≡ find (λ c. bytes_eq c.name name) cs
call_told f xs cs names name p o are is at there =
    ap (option_map f) (there ∙ ap (slice_get xs) (at ∙ ap (first_of name) is))
    ∙ sym (slice_get-map f xs (first_of name (call_names (map f xs))))
    ∙ sym (found_first (λ (c : Call). c.name) (map f xs) name)
    ∙ ap (find (λ c. bytes_eq c.name name)) are

pub template_told : (all ts : List Template) (names : List (List ℕ)) (name : List ℕ) (p : ℕ) (o : Option Template) → all ≡ ts → names ≡ template_names all → p ≡ first_of name names → o ≡ slice_get all p → o ≡ named_template ts name
template_told all ts names name p o are is at there =
    there
    ∙ ap (slice_get all) (at ∙ ap (first_of name) is)
    ∙ sym (found_first (λ (t : Template). t.name) all name)
    ∙ ap (λ (us : List Template). named_template us name) are

output_in : (found : Option Template) (outputs : List (List ℕ)) (output : List ℕ) (answer : Bool) → Some outputs ≡ option_map output_names found → answer ≡ is_among outputs output → answer ≡ has_output found output
output_in None outputs output answer e told = absurd cc
output_in (Some t) outputs output answer e told =
    let same : outputs ≡ output_names t = cc in
    told ∙ ap (λ (os : List (List ℕ)). is_among os output) same

no_output : (found : Option Template) (output : List ℕ) → None ≡ option_map output_names found → false ≡ has_output found output
no_output None output e = refl
no_output (Some t) output e = absurd cc

outputs_at : (all ts : List Template) (names : List (List ℕ)) (outs : List (List (List ℕ))) (name : List ℕ) (p : ℕ) (o : Option (List (List ℕ))) → all ≡ ts → names ≡ template_names all → outs ≡ map output_names all → p ≡ first_of name names → o ≡ slice_get outs p → o ≡ option_map output_names (named_template ts name)
outputs_at all ts names outs name p o are is given at there =
    there
    ∙ ap (λ (us : List (List (List ℕ))). slice_get us p) given
    ∙ slice_get-map output_names all p
    ∙ ap (option_map output_names) (template_told all ts names name p (slice_get all p) are is at refl)

pub output_told : (all ts : List Template) (names : List (List ℕ)) (outs : List (List (List ℕ))) (name output : List ℕ) (p : ℕ) (outputs : List (List ℕ)) (answer : Bool) → all ≡ ts → names ≡ template_names all → outs ≡ map output_names all → p ≡ first_of name names → Some outputs ≡ slice_get outs p → answer ≡ is_among outputs output → answer ≡ has_output (named_template ts name) output
output_told all ts names outs name output p outputs answer are is given at there told =
    output_in (named_template ts name) outputs output answer (outputs_at all ts names outs name p (Some outputs) are is given at there) told

pub no_output_told : (all ts : List Template) (names : List (List ℕ)) (outs : List (List (List ℕ))) (name output : List ℕ) (p : ℕ) → all ≡ ts → names ≡ template_names all → outs ≡ map output_names all → p ≡ first_of name names → None ≡ slice_get outs p → false ≡ has_output (named_template ts name) output
no_output_told all ts names outs name output p are is given at there =
    no_output (named_template ts name) output (outputs_at all ts names outs name p None are is given at there)

-- ---- texts

drop_at : {A : Type 0} (xs : List A) (i : ℕ) (x : A) → slice_get xs i ≡ Some x → drop i xs ≡ x ∷ drop (suc i) xs
drop_at [] i x e = absurd cc
drop_at (y ∷ ys) zero x e = let h : Some y ≡ Some x = e in let same : y ≡ x = cc in ap (λ z. z ∷ ys) same
drop_at (y ∷ ys) (suc i) x e = drop_at ys i x e

text_split : (a : Around) (path : List ℕ) (part : Part) (parts : List Part) → text_places a path (part ∷ parts) ≡ piece_places a path part ++ text_places a path parts
text_split a path (Plain t) parts = refl
text_split a path (Tag t) parts = refl

-- one turn of the loop over the parts of a text
pub text_more : (a : Around) (path : List ℕ) (parts : List Part) (i : ℕ) (part : Part) (front more whole : List Place) → slice_get parts i ≡ Some part → more ≡ front ++ piece_places a path part → front ++ text_places a path (drop i parts) ≡ whole → more ++ text_places a path (drop (i + 1) parts) ≡ whole
text_more a path parts i part front more whole at told rest =
    rw add-one (
    ap (λ ps. ps ++ text_places a path (drop (suc i) parts)) told
    ∙ append_assoc front (piece_places a path part) (text_places a path (drop (suc i) parts))
    ∙ ap (λ ps. front ++ ps) (sym (text_split a path part (drop (suc i) parts)))
    ∙ ap (λ ps. front ++ text_places a path ps) (sym (drop_at parts i part at))
    ∙ rest)

-- ---- names of tasks

turned : (r a q : Bool) → (r && (a && q)) ≡ ((q && r) && a)
turned true true true = refl
turned true true false = refl
turned true false true = refl
turned true false false = refl
turned false true true = refl
turned false true false = refl
turned false false true = refl
turned false false false = refl

-- one turn of the loop over names that should be known
pub known_more : (known ns : List (List ℕ)) (i : ℕ) (n : List ℕ) (so_far is more : Bool) → slice_get ns i ≡ Some n → is ≡ is_among known n → more ≡ (so_far && is) → (list_all (is_among known) (drop i ns) && so_far) ≡ list_all (is_among known) ns → (list_all (is_among known) (drop (i + 1) ns) && more) ≡ list_all (is_among known) ns
known_more known ns i n so_far is more at told both rest =
    rw add-one (
    ap (λ b. list_all (is_among known) (drop (suc i) ns) && b) (both ∙ ap (λ b. so_far && b) told)
    ∙ turned (list_all (is_among known) (drop (suc i) ns)) so_far (is_among known n)
    ∙ ap (λ ms. list_all (is_among known) ms && so_far) (sym (drop_at ns i n at))
    ∙ rest)

-- ---- places that are added one after the other

pub then_added : {A E : Type 0} (r : Result A E) (old mid new one two : List Place) → mid ≡ old ++ one → OnOk r (new ≡ mid ++ two) → OnOk r (new ≡ old ++ (one ++ two))
then_added (Ok x) old mid new one two e h = h ∙ ap (λ ps. ps ++ two) e ∙ append_assoc old one two
then_added (Err x) old mid new one two e h = tt

pub added : (old mid new one two : List Place) → mid ≡ old ++ one → new ≡ mid ++ two → new ≡ old ++ (one ++ two)
added old mid new one two e h = h ∙ ap (λ ps. ps ++ two) e ∙ append_assoc old one two
