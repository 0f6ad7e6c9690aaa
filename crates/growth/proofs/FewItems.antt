-- A loop has no more items than the most.
use Rattle.std.proofs.Common.{◌≡◌, refl, ap, subst, ◌≤◌, arith, length}
use Rattle.std.proofs.lemmas.Bool.{leb-true}
use Rattle.std.proofs.lemmas.List.{length-map}
use Rattle.std.specs.Prelude.{ℕ, zero, suc, ℤ, List, Bool, true, false, cond, Option, Some, None, Ok, Err, nat_le}
use Rattle.std.specs.List.{list_all}
use Rattle.serde_json.specs.Data.{Data, null, boolean, number, string, array, object}
use Rattle.serde_json.specs.Read.{read}
use Rattle.base_types.specs.Limits.{most_items}
use Rattle.tree_types.specs.declared.node.Note.TheVariants as note
use Rattle.wf_manifest.specs.declared.calls.Loop.{Loop}
use Rattle.wf_manifest.specs.declared.calls.Loop.TheVariants as each
use Rattle.scopes.specs.Substitution.{Found, ◌>>=◌, Scope, said, said_option}
use Rattle.fanout.specs.Sequences.{Format, Row, row_said, numbers_from, numbers, few_enough, format_or, written, sequence_texts}
use Rattle.fanout.specs.Items.{said_in, is_whole, list_of, few_items, items_of_data, items_of_read, number_items, sequence_items, items}

module _ {X Y : Type 0} where
  -- what two steps find the second finds
  found_by : (f : Found X) (g : X → Found Y) (y : Y) → (f >>= g) ≡ Ok y → (x : X) × (f ≡ Ok x) × (g x ≡ Ok y)
  found_by (Ok x) g y e = (x, refl, e)
  found_by (Err fault) g y e = absurd (cc e)

abbrev AreFew : List Data → Type 0
AreFew ds = length ds ≤ most_items

few_by : (b : Bool) (ds es : List Data) → nat_le (length ds) most_items ≡ b → cond b (Ok ds) (Err note.TooManyItems) ≡ Ok es → AreFew es
few_by true ds es e f = let same : ds ≡ es = cc f in subst AreFew same (leb-true (length ds) most_items e)
few_by false ds es e f = absurd (cc f)

checked_by : (b : Bool) (ds es : List Data) → cond b (few_items ds) (Err note.BadItem) ≡ Ok es → AreFew es
checked_by true ds es f = few_by (nat_le (length ds) most_items) ds es refl f
checked_by false ds es f = absurd (cc f)

data_few : (d : Data) (es : List Data) → items_of_data d ≡ Ok es → AreFew es
data_few (array ds) es f = checked_by (list_all is_whole (list_of ds)) (list_of ds) es f
data_few null es f = absurd (cc f)
data_few (boolean b) es f = absurd (cc f)
data_few (number n) es f = absurd (cc f)
data_few (string t) es f = absurd (cc f)
data_few (object ms) es f = absurd (cc f)

read_few : (o : Option Data) (es : List Data) → items_of_read o ≡ Ok es → AreFew es
read_few None es f = absurd (cc f)
read_few (Some d) es f = data_few d es f

-- ---- sequences

numbers_length : (n : ℕ) (step z : ℤ) → length (numbers_from n step z) ≡ n
numbers_length zero step z = refl
numbers_length (suc n) step z = ap suc (numbers_length n step _)

enough_by : (b : Bool) (r few : Row) → nat_le r.count most_items ≡ b → cond b (Ok r) (Err note.TooManyItems) ≡ Ok few → few.count ≤ most_items
enough_by true r few e f = let same : r ≡ few = cc f in subst (λ (x : Row). x.count ≤ most_items) same (leb-true r.count most_items e)
enough_by false r few e f = absurd (cc f)

-- the numbers of a sequence, where it has any
row_few : (r : Row) (shape : Format) (row : Format × List ℤ) → (few_enough r >>= λ few. Ok (shape, numbers few)) ≡ Ok row → length row.1 ≤ most_items
row_few r shape row f =
    let x = found_by (few_enough r) (λ few. Ok (shape, numbers few)) row f in
    let few : x.0.count ≤ most_items = enough_by (nat_le r.count most_items) r x.0 refl x.1 in
    let same : ◌≡◌ {A = Format × List ℤ} (shape, numbers x.0) row = cc x.2 in
    let long : length (numbers x.0) ≡ x.0.count = numbers_length x.0.count x.0.step x.0.first in
    subst (λ (y : Format × List ℤ). length y.1 ≤ most_items) same (omega arith)

texts_few : (count start end format : Option (List ℕ)) (row : Format × List ℤ) → sequence_texts count start end format ≡ Ok row → length row.1 ≤ most_items
texts_few count start end format row f =
    let x = found_by (row_said count start end) (λ r. format_or format >>= λ shape. few_enough r >>= λ few. Ok (shape, numbers few)) row f in
    let y = found_by (format_or format) (λ shape. few_enough x.0 >>= λ few. Ok (shape, numbers few)) row x.2 in
    row_few x.0 y.0 row y.2

sequence_few : (count start end format : Option (List ℕ)) (es : List Data) → sequence_items count start end format ≡ Ok es → AreFew es
sequence_few count start end format es f =
    let x = found_by (sequence_texts count start end format) (λ row. Ok (number_items row)) es f in
    let same : number_items x.0 ≡ es = cc x.2 in
    let few : length x.0.1 ≤ most_items = texts_few count start end format x.0 x.1 in
    let long : length (number_items x.0) ≡ length x.0.1 = length-map {B = Data} x.0.1 (λ z. string (written x.0.0 z)) in
    subst AreFew same (omega arith)

pub items_few : (scope : Scope) (l : Loop) (es : List Data) → items scope l ≡ Ok es → AreFew es
items_few scope (each.Items d) es f = let x = found_by (said_in scope d) items_of_data es f in data_few x.0 es x.2
items_few scope (each.Param t) es f = let x = found_by (said scope t) (λ v. items_of_read (read v)) es f in read_few (read x.0) es x.2
items_few scope (each.Sequence count start end format) es f =
    let a = found_by (said_option scope count) (λ c. said_option scope start >>= λ s. said_option scope end >>= λ e. said_option scope format >>= λ f. sequence_items c s e f) es f in
    let b = found_by (said_option scope start) (λ s. said_option scope end >>= λ e. said_option scope format >>= λ f. sequence_items a.0 s e f) es a.2 in
    let c = found_by (said_option scope end) (λ e. said_option scope format >>= λ f. sequence_items a.0 b.0 e f) es b.2 in
    let d = found_by (said_option scope format) (λ f. sequence_items a.0 b.0 c.0 f) es c.2 in
    sequence_few a.0 b.0 c.0 d.0 es d.2
