-- Of a row of numbers from 0 on, the one at a place is the number of the place.
use Rattle.std.proofs.Common.{◌≡◌, ℕ, zero, suc, ◌<◌, ◌≤◌, ℤ, pos, negsuc, ◌+ℤ◌, List, [], ◌∷◌, Option, Some, None, Ok, refl, sym, ap, ◌∙◌, subst, arith, decimal}
use Rattle.std.specs.Prelude.{slice_get, nat_le}
use Rattle.std.proofs.lemmas.Int.{ints}
use Rattle.std.proofs.lemmas.Bool.{leb-true}
use Rattle.base_types.specs.Limits.{most_items}
use Rattle.tree_types.specs.declared.node.Note.TheVariants.{TooManyItems}
use Rattle.tag_text.specs.declared.part.Part.{Part}
use Rattle.tag_text.specs.Parts.{as_it_stands}
use Rattle.serde_json.specs.Data.{Data, string}
use Rattle.wf_manifest.specs.declared.calls.Loop.TheVariants as each
use Rattle.scopes.specs.Substitution.{◌>>=◌, Scope, said, said_option}
use Rattle.fanout.specs.Sequences.{Row, row_said, row_of_count, whole_of, whole_or, few_enough, Format, format_or, written, numbers, numbers_from, sequence_texts}
use Rattle.fanout.specs.Items.{items, sequence_items, number_items}
use Rattle.fanout.proofs.SaidIn.{said-as_it_stands}
use Rattle.loop_item.proofs.Digits.{whole_decimal}
use Rattle.loop_item.proofs.Found.{went_on, if_ok, same_ok, follows}

-- ---- the number at a place

number_at : (shape : Format) (n : ℕ) (first : ℤ) (i : ℕ) (x : Data) → slice_get (number_items (shape, numbers_from n (pos 1) first)) i ≡ Some x → (i < n) × (x ≡ string (written shape (first +ℤ pos i)))
number_at shape zero first i x at = absurd (cc)
number_at shape (suc n) first zero x at =
    let here : first +ℤ pos 0 ≡ first = omega (arith, ints) in
    let is : string (written shape first) ≡ x = cc in
    (omega arith, sym is ∙ ap (λ z. string (written shape z)) (sym here))
number_at shape (suc n) first (suc i) x at =
    let later = number_at shape n (first +ℤ pos 1) i x at in
    let there : (first +ℤ pos 1) +ℤ pos i ≡ first +ℤ pos (suc i) = omega (arith, ints) in
    (omega (arith, later.0), later.1 ∙ ap (λ z. string (written shape z)) there)

-- ---- the row

counted : (n : ℤ) (row : Row) → row_of_count (pos 0) n ≡ Ok row → (k : ℕ) × (row ≡ record { count = k; step = pos 1; first = pos 0 })
counted (pos n) row e = (n, sym (same_ok (record { count = n; step = pos 1; first = pos 0 }) row e))
counted (negsuc n) row e = absurd (cc)

-- numbers of a format: so many from 0 on
record FromZero (format : Option (List ℕ)) (all : List Data) : Type 0 where
  shape : Format
  many : ℕ
  few : many ≤ most_items
  said : format_or format ≡ Ok shape
  are : number_items (shape, numbers_from many (pos 1) (pos 0)) ≡ all

from_zero : (count : List ℕ) (end format : Option (List ℕ)) (all : List Data) → sequence_items (Some count) None end format ≡ Ok all → FromZero format all
from_zero count end format all meant =
    let texts = went_on (sequence_texts (Some count) None end format) (λ row. Ok (number_items row)) all meant in
    let row = went_on (row_said (Some count) None end) (λ row. format_or format >>= λ shape. few_enough row >>= λ few. Ok (shape, numbers few)) texts.0 texts.1 in
    let shape = went_on (format_or format) (λ shape. few_enough row.0 >>= λ few. Ok (shape, numbers few)) texts.0 row.2 in
    let few = went_on (few_enough row.0) (λ few. Ok (shape.0, numbers few)) texts.0 shape.2 in
    let enough = if_ok (nat_le row.0.count most_items) (Ok row.0) TooManyItems few.0 few.1 in
    let said_count = went_on (whole_of count) (λ n. row_of_count (pos 0) n) row.0 row.1 in
    let many = counted said_count.0 row.0 said_count.2 in
    let is : row.0.count ≡ many.0 = ap (λ (r : Row). r.count) many.1 in
    let at_most : row.0.count ≤ most_items = leb-true row.0.count most_items enough.0 in
    record {
      shape = shape.0;
      many = many.0;
      few = subst (λ n. n ≤ most_items) is at_most;
      said = shape.1;
      are =
          ap (λ (r : Row). number_items (shape.0, numbers r)) (sym many.1 ∙ same_ok row.0 few.0 enough.1)
          ∙ ap (λ (t : Format × List ℤ). number_items t) (same_ok (shape.0, numbers few.0) texts.0 few.2)
          ∙ same_ok (number_items texts.0) all texts.2;
    }

-- one number alone
one_row : (i : ℕ) → i ≤ 1000 → row_said (Some (decimal 1)) (Some (decimal i)) None ≡ Ok (record { count = 1; step = pos 1; first = pos i })
one_row i few =
    follows (whole_of (decimal 1)) (λ n. whole_or (pos 0) (Some (decimal i)) >>= λ first. row_of_count first n) (pos 1) (whole_decimal 1 (omega arith))
    ∙ follows (whole_of (decimal i)) (λ first. row_of_count first (pos 1)) (pos i) (whole_decimal i few)

one_text : (format : Option (List ℕ)) (shape : Format) (i : ℕ) → format_or format ≡ Ok shape → i ≤ 1000 → sequence_items (Some (decimal 1)) (Some (decimal i)) None format ≡ Ok (string (written shape (pos i)) ∷ [])
one_text format shape i said few =
    let row : Row = record { count = 1; step = pos 1; first = pos i } in
    let texts : sequence_texts (Some (decimal 1)) (Some (decimal i)) None format ≡ Ok (shape, pos i ∷ []) =
    follows (row_said (Some (decimal 1)) (Some (decimal i)) None) (λ row. format_or format >>= λ shape. few_enough row >>= λ few. Ok (shape, numbers few)) row (one_row i few)
    ∙ follows (format_or format) (λ shape. few_enough row >>= λ few. Ok (shape, numbers few)) shape said in
    follows (sequence_texts (Some (decimal 1)) (Some (decimal i)) None format) (λ row. Ok (number_items row)) (shape, pos i ∷ []) texts

one_of_texts : (count : List ℕ) (end format : Option (List ℕ)) (i : ℕ) (all : List Data) (x : Data) → sequence_items (Some count) None end format ≡ Ok all → slice_get all i ≡ Some x
    → sequence_items (Some (decimal 1)) (Some (decimal i)) None format ≡ Ok (x ∷ [])
one_of_texts count end format i all x meant at =
    let row = from_zero count end format all meant in
    let there = number_at row.shape row.many (pos 0) i x (ap (λ (ds : List Data). slice_get ds i) row.are ∙ at) in
    let number : pos 0 +ℤ pos i ≡ pos i = omega (arith, ints) in
    one_text format row.shape i row.said (omega (arith, there.0, row.few)) ∙ ap (λ (y : Data). Ok (y ∷ [])) (ap (λ z. string (written row.shape z)) (sym number) ∙ sym there.1)

-- ---- the loop

abbrev Parts : Type 0
Parts = Option (List Part)

abbrev Said : Type 0
Said = Option (List ℕ)

as_it_stands_said : (scope : Scope) (t : List ℕ) → said_option scope (Some (as_it_stands t)) ≡ Ok (Some t)
as_it_stands_said scope t = follows (said scope (as_it_stands t)) (λ v. Ok (Some v)) t (said-as_it_stands scope t)

-- a sequence whose texts are said
sequence_said : (scope : Scope) (count start end format : Parts) (c s e f : Said) → said_option scope count ≡ Ok c → said_option scope start ≡ Ok s → said_option scope end ≡ Ok e → said_option scope format ≡ Ok f
    → items scope (each.Sequence count start end format) ≡ sequence_items c s e f
sequence_said scope count start end format c s e f counts starts ends formats =
    follows (said_option scope count) (λ c. said_option scope start >>= λ s. said_option scope end >>= λ e. said_option scope format >>= λ f. sequence_items c s e f) c counts
    ∙ follows (said_option scope start) (λ s. said_option scope end >>= λ e. said_option scope format >>= λ f. sequence_items c s e f) s starts
    ∙ follows (said_option scope end) (λ e. said_option scope format >>= λ f. sequence_items c s e f) e ends
    ∙ follows (said_option scope format) (λ f. sequence_items c s e f) f formats

-- what the texts of a sequence of a count from 0 on say, where it has items
record Counted (scope : Scope) (count : List Part) (end format : Parts) (all : List Data) : Type 0 where
  count_said : List ℕ
  end_said : Said
  format_said : Said
  formats : said_option scope format ≡ Ok format_said
  makes : sequence_items (Some count_said) None end_said format_said ≡ Ok all

texts_said : (scope : Scope) (count : List Part) (end format : Parts) (all : List Data) → items scope (each.Sequence (Some count) None end format) ≡ Ok all → Counted scope count end format all
texts_said scope count end format all meant =
    let counts = went_on (said_option scope (Some count)) (λ c. said_option scope end >>= λ e. said_option scope format >>= λ f. sequence_items c None e f) all meant in
    let text = went_on (said scope count) (λ v. Ok (Some v)) counts.0 counts.1 in
    let ends = went_on (said_option scope end) (λ e. said_option scope format >>= λ f. sequence_items counts.0 None e f) all counts.2 in
    let formats = went_on (said_option scope format) (λ f. sequence_items counts.0 None ends.0 f) all ends.2 in
    record {
      count_said = text.0;
      end_said = ends.0;
      format_said = formats.0;
      formats = formats.1;
      makes = ap (λ (c : Said). sequence_items c None ends.0 formats.0) (same_ok (Some text.0) counts.0 text.2) ∙ formats.2;
    }

-- the loop over the number of a place says what stands there
pub one_number : (scope : Scope) (count : List Part) (end format : Parts) (i : ℕ) (all : List Data) (x : Data) → items scope (each.Sequence (Some count) None end format) ≡ Ok all → slice_get all i ≡ Some x
    → items scope (each.Sequence (Some (as_it_stands (decimal 1))) (Some (as_it_stands (decimal i))) None format) ≡ Ok (x ∷ [])
one_number scope count end format i all x meant at =
    let texts = texts_said scope count end format all meant in
    sequence_said scope (Some (as_it_stands (decimal 1))) (Some (as_it_stands (decimal i))) None format (Some (decimal 1)) (Some (decimal i)) None texts.format_said (as_it_stands_said scope (decimal 1))
    (as_it_stands_said scope (decimal i)) refl texts.formats
    ∙ one_of_texts texts.count_said texts.end_said texts.format_said i all x texts.makes at
