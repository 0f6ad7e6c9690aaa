use Rattle.std.proofs.Common.{Some, None, List, ℕ, ◌∷◌, sym, subst, arith}
use Rattle.std.proofs.lemmas.Str.Pattern.{split_parts, contains_char}
use Rattle.node_names.specs.declared.seg.Seg.TheVariants.{Item}
use Rattle.node_names.specs.Inside.Reading.{BeginsWith}
use Rattle.node_names.proofs.BeginsWithNone.{no_parenthesis, attempt_found, no_item_text, no_item_number, begins_item}
use Rattle.node_names.proofs.reading.item_at.Goals as goal

pub returns-in_default : goal.returns-in_default
returns-in_default c = no_parenthesis c.args.after.now (split_parts 41 c.args.after.now None c.in_default.ensures.cases (omega arith))

pub returns-in_default-split_once : goal.returns-in_default-split_once
returns-in_default-split_once c =
    let after = c.args.after.now in let inside = c.in-Some.inside in
    let parts = split_parts 41 after (Some (inside, c.in-Some.rest)) c.in-Some.ensures.cases (omega arith) in
    let no_colon = split_parts 58 inside.now None c.in_default-split_once.ensures.cases (omega arith) in
    attempt_found after inside.now c.in-Some.rest c.attempt_of.result parts.0 parts.1 no_colon c.attempt_of.ensures

pub returns-then-contains : goal.returns-then-contains
returns-then-contains c =
    let after = c.args.after.now in let inside = c.in-Some.inside in let text = c.in-Some-split_once.text in
    let parts = split_parts 41 after (Some (inside, c.in-Some.rest)) c.in-Some.ensures.cases (omega arith) in
    let split = split_parts 58 inside.now (Some (c.in-Some-split_once.digits, text)) c.in-Some-split_once.ensures.cases (omega arith) in
    let opens = (contains_char 40 text.now c.contains.result c.contains.ensures.cases (omega arith)).0 c.if-contains.true in
    no_item_text after inside.now c.in-Some.rest.now c.in-Some-split_once.digits.now text.now opens.0 parts.0 parts.1 split.0 split.1 opens.1 opens.2

pub returns-in_default-number_of : goal.returns-in_default-number_of
returns-in_default-number_of c =
    let after = c.args.after.now in let inside = c.in-Some.inside in let text = c.in-Some-split_once.text in
    let parts = split_parts 41 after (Some (inside, c.in-Some.rest)) c.in-Some.ensures.cases (omega arith) in
    let split = split_parts 58 inside.now (Some (c.in-Some-split_once.digits, text)) c.in-Some-split_once.ensures.cases (omega arith) in
    no_item_number after inside.now c.in-Some.rest.now c.in-Some-split_once.digits.now text.now parts.0 parts.1 split.0 split.1 c.in_default-number_of.ensures

pub returns : goal.returns
returns c =
    let after = c.args.after.now in let inside = c.in-Some.inside in let text = c.in-Some-split_once.text in
    let parts = split_parts 41 after (Some (inside, c.in-Some.rest)) c.in-Some.ensures.cases (omega arith) in
    let split = split_parts 58 inside.now (Some (c.in-Some-split_once.digits, text)) c.in-Some-split_once.ensures.cases (omega arith) in
    let lacks = (contains_char 40 text.now c.contains.result c.contains.ensures.cases (omega arith)).1 in
    let item = begins_item after inside.now c.in-Some.rest.now c.in-Some-split_once.digits.now text.now c.in-Some-number_of.number parts.0 parts.1 split.0 (omega arith) c.in-Some-number_of.ensures (λ k small here. absurd (let h = lacks k small here in let no = c.if-contains.false in cc)) in
    subst (λ (t : List ℕ). BeginsWith (Item c.in-Some-number_of.number t) (40 ∷ after) c.in-Some.rest.now) (sym c.in_ok-from_text.ensures) item
