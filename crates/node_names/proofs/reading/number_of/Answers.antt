use Rattle.std.proofs.Common.{get_or, length, ap, sym, ◌∙◌}
use Rattle.std.proofs.lemmas.Bool.{eqb-true}
use Rattle.node_names.proofs.NumberOf.{number_found, empty_is_none, plus_is_none, zeros_are_none, one_zero}
use Rattle.node_names.proofs.reading.number_of.Goals as goal

pub returns-then-is_empty : goal.returns-then-is_empty
returns-then-is_empty c =
    let same = c.as_bytes-bytes.ensures.value in
    let none = eqb-true (length c.as_bytes-bytes.result.now) 0 (sym c.if-is_empty.ensures) in
    empty_is_none c.args.digits.now (ap length (sym same) ∙ none)

pub returns-then-bytes-eq43 : goal.returns-then-bytes-eq43
returns-then-bytes-eq43 c =
    plus_is_none c.args.digits.now (ap (λ t. get_or t 0 0) (sym c.as_bytes-bytes.ensures.value) ∙ c.if-bytes-eq43.true)

pub returns-then-bytes-eq1 : goal.returns-then-bytes-eq1
returns-then-bytes-eq1 c =
    let same = sym c.as_bytes-bytes.ensures.value in
    one_zero c.args.digits.now (ap (λ t. get_or t 0 0) same ∙ c.if-bytes-eq48.true) (ap length same ∙ c.if-bytes-eq1.true)

pub returns-else-bytes-eq1 : goal.returns-else-bytes-eq1
returns-else-bytes-eq1 c =
    let same = sym c.as_bytes-bytes.ensures.value in
    zeros_are_none c.args.digits.now (ap (λ t. get_or t 0 0) same ∙ c.if-bytes-eq48.true) (λ one. c.if-bytes-eq1.false (ap length (sym same) ∙ one))

pub returns : goal.returns
returns c =
    let same = c.as_bytes-bytes.ensures.value in
    number_found c.args.digits.now c.parse.result c.ok.result c.ok.ensures.value c.parse.ensures.value.0
    (λ plus. c.if-bytes-eq43.false (ap (λ t. get_or t 0 0) same ∙ plus))
    (λ leading. c.if-bytes-eq48.false (ap (λ t. get_or t 0 0) same ∙ leading))
