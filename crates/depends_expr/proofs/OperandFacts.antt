-- Operands are read as the grammar says, and so are whole texts.
use Rattle.std.specs.Prelude.{◌≡◌, ◌↔◌, ℕ, ◌<◌, ◌≤◌, ◌+◌, List, [], ◌∷◌, ◌++◌, length, Bool, true, false, ◌==◌, nat_lt, bytes_eq, IsTrue, Option, Some, None, refl}
use Rattle.std.proofs.Common.{ap, sym, subst, ◌∙◌, arith, append_assoc, append-nil, length-append, inl, inr}
use Rattle.std.specs.List.{list_all, list_any}
use Rattle.std.proofs.lemmas.Bool.{false≢true, and_from, and_parts, or_cases, cond_both, cond-true, eqb-true, ltb-true, lt-ltb}
use Rattle.std.proofs.lemmas.Slice.Eq.{bytes_eq-Decides}
use Rattle.base_types.specs.Bytes.{is_space, is_name_byte, is_name}
use Rattle.base_types.specs.Limits.{longest_name}
use Rattle.base_types.proofs.Bytes.{name_parts, name_from}
use Rattle.connectives.specs.Grammar.{Text, Spaces, no_space, space, IsBadAt}
use Rattle.connectives.specs.declared.state.Around.{Around}
use Rattle.connectives.specs.declared.state.State.TheVariants.{Wants, Within, Done}
use Rattle.connectives.specs.declared.state.Next.TheVariants.{Inside, Before, Stuck}
use Rattle.connectives.specs.Reading.{kind, start, begun, on_wants, on_next, then_read, past_operand, read, place}
use Rattle.connectives.proofs.ByteKinds.{other_kind, end_byte, ends_operand}
use Rattle.connectives.proofs.Options.{none_some, some_same}
use Rattle.connectives.proofs.Facts.{Facts, IsBegun, IsNext, IsStopped, is_end}
use Rattle.connectives.proofs.Levels.{spaces_more}
use Rattle.connectives.proofs.Taken.{spaces_done}
use Rattle.connectives.proofs.Held as held
use Rattle.connectives.proofs.Fronts as fronts
use Rattle.depends_expr.specs.declared.operands.Inner.{Inner}
use Rattle.depends_expr.specs.declared.operands.Inner.TheVariants.{InName, InResult}
use Rattle.depends_expr.specs.Expression.{Word, succeeded, failed, errored, skipped, omitted, daemoned, any_succeeded, all_failed, Expression, bare, has}
use Rattle.depends_expr.specs.Grammar.{spelling, IsOperand, alone, result_of, depends_joins, depends_language, IsDepends}
use Rattle.depends_expr.specs.Inside.Operands.{words, spelled, behind, is_found, begins_word, longer_name, on_name, on_part, on_result, begin, go_on, stop, depends_machine}

-- ---- what has been read of an operand

abbrev Begun : Inner → Text → Text → Type 0
Begun (InName name) y r = (y ≡ name ++ r) × IsTrue (is_name name)
Begun (InResult name part) y r = (y ≡ name ++ (46 ∷ (part ++ r))) × IsTrue (is_name name) × IsTrue (begins_word part)

one_byte_name : (b : ℕ) → IsTrue (is_name_byte b) → IsTrue (is_name (b ∷ []))
one_byte_name b h = and_from _ _ (and_from _ _ (and_from _ _ h refl) refl) refl

all_bytes : (name : Text) (b : ℕ) → IsTrue (list_all is_name_byte name) → IsTrue (is_name_byte b) → IsTrue (list_all is_name_byte (name ++ b ∷ []))
all_bytes [] b h i = and_from _ _ i refl
all_bytes (c ∷ cs) b h i =
    let parts = and_parts (is_name_byte c) (list_all is_name_byte cs) h in
    and_from _ _ parts.0 (all_bytes cs b parts.1 i)

longer_is_name : (name : Text) (b : ℕ) → IsTrue (is_name name) → length name < longest_name → IsTrue (is_name_byte b) → IsTrue (is_name (name ++ b ∷ []))
longer_is_name name b h short i =
    let parts = name_parts name h in
    name_from (name ++ b ∷ []) (record {
      bytes = all_bytes name b parts.bytes i;
      some = rw length-append (omega arith);
      short = rw length-append (omega arith);
    })

begins : (b : ℕ) (r : Text) → IsBegun Begun (begin b) (b ∷ r) r
begins b r = cond_both (is_name_byte b) (Some (InName (b ∷ []))) None (λ o. IsBegun Begun o (b ∷ r) r) (λ h. (refl, one_byte_name b h)) (λ _. tt)

spelled_is : (t : Text) (ws : List Word) (w : Word) → spelled t ws ≡ Some w → spelling w ≡ t
spelled_is t [] w p = absurd (none_some p)
spelled_is t (v ∷ vs) w p =
    cond_both (bytes_eq (spelling v) t) (Some v) (spelled t vs) (λ x. x ≡ Some w → spelling w ≡ t)
    (λ e p. ap spelling (sym (some_same p)) ∙ (bytes_eq-Decides (spelling v) t).0 e)
    (λ _ p. spelled_is t vs w p)
    p

name_goes : (name : Text) (b : ℕ) (y r : Text) → Begun (InName name) y (b ∷ r) → IsNext depends_language Begun (on_name name b) b y r
name_goes name b y r h =
    cond_both (is_name_byte b) (longer_name name b) _ (λ x. IsNext depends_language Begun x b y r)
    (λ i.
    cond_both (nat_lt (length name) longest_name) (Inside (InName (name ++ b ∷ []))) Stuck (λ x. IsNext depends_language Begun x b y r)
    (λ short. (h.0 ∙ sym (append_assoc name (b ∷ []) r), longer_is_name name b h.1 (ltb-true _ _ short) i))
    (λ _. tt))
    (λ _.
    cond_both (b == 46) (Inside (InResult name [])) (Before (bare name)) (λ x. IsNext depends_language Begun x b y r)
    (λ same. (h.0 ∙ ap (λ c. name ++ (c ∷ r)) (eqb-true b 46 same), h.1, refl))
    (λ _. subst (λ z. IsOperand z (bare name) (b ∷ r)) (sym h.0) (alone name h.1 no_space)))

part_goes : (name part : Text) (b : ℕ) (y r : Text) (ok : Bool) → begins_word part ≡ ok → y ≡ name ++ (46 ∷ (part ++ r)) → IsTrue (is_name name) → IsNext depends_language Begun (on_part ok name part) b y r
part_goes name part b y r true e p h = (p, h, e)
part_goes name part b y r false e p h = tt

result_goes : (name part : Text) (b : ℕ) (y r : Text) (found : Option Word) → spelled part words ≡ found → y ≡ name ++ (46 ∷ (part ++ r)) → IsTrue (is_name name) → IsNext depends_language Begun (on_result found name part) b y r
result_goes name part b y r None e p h = part_goes name part b y r (begins_word part) refl p h
result_goes name part b y r (Some word) e p h =
    subst (λ z. IsOperand z (has name word) r) (sym (p ∙ ap (λ x. name ++ (46 ∷ (x ++ r))) (sym (spelled_is part words word e)))) (result_of name word h no_space)

goes_on : (i : Inner) (b : ℕ) (y r : Text) → Begun i y (b ∷ r) → IsNext depends_language Begun (go_on i b) b y r
goes_on (InName name) b y r h = name_goes name b y r h
goes_on (InResult name part) b y r h =
    result_goes name (part ++ b ∷ []) b y r (spelled (part ++ b ∷ []) words) refl
    (h.0 ∙ ap (λ x. name ++ (46 ∷ x)) (sym (append_assoc part (b ∷ []) r))) h.1

stops : (i : Inner) (y : Text) → Begun i y [] → IsStopped depends_language (stop i) y
stops (InName name) y h = subst (λ z. IsOperand z (bare name) []) (sym h.0) (alone name h.1 no_space)
stops (InResult name part) y h = tt

operand_more : {t u : Text} {e : Expression} (b : ℕ) (r : Text) → IsTrue (is_space b) → u ≡ b ∷ r → IsOperand t e u → IsOperand t e r
operand_more b r h p (alone {r = x} name i s) = alone name i (spaces_more h x p s)
operand_more b r h p (result_of {r = x} name word i s) = result_of name word i (spaces_more h x p s)

-- ---- what is an operand is read

abbrev head_or : ℕ → Text → ℕ
head_or d [] = d
head_or d (b ∷ t) = b

head_same : {b c : ℕ} {t u : Text} → b ∷ t ≡ c ∷ u → b ≡ c
head_same {b} p = ap (λ x. head_or b x) p

-- no name goes on with this byte
abbrev Over : ℕ → Type 0
Over b = (name : Text) → on_name name b ≡ Before (bare name)

over_space : (b : ℕ) → IsTrue (is_space b) → Over b
over_space b h = elim (or_cases (b == 32) (b == 9) h) [
  | inl e ↦ subst Over (sym (eqb-true b 32 e)) (λ name. refl)
  | inr e ↦ subst Over (sym (eqb-true b 9 e)) (λ name. refl)
]

over_end : (b : ℕ) → IsTrue (ends_operand (kind b)) → Over b
over_end b h = elim (end_byte b h) [
  | inl e ↦ subst Over (sym e) (λ name. refl)
  | inr f ↦ elim f [ inl e ↦ subst Over (sym e) (λ name. refl) | inr e ↦ subst Over (sym e) (λ name. refl) ]
]

over_ends : (b : ℕ) (u name : Text) (a : Around Expression) → Over b → read depends_joins depends_machine (Within (InName name) a) (b ∷ u) ≡ read depends_joins depends_machine (Done (past_operand depends_joins (bare name) a)) (b ∷ u)
over_ends b u name a h = ap (λ n. then_read (on_next depends_joins n b a) (λ x. read depends_joins depends_machine x u)) (h name)

over_front : {u r : Text} (b : ℕ) (v : Text) → Spaces u r → IsTrue (is_end r) → u ≡ b ∷ v → Over b
over_front {u} b v no_space z e = over_end b (let front : IsTrue (is_end (b ∷ v)) = subst (λ x. IsTrue (is_end x)) e z in front)
over_front b v (space {b = c} h s) z e = subst Over (head_same e) (over_space c h)

name_ends : (u r name : Text) (a : Around Expression) → Spaces u r → IsTrue (is_end r) → read depends_joins depends_machine (Within (InName name) a) u ≡ read depends_joins depends_machine (Done (past_operand depends_joins (bare name) a)) u
name_ends [] r name a s z = refl
name_ends (b ∷ u) r name a s z = over_ends b u name a (over_front b u s z refl)

name_goes_on : (before name u : Text) (a : Around Expression) → IsTrue (list_all is_name_byte name) → length before + length name ≤ longest_name → read depends_joins depends_machine (Within (InName before) a) (name ++ u) ≡ read depends_joins depends_machine (Within (InName (before ++ name)) a) u
name_goes_on before [] u a h l = ap (λ x. read depends_joins depends_machine (Within (InName x) a) u) (sym (append-nil before))
name_goes_on before (b ∷ bs) u a h l =
    let parts = and_parts (is_name_byte b) (list_all is_name_byte bs) h in
    let short : length before < longest_name = omega arith in
    let fits : length (before ++ b ∷ []) + length bs ≤ longest_name = rw length-append (omega arith) in
    ap (λ n. then_read (on_next depends_joins n b a) (λ x. read depends_joins depends_machine x (bs ++ u)))
    (cond-true (is_name_byte b) (longer_name before b) _ parts.0 ∙ cond-true (nat_lt (length before) longest_name) _ _ (lt-ltb _ _ short))
    ∙ name_goes_on (before ++ b ∷ []) bs u a parts.1 fits
    ∙ ap (λ x. read depends_joins depends_machine (Within (InName x) a) u) (append_assoc before (b ∷ []) bs)

name_read : (name u : Text) (a : Around Expression) → IsTrue (is_name name) → read depends_joins depends_machine (Wants a) (name ++ u) ≡ read depends_joins depends_machine (Within (InName name) a) u
name_read [] u a h = absurd (false≢true h)
name_read (b ∷ bs) u a h =
    let parts = name_parts (b ∷ bs) h in
    let each = and_parts (is_name_byte b) (list_all is_name_byte bs) parts.bytes in
    let short : length (b ∷ bs) ≤ longest_name = parts.short in
    ap (λ k. then_read (on_wants depends_machine k b a) (λ x. read depends_joins depends_machine x (bs ++ u))) (other_kind is_name_byte b refl refl refl refl refl refl refl each.0)
    ∙ ap (λ o. then_read (begun o a) (λ x. read depends_joins depends_machine x (bs ++ u))) (cond-true (is_name_byte b) _ _ each.0)
    ∙ name_goes_on (b ∷ []) bs u a each.1 (omega arith)

result_read : (word : Word) (name u : Text) (a : Around Expression) → read depends_joins depends_machine (Within (InName name) a) (46 ∷ spelling word ++ u) ≡ read depends_joins depends_machine (Done (past_operand depends_joins (has name word) a)) u
result_read succeeded name u a = refl
result_read failed name u a = refl
result_read errored name u a = refl
result_read skipped name u a = refl
result_read omitted name u a = refl
result_read daemoned name u a = refl
result_read any_succeeded name u a = refl
result_read all_failed name u a = refl

reads : {t r : Text} {e : Expression} → IsOperand t e r → IsTrue (is_end r) → (a : Around Expression) → read depends_joins depends_machine (Wants a) t ≡ read depends_joins depends_machine (Done (past_operand depends_joins e a)) r
reads (alone {u} {r} name h s) z a = name_read name u a h ∙ name_ends u r name a s z ∙ spaces_done depends_language depends_machine s _
reads (result_of {u} {r} name word h s) z a =
    name_read name (46 ∷ (spelling word ++ u)) a h ∙ result_read word name u a ∙ spaces_done depends_language depends_machine s _

-- ---- what has begun can be ended

behind_is : (p t r : Text) → behind p t ≡ Some r → t ≡ p ++ r
behind_is [] t r e = some_same e
behind_is (b ∷ bs) [] r e = absurd (none_some e)
behind_is (b ∷ bs) (c ∷ cs) r e =
    cond_both (b == c) (behind bs cs) None (λ x. x ≡ Some r → (c ∷ cs) ≡ (b ∷ bs) ++ r)
    (λ same e. let here : b ≡ c = eqb-true b c same in let more : cs ≡ bs ++ r = behind_is bs cs r e in λ i. sym here i ∷ more i)
    (λ _ e. absurd (none_some e))
    e

found_rest : (o : Option Text) → IsTrue (is_found o) → (r : Text) × (o ≡ Some r)
found_rest None h = absurd (false≢true h)
found_rest (Some r) h = (r, refl)

begun_word : (part : Text) (ws : List Word) → IsTrue (list_any (λ w. is_found (behind part (spelling w))) ws) → (w : Word) × (r : Text) × (spelling w ≡ part ++ r)
begun_word part [] h = absurd (false≢true h)
begun_word part (w ∷ ws) h = elim (or_cases (is_found (behind part (spelling w))) (list_any (λ w. is_found (behind part (spelling w))) ws) h) [
  | inl e ↦ (let found = found_rest (behind part (spelling w)) e in (w, found.0, behind_is part (spelling w) found.0 found.1))
  | inr e ↦ begun_word part ws e
]

finishes : (i : Inner) (y r : Text) → Begun i y r → (p : Text) × (e : Expression) × ((z u : Text) → Begun i z (p ++ u) → IsOperand z e u)
finishes (InName name) y r h = (32 ∷ [], bare name, λ z u g. operand_more 32 u refl refl (subst (λ x. IsOperand x (bare name) (32 ∷ u)) (sym g.0) (alone name h.1 no_space)))
finishes (InResult name part) y r h =
    let word = begun_word part words h.2 in (
      word.1,
      has name word.0,
      λ z u g.
          let whole : part ++ (word.1 ++ u) ≡ spelling word.0 ++ u = sym (append_assoc part word.1 u) ∙ ap (λ x. x ++ u) (sym word.2) in
          subst (λ x. IsOperand x (has name word.0) u) (sym (g.0 ∙ ap (λ x. name ++ (46 ∷ x)) whole)) (result_of name word.0 h.1 no_space),
    )

-- ---- whole texts

facts : Facts depends_language depends_machine
facts = record {
  Begun = Begun;
  begins = begins;
  goes_on = goes_on;
  stops = stops;
  spaced = λ b t u r e h p g. operand_more b r h p g;
  reads = λ t r e h z a. reads h z a;
  finishes = finishes;
  sample = (65 ∷ [], bare (65 ∷ []), λ u. alone (65 ∷ []) refl no_space);
}

-- what is read is of the grammar
pub meant : (text : Text) (e : Expression) → read depends_joins depends_machine start text ≡ Some e → IsDepends text e
meant text e p = held.meant depends_language depends_machine facts text e p

-- what is not read is not of the grammar
pub bad : (text : Text) → read depends_joins depends_machine start text ≡ None → IsBadAt depends_language text (place depends_joins depends_machine start text)
bad text p = fronts.bad depends_language depends_machine facts text p

-- what reading finds is what the grammar says
pub says : (text : Text) (e : Expression) → (read depends_joins depends_machine start text ≡ Some e) ↔ IsDepends text e
says text e = fronts.says depends_language depends_machine facts text e
