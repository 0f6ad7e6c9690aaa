-- What is parsed is spelled so, and only so.
use Rattle.std.proofs.Common.{◌≡◌, ◌≢◌, ℕ, zero, suc, ◌<◌, ◌==◌, List, [], ◌∷◌, ◌++◌, length, Result, Ok, Err, refl, sym, ap, subst, ◌∙◌, inl, inr, append_assoc, arith}
use Rattle.std.proofs.lemmas.List.{append-nil}
use Rattle.std.proofs.lemmas.Bool.Decides.{Decides-eqb}
use Rattle.std.proofs.lemmas.Bool.{cases_Bool}
use Rattle.tag_text.specs.declared.part.Part.{Part}
use Rattle.tag_text.specs.declared.part.Part.TheVariants.{Plain, Tag}
use Rattle.tag_text.specs.declared.refused.TagRefused.{TagRefused}
use Rattle.tag_text.specs.declared.refused.TagRefused.TheVariants.{Expression}
use Rattle.tag_text.specs.Parts.{Parsed, opening, closing, trimmed, as_it_stands, tag_named, followed, tag_then, parsed}
use Rattle.tag_text.specs.Spelling.{Lacks, LeadsTo, IsTagName, AreParts, IsInside, IsWritten, Spells}
use Rattle.tag_text.proofs.Cut.{cuts, cut_none, cut_some, nothing_leads}
use Rattle.tag_text.proofs.Parsed.{cut_shorter, parsed_plain, parsed_unclosed, parsed_tag}
use Rattle.tag_text.proofs.Trimmed.{trimmed_ends, trimmed_inside, trimmed_name}

-- a tag that was made of a name
pub record IsMade (name : List ℕ) (tag : Part) : Type 0 where
  pub is : tag ≡ Tag name
  pub some : name ≢ []
  pub simple : (rest : List ℕ) → name ≢ 61 ∷ rest

made : (name : List ℕ) (tag : Part) → tag_named name ≡ Ok tag → IsMade name tag
made [] tag e = absurd (cc)
made (b ∷ bs) tag e =
    elim (cases_Bool (b == 61)) [
      | inl equals ↦ absurd (let h : tag_named (b ∷ bs) ≡ Err Expression = rw equals refl in cc)
      | inr differs ↦
          let h : tag_named (b ∷ bs) ≡ Ok (Tag (b ∷ bs)) = rw differs refl in
          record {
            is = cc;
            some = λ none. absurd (cc);
            simple = λ rest same. let first : b ≡ 61 = cc in let h = (Decides-eqb b 61).1 first in absurd (cc);
          }
    ]

named : (name : List ℕ) → name ≢ [] → ((rest : List ℕ) → name ≢ 61 ∷ rest) → tag_named name ≡ Ok (Tag name)
named [] some simple = absurd (some refl)
named (b ∷ bs) some simple =
    elim (cases_Bool (b == 61)) [
      | inl equals ↦ absurd (simple bs (ap (λ c. c ∷ bs) ((Decides-eqb b 61).0 equals)))
      | inr differs ↦ rw differs refl
    ]

-- a text without a tag spells itself
plain_spells : (text : List ℕ) → Lacks opening text → Spells text (as_it_stands text)
plain_spells [] lacks = record { form = tt; written = refl }
plain_spells (b ∷ bs) lacks =
    record { form = (λ none. absurd (cc), lacks, tt); written = ([], sym (append-nil (b ∷ bs)), refl) }

-- the written parts behind a tag and the text before it
tag_spells : (before inside after name : List ℕ) (parts : List Part) → LeadsTo opening before → IsInside name inside → IsTagName name → Spells after parts
    → Spells (before ++ (opening ++ inside ++ closing ++ after)) ((as_it_stands before ++ Tag name ∷ []) ++ parts)
tag_spells [] inside after name parts leads is_inside is_name rest =
    record { form = (is_name, rest.form); written = (inside, after, is_inside, refl, rest.written) }
tag_spells (b ∷ bs) inside after name parts leads is_inside is_name rest =
    record {
      form = (λ none. absurd (cc), leads, (is_name, rest.form));
      written = (opening ++ inside ++ closing ++ after, refl, (inside, after, is_inside, refl, rest.written));
    }

regroup : (before inside after : List ℕ) → before ++ opening ++ (inside ++ closing ++ after) ≡ before ++ (opening ++ inside ++ closing ++ after)
regroup before inside after = simp append_assoc

followed_ok : (front : List Part) (left : Parsed) (parts : List Part) → followed front left ≡ Ok parts → (rest : List Part) × (left ≡ Ok rest) × (parts ≡ front ++ rest)
followed_ok front (Ok rest) parts e = (rest, refl, cc)
followed_ok front (Err fault) parts e = absurd (cc)

then_ok : (before : List ℕ) (named : Result Part TagRefused) (left : Parsed) (parts : List Part) → tag_then before named left ≡ Ok parts
    → (tag : Part) × (rest : List Part) × (named ≡ Ok tag) × (left ≡ Ok rest) × (parts ≡ (as_it_stands before ++ tag ∷ []) ++ rest)
then_ok before (Ok tag) left parts e = let h = followed_ok (as_it_stands before ++ tag ∷ []) left parts e in (tag, h.0, refl, h.1, h.2)
then_ok before (Err fault) left parts e = absurd (cc)

sound_within : (n : ℕ) (text : List ℕ) (parts : List Part) → length text < n → parsed text ≡ Ok parts → Spells text parts
sound_within zero text parts small e = absurd (omega arith)
sound_within (suc n) text parts small e =
    elim (cuts 123 (123 ∷ []) text) [
      | inl uncut ↦
          let h : Ok (as_it_stands text) ≡ Ok parts = sym (parsed_plain text uncut.none) ∙ e in
          let same : as_it_stands text ≡ parts = cc in
          subst (λ (ps : List Part). Spells text ps) same (plain_spells text uncut.lacks)
      | inr (before, more, is_cut) ↦
          elim (cuts 125 (125 ∷ []) more) [
            | inl uncut ↦ absurd (let h = parsed_unclosed text before more is_cut.some uncut.none in cc)
            | inr (inside, after, is_closed) ↦
                let one = sym (parsed_tag text before more inside after is_cut.some is_closed.some) ∙ e in
                let h = then_ok before (tag_named (trimmed inside)) (parsed after) parts one in
                let tag = made (trimmed inside) h.0 h.2 in
                let shorter : length after < n = omega (arith, cut_shorter 123 (123 ∷ []) text (before, more) is_cut.some, cut_shorter 125 (125 ∷ []) more (inside, after) is_closed.some) in
                let rest = sound_within n after h.1 shorter h.3 in
                let name : IsTagName (trimmed inside) = record { some = tag.some; simple = tag.simple; trimmed = trimmed_ends inside } in
                let spelled = tag_spells before inside after (trimmed inside) h.1 is_cut.leads (trimmed_inside inside is_closed.leads) name rest in
                let parts_are : (as_it_stands before ++ Tag (trimmed inside) ∷ []) ++ h.1 ≡ parts = ap (λ t. (as_it_stands before ++ t ∷ []) ++ h.1) (sym tag.is) ∙ sym h.4 in
                let text_is : before ++ (opening ++ inside ++ closing ++ after) ≡ text =
                sym (regroup before inside after) ∙ ap (λ t. before ++ opening ++ t) (sym is_closed.is) ∙ sym is_cut.is in
                subst (λ (ps : List Part). Spells text ps) parts_are (subst (λ (t : List ℕ). Spells t ((as_it_stands before ++ Tag (trimmed inside) ∷ []) ++ h.1)) text_is spelled)
          ]
    ]

-- what is parsed is spelled so
pub sound : (text : List ℕ) (parts : List Part) → parsed text ≡ Ok parts → Spells text parts
sound text parts = sound_within (suc (length text)) text parts (omega arith)

tag_read : (before inside after name : List ℕ) (parts : List Part) → LeadsTo opening before → IsInside name inside → IsTagName name → parsed after ≡ Ok parts
    → parsed (before ++ (opening ++ inside ++ closing ++ after)) ≡ Ok ((as_it_stands before ++ Tag name ∷ []) ++ parts)
tag_read before inside after name parts leads is_inside is_name rest =
    ap parsed (sym (regroup before inside after))
    ∙ parsed_tag (before ++ opening ++ (inside ++ closing ++ after)) before (inside ++ closing ++ after) inside after
    (cut_some 123 (123 ∷ []) before (inside ++ closing ++ after) leads) (cut_some 125 (125 ∷ []) inside after is_inside.ends)
    ∙ ap (λ t. tag_then before t (parsed after)) (ap tag_named (trimmed_name name inside is_name is_inside) ∙ named name is_name.some is_name.simple)
    ∙ ap (followed (as_it_stands before ++ Tag name ∷ [])) rest

plain_part : (text : List ℕ) → text ≢ [] → as_it_stands text ≡ Plain text ∷ []
plain_part [] some = absurd (some refl)
plain_part (b ∷ bs) some = refl

-- what is spelled so is parsed
pub complete : (parts : List Part) (text : List ℕ) → AreParts parts → IsWritten parts text → parsed text ≡ Ok parts
complete [] text form written = ap parsed written
complete (Tag name ∷ parts) text form (inside, after, is_inside, is, written) =
    ap parsed is ∙ tag_read [] inside after name parts (nothing_leads opening) is_inside form.0 (complete parts after form.1 written)
complete (Plain plain ∷ []) text form (rest, is, written) =
    let whole : text ≡ plain = is ∙ ap (λ t. plain ++ t) written ∙ append-nil plain in
    ap parsed whole ∙ parsed_plain plain (cut_none 123 (123 ∷ []) plain form.1) ∙ ap (λ (ps : List Part). Ok ps) (plain_part plain form.0)
complete (Plain plain ∷ Plain more ∷ parts) text form written = absurd form.1
complete (Plain plain ∷ Tag name ∷ parts) text form (rest, is, (inside, after, is_inside, tag_is, written)) =
    ap parsed (is ∙ ap (λ t. plain ++ t) tag_is)
    ∙ tag_read plain inside after name parts form.1 is_inside form.2.0 (complete parts after form.2.1 written)
    ∙ ap (λ (ps : List Part). Ok ((ps ++ Tag name ∷ []) ++ parts)) (plain_part plain form.0)
