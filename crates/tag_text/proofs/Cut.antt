-- Where a text is cut at a mark.
use Rattle.std.proofs.Common.{◌≡◌, ◌≢◌, ◌⊎◌, ℕ, zero, suc, ◌+◌, ◌≤◌, ◌<◌, true, false, List, [], ◌∷◌, ◌++◌, length, take, drop, Some, None, option_map, Option, MatchOption, Bor, refl, ap, ◌∙◌, inl, inr, append_assoc, length-append, arith, nat_eq}
use Rattle.std.specs.List.{starts_with}
use Rattle.std.specs.Str.Pattern.{LacksTextAt, FindsText, SplitsAroundMatch}
use Rattle.std.proofs.lemmas.List.{take-append-le}
use Rattle.std.proofs.lemmas.List.Prefix.{front_rest}
use Rattle.std.proofs.lemmas.Slice.Eq.{starts_is}
use Rattle.std.proofs.lemmas.Bool.{cases_Bool}
use Rattle.std.proofs.lemmas.Bool.Decides.{Decides-eqb}
use Rattle.tag_text.specs.Parts.{cut, behind}
use Rattle.tag_text.specs.Spelling.{Lacks, LeadsTo}

-- what a text that starts with a mark is
starts_so : (s mark : List ℕ) → starts_with nat_eq s mark ≡ true → s ≡ mark ++ drop (length mark) s
starts_so s mark = (starts_is Decides-eqb s mark (starts_with nat_eq s mark) refl).0

starts_yes : (s mark rest : List ℕ) → s ≡ mark ++ rest → starts_with nat_eq s mark ≡ true
starts_yes s mark = (starts_is Decides-eqb s mark (starts_with nat_eq s mark) refl).1

cut_here : (mark bs : List ℕ) (b : ℕ) → starts_with nat_eq (b ∷ bs) mark ≡ true → cut mark (b ∷ bs) ≡ Some ([], drop (length mark) (b ∷ bs))
cut_here mark bs b starts = rw starts refl

cut_later : (mark bs : List ℕ) (b : ℕ) → starts_with nat_eq (b ∷ bs) mark ≡ false → cut mark (b ∷ bs) ≡ option_map (behind b) (cut mark bs)
cut_later mark bs b differs = rw differs refl

pub nothing_leads : (mark : List ℕ) → LeadsTo mark []
nothing_leads mark before after e =
    let n : length mark ≡ length before + length mark + length after = ap length e ∙ length-append (before ++ mark) after ∙ ap (λ k. k + length after) (length-append before mark) in
    empty before (omega arith)
  where
    empty : (xs : List ℕ) → length xs ≡ 0 → xs ≡ []
    empty [] h = refl
    empty (x ∷ xs) h = absurd (omega arith)

-- where a mark is not found
pub record IsUncut (mark text : List ℕ) : Type 0 where
  pub none : cut mark text ≡ None
  pub lacks : Lacks mark text

-- where it is found
pub record IsCut (mark text front back : List ℕ) : Type 0 where
  pub some : cut mark text ≡ Some (front, back)
  pub is : text ≡ front ++ mark ++ back
  pub leads : LeadsTo mark front

abbrev pub Cuts : List ℕ → List ℕ → Type 0
Cuts mark text = IsUncut mark text ⊎ ((front : List ℕ) × (back : List ℕ) × IsCut mark text front back)

not_empty : (m : ℕ) (ms before after : List ℕ) → [] ≢ before ++ (m ∷ ms) ++ after
not_empty m ms before after e =
    let n : 0 ≡ length before + suc (length ms) + length after = ap length e ∙ length-append (before ++ (m ∷ ms)) after ∙ ap (λ k. k + length after) (length-append before (m ∷ ms)) in
    absurd (omega arith)

lacks_later : (mark bs : List ℕ) (b : ℕ) → starts_with nat_eq (b ∷ bs) mark ≡ false → Lacks mark bs → Lacks mark (b ∷ bs)
lacks_later mark bs b differs lacks [] after e = absurd (let h = starts_yes (b ∷ bs) mark after e in cc)
lacks_later mark bs b differs lacks (x ∷ xs) after e = lacks xs after (cc)

leads_later : (mark bs f k : List ℕ) (b : ℕ) → starts_with nat_eq (b ∷ bs) mark ≡ false → bs ≡ f ++ mark ++ k → LeadsTo mark f → LeadsTo mark (b ∷ f)
leads_later mark bs f k b differs is leads [] after e =
    let whole : b ∷ bs ≡ mark ++ (after ++ k) = ap (λ t. b ∷ t) is ∙ ap (λ t. t ++ k) e ∙ append_assoc mark after k in
    absurd (let h = starts_yes (b ∷ bs) mark (after ++ k) whole in cc)
leads_later mark bs f k b differs is leads (x ∷ xs) after e =
    let same : xs ≡ f = leads xs after (cc) in
    let first : b ≡ x = cc in
    cc

cuts_later : (mark bs : List ℕ) (b : ℕ) → starts_with nat_eq (b ∷ bs) mark ≡ false → Cuts mark bs → Cuts mark (b ∷ bs)
cuts_later mark bs b differs (inl rest) =
    inl (record { none = cut_later mark bs b differs ∙ ap (option_map (behind b)) rest.none; lacks = lacks_later mark bs b differs rest.lacks })
cuts_later mark bs b differs (inr (f, k, rest)) =
    inr (
      b ∷ f,
      k,
      record {
        some = cut_later mark bs b differs ∙ ap (option_map (behind b)) rest.some;
        is = ap (λ t. b ∷ t) rest.is;
        leads = leads_later mark bs f k b differs rest.is rest.leads;
      },
    )

-- a text lacks the mark, or is cut at its first place
pub cuts : (m : ℕ) (ms text : List ℕ) → Cuts (m ∷ ms) text
cuts m ms [] = inl (record { none = refl; lacks = λ before after. not_empty m ms before after })
cuts m ms (b ∷ bs) =
    elim (cases_Bool (starts_with nat_eq (b ∷ bs) (m ∷ ms))) [
      | inl starts ↦ inr (
        [],
        drop (suc (length ms)) (b ∷ bs),
        record {
          some = cut_here (m ∷ ms) bs b starts;
          is = starts_so (b ∷ bs) (m ∷ ms) starts;
          leads = nothing_leads (m ∷ ms);
        },
      )
      | inr differs ↦ cuts_later (m ∷ ms) bs b differs (cuts m ms bs)
    ]

-- a text that lacks the mark is not cut
pub cut_none : (m : ℕ) (ms text : List ℕ) → Lacks (m ∷ ms) text → cut (m ∷ ms) text ≡ None
cut_none m ms text lacks =
    elim (cuts m ms text) [
      | inl uncut ↦ uncut.none
      | inr (front, back, is_cut) ↦ absurd (lacks front back is_cut.is)
    ]

starts_front : (mark front back : List ℕ) → length mark ≤ length front → starts_with nat_eq (front ++ back) mark ≡ starts_with nat_eq front mark
starts_front mark front back fits = rw (take-append-le (length mark) front back fits) refl

-- a text that leads to a mark is what the cut leaves before it
pub cut_some : (m : ℕ) (ms front back : List ℕ) → LeadsTo (m ∷ ms) front → cut (m ∷ ms) (front ++ (m ∷ ms) ++ back) ≡ Some (front, back)
cut_some m ms [] back leads =
    cut_here (m ∷ ms) (ms ++ back) m (starts_yes (m ∷ (ms ++ back)) (m ∷ ms) back refl)
    ∙ ap (λ (t : List ℕ). Some ([], t)) (front_rest (m ∷ (ms ++ back)) (m ∷ ms) back refl)
cut_some m ms (x ∷ xs) back leads =
    elim (cases_Bool (starts_with nat_eq (x ∷ (xs ++ (m ∷ ms))) (m ∷ ms))) [
      | inl starts ↦ absurd (let h : [] ≡ x ∷ xs = leads [] (drop (suc (length ms)) (x ∷ (xs ++ (m ∷ ms)))) (starts_so (x ∷ (xs ++ (m ∷ ms))) (m ∷ ms) starts) in cc)
      | inr differs ↦
          let fits : suc (length ms) ≤ length (x ∷ (xs ++ (m ∷ ms))) = omega (arith, length-append xs (m ∷ ms)) in
          let later = starts_front (m ∷ ms) (x ∷ (xs ++ (m ∷ ms))) back fits ∙ differs in
          cut_later (m ∷ ms) (xs ++ (m ∷ ms) ++ back) x later
          ∙ ap (option_map (behind x)) (cut_some m ms xs back (λ before after e. let h : x ∷ before ≡ x ∷ xs = leads (x ∷ before) after (ap (λ t. x ∷ t) e) in cc))
    ]

-- what a search finds
lacks_at : (m : ℕ) (ms s : List ℕ) → ((i : ℕ) → i ≤ length s → LacksTextAt (m ∷ ms) s i) → Lacks (m ∷ ms) s
lacks_at m ms s lacks before after e =
    let long : length before ≤ length s = omega (arith, ap length e, length-append (before ++ (m ∷ ms)) after, length-append before (m ∷ ms)) in
    lacks (length before) long after (front_rest s before ((m ∷ ms) ++ after) (e ∙ append_assoc before (m ∷ ms) after))

pub found_none : (m : ℕ) (ms s : List ℕ) → ((i : ℕ) → i ≤ length s → LacksTextAt (m ∷ ms) s i) → cut (m ∷ ms) s ≡ None
found_none m ms s lacks = cut_none m ms s (lacks_at m ms s lacks)

pub found_some : (m : ℕ) (ms s rest : List ℕ) (i : ℕ) → ((k : ℕ) → k < i → LacksTextAt (m ∷ ms) s k) → drop i s ≡ (m ∷ ms) ++ rest → cut (m ∷ ms) s ≡ Some (take i s, rest)
found_some m ms [] rest zero lacks has = absurd (let h : [] ≡ m ∷ (ms ++ rest) = has in cc)
found_some m ms (b ∷ bs) rest zero lacks has =
    cut_here (m ∷ ms) bs b (starts_yes (b ∷ bs) (m ∷ ms) rest has)
    ∙ ap (λ (t : List ℕ). Some ([], t)) (front_rest (b ∷ bs) (m ∷ ms) rest has)
found_some m ms [] rest (suc i) lacks has = absurd (let h : [] ≡ m ∷ (ms ++ rest) = has in cc)
found_some m ms (b ∷ bs) rest (suc i) lacks has =
    elim (cases_Bool (starts_with nat_eq (b ∷ bs) (m ∷ ms))) [
      | inl starts ↦ absurd (lacks 0 (omega arith) (drop (suc (length ms)) (b ∷ bs)) (starts_so (b ∷ bs) (m ∷ ms) starts))
      | inr differs ↦
          cut_later (m ∷ ms) bs b differs
          ∙ ap (option_map (behind b)) (found_some m ms bs rest i (λ k below r. lacks (suc k) (omega arith) r) has)
    ]

-- where a text is split at a mark
pub split_is_cut : (mark bs : List ℕ) (r : Option (Bor (List ℕ) × Bor (List ℕ))) → mark ≢ [] → MatchOption r (FindsText mark bs None) (λ x. SplitsAroundMatch (FindsText mark) bs x.0.now x.1.now) → MatchOption r (cut mark bs ≡ None) (λ x. cut mark bs ≡ Some (x.0.now, x.1.now))
split_is_cut [] bs r some found = absurd (some refl)
split_is_cut (m ∷ ms) bs None some found = found_none m ms bs found
split_is_cut (m ∷ ms) bs (Some x) some (i, j, (before, has), front_is, back_is, order, front_len, back_len) =
    found_some m ms bs (drop j bs) i before has.split ∙ ap (λ (p : List ℕ × List ℕ). Some p) (cc)
