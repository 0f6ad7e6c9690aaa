-- Entries in front of later ones.
use Rattle.std.proofs.Common.{◌≡◌, ◌⊎◌, inl, inr, subst, true, Some, ℕ, zero, suc, ◌+◌, ◌-◌, ◌<◌, length, get_or, take, drop, arith, List, [], ◌∷◌, ◌++◌, Bool, false, refl, sym, ap, ◌∙◌}
use Rattle.std.proofs.lemmas.List.{take_more, take_all, length-drop}
use Rattle.std.specs.Prelude.{slice_get, nat_eq}
use Rattle.std.specs.declared.sync.Arc.{Arc}
use Rattle.std.specs.declared.alloc.Global.{Global}
use Rattle.meaning.specs.Lines.{Parts, nothing, call, may_begin, asks, then_parts}
use Rattle.tree_state.specs.declared.inserting.TaskPlace.{TaskPlace}
use Rattle.tree_state.specs.declared.state.Kid.{Kid}
use Rattle.tree_state.specs.Inserting.{is_later, begins_later, ends_later, IsPut}
use Rattle.tree_state.specs.declared.inserting.Behind.{Behind}
use Rattle.tree_state.specs.declared.inserting.Behind.TheVariants.{Later, Nothing}
use Rattle.tree_state.specs.Inside.Among.{IsAmong, TellsBehind}
use Rattle.tree_state.specs.declared.state.Line.{Line}
use Rattle.tree_state.specs.declared.state.Line.TheVariants.{MayBegin, Asks}
use Rattle.tree_state.specs.Inside.Kids.{own_line, kid_before, kid_parts, parts_of}
use Rattle.tree_state.specs.Inside.Chunks.{all_of}
use Rattle.tree_state.proofs.Kids.{kid_then, pushed, then_moves, then_nothing}
use Rattle.tree_state.proofs.Chunks.{chunk_pushed}

-- ---- how parts end, one behind the other

ends_then : (at : TaskPlace) (b : Bool) (p q : Parts) → ends_later at b (then_parts p q) ≡ ends_later at (ends_later at b p) q
ends_then at b nothing q = refl
ends_then at b (call own inner rest) q = ends_then at (is_later at own.node.path.sels) rest q
ends_then at b (may_begin p rest) q = ends_then at (is_later at p.sels) rest q
ends_then at b (asks w rest) q = ends_then at false rest q

pub both_end : (at : TaskPlace) (p q : Parts) → ends_later at false p ≡ false → ends_later at false q ≡ false → ends_later at false (then_parts p q) ≡ false
both_end at p q first next = ends_then at false p q ∙ ap (λ (b : Bool). ends_later at b q) first ∙ next

-- one kid more
pub kids_end : (at : TaskPlace) (kids : List Kid) (i : ℕ) (k : Kid) → i < length kids → k ≡ get_or kids i k → ends_later at false (parts_of (take i kids)) ≡ false → ((b : Bool) → ends_later at b (kid_parts k) ≡ false) →
    ends_later at false (parts_of (take (i + 1) kids)) ≡ false
kids_end at kids i k lt is before own =
    ap (λ (ks : List Kid). ends_later at false (parts_of ks)) (take_more kids i k lt ∙ ap (λ (x : Kid). take i kids ++ x ∷ []) (sym is))
    ∙ ap (λ (p : Parts). ends_later at false p) (pushed (take i kids) k)
    ∙ both_end at (parts_of (take i kids)) (kid_parts k) before (own false)

-- by the last kid alone
pub last_ends : (at : TaskPlace) (kids : List Kid) (i : ℕ) (k : Kid) → i + 1 ≡ length kids → k ≡ get_or kids i k → ((b : Bool) → ends_later at b (kid_parts k) ≡ false) → ends_later at false (parts_of kids) ≡ false
last_ends at kids i k end is own =
    let lt : i < length kids = omega (arith, end) in
    let whole : take (i + 1) kids ≡ kids = ap (λ (n : ℕ). take n kids) end ∙ take_all (length kids) kids (omega arith) in
    let front = parts_of (take i kids) in
    ap (λ (ks : List Kid). ends_later at false (parts_of ks)) (sym whole ∙ take_more kids i k lt ∙ ap (λ (x : Kid). take i kids ++ x ∷ []) (sym is))
    ∙ ap (λ (p : Parts). ends_later at false p) (pushed (take i kids) k)
    ∙ ends_then at false front (kid_parts k)
    ∙ own (ends_later at false front)

-- one chunk more
pub chunks_end : (at : TaskPlace) (cs : List (Arc Parts Global)) (i : ℕ) (c : Arc Parts Global) → i < length cs → c ≡ get_or cs i c → ends_later at false (all_of (take i cs)) ≡ false → ends_later at false c.value ≡ false →
    ends_later at false (all_of (take (i + 1) cs)) ≡ false
chunks_end at cs i c lt is before own =
    ap (λ (ds : List (Arc Parts Global)). ends_later at false (all_of ds)) (take_more cs i c lt ∙ ap (λ (x : Arc Parts Global). take i cs ++ x ∷ []) (sym is))
    ∙ ap (λ (p : Parts). ends_later at false p) (chunk_pushed (take i cs) c)
    ∙ both_end at (all_of (take i cs)) c.value before own

-- ---- parts in two

-- what a range from a place on has
pub range_behind : {X : Type 0} (xs : List X) (n : ℕ) → take (length xs - n) (drop n xs) ≡ drop n xs
range_behind xs n = take_all (length xs - n) (drop n xs) (omega (arith, length-drop n xs))

pub kids_split : (kids : List Kid) (n : ℕ) → parts_of kids ≡ then_parts (parts_of (take n kids)) (parts_of (drop n kids))
kids_split kids zero = refl
kids_split [] (suc n) = refl
kids_split (k ∷ kids) (suc n) = ap (λ (p : Parts). kid_before k p) (kids_split kids n) ∙ sym (kid_then k.line k.state (parts_of (take n kids)) (parts_of (drop n kids)))

pub chunks_split : (cs : List (Arc Parts Global)) (n : ℕ) → all_of cs ≡ then_parts (all_of (take n cs)) (all_of (drop n cs))
chunks_split cs zero = refl
chunks_split [] (suc n) = refl
chunks_split (c ∷ cs) (suc n) = ap (λ (p : Parts). then_parts c.value p) (chunks_split cs n) ∙ sym (then_moves c.value (all_of (take n cs)) (all_of (drop n cs)))

-- a kid is added behind parts, and more behind it
pub kid_added : (p : Parts) (k : Kid) (more : Parts) → then_parts (then_parts p (kid_parts k)) more ≡ then_parts p (kid_before k more)
kid_added p k more = then_moves p (kid_parts k) more ∙ ap (λ (q : Parts). then_parts p q) (kid_then k.line k.state nothing more)

-- kids are added one by one
pub kids_more : (old : Parts) (kids : List Kid) (i : ℕ) (k copy : Kid) (now after : Parts) → i < length kids → k ≡ get_or kids i k → ((more : Parts) → kid_before copy more ≡ kid_before k more) →
    now ≡ then_parts old (parts_of (take i kids)) → after ≡ then_parts now (kid_parts copy) → after ≡ then_parts old (parts_of (take (i + 1) kids))
kids_more old kids i k copy now after lt is same was added =
    added
    ∙ ap (λ (p : Parts). then_parts now p) (same nothing)
    ∙ ap (λ (p : Parts). then_parts p (kid_parts k)) was
    ∙ then_moves old (parts_of (take i kids)) (kid_parts k)
    ∙ ap (λ (p : Parts). then_parts old p) (sym (pushed (take i kids) k))
    ∙ ap (λ (ks : List Kid). then_parts old (parts_of ks)) (sym (take_more kids i k lt ∙ ap (λ (x : Kid). take i kids ++ x ∷ []) (sym is)))

-- chunks too
pub chunks_more : (old : Parts) (cs : List (Arc Parts Global)) (i : ℕ) (c : Arc Parts Global) (now after : Parts) → i < length cs → c ≡ get_or cs i c →
    now ≡ then_parts old (all_of (take i cs)) → after ≡ then_parts now c.value → after ≡ then_parts old (all_of (take (i + 1) cs))
chunks_more old cs i c now after lt is was added =
    added
    ∙ ap (λ (p : Parts). then_parts p c.value) was
    ∙ then_moves old (all_of (take i cs)) c.value
    ∙ ap (λ (p : Parts). then_parts old p) (sym (chunk_pushed (take i cs) c))
    ∙ ap (λ (ds : List (Arc Parts Global)). then_parts old (all_of ds)) (sym (take_more cs i c lt ∙ ap (λ (x : Arc Parts Global). take i cs ++ x ∷ []) (sym is)))

-- ---- a first line

pub first_line : (at : TaskPlace) (l : Line) (more : Parts) (r : Bool) → ((b : Bool) → r ≡ ends_later at b (own_line l nothing)) → r ≡ true → begins_later at (own_line l more) ≡ true
first_line at (MayBegin p) more r is e = sym (is false) ∙ e
first_line at (Asks w) more r is e =
    let no : r ≡ false = is false in
    absurd (cc (no, e))

-- the kid at a position, and those behind it
pub here : (kids : List Kid) (n : ℕ) (k : Kid) → slice_get kids n ≡ Some k → drop n kids ≡ k ∷ drop (suc n) kids
here [] n k is = absurd (cc is)
here (x ∷ kids) zero k is =
    let same : x ≡ k = cc is in
    ap (λ (y : Kid). y ∷ kids) same
here (x ∷ kids) (suc n) k is = here kids n k is

pub kid_begins : (at : TaskPlace) (kids : List Kid) (n : ℕ) (k : Kid) (rest : Parts) → slice_get kids n ≡ Some k → ((more : Parts) → begins_later at (kid_before k more) ≡ true) → begins_later at (then_parts (parts_of (drop n kids)) rest) ≡ true
kid_begins at kids n k rest is begins =
    ap (λ (ks : List Kid). begins_later at (then_parts (parts_of ks) rest)) (here kids n k is)
    ∙ ap (λ (p : Parts). begins_later at p) (kid_then k.line k.state (parts_of (drop (suc n) kids)) rest)
    ∙ begins (then_parts (parts_of (drop (suc n) kids)) rest)

-- ---- a chunk behind an empty one

pub behind_empty : (cs new : List (Arc Parts Global)) (c : Arc Parts Global) (last : Parts) → last ≡ nothing → new ≡ cs ++ c ∷ [] → then_parts (all_of new) last ≡ then_parts (then_parts (all_of cs) last) c.value
behind_empty cs new c last none is =
    ap (λ (ds : List (Arc Parts Global)). then_parts (all_of ds) last) is
    ∙ ap (λ (p : Parts). then_parts p last) (chunk_pushed cs c)
    ∙ ap (λ (p : Parts). then_parts (then_parts (all_of cs) c.value) p) none
    ∙ then_nothing (then_parts (all_of cs) c.value)
    ∙ sym (ap (λ (p : Parts). then_parts (then_parts (all_of cs) p) c.value) none ∙ ap (λ (p : Parts). then_parts p c.value) (then_nothing (all_of cs)))

-- ---- a kid among others, with more before and behind

pub put_in : (at : TaskPlace) (kid : Kid) (self front later old new : Parts) (kids : List Kid) (behind : Behind) (among : IsAmong at front old kids kid behind) → self ≡ then_parts front (then_parts (parts_of kids) later) →
    ends_later at false front ≡ false → begins_later at (then_parts (parts_of (drop among.place kids)) later) ≡ true → new ≡ then_parts old later → IsPut at (kid_parts kid) self new
put_in at kid self front later old new kids behind among was ends begins is =
    let before = parts_of (take among.place kids) in
    let after = parts_of (drop among.place kids) in
    record {
      front = then_parts front before;
      back = then_parts after later;
      was =
          was
          ∙ ap (λ (p : Parts). then_parts front (then_parts p later)) (kids_split kids among.place)
          ∙ ap (λ (p : Parts). then_parts front p) (then_moves before after later)
          ∙ sym (then_moves front before (then_parts after later));
      is =
          is
          ∙ ap (λ (p : Parts). then_parts p later) among.is
          ∙ then_moves front (then_parts before (kid_before kid after)) later
          ∙ ap (λ (p : Parts). then_parts front p) (then_moves before (kid_before kid after) later ∙ ap (λ (p : Parts). then_parts before p) (kid_then kid.line kid.state after later ∙ sym (kid_then kid.line kid.state nothing (then_parts after later))))
          ∙ sym (then_moves front before (then_parts (kid_parts kid) (then_parts after later)));
      ends = both_end at front before ends among.ends;
      begins = begins;
    }

-- ---- no kid is left out

pub some_kid : (n : ℕ) → false ≡ nat_eq n 0 → (n - 1) + 1 ≡ n
some_kid zero e = absurd (cc e)
some_kid (suc n) e = omega arith

-- ---- behind the last kids

pub ends_or_begins : (at : TaskPlace) (kids : List Kid) (n : ℕ) (b : Behind) → (b ≡ Later) ⊎ (b ≡ Nothing) → TellsBehind at kids n b → begins_later at (then_parts (parts_of (drop n kids)) nothing) ≡ true
ends_or_begins at kids n b (inl e) tells = subst (λ (x : Behind). TellsBehind at kids n x) e tells nothing
ends_or_begins at kids n b (inr e) tells = ap (λ (p : Parts). begins_later at (then_parts p nothing)) (subst (λ (x : Behind). TellsBehind at kids n x) e tells)
