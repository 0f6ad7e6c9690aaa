-- What stands below a node, one part after the other.
use Rattle.std.proofs.Common.{◌≡◌, ℕ, suc, ◌+◌, ◌<◌, ◌≤◌, length, get_or, drop, drop-cons, arith, List, [], ◌∷◌, ◌++◌, Option, Some, None, refl, sym, ap, ◌∙◌}
use Rattle.std.proofs.lemmas.List.{drop_all}
use Rattle.std.specs.declared.sync.Arc.{Arc}
use Rattle.std.specs.declared.alloc.Global.{Global}
use Rattle.meaning.specs.Lines.{Parts, nothing, call, may_begin, asks, Made, then_parts}
use Rattle.tree_state.specs.declared.state.Line.{Line}
use Rattle.tree_state.specs.declared.state.Line.TheVariants.{MayBegin, Asks}
use Rattle.tree_state.specs.declared.state.Kid.{Kid}
use Rattle.tree_state.specs.declared.state.State.TheInside.{Inside}
use Rattle.tree_state.specs.Inside.Kids.{own_line, line_then, state_then, kid_before, kid_parts, parts_of, replaced_by}

line_moves : (l : Line) (rest more : Parts) → then_parts (own_line l rest) more ≡ own_line l (then_parts rest more)
line_moves (MayBegin p) rest more = refl
line_moves (Asks w) rest more = refl

pub kid_then : (l : Option (Arc Line Global)) (s : Option (Arc Made Global)) (rest more : Parts) →
    then_parts (line_then l (state_then s rest)) more ≡ line_then l (state_then s (then_parts rest more))
kid_then None None rest more = refl
kid_then None (Some s) rest more = refl
kid_then (Some l) None rest more = line_moves l.value rest more
kid_then (Some l) (Some s) rest more = line_moves l.value (state_then (Some s) rest) more

pub pushed : (kids : List Kid) (k : Kid) → parts_of (kids ++ k ∷ []) ≡ then_parts (parts_of kids) (line_then k.line (state_then k.state nothing))
pushed [] k = refl
pushed (x ∷ kids) k =
    ap (λ (p : Parts). line_then x.line (state_then x.state p)) (pushed kids k)
    ∙ sym (kid_then x.line x.state (parts_of kids) (line_then k.line (state_then k.state nothing)))

-- what the fields of a state say
abbrev pub made_of : Inside → Made
made_of a = record {
  own = record { node = a.node; wants = a.wants; finished = a.finished; any_succeeded = a.any_succeeded; all_failed = a.all_failed };
  parts = a.below;
}

-- one of a list, and those behind it
pub from_here : {A : Type 0} (xs : List A) (i : ℕ) (x : A) → i < length xs → x ≡ get_or xs i x → drop i xs ≡ x ∷ drop (i + 1) xs
from_here xs i x lt is = drop-cons xs i x lt ∙ ap (λ y. y ∷ drop (suc i) xs) (sym is) ∙ ap (λ n. x ∷ drop n xs) next
  where
    next : suc i ≡ i + 1
    next = omega arith

-- ---- parts put together

pub then_nothing : (p : Parts) → then_parts p nothing ≡ p
then_nothing nothing = refl
then_nothing (call own inner rest) = ap (λ (q : Parts). call own inner q) (then_nothing rest)
then_nothing (may_begin p rest) = ap (λ (q : Parts). may_begin p q) (then_nothing rest)
then_nothing (asks w rest) = ap (λ (q : Parts). asks w q) (then_nothing rest)

pub then_moves : (p q more : Parts) → then_parts (then_parts p q) more ≡ then_parts p (then_parts q more)
then_moves nothing q more = refl
then_moves (call own inner rest) q more = ap (λ (r : Parts). call own inner r) (then_moves rest q more)
then_moves (may_begin p rest) q more = ap (λ (r : Parts). may_begin p r) (then_moves rest q more)
then_moves (asks w rest) q more = ap (λ (r : Parts). asks w r) (then_moves rest q more)

-- a kid behind parts, and more behind it
then_kid : (p : Parts) (k : Kid) (more : Parts) → then_parts (then_parts p (kid_parts k)) more ≡ then_parts p (kid_before k more)
then_kid p k more = then_moves p (kid_parts k) more ∙ ap (λ (q : Parts). then_parts p q) (kid_then k.line k.state nothing more)

-- ---- one call in the place of another, kid by kid

pub replaces_next : (kids : List Kid) (i : ℕ) (k new : Kid) (chunk after rest target : Parts) (left now : ℕ) (wanted kept : Option Made) → i < length kids → k ≡ get_or kids i k →
    ((more : Parts) → kid_before new (replaced_by more now kept) ≡ replaced_by (kid_before k more) left wanted) →
    after ≡ then_parts chunk (kid_parts new) → then_parts chunk (replaced_by (then_parts (parts_of (drop i kids)) rest) left wanted) ≡ target →
    then_parts after (replaced_by (then_parts (parts_of (drop (i + 1) kids)) rest) now kept) ≡ target
replaces_next kids i k new chunk after rest target left now wanted kept lt is puts added was =
    let more = then_parts (parts_of (drop (i + 1) kids)) rest in
    ap (λ (p : Parts). then_parts p (replaced_by more now kept)) added
    ∙ then_kid chunk new (replaced_by more now kept)
    ∙ ap (λ (p : Parts). then_parts chunk p) (puts more)
    ∙ ap (λ (p : Parts). then_parts chunk (replaced_by p left wanted)) (sym (kid_then k.line k.state (parts_of (drop (i + 1) kids)) rest))
    ∙ ap (λ (ks : List Kid). then_parts chunk (replaced_by (then_parts (parts_of ks) rest) left wanted)) (sym (from_here kids i k lt is))
    ∙ was

pub replaces_all : (kids : List Kid) (i : ℕ) (chunk rest target : Parts) (left : ℕ) (wanted : Option Made) → length kids ≤ i →
    then_parts chunk (replaced_by (then_parts (parts_of (drop i kids)) rest) left wanted) ≡ target → then_parts chunk (replaced_by rest left wanted) ≡ target
replaces_all kids i chunk rest target left wanted end was =
    ap (λ (ks : List Kid). then_parts chunk (replaced_by (then_parts (parts_of ks) rest) left wanted)) (sym (drop_all i kids end)) ∙ was

-- ---- kid by kid, copied

pub copies_next : (kids : List Kid) (i : ℕ) (k new : Kid) (copied after : List Kid) → i < length kids → k ≡ get_or kids i k →
    ((more : Parts) → kid_before new more ≡ kid_before k more) → after ≡ copied ++ new ∷ [] →
    then_parts (parts_of copied) (parts_of (drop i kids)) ≡ parts_of kids → then_parts (parts_of after) (parts_of (drop (i + 1) kids)) ≡ parts_of kids
copies_next kids i k new copied after lt is same added was =
    let more = parts_of (drop (i + 1) kids) in
    ap (λ (ks : List Kid). then_parts (parts_of ks) more) added
    ∙ ap (λ (p : Parts). then_parts p more) (pushed copied new)
    ∙ then_kid (parts_of copied) new more
    ∙ ap (λ (p : Parts). then_parts (parts_of copied) p) (same more)
    ∙ ap (λ (ks : List Kid). then_parts (parts_of copied) (parts_of ks)) (sym (from_here kids i k lt is))
    ∙ was

pub copies_all : (kids copied : List Kid) (i : ℕ) → length kids ≤ i →
    then_parts (parts_of copied) (parts_of (drop i kids)) ≡ parts_of kids → parts_of copied ≡ parts_of kids
copies_all kids copied i end was =
    sym (then_nothing (parts_of copied))
    ∙ ap (λ (ks : List Kid). then_parts (parts_of copied) (parts_of ks)) (sym (drop_all i kids end))
    ∙ was

-- nothing is replaced
pub unchanged : (chunk old : Parts) (left : ℕ) (o : Option Made) → then_parts chunk (replaced_by nothing left o) ≡ then_parts old nothing → chunk ≡ old
unchanged chunk old left o is = sym (then_nothing chunk) ∙ ap (λ (p : Parts). then_parts chunk p) (sym (none_left o)) ∙ is ∙ then_nothing old
  where
    none_left : (x : Option Made) → replaced_by nothing left x ≡ nothing
    none_left None = refl
    none_left (Some m) = refl

-- all that there is is gone over
pub replaced_whole : (new old : Parts) (left now : ℕ) (wanted kept : Option Made) → then_parts new (replaced_by nothing now kept) ≡ replaced_by (then_parts old nothing) left wanted → new ≡ replaced_by old left wanted
replaced_whole new old left now wanted kept is =
    sym (then_nothing new) ∙ ap (λ (p : Parts). then_parts new p) (sym (none_left kept)) ∙ is ∙ ap (λ (p : Parts). replaced_by p left wanted) (then_nothing old)
  where
    none_left : (x : Option Made) → replaced_by nothing now x ≡ nothing
    none_left None = refl
    none_left (Some m) = refl
