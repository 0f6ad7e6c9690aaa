-- A task that begins, one part after the other.
use Rattle.std.proofs.Common.{◌≡◌, [], ◌∷◌, Bool, true, false, cond, Option, Some, None, refl, sym, ap, ◌∙◌}
use Rattle.std.specs.Prelude.{◌||◌, option_map, is_some}
use Rattle.std.proofs.lemmas.Iterator.Adapters.{option_map_id}
use Rattle.std.specs.declared.sync.Arc.{Arc}
use Rattle.std.specs.declared.alloc.Global.{Global}
use Rattle.tree_types.specs.declared.path.Path.{Path}
use Rattle.tree_types.specs.Places.{sels_eq}
use Rattle.meaning.specs.Lines.{Parts, nothing, call, may_begin, asks, Made, then_parts, row_of, lines_below, lines_over}
use Rattle.tree_state.specs.declared.sum.Sum.{Sum}
use Rattle.tree_state.specs.declared.state.Line.{Line}
use Rattle.tree_state.specs.declared.state.Line.TheVariants.{MayBegin, Asks}
use Rattle.tree_state.specs.declared.state.Kid.{Kid}
use Rattle.tree_state.specs.Beginning.{begun}
use Rattle.tree_state.specs.Inside.Kids.{own_line, line_then, state_then, kid_before, kid_parts}
use Rattle.tree_state.specs.Inside.Sums.{let_begin, sum_of}
use Rattle.tree_state.specs.Inside.Begun.{lets_begin, own_lets, begins_in, begun_by}
use Rattle.tree_state.proofs.Kids.{kid_then, then_nothing, then_moves}
use Rattle.tree_state.proofs.Sums.{begin_then}

mapped_twice : {A B C : Type 0} (f : B → C) (g : A → B) (o : Option A) → option_map f (option_map g o) ≡ option_map (λ a. f (g a)) o
mapped_twice f g None = refl
mapped_twice f g (Some a) = refl

neither_first : (b c : Bool) → (b || c) ≡ false → b ≡ false
neither_first true c off = off
neither_first false c off = refl

neither_next : (b c : Bool) → (b || c) ≡ false → c ≡ false
neither_next true c off = absurd (cc)
neither_next false c off = off

-- ---- where the task does not begin

-- no line lets any task begin
none_lets : (p : Parts) (q : Path) → let_begin (lines_below p) ≡ false → begins_in p q ≡ false
none_lets nothing q off = refl
none_lets (call own inner more) q off =
    let here = lines_over own.node own.wants (lines_below inner) in
    none_lets more q (neither_next (let_begin here) (let_begin (lines_below more)) (sym (begin_then here (lines_below more)) ∙ off))
none_lets (may_begin r more) q off = absurd (cc)
none_lets (asks w more) q off = none_lets more q off

-- the same by what is kept of the parts
pub none_kept : (p : Parts) (q : Path) (s : Sum) → s ≡ sum_of p → s.asks.beginnings ≡ false → begins_in p q ≡ false
none_kept p q s kept off = none_lets p q (sym (ap (λ (x : Sum). x.asks.beginnings) kept) ∙ off)

skipped : (p rest : Parts) (q : Path) (m : Made) → begins_in p q ≡ false → begun (then_parts p rest) q m ≡ option_map (then_parts p) (begun rest q m)
skipped nothing rest q m off = sym (option_map_id (begun rest q m))
skipped (call own inner more) rest q m off =
    ap (λ (o : Option Parts). option_map (call own inner) o) (skipped more rest q m off) ∙ mapped_twice (call own inner) (then_parts more) (begun rest q m)
skipped (may_begin r more) rest q m off =
    ap (λ (b : Bool). cond b (Some (call m.own m.parts (then_parts more rest))) (option_map (may_begin r) (begun (then_parts more rest) q m))) (neither_first (sels_eq r.sels q.sels) (begins_in more q) off)
    ∙ ap (λ (o : Option Parts). option_map (may_begin r) o) (skipped more rest q m (neither_next (sels_eq r.sels q.sels) (begins_in more q) off))
    ∙ mapped_twice (may_begin r) (then_parts more) (begun rest q m)
skipped (asks w more) rest q m off =
    ap (λ (o : Option Parts). option_map (asks w) o) (skipped more rest q m off) ∙ mapped_twice (asks w) (then_parts more) (begun rest q m)

-- such parts stay as they are
pub skips : (p rest : Parts) (q : Path) (o : Option Made) → begins_in p q ≡ false → option_map (then_parts p) (begun_by rest q o) ≡ begun_by (then_parts p rest) q o
skips p rest q None off = refl
skips p rest q (Some m) off = sym (skipped p rest q m off)

-- no task begins among them
pub none_begun : (p : Parts) (q : Path) (m : Made) → begins_in p q ≡ false → None ≡ begun p q m
none_begun p q m off = sym (skipped p nothing q m off) ∙ ap (λ (x : Parts). begun x q m) (then_nothing p)

-- ---- whether the task begins, kid by kid

line_begins : (l : Line) (more : Parts) (q : Path) → begins_in (own_line l more) q ≡ (lets_begin l q || begins_in more q)
line_begins (MayBegin r) more q = refl
line_begins (Asks w) more q = refl

kid_begins : (l : Option (Arc Line Global)) (s : Option (Arc Made Global)) (more : Parts) (q : Path) → begins_in (line_then l (state_then s more)) q ≡ (own_lets l q || begins_in more q)
kid_begins None None more q = refl
kid_begins None (Some s) more q = refl
kid_begins (Some l) None more q = line_begins l.value more q
kid_begins (Some l) (Some s) more q = line_begins l.value (state_then (Some s) more) q

-- ---- a kid that is added, or the call in the place of its line

-- the kid lets no such task begin, or the call stands already in its place
pub kid_stays : (k new : Kid) (chunk after rest : Parts) (q : Path) (o : Option Made) →
    ((more : Parts) → kid_before new more ≡ kid_before k more) → after ≡ then_parts chunk (kid_parts new) →
    ((more : Parts) → option_map (kid_before k) (begun_by more q o) ≡ begun_by (kid_before k more) q o) →
    option_map (then_parts after) (begun_by rest q o) ≡ option_map (then_parts chunk) (begun_by (kid_before k rest) q o)
kid_stays k new chunk after rest q o same added stays =
    ap (λ (p : Parts). option_map (then_parts p) (begun_by rest q o)) (added ∙ ap (λ (p : Parts). then_parts chunk p) (same nothing))
    ∙ moved (begun_by rest q o)
    ∙ ap (λ (x : Option Parts). option_map (then_parts chunk) x) (stays rest)
  where
    moved : (x : Option Parts) → option_map (then_parts (then_parts chunk (kid_parts k))) x ≡ option_map (then_parts chunk) (option_map (kid_before k) x)
    moved None = refl
    moved (Some p) = ap (λ (r : Parts). Some r) (then_moves chunk (kid_parts k) p ∙ ap (λ (r : Parts). then_parts chunk r) (kid_then k.line k.state nothing p))

-- a kid whose line does not let the task begin
pub kid_skips : (k : Kid) (q : Path) (o : Option Made) (b : Bool) → b ≡ own_lets k.line q → b ≡ false → (more : Parts) → option_map (kid_before k) (begun_by more q o) ≡ begun_by (kid_before k more) q o
kid_skips k q o b own off more =
    moved (begun_by more q o)
    ∙ skips (kid_parts k) more q o (kid_begins k.line k.state nothing q ∙ ap (λ (x : Bool). x || false) (sym own ∙ off))
    ∙ ap (λ (p : Parts). begun_by p q o) (kid_then k.line k.state nothing more)
  where
    moved : (x : Option Parts) → option_map (kid_before k) x ≡ option_map (then_parts (kid_parts k)) x
    moved None = refl
    moved (Some p) = ap (λ (r : Parts). Some r) (sym (kid_then k.line k.state nothing p))

-- a kid whose line lets the task begin
line_begun : (l : Option (Arc Line Global)) (more : Parts) (q : Path) (m : Made) → own_lets l q ≡ true → Some (call m.own m.parts more) ≡ begun (line_then l more) q m
line_begun None more q m on = absurd (cc)
line_begun (Some l) more q m on = by_line l.value on
  where
    by_line : (x : Line) → lets_begin x q ≡ true → Some (call m.own m.parts more) ≡ begun (own_line x more) q m
    by_line (MayBegin r) e = ap (λ (b : Bool). cond b (Some (call m.own m.parts more)) (option_map (may_begin r) (begun more q m))) (sym e)
    by_line (Asks w) e = absurd (cc)

pub kid_begun : (k : Kid) (chunk after rest : Parts) (q : Path) (m : Made) (b : Bool) → b ≡ own_lets k.line q → b ≡ true →
    after ≡ then_parts chunk (call m.own m.parts (state_then k.state nothing)) →
    Some (then_parts after rest) ≡ option_map (then_parts chunk) (begun (kid_before k rest) q m)
kid_begun k chunk after rest q m b own on added =
    ap (λ (p : Parts). Some (then_parts p rest)) added
    ∙ ap (λ (p : Parts). Some p) (then_moves chunk (call m.own m.parts (state_then k.state nothing)) rest)
    ∙ ap (λ (p : Parts). Some (then_parts chunk (call m.own m.parts p))) (kid_then None k.state nothing rest)
    ∙ ap (λ (o : Option Parts). option_map (then_parts chunk) o) (line_begun k.line (state_then k.state rest) q m (sym own ∙ on))

-- the call, and behind it that of the kid
pub added_both : (chunk after whole : Parts) (new kid : Kid) (m : Made) (s : Option (Arc Made Global)) →
    kid_parts new ≡ row_of (m ∷ []) → ((more : Parts) → kid_before kid more ≡ state_then s more) →
    after ≡ then_parts chunk (kid_parts new) → whole ≡ then_parts after (kid_parts kid) → whole ≡ then_parts chunk (call m.own m.parts (state_then s nothing))
added_both chunk after whole new kid m s one other first next =
    next
    ∙ ap (λ (p : Parts). then_parts p (kid_parts kid)) (first ∙ ap (λ (p : Parts). then_parts chunk p) one)
    ∙ then_moves chunk (row_of (m ∷ [])) (kid_parts kid)
    ∙ ap (λ (p : Parts). then_parts chunk (call m.own m.parts p)) (other nothing)

-- ---- the last chunk, once all are gone over

module _ (new last : Parts) (q : Path) (wanted kept : Option Made) (is : (rest : Parts) → option_map (then_parts new) (begun_by rest q kept) ≡ begun_by (then_parts last rest) q wanted) where
  whole : (o : Option Made) → kept ≡ o → option_map (then_parts new) (begun_by nothing q o) ≡ begun_by last q wanted
  whole o e = ap (λ (x : Option Made). option_map (then_parts new) (begun_by nothing q x)) (sym e) ∙ is nothing ∙ ap (λ (p : Parts). begun_by p q wanted) (then_nothing last)

  -- the call is left over
  pub left_over : is_some kept ≡ true → None ≡ begun_by last q wanted
  left_over on = at kept refl on
    where
      at : (o : Option Made) → kept ≡ o → is_some o ≡ true → None ≡ begun_by last q wanted
      at None e off = absurd (cc)
      at (Some m) e on = whole (Some m) e

  -- the call has its place
  pub has_begun : is_some kept ≡ false → Some new ≡ begun_by last q wanted
  has_begun off = at kept refl off
    where
      at : (o : Option Made) → kept ≡ o → is_some o ≡ false → Some new ≡ begun_by last q wanted
      at None e off = ap (λ (p : Parts). Some p) (sym (then_nothing new)) ∙ whole None e
      at (Some m) e on = absurd (cc)

-- ---- chunk by chunk

-- none begins in the last chunk, and what is before it is only put in front
pub none_before : (full last : Parts) (all : Option Parts) (q : Path) (o : Option Made) → None ≡ begun_by last q o → option_map (then_parts full) (begun_by last q o) ≡ all → None ≡ all
none_before full last all q o none was = ap (λ (x : Option Parts). option_map (then_parts full) x) none ∙ was

pub some_before : (full new last : Parts) (all : Option Parts) (q : Path) (o : Option Made) → Some new ≡ begun_by last q o → option_map (then_parts full) (begun_by last q o) ≡ all → Some (then_parts full new) ≡ all
some_before full new last all q o has was = ap (λ (x : Option Parts). option_map (then_parts full) x) has ∙ was

-- a chunk more stands in front
pub chunk_begun : (full new : Parts) (x : Option Parts) → option_map (then_parts (then_parts full new)) x ≡ option_map (then_parts full) (option_map (then_parts new) x)
chunk_begun full new None = refl
chunk_begun full new (Some p) = ap (λ (r : Parts). Some r) (then_moves full new p)
