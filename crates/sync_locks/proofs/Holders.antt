-- Which keys and workflows hold locks, told by the places of the requests that hold.
use Rattle.std.proofs.Common.{◌≡◌, ℕ, zero, suc, ◌+◌, ◌<◌, Bool, true, false, not, cond, ◌&&◌, ◌||◌, bytes_eq, List, [], ◌∷◌, length, get_or, Option, Some, None, option_map, refl, sym, ◌∙◌, ap, ap₂, arith, true≢false}
use Rattle.std.specs.Prelude.{slice_get, MatchOption}
use Rattle.std.specs.Borrow.{Bor}
use Rattle.std.specs.List.{list_any, sum_by}
use Rattle.std.proofs.lemmas.List.Folds.{Any-from_list_any, list_any_at}
use Rattle.std.proofs.lemmas.List.Sums.{sum_by-cons}
use Rattle.std.proofs.lemmas.Slice.Eq.{bytes_eq-Decides}
use Rattle.tree_types.specs.declared.entry.HolderKey.{HolderKey}
use Rattle.tree_types.specs.declared.path.Path.{Path}
use Rattle.tree_types.specs.Places.{sels_eq}
use Rattle.books.specs.declared.Request.{Request}
use Rattle.books.specs.declared.LockState.{LockState}
use Rattle.books.specs.declared.LockState.TheVariants.{Waiting, Holding, Released}
use Rattle.books.specs.Books.{Text, key_eq, is_holding, count, request_of}
use Rattle.books.specs.Laws.{is_of, KeysDiffer}
use Rattle.books.proofs.Keys.{key_same, key_is}
use Rattle.sync_locks.specs.Book.{holds, is_held, state_in, key_by, holds_now, has_many_holders, is_of_workflow, is_where, is_held_where, may_hold}
use Rattle.sync_locks.specs.declared.asked.Asked.{Asked}
use Rattle.sync_locks.specs.declared.holder.Holder.{Holder}
use Rattle.sync_locks.specs.Inside.Holders.{places_in}
use Rattle.sync_locks.specs.Inside.Rows.{asked_of, passes, is_at}
use Rattle.sync_locks.specs.Inside.Queues.{sum_from, Lists}
use Rattle.sync_locks.proofs.Sums.{is_listed, listed_stands}
use Rattle.sync_locks.proofs.Turns.{any_at, none_at}

-- ---- tests

pub not_true : (b : Bool) → not b ≡ true → b ≡ false
not_true false e = refl
not_true true e = sym e

pub not_false : (b : Bool) → not b ≡ false → b ≡ true
not_false true e = refl
not_false false e = sym e

both : (a b : Bool) → a ≡ true → b ≡ true → (a && b) ≡ true
both a b e f = ap₂ ◌&&◌ e f

pub and_false : (a b : Bool) → b ≡ false → (a && b) ≡ false
and_false true b e = e
and_false false b e = refl

or_false : (a b : Bool) → (a || b) ≡ false → (a ≡ false) × (b ≡ false)
or_false true b e = absurd (true≢false e)
or_false false b e = (refl, e)

alone : (a b : Bool) → b ≡ false → ((a && true) || b) ≡ a
alone true b e = refl
alone false b e = e

none_more : (f g : Request → Bool) (rs : List Request) → list_any g rs ≡ false → list_any (λ r. f r && g r) rs ≡ false
none_more f g [] e = refl
none_more f g (r ∷ rs) e =
    let two = or_false (g r) (list_any g rs) e in
    ap₂ ◌||◌ (and_false (f r) (g r) two.0) (none_more f g rs two.1)

-- ---- of the requests that stand so one passes, where one passes of those whose places are listed

module _ (so : LockState → Bool) (test : Request → Bool) (places : List ℕ) (rs : List Request) (lists : Lists so places rs) where
  pub any_listed : list_any (is_at test rs) places ≡ list_any (λ r. so r.state && test r) rs
  any_listed = by (list_any (is_at test rs) places) refl
    where
      one : (i : ℕ) (r : Request) → slice_get rs i ≡ Some r → list_any (is_at test rs) places ≡ false → (a b : Bool) → so r.state ≡ a → test r ≡ b → (a && b) ≡ false
      one i r e none false b s t = refl
      one i r e none true false s t = refl
      one i r e none true true s t =
          let at = is_listed so places rs lists i r e s in
          absurd (true≢false
          (sym (list_any_at (is_at test rs) places at.0 i at.1 (ap (is_at test rs) at.2 ∙ ap (passes test) e ∙ t)) ∙ none))

      by : (b : Bool) → list_any (is_at test rs) places ≡ b → b ≡ list_any (λ r. so r.state && test r) rs
      by true e =
          let at = Any-from_list_any (is_at test rs) places e in
          let there = listed_stands so places rs lists at.0 at.1 at.2 in
          sym
          (any_at (λ r. so r.state && test r) rs (get_or places at.0 at.1) there.0 there.1
          (both (so there.0.state) (test there.0) there.2 (sym (ap (passes test) there.1) ∙ ap (is_at test rs) at.3 ∙ at.4)))
      by false e =
          sym (none_at (λ r. so r.state && test r) rs (λ i r there. one i r there e (so r.state) (test r) refl refl))

-- ---- the request of a key, where keys differ

pub held_alone : (key : HolderKey) (rs : List Request) → KeysDiffer rs → list_any (λ r. is_holding r.state && is_of key r) rs ≡ is_held key rs
held_alone key [] apart = refl
held_alone key (q ∷ rs) apart = by (key_eq key q.key) refl (held_alone key rs apart.1)
  where
    by : (b : Bool) → key_eq key q.key ≡ b → list_any (λ r. is_holding r.state && is_of key r) rs ≡ is_held key rs → ((is_holding q.state && b) || list_any (λ r. is_holding r.state && is_of key r) rs) ≡ holds (cond b (Some q) (request_of rs key))
    by true e rest =
        alone (is_holding q.state) (list_any (λ r. is_holding r.state && is_of key r) rs)
        (none_more holds_now (is_of key) rs (ap (λ k. list_any (is_of k) rs) (key_same key q.key e) ∙ apart.0))
    by false e rest =
        ap (λ (a : Bool). a || list_any (λ r. is_holding r.state && is_of key r) rs) (and_false (is_holding q.state) false refl) ∙ rest

-- ---- the requests of a workflow

-- where none of them holds no path does
pub none_held : (workflow : Text) (path : Path) (rs : List Request) → list_any (λ r. holds_now r && is_of_workflow workflow r) rs ≡ false → is_held (key_by workflow path) rs ≡ false
none_held workflow path [] e = refl
none_held workflow path (q ∷ rs) e =
    let two = or_false (holds_now q && is_of_workflow workflow q) (list_any (λ r. holds_now r && is_of_workflow workflow r) rs) e in
    by (is_of_workflow workflow q) (sels_eq path.sels q.key.path.sels) two.0 (none_held workflow path rs two.1)
  where
    by : (a b : Bool) → (is_holding q.state && a) ≡ false → is_held (key_by workflow path) rs ≡ false → holds (cond (a && b) (Some q) (request_of rs (key_by workflow path))) ≡ false
    by true true h rest = sym (alone (is_holding q.state) false refl) ∙ ap (λ (x : Bool). x || false) h
    by true false h rest = rest
    by false b h rest = rest

pub none_may : (workflow : Text) (path : Path) (rs : List Request) → may_hold workflow rs ≡ false → is_held (key_by workflow path) rs ≡ false
none_may workflow path rs e =
    none_held workflow path rs (or_false (has_many_holders rs) (list_any (λ r. holds_now r && is_of_workflow workflow r) rs) e).1

-- where none of them for a path that passes holds, no path that holds passes
pub none_where : (workflow : Text) (test : Path → Bool) (path : Path) (rs : List Request) → is_held_where workflow test rs ≡ false → is_held (key_by workflow path) rs ≡ true → test path ≡ false
none_where workflow test path [] e held = absurd (true≢false (sym held))
none_where workflow test path (q ∷ rs) e held =
    let two = or_false (holds_now q && is_where workflow test q) (is_held_where workflow test rs) e in
    by (key_eq (key_by workflow path) q.key) refl two.0 (none_where workflow test path rs two.1) held
  where
    passes_not : (a b d : Bool) → (a && (b && d)) ≡ false → a ≡ true → b ≡ true → d ≡ false
    passes_not true true d e f g = e
    passes_not true false d e f g = absurd (true≢false (sym g))
    passes_not false b d e f g = absurd (true≢false (sym f))

    by : (b : Bool) → key_eq (key_by workflow path) q.key ≡ b → (is_holding q.state && (bytes_eq workflow q.key.workflow && test q.key.path)) ≡ false → (is_held (key_by workflow path) rs ≡ true → test path ≡ false) → holds (cond b (Some q) (request_of rs (key_by workflow path))) ≡ true → test path ≡ false
    by true same none rest held =
        let own : key_by workflow path ≡ q.key = key_same (key_by workflow path) q.key same in
        ap (λ (k : HolderKey). test k.path) own
        ∙ passes_not (is_holding q.state) (bytes_eq workflow q.key.workflow) (test q.key.path) none held
        ((bytes_eq-Decides workflow q.key.workflow).1 (ap (λ (k : HolderKey). k.workflow) own))
    by false same none rest held = rest held

-- what is found, by paths
pub found_or_none : (workflow : Text) (test : Path → Bool) (rs : List Request) (o : Option (Bor Path)) → MatchOption o (is_held_where workflow test rs ≡ false) (λ path. (is_held (key_by workflow path.now) rs ≡ true) × (test path.now ≡ true)) → MatchOption o ((path : Path) → is_held (key_by workflow path) rs ≡ true → test path ≡ false) (λ path. (is_held (key_by workflow path.now) rs ≡ true) × (test path.now ≡ true))
found_or_none workflow test rs None e = λ path held. none_where workflow test path rs e held
found_or_none workflow test rs (Some path) e = e

-- ---- how many hold

sum_ones : (places : List ℕ) → sum_by (λ n. 1) places ≡ length places
sum_ones [] = refl
sum_ones (p ∷ places) = let e = sum_by-cons (λ n. 1) p places in let rest = sum_ones places in omega (arith, e, rest)

count_ones : (so : LockState → Bool) (here : ℕ) (rs : List Request) → sum_from so (λ n. 1) here rs ≡ count (λ r. so r.state) rs
count_ones so here [] = refl
count_ones so here (r ∷ rs) = by (so r.state) (count_ones so (suc here) rs)
  where
    by : (b : Bool) → sum_from so (λ n. 1) (suc here) rs ≡ count (λ q. so q.state) rs → cond b 1 0 + sum_from so (λ n. 1) (suc here) rs ≡ cond b (suc (count (λ q. so q.state) rs)) (count (λ q. so q.state) rs)
    by true e = omega (arith, e)
    by false e = omega (arith, e)

pub count_listed : (holding : List ℕ) (rs : List Request) → Lists is_holding holding rs → length holding ≡ count holds_now rs
count_listed holding rs lists = sym (sum_ones holding) ∙ lists (λ n. 1) ∙ count_ones is_holding 0 rs

-- ---- by how a request stands

pub held_state : (key : HolderKey) (rs : List Request) (s : LockState) → Some s ≡ state_in key rs → is_held key rs ≡ is_holding s
held_state key rs s e = by (request_of rs key) e
  where
    by : (o : Option Request) → Some s ≡ option_map (λ (r : Request). r.state) o → holds o ≡ is_holding s
    by None h = absurd (cc h)
    by (Some r) h = ap is_holding (let z : r.state ≡ s = cc in z)

pub holding_not : (s : LockState) → (s ≡ Holding → ⊥) → is_holding s ≡ false
holding_not Waiting n = refl
holding_not Holding n = absurd (n refl)
holding_not Released n = refl

pub workflow_passes : (workflow : Text) (o : Option Request) (a : Asked) → Some a ≡ option_map asked_of o → bytes_eq workflow a.key.workflow ≡ passes (is_of_workflow workflow) o
workflow_passes workflow None a e = absurd (cc e)
workflow_passes workflow (Some r) a e = ap (λ (x : Asked). bytes_eq workflow x.key.workflow) (let z : a ≡ asked_of r = cc in z)

pub where_passes : (workflow : Text) (test : Path → Bool) (o : Option Request) (a : Asked) → Some a ≡ option_map asked_of o → (bytes_eq workflow a.key.workflow && test a.key.path) ≡ passes (is_where workflow test) o
where_passes workflow test None a e = absurd (cc e)
where_passes workflow test (Some r) a e = ap (λ (x : Asked). bytes_eq workflow x.key.workflow && test x.key.path) (let z : a ≡ asked_of r = cc in z)

-- the request at a place, by what was asked for there
pub asked_there : (o : Option Request) (a : Asked) → Some a ≡ option_map asked_of o → (r : Request) × (o ≡ Some r) × (r.key ≡ a.key)
asked_there None a e = absurd (cc e)
asked_there (Some r) a e = (r, refl, ap (λ (x : Asked). x.key) (let z : asked_of r ≡ a = cc in z))

pub keyed : (workflow : Text) (key : HolderKey) → bytes_eq workflow key.workflow ≡ true → key ≡ key_by workflow key.path
keyed workflow key same =
    ap (λ (w : Text). key_by w key.path) (sym ((bytes_eq-Decides workflow key.workflow).0 same))

-- ---- one that holds

place_at : (hs : List Holder) (k : ℕ) (h : Holder) → get_or (places_in hs) k h.place ≡ (get_or hs k h).place
place_at [] k h = refl
place_at (x ∷ hs) zero h = refl
place_at (x ∷ hs) (suc k) h = place_at hs k h

places_as_many : (hs : List Holder) → length (places_in hs) ≡ length hs
places_as_many [] = refl
places_as_many (h ∷ hs) = ap suc (places_as_many hs)

-- where the request at the place of a holder has a key, the key holds
pub holds_there : (hs : List Holder) (rs : List Request) → Lists is_holding (places_in hs) rs → (k : ℕ) (h : Holder) → k < length hs → (r : Request) → slice_get rs (get_or hs k h).place ≡ Some r → KeysDiffer rs → is_held r.key rs ≡ true
holds_there hs rs lists k h within r at apart =
    let many = places_as_many hs in
    let there = listed_stands is_holding (places_in hs) rs lists k h.place (omega (arith, many)) in
    let here : slice_get rs (get_or (places_in hs) k h.place) ≡ Some r = ap (slice_get rs) (place_at hs k h) ∙ at in
    let same : there.0 ≡ r = (let z : Some there.0 ≡ Some r = sym there.1 ∙ here in cc) in
    sym (held_alone r.key rs apart)
    ∙ any_at (λ q. is_holding q.state && is_of r.key q) rs (get_or hs k h).place r at
    (both (is_holding r.state) (is_of r.key r) (sym (ap (λ (q : Request). is_holding q.state) same) ∙ there.2) (key_is r.key))
