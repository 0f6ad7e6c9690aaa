-- One request of a list is changed, found by a test or at its place.
use Rattle.std.proofs.Common.{◌≡◌, ℕ, ◌<◌, Bool, true, false, cond, ◌||◌, List, [], ◌∷◌, ◌++◌, length, Option, Some, None, option_map, refl, sym, ◌∙◌, ap, ap₂, arith, true≢false, length-append}
use Rattle.std.proofs.Math.ListN.{set}
use Rattle.std.specs.Prelude.{slice_get}
use Rattle.std.specs.List.{list_any}
use Rattle.tree_types.specs.declared.entry.HolderKey.{HolderKey}
use Rattle.books.specs.declared.Request.{Request}
use Rattle.books.specs.declared.LockState.{LockState}
use Rattle.books.specs.declared.LockState.TheVariants.{Holding}
use Rattle.books.specs.Books.{key_eq, change_first, request_of}
use Rattle.books.specs.Laws.{is_of}
use Rattle.sync_locks.specs.Book.{state_in, place}
use Rattle.sync_locks.proofs.Places.{At, at_place}

pub unchanged : (test : Request → Bool) (f : Request → Request) (rs : List Request) → list_any test rs ≡ false → change_first test f rs ≡ rs
unchanged test f [] n = refl
unchanged test f (r ∷ rs) n = by (test r) n (λ k. unchanged test f rs k)
  where
    by : (b : Bool) → (b || list_any test rs) ≡ false → (list_any test rs ≡ false → change_first test f rs ≡ rs) → cond b (f r ∷ rs) (r ∷ change_first test f rs) ≡ r ∷ rs
    by true n ih = absurd (true≢false n)
    by false n ih = ap (λ x. r ∷ x) (ih n)

changed_there : (test : Request → Bool) (f : Request → Request) (front back : List Request) (r : Request) → list_any test front ≡ false → test r ≡ true → change_first test f (front ++ r ∷ back) ≡ front ++ f r ∷ back
changed_there test f [] back r n t = ap (λ b. cond b (f r ∷ back) (r ∷ change_first test f back)) t
changed_there test f (q ∷ front) back r n t = by (test q) n (λ k. changed_there test f front back r k t)
  where
    by : (b : Bool) → (b || list_any test front) ≡ false → (list_any test front ≡ false → change_first test f (front ++ r ∷ back) ≡ front ++ f r ∷ back) → cond b (f q ∷ (front ++ r ∷ back)) (q ∷ change_first test f (front ++ r ∷ back)) ≡ q ∷ (front ++ f r ∷ back)
    by true n ih = absurd (true≢false n)
    by false n ih = ap (λ x. q ∷ x) (ih n)

set_there : (front back : List Request) (r q : Request) → set (front ++ r ∷ back) (length front) q ≡ front ++ q ∷ back
set_there [] back r q = refl
set_there (p ∷ front) back r q = ap (λ x. p ∷ x) (set_there front back r q)

pub place_within : (test : Request → Bool) (rs : List Request) (i : ℕ) → At test rs i → i < length rs
place_within test rs i a = let e = ap length a.is ∙ length-append a.front (a.found ∷ a.back) in let l = a.long in omega arith

pub within : (rs : List Request) (test : Request → Bool) (x : ℕ) → place test rs ≡ Some x → x < length rs
within rs test x e = place_within test rs x (at_place test rs x e)

pub stands_at : (test : Request → Bool) (rs : List Request) (i : ℕ) (a : At test rs i) → slice_get rs i ≡ Some a.found
stands_at test rs i a = ap₂ (λ (x : List Request) (n : ℕ). slice_get x n) a.is (sym a.long) ∙ here_there a.front a.back a.found
  where
    here_there : (front back : List Request) (r : Request) → slice_get (front ++ r ∷ back) (length front) ≡ Some r
    here_there [] back r = refl
    here_there (q ∷ front) back r = here_there front back r

-- a change at its place
pub changed_at : (test : Request → Bool) (f : Request → Request) (rs : List Request) (i : ℕ) (a : At test rs i) → change_first test f rs ≡ set rs i (f a.found)
changed_at test f rs i a =
    ap (change_first test f) a.is
    ∙ changed_there test f a.front a.back a.found a.none a.passes
    ∙ sym (ap₂ (λ (x : List Request) (n : ℕ). set x n (f a.found)) a.is (sym a.long) ∙ set_there a.front a.back a.found (f a.found))

request_there : (key : HolderKey) (front back : List Request) (r : Request) → list_any (is_of key) front ≡ false → is_of key r ≡ true → request_of (front ++ r ∷ back) key ≡ Some r
request_there key [] back r f t = ap (λ c. cond c (Some r) (request_of back key)) t
request_there key (q ∷ front) back r f t = by (key_eq key q.key) f (λ k. request_there key front back r k t)
  where
    by : (c : Bool) → (c || list_any (is_of key) front) ≡ false → (list_any (is_of key) front ≡ false → request_of (front ++ r ∷ back) key ≡ Some r) → cond c (Some q) (request_of (front ++ r ∷ back) key) ≡ Some r
    by true h ih = absurd (true≢false h)
    by false h ih = ih h

pub request_at : (key : HolderKey) (rs : List Request) (i : ℕ) (a : At (is_of key) rs i) → request_of rs key ≡ Some a.found
request_at key rs i a = ap (λ (x : List Request). request_of x key) a.is ∙ request_there key a.front a.back a.found a.none a.passes

-- the request of a key stands at the first place whose request is of the key
pub request_placed : (key : HolderKey) (rs : List Request) (i : ℕ) → place (is_of key) rs ≡ Some i → slice_get rs i ≡ request_of rs key
request_placed key rs i e = let a = at_place (is_of key) rs i e in stands_at (is_of key) rs i a ∙ sym (request_at key rs i a)

pub request_nowhere : (key : HolderKey) (rs : List Request) → list_any (is_of key) rs ≡ false → request_of rs key ≡ None
request_nowhere key [] h = refl
request_nowhere key (r ∷ rs) h = by (key_eq key r.key) h (λ k. request_nowhere key rs k)
  where
    by : (b : Bool) → (b || list_any (is_of key) rs) ≡ false → (list_any (is_of key) rs ≡ false → request_of rs key ≡ None) → cond b (Some r) (request_of rs key) ≡ None
    by true h ih = absurd (true≢false h)
    by false h ih = ih h

pub no_state : {A : Type 0} (key : HolderKey) (rs : List Request) (s : LockState) → list_any (is_of key) rs ≡ false → state_in key rs ≡ Some s → A
no_state key rs s n e = absurd (cc (e, ap (option_map (λ (q : Request). q.state)) (request_nowhere key rs n)))

-- the request by which a key holds its lock
pub holder_there : (key : HolderKey) (rs : List Request) → state_in key rs ≡ Some Holding → (r : Request) × (request_of rs key ≡ Some r) × (r.state ≡ Holding)
holder_there key rs e = by (request_of rs key) refl e
  where
    by : (o : Option Request) → request_of rs key ≡ o → option_map (λ (q : Request). q.state) o ≡ Some Holding → (r : Request) × (request_of rs key ≡ Some r) × (r.state ≡ Holding)
    by None f e = absurd (cc e)
    by (Some r) f e = (r, f, (let z : r.state ≡ Holding = cc in z))
