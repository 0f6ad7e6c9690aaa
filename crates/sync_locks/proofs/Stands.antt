-- What stands at places of requests.
use Rattle.std.proofs.Common.{◌≡◌, ℕ, zero, suc, ◌<◌, List, [], ◌∷◌, ◌++◌, length, Bool, false, set, Option, Some, None, option_map, refl, sym, ◌∙◌, ap, ap₂, arith}
use Rattle.std.specs.Prelude.{IsSome, slice_get, option_copied}
use Rattle.std.specs.Borrow.{Bor}
use Rattle.std.proofs.lemmas.List.{length-set}
use Rattle.books.specs.declared.Request.{Request}
use Rattle.books.specs.declared.LockState.{LockState}
use Rattle.books.specs.Books.{key_eq}
use Rattle.books.specs.Laws.{is_of}
use Rattle.tree_types.specs.declared.entry.HolderKey.{HolderKey}
use Rattle.sync_locks.specs.Book.{standing}
use Rattle.sync_locks.specs.declared.asked.Asked.{Asked}
use Rattle.sync_locks.specs.Inside.Rows.{request_of, requests_in, asked_of, state_of, passes}

pub length_in : (asked : List Asked) (states : List LockState) → length states ≡ length asked → length (requests_in asked states) ≡ length states
length_in [] [] h = refl
length_in [] (s ∷ states) h = absurd (omega arith)
length_in (a ∷ asked) [] h = absurd (omega arith)
length_in (a ∷ asked) (s ∷ states) h = ap suc (length_in asked states (omega arith))

pub asked_at : (asked : List Asked) (states : List LockState) (i : ℕ) → length states ≡ length asked → slice_get asked i ≡ option_map asked_of (slice_get (requests_in asked states) i)
asked_at [] states i h = refl
asked_at (a ∷ asked) [] i h = absurd (omega arith)
asked_at (a ∷ asked) (s ∷ states) zero h = refl
asked_at (a ∷ asked) (s ∷ states) (suc i) h = asked_at asked states i (omega arith)

state_at : (asked : List Asked) (states : List LockState) (i : ℕ) → length states ≡ length asked → slice_get states i ≡ option_map state_of (slice_get (requests_in asked states) i)
state_at [] [] i h = refl
state_at [] (s ∷ states) i h = absurd (omega arith)
state_at (a ∷ asked) [] i h = absurd (omega arith)
state_at (a ∷ asked) (s ∷ states) zero h = refl
state_at (a ∷ asked) (s ∷ states) (suc i) h = state_at asked states i (omega arith)

-- the same of the requests as they are seen
pub asked_seen : (asked : List Asked) (states : List LockState) (rs : List Request) (i : ℕ) → length states ≡ length asked → requests_in asked states ≡ rs → slice_get asked i ≡ option_map asked_of (slice_get rs i)
asked_seen asked states rs i h e = asked_at asked states i h ∙ ap (λ (xs : List Request). option_map asked_of (slice_get xs i)) e

pub state_seen : (asked : List Asked) (states : List LockState) (rs : List Request) (i : ℕ) → length states ≡ length asked → requests_in asked states ≡ rs → slice_get states i ≡ option_map state_of (slice_get rs i)
state_seen asked states rs i h e = state_at asked states i h ∙ ap (λ (xs : List Request). option_map state_of (slice_get xs i)) e

pub length_seen : (asked : List Asked) (states : List LockState) (rs : List Request) → length states ≡ length asked → requests_in asked states ≡ rs → length states ≡ length rs
length_seen asked states rs h e = sym (length_in asked states h) ∙ ap (λ (xs : List Request). length xs) e

pub length_kept : (asked : List Asked) (states : List LockState) (rs : List Request) (i : ℕ) (s : LockState) → length states ≡ length asked → requests_in asked states ≡ rs → length (requests_in asked (set states i s)) ≡ length rs
length_kept asked states rs i s h e = length_in asked (set states i s) (length-set states i s ∙ h) ∙ length-set states i s ∙ length_seen asked states rs h e

pub requests_more : (asked : List Asked) (states : List LockState) (a : Asked) (s : LockState) → length states ≡ length asked → requests_in (asked ++ a ∷ []) (states ++ s ∷ []) ≡ requests_in asked states ++ request_of a s ∷ []
requests_more [] [] a s h = refl
requests_more [] (t ∷ states) a s h = absurd (omega arith)
requests_more (b ∷ asked) [] a s h = absurd (omega arith)
requests_more (b ∷ asked) (t ∷ states) a s h = ap (λ x. request_of b t ∷ x) (requests_more asked states a s (omega arith))

pub some_same : (a b : Request) → Some a ≡ Some b → a ≡ b
some_same a b e = cc

-- a request has another state
pub requests_set : (asked : List Asked) (states : List LockState) (i : ℕ) (s : LockState) (r : Request) → length states ≡ length asked → slice_get (requests_in asked states) i ≡ Some r → requests_in asked (set states i s) ≡ set (requests_in asked states) i (record r { state = s })
requests_set [] states i s r h e = absurd (cc e)
requests_set (a ∷ asked) [] i s r h e = absurd (omega arith)
requests_set (a ∷ asked) (t ∷ states) zero s r h e = ap (λ (x : Request). record x { state = s } ∷ requests_in asked states) (some_same (request_of a t) r e)
requests_set (a ∷ asked) (t ∷ states) (suc i) s r h e = ap (λ x. request_of a t ∷ x) (requests_set asked states i s r (omega arith) e)

-- there is a request at a place
pub there : (rs : List Request) (i : ℕ) → i < length rs → (r : Request) × (slice_get rs i ≡ Some r)
there [] i h = absurd (omega arith)
there (r ∷ rs) zero h = (r, refl)
there (r ∷ rs) (suc i) h = there rs i (omega arith)

-- what is lent is there
pub lent_some : (o : Option (Bor Asked)) (a : Asked) → option_copied o ≡ Some a → IsSome o
lent_some None a e = absurd (cc e)
lent_some (Some x) a e = refl

-- ---- tests of the request at a place

pub nothing_passes : (test : Request → Bool) (o : Option Request) → None ≡ option_map asked_of o → false ≡ passes test o
nothing_passes test None e = refl
nothing_passes test (Some r) e = absurd (cc e)

pub key_passes : (key : HolderKey) (o : Option Request) (a : Asked) → Some a ≡ option_map asked_of o → key_eq key a.key ≡ passes (is_of key) o
key_passes key None a e = absurd (cc e)
key_passes key (Some r) a e = ap (λ (x : Asked). key_eq key x.key) (let z : a ≡ asked_of r = cc in z)

-- ---- what is told of the request at a place

pub standing_told : (o : Option Request) (a : Asked) (s : LockState) → Some a ≡ option_map asked_of o → Some s ≡ option_map state_of o → Some (a.lock, s) ≡ option_map standing o
standing_told None a s e f = absurd (cc e)
standing_told (Some r) a s e f = ap₂ (λ (x : Asked) (t : LockState). Some (x.lock, t)) (let z : a ≡ asked_of r = cc in z) (let z : s ≡ state_of r = cc in z)
