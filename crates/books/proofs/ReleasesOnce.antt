-- From a well-kept book a release of a holder leads to at most one grant, that of the first waiter of its lock.
use Rattle.std.proofs.Common.{◌≡◌, ℕ, suc, ◌+◌, ◌<◌, ◌≤◌, Bool, true, false, not, cond, ◌&&◌, ◌||◌, nat_lt, bytes_eq, List, [], ◌∷◌, ◌++◌, length, Some, None, refl, sym, ◌∙◌, ap, ap₂, subst, arith, true≢false, inl, inr, ◌⊎◌}
use Rattle.std.specs.List.{list_any}
use Rattle.std.proofs.lemmas.Bool.Decides.{nat_tests}
use Rattle.std.proofs.lemmas.Slice.Eq.{bytes_eq-Decides}
use Rattle.tree_types.specs.declared.entry.HolderKey.{HolderKey}
use Rattle.tree_types.specs.declared.entry.Limit.{Limit}
use Rattle.books.specs.declared.Request.{Request}
use Rattle.books.specs.declared.LockState.TheVariants.{Holding}
use Rattle.books.specs.Books.{Text, before, key_eq, is_waiting, is_holding, limit_of, holds, holders, has_room, may_hold, is_next, held, released, change_first, granted_once, granted_times, granted, released_only, freed, request_of, NoneMayHold, WithinLimits, In, here, beyond}
use Rattle.books.specs.Laws.{is_of, KeysDiffer, IsWellKept, waits_for, is_first_for, passed_on}
use Rattle.books.proofs.Books.{Split, nobody, found, split, count_append, none_of, is_false, waits_true, one_more}
use Rattle.books.proofs.Orders.{next_there}
use Rattle.books.proofs.FilesOnce.{times_still}
use Rattle.books.proofs.Keys.{key_same}

-- ---- tests that agree on the requests of a list

any_same : (t u : Request → Bool) (rs : List Request) → ((q : Request) → In q rs → t q ≡ u q) → list_any t rs ≡ list_any u rs
any_same t u [] e = refl
any_same t u (r ∷ rs) e = ap₂ ◌||◌ (e r here) (any_same t u rs (λ q i. e q (beyond i)))

change_same : (t u : Request → Bool) (f : Request → Request) (rs : List Request) → ((q : Request) → In q rs → t q ≡ u q) → change_first t f rs ≡ change_first u f rs
change_same t u f [] e = refl
change_same t u f (r ∷ rs) e = ap₂ (λ (b : Bool) (xs : List Request). cond b (f r ∷ rs) (r ∷ xs)) (e r here) (change_same t u f rs (λ q i. e q (beyond i)))

none_passes : (t : Request → Bool) (rs : List Request) → ((q : Request) → In q rs → t q ≡ false) → list_any t rs ≡ false
none_passes t [] e = refl
none_passes t (r ∷ rs) e = ap₂ ◌||◌ (e r here) (none_passes t rs (λ q i. e q (beyond i)))

-- what stands in a list stands there too where one request is another, unless it is that one
in_place : (front back : List Request) (x q : Request) → In q (front ++ x ∷ back) → (q ≡ x) ⊎ ((y : Request) → In q (front ++ y ∷ back))
in_place [] back x q here = inl refl
in_place [] back x q (beyond i) = inr (λ y. beyond i)
in_place (r ∷ front) back x q here = inr (λ y. here)
in_place (r ∷ front) back x q (beyond i) = by (in_place front back x q i)
  where
    by : (q ≡ x) ⊎ ((y : Request) → In q (front ++ y ∷ back)) → (q ≡ x) ⊎ ((y : Request) → In q (r ∷ (front ++ y ∷ back)))
    by (inl e) = inl e
    by (inr f) = inr (λ y. beyond (f y))

in_middle : (front back : List Request) (x : Request) → In x (front ++ x ∷ back)
in_middle [] back x = here
in_middle (r ∷ front) back x = beyond (in_middle front back x)

-- ---- the request of a key

released_none : (key : HolderKey) (rs : List Request) → list_any (is_of key) rs ≡ false → released_only key rs ≡ rs
released_none key [] h = refl
released_none key (r ∷ rs) h = by (key_eq key r.key) h (λ k. released_none key rs k)
  where
    by : (b : Bool) → (b || list_any (is_of key) rs) ≡ false → (list_any (is_of key) rs ≡ false → released_only key rs ≡ rs) → cond b (released r) r ∷ released_only key rs ≡ r ∷ rs
    by true h ih = absurd (true≢false h)
    by false h ih = ap (λ xs. r ∷ xs) (ih h)

released_there : (key : HolderKey) (front back : List Request) (r : Request) → list_any (is_of key) front ≡ false → is_of key r ≡ true → list_any (is_of key) back ≡ false → released_only key (front ++ r ∷ back) ≡ front ++ released r ∷ back
released_there key [] back r f t b = ap₂ (λ (c : Bool) (xs : List Request). cond c (released r) r ∷ xs) t (released_none key back b)
released_there key (q ∷ front) back r f t b = by (key_eq key q.key) f (λ k. released_there key front back r k t b)
  where
    by : (c : Bool) → (c || list_any (is_of key) front) ≡ false → (list_any (is_of key) front ≡ false → released_only key (front ++ r ∷ back) ≡ front ++ released r ∷ back) → cond c (released q) q ∷ released_only key (front ++ r ∷ back) ≡ q ∷ (front ++ released r ∷ back)
    by true h ih = absurd (true≢false h)
    by false h ih = ap (λ xs. q ∷ xs) (ih h)

request_there : (key : HolderKey) (front back : List Request) (r : Request) → list_any (is_of key) front ≡ false → is_of key r ≡ true → request_of (front ++ r ∷ back) key ≡ Some r
request_there key [] back r f t = ap (λ c. cond c (Some r) (request_of back key)) t
request_there key (q ∷ front) back r f t = by (key_eq key q.key) f (λ k. request_there key front back r k t)
  where
    by : (c : Bool) → (c || list_any (is_of key) front) ≡ false → (list_any (is_of key) front ≡ false → request_of (front ++ r ∷ back) key ≡ Some r) → cond c (Some q) (request_of (front ++ r ∷ back) key) ≡ Some r
    by true h ih = absurd (true≢false h)
    by false h ih = ih h

request_nowhere : (key : HolderKey) (rs : List Request) → list_any (is_of key) rs ≡ false → request_of rs key ≡ None
request_nowhere key [] h = refl
request_nowhere key (r ∷ rs) h = by (key_eq key r.key) h (λ k. request_nowhere key rs k)
  where
    by : (b : Bool) → (b || list_any (is_of key) rs) ≡ false → (list_any (is_of key) rs ≡ false → request_of rs key ≡ None) → cond b (Some r) (request_of rs key) ≡ None
    by true h ih = absurd (true≢false h)
    by false h ih = ih h

-- behind the request of a key stands none of that key
apart_behind : (key : HolderKey) (front back : List Request) (r : Request) → is_of key r ≡ true → KeysDiffer (front ++ r ∷ back) → list_any (is_of key) back ≡ false
apart_behind key [] back r t h = ap (λ k. list_any (is_of k) back) (key_same key r.key t) ∙ h.0
apart_behind key (q ∷ front) back r t h = apart_behind key front back r t h.1

room_less : (a b c : ℕ) → a < b → b ≤ c → nat_lt a c ≡ true
room_less a b c h k = grind (arith, nat_tests)

-- ---- one request of a well-kept book is released

module _ (limits : List Limit) (front back : List Request) (r : Request) (w : r.state ≡ Holding) (settled : NoneMayHold limits (front ++ r ∷ back)) (within : WithinLimits limits (front ++ r ∷ back)) where
  abbrev rs : List Request
  rs = front ++ r ∷ back

  abbrev ss : List Request
  ss = front ++ released r ∷ back

  abbrev lock : Text
  lock = r.lock.text

  one_less : (l : Text) → holders l rs ≡ holders l ss + cond (bytes_eq lock l) 1 0
  one_less l =
      let a = count_append (holds l) front (r ∷ back) in
      let b = count_append (holds l) front (released r ∷ back) in
      let e : holds l r ≡ bytes_eq lock l = ap (λ s. is_holding s && bytes_eq lock l) w in
      let c : holders l (r ∷ back) ≡ holders l back + cond (bytes_eq lock l) 1 0 = ap (λ t. cond t (suc (holders l back)) (holders l back)) e ∙ by (bytes_eq lock l) in
      omega arith
    where
      by : (t : Bool) → cond t (suc (holders l back)) (holders l back) ≡ holders l back + cond t 1 0
      by true = omega arith
      by false = omega arith

  itself : bytes_eq lock lock ≡ true
  itself = (bytes_eq-Decides lock lock).1 refl

  room_here : has_room limits ss lock ≡ true
  room_here =
      let a : holders lock rs ≡ holders lock ss + 1 = one_less lock ∙ ap (λ t. holders lock ss + cond t 1 0) itself in
      room_less (holders lock ss) (holders lock rs) (limit_of limits lock) (omega arith) (within lock)

  room_there : (l : Text) → bytes_eq lock l ≡ false → has_room limits ss l ≡ has_room limits rs l
  room_there l e =
      let a : holders l rs ≡ holders l ss + 0 = one_less l ∙ ap (λ t. holders l ss + cond t 1 0) e in
      let b : holders l ss ≡ holders l rs = omega arith in
      ap (λ n. nat_lt n (limit_of limits l)) b

  -- it is the released request, or it stood in the book before
  known : (q : Request) → In q ss → (q ≡ released r) ⊎ In q rs
  known q i = by (in_place front back (released r) q i)
    where
      by : (q ≡ released r) ⊎ ((y : Request) → In q (front ++ y ∷ back)) → (q ≡ released r) ⊎ In q rs
      by (inl e) = inl e
      by (inr f) = inr (f r)

  waited : (q : Request) → In q rs → is_waiting q.state ≡ true → has_room limits rs q.lock.text ≡ false
  waited q i t = is_false (is_waiting q.state) (has_room limits rs q.lock.text) t (none_of (may_hold limits rs) rs q i settled)

  -- whoever may hold then is a waiter of this lock
  may_same : (q : Request) → In q ss → may_hold limits ss q ≡ waits_for lock q
  may_same q i = by (known q i)
    where
      here_or_there : (t b : Bool) → is_waiting q.state ≡ t → bytes_eq q.lock.text lock ≡ b → In q rs → (t && has_room limits ss q.lock.text) ≡ (t && b)
      here_or_there false b e f j = refl
      here_or_there true true e f j = ap (has_room limits ss) ((bytes_eq-Decides q.lock.text lock).0 f) ∙ room_here
      here_or_there true false e f j = room_there q.lock.text (apart (bytes_eq lock q.lock.text) refl f) ∙ waited q j e
        where
          apart : (c : Bool) → bytes_eq lock q.lock.text ≡ c → bytes_eq q.lock.text lock ≡ false → bytes_eq lock q.lock.text ≡ false
          apart false e f = e
          apart true e f = absurd (true≢false (sym itself ∙ ap (λ l. bytes_eq l lock) ((bytes_eq-Decides lock q.lock.text).0 e) ∙ f))

      by : (q ≡ released r) ⊎ In q rs → may_hold limits ss q ≡ waits_for lock q
      by (inl e) = subst (λ x. may_hold limits ss x ≡ waits_for lock x) (sym e) refl
      by (inr j) = here_or_there (is_waiting q.state) (bytes_eq q.lock.text lock) refl refl j

  next_same : (q : Request) → In q ss → is_next limits ss q ≡ is_first_for lock ss q
  next_same q i = ap₂ (λ b c. b && not c) (may_same q i) (any_same (λ p. may_hold limits ss p && before p.rank q.rank) (λ p. waits_for lock p && before p.rank q.rank) ss (λ p j. ap (λ b. b && before p.rank q.rank) (may_same p j)))

  pub granted_here : granted_once limits ss ≡ passed_on lock ss
  granted_here = change_same (is_next limits ss) (is_first_for lock ss) held ss next_same

  -- where one more holds this lock, it has no room, and none other either
  full : (ts : List Request) (q : Request) → In q rs → waits_for lock q ≡ true → ((l : Text) → holders l ts ≡ holders l ss + cond (bytes_eq lock l) 1 0) → ((p : Request) → In p ts → (is_waiting p.state ≡ false) ⊎ In p rs) → NoneMayHold limits ts
  full ts q i t more among = none_passes (may_hold limits ts) ts (λ p j. by p (among p j))
    where
      same : (l : Text) → has_room limits ts l ≡ has_room limits rs l
      same l = ap (λ n. nat_lt n (limit_of limits l)) (more l ∙ sym (one_less l))

      waiter : (p : Request) (b : Bool) → is_waiting p.state ≡ b → In p rs → (b && has_room limits ts p.lock.text) ≡ false
      waiter p false e j = refl
      waiter p true e j = same p.lock.text ∙ waited p j e

      by : (p : Request) → (is_waiting p.state ≡ false) ⊎ In p rs → may_hold limits ts p ≡ false
      by p (inl e) = ap (λ b. b && has_room limits ts p.lock.text) e
      by p (inr j) = waiter p (is_waiting p.state) refl j

  both_parts : (a b : Bool) → (a && b) ≡ true → (a ≡ true) × (b ≡ true)
  both_parts true b h = (refl, h)
  both_parts false b h = absurd (true≢false (sym h))

  -- then no waiter's lock has room
  pub then_settled : NoneMayHold limits (passed_on lock ss)
  then_settled = by ss (split (is_first_for lock ss) held ss) refl
    where
      nothing : (b : Bool) → list_any (may_hold limits ss) ss ≡ b → list_any (is_first_for lock ss) ss ≡ false → list_any (may_hold limits ss) ss ≡ false
      nothing false e n = e
      nothing true e n = absurd (true≢false (sym (next_there limits ss e) ∙ any_same (is_next limits ss) (is_first_for lock ss) ss next_same ∙ n))

      by : (xs : List Request) {ts : List Request} → Split (is_first_for lock ss) held xs ts → xs ≡ ss → NoneMayHold limits ts
      by xs (nobody n) e = subst (λ x. NoneMayHold limits x) (sym e) (nothing (list_any (may_hold limits ss) ss) refl (ap (list_any (is_first_for lock ss)) (sym e) ∙ n))
      by xs (found before_it after q n t) e =
          let waits = (both_parts (waits_for lock q) (not (list_any (λ p. waits_for lock p && before p.rank q.rank) ss)) t).0 in
          let two = both_parts (is_waiting q.state) (bytes_eq q.lock.text lock) waits in
          let place : In q ss = subst (λ x. In q x) e (in_middle before_it after q) in
          full (before_it ++ held q ∷ after) q (stood q two.0 (known q place)) waits
          (λ l. one_more l before_it after q (waits_true q.state two.0) ∙ ap₂ (λ (x : List Request) (m : Text). holders l x + cond (bytes_eq m l) 1 0) e ((bytes_eq-Decides q.lock.text lock).0 two.1))
          (λ p j. among p before_it after q e (in_place before_it after (held q) p j))
        where
          stood : (p : Request) → is_waiting p.state ≡ true → (p ≡ released r) ⊎ In p rs → In p rs
          stood p h (inl g) = absurd (true≢false (sym h ∙ ap (λ (x : Request). is_waiting x.state) g))
          stood p h (inr j) = j

          there : (p : Request) → (p ≡ released r) ⊎ In p rs → (is_waiting p.state ≡ false) ⊎ In p rs
          there p (inl g) = inl (ap (λ (x : Request). is_waiting x.state) g)
          there p (inr j) = inr j

          among : (p : Request) (f b : List Request) (q : Request) → f ++ q ∷ b ≡ ss → (p ≡ held q) ⊎ ((y : Request) → In p (f ++ y ∷ b)) → (is_waiting p.state ≡ false) ⊎ In p rs
          among p f b q e (inl g) = inl (ap (λ (x : Request). is_waiting x.state) g)
          among p f b q e (inr g) = there p (known p (subst (λ x. In p x) e (g q)))

  pub granted_all : granted limits ss ≡ passed_on lock ss
  granted_all = by front refl
    where
      once : (n : ℕ) → granted_times (suc n) limits ss ≡ passed_on lock ss
      once n = times_still n limits (granted_once limits ss) (subst (λ x. NoneMayHold limits x) (sym granted_here) then_settled) ∙ granted_here

      by : (f : List Request) → f ≡ front → granted limits ss ≡ passed_on lock ss
      by [] e = ap (λ n. granted_times n limits ss) (ap (λ (x : List Request). length (x ++ released r ∷ back)) (sym e)) ∙ once (length back)
      by (q ∷ f) e = ap (λ n. granted_times n limits ss) (ap (λ (x : List Request). length (x ++ released r ∷ back)) (sym e)) ∙ once (length (f ++ released r ∷ back))

some_same : (a b : Request) → Some a ≡ Some b → a ≡ b
some_same a b e = cc

some_none : {A : Type 0} (a : Request) → None ≡ Some a → A
some_none a e = absurd (cc e)

pub released_once : (limits : List Limit) (rs : List Request) (key : HolderKey) (r : Request) → IsWellKept limits rs → request_of rs key ≡ Some r → r.state ≡ Holding → freed limits key rs ≡ passed_on r.lock.text (change_first (is_of key) released rs)
released_once limits rs key r kept e w = by (split (is_of key) released rs) refl
  where
    by : {xs ys : List Request} → Split (is_of key) released xs ys → rs ≡ xs → granted limits (released_only key rs) ≡ passed_on r.lock.text ys
    by (nobody {rs = xs} n) s = some_none r (sym (request_nowhere key rs (ap (list_any (is_of key)) s ∙ n)) ∙ e)
    by (found front back q n t) s =
        let same : q ≡ r = some_same q r (sym (request_there key front back q n t) ∙ ap (λ x. request_of x key) (sym s) ∙ e) in
        let behind : list_any (is_of key) back ≡ false = apart_behind key front back q t (subst KeysDiffer s kept.apart) in
        let alone : released_only key rs ≡ front ++ released q ∷ back = ap (released_only key) s ∙ released_there key front back q n t behind in
        ap (granted limits) alone
        ∙ granted_all limits front back q (ap (λ (x : Request). x.state) same ∙ w) (subst (NoneMayHold limits) s kept.settled) (subst (WithinLimits limits) s kept.within)
        ∙ ap (λ (x : Request). passed_on x.lock.text (front ++ released q ∷ back)) same
