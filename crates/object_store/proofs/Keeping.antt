-- What the fields of a ledger keep of its history, over each change of them.
use Rattle.std.proofs.Common.{◌≡◌, ℕ, ◌+◌, ◌≤◌, Bool, true, false, cond, List, [], ◌∷◌, ◌++◌, length, take, drop, refl, sym, ◌∙◌, ap, subst, arith, append-nil, length-append, length-drop, map, Option, Some, None, unwrap_or, add-zero}
use Rattle.std.proofs.lemmas.List.{take_all, take-append-le, drop-append-le}
use Rattle.tree_types.specs.declared.entry.Key.{Key}
use Rattle.tree_types.specs.declared.entry.Entry.{Entry}
use Rattle.tree_types.specs.declared.entry.Entry.TheVariants.{Tick}
use Rattle.history.specs.Keys.{same_key, is_key, key_of}
use Rattle.history.specs.History.{History, Event, Version, event, grown, clock_of, next_version, version_at, version_at_start}
use Rattle.history.specs.Versions.{made_at}
use Rattle.history.proofs.Extends.{clock_from-append}
use Rattle.history.proofs.Keys.{same_key-true}
use Rattle.object_store.specs.declared.line.Made.{Made}
use Rattle.object_store.specs.Entries.{is_making, MakesObject, ChangesObject}
use Rattle.object_store.specs.Versions.{made, as_made, versions, present}
use Rattle.object_store.specs.Inside.Kept.{first_in, rest_in, paired, history_of, making_in, Kept}
use Rattle.object_store.specs.Inside.Rows.{Rows, change, fresh, OneMore, IsLine, Held}
use Rattle.object_store.proofs.Index.{apart}
use Rattle.object_store.proofs.Rows.{fresh_line, held_later, line_more}
use Rattle.object_store.proofs.Seen.{last_version}
use Rattle.object_store.proofs.Versions.{keyed_no_tick, versions-grown, last_is_present}

-- ---- entries with the contents that they made

module _ {C : Type 0} where
  pair_more : (x e : Entry) (es : List Entry) (os : List (Key × C)) (b : Bool) → ((ps : List (Key × C)) → paired (es ++ e ∷ []) ps ≡ paired es ps ++ event e None ∷ [])
      → cond b (event x (first_in os) ∷ paired (es ++ e ∷ []) (rest_in os)) (event x None ∷ paired (es ++ e ∷ []) os) ≡ cond b (event x (first_in os) ∷ paired es (rest_in os)) (event x None ∷ paired es os) ++ event e None ∷ []
  pair_more x e es os true ih = ap (λ ys. event x (first_in os) ∷ ys) (ih (rest_in os))
  pair_more x e es os false ih = ap (λ ys. event x None ∷ ys) (ih os)

  pub paired-changing : (e : Entry) → is_making e ≡ false → (es : List Entry) (os : List (Key × C)) → paired (es ++ e ∷ []) os ≡ paired es os ++ event e None ∷ []
  paired-changing e n [] os = ap (λ b. cond b (event e (first_in os) ∷ []) (event e None ∷ [])) n
  paired-changing e n (x ∷ es) os = pair_more x e es os (is_making x) (λ ps. paired-changing e n es ps)

  pair_make : (x e : Entry) (es : List Entry) (os : List (Key × C)) (o : Key × C) (b : Bool) → length os ≡ cond b (making_in es + 1) (making_in es)
      → ((ps : List (Key × C)) → length ps ≡ making_in es → paired (es ++ e ∷ []) (ps ++ o ∷ []) ≡ paired es ps ++ event e (Some o.1) ∷ [])
      → cond b (event x (first_in (os ++ o ∷ [])) ∷ paired (es ++ e ∷ []) (rest_in (os ++ o ∷ []))) (event x None ∷ paired (es ++ e ∷ []) (os ++ o ∷ [])) ≡ cond b (event x (first_in os) ∷ paired es (rest_in os)) (event x None ∷ paired es os) ++ event e (Some o.1) ∷ []
  pair_make x e es [] o true n ih = absurd (omega arith)
  pair_make x e es (p ∷ os) o true n ih = ap (λ ys. event x (Some p.1) ∷ ys) (ih os (omega arith))
  pair_make x e es os o false n ih = ap (λ ys. event x None ∷ ys) (ih os n)

  pub paired-making : (e : Entry) (o : Key × C) → is_making e ≡ true → (es : List Entry) (os : List (Key × C)) → length os ≡ making_in es → paired (es ++ e ∷ []) (os ++ o ∷ []) ≡ paired es os ++ event e (Some o.1) ∷ []
  paired-making e o n [] [] h = ap (λ b. cond b (event e (Some o.1) ∷ []) (event e None ∷ [])) n
  paired-making e o n [] (p ∷ os) h = absurd (omega arith)
  paired-making e o n (x ∷ es) os h = pair_make x e es os o (is_making x) h (λ ps l. paired-making e o n es ps l)

  entry_step : (x : Entry) (es : List Entry) (os : List (Key × C)) (b : Bool) → ((ps : List (Key × C)) → map (λ (e : Event C). e.entry) (paired es ps) ≡ es)
      → map (λ (e : Event C). e.entry) (cond b (event x (first_in os) ∷ paired es (rest_in os)) (event x None ∷ paired es os)) ≡ x ∷ es
  entry_step x es os true ih = ap (λ ys. x ∷ ys) (ih (rest_in os))
  entry_step x es os false ih = ap (λ ys. x ∷ ys) (ih os)

  pub entries_of_paired : (es : List Entry) (os : List (Key × C)) → map (λ (e : Event C). e.entry) (paired es os) ≡ es
  entries_of_paired [] os = refl
  entries_of_paired (x ∷ es) os = entry_step x es os (is_making x) (λ ps. entries_of_paired es ps)

making_more : (x e : Entry) (es : List Entry) (b : Bool) (n : ℕ) → making_in (es ++ e ∷ []) ≡ making_in es + n → cond b (making_in (es ++ e ∷ []) + 1) (making_in (es ++ e ∷ [])) ≡ cond b (making_in es + 1) (making_in es) + n
making_more x e es true n ih = omega arith
making_more x e es false n ih = ih

making-append : (e : Entry) (es : List Entry) → making_in (es ++ e ∷ []) ≡ making_in es + making_in (e ∷ [])
making-append e [] = omega arith
making-append e (x ∷ es) = making_more x e es (is_making x) (making_in (e ∷ [])) (making-append e es)

making-changing : (e : Entry) (es : List Entry) → is_making e ≡ false → making_in (es ++ e ∷ []) ≡ making_in es
making-changing e es n = making-append e es ∙ ap (λ b. making_in es + cond b 1 0) n ∙ add-zero (making_in es)

making-making : (e : Entry) (es : List Entry) → is_making e ≡ true → making_in (es ++ e ∷ []) ≡ making_in es + 1
making-making e es n = making-append e es ∙ ap (λ b. making_in es + cond b 1 0) n

module _ {C : Type 0} (apply : C → Entry → Option C) where
  -- ---- the index, after an entry about a key

  held_grown : (line after : Key → Option (Rows C)) (es : List Entry) (x : Entry) (h : History C) (e : Event C) (k : Key) (new : List (Made C)) (r : Rows C) → ((j : Key) → Held apply es (line j) (versions apply h j)) → key_of e.entry ≡ Some k
      → made_at apply as_made (clock_of h) (next_version apply (version_at apply h k) e) ≡ new → IsLine apply (es ++ x ∷ []) r (versions apply h k ++ new) → ((j : Key) → after j ≡ cond (same_key j k) (Some r) (line j))
      → (j : Key) → Held apply (es ++ x ∷ []) (after j) (versions apply (grown h e) j)
  held_grown line after es x h e k new r held of makes grew changed j =
      subst (λ o. Held apply (es ++ x ∷ []) o (versions apply (grown h e) j)) (sym (changed j))
      (subst (λ ms. Held apply (es ++ x ∷ []) (cond (same_key j k) (Some r) (line j)) ms)
      (sym (versions-grown apply h e j ∙ ap (λ o. versions apply h j ++ cond (is_key j o) (made_at apply as_made (clock_of h) (next_version apply (version_at apply h j) e)) []) of))
      (by (same_key j k) refl))
    where
      by : (b : Bool) → same_key j k ≡ b → Held apply (es ++ x ∷ []) (cond b (Some r) (line j)) (versions apply h j ++ cond b (made_at apply as_made (clock_of h) (next_version apply (version_at apply h j) e)) [])
      by true s =
          subst (λ q. IsLine apply (es ++ x ∷ []) r (versions apply h q ++ made_at apply as_made (clock_of h) (next_version apply (version_at apply h q) e))) (sym (same_key-true j k s))
          (subst (λ ms. IsLine apply (es ++ x ∷ []) r (versions apply h k ++ ms)) (sym makes) grew)
      by false s = subst (λ ms. Held apply (es ++ x ∷ []) (line j) ms) (sym (append-nil (versions apply h j))) (held_later apply es (x ∷ []) (line j) (versions apply h j) (held j))

  clock_grown : (h : History C) (e : Event C) (k : Key) → key_of e.entry ≡ Some k → clock_of (grown h e) ≡ clock_of h
  clock_grown h e k of = clock_from-append 0 h.events (e ∷ []) ∙ ap (λ t. unwrap_or t (clock_of h)) (keyed_no_tick e.entry k of)

  module _ (begun : ℕ) (firsts : List (Key × C)) (line : Key → Option (Rows C)) (es : List Entry) (clock : ℕ) (kept : Kept apply begun firsts line es clock) where
    -- ---- an entry that changes an object

    pub grown_changing : (e : Entry) → is_making e ≡ false → history_of begun firsts (es ++ e ∷ []) ≡ grown (history_of begun firsts es) (event e None)
    grown_changing e n = ap (λ ys. record { start = take begun firsts; events = ys }) (paired-changing e n es (drop begun firsts))

    pub kept_changing : (e : Entry) (k : Key) (v : Version C) (c : C) (after : Key → Option (Rows C)) → ChangesObject e k → version_at apply (history_of begun firsts es) k ≡ Some v → apply v.content e ≡ Some c
        → (from to : Rows C) → line k ≡ Some from → OneMore from (made c clock) (change (length es) clock) to → ((j : Key) → after j ≡ cond (same_key j k) (Some to) (line j)) → Kept apply begun firsts after (es ++ e ∷ []) clock
    kept_changing e k v c after about stood leads from to was more changed =
        let g : History C = history_of begun firsts es in
        let grows = grown_changing e about.1 in
        let makes : made_at apply as_made (clock_of g) (next_version apply (version_at apply g k) (event e None)) ≡ made c clock ∷ [] =
        ap (λ o. made_at apply as_made (clock_of g) (next_version apply o (event e None))) stood ∙ ap (λ d. made (unwrap_or d v.content) (clock_of g) ∷ []) leads ∙ ap (λ t. made c t ∷ []) (sym kept.clock_is) in
        let old : IsLine apply es from (versions apply g k) = subst (λ o. Held apply es o (versions apply g k)) was (kept.held k) in
        let last = last_version apply es g k from v old stood in
        let grew = line_more apply es e from to (versions apply g k) last.0 (made c clock) old last.1 (ap (λ d. apply d e) last.2 ∙ leads) more in
        record {
          counted = kept.counted ∙ ap (λ n. begun + n) (sym (making-changing e es about.1));
          held = λ j. subst (λ x. Held apply (es ++ e ∷ []) (after j) (versions apply x j)) (sym grows) (held_grown line after es e g (event e None) k (made c clock ∷ []) to kept.held about.0 makes grew changed j);
          clock_is = kept.clock_is ∙ sym (clock_grown g (event e None) k about.0) ∙ ap clock_of (sym grows);
        }

    -- ---- an entry that makes an object

    begun_within : begun ≤ length firsts
    begun_within = let n = kept.counted in omega arith

    left : length (drop begun firsts) ≡ making_in es
    left = let n = kept.counted in let l = length-drop begun firsts in omega arith

    pub grown_making : (e : Entry) (o : Key × C) → is_making e ≡ true → history_of begun (firsts ++ o ∷ []) (es ++ e ∷ []) ≡ grown (history_of begun firsts es) (event e (Some o.1))
    grown_making e o n =
        ap (λ os. record { start = os; events = paired (es ++ e ∷ []) (drop begun (firsts ++ o ∷ [])) }) (take-append-le begun firsts (o ∷ []) begun_within)
        ∙ ap (λ os. record { start = take begun firsts; events = paired (es ++ e ∷ []) os }) (drop-append-le begun firsts (o ∷ []) begun_within)
        ∙ ap (λ ys. record { start = take begun firsts; events = ys }) (paired-making e o n es (drop begun firsts) left)

    pub kept_making : (e : Entry) (k : Key) (c : C) (after : Key → Option (Rows C)) → MakesObject e k → line k ≡ None → ((j : Key) → after j ≡ cond (same_key j k) (Some (fresh (made c clock))) (line j))
        → Kept apply begun (firsts ++ (k, c) ∷ []) after (es ++ e ∷ []) clock
    kept_making e k c after about none changed =
        let g : History C = history_of begun firsts es in
        let grows = grown_making e (k, c) about.1 in
        let empty : versions apply g k ≡ [] = subst (λ o. Held apply es o (versions apply g k)) none (kept.held k) in
        let stood : version_at apply g k ≡ None = sym (last_is_present apply g k) ∙ ap present empty in
        let makes : made_at apply as_made (clock_of g) (next_version apply (version_at apply g k) (event e (Some c))) ≡ made c clock ∷ [] =
        ap (λ o. made_at apply as_made (clock_of g) (next_version apply o (event e (Some c)))) stood ∙ ap (λ t. made c t ∷ []) (sym kept.clock_is) in
        let grew = subst (λ ms. IsLine apply (es ++ e ∷ []) (fresh (made c clock)) (ms ++ made c clock ∷ [])) (sym empty) (fresh_line apply (es ++ e ∷ []) (made c clock)) in
        record {
          counted = length-append firsts ((k, c) ∷ []) ∙ (let n = kept.counted in let m = making-making e es about.1 in omega arith);
          held = λ j. subst (λ x. Held apply (es ++ e ∷ []) (after j) (versions apply x j)) (sym grows) (held_grown line after es e g (event e (Some c)) k (made c clock ∷ []) (fresh (made c clock)) kept.held about.0 makes grew changed j);
          clock_is = kept.clock_is ∙ sym (clock_grown g (event e (Some c)) k about.0) ∙ ap clock_of (sym grows);
        }

    -- ---- a tick

    pub kept_ticking : (to : ℕ) → Kept apply begun firsts line (es ++ Tick to ∷ []) to
    kept_ticking to =
        let g : History C = history_of begun firsts es in
        let grows = grown_changing (Tick to) refl in
        record {
          counted = kept.counted ∙ ap (λ n. begun + n) (sym (making-changing (Tick to) es refl));
          held = λ j.
              subst (λ ms. Held apply (es ++ Tick to ∷ []) (line j) ms)
              (sym (append-nil (versions apply g j)) ∙ sym (versions-grown apply g (event (Tick to) None) j) ∙ ap (λ x. versions apply x j) (sym grows))
              (held_later apply es (Tick to ∷ []) (line j) (versions apply g j) (kept.held j));
          clock_is = sym (clock_from-append 0 g.events (event (Tick to) None ∷ [])) ∙ ap clock_of (sym grows);
        }

  -- ---- an object that is there before all entries

  hidden : (j k : Key) (c : C) (os : List (Key × C)) → version_at_start apply k os ≡ None → version_at_start apply j (os ++ (k, c) ∷ []) ≡ cond (same_key j k) (Some record { number = 1; content = c }) (version_at_start apply j os)
  hidden j k c [] none = refl
  hidden j k c (o ∷ os) none = by (same_key k o.0) refl none (λ rest. hidden j k c os rest)
    where
      swapped : (a b : Bool) (x y : Version C) (r : Option (Version C)) → (a ≡ true → b ≡ true → ⊥) → cond a (Some x) (cond b (Some y) r) ≡ cond b (Some y) (cond a (Some x) r)
      swapped true true x y r n = absurd (n refl refl)
      swapped true false x y r n = refl
      swapped false true x y r n = refl
      swapped false false x y r n = refl

      by : (b : Bool) → same_key k o.0 ≡ b → cond b (Some record { number = 1; content = o.1 }) (version_at_start apply k os) ≡ None
          → (version_at_start apply k os ≡ None → version_at_start apply j (os ++ (k, c) ∷ []) ≡ cond (same_key j k) (Some record { number = 1; content = c }) (version_at_start apply j os))
          → cond (same_key j o.0) (Some record { number = 1; content = o.1 }) (version_at_start apply j (os ++ (k, c) ∷ [])) ≡ cond (same_key j k) (Some record { number = 1; content = c }) (cond (same_key j o.0) (Some record { number = 1; content = o.1 }) (version_at_start apply j os))
      by true s n ih = absurd (cc)
      by false s n ih =
          ap (cond (same_key j o.0) (Some record { number = 1; content = o.1 })) (ih n)
          ∙ swapped (same_key j o.0) (same_key j k) record { number = 1; content = o.1 } record { number = 1; content = c } (version_at_start apply j os) (apart j k o.0 s)

  nothing_paired : (es : List Entry) (os : List (Key × C)) → paired es os ≡ [] → es ≡ []
  nothing_paired [] os e = refl
  nothing_paired (x ∷ es) os e = by (is_making x) e
    where
      by : (b : Bool) → cond b (event x (first_in os) ∷ paired es (rest_in os)) (event x None ∷ paired es os) ≡ [] → x ∷ es ≡ []
      by true q = absurd (cc)
      by false q = absurd (cc)

  module _ (begun : ℕ) (firsts : List (Key × C)) (line : Key → Option (Rows C)) (es : List Entry) (clock : ℕ) (kept : Kept apply begun firsts line es clock) (old : History C) (is : history_of begun firsts es ≡ old) (first : old.events ≡ []) where
    no_entries : es ≡ []
    no_entries = nothing_paired es (drop begun firsts) (ap (λ (g : History C). g.events) is ∙ first)

    all_begun : length firsts ≡ begun
    all_begun = let n = kept.counted ∙ ap (λ ys. begun + making_in ys) no_entries in omega arith

    starts : firsts ≡ old.start
    starts = sym (take_all begun firsts (let n = all_begun in omega arith)) ∙ ap (λ (g : History C). g.start) is

    pub begun_is : (k : Key) (c : C) (n : ℕ) → n ≡ length (firsts ++ (k, c) ∷ []) → history_of n (firsts ++ (k, c) ∷ []) es ≡ record { start = old.start ++ (k, c) ∷ []; events = [] }
    begun_is k c n up =
        ap (λ ys. history_of n (firsts ++ (k, c) ∷ []) ys) no_entries
        ∙ ap (λ os. record { start = os; events = [] }) (take_all n (firsts ++ (k, c) ∷ []) (omega arith) ∙ ap (λ os. os ++ (k, c) ∷ []) starts)

    pub kept_begun : (k : Key) (c : C) (n : ℕ) (after : Key → Option (Rows C)) → n ≡ length (firsts ++ (k, c) ∷ []) → version_at apply old k ≡ None → ((j : Key) → after j ≡ cond (same_key j k) (Some (fresh (made c 0))) (line j)) → Kept apply n (firsts ++ (k, c) ∷ []) after es clock
    kept_begun k c n after up none changed =
        let grows = begun_is k c n up in
        let whole : record { start = old.start; events = [] } ≡ old = ap (λ ys. record { start = old.start; events = ys }) (sym first) in
        let absent : version_at_start apply k old.start ≡ None = ap (λ (g : History C). version_at apply g k) whole ∙ none in
        record {
          counted = sym up ∙ (let m = ap making_in no_entries in omega arith);
          held = λ j.
              subst (λ o. Held apply es o (versions apply (history_of n (firsts ++ (k, c) ∷ []) es) j)) (sym (changed j))
              (subst (λ ms. Held apply es (cond (same_key j k) (Some (fresh (made c 0))) (line j)) ms)
              (ap (λ o. made_at apply as_made 0 o ++ []) (sym (hidden j k c old.start absent)) ∙ ap (λ (g : History C). versions apply g j) (sym grows))
              (at_start (same_key j k) j (subst (λ (g : History C). Held apply es (line j) (versions apply g j)) (is ∙ sym whole) (kept.held j))));
          clock_is = kept.clock_is ∙ ap clock_of (is ∙ sym whole) ∙ ap clock_of (sym grows);
        }
      where
        at_start : (b : Bool) (j : Key) → Held apply es (line j) (made_at apply as_made 0 (version_at_start apply j old.start) ++ [])
            → Held apply es (cond b (Some (fresh (made c 0))) (line j)) (made_at apply as_made 0 (cond b (Some record { number = 1; content = c }) (version_at_start apply j old.start)) ++ [])
        at_start true j held = fresh_line apply es (made c 0)
        at_start false j held = held

  pub kept_new : (line : Key → Option (Rows C)) → ((j : Key) → line j ≡ None) → Kept apply 0 [] line [] 0
  kept_new line none = record { counted = refl; held = λ j. subst (λ o. Held apply [] o []) (sym (none j)) refl; clock_is = refl }
