-- The kept versions of an object over versions that are added.
use Rattle.std.proofs.Common.{◌≡◌, ℕ, ◌+◌, ◌-◌, List, [], ◌∷◌, ◌++◌, length, take, refl, sym, ◌∙◌, ap, subst, arith, length-append, Option, Some, None, ◌⊎◌, inl, inr}
use Rattle.std.specs.Prelude.{slice_get, IsSome, ◌<◌}
use Rattle.std.proofs.lemmas.Option.{slice_get_within}
use Rattle.tree_types.specs.declared.entry.Entry.{Entry}
use Rattle.object_store.specs.declared.line.Made.{Made}
use Rattle.object_store.specs.declared.line.Change.{Change}
use Rattle.object_store.specs.Inside.Rows.{Rows, change, last_start, row_size, IsRowed, first_among, first_of, fresh, StandsIn, OneMore, Leads, IsLine, Held}
use Rattle.object_store.proofs.Places.{get_at, get_left, get_seam, snoc_cases}

module _ {C : Type 0} where
  pub fresh_stands : (m : Made C) → StandsIn (fresh m) (m ∷ [])
  fresh_stands m = record {
    counted = omega arith;
    first = refl;
    row_before = λ x at. absurd (cc);
    last_row = λ i x at. get_at (m ∷ []) (last_start (fresh m) + i) i x (omega arith) at;
  }

  -- a version more in the last row
  pub pushed : (r n : Rows C) (m : Made C) (c : Change) → IsRowed r.rows r.later r.changes → n.rows ≡ r.rows → n.first ≡ r.first → n.later ≡ r.later ++ m ∷ [] → n.changes ≡ r.changes ++ c ∷ [] → OneMore r m c n
  pushed r n m c rowed rows first later changes = record {
    stands = λ all s.
        let whole = length-append all (m ∷ []) in
        let many : length n.changes ≡ length r.changes + 1 = ap length changes ∙ length-append r.changes (c ∷ []) in
        let full : length n.later ≡ length r.later + 1 = ap length later ∙ length-append r.later (m ∷ []) in
        let old = s.counted in
        record {
          counted = omega arith;
          first = get_left all (m ∷ []) 0 (first_of r) s.first ∙ ap Some (sym same_first);
          row_before = λ x at.
              get_at (all ++ m ∷ []) (last_start n - row_size) (last_start r - row_size) x (omega arith)
              (get_left all (m ∷ []) (last_start r - row_size) x (s.row_before x (sym (ap (λ xs. slice_get xs 1) rows) ∙ at)));
          last_row = λ i x at.
              get_at (all ++ m ∷ []) (last_start n + i) (last_start r + i) x (omega arith)
              (in_last all s i x (snoc_cases (r.first ∷ r.later) m i x (sym (ap (λ xs. slice_get xs i) (ap (λ f. f ∷ n.later) first ∙ ap (λ ms. r.first ∷ ms) later)) ∙ at)));
        };
    changes = changes;
    first = same_first;
  }
    where
      same_first : first_of n ≡ first_of r
      same_first = ap (λ rs. first_among rs n.first) rows ∙ ap (first_among r.rows) first

      in_last : (all : List (Made C)) → StandsIn r all → (i : ℕ) (x : Made C) → (slice_get (r.first ∷ r.later) i ≡ Some x) ⊎ ((i ≡ length (r.first ∷ r.later)) × (x ≡ m)) → slice_get (all ++ m ∷ []) (last_start r + i) ≡ Some x
      in_last all s i x (inl a) = get_left all (m ∷ []) (last_start r + i) x (s.last_row i x a)
      in_last all s i x (inr a) =
          let counted = s.counted in
          let full = rowed.full in
          let place = a.0 in
          get_at (all ++ m ∷ []) (last_start r + i) (length all) x (omega arith) (get_seam all m ∙ ap Some (sym a.1))

  -- a new last row
  pub rolled : (r n : Rows C) (m : Made C) (c : Change) → length r.later + 1 ≡ row_size → n.rows ≡ take 1 r.rows ++ r.first ∷ [] → n.first ≡ m → n.later ≡ [] → n.changes ≡ r.changes ++ c ∷ [] → OneMore r m c n
  rolled r n m c full rows first later changes = record {
    stands = λ all s.
        let whole = length-append all (m ∷ []) in
        let many : length n.changes ≡ length r.changes + 1 = ap length changes ∙ length-append r.changes (c ∷ []) in
        let none : length n.later ≡ 0 = ap length later in
        let old = s.counted in
        record {
          counted = omega arith;
          first = get_left all (m ∷ []) 0 (first_of r) s.first ∙ ap Some (sym same_first);
          row_before = λ x at.
              get_at (all ++ m ∷ []) (last_start n - row_size) (last_start r + 0) x (omega arith)
              (get_left all (m ∷ []) (last_start r + 0) x (s.last_row 0 x (second_is r.rows x (sym (ap (λ xs. slice_get xs 1) rows) ∙ at))));
          last_row = λ i x at.
              get_at (all ++ m ∷ []) (last_start n + i) (length all + i) x (omega arith)
              (in_last all i x (snoc_cases [] m i x (sym (ap (λ xs. slice_get xs i) (ap (λ f. f ∷ n.later) first ∙ ap (λ ms. m ∷ ms) later)) ∙ at)));
        };
    changes = changes;
    first = same_first;
  }
    where
      first_stays : (rs : List (Made C)) → first_among (take 1 rs ++ r.first ∷ []) n.first ≡ first_among rs r.first
      first_stays [] = refl
      first_stays (x ∷ rs) = refl

      same_first : first_of n ≡ first_of r
      same_first = ap (λ rs. first_among rs n.first) rows ∙ first_stays r.rows

      second_is : (rs : List (Made C)) (x : Made C) → slice_get (take 1 rs ++ r.first ∷ []) 1 ≡ Some x → Some r.first ≡ Some x
      second_is [] x at = absurd (cc)
      second_is (y ∷ rs) x at = at

      in_last : (all : List (Made C)) (i : ℕ) (x : Made C) → (slice_get {X = Made C} [] i ≡ Some x) ⊎ ((i ≡ 0) × (x ≡ m)) → slice_get (all ++ m ∷ []) (length all + i) ≡ Some x
      in_last all i x (inl a) = absurd (cc)
      in_last all i x (inr a) =
          let place = a.0 in
          get_at (all ++ m ∷ []) (length all + i) (length all) x (omega arith) (get_seam all m ∙ ap Some (sym a.1))

  -- ---- the last

  pub last_stands : (r : Rows C) (all : List (Made C)) (m : Made C) → IsRowed r.rows r.later r.changes → StandsIn r all → slice_get (r.first ∷ r.later) (length r.later) ≡ Some m → slice_get all (length r.changes) ≡ Some m
  last_stands r all m rowed s at =
      let full = rowed.full in
      get_at all (length r.changes) (last_start r + length r.later) m (omega arith) (s.last_row (length r.later) m at)

module _ {C : Type 0} (apply : C → Entry → Option C) where
  -- ---- more entries, and more versions

  leads_later : (es fs : List Entry) (all more : List (Made C)) (at : ℕ) (c : Change) → Leads apply es all at c → Leads apply (es ++ fs) (all ++ more) at c
  leads_later es fs all more at c l = record {
    from = l.from;
    entry = l.entry;
    to = l.to;
    is_from = get_left all more at l.from l.is_from;
    is_entry = get_left es fs c.place l.entry l.is_entry;
    is_to = get_left all more (at + 1) l.to l.is_to;
    leads = l.leads;
    ticks = l.ticks;
  }

  leads_same : (es fs : List Entry) (all : List (Made C)) (at : ℕ) (c : Change) → Leads apply es all at c → Leads apply (es ++ fs) all at c
  leads_same es fs all at c l = record {
    from = l.from;
    entry = l.entry;
    to = l.to;
    is_from = l.is_from;
    is_entry = get_left es fs c.place l.entry l.is_entry;
    is_to = l.is_to;
    leads = l.leads;
    ticks = l.ticks;
  }

  pub held_later : (es fs : List Entry) (o : Option (Rows C)) (all : List (Made C)) → Held apply es o all → Held apply (es ++ fs) o all
  held_later es fs None all h = h
  held_later es fs (Some r) all h = record { stands = h.stands; steps = λ at c is. leads_same es fs all at c (h.steps at c is) }

  -- where there are no versions, there is no object
  pub nothing_held : (es : List Entry) (o : Option (Rows C)) (all : List (Made C)) → Held apply es o all → all ≡ [] → o ≡ None
  nothing_held es None all h none = refl
  nothing_held es (Some r) all h none = let many = h.stands.counted in let no = ap length none in absurd (omega arith)

  pub none_held : (es : List Entry) (o : Option (Rows C)) (all : List (Made C)) → Held apply es o all → o ≡ None → all ≡ []
  none_held es o all h none = subst (λ q. Held apply es q all) none h

  pub fresh_line : (es : List Entry) (m : Made C) → IsLine apply es (fresh m) (m ∷ [])
  fresh_line es m = record { stands = fresh_stands m; steps = λ at c is. absurd (cc) }

  -- one version more, by an entry behind the others
  pub line_more : (es : List Entry) (e : Entry) (old new : Rows C) (all : List (Made C)) (from m : Made C) → IsLine apply es old all → slice_get all (length old.changes) ≡ Some from → apply from.content e ≡ Some m.content
      → OneMore old m (change (length es) m.tick) new → IsLine apply (es ++ e ∷ []) new (all ++ m ∷ [])
  line_more es e old new all from m line last leads more = record {
    stands = more.stands all line.stands;
    steps = λ at c is. by at c (snoc_cases old.changes (change (length es) m.tick) at c (sym (ap (λ xs. slice_get xs at) more.changes) ∙ is));
  }
    where
      newest : Leads apply (es ++ e ∷ []) (all ++ m ∷ []) (length old.changes) (change (length es) m.tick)
      newest = record {
        from = from;
        entry = e;
        to = m;
        is_from = get_left all (m ∷ []) (length old.changes) from last;
        is_entry = get_seam es e;
        is_to = get_at (all ++ m ∷ []) (length old.changes + 1) (length all) m (sym line.stands.counted) (get_seam all m);
        leads = leads;
        ticks = refl;
      }

      by : (at : ℕ) (c : Change) → (slice_get old.changes at ≡ Some c) ⊎ ((at ≡ length old.changes) × (c ≡ change (length es) m.tick)) → Leads apply (es ++ e ∷ []) (all ++ m ∷ []) at c
      by at c (inl a) = leads_later es (e ∷ []) all (m ∷ []) at c (line.steps at c a)
      by at c (inr a) = subst (λ d. Leads apply (es ++ e ∷ []) (all ++ m ∷ []) at d) (sym a.1) (subst (λ i. Leads apply (es ++ e ∷ []) (all ++ m ∷ []) i (change (length es) m.tick)) (sym a.0) newest)

  -- ---- made again

  some_is : {A : Type 0} (x y : A) → Some x ≡ Some y → x ≡ y
  some_is x y e = cc

  led_to : (from m : Made C) (entry e : Entry) (to next : C) → from ≡ m → entry ≡ e → apply from.content entry ≡ Some to → apply m.content e ≡ Some next → to ≡ next
  led_to from m entry e to next f g leads goes = some_is to next (sym leads ∙ ap (λ (x : Made C). apply x.content entry) f ∙ ap (apply m.content) g ∙ goes)

  -- the next version, from one that is there
  pub next_stands : (es : List Entry) (r : Rows C) (all : List (Made C)) (at : ℕ) (m : Made C) (c : Change) → IsLine apply es r all → slice_get all at ≡ Some m → slice_get r.changes at ≡ Some c → (e : Entry) → slice_get es c.place ≡ Some e
      → (next : C) → apply m.content e ≡ Some next → slice_get all (at + 1) ≡ Some record { content = next; tick = c.tick }
  next_stands es r all at m c line here is e there next leads =
      let l = line.steps at c is in
      let from : l.from ≡ m = some_is l.from m (sym l.is_from ∙ here) in
      let entry : l.entry ≡ e = some_is l.entry e (sym l.is_entry ∙ there) in
      l.is_to
      ∙ ap (λ d. Some record { content = d; tick = l.to.tick }) (led_to l.from m l.entry e l.to.content next from entry l.leads leads)
      ∙ ap (λ t. Some record { content = next; tick = t }) l.ticks

  -- the entry of a change leads on from the version that is there
  pub next_leads : (es : List Entry) (r : Rows C) (all : List (Made C)) (at : ℕ) (m : Made C) (c : Change) → IsLine apply es r all → slice_get all at ≡ Some m → slice_get r.changes at ≡ Some c → (e : Entry) → slice_get es c.place ≡ Some e
      → IsSome (apply m.content e)
  next_leads es r all at m c line here is e there =
      let l = line.steps at c is in
      let from : l.from ≡ m = some_is l.from m (sym l.is_from ∙ here) in
      let entry : l.entry ≡ e = some_is l.entry e (sym l.is_entry ∙ there) in
      subst IsSome (sym l.leads ∙ ap (λ (x : Made C). apply x.content l.entry) from ∙ ap (apply m.content) entry) refl

  -- which stands among the entries
  pub next_within : (es : List Entry) (r : Rows C) (all : List (Made C)) (at : ℕ) (c : Change) → IsLine apply es r all → slice_get r.changes at ≡ Some c → c.place < length es
  next_within es r all at c line is = let l = line.steps at c is in slice_get_within es c.place l.entry l.is_entry
