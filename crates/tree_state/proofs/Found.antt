-- What is found among lines: wants that pass a test, nodes, and the next timer.
use Rattle.std.proofs.Common.{◌≡◌, ℕ, zero, suc, ◌+◌, ◌<◌, length, get_or, drop, List, [], ◌∷◌, Bool, true, false, cond, Option, Some, None, refl, sym, ap, ◌∙◌, subst, arith}
use Rattle.std.specs.Prelude.{◌||◌, ◌&&◌, filter_map}
use Rattle.std.specs.List.{find, list_any, Contains, cons_option}
use Rattle.std.proofs.lemmas.List.Elements.{Contains-append_left, Contains-append_right}
use Rattle.std.specs.declared.sync.Arc.{Arc}
use Rattle.std.specs.declared.alloc.Global.{Global}
use Rattle.tree_types.specs.declared.node.Node.{Node}
use Rattle.tree_types.specs.declared.want.Want.{Want}
use Rattle.tree_types.specs.declared.want.Want.TheVariants as want
use Rattle.meaning.specs.declared.lines.Line.{Line}
use Rattle.meaning.specs.Lines.{Parts, Made, lines_below, lines_in}
use Rattle.meaning.specs.Trees.{node_in, nodes_in, wants_in}
use Rattle.tree_state.specs.declared.kinds.WantKind.{WantKind}
use Rattle.tree_state.specs.declared.kinds.WantKind.TheVariants.{Timer}
use Rattle.tree_state.specs.declared.state.Line.{Line as Line'}
use Rattle.tree_state.specs.declared.state.Line.TheVariants.{MayBegin, Asks}
use Rattle.tree_state.specs.declared.state.Kid.{Kid}
use Rattle.tree_state.specs.Asking.{is_of, ask_for}
use Rattle.tree_state.specs.Finding.{passes, due_above, sooner, least, next_tick}
use Rattle.tree_state.specs.Inside.Kids.{line_then, state_then, kid_parts, parts_of}
use Rattle.tree_state.proofs.Counts.{no_nodes}
use Rattle.tree_state.proofs.Firsts.{asked_first, kids_read}
use Rattle.tree_state.proofs.Kids.{from_here}
use Rattle.tree_state.proofs.Readings.{node_among, sooner_moves, sooner_alone, next_more, timer_among, timers_then}
use Rattle.tree_state.proofs.Tellings.{filter_append}

-- ---- the test by which code compares paths is that of the definitions

-- ---- wants of a kind that pass a test

module _ (k : WantKind) (f : Want → Bool) where
  passes_none : (x : Want) (xs : List Want) → find (passes k f) xs ≡ None → (b : Bool) → is_of k x ≡ b → (b || list_any (is_of k) xs) ≡ false → find (passes k f) (x ∷ xs) ≡ None
  passes_none x xs rest true is off = absurd (cc)
  passes_none x xs rest false is off = ap (λ (b : Bool). cond (b && f x) (Some x) (find (passes k f) xs)) is ∙ rest

  rest_off : (b c : Bool) → (b || c) ≡ false → c ≡ false
  rest_off true c off = absurd (cc)
  rest_off false c off = off

  none_pass : (xs : List Want) → list_any (is_of k) xs ≡ false → find (passes k f) xs ≡ None
  none_pass [] off = refl
  none_pass (x ∷ xs) off = passes_none x xs (none_pass xs (rest_off (is_of k x) (list_any (is_of k) xs) off)) (is_of k x) refl off

  -- no want is of the kind
  pub lacks_passing : (ls : List Line) → ask_for k ls ≡ false → None ≡ find (passes k f) (wants_in ls)
  lacks_passing ls off = sym (none_pass (wants_in ls) off)

-- ---- nodes

module _ (p : Node → Bool) where
  node_first : (m : Made) → node_among p (lines_in m) ≡ cond (p m.own.node) (Some m.own.node) (node_among p (lines_below m.parts))
  node_first m = ap (λ ns. find p (m.own.node ∷ ns)) (no_nodes m.own.wants (lines_below m.parts))

  -- its own node passes
  pub own_passes : (m : Made) (b : Bool) → b ≡ p m.own.node → b ≡ true → Some m.own.node ≡ node_among p (lines_in m)
  own_passes m b is on = sym (node_first m ∙ ap (λ (x : Bool). cond x (Some m.own.node) (node_among p (lines_below m.parts))) (sym is ∙ on))

  -- it does not
  pub own_fails : (m : Made) (b : Bool) → b ≡ p m.own.node → b ≡ false → node_among p (lines_below m.parts) ≡ node_among p (lines_in m)
  own_fails m b is off = sym (node_first m ∙ ap (λ (x : Bool). cond x (Some m.own.node) (node_among p (lines_below m.parts))) (sym is ∙ off))

-- a line of its own has no node
line_without : (l : Option (Arc Line' Global)) (more : Parts) → nodes_in (lines_below (line_then l more)) ≡ nodes_in (lines_below more)
line_without None more = refl
line_without (Some l) more = by l.value
  where
    by : (x : Line') → nodes_in (lines_below (line_then (Some (record l { value = x })) more)) ≡ nodes_in (lines_below more)
    by (MayBegin p) = refl
    by (Asks w) = refl

-- ---- timers

module _ (clock : ℕ) where
  next_cons : (w : Want) (ws : List Want) → next_tick clock (w ∷ ws) ≡ sooner (due_above clock w) (next_tick clock ws)
  next_cons w ws = by (due_above clock w)
    where
      by : (o : Option ℕ) → least (cons_option o (filter_map (due_above clock) ws)) ≡ sooner o (next_tick clock ws)
      by None = refl
      by (Some t) = refl

  -- one want more
  pub tick_kept : (ws : List Want) (i : ℕ) (w : Want) (next now own : Option ℕ) → i < length ws → w ≡ get_or ws i w → own ≡ due_above clock w → now ≡ sooner next own →
      sooner next (next_tick clock (drop i ws)) ≡ next_tick clock ws → sooner now (next_tick clock (drop (i + 1) ws)) ≡ next_tick clock ws
  tick_kept ws i w next now own lt is due given was =
      let rest = next_tick clock (drop (i + 1) ws) in
      ap (λ (o : Option ℕ). sooner o rest) (given ∙ ap (sooner next) due)
      ∙ sooner_moves next (due_above clock w) rest
      ∙ ap (sooner next) (sym (next_cons w (drop (i + 1) ws)) ∙ ap (next_tick clock) (sym (from_here ws i w lt is)))
      ∙ was

  timers_over : (m : Made) → timer_among clock (lines_in m) ≡ sooner (next_tick clock m.own.wants) (timer_among clock (lines_below m.parts))
  timers_over m = ap (next_tick clock) (asked_first m.own.wants (lines_below m.parts)) ∙ next_more clock m.own.wants (wants_in (lines_below m.parts))

  -- one kid more
  pub timer_kept : (kids : List Kid) (i : ℕ) (k : Kid) (next now own all : Option ℕ) → i < length kids → k ≡ get_or kids i k → own ≡ timer_among clock (lines_below (kid_parts k)) → now ≡ sooner next own →
      sooner next (timer_among clock (lines_below (parts_of (drop i kids)))) ≡ all → sooner now (timer_among clock (lines_below (parts_of (drop (i + 1) kids)))) ≡ all
  timer_kept kids i k next now own all lt is due given was =
      let rest = timer_among clock (lines_below (parts_of (drop (i + 1) kids))) in
      ap (λ (o : Option ℕ). sooner o rest) (given ∙ ap (sooner next) due)
      ∙ sooner_moves next (timer_among clock (lines_below (kid_parts k))) rest
      ∙ ap (sooner next) (sym (kids_read sooner (timer_among clock) (timers_then clock) kids i k lt is))
      ∙ was

  timer_lacks : (w : Want) → is_of Timer w ≡ false → due_above clock w ≡ None
  timer_lacks (want.Pod p) off = refl
  timer_lacks (want.Lock p l) off = refl
  timer_lacks (want.LookUp p cache key age) off = refl
  timer_lacks (want.Arming p) off = refl
  timer_lacks (want.Timer p tick) off = absurd (cc)
  timer_lacks (want.Save p cache key o) off = refl

  either_off : (a b : Bool) → (a || b) ≡ false → (a ≡ false) × (b ≡ false)
  either_off true b off = absurd (cc)
  either_off false b off = (refl, off)

  no_timer : (ws : List Want) → list_any (is_of Timer) ws ≡ false → next_tick clock ws ≡ None
  no_timer [] off = refl
  no_timer (w ∷ ws) off =
      let both = either_off (is_of Timer w) (list_any (is_of Timer) ws) off in
      ap (λ (o : Option ℕ). least (cons_option o (filter_map (due_above clock) ws))) (timer_lacks w both.0) ∙ no_timer ws both.1

  -- no timer stands there
  pub lacks_timers : (ls : List Line) → ask_for Timer ls ≡ false → timer_among clock ls ≡ None
  lacks_timers ls off = no_timer (wants_in ls) off

  -- those of the node, and of what stands below it
  pub own_timers : (m : Made) (own : Option ℕ) → own ≡ next_tick clock m.own.wants → sooner own (timer_among clock (lines_below m.parts)) ≡ timer_among clock (lines_in m)
  own_timers m own is = ap (λ (o : Option ℕ). sooner o (timer_among clock (lines_below m.parts))) is ∙ sym (timers_over m)

  -- those of the node alone
  pub own_alone : (m : Made) (own : Option ℕ) → own ≡ next_tick clock m.own.wants → timer_among clock (lines_below m.parts) ≡ None → own ≡ timer_among clock (lines_in m)
  own_alone m own is lacks = sym (sooner_alone own) ∙ ap (sooner own) (sym lacks) ∙ own_timers m own is

-- ---- the nodes of one kid

pub below_in : (m : Made) (n : Node) → Contains (nodes_in (lines_below m.parts)) n → Contains (nodes_in (lines_in m)) n
below_in m n has = subst (λ (ns : List Node). Contains (m.own.node ∷ ns) n) (sym (no_nodes m.own.wants (lines_below m.parts))) (Contains-append_right (m.own.node ∷ []) (nodes_in (lines_below m.parts)) n has)

-- what the calls behind a kid made
rest_in : (l : Option (Arc Line' Global)) (s : Option (Arc Made Global)) (more : Parts) (n : Node) → Contains (nodes_in (lines_below more)) n → Contains (nodes_in (lines_below (line_then l (state_then s more)))) n
rest_in l s more n has = subst (λ (ns : List Node). Contains ns n) (sym (line_without l (state_then s more))) (by s)
  where
    by : (o : Option (Arc Made Global)) → Contains (nodes_in (lines_below (state_then o more))) n
    by None = has
    by (Some m) = subst (λ (ns : List Node). Contains ns n) (sym (filter_append node_in (lines_in m.value) (lines_below more))) (Contains-append_right (nodes_in (lines_in m.value)) (nodes_in (lines_below more)) n has)

here_in : (l : Option (Arc Line' Global)) (s : Arc Made Global) (more : Parts) (n : Node) → Contains (nodes_in (lines_in s.value)) n → Contains (nodes_in (lines_below (line_then l (state_then (Some s) more)))) n
here_in l s more n has =
    subst (λ (ns : List Node). Contains ns n) (sym (line_without l (state_then (Some s) more) ∙ filter_append node_in (lines_in s.value) (lines_below more)))
    (Contains-append_left (nodes_in (lines_in s.value)) (nodes_in (lines_below more)) n has)

pub kid_in : (kids : List Kid) (i : ℕ) (k : Kid) (s : Arc Made Global) (n : Node) → i < length kids → k ≡ get_or kids i k → k.state ≡ Some s → Contains (nodes_in (lines_in s.value)) n → Contains (nodes_in (lines_below (parts_of kids))) n
kid_in [] i k s n lt is holds has = absurd (omega arith)
kid_in (x ∷ kids) zero k s n lt is holds has =
    subst (λ (o : Option (Arc Made Global)). Contains (nodes_in (lines_below (line_then x.line (state_then o (parts_of kids))))) n) (sym (ap (λ (y : Kid). y.state) (sym is) ∙ holds)) (here_in x.line s (parts_of kids) n has)
kid_in (x ∷ kids) (suc i) k s n lt is holds has =
    rest_in x.line x.state (parts_of kids) n (kid_in kids i k s n (omega arith) is holds has)
