-- What is kept of lines, where lines are put together.
use Rattle.std.proofs.Common.{Option, ◌≡◌, ℕ, ◌+◌, ◌<◌, length, length-append, get_or, take, List, [], ◌∷◌, ◌++◌, Bool, true, ◌||◌, None, sym, ap, ap₂, ◌∙◌}
use Rattle.std.proofs.lemmas.List.{map-append, take_more}
use Rattle.std.specs.Prelude.{map}
use Rattle.std.specs.declared.sync.Arc.{Arc}
use Rattle.std.specs.declared.alloc.Global.{Global}
use Rattle.std.proofs.lemmas.List.Folds.{list_any-append, list_all-append}
use Rattle.std.specs.List.{list_any}
use Rattle.tree_types.specs.declared.path.Path.{Path}
use Rattle.tree_types.specs.declared.want.Want.{Want}
use Rattle.meaning.specs.declared.lines.Line.{Line}
use Rattle.meaning.specs.declared.lines.Line.TheVariants.{Asks as Asks'}
use Rattle.meaning.specs.Lines.{Parts, nothing, Made, then_parts, lines_below, lines_in, row_in, all_finished}
use Rattle.meaning.specs.Trees.{want_in, beginning_in, wants_in, beginnings_in}
use Rattle.meaning.proofs.Flattening.{lines_then, row_in_then}
use Rattle.tree_state.specs.declared.kinds.WantKind.{WantKind}
use Rattle.tree_state.specs.declared.kinds.WantKind.TheVariants.{Pod, Lock, LookUp, Arming, Timer, Save}
use Rattle.tree_state.specs.declared.kinds.Asks.{Asks}
use Rattle.tree_state.specs.declared.sum.Sum.{Sum}
use Rattle.tree_state.specs.declared.state.Line.{Line as Line'}
use Rattle.tree_state.specs.declared.state.Kid.{Kid}
use Rattle.tree_state.specs.Inside.Kids.{line_then, state_then, kid_parts, parts_of}
use Rattle.tree_state.specs.Asking.{is_of, ask_for}
use Rattle.tree_types.specs.Phases.{is_succeeded, is_failed}
use Rattle.tree_state.specs.Replacing.{some_succeeded, all_fell}
use Rattle.tree_state.specs.Inside.Sums.{let_begin, asks_in, both_ask, sum_of, sum_with}
use Rattle.tree_state.proofs.Counts.{count_then}
use Rattle.tree_state.proofs.Kids.{kid_then, pushed}
use Rattle.tree_state.proofs.OfKind.{among, kind_then}
use Rattle.tree_state.proofs.Tellings.{filter_append}

ask_then : (k : WantKind) (a b : List Line) → ask_for k (a ++ b) ≡ (ask_for k a || ask_for k b)
ask_then k a b =
    ap (λ (ws : List Want). list_any (is_of k) ws) (filter_append want_in a b) ∙ list_any-append (is_of k) (wants_in a) (wants_in b)

pub begin_then : (a b : List Line) → let_begin (a ++ b) ≡ (let_begin a || let_begin b)
begin_then a b =
    let is_there : Path → Bool = λ p. true in
    ap (λ (ps : List Path). list_any is_there ps) (filter_append beginning_in a b) ∙ list_any-append is_there (beginnings_in a) (beginnings_in b)

-- lines behind others
pub asks_then : (a b : List Line) → asks_in (a ++ b) ≡ both_ask (asks_in a) (asks_in b)
asks_then a b = λ i. record {
  pods = ask_then Pod a b i;
  locks = ask_then Lock a b i;
  look_ups = ask_then LookUp a b i;
  armings = ask_then Arming a b i;
  timers = ask_then Timer a b i;
  saves = ask_then Save a b i;
  beginnings = begin_then a b i;
}

counts_then : (k : WantKind) (p q : Parts) → length (among k (lines_below (then_parts p q))) ≡ length (among k (lines_below p)) + length (among k (lines_below q))
counts_then k p q =
    ap (λ (ls : List Line). length (among k ls)) (lines_then p q)
    ∙ ap (λ (ws : List Want). length ws) (kind_then k (lines_below p) (lines_below q))
    ∙ length-append (among k (lines_below p)) (among k (lines_below q))

-- parts behind others
pub sum_then : (p q : Parts) → sum_of (then_parts p q) ≡ sum_with (sum_of p) (sum_of q)
sum_then p q = λ i. record {
  nodes = count_then p q i;
  calls = (ap (λ (ms : List Made). length ms) (row_in_then p q) ∙ length-append (row_in p) (row_in q)) i;
  finished = (ap (λ (ms : List Made). all_finished ms) (row_in_then p q) ∙ list_all-append (λ (m : Made). m.own.finished) (row_in p) (row_in q)) i;
  succeeded = (ap (λ (ms : List Made). some_succeeded ms) (row_in_then p q) ∙ list_any-append (λ (m : Made). is_succeeded m.own.node.phase) (row_in p) (row_in q)) i;
  fell = (ap (λ (ms : List Made). all_fell ms) (row_in_then p q) ∙ list_all-append (λ (m : Made). is_failed m.own.node.phase) (row_in p) (row_in q)) i;
  pods = counts_then Pod p q i;
  locks = counts_then Lock p q i;
  asks = (ap asks_in (lines_then p q) ∙ asks_then (lines_below p) (lines_below q)) i;
}

-- ---- what is kept, once a kid is added

pub kid_kept : (kids : List Kid) (k : Kid) (s new sum : Sum) → s ≡ sum_of (parts_of kids) → new ≡ sum_of (kid_parts k) →
    sum ≡ sum_with s new → sum ≡ sum_of (parts_of (kids ++ k ∷ []))
kid_kept kids k s new sum was is given =
    given ∙ ap₂ sum_with was is ∙ sym (ap sum_of (pushed kids k) ∙ sum_then (parts_of kids) (kid_parts k))

-- parts behind others
pub both_kept : (p q : Parts) (s new sum : Sum) → s ≡ sum_of p → new ≡ sum_of q → sum ≡ sum_with s new → sum ≡ sum_of (then_parts p q)
both_kept p q s new sum was is given = given ∙ ap₂ sum_with was is ∙ sym (sum_then p q)

-- a kid's line, and its call
pub kid_summed : (l : Option (Arc Line' Global)) (s : Option (Arc Made Global)) (own call sum : Sum) → own ≡ sum_of (line_then l nothing) → call ≡ sum_of (state_then s nothing) →
    sum ≡ sum_with own call → sum ≡ sum_of (line_then l (state_then s nothing))
kid_summed l s own call sum one other given =
    both_kept (line_then l nothing) (state_then s nothing) own call sum one other given
    ∙ ap sum_of (kid_then l None nothing (state_then s nothing))

-- ---- the wants of a node, one after the other

pub asks_more : (ws : List Want) (i : ℕ) (w : Want) (a b : Asks) → i < length ws → w ≡ get_or ws i w → a ≡ asks_in (map Asks' (take i ws)) → b ≡ asks_in (Asks' w ∷ []) → both_ask a b ≡ asks_in (map Asks' (take (i + 1) ws))
asks_more ws i w a b lt is was one =
    ap₂ both_ask was one
    ∙ sym (asks_then (map Asks' (take i ws)) (Asks' w ∷ []))
    ∙ ap asks_in (sym (map-append Asks' (take i ws) (w ∷ [])))
    ∙ ap (λ (xs : List Want). asks_in (map Asks' xs)) (ap (λ (x : Want). take i ws ++ x ∷ []) is ∙ sym (take_more ws i w lt))

-- a node that asks for these, over parts
pub asks_over : (m : Made) (a b : Asks) → a ≡ asks_in (map Asks' m.own.wants) → b ≡ asks_in (lines_below m.parts) → both_ask a b ≡ asks_in (lines_in m)
asks_over m a b own below = ap₂ both_ask own below ∙ sym (asks_then (map Asks' m.own.wants) (lines_below m.parts))
