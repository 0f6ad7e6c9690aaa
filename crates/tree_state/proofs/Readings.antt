-- What is read of lines, and of lines behind them.
use Rattle.std.proofs.Common.{◌≡◌, ℕ, List, [], ◌∷◌, ◌++◌, Bool, Option, Some, None, refl, sym, ap, ◌∙◌, arith}
use Rattle.std.specs.Prelude.{min, filter_map}
use Rattle.std.specs.List.{find}
use Rattle.std.specs.Option.{option_or}
use Rattle.std.proofs.lemmas.List.Folds.{find-append}
use Rattle.tree_types.specs.declared.node.Node.{Node}
use Rattle.tree_types.specs.declared.path.Path.{Path}
use Rattle.tree_types.specs.declared.want.Want.{Want}
use Rattle.meaning.specs.declared.lines.Line.{Line}
use Rattle.meaning.specs.Trees.{node_in, want_in, beginning_in, nodes_in, wants_in, beginnings_in}
use Rattle.tree_state.specs.Asking.{first}
use Rattle.tree_state.specs.Finding.{due_above, sooner, least, next_tick}
use Rattle.tree_state.proofs.Tellings.{filter_append}

-- ---- the first want, node or task that passes

module _ (p : Want → Bool) where
  abbrev pub want_among : List Line → Option Want
  want_among ls = find p (wants_in ls)

  pub wants_then : (a b : List Line) → want_among (a ++ b) ≡ option_or (want_among a) (want_among b)
  wants_then a b = ap (λ ws. find p ws) (filter_append want_in a b) ∙ find-append p (wants_in a) (wants_in b)

module _ (p : Node → Bool) where
  abbrev pub node_among : List Line → Option Node
  node_among ls = find p (nodes_in ls)

  pub nodes_then : (a b : List Line) → node_among (a ++ b) ≡ option_or (node_among a) (node_among b)
  nodes_then a b = ap (λ ns. find p ns) (filter_append node_in a b) ∙ find-append p (nodes_in a) (nodes_in b)

abbrev pub beginning_among : List Line → Option Path
beginning_among ls = first (beginnings_in ls)

first_append : {X : Type 0} (xs ys : List X) → first (xs ++ ys) ≡ option_or (first xs) (first ys)
first_append [] ys = refl
first_append (x ∷ xs) ys = refl

pub beginnings_then : (a b : List Line) → beginning_among (a ++ b) ≡ option_or (beginning_among a) (beginning_among b)
beginnings_then a b = ap (λ ps. first ps) (filter_append beginning_in a b) ∙ first_append (beginnings_in a) (beginnings_in b)

-- ---- the next timer

min_moves : (a b c : ℕ) → min (min a b) c ≡ min a (min b c)
min_moves a b c = omega arith

pub sooner_moves : (a b c : Option ℕ) → sooner (sooner a b) c ≡ sooner a (sooner b c)
sooner_moves None b c = refl
sooner_moves (Some a) None c = refl
sooner_moves (Some a) (Some b) None = refl
sooner_moves (Some a) (Some b) (Some c) = ap (λ (n : ℕ). Some n) (min_moves a b c)

pub sooner_alone : (a : Option ℕ) → sooner a None ≡ a
sooner_alone None = refl
sooner_alone (Some a) = refl

least_then : (xs ys : List ℕ) → least (xs ++ ys) ≡ sooner (least xs) (least ys)
least_then [] ys = refl
least_then (x ∷ xs) ys = ap (λ (o : Option ℕ). sooner (Some x) o) (least_then xs ys) ∙ sym (sooner_moves (Some x) (least xs) (least ys))

module _ (clock : ℕ) where
  pub next_more : (a b : List Want) → next_tick clock (a ++ b) ≡ sooner (next_tick clock a) (next_tick clock b)
  next_more a b = ap least (filter_append (due_above clock) a b) ∙ least_then (filter_map (due_above clock) a) (filter_map (due_above clock) b)

  abbrev pub timer_among : List Line → Option ℕ
  timer_among ls = next_tick clock (wants_in ls)

  pub timers_then : (a b : List Line) → timer_among (a ++ b) ≡ sooner (timer_among a) (timer_among b)
  timers_then a b = ap (next_tick clock) (filter_append want_in a b) ∙ next_more (wants_in a) (wants_in b)
