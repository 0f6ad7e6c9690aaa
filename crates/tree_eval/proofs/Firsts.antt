-- What is found among the lines of both: the entrypoint's, else the exit handler's.
use Rattle.std.proofs.Common.{◌≡◌, ℕ, List, ◌++◌, Option, Some, None, sym, ap, ap₂, ◌∙◌, subst}
use Rattle.std.specs.Prelude.{IfSome}
use Rattle.std.specs.Borrow.{Bor}
use Rattle.std.specs.List.{Contains}
use Rattle.std.specs.Option.{option_or}
use Rattle.std.proofs.lemmas.List.Elements.{Contains-append_left, Contains-append_right}
use Rattle.tree_types.specs.declared.node.Node.{Node}
use Rattle.meaning.specs.declared.lines.Line.{Line}
use Rattle.meaning.specs.Lines.{Made, lines_in}
use Rattle.meaning.specs.Trees.{node_in, nodes_in, exit_lines}
use Rattle.tree_state.specs.declared.clue.Clue.{Clue}
use Rattle.tree_state.specs.Finding.{sooner, IsFound}
use Rattle.tree_state.proofs.Readings.{timer_among, timers_then}
use Rattle.tree_state.proofs.Tellings.{filter_append}
use Rattle.tree_eval.specs.declared.tops.Tops.{Tops}
use Rattle.tree_eval.specs.Inside.Tops.{lines_of}

module _ {X : Type 0} (read : List Line → Option X) (reads : (a b : List Line) → read (a ++ b) ≡ option_or (read a) (read b)) (tops : Tops) where
  -- the entrypoint has one
  pub main_has : (x : X) → Some x ≡ read (lines_in tops.main) → Some x ≡ read (lines_of tops)
  main_has x has = ap (λ (o : Option X). option_or o (read (exit_lines tops.exit))) has ∙ sym (reads (lines_in tops.main) (exit_lines tops.exit))

  -- it has none
  pub exit_has : (o : Option X) (b : Made) → None ≡ read (lines_in tops.main) → tops.exit ≡ Some b → o ≡ read (lines_in b) → o ≡ read (lines_of tops)
  exit_has o b lacks exit is =
      is
      ∙ ap (λ (e : Option Made). read (exit_lines e)) (sym exit)
      ∙ ap (λ (y : Option X). option_or y (read (exit_lines tops.exit))) lacks
      ∙ sym (reads (lines_in tops.main) (exit_lines tops.exit))

module _ (tops : Tops) where
  -- ---- timers

  pub both_timers : (clock : ℕ) (main exit : Option ℕ) (b : Made) → main ≡ timer_among clock (lines_in tops.main) → tops.exit ≡ Some b → exit ≡ timer_among clock (lines_in b) → sooner main exit ≡ timer_among clock (lines_of tops)
  both_timers clock main exit b its handles is =
      ap₂ sooner its (is ∙ ap (λ (e : Option Made). timer_among clock (exit_lines e)) (sym handles))
      ∙ sym (timers_then clock (lines_in tops.main) (exit_lines tops.exit))

  -- ---- nodes

  nodes_both : nodes_in (lines_of tops) ≡ nodes_in (lines_in tops.main) ++ nodes_in (exit_lines tops.exit)
  nodes_both = filter_append node_in (lines_in tops.main) (exit_lines tops.exit)

  pub found_main : (c : Clue) (n : Node) → IsFound c (lines_in tops.main) n → IsFound c (lines_of tops) n
  found_main c n found = (found.0, subst (λ (ns : List Node). Contains ns n) (sym nodes_both) (Contains-append_left (nodes_in (lines_in tops.main)) (nodes_in (exit_lines tops.exit)) n found.1))

  found_exit : (c : Clue) (n : Node) (b : Made) → tops.exit ≡ Some b → IsFound c (lines_in b) n → IsFound c (lines_of tops) n
  found_exit c n b exit found =
      let has : Contains (nodes_in (exit_lines tops.exit)) n = subst (λ (e : Option Made). Contains (nodes_in (exit_lines e)) n) (sym exit) found.1 in
      (found.0, subst (λ (ns : List Node). Contains ns n) (sym nodes_both) (Contains-append_right (nodes_in (lines_in tops.main)) (nodes_in (exit_lines tops.exit)) n has))

  pub found_behind : (c : Clue) (b : Made) (o : Option (Bor Node)) → tops.exit ≡ Some b → IfSome o (λ n. IsFound c (lines_in b) n.now) → IfSome o (λ n. IsFound c (lines_of tops) n.now)
  found_behind c b None exit found = tt
  found_behind c b (Some n) exit found = found_exit c n.now b exit found
