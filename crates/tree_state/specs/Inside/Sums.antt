-- What is kept of the lines below a node: how many nodes, pods and locks stand there, how its calls ended, and which kinds of lines.
use Rattle.std.specs.Prelude.{Bool, true, ◌&&◌, ◌||◌, ◌+◌, List, length}
use Rattle.std.specs.List.{list_any}
use Rattle.meaning.specs.declared.lines.Line.{Line}
use Rattle.meaning.specs.Lines.{Parts, lines_below, row_in, all_finished}
use Rattle.meaning.specs.Trees.{wants_in, beginnings_in}
use Rattle.tree_state.specs.declared.kinds.WantKind.{WantKind}
use Rattle.tree_state.specs.declared.kinds.WantKind.TheVariants.{Pod, Lock, LookUp, Arming, Timer, Save}
use Rattle.tree_state.specs.declared.kinds.Asks.{Asks}
use Rattle.tree_state.specs.declared.sum.Sum.{Sum}
use Rattle.tree_state.specs.Asking.{ask_for}
use Rattle.tree_state.specs.Counting.{count_below}
use Rattle.tree_state.specs.Finding.{pods_in, locks_in}
use Rattle.tree_state.specs.Replacing.{some_succeeded, all_fell}

-- some line says that a task may begin
abbrev pub let_begin : List Line → Bool
let_begin ls = list_any (λ p. true) (beginnings_in ls)

abbrev pub asks_in : List Line → Asks
asks_in ls = record {
  pods = ask_for Pod ls;
  locks = ask_for Lock ls;
  look_ups = ask_for LookUp ls;
  armings = ask_for Arming ls;
  timers = ask_for Timer ls;
  saves = ask_for Save ls;
  beginnings = let_begin ls;
}

-- those of the one and of the other
abbrev pub both_ask : Asks → Asks → Asks
both_ask a b = record {
  pods = a.pods || b.pods;
  locks = a.locks || b.locks;
  look_ups = a.look_ups || b.look_ups;
  armings = a.armings || b.armings;
  timers = a.timers || b.timers;
  saves = a.saves || b.saves;
  beginnings = a.beginnings || b.beginnings;
}

abbrev pub asks_of : WantKind → Asks → Bool
asks_of Pod a = a.pods
asks_of Lock a = a.locks
asks_of LookUp a = a.look_ups
asks_of Arming a = a.armings
asks_of Timer a = a.timers
asks_of Save a = a.saves

abbrev pub sum_of : Parts → Sum
sum_of p = record {
  nodes = count_below p;
  pods = length (pods_in (wants_in (lines_below p)));
  locks = length (locks_in (wants_in (lines_below p)));
  calls = length (row_in p);
  finished = all_finished (row_in p);
  succeeded = some_succeeded (row_in p);
  fell = all_fell (row_in p);
  asks = asks_in (lines_below p);
}

-- with so much more
abbrev pub sum_with : Sum → Sum → Sum
sum_with s t = record {
  nodes = s.nodes + t.nodes;
  pods = s.pods + t.pods;
  locks = s.locks + t.locks;
  calls = s.calls + t.calls;
  finished = s.finished && t.finished;
  succeeded = s.succeeded || t.succeeded;
  fell = s.fell && t.fell;
  asks = both_ask s.asks t.asks;
}
