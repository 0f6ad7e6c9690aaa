-- What the sets of places tell of tasks.
use Rattle.std.proofs.Common.{◌≡◌, ℕ, ◌<◌, List, length, Option, Some, None, sym, ◌∙◌, subst, arith}
use Rattle.std.specs.Prelude.{IfSome, IfNone}
use Rattle.wf_manifest.specs.Valid.{HasRank}
use Rattle.wf_manifest.specs.declared.calls.Task.{Task}
use Rattle.task_order.specs.declared.places.Places.{Places}
use Rattle.task_order.specs.Ancestors.{IsAncestor, HasOwnAncestor}
use Rattle.task_order.specs.Orders.{place, IsOrder, Reaches}
use Rattle.task_order.specs.Inside.Graphs.{IsGraph}
use Rattle.task_order.specs.Inside.Rows.{HoldReached, AreAncestors}
use Rattle.task_order.proofs.NameLists.{place_reads}
use Rattle.task_order.proofs.Graphs.{graph_long, ancestor_reached, reached_ancestor, own_ancestor}
use Rattle.task_order.proofs.Ranks.{has_rank}

module _ (tasks : List Task) (table : List (List ℕ)) (waits : List (List ℕ)) (sets : List Places) (g : IsGraph tasks table waits) (held : HoldReached waits sets) where
  told_reached : (name ancestor : List ℕ) (v p : ℕ) → place table name ≡ Some v → place table ancestor ≡ Some p → IsAncestor tasks ancestor name → Reaches waits p v
  told_reached name ancestor v p at_v at_p is =
      let (w, q, at_w, at_q, reaches) = ancestor_reached tasks table waits g ancestor name is in
      let same_v : w ≡ v = (let both : Some w ≡ Some v = sym at_w ∙ at_v in cc) in
      let same_p : q ≡ p = (let both : Some q ≡ Some p = sym at_q ∙ at_p in cc) in
      subst (λ x. Reaches waits x v) same_p (subst (λ x. Reaches waits q x) same_v reaches)

  pub told : AreAncestors tasks table sets
  told = record {
    long = held.long ∙ graph_long tasks table waits g;
    exact = λ name ancestor v p at_v at_p.
        let low : v < length table = (place_reads table name v at_v).0 in
        let long : length waits ≡ length table = graph_long tasks table waits g in
        let exact = held.exact v p (omega (arith, low, long)) in
        (λ e. reached_ancestor tasks table waits g p v ancestor name at_p at_v (exact.0 e), λ is. exact.1 (told_reached name ancestor v p at_v at_p is));
    there = λ name ancestor is.
        let (v, p, at_v, at_p, reaches) = ancestor_reached tasks table waits g ancestor name is in
        (v, p, at_v, at_p);
  }

-- ---- what is told where places were put in order, or not

pub rank_found : {V : Type 0} (items : V → List ℕ) (tasks : List Task) (table waits : List (List ℕ)) (g : IsGraph tasks table waits) (found : Option V) (order : V) → found ≡ Some order → IfSome found (λ o. IsOrder waits (items o)) → HasRank tasks
rank_found items tasks table waits g None order is ordered = absurd cc
rank_found items tasks table waits g (Some o) order is ordered = has_rank tasks table waits (items o) g ordered

pub own_found : {V : Type 0} (tasks : List Task) (table waits : List (List ℕ)) (g : IsGraph tasks table waits) (found : Option V) → found ≡ None → IfNone found ((v : ℕ) × Reaches waits v v) → HasOwnAncestor tasks
own_found tasks table waits g None is (v, reaches) = own_ancestor tasks table waits g v reaches
own_found tasks table waits g (Some o) is none = absurd cc
