-- A pod that runs is asked for, by its own path.
use Rattle.std.proofs.Common.{◌≡◌, inl, inr, Bool, true, false, cond, List, [], ◌∷◌, refl, sym, ap, ◌∙◌, subst, Some, None, option_map}
use Rattle.std.specs.List.{find}
use Rattle.tree_types.specs.declared.path.Path.{Path}
use Rattle.tree_types.specs.declared.phase.Phase.TheVariants.{Running}
use Rattle.tree_types.specs.declared.node.Kind.TheVariants as node_kind
use Rattle.tree_types.specs.declared.node.Node.{Node}
use Rattle.tree_types.specs.declared.want.Want.{Want}
use Rattle.tree_types.specs.declared.want.Want.TheVariants as want
use Rattle.tree_types.specs.Places.{sels_eq}
use Rattle.tree_types.proofs.Sels.{sels_same}
use Rattle.meaning.specs.Answers.{Sels, answers}
use Rattle.meaning.specs.Trees.{tree}
use Rattle.growth.specs.Growth.{Among}
use Rattle.askings.specs.Owners.{WaitsAsk}
use Rattle.tree_state.specs.declared.kinds.WantKind.TheVariants as kind
use Rattle.tree_state.specs.Asking.{is_of}
use Rattle.tree_state.specs.Finding.{pods_in}
use Rattle.tree_incr.specs.Workflows.{Workflow}
use Rattle.law.specs.Contents.{Flow}
use Rattle.law.specs.Due.{is_at}
use Rattle.law.specs.Justified.{tree_of}
use Rattle.next_step.specs.Views.{Look, is_look}
use Rattle.worker_job.specs.Inside.Marks.{IsUnread}
use Rattle.worker_job.proofs.Passing.{found_in}

-- a pod among wants is among their pods
among_by : (p : Path) (w : Want) (ws : List Want) (b : Bool) → Among (want.Pod p) (pods_in ws) → Among (want.Pod p) (cond b (w ∷ pods_in ws) (pods_in ws))
among_by p w ws true there = inr there
among_by p w ws false there = there

among_pods : (p : Path) (ws : List Want) → Among (want.Pod p) ws → Among (want.Pod p) (pods_in ws)
among_pods p [] here = absurd here
among_pods p (w ∷ ws) (inl same) = subst (λ (w : Want). Among (want.Pod p) (pods_in (w ∷ ws))) (sym same) (inl refl)
among_pods p (w ∷ ws) (inr there) = among_by p w ws (is_of kind.Pod w) (among_pods p ws there)

module _ (f : Flow) (state : Workflow) (p : Sels) (n : Node) where
  pub running_unread : (ls : List Look) → state ≡ record { manifest = f.manifest; facts = f.journal } → Some n ≡ find (λ n. sels_eq n.path.sels p) (tree state.manifest state.facts) → WaitsAsk → n.kind ≡ node_kind.Pod → n.phase ≡ Running → find (is_look n.name) ls ≡ None → IsUnread ls f n.name
  running_unread ls is found asks pod runs unread =
      let here : find (is_at p) (tree_of f) ≡ Some n = ap (λ (s : Workflow). find (is_at p) (tree s.manifest s.facts)) (sym is) ∙ sym found in
      let is_there = found_in (is_at p) (tree_of f) n here in
      let same : n.path.sels ≡ p = sels_same n.path.sels p is_there.1 in
      record {
        pod = want.Pod n.path;
        asked = among_pods n.path _ ((asks f.manifest (answers f.journal) n is_there.0).pod pod runs);
        named = ap (option_map (λ (n : Node). n.name)) (ap (λ (p : Sels). find (is_at p) (tree_of f)) same ∙ here);
        unread = unread;
      }
