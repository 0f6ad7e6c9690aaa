-- The tree over one fact more, or too many nodes.
use Rattle.std.proofs.Common.{◌≡◌, [], ◌∷◌, ◌++◌, IsTrue, ap, ◌∙◌}
use Rattle.meaning.specs.Answers.{Facts}
use Rattle.tree_incr.specs.Workflows.{Workflow}
use Rattle.tree_incr.specs.NewPods.{TellsNewPods}
use Rattle.tree_incr.specs.NewLocks.{LastAddsNoLock}
use Rattle.tree_incr.proofs.Adding.{is_told, tree_within, added_within, added_past, told_after}
use Rattle.tree_incr.proofs.state.TreeState.add.Goals as goal

pub grown-requires : goal.grown-requires
grown-requires c =
    let more : c.add.new.self ≡ c.args.self.now.facts ++ c.args.fact ∷ [] = c.in_ok-add.ensures.ok ∙ ap (λ (J : Facts). J ++ c.args.fact ∷ []) (c.in_ok-facts.ensures ∙ ap (λ (w : Workflow). w.facts) c.self.view_is) in
    record { fact = c.args.fact; added = more; path = c.in_ok-changed.ensures }

pub returns-in_err-tree : goal.returns-in_err-tree
returns-in_err-tree c =
    let more : c.add.new.self ≡ c.args.self.now.facts ++ c.args.fact ∷ [] = c.in_ok-add.ensures.ok ∙ ap (λ (J : Facts). J ++ c.args.fact ∷ []) (c.in_ok-facts.ensures ∙ ap (λ (w : Workflow). w.facts) c.self.view_is) in
    added_past c.args.self.now c.args.fact c.add.new.self more c.from_residual-in_err-tree.result c.in_err-tree.field-0.0 c.from_residual-in_err-tree.ensures.1
    (λ s same told. same ∙ c.in_err-tree.ensures (λ h. told (same ∙ h)))

pub over-requires-clause-tree : goal.over-requires-clause-tree
over-requires-clause-tree c =
    let more : c.add.new.self ≡ c.args.self.now.facts ++ c.args.fact ∷ [] = c.in_ok-add.ensures.ok ∙ ap (λ (J : Facts). J ++ c.args.fact ∷ []) (c.in_ok-facts.ensures ∙ ap (λ (w : Workflow). w.facts) c.self.view_is) in
    record { meant = tree_within c.args.self.now c.args.fact c.add.new.self more c.in_ok-tree.tree (c.in_ok-tree.ensures (is_told c.in_ok-tree.tree)) }

pub returns : goal.returns
returns c told =
    let more : c.add.new.self ≡ c.args.self.now.facts ++ c.args.fact ∷ [] = c.in_ok-add.ensures.ok ∙ ap (λ (J : Facts). J ++ c.args.fact ∷ []) (c.in_ok-facts.ensures ∙ ap (λ (w : Workflow). w.facts) c.self.view_is) in
    added_within c.args.self.now c.args.fact c.add.new.self more c.in_ok-tree.tree c.in_ok-over.field-0 (c.in_ok-tree.ensures (is_told c.in_ok-tree.tree)) c.in_ok-over.ensures

pub over-requires-clause-new_pods : goal.over-requires-clause-new_pods
over-requires-clause-new_pods c =
    let w = c.args.self.now in
    let more : c.add.new.self ≡ w.facts ++ c.args.fact ∷ [] = c.in_ok-add.ensures.ok ∙ ap (λ (J : Facts). J ++ c.args.fact ∷ []) (c.in_ok-facts.ensures ∙ ap (λ (w : Workflow). w.facts) c.self.view_is) in
    told_after (TellsNewPods c.new_pods_in-new_pods.result) w c.args.fact c.add.new.self c.in_ok-tree.tree more (c.in_ok-tree.ensures (is_told c.in_ok-tree.tree))
    (c.new_pods_in-new_pods.ensures c.args.fact c.answered_by-answered.ensures)

pub over-requires-clause-adds_no_lock : goal.over-requires-clause-adds_no_lock
over-requires-clause-adds_no_lock c =
    let w = c.args.self.now in
    let more : c.add.new.self ≡ w.facts ++ c.args.fact ∷ [] = c.in_ok-add.ensures.ok ∙ ap (λ (J : Facts). J ++ c.args.fact ∷ []) (c.in_ok-facts.ensures ∙ ap (λ (w : Workflow). w.facts) c.self.view_is) in
    told_after (λ (x : Workflow). IsTrue c.adds_no_lock_in-adds_no_lock.result → LastAddsNoLock x) w c.args.fact c.add.new.self c.in_ok-tree.tree more (c.in_ok-tree.ensures (is_told c.in_ok-tree.tree))
    (c.adds_no_lock_in-adds_no_lock.ensures c.args.fact c.answered_by-answered.ensures)
