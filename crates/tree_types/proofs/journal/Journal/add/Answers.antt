use Rattle.std.proofs.Common.{subst, sym, ◌≡◌, false, List}
use Rattle.tree_types.specs.declared.fact.Fact.{Fact}
use Rattle.tree_types.specs.Journals.{knows}
use Rattle.tree_types.proofs.Adding.{is_journal-after_push}
use Rattle.tree_types.proofs.journal.Journal.add.Goals as goal

pub invariant_of-self : goal.invariant_of-self
invariant_of-self c =
    is_journal-after_push _ c.self.inside.facts _ c.args.fact c.self.invariant (subst (λ (fs : List Fact). knows fs c.args.fact ≡ false) (sym c.self.view_is) c.requires) c.push.ensures.ok c.push.ensures.err
