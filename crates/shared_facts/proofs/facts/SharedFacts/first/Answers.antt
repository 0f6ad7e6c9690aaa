-- All facts of the path are in its bucket.
use Rattle.std.proofs.Common.{ℕ, List, ◌∙◌, ap}
use Rattle.std.specs.List.{find}
use Rattle.tree_types.specs.declared.fact.Fact.{Fact}
use Rattle.shared_facts.specs.Inside.Kinds.{is_of}
use Rattle.shared_facts.specs.Inside.Tables.{bucket_of}
use Rattle.shared_facts.proofs.Found.{found_in_bucket}
use Rattle.shared_facts.proofs.facts.SharedFacts.first.Goals as goal

pub returns : goal.returns
returns c =
    let J = c.args.self.now in
    let test = is_of c.args.kind c.args.sels.now in
    c.first_in.ensures ∙ ap (λ (facts : List Fact). find test facts) c.bucket.ensures ∙ ap (λ (key : ℕ). find test (bucket_of key J)) c.key_of.ensures.is ∙ found_in_bucket c.args.kind c.args.sels.now J
