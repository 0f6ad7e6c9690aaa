use Rattle.std.proofs.Common.{◌≡◌, ◌++◌, ◌∷◌, [], ap, sym, ◌∙◌}
use Rattle.std.specs.Prelude.{bytes_eq}
use Rattle.std.specs.HashSet.{contains}
use Rattle.base_types.specs.Names.{is_among}
use Rattle.bundle_rules.proofs.NameAdded.{name_added}
use Rattle.bundle_rules.proofs.name_set.NameSet.with.Goals as goal

pub invariant_of-result : goal.invariant_of-result
invariant_of-result c = λ name.
    let same : c.push.new.self ≡ c.self.inside.names ++ c.args.name.now ∷ [] =
    c.in_ok-push.ensures.ok ∙ ap (λ n. c.self.inside.names ++ n ∷ []) c.in_ok-copy.ensures in
    name_added c.self.inside.names c.args.name.now name (contains bytes_eq c.self.inside.set name) (contains bytes_eq c.insert.new.set name)
    (c.self.invariant name) (c.in_ok-insert.ensures name)
    ∙ ap (λ names. is_among names name) (sym same)
