use Rattle.std.proofs.Common.{◌++◌, not, ap, ◌∙◌}
use Rattle.std.specs.Prelude.{codes}
use Rattle.json_fields.specs.Paths.{field_of}
use Rattle.field_kinds.specs.Rules.{unknown_lock}
use Rattle.wf_places.specs.Broken.{broken, plain_places}
use Rattle.wf_places.specs.Places.{has_limit}
use Rattle.wf_places.proofs.Positions.{then_added}
use Rattle.wf_places.proofs.templates.add_one_lock.Goals as goal

pub returns : goal.returns
returns c =
    let path = field_of c.args.at.now (codes "synchronization") in
    then_added c.add_plain_field.result c.args.out.now.items c.note_field.new.out.items c.add_plain_field.new.out.items (broken unknown_lock (not (has_limit c.args.limits.now c.args.lock.now)) path) (plain_places (field_of c.args.at.now (codes "synchronization.mutex.name")) c.args.lock.now.text) (c.in_ok-note_field.ensures ∙ ap (λ b. c.args.out.now.items ++ broken unknown_lock (not b) path) c.has_limit-known.ensures) c.add_plain_field.ensures
