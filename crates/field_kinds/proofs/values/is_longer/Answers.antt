use Rattle.std.proofs.Common.{refl}
use Rattle.serde_json.proofs.Views.{items_len-items_view}
use Rattle.field_kinds.proofs.values.is_longer.Goals as goal

pub returns-clause-told : goal.returns-clause-told
returns-clause-told c = rw (items_len-items_view c.args.list.now) refl
