use Rattle.std.proofs.Common.{◌≡◌, subst, cond}
use Rattle.std.specs.Prelude.{Some}
use Rattle.history.specs.Keys.{same_key}
use Rattle.store_client.specs.Viewed.{view_of}
use Rattle.store_client.proofs.Kept.{kept}
use Rattle.store_client.proofs.views.Views.keep.Goals as goal

pub returns-clause-ok : goal.returns-clause-ok
returns-clause-ok g c = λ key.
    let s = c.args.snapshot in
    subst (λ es. view_of c.insert.new.self.entries key ≡ cond (same_key s.key key) (Some s) (view_of es key)) c.self.view_is
    (kept c.self.inside.snapshots.entries c.insert.new.self.entries c.in_ok-copy.field-0 s.key key s (c.in_ok-insert.ensures.updates.0 key) c.in_ok-copy.ensures)
