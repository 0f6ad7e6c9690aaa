-- What was asked for at the place is of the workflow and for a path that passes, or not.
use Rattle.std.proofs.Common.{Bool, ◌&&◌, bytes_eq, sym, ◌∙◌, ap}
use Rattle.std.specs.Prelude.{slice_get, option_copied}
use Rattle.sync_locks.specs.Book.{is_where}
use Rattle.sync_locks.proofs.Stands.{asked_seen, nothing_passes}
use Rattle.sync_locks.proofs.Holders.{not_true, not_false, and_false, where_passes, asked_there, keyed}
use Rattle.sync_locks.proofs.requests.Requests.path_where.Goals as goal

pub returns-in-None : goal.returns-in-None
returns-in-None g c =
    sym
    (nothing_passes (is_where c.args.workflow.now (g.T.PathTest.accepts c.args.test.now)) (slice_get c.args.self.now c.args.place)
    (sym (ap option_copied c.in-None.is) ∙ c.get.ensures ∙ asked_seen c.self.inside.asked c.self.inside.states c.args.self.now c.args.place c.self.invariant.kept.each_stands c.self.view_is))

pub returns-then-ne : goal.returns-then-ne
returns-then-ne g c =
    let w = c.args.workflow.now in
    let t = g.T.PathTest.accepts c.args.test.now in
    let a = c.in-Some.asked.now in
    sym
    (where_passes w t (slice_get c.args.self.now c.args.place) a
    (sym (ap option_copied c.in-Some.is) ∙ c.get.ensures ∙ asked_seen c.self.inside.asked c.self.inside.states c.args.self.now c.args.place c.self.invariant.kept.each_stands c.self.view_is))
    ∙ ap (λ (b : Bool). b && t a.key.path) (not_true (bytes_eq w a.key.workflow) (sym c.ne.ensures ∙ c.if-ne.true))

pub returns-then-accepts : goal.returns-then-accepts
returns-then-accepts g c =
    let w = c.args.workflow.now in
    let a = c.in-Some.asked.now in
    let at =
    asked_there (slice_get c.args.self.now c.args.place) a
    (sym (ap option_copied c.in-Some.is) ∙ c.get.ensures ∙ asked_seen c.self.inside.asked c.self.inside.states c.args.self.now c.args.place c.self.invariant.kept.each_stands c.self.view_is) in (
      at.0,
      at.1,
      at.2 ∙ keyed w a.key (not_false (bytes_eq w a.key.workflow) (sym c.ne.ensures ∙ c.if-ne.false)),
      sym c.accepts.ensures ∙ c.if-accepts.true,
    )

pub returns-else-accepts : goal.returns-else-accepts
returns-else-accepts g c =
    let w = c.args.workflow.now in
    let t = g.T.PathTest.accepts c.args.test.now in
    let a = c.in-Some.asked.now in
    sym
    (where_passes w t (slice_get c.args.self.now c.args.place) a
    (sym (ap option_copied c.in-Some.is) ∙ c.get.ensures ∙ asked_seen c.self.inside.asked c.self.inside.states c.args.self.now c.args.place c.self.invariant.kept.each_stands c.self.view_is))
    ∙ and_false (bytes_eq w a.key.workflow) (t a.key.path) (sym c.accepts.ensures ∙ c.if-accepts.false)
