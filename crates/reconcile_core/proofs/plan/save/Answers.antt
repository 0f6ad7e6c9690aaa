-- The saves were read, the writer is not among them, and with the save they are what the entry leads to.
use Rattle.std.proofs.Common.{◌≡◌, [], ◌∷◌, ◌++◌, ◌∙◌, ap}
use Rattle.tree_types.specs.declared.entry.Entry.TheVariants.{Save}
use Rattle.law.specs.Contents.{OfCaches}
use Rattle.memo_cache.specs.Saving.{save_of}
use Rattle.next_step.specs.Replies.{seen}
use Rattle.reconcile_core.proofs.Planning.{shown_saves, save_has_saves, unsaved_in, save_plan}
use Rattle.reconcile_core.proofs.plan.save.Goals as goal

pub unreachable-requires : goal.unreachable-requires
unreachable-requires c = save_has_saves c.args.job.now.workflow c.args.job.now.views c.args.cache.now c.args.key.now c.args.writer.now c.args.outputs.now c.requires c.in_default.ensures

pub saved-requires : goal.saved-requires
saved-requires c =
    let s = c.in-Some.seen.now in
    let b = c.in-Some-caches.saves.now in
    let viewed = shown_saves s c.args.job.now.views.saves c.in-Some.ensures b c.in-Some-caches.ensures in
    unsaved_in c.args.job.now.workflow c.args.job.now.views c.args.cache.now c.args.key.now c.args.writer.now c.args.outputs.now c.requires (seen s.version b s.tick) viewed

pub returns : goal.returns
returns c =
    let s = c.in-Some.seen.now in
    let b = c.in-Some-caches.saves.now in
    let viewed = shown_saves s c.args.job.now.views.saves c.in-Some.ensures b c.in-Some-caches.ensures in
    let kept : c.in_ok-outputs.outputs ≡ c.args.outputs.now = c.in_ok-outputs.ensures ∙ c.in_ok-copy.ensures in
    save_plan c.args.job.now.workflow c.args.job.now.views c.args.cache.now c.args.key.now c.args.writer.now c.args.outputs.now c.requires (seen s.version b s.tick) viewed
    record { content = c.in_ok-of_caches.field-0; change = Save c.in_ok-copy-2.field-0 c.in_ok-copy-3.field-0 c.in_ok-copy-4.field-0 c.in_ok-outputs.outputs s.tick }
    (ap (λ x. Save x c.in_ok-copy-3.field-0 c.in_ok-copy-4.field-0 c.in_ok-outputs.outputs s.tick) c.in_ok-copy-2.ensures
    ∙ ap (λ x. Save c.args.cache.now x c.in_ok-copy-4.field-0 c.in_ok-outputs.outputs s.tick) c.in_ok-copy-3.ensures
    ∙ ap (λ x. Save c.args.cache.now c.args.key.now x c.in_ok-outputs.outputs s.tick) c.in_ok-copy-4.ensures
    ∙ ap (λ x. Save c.args.cache.now c.args.key.now c.args.writer.now x s.tick) kept)
    (c.in_ok-of_caches.ensures ∙ ap OfCaches (c.in_ok-next.ensures ∙ ap (λ x. b ++ save_of c.args.cache.now c.args.key.now c.args.writer.now x s.tick ∷ []) kept))
