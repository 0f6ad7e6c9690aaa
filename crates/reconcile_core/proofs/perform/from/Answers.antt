-- The snapshot that was kept is of the object that the act changes.
use Rattle.std.proofs.Common.{◌∙◌, ap}
use Rattle.law.specs.Contents.{OfLocks, OfCaches}
use Rattle.next_step.specs.Changes.{change_of}
use Rattle.worker_job.specs.Told.{matter_told, key_of}
use Rattle.reconcile_core.specs.Plans.{from_content}
use Rattle.reconcile_core.proofs.Performing.{match_map, none_seen, from_book, from_saves}
use Rattle.reconcile_core.proofs.perform.from.Goals as goal

pub returns-in-Save : goal.returns-in-Save
returns-in-Save c =
    let w = c.args.job.now.workflow in
    let v = c.args.job.now.views in
    let e = ap matter_told c.in-Save.is in
    match_map c.saves.result (λ n. ap (from_content v) e ∙ none_seen w v OfCaches v.saves n)
    (λ s shown. from_saves w v (matter_told c.args.matter.now) (ap (key_of w) e) (ap (from_content v) e) (λ flow facts. ap (λ x. (change_of w v flow facts x).number) e) s.now shown)
    c.saves.ensures

pub returns-in-File : goal.returns-in-File
returns-in-File c =
    let w = c.args.job.now.workflow in
    let v = c.args.job.now.views in
    let e = ap matter_told c.in-File.is in
    match_map c.book.result (λ n. ap (from_content v) e ∙ none_seen w v OfLocks v.book n)
    (λ s shown. from_book w v (matter_told c.args.matter.now) (ap (key_of w) e) (ap (from_content v) e) (λ flow facts. ap (λ x. (change_of w v flow facts x).number) e) s.now shown)
    c.book.ensures

pub returns-in-Release : goal.returns-in-Release
returns-in-Release c =
    let w = c.args.job.now.workflow in
    let v = c.args.job.now.views in
    let e = ap matter_told c.in-Release.is in
    match_map c.book-in-Release.result (λ n. ap (from_content v) e ∙ none_seen w v OfLocks v.book n)
    (λ s shown. from_book w v (matter_told c.args.matter.now) (ap (key_of w) e) (ap (from_content v) e) (λ flow facts. ap (λ x. (change_of w v flow facts x).number) e) s.now shown)
    c.book-in-Release.ensures
