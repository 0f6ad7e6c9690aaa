-- The act that is next is still justified where it is accepted.
use Rattle.std.proofs.Common.{Some, None}
use Rattle.history.specs.History.{event}
use Rattle.worker_job.specs.Told.{matter_told}
use Rattle.reconcile_core.proofs.Performing.{written, created, still, done, makes_it}
use Rattle.reconcile_core.proofs.perform.perform.Goals as goal

pub write-requires-clause-justified : goal.write-requires-clause-justified
write-requires-clause-justified g c =
    let w = c.args.job.now.workflow in
    let v = c.args.job.now.views in
    let m = matter_told c.args.matter.now in
    let s = c.in-Some.seen.now in
    let p = c.args.plan in
    still w v m p c.requires.plan (g.C.Client.law c.args.client.now) c.args.document.now c.requires.law c.acts_still.ensures
    c.requires.valid (g.C.Client.seen c.args.client.now) c.requires.views c.requires.next s.key s.version (event p.change None)
    (written w v m p c.requires.plan s c.in-Some.ensures)

pub create-requires-clause-justified : goal.create-requires-clause-justified
create-requires-clause-justified g c =
    let w = c.args.job.now.workflow in
    let v = c.args.job.now.views in
    let m = matter_told c.args.matter.now in
    let p = c.args.plan in
    let k = c.in_ok-key-in-None.key in
    still w v m p c.requires.plan (g.C.Client.law c.args.client.now) c.args.document.now c.requires.law c.acts_still.ensures
    c.requires.valid (g.C.Client.seen c.args.client.now) c.requires.views c.requires.next k 0 (event p.change (Some p.content))
    (created w v m p c.requires.plan k c.in_ok-key-in-None.ensures c.in-None.ensures)

pub returns-in-Some-clause-did : goal.returns-in-Some-clause-did
returns-in-Some-clause-did g c = λ told.
    let w = c.args.job.now.workflow in
    let v = c.args.job.now.views in
    let m = matter_told c.args.matter.now in
    let s = c.in-Some.seen.now in
    let p = c.args.plan in
    done w v m p c.requires.plan (g.C.Client.seen c.args.client.now) (g.C.Client.seen c.write.new.client) c.write.result
    (g.C.Client.others c.args.client.now) (g.C.Client.others c.write.new.client) s.key s.version (event p.change None)
    (written w v m p c.requires.plan s c.in-Some.ensures) (c.write.ensures.did told)

pub returns-in_ok-key-in-None-clause-did : goal.returns-in_ok-key-in-None-clause-did
returns-in_ok-key-in-None-clause-did g c = λ told.
    let w = c.args.job.now.workflow in
    let v = c.args.job.now.views in
    let m = matter_told c.args.matter.now in
    let p = c.args.plan in
    let k = c.in_ok-key-in-None.key in
    done w v m p c.requires.plan (g.C.Client.seen c.args.client.now) (g.C.Client.seen c.create.new.client) c.create.result
    (g.C.Client.others c.args.client.now) (g.C.Client.others c.create.new.client) k 0 (event p.change (Some p.content))
    (created w v m p c.requires.plan k c.in_ok-key-in-None.ensures c.in-None.ensures) (c.create.ensures.did told)

pub create-requires-clause-entry : goal.create-requires-clause-entry
create-requires-clause-entry g c =
    let w = c.args.job.now.workflow in
    let v = c.args.job.now.views in
    let m = matter_told c.args.matter.now in
    let p = c.args.plan in
    let k = c.in_ok-key-in-None.key in
    makes_it w v m p c.requires.plan k (created w v m p c.requires.plan k c.in_ok-key-in-None.ensures c.in-None.ensures)
