-- None of all does, or a pod was found.
use Rattle.std.proofs.Common.{map, sym, arith}
use Rattle.law.specs.Justified.{wants_of}
use Rattle.tree_state.specs.Finding.{pods_in}
use Rattle.worker_job.specs.Inside.{look_told}
use Rattle.worker_job.specs.Inside.Marks.{such, all}
use Rattle.worker_job.proofs.Marked.{known_any, known_fewer}
use Rattle.worker_job.proofs.marks.Pods.first.Goals as goal

pub returns-in-None : goal.returns-in-None
returns-in-None c =
    let f = c.args.self.now.object.now in
    let none = c.in-None.ensures.first c.requires.first in record {
      known = known_any (such c.args.sought (map look_told c.args.self.now.looks.now) f) all (pods_in (wants_of f)) (sym none);
      found = none;
    }

pub returns-in-Some : goal.returns-in-Some
returns-in-Some c =
    let f = c.args.self.now.object.now in record {
      known =
          known_fewer (such c.args.sought (map look_told c.args.self.now.looks.now) f) c.min.result c.in-Some.position (pods_in (wants_of f)) (omega (arith, c.min.ensures)) (omega (arith, c.min.ensures))
          (c.in-Some.ensures.known c.requires.first);
      found = c.in-Some.ensures.first c.requires.first;
    }
