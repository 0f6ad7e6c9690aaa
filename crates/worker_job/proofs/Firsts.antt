-- The first pod of a kind that is asked for, as it is kept.
use Rattle.std.proofs.Common.{◌≡◌, List, Option, Some, sym, subst}
use Rattle.std.specs.List.{find}
use Rattle.tree_types.specs.declared.want.Want.{Want}
use Rattle.tree_state.specs.Finding.{pods_in}
use Rattle.law.specs.Contents.{Flow}
use Rattle.law.specs.Justified.{wants_of}
use Rattle.next_step.specs.Views.{Look}
use Rattle.worker_job.specs.declared.marks.Sought.{Sought}
use Rattle.worker_job.specs.declared.marks.Found.{Found}
use Rattle.worker_job.specs.Inside.Marks.{such, IsOf, FoundIs}

-- what is kept of what was found
pub found_kept : (ls : List Look) (f : Flow) (s : Sought) (w : Want) (n : Option Found) → IsOf s w n → find (such s ls f) (pods_in (wants_of f)) ≡ Some w → FoundIs ls f n
found_kept ls f s w n of first = record {
  first = λ x e. subst (λ (y : Found). find (such y.sought ls f) (pods_in (wants_of f)) ≡ Some y.want) (sym (of.is x e)) first;
}
