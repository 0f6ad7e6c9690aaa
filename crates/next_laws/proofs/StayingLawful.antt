-- Why a job that nobody disturbs leaves a lawful history lawful.
use Rattle.std.proofs.Common.{sym, subst}
use Rattle.tree_types.specs.declared.entry.Key.{Key}
use Rattle.tree_types.specs.declared.entry.Key.TheVariants.{Workflow, Pod, Locks, Caches}
use Rattle.history.proofs.Extends.{extends_itself, lawful-grown}
use Rattle.law.specs.Documents.{Text, Document}
use Rattle.law.specs.Contents.{Content, Story}
use Rattle.law.specs.Justified.{Justified, IsLawful}
use Rattle.lawful.specs.Manifests.{HasValidWorkflows}
use Rattle.next_step.specs.Views.{Seen, Views}
use Rattle.next_step.specs.Changes.{Change, change_of, ShownAt, ViewsOf}
use Rattle.next_step.specs.Replies.{Reply, found, accepted, no_object, exists, conflict, fault}
use Rattle.next_step.specs.Calls.{Got, Did, Undisturbed, stays, reads, acts}
use Rattle.next_laws.specs.Acts.{ChangeStill}
use Rattle.next_laws.specs.Viewing.{IsRead, Answers}
use Rattle.next_laws.proofs.Acting.{acts_still}
use Rattle.next_laws.proofs.Viewing.{now_version, views_stay}

-- what a get shows is read
is_read : (h : Story) (k : Key) (x : Seen Content) → ShownAt h k x.number x.content x.tick → IsRead h k x
is_read h (Workflow w) x is = now_version h (Workflow w) x.number x.content x.tick is
is_read h (Pod w name) x is = now_version h (Pod w name) x.number x.content x.tick is
is_read h Locks x is = now_version h Locks x.number x.content x.tick is
is_read h Caches x is = is

pub got_answers : (h : Story) (k : Key) (r : Reply) → Got h k r → Answers h k r
got_answers h k (found x) g = is_read h k x g
got_answers h k no_object g = g
got_answers h k fault g = tt
got_answers h k (accepted x) g = absurd g
got_answers h k exists g = absurd g
got_answers h k (conflict a b) g = absurd g

-- a change that is still justified leaves a lawful history
pub did_lawful : (D : Document) (h i : Story) (c : Change) (r : Reply) → ChangeStill D h c → IsLawful D h → Did h c r i → IsLawful D i
did_lawful D h i c (accepted x) still l d =
    subst (IsLawful D) (sym d.grows) record { start = l.start; each = lawful-grown (Justified D) h c.event l.each (still h (extends_itself h) l.each d.unmoved) }
did_lawful D h i c exists still l d = subst (IsLawful D) (sym d.2) l
did_lawful D h i c (conflict e f) still l d = subst (IsLawful D) (sym d.4) l
did_lawful D h i c fault still l d = subst (IsLawful D) (sym d) l
did_lawful D h i c (found x) still l d = absurd d
did_lawful D h i c no_object still l d = absurd d

pub stays_lawful : (D : Document) (w : Text) (h : Story) (v : Views) (g : Story) (u : Views) → HasValidWorkflows D → IsLawful D h → ViewsOf h w v → Undisturbed D w h v g u → IsLawful D g
stays_lawful D w h v g u valid l a stays = l
stays_lawful D w h v g u valid l a (reads k r x e got on rest) =
    stays_lawful D w h x g u valid l (views_stay.reads D h h w v x k r (extends_itself h) a e (got_answers h k r got) on) rest
stays_lawful D w h v g u valid l a (acts {i = i} m s facts r x e viewed adds d on rest) =
    let still = acts_still D h w v s facts m valid l.start a viewed e adds in
    let kept = views_stay.acts D h h i w v x s facts m r (extends_itself h) a viewed e d on in
    stays_lawful D w i x g u valid (did_lawful D h i (change_of w v s facts m) r still l d) kept rest
