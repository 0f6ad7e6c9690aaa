-- Why an object is read next: what its step has seen.
use Rattle.std.proofs.Common.{◌≡◌, Bool, true, false, cond, ◌&&◌, List, [], ◌∷◌, ◌++◌, filter_map, refl, sym, ◌∙◌, ap, subst, Option, Some, None, is_none, option_to_list, true≢false}
use Rattle.std.specs.List.{list_any}
use Rattle.tree_types.specs.declared.path.Path.{Path}
use Rattle.tree_types.specs.declared.fact.Fact.TheVariants as fact
use Rattle.tree_types.specs.declared.want.Want.{Want}
use Rattle.tree_types.specs.declared.want.Want.TheVariants as want
use Rattle.tree_types.specs.declared.entry.Key.{Key}
use Rattle.tree_types.specs.declared.entry.Key.TheVariants.{Workflow, Pod, Locks, Caches}
use Rattle.tree_types.specs.Journals.{knows}
use Rattle.growth.specs.Growth.{Among}
use Rattle.saves.specs.declared.Saved.{Saved}
use Rattle.law.specs.Documents.{Text, Document}
use Rattle.law.specs.Contents.{Flow}
use Rattle.law.specs.Justified.{tree_of, wants_of}
use Rattle.law.specs.Due.{Matter, record_fact, node_name}
use Rattle.lawful.proofs.Facts.{none_some}
use Rattle.next_step.specs.Views.{Seen, Look, Views, look_at, head, first_given}
use Rattle.next_step.specs.Next.{Next, get, act, done, Step, acting, has_locks, first_step, next_by, worker_next, steps}
use Rattle.next_step.specs.Next as step
use Rattle.next_laws.proofs.Firsts.{given_by, chained, if_then, unless_then, both}

-- a pod that is asked for, and was not looked at
pub record Unlooked (v : Views) (f : Flow) (name : Text) : Type 0 where
  pub path : Path
  pub asks : Among (want.Pod path) (wants_of f)
  pub named : node_name f path.sels ≡ Some name
  pub unseen : look_at v name ≡ None

-- with a view of the workflow: a pod of the workflow's own, or what there is no view of
abbrev pub WhyGet : Text → Views → Flow → Key → Type 0
WhyGet w v f (Workflow x) = ⊥
WhyGet w v f (Pod x name) = (x ≡ w) × Unlooked v f name
WhyGet w v f Locks = v.book ≡ None
WhyGet w v f Caches = v.saves ≡ None

get_same : (j k : Key) → Some (get j) ≡ Some (get k) → j ≡ k
get_same j k e = cc

act_get : {B : Type 0} (x : Matter) (k : Key) → Some (act x) ≡ Some (get k) → B
act_get x k e = absurd cc

none_seen : {A : Type 0} (o : Option A) → is_none o ≡ true → o ≡ None
none_seen None e = refl
none_seen (Some x) e = absurd (true≢false (sym e))

module _ (D : Document) (w : Text) (v : Views) (s : Seen Flow) where
  abbrev Why : Step → Type 0
  Why o = (k : Key) → o ≡ Some (get k) → WhyGet w v s.content k

  abbrev Wanted : Want → Type 0
  Wanted a = Among a (wants_of s.content)

  gets_why : (j : Key) → WhyGet w v s.content j → Why (Some (get j))
  gets_why j why k e = subst (WhyGet w v s.content) (get_same j k e) why

  none_why : Why None
  none_why k e = none_some (get k) e

  acting_why : (o : Option Matter) → Why (acting o)
  acting_why None k e = none_some (get k) e
  acting_why (Some x) k e = act_get x k e

  saves_why : (answer : Seen (List Saved) → Option Matter) (o : Option (Seen (List Saved))) → v.saves ≡ o → Why (step.by_saves D w v s o answer)
  saves_why answer None t = gets_why Caches t
  saves_why answer (Some c) t = acting_why (answer c)

  book_why : Why (step.read_book D w v s)
  book_why k e = by (has_locks s.content.manifest && is_none v.book) refl e
    where
      by : (b : Bool) → (has_locks s.content.manifest && is_none v.book) ≡ b → cond b (Some (get Locks)) None ≡ Some (get k) → WhyGet w v s.content k
      by true t h = gets_why Locks (none_seen v.book (both (has_locks s.content.manifest) (is_none v.book) t).1) k h
      by false t h = none_why k h

  start_why : Why (step.start D w v s)
  start_why k e = act_get (record_fact fact.Started) k (unless_then (knows s.content.journal fact.Started) (Some (act (record_fact fact.Started))) (get k) e).1

  unless_why : (p : Path) (name : Text) → Wanted (want.Pod p) → node_name s.content p.sels ≡ Some name → (o : Option Look) → look_at v name ≡ o → Why (step.unless_looked D w v s name o)
  unless_why p name i n None t = gets_why (Pod w name) (refl, record { path = p; asks = i; named = n; unseen = t })
  unless_why p name i n (Some l) t = none_why

  reading_why : (a : Want) → Wanted a → Why (step.reading D w v s a)
  reading_why (want.Pod p) i = λ k e.
      let c = chained (λ (name : Text). step.unless_looked D w v s name (look_at v name)) (node_name s.content p.sels) (get k) e in
      unless_why p c.0 i c.1 (look_at v c.0) refl k c.2
  reading_why (want.Lock p l) i = none_why
  reading_why (want.LookUp p c x g) i = none_why
  reading_why (want.Arming p) i = none_why
  reading_why (want.Timer p t) i = none_why
  reading_why (want.Save p c x o) i = none_why

  looking_why : (a : Want) → Wanted a → Why (step.looking D w v s a)
  looking_why (want.LookUp p cache entry age) i = saves_why (step.looked_up D w v s p cache entry age) v.saves refl
  looking_why (want.Pod p) i = none_why
  looking_why (want.Lock p l) i = none_why
  looking_why (want.Arming p) i = none_why
  looking_why (want.Timer p t) i = none_why
  looking_why (want.Save p c x o) i = none_why

  asked_why : (give : Want → Step) → ((a : Want) → Wanted a → Why (give a)) → Why (step.asked D w v s give)
  asked_why give why k e = let g = given_by give (wants_of s.content) (get k) e in why g.0 g.1 k g.2

  save_why : Why (step.save_one D w v s)
  save_why k e = saves_why (step.save_by D w v s) v.saves refl k (if_then (list_any (step.is_save D w v s) (wants_of s.content)) (step.by_saves D w v s v.saves (step.save_by D w v s)) (get k) e).1

  abbrev AllWhy : List Step → Type 0
  AllWhy [] = Unit {0}
  AllWhy (o ∷ ss) = Why o × AllWhy ss

  steps_why : (ss : List Step) (k : Key) → first_step ss ≡ get k → AllWhy ss → WhyGet w v s.content k
  steps_why [] k e a = absurd cc
  steps_why (None ∷ ss) k e a = steps_why ss k e a.1
  steps_why (Some n ∷ ss) k e a = a.0 k (ap Some e)

  all_why : AllWhy (steps D w v s)
  all_why = (
    book_why,
    (
      asked_why (step.reading D w v s) reading_why,
      (
        start_why,
        (
          acting_why (step.asked D w v s (step.settling D w v s)),
          (
            acting_why (step.asked D w v s (step.granting D w v s)),
            (
              acting_why (step.asked D w v s (step.filing D w v s)),
              (
                asked_why (step.looking D w v s) looking_why,
                (
                  acting_why (step.asked D w v s (step.arming D w v s)),
                  (
                    acting_why (step.asked D w v s (step.timing D w v s)),
                    (
                      acting_why (first_given (step.resuming D w v s) (tree_of s.content)),
                      (
                        acting_why (step.asked D w v s (step.creating D w v s)),
                        (
                          save_why,
                          (
                            acting_why (head (option_to_list (step.release_own D w v s) ++ filter_map (step.releasing D w v s) (tree_of s.content))),
                            (
                              acting_why (first_given (step.submitting D w v s) D.commands),
                              tt,
                            ),
                          ),
                        ),
                      ),
                    ),
                  ),
                ),
              ),
            ),
          ),
        ),
      ),
    ),
  )

-- each read that is next has a reason
pub why_get : (D : Document) (w : Text) (v : Views) (s : Seen Flow) (k : Key) → v.flow ≡ Some s → worker_next D w v ≡ get k → WhyGet w v s.content k
why_get D w v s k viewed e = steps_why D w v s (steps D w v s) k (ap (next_by D w v) (sym viewed) ∙ e) (all_why D w v s)

-- without a view the workflow is read
pub first_get : (D : Document) (w : Text) (v : Views) (k : Key) → v.flow ≡ None → worker_next D w v ≡ get k → Workflow w ≡ k
first_get D w v k viewed e = get_same (Workflow w) k (ap Some (ap (next_by D w v) (sym viewed) ∙ e))

-- ---- what is read is the worker's workflow, that workflow's pods, the lock book and the saves

abbrev pub OwnKey : Text → Key → Type 0
OwnKey w (Workflow x) = x ≡ w
OwnKey w (Pod x name) = x ≡ w
OwnKey w Locks = Unit {0}
OwnKey w Caches = Unit {0}

own_by : (w : Text) (v : Views) (f : Flow) (k : Key) → WhyGet w v f k → OwnKey w k
own_by w v f (Workflow x) why = absurd why
own_by w v f (Pod x name) why = why.0
own_by w v f Locks why = tt
own_by w v f Caches why = tt

pub own_key : (D : Document) (w : Text) (v : Views) (k : Key) → worker_next D w v ≡ get k → OwnKey w k
own_key D w v k e = by v.flow refl
  where
    by : (o : Option (Seen Flow)) → v.flow ≡ o → OwnKey w k
    by None t = subst (OwnKey w) (first_get D w v k t e) refl
    by (Some s) t = own_by w v s.content k (why_get D w v s k t e)
