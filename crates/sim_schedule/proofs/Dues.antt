-- The next of some ticks.
use Rattle.std.proofs.Common.{◌≡◌, ℕ, ◌+◌, ◌<◌, List, [], ◌∷◌, ◌++◌, length, map, take, get_or, Bool, true, false, cond, min, nat_lt, refl, sym, ◌∙◌, ap, ap₂, Option, Some, None, arith, filter_map}
use Rattle.std.specs.List.{flat_map, cons_option}
use Rattle.tree_types.specs.declared.path.Path.{Path}
use Rattle.tree_types.specs.declared.want.Want.{Want}
use Rattle.tree_types.specs.declared.want.Want.TheVariants as want
use Rattle.tree_state.specs.Finding.{due_above, sooner, least, next_tick as next_timer}
use Rattle.tree_types.specs.declared.entry.Entry.{Entry}
use Rattle.tree_types.specs.declared.entry.Entry.TheVariants.{Submit, Write, Create, Finish, File, Release, Save, Tick}
use Rattle.tree_types.specs.declared.outcome.Outcome.{Outcome}
use Rattle.meaning.specs.Trees.{wants}
use Rattle.history.specs.History.{Event}
use Rattle.law.specs.Documents.{Text, Document}
use Rattle.law.specs.Contents.{Flow, PodObject, Content, Story, flow_of, pod_of}
use Rattle.tree_incr.specs.Workflows.{Workflow}
use Rattle.next_step.specs.Hands.{Given, for_pod}
use Rattle.next_step.specs.Ticks.{planned_end, unfinished_end, pod_end, lesser, if_above, least_above, timer_tick, timers, ticks_by}
use Rattle.next_step.specs.Rounds.{submitted_by, created_by, if_unfinished}
use Rattle.sim_schedule.specs.declared.jobs.Job.{Job}
use Rattle.sim_schedule.specs.declared.roster.Roster.{Roster}
use Rattle.sim_schedule.specs.Inside.Jobs.{given}
use Rattle.sim_schedule.specs.Inside.Rosters.{IsOf, ticks_of}
use Rattle.sim_schedule.proofs.Listing.{flat_next, map_next, filter_of_map}

min_assoc : (a b c : ℕ) → min (min a b) c ≡ min a (min b c)
min_assoc a b c = omega arith

pub sooner_assoc : (a b c : Option ℕ) → sooner (sooner a b) c ≡ sooner a (sooner b c)
sooner_assoc None b c = refl
sooner_assoc (Some a) None c = refl
sooner_assoc (Some a) (Some b) None = refl
sooner_assoc (Some a) (Some b) (Some c) = ap Some (min_assoc a b c)

pub sooner_none : (a : Option ℕ) → sooner a None ≡ a
sooner_none None = refl
sooner_none (Some a) = refl

cond_min : (t u : ℕ) → cond (nat_lt t u) t u ≡ min t u
cond_min t u = grind arith

lesser_sooner : (t : ℕ) (o : Option ℕ) → Some (lesser t o) ≡ sooner (Some t) o
lesser_sooner t None = refl
lesser_sooner t (Some u) = ap Some (cond_min t u)

module _ (clock : ℕ) where
  one_more : (b : Bool) (t : ℕ) (o p : Option ℕ) → if_above b t (sooner o p) ≡ sooner (if_above b t o) p
  one_more true t o p = lesser_sooner t (sooner o p) ∙ sym (sooner_assoc (Some t) o p) ∙ ap (λ x. sooner x p) (sym (lesser_sooner t o))
  one_more false t o p = refl

  pub least_append : (xs ys : List ℕ) → least_above clock (xs ++ ys) ≡ sooner (least_above clock xs) (least_above clock ys)
  least_append [] ys = refl
  least_append (t ∷ ts) ys =
      ap (λ o. if_above (nat_lt clock t) t o) (least_append ts ys)
      ∙ one_more (nat_lt clock t) t (least_above clock ts) (least_above clock ys)

  with_timer : (b : Bool) (p : Path) (t : ℕ) (ws : List Want) → nat_lt clock t ≡ b → least (filter_map (due_above clock) ws) ≡ least_above clock (filter_map timer_tick ws) → least (filter_map (due_above clock) (want.Timer p t ∷ ws)) ≡ if_above (nat_lt clock t) t (least_above clock (filter_map timer_tick ws))
  with_timer true p t ws e rest = rw e (ap (λ o. sooner (Some t) o) rest ∙ sym (lesser_sooner t (least_above clock (filter_map timer_tick ws))))
  with_timer false p t ws e rest = rw e rest

  pub timers_least : (ws : List Want) → least (filter_map (due_above clock) ws) ≡ least_above clock (filter_map timer_tick ws)
  timers_least [] = refl
  timers_least (want.Pod p ∷ ws) = timers_least ws
  timers_least (want.Lock p t ∷ ws) = timers_least ws
  timers_least (want.LookUp p t u v ∷ ws) = timers_least ws
  timers_least (want.Arming p ∷ ws) = timers_least ws
  timers_least (want.Timer p t ∷ ws) = with_timer (nat_lt clock t) p t ws refl (timers_least ws)
  timers_least (want.Save p t u v ∷ ws) = timers_least ws

  -- ---- a walk over a list

  pub next_flat : {A : Type 0} (f : A → List ℕ) (xs : List A) (i : ℕ) (x : A) (next : Option ℕ) → i < length xs → x ≡ get_or xs i x → next ≡ least_above clock (flat_map f (take i xs)) → sooner next (least_above clock (f x)) ≡ least_above clock (flat_map f (take (i + 1) xs))
  next_flat f xs i x next below is so_far =
      ap (λ o. sooner o (least_above clock (f x))) so_far
      ∙ sym (least_append (flat_map f (take i xs)) (f x))
      ∙ ap (least_above clock) (sym (flat_next xs i x below is f))

  pub next_mapped : {A : Type 0} (f : A → ℕ) (xs : List A) (i : ℕ) (x : A) (next : Option ℕ) → i < length xs → x ≡ get_or xs i x → next ≡ least_above clock (map f (take i xs)) → sooner next (least_above clock (f x ∷ [])) ≡ least_above clock (map f (take (i + 1) xs))
  next_mapped f xs i x next below is so_far =
      ap (λ o. sooner o (least_above clock (f x ∷ []))) so_far
      ∙ sym (least_append (map f (take i xs)) (f x ∷ []))
      ∙ ap (least_above clock) (sym (map_next xs i x below is f))

-- ---- the timers of a workflow

pub timers_of : (clock at : ℕ) (f : Flow) (w : Workflow) (found : Option Flow) (r : Option ℕ) → at ≡ clock → w ≡ record { manifest = f.manifest; facts = f.journal } → Some f ≡ found → r ≡ next_timer at (wants w.manifest w.facts) → r ≡ least_above clock (timers found)
timers_of clock at f w found r e we fe re =
    re ∙ ap (λ t. next_timer t (wants w.manifest w.facts)) e
    ∙ ap (λ (x : Workflow). next_timer clock (wants x.manifest x.facts)) we
    ∙ timers_least clock (wants f.manifest f.journal)
    ∙ ap (λ o. least_above clock (timers o)) fe

-- ---- of the jobs of a history and of commands together

min_comm : (a b : ℕ) → min a b ≡ min b a
min_comm a b = omega arith

sooner_comm : (a b : Option ℕ) → sooner a b ≡ sooner b a
sooner_comm None b = sym (sooner_none b)
sooner_comm (Some a) None = refl
sooner_comm (Some a) (Some b) = ap Some (min_comm a b)

module _ (D : Document) (h : Story) (clock : ℕ) where
  abbrev least_of : List Given → Option ℕ
  least_of js = least_above clock (flat_map (ticks_of D h) js)

  abbrev of_entries : List Entry → Option ℕ
  of_entries es = least_above clock (flat_map (ticks_by D h) es)

  with_flow : (ts : List ℕ) (a b o : Option ℕ) → o ≡ sooner a b → sooner (least_above clock ts) o ≡ sooner (sooner (least_above clock ts) a) b
  with_flow ts a b o e = ap (sooner (least_above clock ts)) e ∙ sym (sooner_assoc (least_above clock ts) a b)

  with_pod : (ts : List ℕ) (a b o : Option ℕ) → o ≡ sooner a b → sooner (least_above clock ts) o ≡ sooner a (sooner (least_above clock ts) b)
  with_pod ts a b o e =
      let t = least_above clock ts in
      ap (sooner t) e ∙ sym (sooner_assoc t a b) ∙ ap (λ x. sooner x b) (sooner_comm t a) ∙ sooner_assoc a t b

  -- a pod that has ended has no tick
  pod_ticks : (w n : Text) (js : List Given) (o : Option PodObject) → pod_of h w n ≡ o → sooner (least_above clock (pod_end (D.planned w n) o)) (least_of js) ≡ least_of (cons_option (if_unfinished (for_pod w n) o) js)
  pod_ticks w n js None e = refl
  pod_ticks w n js (Some pod) e = by pod.outcome refl
    where
      by : (x : Option Outcome) → pod.outcome ≡ x → sooner (least_above clock (unfinished_end pod (D.planned w n) pod.outcome)) (least_of js) ≡ least_of (cons_option (if_unfinished (for_pod w n) (Some pod)) js)
      by (Some x) q = rw q refl
      by None q =
          rw q (sym (least_append clock (planned_end pod (D.planned w n)) (flat_map (ticks_of D h) js))
          ∙ ap (λ ts. least_above clock (ts ++ flat_map (ticks_of D h) js)) (rw e (rw q refl)))

  by_jobs : (es : List Entry) → of_entries es ≡ sooner (least_of (filter_map submitted_by es)) (least_of (filter_map (created_by h) es))
  by_jobs [] = refl
  by_jobs (Submit w old facts ∷ es) =
      least_append clock (timers (flow_of h w)) (flat_map (ticks_by D h) es)
      ∙ with_flow (timers (flow_of h w)) (least_of (filter_map submitted_by es)) (least_of (filter_map (created_by h) es)) (of_entries es) (by_jobs es)
      ∙ ap (λ o. sooner o (least_of (filter_map (created_by h) es))) (sym (least_append clock (timers (flow_of h w)) (flat_map (ticks_of D h) (filter_map submitted_by es))))
  by_jobs (Create w n p t ∷ es) =
      least_append clock (pod_end (D.planned w n) (pod_of h w n)) (flat_map (ticks_by D h) es)
      ∙ with_pod (pod_end (D.planned w n) (pod_of h w n)) (least_of (filter_map submitted_by es)) (least_of (filter_map (created_by h) es)) (of_entries es) (by_jobs es)
      ∙ ap (sooner (least_of (filter_map submitted_by es))) (pod_ticks w n (filter_map (created_by h) es) (pod_of h w n) refl)
  by_jobs (Write w n facts ∷ es) = by_jobs es
  by_jobs (Finish w n o ∷ es) = by_jobs es
  by_jobs (File a y r ∷ es) = by_jobs es
  by_jobs (Release a y ∷ es) = by_jobs es
  by_jobs (Save c y w o t ∷ es) = by_jobs es
  by_jobs (Tick t ∷ es) = by_jobs es

pub mapped_twice : {A B C : Type 0} (f : B → C) (g : A → B) (xs : List A) → map f (map g xs) ≡ map (λ x. f (g x)) xs
mapped_twice f g [] = refl
mapped_twice f g (x ∷ xs) = ap (λ ys. f (g x) ∷ ys) (mapped_twice f g xs)

flat_mapped : {A B C : Type 0} (f : B → List C) (g : A → B) (xs : List A) → flat_map f (map g xs) ≡ flat_map (λ x. f (g x)) xs
flat_mapped f g [] = refl
flat_mapped f g (x ∷ xs) = ap (λ ys. f (g x) ++ ys) (flat_mapped f g xs)

-- the next tick of a history, by its jobs
module _ {C : Type 0} (D : Document) (h : Story) (r : Roster) (is : IsOf h r) (tick : C → ℕ) (commands : List C) where
  of_list : (js : List Job) (gs : List Given) → map given js ≡ gs → flat_map (λ j. ticks_of D h (given j)) js ≡ flat_map (ticks_of D h) gs
  of_list js gs e = sym (flat_mapped (ticks_of D h) given js) ∙ ap (flat_map (ticks_of D h)) e

  pub by_roster : (clock at : ℕ) (workflows pods said r_next : Option ℕ) → at ≡ clock → workflows ≡ least_above clock (flat_map (λ j. ticks_of D h (given j)) r.workflows) → pods ≡ least_above clock (flat_map (λ j. ticks_of D h (given j)) r.pods) → said ≡ least_above at (map tick commands) → r_next ≡ sooner (sooner workflows pods) said → r_next ≡ least_above clock (flat_map (λ e. ticks_by D h e.entry) h.events ++ map tick commands)
  by_roster clock at workflows pods said r_next e we pe se re =
      let entries : List Entry = map (λ (x : Event Content). x.entry) h.events in
      let w : workflows ≡ least_above clock (flat_map (ticks_of D h) (filter_map submitted_by entries)) =
      we ∙ ap (least_above clock) (of_list r.workflows (filter_map submitted_by entries) (is.workflows ∙ sym (filter_of_map submitted_by (λ (x : Event Content). x.entry) h.events))) in
      let p : pods ≡ least_above clock (flat_map (ticks_of D h) (filter_map (created_by h) entries)) =
      pe ∙ ap (least_above clock) (of_list r.pods (filter_map (created_by h) entries) (is.pods ∙ sym (filter_of_map (created_by h) (λ (x : Event Content). x.entry) h.events))) in
      let both : sooner workflows pods ≡ least_above clock (flat_map (λ (x : Event Content). ticks_by D h x.entry) h.events) =
      ap₂ sooner w p ∙ sym (by_jobs D h clock entries) ∙ ap (least_above clock) (flat_mapped (ticks_by D h) (λ (x : Event Content). x.entry) h.events) in
      re ∙ ap₂ sooner both (se ∙ ap (λ t. least_above t (map tick commands)) e)
      ∙ sym (least_append clock (flat_map (λ (x : Event Content). ticks_by D h x.entry) h.events) (map tick commands))
