-- Why a pod that has ended stays so, and which pods are unfinished as a history goes on.
use Rattle.std.proofs.Common.{◌≡◌, ℕ, ◌+◌, Bool, true, false, cond, List, [], ◌∷◌, ◌++◌, append_assoc, filter_map, refl, sym, ◌∙◌, ap, ap₂, subst, Option, Some, None, unwrap_or, option_and_then}
use Rattle.std.specs.List.{cons_option}
use Rattle.std.proofs.lemmas.List.Elements.{filter_map-append}
use Rattle.tree_types.specs.declared.path.Path.{Path}
use Rattle.tree_types.specs.declared.outcome.Outcome.{Outcome}
use Rattle.tree_types.specs.declared.entry.Key.{Key}
use Rattle.tree_types.specs.declared.entry.Key.TheVariants as of_key
use Rattle.tree_types.specs.declared.entry.Entry.{Entry}
use Rattle.tree_types.specs.declared.entry.Entry.TheVariants.{Submit, Write, Create, Finish, File, Release, Save, Tick}
use Rattle.history.specs.Keys.{is_about}
use Rattle.history.specs.History.{Event, Version, Extends, map_content, next_version, step_at, version_from, version_at, grown}
use Rattle.history.specs.Sometime.{Stood}
use Rattle.history.proofs.Carrying.{was_justified, version_begins}
use Rattle.law.specs.Documents.{Text, Document}
use Rattle.law.specs.Contents.{PodObject, Content, OfPod, finished, begun_pod, pod_after, apply, Story, pod_in, pod_of}
use Rattle.law.specs.Justified.{CreateJustified, JustifiedBy, Justified, IsLawful}
use Rattle.lawful.proofs.Changes.{pod_found, created_stands}
use Rattle.lawful.proofs.Facts.{some_none}
use Rattle.lawful.proofs.Moments.{pod_later}
use Rattle.next_step.specs.Hands.{Given, for_pod}
use Rattle.next_step.specs.Rounds.{if_unfinished, created_by}
use Rattle.run_laws.specs.Pods.{still_open, created_jobs, followed, UnfinishedPods}
use Rattle.run_laws.proofs.Filtered.{filter_chain}

-- ---- a pod that has ended

-- a version of a pod with an outcome
record HasEnded (o : Option (Version Content)) : Type 0 where
  version : Version Content
  is : o ≡ Some version
  pod : PodObject
  content : version.content ≡ OfPod pod
  outcome : pod.outcome ≡ None → ⊥

pod_next : (pod : PodObject) (e : Entry) → (pod.outcome ≡ None → ⊥) → (x : PodObject) × (unwrap_or (pod_after pod e) (OfPod pod) ≡ OfPod x) × (x.outcome ≡ None → ⊥)
pod_next pod (Finish w n o) f = (finished pod o, refl, λ e. some_none o e)
pod_next pod (Submit w old facts) f = (pod, refl, f)
pod_next pod (Write w n facts) f = (pod, refl, f)
pod_next pod (Create w n p t) f = (pod, refl, f)
pod_next pod (File l k r) f = (pod, refl, f)
pod_next pod (Release l k) f = (pod, refl, f)
pod_next pod (Save c k w o t) f = (pod, refl, f)
pod_next pod (Tick t) f = (pod, refl, f)

next_ended : (k : Key) (o : Option (Version Content)) (e : Event Content) → HasEnded o → HasEnded (step_at apply k o e)
next_ended k o e x = by (is_about k e.entry)
  where
    by : (b : Bool) → HasEnded (cond b (next_version apply o e) o)
    by false = x
    by true =
        let n = pod_next x.pod e.entry x.outcome in
        record {
          version = record { number = x.version.number + 1; content = unwrap_or (apply x.version.content e.entry) x.version.content };
          is = ap (λ v. next_version apply v e) x.is;
          pod = n.0;
          content = ap (λ c. unwrap_or (apply c e.entry) c) x.content ∙ n.1;
          outcome = n.2;
        }

ended_from : (k : Key) (o : Option (Version Content)) (es : List (Event Content)) → HasEnded o → HasEnded (version_from apply k o es)
ended_from k o [] x = x
ended_from k o (e ∷ es) x = ended_from k (step_at apply k o e) es (next_ended k o e x)

-- a job, where there is no outcome
abbrev pub if_open : Given → Option Outcome → Option Given
if_open job o = elim o [ None ↦ Some job | Some x ↦ None ]

ended_done : (job : Given) (pod : PodObject) → (pod.outcome ≡ None → ⊥) → if_unfinished job (Some pod) ≡ None
ended_done job pod f = by pod.outcome refl
  where
    by : (o : Option Outcome) → pod.outcome ≡ o → if_open job o ≡ None
    by None e = absurd (f e)
    by (Some x) e = refl

stays_ended : (h g : Story) (w n : Text) (pod : PodObject) → Extends g h → pod_of h w n ≡ Some pod → (pod.outcome ≡ None → ⊥) → if_unfinished (for_pod w n) (pod_of g w n) ≡ None
stays_ended h g w n pod b s f =
    let k = of_key.Pod w n in
    let v = pod_found (version_at apply h k) pod s in
    let x = ended_from k (version_at apply h k) b.rest record { version = v.version; is = v.is; pod = pod; content = v.content; outcome = f } in
    let now : pod_of g w n ≡ Some x.pod =
    ap (λ o. pod_in (map_content o)) (version_begins apply g h b k ∙ x.is) ∙ ap (λ c. pod_in (Some c)) x.content in
    ap (if_unfinished (for_pod w n)) now ∙ ended_done (for_pod w n) x.pod x.outcome

-- ---- the unfinished ones

module _ (D : Document) (h : Story) (l : IsLawful D h) (g : Story) (b : Extends g h) where
  -- a pod that was created stands
  created_there : (k : Story) (e : Event Content) → Stood h k e → (w n : Text) (p : Path) (t : ℕ) → e.entry ≡ Create w n p t → (pod : PodObject) × (pod_of h w n ≡ Some pod)
  created_there k e s w n p t q =
      let j : CreateJustified k w n p t e.made = subst (JustifiedBy D k e.made) q (was_justified (Justified D) h k e s l.each) in
      let x = pod_later D h (grown k e) w n (begun_pod p t) s.extends l (created_stands D k e w n p t q j) in
      (x.now, x.stands)

  open_by : (w n : Text) (pod : PodObject) → pod_of h w n ≡ Some pod → if_unfinished (for_pod w n) (pod_of g w n) ≡ option_and_then (still_open g) (if_unfinished (for_pod w n) (Some pod))
  open_by w n pod s = by pod.outcome refl
    where
      by : (o : Option Outcome) → pod.outcome ≡ o → if_unfinished (for_pod w n) (pod_of g w n) ≡ option_and_then (still_open g) (if_open (for_pod w n) o)
      by None e = refl
      by (Some o) e = stays_ended h g w n pod b s (λ z. some_none o (sym e ∙ z))

  still_created : (k : Story) (e : Event Content) → Stood h k e → (x : Entry) → e.entry ≡ x → created_by g x ≡ option_and_then (still_open g) (created_by h x)
  still_created k e s (Create w n p t) q =
      let x = created_there k e s w n p t q in
      open_by w n x.0 x.1 ∙ ap (λ o. option_and_then (still_open g) (if_unfinished (for_pod w n) o)) (sym x.1)
  still_created k e s (Submit w old facts) q = refl
  still_created k e s (Write w n facts) q = refl
  still_created k e s (Finish w n o) q = refl
  still_created k e s (File a y r) q = refl
  still_created k e s (Release a y) q = refl
  still_created k e s (Save c y w o t) q = refl
  still_created k e s (Tick t) q = refl

  still_these : (before es : List (Event Content)) → h.events ≡ before ++ es → created_jobs g es ≡ filter_map (λ (e : Event Content). option_and_then (still_open g) (created_by h e.entry)) es
  still_these before [] q = refl
  still_these before (e ∷ es) q =
      let k : Story = record { start = h.start; events = before } in
      let r : h.events ≡ (before ++ e ∷ []) ++ es = q ∙ sym (append_assoc before (e ∷ []) es) in
      let s : Stood h k e = record { extends = record { same_start = refl; rest = es; goes_on = r } } in
      ap₂ cons_option (still_created k e s e.entry refl) (still_these (before ++ e ∷ []) es r)

  old_jobs : created_jobs g h.events ≡ filter_map (still_open g) (created_jobs h h.events)
  old_jobs = still_these [] h.events refl ∙ sym (filter_chain (still_open g) (λ (e : Event Content). created_by h e.entry) h.events)

goes_on : (D : Document) (h : Story) (es : List (Event Content)) → IsLawful D h → created_jobs (followed h es) (followed h es).events ≡ filter_map (still_open (followed h es)) (created_jobs h h.events) ++ created_jobs (followed h es) es
goes_on D h es l =
    let g = followed h es in
    filter_map-append (λ (e : Event Content). created_by g e.entry) h.events es
    ∙ ap (λ js. js ++ created_jobs g es) (old_jobs D h l g record { same_start = refl; rest = es; goes_on = refl })

pub finished_pods_stay : UnfinishedPods
finished_pods_stay = record { finished_stays = stays_ended; jobs_go_on = goes_on }
