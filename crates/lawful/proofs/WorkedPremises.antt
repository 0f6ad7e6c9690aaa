-- The premises of the laws hold together, of the worked history of a workflow with a mutex: each law, put to it.
use Rattle.std.proofs.Common.{◌≡◌, ℕ, Bool, true, false, cond, ◌&&◌, bytes_eq, codes, take, drop, lit≤, lit<, [], ◌∷◌, ◌++◌, refl, sym, ◌∙◌, ap, subst, Option, Some, None, ◌⊎◌, inl, inr, arith}
use Rattle.std.proofs.lemmas.List.Elements.{All-nil, All-cons}
use Rattle.tree_types.specs.declared.fact.Fact.TheVariants as fact
use Rattle.tree_types.specs.declared.entry.Key.TheVariants as of_key
use Rattle.tree_types.specs.declared.entry.Entry.TheVariants.{Submit, Create, Finish, File, Release, Tick}
use Rattle.wf_manifest.specs.declared.templates.Body.TheVariants as body
use Rattle.wf_manifest.specs.declared.templates.Template.{Template}
use Rattle.wf_manifest.specs.Valid.{HasNoCircle, Valid}
use Rattle.meaning.specs.Answers.{Facts}
use Rattle.meaning.specs.Trees.{closed}
use Rattle.meaning.proofs.Samples.{template, succeeded}
use Rattle.growth.specs.Writes as writes
use Rattle.history.specs.History.{Event, event, Version, next_version, version_at, map_content, clock_of}
use Rattle.history.proofs.Extends.{extends_itself}
use Rattle.history.proofs.Keys.{bytes_eq-true}
use Rattle.books.specs.declared.Request.{Request}
use Rattle.books.specs.Books.{held, request}
use Rattle.law.specs.Documents.{Text}
use Rattle.law.specs.Contents.{Flow, PodObject, Book, Content, OfWorkflow, OfPod, OfLocks, flow, begun_pod, finished, apply, flow_in, pod_in, HasFlow}
use Rattle.law.specs.Justified.{Adds, Justified, IsLawful}
use Rattle.law.specs.Due.{record_fact, due_of, IsTooLarge, PodDueAt}
use Rattle.lawful.specs.Still.{FlowView, PodView, BookView}
use Rattle.lawful.specs.Manifests.{HasValidWorkflows}
use Rattle.lawful.specs.Dues.{MatterJustified}
use Rattle.lawful.specs.Idles.{NothingDue, IsFromOutside}
use Rattle.lawful.proofs.Facts.{some_same, none_some, some_none}
use Rattle.lawful.proofs.Journals.{lawful_then, fact_asked, journals_lawful}
use Rattle.lawful.proofs.Still.{started_still, settled_still, granted_still, filed_still, released_still, created_still, finished_still, submitted_still}
use Rattle.lawful.proofs.ManifestsValid.{manifests_valid}
use Rattle.lawful.proofs.AddsOrIsTooLarge.{adds_or_is_too_large}
use Rattle.lawful.proofs.DueIsJustified.{pods_by_name, due_is_justified}
use Rattle.lawful.proofs.NothingElse.{nothing_else}
use Rattle.lawful.proofs.RanksApart.{ranks_apart}
use Rattle.lawful.proofs.WorkedLocks.{w, mutex, m, plan, D, main, k, r, writes_now, entries, story, J1, J2, J3, waiting_node, running_node, over_node, eight_lawful, due_at_end}

-- each beginning of the history is lawful
lawful_at : (n : ℕ) → entries ≡ take n entries ++ drop n entries → IsLawful D (story n)
lawful_at n e = lawful_then D (story 8) (story n) record { same_start = refl; rest = drop n entries; goes_on = e } eight_lawful

-- ---- the document is valid

valid_manifest : Valid m
valid_manifest = record {
  templates_differ = refl;
  steps_differ = refl;
  step_names = refl;
  parameters_differ = refl;
  parameter_names = refl;
  calls = refl;
  entry = refl;
  short = refl;
  short_parameters = refl;
  retries = refl;
  values = refl;
  entry_values = refl;
  tasks = refl;
  one_spelling = refl;
  no_circle = All-cons (λ (t : Template). HasNoCircle t.body) (record (template (codes "main") body.Pod) { lock = Some mutex }) [] tt (All-nil (λ (t : Template). HasNoCircle t.body));
}

pub valid_document : HasValidWorkflows D
valid_document n (inl e) = subst Valid e valid_manifest
valid_document n (inr x) = absurd x

-- ---- views, as they are read at a moment of the history

abbrev flow_at : (n number : ℕ) (f : Flow) → version_at apply (story n) (of_key.Workflow w) ≡ Some record { number = number; content = OfWorkflow f } → clock_of (story n) ≡ 0 → FlowView (story n) w
flow_at n number f e c = record { number = number; flow = f; tick = 0; shown = record { before = story n; extends = extends_itself (story n); stood = e; clock = c } }

abbrev pod_at : (n number : ℕ) (pod : PodObject) → version_at apply (story n) (of_key.Pod w w) ≡ Some record { number = number; content = OfPod pod } → clock_of (story n) ≡ 0 → PodView (story n) w w
pod_at n number pod e c = record { number = number; pod = pod; tick = 0; shown = record { before = story n; extends = extends_itself (story n); stood = e; clock = c } }

abbrev book_at : (n number : ℕ) (b : Book) → version_at apply (story n) of_key.Locks ≡ Some record { number = number; content = OfLocks b } → clock_of (story n) ≡ 0 → BookView (story n)
book_at n number b e c = record { number = number; book = b; tick = 0; shown = record { before = story n; extends = extends_itself (story n); stood = e; clock = c } }

abbrev empty_book : Book
empty_book = record { limits = []; requests = [] }

abbrev holding : Request
holding = held (request mutex k r)

abbrev held_book : Book
held_book = record { limits = []; requests = holding ∷ [] }

-- ---- what is added by them

submitted : Justified D (story 0) (event (Submit w None []) (Some (OfWorkflow (flow m []))))
submitted = submitted_still D (story 0) m (inl refl) (story 0) (extends_itself (story 0)) (lawful_at 0 refl).each refl

started : Justified D (story 1) (writes_now 2 (fact.Started ∷ []))
started =
    started_still D (story 1) w (flow_at 1 1 (flow m []) refl refl) (fact.Started ∷ [])
    record { beginnings = []; parts = refl; closes = closed refl; fits = omega arith; is_new = refl }
    (story 1) (extends_itself (story 1)) (lawful_at 1 refl).each refl

filed : Justified D (story 2) (event (File mutex k r) None)
filed =
    filed_still D (story 2) w (flow_at 2 2 (flow m J1) refl refl) (book_at 2 1 empty_book refl refl) main mutex w refl (inl refl)
    (waiting_node, inl refl, refl, refl) (story 2) (extends_itself (story 2)) (lawful_at 2 refl).each refl

granted : Justified D (story 3) (writes_now 3 (fact.Granted main ∷ []))
granted =
    granted_still D (story 3) w (flow_at 3 2 (flow m J1) refl refl) (book_at 3 2 held_book refl refl) main mutex holding
    (fact.Granted main ∷ []) refl refl (inl refl)
    record { beginnings = []; parts = refl; closes = closed refl; fits = omega arith; is_new = refl }
    (story 3) (extends_itself (story 3)) (lawful_at 3 refl).each refl

created : Justified D (story 4) (event (Create w w main 0) (Some (OfPod (begun_pod main 0))))
created =
    created_still D (story 4) w (flow_at 4 3 (flow m J2) refl refl) running_node (inl refl) (inl refl)
    (story 4) (extends_itself (story 4)) (lawful_at 4 refl).each refl

ended : Justified D (story 5) (event (Finish w w succeeded) None)
ended =
    finished_still D (story 5) w w (pod_at 5 1 (begun_pod main 0) refl refl) plan refl refl (lit≤ tt)
    (story 5) (extends_itself (story 5)) (lawful_at 5 refl).each refl

settled : Justified D (story 6) (writes_now 4 (fact.Settled main succeeded ∷ []))
settled =
    settled_still D (story 6) w (flow_at 6 3 (flow m J2) refl refl) w (pod_at 6 2 (finished (begun_pod main 0) succeeded) refl refl)
    succeeded (fact.Settled main succeeded ∷ []) refl (inl refl)
    record { beginnings = []; parts = refl; closes = closed refl; fits = omega arith; is_new = refl }
    (story 6) (extends_itself (story 6)) (lawful_at 6 refl).each refl

released : Justified D (story 7) (event (Release mutex k) None)
released =
    released_still D (story 7) w (flow_at 7 4 (flow m J3) refl refl) (book_at 7 2 held_book refl refl) main holding refl refl
    (over_node, inl refl, refl, refl) (story 7) (extends_itself (story 7)) (lawful_at 7 refl).each refl

-- ---- journals, and facts that are asked for

journal : writes.IsLawfulJournal m J1
journal = journals_lawful D (story 3) (lawful_at 3 refl) w (flow m J1) refl

matter : MatterJustified D (story 3) w (flow m J1) (record_fact (fact.Granted main))
matter = due_is_justified D (story 3) w (flow m J1) (record_fact (fact.Granted main)) valid_document (lawful_at 3 refl) refl (inl refl)

grant_asked : writes.Asked m J1 (fact.Granted main)
grant_asked = fact_asked D (story 3) w (flow m J1) (fact.Granted main) (lawful_at 3 refl).each refl journal refl matter.0

grant_adds : ((facts : Facts) × Adds (flow m J1) (fact.Granted main) facts) ⊎ IsTooLarge (flow m J1) (fact.Granted main)
grant_adds = adds_or_is_too_large (flow m J1) (fact.Granted main) journal grant_asked

-- ---- manifests, pods and ranks

valid_at_end : Valid m
valid_at_end = manifests_valid D (story 8) w (flow m J3) valid_document eight_lawful refl

pod_is_its_nodes : main ≡ main
pod_is_its_nodes = pods_by_name D (story 5) w (flow m J2) running_node (begun_pod main 0) valid_document (lawful_at 5 refl) refl (inl refl) refl

one_key : k ≡ k
one_key = ranks_apart D (story 3) k k holding holding valid_document (lawful_at 3 refl) refl refl refl

-- ---- at its end nothing is due

abbrev step : Bool → Option (Version Content) → Event Content → Option (Version Content)
step b v e = cond b (next_version apply v e) v

-- how the workflow of a name stands, given whether the name is w
abbrev flow_stood : Bool → Option (Version Content)
flow_stood b =
    step b (step b (step b (step b None (event (Submit w None []) (Some (OfWorkflow (flow m []))))) (writes_now 2 (fact.Started ∷ [])))
    (writes_now 3 (fact.Granted main ∷ []))) (writes_now 4 (fact.Settled main succeeded ∷ []))

one_name : (v : Text) (f : Flow) → HasFlow (story 8) v f → w ≡ v
one_name v f s = by (bytes_eq v w) refl s
  where
    by : (b : Bool) → bytes_eq v w ≡ b → flow_in (map_content (flow_stood b)) ≡ Some f → w ≡ v
    by true e s = sym (bytes_eq-true v w e)
    by false e s = none_some f s

abbrev pod_stood : Bool → Option (Version Content)
pod_stood b =
    step b (step b None (event (Create w w main 0) (Some (OfPod (begun_pod main 0))))) (event (Finish w w succeeded) None)

all_ended : (tick : ℕ) {A : Type 0} → PodDueAt D (story 8) tick → A
all_ended tick {A} p = by (bytes_eq p.workflow w && bytes_eq p.name w) p.stands
  where
    by : (b : Bool) → pod_in (map_content (pod_stood b)) ≡ Some p.pod → A
    by true s =
        let same = some_same (finished (begun_pod main 0) succeeded) p.pod s in
        some_none succeeded (ap (λ (q : PodObject). q.outcome) same ∙ p.unfinished)
    by false s = none_some p.pod s

due_of_w : (f : Flow) → HasFlow (story 8) w f → due_of D (story 8) w f ≡ []
due_of_w f s = subst (λ (g : Flow). due_of D (story 8) w g ≡ []) (some_same (flow m J3) f s) due_at_end

pub nothing_due : NothingDue D (story 8)
nothing_due = record {
  flows = λ v f s. subst (λ (u : Text). (g : Flow) → HasFlow (story 8) u g → due_of D (story 8) u g ≡ []) (one_name v f s) due_of_w f s;
  pods = λ tick p. all_ended tick p;
}

-- so a tick may come
ticks_then : IsFromOutside (Tick 1)
ticks_then = nothing_else D (story 8) (event (Tick 1) None) eight_lawful nothing_due (refl, lit< tt)
