-- Why a plain workflow that is at rest in a quiet history has the tree of its planned outcomes.
use Rattle.std.proofs.Common.{◌≡◌, ◌⊎◌, ℕ, Bool, true, false, ◌||◌, List, [], ◌∷◌, ◌++◌, map, filter_map, refl, sym, ◌∙◌, ap, subst, append_assoc, append-nil, Option, Some, None, option_map, option_and_then, find, inl, inr, arith}
use Rattle.std.specs.Prelude.{cond, if◌then◌else◌}
use Rattle.std.specs.List.{list_any, cons_option}
use Rattle.std.proofs.lemmas.List.Folds.{list_any-append}
use Rattle.std.proofs.lemmas.List.{map-append}
use Rattle.tree_types.specs.declared.path.Path.{Path}
use Rattle.tree_types.specs.declared.fact.Fact.{Fact}
use Rattle.tree_types.specs.declared.fact.Fact.TheVariants as fact
use Rattle.tree_types.specs.declared.node.Kind.TheVariants as kind
use Rattle.tree_types.specs.declared.node.Node.{Node}
use Rattle.tree_types.specs.declared.node.Note.{Note}
use Rattle.tree_types.specs.declared.node.Note.TheVariants as note
use Rattle.tree_types.specs.declared.outcome.Outcome.{Outcome}
use Rattle.tree_types.specs.declared.want.Want.{Want}
use Rattle.tree_types.specs.declared.want.Want.TheVariants as want
use Rattle.tree_types.specs.declared.entry.Key.TheVariants as of_key
use Rattle.tree_types.specs.Places.{sels_eq}
use Rattle.tree_types.specs.Journals.{knows}
use Rattle.tree_types.proofs.Sels.{sels_are}
use Rattle.wf_manifest.specs.declared.manifest.Manifest.{Manifest}
use Rattle.meaning.specs.Answers.{Facts, Sels, path, first_of, settled_in, carried_in, outcome_of, outcome_at}
use Rattle.meaning.specs.Lines.{later}
use Rattle.meaning.specs.Plain.{without_ticks, plain, is_plain}
use Rattle.meaning.specs.Trees.{tree, wants, begin_at, Closes, closed, begins}
use Rattle.growth.specs.Growth.{Among}
use Rattle.growth.specs.Ticks.{IsPlanned, GoesAsPlanned, RestsAsPlanned}
use Rattle.growth.specs.Writes as writes
use Rattle.growth.proofs.Ticks.{plain_at_rest}
use Rattle.askings.proofs.Later.{keeps_names}
use Rattle.history.specs.History.{Event, Extends, grown, version_at, next_version, map_content}
use Rattle.history.specs.Sometime.{Sometime}
use Rattle.history.proofs.Extends.{extends_later, version_at-grown}
use Rattle.history.proofs.Carrying.{onward}
use Rattle.history.proofs.Keys.{bytes_eq-refl}
use Rattle.law.specs.Documents.{Text, PlannedOutcome, ended_by, Document}
use Rattle.law.specs.Contents.{Flow, PodObject, Content, OfWorkflow, flow, flow_in, apply, Story, pod_of, HasFlow}
use Rattle.law.specs.Due.{record_fact, create, is_at, node_name, pod_at, settling, if_absent, creating, due_of, IsFull, PodDueAt, by_pod, IsQuiet}
use Rattle.law.specs.Justified.{tree_of, wants_of, PodWanted, FactJustified, WriteJustified, Justified, IsLawful}
use Rattle.lawful.proofs.Changes.{FlowNext, flow_stays, flow_goes_on, flow_next}
use Rattle.lawful.proofs.DueIsJustified.{found}
use Rattle.lawful.proofs.Facts.{some_same, some_none, none_some, same_path, settled_there}
use Rattle.lawful.proofs.Journals.{later_of, later_lawful, gone_on, journals_lawful}
use Rattle.lawful.proofs.Moments.{trees_mean, pods_wanted, outcomes_own}
use Rattle.rest_laws.specs.Rest.{NothingDue}
use Rattle.rest_laws.proofs.Dues.{nothing_due}
use Rattle.run_laws.specs.Fulls as fulls
use Rattle.run_laws.specs.Fulls.{IsFullFlow, Fulls}
use Rattle.run_laws.specs.Submissions.{submitted_name, submitted, submission, begun, NamesDiffer, SubmissionsGoWell}
use Rattle.run_laws.proofs.Submissions.{submissions_go_well}
use Rattle.plain_laws.specs.PlainTrees.{planned_for, IsAsPlanned, PlainRunsAsPlanned}

-- ---- lists and options

cons_none : {X : Type 0} (o : Option X) (xs : List X) → cons_option o xs ≡ [] → (o ≡ None) × (xs ≡ [])
cons_none None xs e = (refl, e)
cons_none (Some x) xs e = absurd cc

none_of : {X Y : Type 0} (g : X → Option Y) (xs : List X) (x : X) → filter_map g xs ≡ [] → Among x xs → g x ≡ None
none_of g [] x e i = absurd i
none_of g (y ∷ xs) x e (inl same) = subst (λ z. g z ≡ None) same (cons_none (g y) (filter_map g xs) e).0
none_of g (y ∷ xs) x e (inr i) = none_of g xs x (cons_none (g y) (filter_map g xs) e).1 i

-- the first that passes, where one does
find_some : {X : Type 0} (test : X → Bool) (xs : List X) (x : X) → Among x xs → test x ≡ true → (y : X) × (find test xs ≡ Some y)
find_some test [] x i t = absurd i
find_some {X} test (y ∷ xs) x i t = by (test y) refl i (λ j. find_some test xs x j t)
  where
    by : (b : Bool) → test y ≡ b → Among x (y ∷ xs) → (Among x xs → (z : X) × (find test xs ≡ Some z)) → (z : X) × ((if b then Some y else find test xs) ≡ Some z)
    by true e i later = (y, refl)
    by false e (inl same) later = let u = subst (λ z. test z ≡ false) same e in absurd cc
    by false e (inr j) later = later j

-- ---- nothing was carried over

abbrev carries : Fact → Bool
carries (fact.Carried p o) = true
carries _ = false

abbrev Uncarried : Facts → Type 0
Uncarried J = list_any carries J ≡ false

with_fact : (J : Facts) (x : Fact) → Uncarried J → carries x ≡ false → Uncarried (J ++ x ∷ [])
with_fact J x none is = list_any-append carries J (x ∷ []) ∙ ap (λ b. b || (carries x || false)) none ∙ ap (λ b. b || false) is

closes_none : (m : Manifest) (J K : Facts) → Closes m J K → Uncarried J → Uncarried K
closes_none m J K (closed e) none = none
closes_none m J K (begins {p = p} e more) none = closes_none m (begin_at J p) K more (with_fact J (fact.Begun p) none refl)

not_carried : (D : Document) (h : Story) (w : Text) (f : Flow) (x : Fact) → FactJustified D h w f x → carries x ≡ false
not_carried D h w f fact.Started j = refl
not_carried D h w f (fact.Settled p o) j = refl
not_carried D h w f (fact.Granted p) j = refl
not_carried D h w f (fact.Memo p a) j = refl
not_carried D h w f (fact.Armed p t) j = refl
not_carried D h w f (fact.Due p) j = refl
not_carried D h w f (fact.Resumed p) j = refl
not_carried D h w f (fact.Carried p o) j = absurd j
not_carried D h w f (fact.Begun p) j = refl

written_none : (D : Document) (h : Story) (w : Text) (n : ℕ) (facts : Facts) (j : WriteJustified D h w n facts) → Uncarried j.flow.journal → Uncarried (j.flow.journal ++ facts)
written_none D h w n facts j none =
    closes_none j.flow.manifest (j.flow.journal ++ j.fact ∷ []) (j.flow.journal ++ facts) j.adds.closes
    (with_fact j.flow.journal j.fact none (not_carried D h w j.flow j.fact j.justified))

-- a workflow that is of this manifest, with nothing carried over
record IsFirst (m : Manifest) (h : Story) : Type 0 where
  flow : Flow
  stands : HasFlow h m.name flow
  manifest : flow.manifest ≡ m
  uncarried : Uncarried flow.journal

first_grows : (D : Document) (m : Manifest) (k : Story) (e : Event Content) → Justified D k e → IsFirst m k → IsFirst m (grown k e)
first_grows D m k e j i = by (flow_next D k m.name i.flow i.stands e j)
  where
    by : FlowNext D k e m.name i.flow → IsFirst m (grown k e)
    by (flow_stays q) = record { flow = i.flow; stands = q; manifest = i.manifest; uncarried = i.uncarried }
    by (flow_goes_on n facts wj is q) = record {
      flow = flow i.flow.manifest (i.flow.journal ++ facts);
      stands = q;
      manifest = i.manifest;
      uncarried = subst (λ (f : Flow). Uncarried (f.journal ++ facts)) is
          (written_none D k m.name n facts wj (subst (λ (f : Flow). Uncarried f.journal) (sym is) i.uncarried));
    }

-- ---- from its submission on

record Split (m : Manifest) (ms : List Manifest) : Type 0 where
  before : List Manifest
  after : List Manifest
  is : ms ≡ before ++ m ∷ after

split_at : (ms : List Manifest) (m : Manifest) → Among m ms → Split m ms
split_at [] m i = absurd i
split_at (x ∷ ms) m (inl same) = record { before = []; after = ms; is = ap (λ (y : Manifest). y ∷ ms) same }
split_at (x ∷ ms) m (inr i) = let s = split_at ms m i in record { before = x ∷ s.before; after = s.after; is = ap (λ ys. x ∷ ys) s.is }

module _ (D : Document) (m : Manifest) where
  first_at : (h : Story) → version_at apply h (of_key.Workflow m.name) ≡ None → HasFlow (grown h (submission m)) m.name (flow m [])
  first_at h absent =
      ap (λ v. flow_in (map_content v))
      (version_at-grown apply h (submission m) (of_key.Workflow m.name)
      ∙ ap (λ b. cond b (next_version apply (version_at apply h (of_key.Workflow m.name)) (submission m)) (version_at apply h (of_key.Workflow m.name))) (bytes_eq-refl m.name)
      ∙ ap (λ v. next_version apply v (submission m)) absent)

  begun_extends : (before after : List Manifest) → Extends (begun D (before ++ m ∷ after)) (begun D (before ++ m ∷ []))
  begun_extends before after = record {
    same_start = refl;
    rest = map submission after;
    goes_on = ap (map submission) (sym (append_assoc before (m ∷ []) after)) ∙ map-append submission (before ++ m ∷ []) after;
  }

  first_in : (ms : List Manifest) (h : Story) → NamesDiffer ms → Among m ms → IsLawful D h → Extends h (begun D ms) → IsFirst m h
  first_in ms h differ among lawful later =
      let s = split_at ms m among in
      let differ_here : NamesDiffer (s.before ++ m ∷ s.after) = subst NamesDiffer s.is differ in
      let here : Story = begun D (s.before ++ m ∷ []) in
      let on : Extends h here = extends_later h (begun D (s.before ++ m ∷ s.after)) here (subst (λ ns. Extends h (begun D ns)) s.is later) (begun_extends s.before s.after) in
      let stands : HasFlow here m.name (flow m []) = subst (λ k. HasFlow k m.name (flow m [])) (submissions_go_well.grows D s.before m) (first_at (begun D s.before) (submissions_go_well.absent D s.before s.after m differ_here)) in
      onward (Justified D) (IsFirst m) (λ x e lx j i. first_grows D m x e j i) h here on lawful.each
      record { flow = flow m []; stands = stands; manifest = refl; uncarried = refl }

-- ---- outcomes

carried_none : (p : Sels) (J : Facts) → Uncarried J → first_of (carried_in p) J ≡ None
carried_none p [] e = refl
carried_none p (fact.Started ∷ J) e = carried_none p J e
carried_none p (fact.Settled q o ∷ J) e = carried_none p J e
carried_none p (fact.Granted q ∷ J) e = carried_none p J e
carried_none p (fact.Memo q a ∷ J) e = carried_none p J e
carried_none p (fact.Armed q t ∷ J) e = carried_none p J e
carried_none p (fact.Due q ∷ J) e = carried_none p J e
carried_none p (fact.Resumed q ∷ J) e = carried_none p J e
carried_none p (fact.Begun q ∷ J) e = carried_none p J e
carried_none p (fact.Carried q o ∷ J) e = let u : true ≡ false = e in absurd cc

-- an outcome that a journal has was settled
record WasSettled (J : Facts) (p : Sels) (o : Note × Outcome) : Type 0 where
  plain_note : o.0 ≡ note.None
  settled : Among (fact.Settled (path p) o.1) J

was_settled : (J : Facts) (p : Sels) (o : Note × Outcome) → Uncarried J → outcome_at J p ≡ Some o → WasSettled J p o
was_settled J p o none e = by (first_of (settled_in p) J) refl (ap (outcome_of (first_of (settled_in p) J)) (sym (carried_none p J none)) ∙ e)
  where
    by : (s : Option Outcome) → first_of (settled_in p) J ≡ s → outcome_of s None ≡ Some o → WasSettled J p o
    by None is f = none_some o f
    by (Some x) is f = subst (WasSettled J p) (some_same (note.None, x) o f) record { plain_note = refl; settled = settled_there J p x is }

-- ---- at the end of a run

module _ (D : Document) (h : Story) (w : Text) (f : Flow) (lawful : IsLawful D h) (s : HasFlow h w f) where
  -- the name of a path's node
  named : (n : Node) → Among n (tree_of f) → node_name f n.path.sels ≡ Some n.name
  named n i =
      let x = find_some (is_at n.path.sels) (tree_of f) n i (sels_are n.path.sels) in
      let r = found (is_at n.path.sels) (tree_of f) x.0 x.1 in
      let at : x.0.path ≡ n.path = same_path x.0.path n.path r.1 in
      let whole : f.journal ++ [] ≡ f.journal = append-nil f.journal in
      let same : x.0.name ≡ n.name = keeps_names f.manifest f.journal [] x.0 n (subst (λ J. writes.IsLawfulJournal f.manifest J) (sym whole) (journals_lawful D h lawful w f s)) r.0 (subst (λ J. Among n (tree f.manifest J)) (sym whole) i) at in
      ap (option_map (λ (k : Node). k.name)) x.1 ∙ ap Some same

  -- a node has the name under which a pod of its path was wanted
  name_kept : (n : Text) (p : Path) (t : ℕ) (k : Node) → Sometime (PodWanted w n p t) h → Among k (tree_of f) → k.path ≡ p → k.name ≡ n
  name_kept n p t k a i e =
      let x = a.holds in
      let on = later_of D h a.moment w x.flow f a.extends lawful.each x.stands s in
      sym (keeps_names x.flow.manifest x.flow.journal on.more x.node k (later_lawful D h a.moment w x.flow f lawful a.extends x.stands s) x.place (gone_on x.flow f on (λ m J. Among k (tree m J)) i) (x.path ∙ sym e)) ∙ x.named

  as_planned : Uncarried f.journal → GoesAsPlanned f.manifest f.journal (planned_for D w)
  as_planned none n o i pod e =
      let settled = was_settled f.journal n.path.sels o none e in
      let own = outcomes_own D h lawful w f (path n.path.sels) o.1 s settled.settled in
      let wanted = pods_wanted D h lawful w own.name own.pod own.stands in
      let name : n.name ≡ own.name = name_kept own.name own.pod.path own.pod.begin n wanted i (sym own.path) in
      (ended_by own.plan 0 0, ap (option_map (λ (p : PlannedOutcome). ended_by p 0 0)) (ap (D.planned w) name ∙ own.planned), ap without_ticks (sym own.is_outcome), settled.plain_note)

  -- where nothing is due of it, and no pod that is planned to end has not ended
  module _ (idle : NothingDue D h w f) (quiet : IsQuiet D h) where
    is_started : knows f.journal fact.Started ≡ true
    is_started = by (knows f.journal fact.Started) idle.started
      where
        by : (b : Bool) → (if b then [] else (record_fact fact.Started ∷ [])) ≡ [] → b ≡ true
        by true e = refl
        by false e = absurd cc

    -- a planned pod would be made, or would end, or would be settled
    no_pod : (n : Node) → Among (want.Pod n.path) (wants_of f) → node_name f n.path.sels ≡ Some n.name → (plan : PlannedOutcome) → D.planned w n.name ≡ Some plan → (o : Option PodObject) → pod_of h w n.name ≡ o → ⊥
    no_pod n asks at plan planned None is =
        let due : creating D h w f (want.Pod n.path) ≡ Some (create n.path n.name) =
        ap (option_and_then (λ x. if_absent D h w f n.path x (pod_of h w x))) at ∙ ap (if_absent D h w f n.path n.name) is in
        some_none (create n.path n.name) (sym due ∙ none_of (creating D h w f) (wants_of f) (want.Pod n.path) idle.created asks)
    no_pod n asks at plan planned (Some pod) is = by pod.outcome refl
      where
        pod_is : pod_at D h w f n.path.sels ≡ Some pod
        pod_is = ap (option_and_then (pod_of h w)) at ∙ is

        by : (x : Option Outcome) → pod.outcome ≡ x → ⊥
        by (Some x) ended =
            let due : settling D h w f (want.Pod n.path) ≡ Some (record_fact (fact.Settled n.path x)) =
            ap (λ q. option_map (λ (y : Outcome). record_fact (fact.Settled n.path y)) (option_and_then (λ (z : PodObject). z.outcome) q)) pod_is
            ∙ ap (option_map (λ (y : Outcome). record_fact (fact.Settled n.path y))) ended in
            some_none (record_fact (fact.Settled n.path x)) (sym due ∙ none_of (settling D h w f) (wants_of f) (want.Pod n.path) idle.settled asks)
        by None unfinished =
            let ends : PodDueAt D h (later pod.begin plan.seconds) = record { workflow = w; name = n.name; pod = pod; stands = is; unfinished = unfinished; plan = plan; planned = planned; at = refl } in
            let ahead = quiet.idle.pods (later pod.begin plan.seconds) ends in
            let past = quiet.no_next (later pod.begin plan.seconds) (by_pod ends) in
            absurd (omega (arith, ahead, past))

    rests : RestsAsPlanned f.manifest f.journal (planned_for D w)
    rests n i asks = by (D.planned w n.name) refl
      where
        by : (o : Option PlannedOutcome) → D.planned w n.name ≡ o → option_map (λ (p : PlannedOutcome). ended_by p 0 0) (D.planned w n.name) ≡ None
        by None is = ap (option_map (λ (p : PlannedOutcome). ended_by p 0 0)) is
        by (Some plan) is = absurd (no_pod n asks (named n i) plan is (pod_of h w n.name) refl)

    is_plain_tree : is_plain f.manifest ≡ true → Uncarried f.journal → tree f.manifest f.journal ≡ plain f.manifest (planned_for D w)
    is_plain_tree is none = plain_at_rest f.manifest f.journal (planned_for D w) is is_started (as_planned none) rests

-- ---- the workflows of the document

submitted_among : (ms : List Manifest) (m : Manifest) (more : List (Event Content)) → Among m ms → Among m.name (filter_map (λ e. submitted_name e.entry) (map submission ms ++ more))
submitted_among [] m more i = absurd i
submitted_among (x ∷ ms) m more (inl same) = inl (ap (λ (y : Manifest). y.name) same)
submitted_among (x ∷ ms) m more (inr i) = inr (submitted_among ms m more i)

not_full : (D : Document) (h : Story) (ws ns : List Text) (w : Text) → Fulls D h ws ns → Among w ws → (Among w ns → ⊥) → IsFullFlow D h w → ⊥
not_full D h ws ns w fulls.none i absent is = absurd i
not_full D h ws ns w (fulls.full {ws = vs} {ns = ms} x rest) (inl same) absent is = absent (inl same)
not_full D h ws ns w (fulls.full {ws = vs} {ns = ms} x rest) (inr i) absent is = not_full D h vs ms w rest i (λ j. absent (inr j)) is
not_full D h ws ns w (fulls.other {w = v} {ws = vs} not rest) (inl same) absent is = not (subst (IsFullFlow D h) (sym same) is)
not_full D h ws ns w (fulls.other {w = v} {ws = vs} not rest) (inr i) absent is = not_full D h vs ns w rest i absent is

pub plain_runs_as_planned : PlainRunsAsPlanned
plain_runs_as_planned D h names differ lawful later quiet fulls m given plain_m absent =
    let first = first_in D m D.workflows h differ given lawful later in
    let f = first.flow in
    let there : Among m.name (submitted h) = subst (λ es. Among m.name (filter_map (λ (e : Event Content). submitted_name e.entry) es)) (sym later.goes_on) (submitted_among D.workflows m later.rest given) in
    let idle : due_of D h m.name f ≡ [] = by f first.stands (not_full D h (submitted h) names m.name fulls there absent) (quiet.idle.flows m.name f first.stands) in
    let is : is_plain f.manifest ≡ true = ap is_plain first.manifest ∙ plain_m in
    let means = (trees_mean D h lawful m.name f first.stands).is_tree in
    record {
      flow = f;
      stands = first.stands;
      tree = means ∙ is_plain_tree D h m.name f lawful first.stands (nothing_due D h m.name f idle) quiet is first.uncarried
          ∙ ap (λ (x : Manifest). plain x (planned_for D m.name)) first.manifest;
    }
  where
    by : (f : Flow) → HasFlow h m.name f → (IsFullFlow D h m.name → ⊥) → (due_of D h m.name f ≡ []) ⊎ IsFull D h m.name f → due_of D h m.name f ≡ []
    by f stands not (inl e) = e
    by f stands not (inr full_now) = absurd (not record { flow = f; stands = stands; full = full_now })
