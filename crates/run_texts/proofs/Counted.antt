-- What a run counts with one entry more, and by all entries.
use Rattle.std.proofs.Common.{◌≡◌, ℕ, ◌+◌, ◌<◌, ◌≤◌, List, [], ◌∷◌, ◌++◌, length, map, take, get_or, cond, Bool, true, false, Option, Some, None, refl, sym, ap, ◌∙◌, arith, length-append}
use Rattle.std.specs.List.{filter_map, sum_by, count_by}
use Rattle.std.proofs.lemmas.List.{append-nil, take_more, take_all}
use Rattle.std.proofs.lemmas.List.Sums.{sum_by-append}
use Rattle.std.proofs.lemmas.List.Folds.{fold-map}
use Rattle.std.proofs.lemmas.List.Elements.{filter_map-append}
use Rattle.tree_types.specs.declared.phase.Phase.{Phase}
use Rattle.tree_types.specs.declared.phase.Phase.TheVariants.{Pending, Running, Succeeded, Skipped, Failed, Error, Omitted}
use Rattle.tree_types.specs.declared.entry.Entry.{Entry}
use Rattle.tree_types.specs.declared.entry.Entry.TheVariants.{Submit, Write, Create, Finish, File, Release, Save, Tick}
use Rattle.tree_types.specs.Phases.{is_succeeded, is_failed, is_error}
use Rattle.tree_print.specs.declared.counts.Counts.{Counts}
use Rattle.law.specs.Documents.{Text}
use Rattle.history.specs.History.{Event}
use Rattle.law.specs.Contents.{Content, Flow, Story, flow_of}
use Rattle.law.specs.Justified.{tree_of}
use Rattle.run_laws.specs.Submissions.{submitted_name, submitted}
use Rattle.run_texts.specs.RunTexts.{phase_of, is_pending, is_running, stands_in, nodes_in, is_create, counts_of}
use Rattle.run_texts.specs.Inside.Counting.{in_phase, one_more, with_flow, with_entry, counts_by, counts_over}
use Rattle.run_texts.proofs.Submitted.{names_by}

abbrev made : ℕ → ℕ → ℕ → ℕ → ℕ → ℕ → ℕ → ℕ → Counts
made w p r s f e n o = record { workflows = w; pending = p; running = r; succeeded = s; failed = f; error = e; nodes = n; pods = o }

-- two counts are one where they agree in each number
same_counts : (a b : Counts) →
    a.workflows ≡ b.workflows → a.pending ≡ b.pending → a.running ≡ b.running → a.succeeded ≡ b.succeeded →
    a.failed ≡ b.failed → a.error ≡ b.error → a.nodes ≡ b.nodes → a.pods ≡ b.pods → a ≡ b
same_counts a b w p r s f e n o =
    ap (λ (x : ℕ). made x a.pending a.running a.succeeded a.failed a.error a.nodes a.pods) w
    ∙ ap (λ (x : ℕ). made b.workflows x a.running a.succeeded a.failed a.error a.nodes a.pods) p
    ∙ ap (λ (x : ℕ). made b.workflows b.pending x a.succeeded a.failed a.error a.nodes a.pods) r
    ∙ ap (λ (x : ℕ). made b.workflows b.pending b.running x a.failed a.error a.nodes a.pods) s
    ∙ ap (λ (x : ℕ). made b.workflows b.pending b.running b.succeeded x a.error a.nodes a.pods) f
    ∙ ap (λ (x : ℕ). made b.workflows b.pending b.running b.succeeded b.failed x a.nodes a.pods) e
    ∙ ap (λ (x : ℕ). made b.workflows b.pending b.running b.succeeded b.failed b.error x a.pods) n
    ∙ ap (λ (x : ℕ). made b.workflows b.pending b.running b.succeeded b.failed b.error b.nodes x) o

-- the counts with so many more in each place
abbrev plus : Counts → Bool → Bool → Bool → Bool → Bool → ℕ → Counts
plus c p r s f e n = record {
  workflows = c.workflows + 1;
  pending = c.pending + cond p 1 0;
  running = c.running + cond r 1 0;
  succeeded = c.succeeded + cond s 1 0;
  failed = c.failed + cond f 1 0;
  error = c.error + cond e 1 0;
  nodes = c.nodes + n;
  pods = c.pods;
}

-- a workflow more in a phase, with so many nodes
abbrev more_in : Phase → ℕ → Counts → Counts
more_in p n c = let more = in_phase p (one_more c) in record more { nodes = more.nodes + n }

by_phase : (c : Counts) (p : Phase) (n : ℕ) → plus c (is_pending p) (is_running p) (is_succeeded p) (is_failed p) (is_error p) n ≡ more_in p n c
by_phase c Pending n = same_counts (plus c true false false false false n) (more_in Pending n c) refl refl (omega arith) (omega arith) (omega arith) (omega arith) refl refl
by_phase c Running n = same_counts (plus c false true false false false n) (more_in Running n c) refl (omega arith) refl (omega arith) (omega arith) (omega arith) refl refl
by_phase c Succeeded n = same_counts (plus c false false true false false n) (more_in Succeeded n c) refl (omega arith) (omega arith) refl (omega arith) (omega arith) refl refl
by_phase c Skipped n = same_counts (plus c false false false false false n) (more_in Skipped n c) refl (omega arith) (omega arith) (omega arith) (omega arith) (omega arith) refl refl
by_phase c Failed n = same_counts (plus c false false false true false n) (more_in Failed n c) refl (omega arith) (omega arith) (omega arith) refl (omega arith) refl refl
by_phase c Error n = same_counts (plus c false false false false true n) (more_in Error n c) refl (omega arith) (omega arith) (omega arith) (omega arith) refl refl refl
by_phase c Omitted n = same_counts (plus c false false false false false n) (more_in Omitted n c) refl (omega arith) (omega arith) (omega arith) (omega arith) (omega arith) refl refl

abbrev plus_flow : Option Flow → Counts → Counts
plus_flow o c =
    plus c (stands_in is_pending o) (stands_in is_running o) (stands_in is_succeeded o) (stands_in is_failed o) (stands_in is_error o) (nodes_in o)

by_flow : (o : Option Flow) (c : Counts) → plus_flow o c ≡ with_flow o c
by_flow None c = same_counts (plus_flow None c) (one_more c) refl (omega arith) (omega arith) (omega arith) (omega arith) (omega arith) (omega arith) refl
by_flow (Some f) c = by_phase c (phase_of f) (length (tree_of f))

sum_more : {X : Type 0} (f : X → ℕ) (xs : List X) (x : X) → sum_by f (xs ++ x ∷ []) ≡ sum_by f xs + f x
sum_more f xs x = let e = sum_by-append f xs (x ∷ []) in omega arith

among : (h : Story) (kind : Phase → Bool) (ws : List Text) (w : Text) → count_by (λ x. stands_in kind (flow_of h x)) (ws ++ w ∷ []) ≡ count_by (λ x. stands_in kind (flow_of h x)) ws + cond (stands_in kind (flow_of h w)) 1 0
among h kind ws w = sum_more (λ (x : Text). cond (stands_in kind (flow_of h x)) 1 0) ws w

nodes_more : (h : Story) (ws : List Text) (w : Text) → sum_by (λ x. nodes_in (flow_of h x)) (ws ++ w ∷ []) ≡ sum_by (λ x. nodes_in (flow_of h x)) ws + nodes_in (flow_of h w)
nodes_more h ws w = sum_more (λ (x : Text). nodes_in (flow_of h x)) ws w

one_name : (h : Story) (ws : List Text) (w : Text) (pods : ℕ) → counts_by h (ws ++ w ∷ []) pods ≡ plus_flow (flow_of h w) (counts_by h ws pods)
one_name h ws w pods =
    same_counts (counts_by h (ws ++ w ∷ []) pods) (plus_flow (flow_of h w) (counts_by h ws pods))
    (length-append ws (w ∷ [])) (among h is_pending ws w) (among h is_running ws w) (among h is_succeeded ws w) (among h is_failed ws w)
    (among h is_error ws w) (nodes_more h ws w) refl

pods_more : (es : List Entry) (e : Entry) → count_by is_create (es ++ e ∷ []) ≡ count_by is_create es + cond (is_create e) 1 0
pods_more es e = sum_more (λ (x : Entry). cond (is_create x) 1 0) es e

over_more : (h : Story) (es : List Entry) (e : Entry) → counts_over h (es ++ e ∷ []) ≡ counts_by h (filter_map submitted_name es ++ filter_map submitted_name (e ∷ [])) (count_by is_create es + cond (is_create e) 1 0)
over_more h es e =
    ap (λ (ws : List Text). counts_by h ws (count_by is_create (es ++ e ∷ []))) (filter_map-append submitted_name es (e ∷ []))
    ∙ ap (λ (n : ℕ). counts_by h (filter_map submitted_name es ++ filter_map submitted_name (e ∷ [])) n) (pods_more es e)

plus_none : (n : ℕ) → n + 0 ≡ n
plus_none n = omega arith

none_more : (h : Story) (ws : List Text) (n : ℕ) → counts_by h (ws ++ []) (n + 0) ≡ counts_by h ws n
none_more h ws n = ap (λ (vs : List Text). counts_by h vs (n + 0)) (append-nil ws) ∙ ap (λ (k : ℕ). counts_by h ws k) (plus_none n)

pub entry_more : (h : Story) (es : List Entry) (e : Entry) → counts_over h (es ++ e ∷ []) ≡ with_entry h e (counts_over h es)
entry_more h es (Submit w old facts) =
    over_more h es (Submit w old facts) ∙ one_name h (filter_map submitted_name es) w (count_by is_create es + 0)
    ∙ by_flow (flow_of h w) (counts_by h (filter_map submitted_name es) (count_by is_create es + 0))
    ∙ ap (λ (n : ℕ). with_flow (flow_of h w) (counts_by h (filter_map submitted_name es) n)) (plus_none (count_by is_create es))
entry_more h es (Create w n p b) =
    over_more h es (Create w n p b) ∙ ap (λ (ws : List Text). counts_by h ws (count_by is_create es + 1)) (append-nil (filter_map submitted_name es))
entry_more h es (Write w v facts) = over_more h es (Write w v facts) ∙ none_more h (filter_map submitted_name es) (count_by is_create es)
entry_more h es (Finish w n o) = over_more h es (Finish w n o) ∙ none_more h (filter_map submitted_name es) (count_by is_create es)
entry_more h es (File l k r) = over_more h es (File l k r) ∙ none_more h (filter_map submitted_name es) (count_by is_create es)
entry_more h es (Release l k) = over_more h es (Release l k) ∙ none_more h (filter_map submitted_name es) (count_by is_create es)
entry_more h es (Save c k w o t) = over_more h es (Save c k w o t) ∙ none_more h (filter_map submitted_name es) (count_by is_create es)
entry_more h es (Tick t) = over_more h es (Tick t) ∙ none_more h (filter_map submitted_name es) (count_by is_create es)

pods_by : (events : List (Event Content)) → count_by is_create (map (λ e. e.entry) events) ≡ count_by (λ e. is_create e.entry) events
pods_by events = fold-map (λ (n : ℕ) (x : Entry). n + cond (is_create x) 1 0) (λ (e : Event Content). e.entry) 0 events

-- the counts by all entries are those of the history
pub whole : (h : Story) (entries : List Entry) → entries ≡ map (λ e. e.entry) h.events → counts_over h entries ≡ counts_of h
whole h entries same =
    ap (λ (ws : List Text). counts_by h ws (count_by is_create entries)) (names_by h entries same)
    ∙ ap (λ (n : ℕ). counts_by h (submitted h) n)
    (ap (λ (es : List Entry). count_by is_create es) same ∙ pods_by h.events)

-- a turn of the loop over the entries
pub turn : (h : Story) (es : List Entry) (i : ℕ) (e : Entry) (old new : Counts) → i < length es → e ≡ get_or es i e → new ≡ with_entry h e old → old ≡ counts_over h (take i es) → new ≡ counts_over h (take (i + 1) es)
turn h es i e old new lt is added before =
    let split : take (i + 1) es ≡ take i es ++ e ∷ [] = take_more es i e lt ∙ ap (λ (x : Entry). take i es ++ x ∷ []) (sym is) in
    added ∙ ap (λ (c : Counts). with_entry h e c) before ∙ sym (entry_more h (take i es) e) ∙ ap (λ (xs : List Entry). counts_over h xs) (sym split)

-- and its end
pub ended : (h : Story) (es : List Entry) (i : ℕ) (c : Counts) → length es ≤ i → es ≡ map (λ e. e.entry) h.events → c ≡ counts_over h (take i es) → c ≡ counts_of h
ended h es i c le same before = before ∙ ap (λ (xs : List Entry). counts_over h xs) (take_all i es le) ∙ whole h es same
