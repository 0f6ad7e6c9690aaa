-- The jobs that are kept of a history, brought up to a later one.
use Rattle.std.proofs.Common.{◌≡◌, ◌-◌, ◌≤◌, List, ◌++◌, length, map, filter_map, take, drop, sym, ◌∙◌, ap, ap₂, subst}
use Rattle.std.proofs.lemmas.List.{length-map}
use Rattle.std.proofs.lemmas.List.Elements.{filter_map-append}
use Rattle.tree_types.specs.declared.entry.Entry.{Entry}
use Rattle.history.specs.History.{Event, Extends}
use Rattle.history.proofs.Extends.{extends_itself, extends_later}
use Rattle.law.specs.Documents.{Document}
use Rattle.law.specs.Contents.{Content, Story}
use Rattle.law.specs.Justified.{IsLawful}
use Rattle.lawful.proofs.Journals.{lawful_then}
use Rattle.next_step.specs.Hands.{Given}
use Rattle.next_step.specs.Rounds.{submitted_by, created_by}
use Rattle.run_laws.specs.Pods.{UnfinishedPods, still_open, created_jobs}
use Rattle.sim_schedule.specs.declared.jobs.Job.{Job}
use Rattle.sim_schedule.specs.declared.roster.Roster.{Roster}
use Rattle.rest_laws.specs.Pods.{PodsWait}
use Rattle.sim_schedule.specs.Inside.Jobs.{given, flows_in, pods_in, KnowsEnds}
use Rattle.sim_schedule.specs.Inside.Rosters.{IsOf, Follows}
use Rattle.sim_schedule.proofs.Ends.{ends_stay}
use Rattle.sim_schedule.proofs.Later as later
use Rattle.sim_schedule.proofs.Listing.{filter_of_map}

-- the jobs of the whole history
pub of_all : (h : Story) (r : Roster) (es : List Entry) → es ≡ map (λ e. e.entry) h.events → map given r.workflows ≡ flows_in es → map given r.pods ≡ pods_in h es → r.seen ≡ length es → IsOf h r
of_all h r es e workflows pods seen = record {
  workflows = workflows ∙ ap (filter_map submitted_by) e ∙ filter_of_map submitted_by (λ (x : Event Content). x.entry) h.events;
  pods = pods ∙ ap (filter_map (created_by h)) e ∙ filter_of_map (created_by h) (λ (x : Event Content). x.entry) h.events;
  seen = seen ∙ ap length e ∙ length-map h.events (λ (x : Event Content). x.entry);
}

-- ---- from one moment to a later one

module _ (D : Document) where
  pub follows_on : (h g : Story) (r : Roster) → Extends g h → Follows D h r → Follows D g r
  follows_on h g r on f = record { at = f.at; later = extends_later g h f.at on f.later; seen = f.seen; jobs = f.jobs; ends = f.ends }

  pub follows_now : (h g : Story) (r : Roster) → Extends g h → r.seen ≡ length h.events → (IsLawful D h → IsOf h r) → (IsLawful D h → KnowsEnds D h r.pods) → Follows D g r
  follows_now h g r on seen jobs ends = record { at = h; later = on; seen = seen; jobs = jobs; ends = ends }

  pub follows_first : (h : Story) (r : Roster) → IsOf h r → KnowsEnds D h r.pods → Follows D h r
  follows_first h r is known = follows_now h h r (extends_itself h) is.seen (λ l. is) (λ l. known)

-- of a history that stayed as it was
pub of_same : (h g : Story) (r : Roster) → g ≡ h → IsOf h r → IsOf g r
of_same h g r same is = subst (λ k. IsOf k r) (sym same) is

module _ (D : Document) (h : Story) (r : Roster) (f : Follows D h r) where
  pub within : r.seen ≤ length h.events
  within = later.within h f.at r.seen f.later f.seen

  new_entries : (es : List Entry) → es ≡ map (λ e. e.entry) h.events → take (length es - r.seen) (drop r.seen es) ≡ map (λ e. e.entry) f.later.rest
  new_entries = later.new_entries h f.at r.seen f.later f.seen

  -- the ends are known still
  pub ends_now : PodsWait → IsLawful D h → KnowsEnds D h r.pods
  ends_now law l = ends_stay law D f.at h f.later l r.pods (f.ends (lawful_then D h f.at f.later l))

  module _ (law : UnfinishedPods) (l : IsLawful D h) where
    is_at : IsOf f.at r
    is_at = f.jobs (lawful_then D h f.at f.later l)

    pods_now : created_jobs h h.events ≡ filter_map (still_open h) (created_jobs f.at f.at.events) ++ created_jobs h f.later.rest
    pods_now =
        let P : Story → Type 0 = λ g. created_jobs g g.events ≡ filter_map (still_open g) (created_jobs f.at f.at.events) ++ created_jobs g f.later.rest in
        subst P (sym (later.same h f.at r.seen f.later f.seen)) (law.jobs_go_on D f.at f.later.rest (lawful_then D h f.at f.later l))

    flows_now : filter_map (λ e. submitted_by e.entry) h.events ≡ filter_map (λ e. submitted_by e.entry) f.at.events ++ filter_map (λ e. submitted_by e.entry) f.later.rest
    flows_now =
        ap (filter_map (λ (e : Event Content). submitted_by e.entry)) f.later.goes_on
        ∙ filter_map-append (λ (e : Event Content). submitted_by e.entry) f.at.events f.later.rest

    pub brought_up : (q : Roster) (es : List Entry) → es ≡ map (λ e. e.entry) h.events → (kept : List Job) → map given kept ≡ filter_map (λ j. still_open h (given j)) r.pods → map given q.workflows ≡ map given r.workflows ++ flows_in (take (length es - r.seen) (drop r.seen es)) → map given q.pods ≡ map given kept ++ pods_in h (take (length es - r.seen) (drop r.seen es)) → q.seen ≡ length es → IsOf h q
    brought_up q es e kept kept_is workflows pods seen = record {
      workflows =
          workflows
          ∙ ap₂ (λ (xs ys : List Given). xs ++ ys) is_at.workflows (ap (filter_map submitted_by) (new_entries es e) ∙ filter_of_map submitted_by (λ (x : Event Content). x.entry) f.later.rest)
          ∙ sym flows_now;
      pods =
          pods
          ∙ ap₂ (λ (xs ys : List Given). xs ++ ys)
          (kept_is ∙ sym (filter_of_map (still_open h) given r.pods) ∙ ap (filter_map (still_open h)) is_at.pods)
          (ap (filter_map (created_by h)) (new_entries es e) ∙ filter_of_map (created_by h) (λ (x : Event Content). x.entry) f.later.rest)
          ∙ sym pods_now;
      seen = seen ∙ ap length e ∙ length-map h.events (λ (x : Event Content). x.entry);
    }
