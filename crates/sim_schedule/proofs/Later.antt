-- The entries that are new since an earlier moment.
use Rattle.std.proofs.Common.{◌≡◌, ℕ, ◌+◌, ◌-◌, ◌≤◌, List, ◌++◌, length, length-append, map, take, drop, sym, ◌∙◌, ap, ap₂, arith}
use Rattle.std.proofs.Math.Seq.{drop-append_seam, take-length}
use Rattle.std.proofs.lemmas.List.{map-append, length-map, length-drop}
use Rattle.tree_types.specs.declared.entry.Entry.{Entry}
use Rattle.history.specs.History.{Event, Extends}
use Rattle.law.specs.Contents.{Content, Story}
use Rattle.run_laws.specs.Pods.{followed}

-- the slice of all entries from one on
rest_of : (k : ℕ) (es : List Entry) → take (length es - k) (drop k es) ≡ drop k es
rest_of k es = ap (λ n. take n (drop k es)) (sym (length-drop k es)) ∙ take-length (drop k es)

module _ (h at : Story) (seen : ℕ) (later : Extends h at) (count : seen ≡ length at.events) where
  pub within : seen ≤ length h.events
  within =
      let l : length h.events ≡ length at.events + length later.rest = ap length later.goes_on ∙ length-append at.events later.rest in
      omega (arith, l, count)

  pub same : h ≡ followed at later.rest
  same = ap₂ (λ start events. record { start = start; events = events }) later.same_start later.goes_on

  pub new_entries : (es : List Entry) → es ≡ map (λ e. e.entry) h.events → take (length es - seen) (drop seen es) ≡ map (λ e. e.entry) later.rest
  new_entries es e =
      let before : List Entry = map (λ (x : Event Content). x.entry) at.events in
      let new : List Entry = map (λ (x : Event Content). x.entry) later.rest in
      let split : es ≡ before ++ new = e ∙ ap (map (λ (x : Event Content). x.entry)) later.goes_on ∙ map-append (λ (x : Event Content). x.entry) at.events later.rest in
      let are : seen ≡ length before = count ∙ sym (length-map at.events (λ (x : Event Content). x.entry)) in
      rest_of seen es ∙ ap₂ drop are split ∙ drop-append_seam before new
