-- An entry is read back from its data.
use Rattle.std.proofs.Common.{◌≡◌, ◌↔◌, ℕ, ℤ, pos, negsuc, ◌^◌, ◌<◌, Bool, true, false, List, [], ◌∷◌, map, Option, Some, None, IsTrue, refl, sym, ap, ap₂, ◌∙◌, arith, lt-ltb}
use Rattle.std.specs.List.{AllByRecursion}
use lib.Signed.{mag}
use Rattle.serde_json.specs.Data.{Data}
use Rattle.serde_json.specs.Find.{as_i64, of_integer}
use Rattle.serde_json.specs.View.{items_of}
use Rattle.tree_types.specs.Phases.{is_end, phase_text}
use Rattle.tree_types.specs.declared.phase.Phase.{Phase}
use Rattle.tree_types.specs.declared.phase.Phase.TheVariants.{Pending, Running, Succeeded, Skipped, Failed, Error, Omitted}
use Rattle.tree_types.specs.declared.path.Sel.{Sel}
use Rattle.tree_types.specs.declared.outcome.Param.{Param}
use Rattle.tree_types.specs.declared.outcome.Outcome.{Outcome}
use Rattle.tree_types.specs.declared.outcome.Outputs.{Outputs}
use Rattle.tree_types.specs.declared.fact.Fact.{Fact}
use Rattle.tree_types.specs.declared.fact.Fact.TheVariants.{Started, Settled, Carried, Granted, Memo, Armed, Due, Resumed, Begun}
use Rattle.tree_types.specs.declared.entry.Entry.{Entry}
use Rattle.tree_types.specs.declared.entry.Entry.TheVariants.{Submit, Write, Create, Finish, File, Release, Save, Tick}
use Rattle.tree_types.specs.declared.entry.HolderKey.{HolderKey}
use Rattle.tree_types.specs.declared.entry.Rank.{Rank}
use Rattle.history_text.specs.Lines.{text_or_null, param_data, outcome_data, outputs_data, rank_data, fact_data, entry_data}
use Rattle.history_text.specs.Readable.{FitsParam, FitsOutcome, FitsOutputs, FitsFact, FitsRank, IsReadable}
use Rattle.history_text.specs.Inside.Reading.{◌>>=◌, all_of, text_or_null_of, parts_in, param_of, outputs_of, end_of, outcome_by, left_of, outcome_of, fact_of, is_empty, rank_of, entry_of}
use Rattle.history_text.proofs.Outcomes.{made}
use Rattle.history_text.proofs.PartsIn.{parts_in-items_of}
use Rattle.history_text.proofs.PathBack.{all_back, path_back}

text_back : (text : Option (List ℕ)) → text_or_null_of (text_or_null text) ≡ Some text
text_back None = refl
text_back (Some text) = refl

list_back : {A : Type 0} (f : Data → Option A) (g : A → Data) (P : A → Type 0) → ((x : A) → P x → f (g x) ≡ Some x) → (xs : List A) → AllByRecursion P xs → all_of f (parts_in (items_of (map g xs))) ≡ Some xs
list_back f g P back xs h = ap (all_of f) (parts_in-items_of (map g xs)) ∙ all_back f g P back xs h

params_back : (params : List Param) → AllByRecursion FitsParam params → all_of param_of (parts_in (items_of (map param_data params))) ≡ Some params
params_back params h = list_back param_of param_data FitsParam (λ p fits. refl) params h

outputs_back : (o : Outputs) → FitsOutputs o → outputs_of (outputs_data o) ≡ Some o
outputs_back o h = rw (text_back o.result, params_back o.params h.1)

end_back : (phase : Phase) → IsTrue (is_end phase) → end_of (phase_text phase) ≡ Some phase
end_back Succeeded h = refl
end_back Failed h = refl
end_back Error h = refl
end_back Pending h = absurd (cc)
end_back Running h = absurd (cc)
end_back Skipped h = absurd (cc)
end_back Omitted h = absurd (cc)

outcome_back : (o : Outcome) → FitsOutcome o → outcome_of (outcome_data o) ≡ Some o
outcome_back o h =
    ap (λ p. p >>= λ phase. left_of (outcome_data o) >>= outcome_by phase) (end_back o.phase o.ended)
    ∙ rw (text_back o.result, params_back o.params h.1)
    (made o.phase (record { result = o.result; params = o.params; transient = o.transient; begin = o.begin; finish = o.finish }) o.ended)

-- ---- facts

fact_back : (f : Fact) → FitsFact f → fact_of (fact_data f) ≡ Some f
fact_back Started h = refl
fact_back (Settled path outcome) h = rw (path_back path h.0, outcome_back outcome h.1)
fact_back (Carried path outcome) h = rw (path_back path h.0, outcome_back outcome h.1)
fact_back (Granted path) h = rw (path_back path h)
fact_back (Memo path (Some outputs)) h = rw (path_back path h.0, outputs_back outputs h.1)
fact_back (Memo path None) h = rw (path_back path h.0)
fact_back (Armed path tick) h = rw (path_back path h.0)
fact_back (Due path) h = rw (path_back path h)
fact_back (Resumed path) h = rw (path_back path h)
fact_back (Begun path) h = rw (path_back path h)

facts_back : (facts : List Fact) → AllByRecursion FitsFact facts → all_of fact_of (parts_in (items_of (map fact_data facts))) ≡ Some facts
facts_back facts h = list_back fact_of fact_data FitsFact fact_back facts h

-- ---- ranks

integer_back : (z : ℤ) → mag z < 2 ^ 63 → (Some (of_integer z) >>= as_i64) ≡ Some z
integer_back (pos n) h = rw (lt-ltb n (2 ^ 63) h)
integer_back (negsuc n) h = refl

own_is : (own : Bool) (sels : List Sel) → (IsTrue own ↔ (sels ≡ [])) → is_empty sels ≡ own
own_is true [] h = refl
own_is false [] h = sym (h.1 refl)
own_is true (sel ∷ sels) h = absurd (let e = h.0 refl in cc)
own_is false (sel ∷ sels) h = refl

abbrev ranked : Rank → List ℕ → Bool → Option Rank
ranked r workflow own = Some (record { priority = r.priority; created = r.created; workflow = workflow; own = own; name = r.name })

rank_back : (key : HolderKey) (rank : Rank) → FitsRank rank → (rank.workflow ≡ key.workflow) → (IsTrue rank.own ↔ (key.path.sels ≡ [])) → rank_of key (rank_data rank) ≡ Some rank
rank_back key rank fits same own =
    let small : mag rank.priority < 2 ^ 31 = fits.0.sfits in
    let wide : mag rank.created < 2 ^ 63 = fits.1.sfits in
    rw (integer_back rank.priority (omega arith), lt-ltb (mag rank.priority) (2 ^ 31) small, integer_back rank.created wide)
    (ap₂ (ranked rank) (sym same) (own_is rank.own key.path.sels own))

-- ---- entries

pub entry_back : (e : Entry) → IsReadable e → entry_of (entry_data e) ≡ Some e
entry_back (Submit workflow old facts) h = rw (text_back old, facts_back facts h.0.2)
entry_back (Write workflow version facts) h = rw (facts_back facts h.0.2)
entry_back (Create workflow node path begin) h = rw (path_back path h.0.2)
entry_back (Finish workflow node outcome) h = rw (outcome_back outcome h.0.2)
entry_back (File lock key rank) h = rw (path_back key.path h.0.1.1, rank_back key rank h.0.2 h.1.0 h.1.1)
entry_back (Release lock key) h = rw (path_back key.path h.0.1.1)
entry_back (Save cache key writer outputs tick) h = rw (path_back writer.path h.0.2.1, outputs_back outputs h.0.3)
entry_back (Tick to) h = refl
