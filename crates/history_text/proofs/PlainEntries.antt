-- The data of an entry are given back by their text.
use Rattle.std.proofs.Common.{ℕ, suc, ℤ, pos, negsuc, ◌^◌, ◌<◌, List, [], ◌∷◌, ◌++◌, map, codes, decimal, Option, Some, None, IsUtf8, IfSome, refl, arith}
use Rattle.std.specs.Prelude.{flat_map}
use Rattle.std.specs.List.{AllByRecursion}
use lib.Signed.{mag}
use Rattle.std.proofs.lemmas.Str.{IsUtf8-append, IsUtf8-nil, IsUtf8-from_ascii}
use Rattle.std.proofs.lemmas.Fmt.{IsAscii-decimal}
use Rattle.json.proofs.Printed.Utf8.{IsUtf8-are_ascii}
use Rattle.serde_json.specs.Data.{Data, number}
use Rattle.serde_json.specs.Find.{of_integer}
use Rattle.serde_json.specs.View.{items_of}
use Rattle.tree_types.specs.Phases.{phase_text}
use Rattle.tree_types.specs.declared.phase.Phase.{Phase}
use Rattle.tree_types.specs.declared.phase.Phase.TheVariants.{Pending, Running, Succeeded, Skipped, Failed, Error, Omitted}
use Rattle.tree_types.specs.declared.path.Sel.{Sel}
use Rattle.tree_types.specs.declared.path.Sel.TheVariants.{Main, Exit, Group, Step, Task, Item, Attempt}
use Rattle.tree_types.specs.declared.outcome.Param.{Param}
use Rattle.tree_types.specs.declared.outcome.Outcome.{Outcome}
use Rattle.tree_types.specs.declared.outcome.Outputs.{Outputs}
use Rattle.tree_types.specs.declared.fact.Fact.{Fact}
use Rattle.tree_types.specs.declared.fact.Fact.TheVariants.{Started, Settled, Carried, Granted, Memo, Armed, Due, Resumed, Begun}
use Rattle.tree_types.specs.declared.entry.Entry.{Entry}
use Rattle.tree_types.specs.declared.entry.Entry.TheVariants.{Submit, Write, Create, Finish, File, Release, Save, Tick}
use Rattle.tree_types.specs.declared.entry.Rank.{Rank}
use Rattle.history_text.specs.Lines.{sel_text, path_text, text_or_null, param_data, outcome_data, outputs_data, rank_data, fact_data, entry_data}
use Rattle.history_text.specs.Readable.{FitsSel, FitsParam, FitsOutcome, FitsOutputs, FitsFact, FitsRank, FitsEntry}
use Rattle.history_text.proofs.Plain.{Plain, ArePlain}

-- ---- texts

digits : (i : ℕ) → i < 2 ^ 32 → IsUtf8 (decimal i)
digits i h = IsUtf8-from_ascii (decimal i) (IsAscii-decimal i (omega arith))

sel_utf8 : (sel : Sel) → FitsSel sel → IsUtf8 (sel_text sel)
sel_utf8 Main h = IsUtf8-are_ascii (codes "main") refl
sel_utf8 Exit h = IsUtf8-are_ascii (codes "exit") refl
sel_utf8 (Group i) h = IsUtf8-append (codes "g") (decimal i) (IsUtf8-are_ascii (codes "g") refl) (digits i h)
sel_utf8 (Step i) h = IsUtf8-append (codes "s") (decimal i) (IsUtf8-are_ascii (codes "s") refl) (digits i h)
sel_utf8 (Task i) h = IsUtf8-append (codes "t") (decimal i) (IsUtf8-are_ascii (codes "t") refl) (digits i h)
sel_utf8 (Item i) h = IsUtf8-append (codes "i") (decimal i) (IsUtf8-are_ascii (codes "i") refl) (digits i h)
sel_utf8 (Attempt k) h = IsUtf8-append (codes "a") (decimal k) (IsUtf8-are_ascii (codes "a") refl) (digits k h)

further_utf8 : (sels : List Sel) → AllByRecursion FitsSel sels → IsUtf8 (flat_map (λ sel. codes "/" ++ sel_text sel) sels)
further_utf8 [] h = IsUtf8-nil
further_utf8 (sel ∷ sels) h =
    IsUtf8-append (codes "/" ++ sel_text sel) _ (IsUtf8-append (codes "/") (sel_text sel) (IsUtf8-are_ascii (codes "/") refl) (sel_utf8 sel h.0)) (further_utf8 sels h.1)

path_utf8 : (sels : List Sel) → AllByRecursion FitsSel sels → IsUtf8 (path_text sels)
path_utf8 [] h = IsUtf8-nil
path_utf8 (sel ∷ sels) h = IsUtf8-append (sel_text sel) _ (sel_utf8 sel h.0) (further_utf8 sels h.1)

phase_utf8 : (phase : Phase) → IsUtf8 (phase_text phase)
phase_utf8 Pending = IsUtf8-are_ascii (codes "Pending") refl
phase_utf8 Running = IsUtf8-are_ascii (codes "Running") refl
phase_utf8 Succeeded = IsUtf8-are_ascii (codes "Succeeded") refl
phase_utf8 Skipped = IsUtf8-are_ascii (codes "Skipped") refl
phase_utf8 Failed = IsUtf8-are_ascii (codes "Failed") refl
phase_utf8 Error = IsUtf8-are_ascii (codes "Error") refl
phase_utf8 Omitted = IsUtf8-are_ascii (codes "Omitted") refl

-- ---- parts

each : {A : Type 0} (f : A → Data) (P : A → Type 0) (k : ℕ) → ((x : A) → P x → Plain (f x) k) → (xs : List A) → AllByRecursion P xs → ArePlain (items_of (map f xs)) k
each f P k plain [] h = tt
each f P k plain (x ∷ xs) h = (plain x h.0, each f P k plain xs h.1)

plain_text : (text : Option (List ℕ)) (k : ℕ) → IfSome text IsUtf8 → Plain (text_or_null text) k
plain_text None k h = tt
plain_text (Some text) k h = h

plain_params : (params : List Param) (k : ℕ) → AllByRecursion FitsParam params → ArePlain (items_of (map param_data params)) (suc k)
plain_params params k h = each param_data FitsParam (suc k) (λ p fits. (fits.0, (fits.1, tt))) params h

plain_outputs : (o : Outputs) (k : ℕ) → FitsOutputs o → Plain (outputs_data o) (suc (suc (suc k)))
plain_outputs o k h = (plain_text o.result (suc (suc k)) h.0, (plain_params o.params k h.1, tt))

plain_outcome : (o : Outcome) (k : ℕ) → FitsOutcome o → Plain (outcome_data o) (suc (suc (suc k)))
plain_outcome o k h = (phase_utf8 o.phase, (plain_text o.result (suc (suc k)) h.0, (plain_params o.params k h.1, (tt, (h.2, (h.3, tt))))))

plain_integer : (z : ℤ) (k : ℕ) → mag z < 2 ^ 63 → Plain (number (of_integer z)) k
plain_integer (pos n) k h = omega arith
plain_integer (negsuc n) k h = h

plain_rank : (r : Rank) (k : ℕ) → FitsRank r → Plain (rank_data r) (suc k)
plain_rank r k h =
    let small : mag r.priority < 2 ^ 31 = h.0.sfits in
    let wide : mag r.created < 2 ^ 63 = h.1.sfits in
    (plain_integer r.priority k (omega arith), (plain_integer r.created k wide, (h.2, tt)))

-- ---- facts and entries

plain_fact : (f : Fact) → FitsFact f → Plain (fact_data f) 4
plain_fact Started h = (IsUtf8-are_ascii (codes "started") refl, tt)
plain_fact (Settled path outcome) h = (IsUtf8-are_ascii (codes "settled") refl, (path_utf8 path.sels h.0, (plain_outcome outcome 0 h.1, tt)))
plain_fact (Carried path outcome) h = (IsUtf8-are_ascii (codes "carried") refl, (path_utf8 path.sels h.0, (plain_outcome outcome 0 h.1, tt)))
plain_fact (Granted path) h = (IsUtf8-are_ascii (codes "granted") refl, (path_utf8 path.sels h, tt))
plain_fact (Memo path (Some outputs)) h =
    (IsUtf8-are_ascii (codes "memo") refl, (path_utf8 path.sels h.0, (IsUtf8-are_ascii (codes "hit") refl, (plain_outputs outputs 0 h.1, tt))))
plain_fact (Memo path None) h = (IsUtf8-are_ascii (codes "memo") refl, (path_utf8 path.sels h.0, (IsUtf8-are_ascii (codes "miss") refl, tt)))
plain_fact (Armed path tick) h = (IsUtf8-are_ascii (codes "armed") refl, (path_utf8 path.sels h.0, (h.1, tt)))
plain_fact (Due path) h = (IsUtf8-are_ascii (codes "due") refl, (path_utf8 path.sels h, tt))
plain_fact (Resumed path) h = (IsUtf8-are_ascii (codes "resumed") refl, (path_utf8 path.sels h, tt))
plain_fact (Begun path) h = (IsUtf8-are_ascii (codes "begun") refl, (path_utf8 path.sels h, tt))

plain_facts : (facts : List Fact) → AllByRecursion FitsFact facts → ArePlain (items_of (map fact_data facts)) 4
plain_facts facts h = each fact_data FitsFact 4 plain_fact facts h

pub plain_entry : (e : Entry) → FitsEntry e → Plain (entry_data e) 6
plain_entry (Submit workflow old facts) h = (IsUtf8-are_ascii (codes "submit") refl, (h.0, (plain_text old 5 h.1, (plain_facts facts h.2, tt))))
plain_entry (Write workflow version facts) h = (IsUtf8-are_ascii (codes "write") refl, (h.0, (h.1, (plain_facts facts h.2, tt))))
plain_entry (Create workflow node path begin) h = (IsUtf8-are_ascii (codes "create") refl, (h.0, (h.1, (path_utf8 path.sels h.2, (h.3, tt)))))
plain_entry (Finish workflow node outcome) h = (IsUtf8-are_ascii (codes "finish") refl, (h.0, (h.1, (plain_outcome outcome 2 h.2, tt))))
plain_entry (File lock key rank) h = (IsUtf8-are_ascii (codes "file") refl, (h.0, (h.1.0, (path_utf8 key.path.sels h.1.1, (plain_rank rank 4 h.2, tt)))))
plain_entry (Release lock key) h = (IsUtf8-are_ascii (codes "release") refl, (h.0, (h.1.0, (path_utf8 key.path.sels h.1.1, tt))))
plain_entry (Save cache key writer outputs tick) h =
    (IsUtf8-are_ascii (codes "save") refl, (h.0, (h.1, (h.2.0, (path_utf8 writer.path.sels h.2.1, (plain_outputs outputs 2 h.3, (h.4, tt)))))))
plain_entry (Tick to) h = (IsUtf8-are_ascii (codes "tick") refl, (h, tt))
