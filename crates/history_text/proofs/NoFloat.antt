-- No number of a line is a float.
use Rattle.std.proofs.Common.{◌≡◌, ℕ, ℤ, pos, negsuc, List, [], ◌∷◌, map, false, Option, Some, None, refl}
use Rattle.serde_json.specs.Data.{Data, number}
use Rattle.serde_json.specs.Find.{of_integer}
use Rattle.serde_json.specs.View.{items_of}
use Rattle.serde_json.specs.Written.{has_float, items_have_float}
use Rattle.tree_types.specs.declared.outcome.Param.{Param}
use Rattle.tree_types.specs.declared.outcome.Outcome.{Outcome}
use Rattle.tree_types.specs.declared.outcome.Outputs.{Outputs}
use Rattle.tree_types.specs.declared.fact.Fact.{Fact}
use Rattle.tree_types.specs.declared.fact.Fact.TheVariants.{Started, Settled, Carried, Granted, Memo, Armed, Due, Resumed, Begun}
use Rattle.tree_types.specs.declared.entry.Entry.{Entry}
use Rattle.tree_types.specs.declared.entry.Entry.TheVariants.{Submit, Write, Create, Finish, File, Release, Save, Tick}
use Rattle.tree_types.specs.declared.entry.Rank.{Rank}
use Rattle.history_text.specs.Lines.{text_or_null, param_data, params_data, outcome_data, outputs_data, rank_data, fact_data, facts_data, entry_data}

abbrev NoFloat : Data → Type 0
NoFloat d = has_float d ≡ false

abbrev NoFloats : List Data → Type 0
NoFloats ds = items_have_float (items_of ds) ≡ false

also : (d : Data) (ds : List Data) → NoFloat d → NoFloats ds → NoFloats (d ∷ ds)
also d ds first rest = rw first rest

each : {A : Type 0} (f : A → Data) → ((x : A) → NoFloat (f x)) → (xs : List A) → NoFloats (map f xs)
each f none [] = refl
each f none (x ∷ xs) = also (f x) (map f xs) (none x) (each f none xs)

in_text_or_null : (text : Option (List ℕ)) → NoFloat (text_or_null text)
in_text_or_null None = refl
in_text_or_null (Some text) = refl

in_integer : (z : ℤ) → NoFloat (number (of_integer z))
in_integer (pos n) = refl
in_integer (negsuc n) = refl

in_params : (params : List Param) → NoFloat (params_data params)
in_params params = each param_data (λ p. refl) params

in_outcome : (o : Outcome) → NoFloat (outcome_data o)
in_outcome o = rw (in_text_or_null o.result, in_params o.params)

in_outputs : (o : Outputs) → NoFloat (outputs_data o)
in_outputs o = rw (in_text_or_null o.result, in_params o.params)

in_rank : (r : Rank) → NoFloat (rank_data r)
in_rank r = rw (in_integer r.priority, in_integer r.created)

in_fact : (f : Fact) → NoFloat (fact_data f)
in_fact Started = refl
in_fact (Settled path outcome) = rw (in_outcome outcome)
in_fact (Carried path outcome) = rw (in_outcome outcome)
in_fact (Granted path) = refl
in_fact (Memo path (Some outputs)) = rw (in_outputs outputs)
in_fact (Memo path None) = refl
in_fact (Armed path tick) = refl
in_fact (Due path) = refl
in_fact (Resumed path) = refl
in_fact (Begun path) = refl

in_facts : (facts : List Fact) → NoFloat (facts_data facts)
in_facts facts = each fact_data in_fact facts

pub in_entry : (e : Entry) → has_float (entry_data e) ≡ false
in_entry (Submit workflow old facts) = rw (in_text_or_null old, in_facts facts)
in_entry (Write workflow version facts) = rw (in_facts facts)
in_entry (Create workflow node path begin) = refl
in_entry (Finish workflow node outcome) = rw (in_outcome outcome)
in_entry (File lock key rank) = rw (in_rank rank)
in_entry (Release lock key) = refl
in_entry (Save cache key writer outputs tick) = rw (in_outputs outputs)
in_entry (Tick to) = refl
