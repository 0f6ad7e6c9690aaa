-- Lists that are made one item after the other, and the outputs of a loop.
use Rattle.std.proofs.Common.{◌≡◌, ℕ, ◌+◌, false, List, [], ◌∷◌, ◌++◌, drop, map, Option, Some, None, Bor, refl, sym, ap, ap₂, ◌∙◌, append_assoc, append-nil, length, ◌≤◌}
use Rattle.std.specs.Prelude.{slice_get}
use Rattle.std.proofs.lemmas.List.{drop_all}
use Rattle.serde_json.specs.Data.{Data, null, string, array, Items, item}
use Rattle.serde_json.specs.View.{items_of}
use Rattle.serde_json.specs.Written.{compact_text, items_have_float}
use Rattle.tree_types.specs.declared.outcome.Param.{Param}
use Rattle.tree_types.specs.declared.outcome.Outputs.{Outputs}
use Rattle.wf_manifest.specs.declared.templates.OutputDecl.{OutputDecl}
use Rattle.scopes.proofs.ValueIn.{drop_place}
use Rattle.meaning.specs.Lines.{Made}
use Rattle.meaning.specs.Outputs.{param}
use Rattle.meaning.specs.Calls.{json_items, json_text, loop_outputs}
use Rattle.call_nodes.specs.Inside.Loops.{text_or_null, results_text, output, values}

-- what is made of an item, and of those behind it
pub mapped_more : {A B : Type 0} (f : A → B) (done : List B) (xs : List A) (i : ℕ) (x : A) (b : B) → slice_get xs i ≡ Some x → b ≡ f x → (done ++ b ∷ []) ++ map f (drop (i + 1) xs) ≡ done ++ map f (drop i xs)
mapped_more f done xs i x b at is =
    append_assoc done (b ∷ []) (map f (drop (i + 1) xs))
    ∙ ap (λ y. done ++ (y ∷ map f (drop (i + 1) xs))) is
    ∙ ap (λ ys. done ++ map f ys) (sym (drop_place xs i x at))

-- ---- texts as JSON

texts_of_cases : (t : Option (List ℕ)) (ds : Items) (ts : List (Option (List ℕ))) → ds ≡ json_items ts → item (text_or_null t) ds ≡ json_items (t ∷ ts)
texts_of_cases None ds ts e = ap (item null) e
texts_of_cases (Some t) ds ts e = ap (item (string t)) e

texts_of : (read : Outputs → Option (List ℕ)) (os : List (Bor Outputs)) → items_of (values read os) ≡ json_items (map read (map (λ o. o.now) os))
texts_of read [] = refl
texts_of read (o ∷ os) = texts_of_cases (read o.now) (items_of (values read os)) (map read (map (λ (o : Bor Outputs). o.now) os)) (texts_of read os)

no_floats_cases : (t : Option (List ℕ)) (ds : Items) → items_have_float ds ≡ false → items_have_float (item (text_or_null t) ds) ≡ false
no_floats_cases None ds e = e
no_floats_cases (Some t) ds e = e

no_floats : (read : Outputs → Option (List ℕ)) (os : List (Bor Outputs)) → items_have_float (items_of (values read os)) ≡ false
no_floats read [] = refl
no_floats read (o ∷ os) = no_floats_cases (read o.now) (items_of (values read os)) (no_floats read os)

pub all_mapped : {A B : Type 0} (f : A → B) (done : List B) (xs : List A) (i : ℕ) → done ++ map f (drop i xs) ≡ map f xs → length xs ≤ i → done ≡ map f xs
all_mapped f done xs i e end =
    sym (append-nil done) ∙ ap (λ ys. done ++ map f ys) (sym (drop_all i xs end)) ∙ e

pub no_floats_in : (read : Outputs → Option (List ℕ)) (os : List (Bor Outputs)) (ds : List Data) → ds ≡ values read os → items_have_float (items_of ds) ≡ false
no_floats_in read os ds e = ap (λ (x : List Data). items_have_float (items_of x)) e ∙ no_floats read os

pub text_of : (read : Outputs → Option (List ℕ)) (os : List (Bor Outputs)) (ds : List Data) → ds ≡ values read os → compact_text (array (items_of ds)) ≡ json_text (map read (map (λ o. o.now) os))
text_of read os ds e = ap (λ (x : Items). compact_text (array x)) (ap items_of e ∙ texts_of read os)

-- ---- the outputs of a loop

abbrev pub outputs_of : List Made → List Outputs
outputs_of ms = map (λ m. m.own.node.outputs) ms

reads_of : {A : Type 0} (read : Outputs → A) (ms : List Made) → map read (outputs_of ms) ≡ map (λ m. read m.own.node.outputs) ms
reads_of read [] = refl
reads_of read (m ∷ ms) = ap (λ ts. read m.own.node.outputs ∷ ts) (reads_of read ms)

params_of : (ds : List OutputDecl) (ms : List Made) → map (output (outputs_of ms)) ds ≡ (loop_outputs ds ms).params
params_of [] ms = refl
params_of (d ∷ ds) ms =
    ap₂ (λ (v : List ℕ) (ps : List Param). record { name = d.name; value = v } ∷ ps) (ap json_text (reads_of (λ o. param d.name o.params) ms)) (params_of ds ms)

abbrev pub made_of : List ℕ → List Param → Outputs
made_of text ps = record { result = Some text; params = ps }

pub loop_outputs_of : (ds : List OutputDecl) (ms : List Made) (os : List Outputs) → outputs_of ms ≡ os → made_of (results_text os) (map (output os) ds) ≡ loop_outputs ds ms
loop_outputs_of ds ms os e =
    ap (λ (x : List Outputs). made_of (results_text x) (map (output x) ds)) (sym e)
    ∙ ap₂ made_of (ap json_text (reads_of (λ o. o.result) ms)) (params_of ds ms)
