-- What arguments say, and the values of inputs, one after the other.
use Rattle.std.proofs.Common.{◌≡◌, ℕ, ◌+◌, ◌≤◌, List, [], ◌∷◌, ◌++◌, length, drop, Option, Some, None, Ok, Err, refl, sym, ap, ◌∙◌, subst, append_assoc}
use Rattle.std.specs.Prelude.{slice_get}
use Rattle.std.proofs.lemmas.List.{append-nil, drop_all}
use Rattle.tree_types.specs.declared.outcome.Param.{Param}
use Rattle.wf_manifest.specs.declared.calls.Argument.{Argument}
use Rattle.wf_manifest.specs.declared.templates.Input.{Input}
use Rattle.scopes.specs.Substitution.{Found, ◌>>=◌, Scope, said}
use Rattle.scopes.proofs.ValueIn.{drop_place}
use Rattle.meaning.specs.Calls.{arguments_said, input_value, inputs_said}
use Rattle.meaning.specs.Outputs.{with_value}
use Rattle.call_texts.specs.declared.halt.Halt.{Halt}
use Rattle.call_texts.specs.Told.{Halts}
use Rattle.call_texts.proofs.Told.{passes}

-- what was found before, and what is found still
abbrev pub behind : {A : Type 0} → List A → Found (List A) → Found (List A)
behind before found = found >>= λ rest. Ok (before ++ rest)

pub starts : {A : Type 0} (found : Found (List A)) → behind [] found ≡ found
starts (Ok rest) = refl
starts (Err fault) = refl

behind_one : {A : Type 0} (before more : List A) (found : Found (List A)) → behind before (found >>= λ rest. Ok (more ++ rest)) ≡ behind (before ++ more) found
behind_one {A = A} before more (Ok rest) = ap (λ (t : List A). Ok t) (sym (append_assoc before more rest))
behind_one before more (Err fault) = refl

pub ends : {A : Type 0} (before : List A) (total : Found (List A)) → behind before (Ok []) ≡ total → total ≡ Ok before
ends {A = A} before total is = sym is ∙ ap (λ (t : List A). Ok t) (append-nil before)

-- ---- arguments

-- one argument more is said
pub argument_more : (scope : Scope) (given : List Argument) (i : ℕ) (a : Argument) (value : List ℕ) (before : Scope) (total : Found Scope) → slice_get given i ≡ Some a → said scope a.value ≡ Ok value
    → behind before (arguments_said scope (drop i given)) ≡ total → behind (before ++ (a.name, value) ∷ []) (arguments_said scope (drop (i + 1) given)) ≡ total
argument_more scope given i a value before total at says so_far =
    sym (behind_one before ((a.name, value) ∷ []) (arguments_said scope (drop (i + 1) given)))
    ∙ ap (λ (f : Found (List ℕ)). behind before (f >>= λ v. arguments_said scope (drop (i + 1) given) >>= λ vs. Ok ((a.name, v) ∷ vs))) (sym says)
    ∙ ap (λ (xs : List Argument). behind before (arguments_said scope xs)) (sym (drop_place given i a at))
    ∙ so_far

-- or none
pub argument_halts : (scope : Scope) (given : List Argument) (i : ℕ) (a : Argument) (halt : Halt) (before : Scope) (total : Found Scope) → slice_get given i ≡ Some a → Halts halt (said scope a.value)
    → behind before (arguments_said scope (drop i given)) ≡ total → Halts halt total
argument_halts scope given i a halt before total at halts so_far =
    let rest = arguments_said scope (drop (i + 1) given) in
    let one = passes halt (said scope a.value) (λ v. rest >>= λ vs. Ok ((a.name, v) ∷ vs)) halts in
    subst (λ (t : Found Scope). Halts halt t)
    (ap (λ (xs : List Argument). behind before (arguments_said scope xs)) (sym (drop_place given i a at)) ∙ so_far)
    (passes halt (arguments_said scope (a ∷ drop (i + 1) given)) (λ vs. Ok (before ++ vs)) one)

pub arguments_end : (scope : Scope) (given : List Argument) (i : ℕ) (before : Scope) (total : Found Scope) → length given ≤ i → behind before (arguments_said scope (drop i given)) ≡ total → total ≡ Ok before
arguments_end scope given i before total past so_far =
    ends before total (ap (λ (xs : List Argument). behind before (arguments_said scope xs)) (sym (drop_all i given past)) ∙ so_far)

-- ---- inputs

with_rest : (name : List ℕ) (value : Option (List ℕ)) (rest : List Param) → with_value name value rest ≡ with_value name value [] ++ rest
with_rest name None rest = refl
with_rest name (Some v) rest = refl

put_front : (name : List ℕ) (value : Option (List ℕ)) (found : Found (List Param)) → (found >>= λ ps. Ok (with_value name value ps)) ≡ (found >>= λ ps. Ok (with_value name value [] ++ ps))
put_front name value (Ok ps) = ap (λ (t : List Param). Ok t) (with_rest name value ps)
put_front name value (Err fault) = refl

-- one input more has its value, or has none
pub input_more : (globals given : Scope) (inputs : List Input) (i : ℕ) (input : Input) (value : Option (List ℕ)) (before : List Param) (total : Found (List Param)) → slice_get inputs i ≡ Some input
    → input_value globals given input ≡ Ok value → behind before (inputs_said globals given (drop i inputs)) ≡ total
    → behind (before ++ with_value input.name value []) (inputs_said globals given (drop (i + 1) inputs)) ≡ total
input_more globals given inputs i input value before total at says so_far =
    let rest = inputs_said globals given (drop (i + 1) inputs) in
    sym (behind_one before (with_value input.name value []) rest)
    ∙ ap (λ (f : Found (List Param)). behind before f) (sym (put_front input.name value rest))
    ∙ ap (λ (f : Found (Option (List ℕ))). behind before (f >>= λ v. rest >>= λ ps. Ok (with_value input.name v ps))) (sym says)
    ∙ ap (λ (xs : List Input). behind before (inputs_said globals given xs)) (sym (drop_place inputs i input at))
    ∙ so_far

-- or is at fault
pub input_halts : (globals given : Scope) (inputs : List Input) (i : ℕ) (input : Input) (halt : Halt) (before : List Param) (total : Found (List Param)) → slice_get inputs i ≡ Some input
    → Halts halt (input_value globals given input) → behind before (inputs_said globals given (drop i inputs)) ≡ total → Halts halt total
input_halts globals given inputs i input halt before total at halts so_far =
    let rest = inputs_said globals given (drop (i + 1) inputs) in
    let one = passes halt (input_value globals given input) (λ v. rest >>= λ ps. Ok (with_value input.name v ps)) halts in
    subst (λ (t : Found (List Param)). Halts halt t)
    (ap (λ (xs : List Input). behind before (inputs_said globals given xs)) (sym (drop_place inputs i input at)) ∙ so_far)
    (passes halt (inputs_said globals given (input ∷ drop (i + 1) inputs)) (λ ps. Ok (before ++ ps)) one)

pub inputs_end : (globals given : Scope) (inputs : List Input) (i : ℕ) (before : List Param) (total : Found (List Param)) → length inputs ≤ i
    → behind before (inputs_said globals given (drop i inputs)) ≡ total → total ≡ Ok before
inputs_end globals given inputs i before total past so_far =
    ends before total (ap (λ (xs : List Input). behind before (inputs_said globals given xs)) (sym (drop_all i inputs past)) ∙ so_far)
