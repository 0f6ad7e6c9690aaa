-- Lists of what is given of each.
use Rattle.std.proofs.Common.{◌≡◌, List, [], ◌∷◌, filter_map, refl, ◌∙◌, ap, ap₂, Option, Some, None, option_and_then}
use Rattle.std.specs.List.{cons_option}

chain_one : {A B : Type 0} (g : A → Option B) (o : Option A) (xs : List A) → filter_map g (cons_option o xs) ≡ cons_option (option_and_then g o) (filter_map g xs)
chain_one g None xs = refl
chain_one g (Some x) xs = refl

-- what one gives of what another gives
pub filter_chain : {A B C : Type 0} (g : B → Option C) (f : A → Option B) (xs : List A) → filter_map g (filter_map f xs) ≡ filter_map (λ (x : A). option_and_then g (f x)) xs
filter_chain g f [] = refl
filter_chain g f (x ∷ xs) = chain_one g (f x) (filter_map f xs) ∙ ap (cons_option (option_and_then g (f x))) (filter_chain g f xs)

-- two that give the same of each
pub filter_each : {A B : Type 0} (q g : A → Option B) (xs : List A) → ((x : A) → q x ≡ g x) → filter_map q xs ≡ filter_map g xs
filter_each q g [] same = refl
filter_each q g (x ∷ xs) same = ap₂ cons_option (same x) (filter_each q g xs same)

-- one that gives nothing
pub filter_nothing : {A B : Type 0} (g : A → Option B) (xs : List A) → ((x : A) → g x ≡ None) → filter_map g xs ≡ []
filter_nothing g [] none = refl
filter_nothing g (x ∷ xs) none = ap₂ cons_option (none x) (filter_nothing g xs none)
