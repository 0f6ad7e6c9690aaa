-- No rule finds anything in a manifest that is drawn.
use Rattle.std.proofs.Common.{◌≡◌, ℕ, List, [], ◌∷◌, Ok, IsTrue, refl, ap, ◌∙◌, decimal}
use Rattle.tag_text.specs.Parts.{as_it_stands}
use Rattle.wf_manifest.specs.declared.manifest.Manifest.{Manifest}
use Rattle.wf_manifest.specs.Valid.{Valid, lists_are_short, parameters_are_short, retries_fit}
use Rattle.wf_places.specs.Places.{manifest_places}
use Rattle.wf_check.specs.Verdicts.{checked, verdict}
use Rattle.generator.specs.declared.draws.Shape.{Shape}
use Rattle.generator.specs.declared.draws.Shape.TheVariants.{Pod, Steps, Dag, Loop as Looped}
use Rattle.generated_laws.proofs.Said.{body_of, looped, manifest}

loop_places : (limited : List (List ℕ)) (n t : List ℕ) → manifest_places limited (manifest n (looped (as_it_stands t))) ≡ []
loop_places limited n [] = refl
loop_places limited n (b ∷ bs) = refl

no_places : (limited : List (List ℕ)) (n : List ℕ) (shape : Shape) → manifest_places limited (manifest n (body_of shape)) ≡ []
no_places limited n Pod = refl
no_places limited n Steps = refl
no_places limited n Dag = refl
no_places limited n (Looped count) = loop_places limited n (decimal count)

no_finding : checked [] ≡ Ok tt
unfolding checked
no_finding = refl

pub passes : (limited : List (List ℕ)) (n : List ℕ) (shape : Shape) → verdict limited (manifest n (body_of shape)) ≡ Ok tt
passes limited n shape = ap checked (no_places limited n shape) ∙ no_finding

-- what a manifest that passes is
abbrev pub PassedIsValid : Type 0
PassedIsValid =
    (limited : List (List ℕ)) (m : Manifest) → verdict limited m ≡ Ok tt →
    IsTrue (lists_are_short m) → IsTrue (parameters_are_short m) → IsTrue (retries_fit m) → Valid m

pub valid_shape : PassedIsValid → (n : List ℕ) (shape : Shape) → Valid (manifest n (body_of shape))
valid_shape law n Pod = law [] (manifest n (body_of Pod)) (passes [] n Pod) refl refl refl
valid_shape law n Steps = law [] (manifest n (body_of Steps)) (passes [] n Steps) refl refl refl
valid_shape law n Dag = law [] (manifest n (body_of Dag)) (passes [] n Dag) refl refl refl
valid_shape law n (Looped count) = law [] (manifest n (body_of (Looped count))) (passes [] n (Looped count)) refl refl refl
