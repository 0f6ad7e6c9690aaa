-- The document that is made has no float, and is not deep: its text is exact, and reads back.
use Rattle.std.proofs.Common.{◌≡◌, ℕ, ◌≤◌, Bool, true, false, List, [], ◌∷◌, ◌++◌, refl, arith, map, if◌then◌else◌}
use Rattle.std.specs.Prelude.{flat_map}
use Rattle.serde_json.specs.Data.{Data, depth, items_depth}
use Rattle.serde_json.specs.View.{items_of}
use Rattle.serde_json.specs.Written.{has_float, items_have_float}
use Rattle.generator.specs.declared.draws.Shape.{Shape}
use Rattle.generator.specs.declared.draws.Shape.TheVariants.{Pod, Steps, Dag, Loop}
use Rattle.generator.specs.declared.draws.Drawn.{Drawn}
use Rattle.generator.specs.Bundles.{name, workflow_named, workflow, pod_named, pods_of, outcomes, bundle_of}

-- ---- no floats

abbrev NoFloats : List Data → Type 0
NoFloats ds = items_have_float (items_of ds) ≡ false

plain_shape : (n : List ℕ) (shape : Shape) → has_float (workflow_named n shape) ≡ false
plain_shape n Pod = refl
plain_shape n Steps = refl
plain_shape n Dag = refl
plain_shape n (Loop count) = refl

plain_workflow : (d : Drawn) → has_float (workflow d) ≡ false
unfolding workflow
plain_workflow d = plain_shape (name d.position) d.shape

plain_if : (fails : Bool) (n : List ℕ) (shape : Shape) (rest : List Data) → NoFloats rest → NoFloats ((if fails then pod_named n shape ∷ [] else []) ++ rest)
plain_if true n shape rest h = h
plain_if false n shape rest h = h

plain_pods : (ds : List Drawn) → NoFloats (flat_map pods_of ds)
unfolding pods_of
plain_pods [] = refl
plain_pods (d ∷ ds) = plain_if d.fails (name d.position) d.shape (flat_map pods_of ds) (plain_pods ds)

plain_outcomes : (pods : List Data) → NoFloats pods → has_float (outcomes pods) ≡ false
plain_outcomes [] h = refl
plain_outcomes (pod ∷ pods) h = rw h refl

plain_items : (ds : List Drawn) (last : Data) → has_float last ≡ false → NoFloats (map workflow ds ++ last ∷ [])
plain_items [] last h = rw h refl
plain_items (d ∷ ds) last h = rw (plain_workflow d, plain_items ds last h) refl

pub plain : (ds : List Drawn) → has_float (bundle_of ds) ≡ false
plain ds = rw (plain_items ds (outcomes (flat_map pods_of ds)) (plain_outcomes (flat_map pods_of ds) (plain_pods ds))) refl

-- ---- depth

flat_shape : (n : List ℕ) (shape : Shape) → depth (workflow_named n shape) ≤ 20
flat_shape n Pod = omega arith
flat_shape n Steps = omega arith
flat_shape n Dag = omega arith
flat_shape n (Loop count) = omega arith

flat_workflow : (d : Drawn) → depth (workflow d) ≤ 20
unfolding workflow
flat_workflow d = flat_shape (name d.position) d.shape

flat_if : (fails : Bool) (n : List ℕ) (shape : Shape) (rest : List Data) → items_depth (items_of rest) ≤ 10
    → items_depth (items_of ((if fails then pod_named n shape ∷ [] else []) ++ rest)) ≤ 10
flat_if true n shape rest h = omega arith
flat_if false n shape rest h = h

flat_pods : (ds : List Drawn) → items_depth (items_of (flat_map pods_of ds)) ≤ 10
unfolding pods_of
flat_pods [] = omega arith
flat_pods (d ∷ ds) = flat_if d.fails (name d.position) d.shape (flat_map pods_of ds) (flat_pods ds)

flat_outcomes : (pods : List Data) → items_depth (items_of pods) ≤ 10 → depth (outcomes pods) ≤ 20
flat_outcomes [] h = omega arith
flat_outcomes (pod ∷ pods) h = omega arith

flat_items : (ds : List Drawn) (last : Data) → depth last ≤ 20 → items_depth (items_of (map workflow ds ++ last ∷ [])) ≤ 20
flat_items [] last h = omega arith
flat_items (d ∷ ds) last h = omega (arith, flat_workflow d, flat_items ds last h)

pub flat : (ds : List Drawn) → depth (bundle_of ds) ≤ 30
flat ds = omega (arith, flat_items ds (outcomes (flat_map pods_of ds)) (flat_outcomes (flat_map pods_of ds) (flat_pods ds)))
