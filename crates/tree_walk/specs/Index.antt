-- Positions of templates by their names, and their plans.
use Rattle.std.specs.Prelude.{◌≡◌, ℕ, List, Option, slice_get, option_and_then, drop, bytes_eq, ◌==◌}
use Rattle.std.specs.List.{find}
use Rattle.std.specs.Cmp.Lexicographic.{pointwise}
use Rattle.std.specs.declared.hash.FoldHasher.{FoldHasher}
use Rattle.std.specs.declared.hash.BuildHasherDefault.{BuildHasherDefault}
use Rattle.std.specs.HashMap.{get, HashMap}
use Rattle.wf_manifest.specs.declared.templates.Template.{Template}
use Rattle.wf_manifest.specs.declared.manifest.Manifest.{Manifest}
use Rattle.wf_manifest.specs.Valid.{Valid}
use Rattle.tree_walk.specs.declared.templates.Positions.{Positions}
use Rattle.tree_walk.specs.Planned.{ArePlanned}

abbrev pub Index : Type 0
Index = HashMap (List ℕ) ℕ (BuildHasherDefault FoldHasher)

-- the template at the position that is kept for a name
abbrev pub template_at : Index → List Template → List ℕ → Option Template
template_at index ts name = option_and_then (slice_get ts) (get (pointwise ◌==◌) index name)

-- a name leads to the first template of this name, from template i on
abbrev pub IsIndex : Index → List Template → ℕ → Type 0
IsIndex index ts i =
    (name : List ℕ) → template_at index ts name ≡ find (λ t. bytes_eq t.name name) (drop i ts)

-- a manifest that may be walked over, where its templates stand, and the plans of its DAGs
pub record IsReady (m : Manifest) (positions : Positions) : Type 0 where
  pub valid : Valid m
  pub indexed : IsIndex positions.by_name m.templates 0
  pub planned : ArePlanned m.templates positions.plans
