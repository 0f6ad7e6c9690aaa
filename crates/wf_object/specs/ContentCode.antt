-- The codes of what the store keeps, by which contracts tell two contents apart.
use Rattle.std.specs.Prelude.{◌≡◌, ◌⊎◌, ℕ, List, Option, refl}
use Rattle.std.proofs.Common.{inl, inr}
use Rattle.std.specs.Coded.{codes, Coded, code_by, coded×, coded⊎, coded_ℕ}
use Rattle.depends_expr.specs.Expression.{expression_code}
use Rattle.tree_types.specs.declared.path.Path.{Path}
use Rattle.tree_types.specs.declared.node.Node.{Node}
use Rattle.tree_types.specs.declared.fact.Fact.{Fact}
use Rattle.tree_types.specs.declared.outcome.Outcome.{Outcome}
use Rattle.tree_types.specs.declared.entry.Limit.{Limit}
use Rattle.books.specs.declared.Request.{Request}
use Rattle.saves.specs.declared.Saved.{Saved}
use Rattle.wf_manifest.specs.declared.manifest.Manifest.{Manifest}
use Rattle.wf_manifest.specs.JsonCode.{json_code}
use Rattle.law.specs.Contents.{Flow, PodObject, Book, Content, OfWorkflow, OfPod, OfLocks, OfCaches}

manifest_code : Coded Manifest
manifest_code = hlevel (codes, expression_code, json_code)

facts_code : Coded (List Fact)
facts_code = hlevel codes

tree_code : Coded (List Node)
tree_code = hlevel codes

path_code : Coded Path
path_code = hlevel codes

outcome_code : Coded (Option Outcome)
outcome_code = hlevel codes

limits_code : Coded (List Limit)
limits_code = hlevel codes

requests_code : Coded (List Request)
requests_code = hlevel codes

saves_code : Coded (List Saved)
saves_code = hlevel codes

pub flow_code : Coded Flow
flow_code =
    code_by (Manifest × (List Fact × List Node)) (coded× manifest_code (coded× facts_code tree_code))
    (λ f. (f.manifest, (f.journal, f.tree))) (λ p. record { manifest = p.0; journal = p.1.0; tree = p.1.1 }) (λ _. refl)

pub pod_code : Coded PodObject
pod_code =
    code_by (Path × (ℕ × Option Outcome)) (coded× path_code (coded× coded_ℕ outcome_code))
    (λ pod. (pod.path, (pod.begin, pod.outcome))) (λ p. record { path = p.0; begin = p.1.0; outcome = p.1.1 }) (λ _. refl)

book_code : Coded Book
book_code =
    code_by (List Limit × List Request) (coded× limits_code requests_code) (λ b. (b.limits, b.requests))
    (λ p. record { limits = p.0; requests = p.1 }) (λ _. refl)

-- a content is one of four
abbrev Kinds : Type 0
Kinds = (Flow ⊎ PodObject) ⊎ (Book ⊎ List Saved)

kinds_code : Coded Kinds
kinds_code = coded⊎ (coded⊎ flow_code pod_code) (coded⊎ book_code saves_code)

abbrev kind_of : Content → Kinds
kind_of (OfWorkflow f) = inl (inl f)
kind_of (OfPod pod) = inl (inr pod)
kind_of (OfLocks b) = inr (inl b)
kind_of (OfCaches ss) = inr (inr ss)

abbrev content_in : Kinds → Content
content_in (inl (inl f)) = OfWorkflow f
content_in (inl (inr pod)) = OfPod pod
content_in (inr (inl b)) = OfLocks b
content_in (inr (inr ss)) = OfCaches ss

content_back : (c : Content) → content_in (kind_of c) ≡ c
content_back (OfWorkflow f) = refl
content_back (OfPod pod) = refl
content_back (OfLocks b) = refl
content_back (OfCaches ss) = refl

pub content_code : Coded Content
content_code = code_by Kinds kinds_code kind_of content_in content_back
