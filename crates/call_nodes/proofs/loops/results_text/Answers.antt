use Rattle.std.proofs.Common.{◌≡◌, map, subst, IfOk, List, ℕ, Option, arith}
use Rattle.serde_json.specs.View.{view}
use Rattle.tree_types.specs.declared.outcome.Outputs.{Outputs}
use Rattle.call_nodes.specs.Inside.Loops.{text_or_null, values}
use Rattle.call_nodes.proofs.Gathered.{all_mapped, no_floats_in, text_of}
use Rattle.call_nodes.proofs.loops.results_text.Goals as goal

pub json_text-requires : goal.json_text-requires
json_text-requires c =
    let read : Outputs → Option (List ℕ) = λ o. o.result in
    let items = c.args.items.now in
    let made = map view c.loop-i.values.items in
    let all : made ≡ values read items = all_mapped (λ o. text_or_null (read o.now)) made items c.loop-i.i c.loop-i.invariant (omega arith) in
    no_floats_in read items made all

pub returns : goal.returns
returns c =
    let read : Outputs → Option (List ℕ) = λ o. o.result in
    let items = c.args.items.now in
    let made = map view c.loop-i.values.items in
    let all : made ≡ values read items = all_mapped (λ o. text_or_null (read o.now)) made items c.loop-i.i c.loop-i.invariant (omega arith) in
    subst (λ (t : List ℕ). IfOk c.json_text.result (λ text. text ≡ t)) (text_of read items made all) c.json_text.ensures
