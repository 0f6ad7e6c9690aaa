use Rattle.std.proofs.Common.{IfSome, Option, sym, ◌∙◌, subst}
use Rattle.std.proofs.lemmas.Bool.{false≢true}
use Rattle.serde_json.specs.View.{view}
use Rattle.tree_types.specs.declared.entry.Entry.{Entry}
use Rattle.history_text.specs.Readable.{RanksByKey}
use Rattle.history_text.proofs.Keyed.{keyed}
use Rattle.history_text.proofs.LineBack.{no_json, no_entry, the_only}
use Rattle.history_text.proofs.lines.read_line.Goals as goal

pub returns-in-Err : goal.returns-in-Err
returns-in-Err c = no_json c.args.line.now c.in-Err.fault c.in-Err.ensures

pub returns-in-Err-entry_of : goal.returns-in-Err-entry_of
returns-in-Err-entry_of c = no_entry c.args.line.now (view c.in-Ok.value) c.in-Err-entry_of.fault c.in-Ok.ensures c.in-Err-entry_of.ensures

pub returns-then-are_same : goal.returns-then-are_same
returns-then-are_same c =
    let ranked = subst (λ (found : Option Entry). IfSome found RanksByKey) c.in-Ok-entry_of.ensures (keyed (view c.in-Ok.value)) in
    let text = sym c.in_ok-text.ensures ∙ sym c.as_slice.ensures.value ∙ c.are_same.ensures.0 c.if-are_same.true in
    ((c.entry_fits.ensures, ranked), text)

pub returns : goal.returns
returns c entry readable same =
    let text = the_only c.args.line.now (view c.in-Ok.value) c.in-Ok-entry_of.entry entry c.in-Ok.ensures c.in-Ok-entry_of.ensures readable same in
    let alike = c.are_same.ensures.1 (c.as_slice.ensures.value ∙ c.in_ok-text.ensures ∙ text) in
    false≢true (sym c.if-are_same.false ∙ alike)
