use Rattle.std.proofs.Common.{subst, sym, ◌∙◌, ap, take, drop}
use Rattle.std.specs.List.{list_all, prefix_len}
use Rattle.std.specs.Str.{IsCharBoundary}
use Rattle.base_types.specs.Bytes.{is_name_byte}
use Rattle.node_names.specs.Inside.Reading.{Stops}
use Rattle.node_names.proofs.Stops.{run_passes, run_stops, run_ends}
use Rattle.node_names.proofs.reading.split_name.Goals as goal

pub split_at-requires : goal.split_at-requires
split_at-requires c =
    let len = c.name_len.ensures ∙ ap (prefix_len is_name_byte) c.as_bytes.ensures.value in
    subst (IsCharBoundary c.args.text.now) (sym len) (run_ends c.args.text.now c.utf8.text)

pub returns-clause-name : goal.returns-clause-name
returns-clause-name c =
    let len = c.name_len.ensures ∙ ap (prefix_len is_name_byte) c.as_bytes.ensures.value in
    ap (list_all is_name_byte) (c.split_at.ensures.front ∙ ap (λ n. take n c.args.text.now) len) ∙ run_passes is_name_byte c.args.text.now

pub returns-clause-stops : goal.returns-clause-stops
returns-clause-stops c =
    let len = c.name_len.ensures ∙ ap (prefix_len is_name_byte) c.as_bytes.ensures.value in
    subst (Stops is_name_byte) (sym (c.split_at.ensures.back ∙ ap (λ n. drop n c.args.text.now) len)) (run_stops is_name_byte c.args.text.now)
