-- A tag begins with the prefix where its text does.
use Rattle.std.proofs.Common.{◌∙◌, ap, sym}
use Rattle.std.proofs.lemmas.Str.Pattern.{starts_text}
use Rattle.mentions.specs.Mentions.{part_asks}
use Rattle.tag_text.specs.Pieces.{part_of}
use Rattle.mentions.proofs.texts.piece_asks.Goals as goal

pub returns-in-Tag : goal.returns-in-Tag
returns-in-Tag c =
    starts_text c.starts_with.result c.args.prefix.now c.in-Tag.name.now c.starts_with.ensures.cases
    ∙ ap (λ p. part_asks c.args.prefix.now (part_of p)) (sym c.in-Tag.is)
