use Rattle.tag_text.proofs.Spells.{sound, complete}
use Rattle.tag_text.proofs.law.spelling.Goals as goal

pub returns : goal.returns
returns c = λ text parts. (sound text parts, λ spelled. complete parts text spelled.form spelled.written)
