-- The places of one part of a text.
use Rattle.std.specs.Prelude.{List, []}
use Rattle.json_fields.specs.Paths.{Path}
use Rattle.tag_text.specs.declared.part.Part.{Part}
use Rattle.tag_text.specs.declared.part.Part.TheVariants.{Plain, Tag}
use Rattle.tag_names.specs.Tags.{named}
use Rattle.wf_places.specs.declared.place.Place.{Place}
use Rattle.wf_places.specs.Tags.{Around, tag_places}

abbrev pub piece_places : Around → Path → Part → List Place
piece_places a path (Plain text) = []
piece_places a path (Tag text) = tag_places a path (named text)
