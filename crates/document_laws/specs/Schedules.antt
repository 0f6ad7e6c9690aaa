-- The hands of a document's schedule.
use Rattle.std.specs.Prelude.{◌≡◌, true, Ok}
use Rattle.serde_json.specs.Data.{Data}
use Rattle.growth.specs.Growth.{Among}
use Rattle.item_reader.specs.declared.schedules.ScheduleStep.{ScheduleStep}
use Rattle.bundle_rules.specs.Schedules.{is_of_hands}
use Rattle.wf_bundle.specs.declared.document.Schedule.{Schedule}
use Rattle.wf_bundle.specs.declared.document.Document.{Document}
use Rattle.wf_bundle.specs.Documents.{document_of}

-- each hand that a step names is there
abbrev pub HasItsHands : Schedule → Type 0
HasItsHands s = (o : ScheduleStep) → Among o s.steps → is_of_hands s.workers o ≡ true

-- so it is in each document that a value is
abbrev pub HandsAreThere : Type 0
HandsAreThere = (d : Data) (D : Document) → document_of d ≡ Ok D → HasItsHands D.schedule
