-- A store with its law may go to another thread where the contents and the outage may.
use denote.RattleType.{RattleType}
use denote.Struct.Declared.{shape}
use denote.Param.Send.{IsSend, view_send, recorded_send, struct_send}
use Rattle.std.proofs.Crossing.{crosses}
use Rattle.io_edge.specs.declared.outage.Outage as outage
use Rattle.object_store.specs.declared.content.Content as content
use Rattle.object_store.proofs.store.Store.TheSendSync as store
use Rattle.std.specs.contracts.snapshot.Snapshot as Snapshot
use Rattle.store_client.specs.contracts.held.Held as Held
use Rattle.store_client.specs.contracts.held.Held.TheInside as inside

law_send : (L : RattleType) → IsSend (Snapshot.the_row L)
law_send L = search crosses

module _ (T O L : RattleType) (g : content.Ghosts T.Denot L.Denot) (g' : outage.Ghosts O.Denot) (t : IsSend T) (o : IsSend O) where
  fields_send : IsSend (inside.the_row T O L g g')
  fields_send =
      recorded_send (inside.the_field T O L g g').row _ _ (inside.the_type T O L g g').to_one
      (struct_send (shape (inside.the_type T O L g g')) (store.the_send T O L g g' t o, (law_send L, tt)))

  pub held_send : IsSend (Held.the_row T O L g g')
  held_send = view_send (inside.the_row T O L g g') _ _ _ _ fields_send
