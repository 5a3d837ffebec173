-- An engine may cross threads if its disk may, and so may a lock over it.
use denote.RattleType.{RattleType}
use denote.Param.Send.{IsSend, IsSync, sendable}
use Rattle.std.proofs.Crossing as std
use Rattle.std.specs.contracts.sync.Mutex as Mutex
use Rattle.disk_model.specs.declared.disk.Disk as Disk
use Rattle.engine.specs.contracts.engine.Engine as Engine
use Rattle.engine_send.proofs.Crossing.{parts_send, prepared_send}

module _ (D : RattleType) (d : Disk.Ghosts D.Denot) where
  pub engine_send : IsSend D → IsSend (Engine.the_row D d)
  engine_send s = search (parts_send, prepared_send, std.crosses, sendable) depth 40

  pub lock_send : IsSend D → IsSend (Mutex.the_row (Engine.the_row D d))
  lock_send s = let e = engine_send s in search (e, std.crosses, sendable) depth 40

  pub lock_sync : IsSend D → IsSync (Mutex.the_row (Engine.the_row D d))
  lock_sync s = let e = engine_send s in search (e, std.crosses, sendable) depth 40
