use Rattle.hive_load_parts.specs.CellReads.{marks_of}
use Rattle.hive_salvage.proofs.Telling.{so_too}
use Rattle.hive_salvage.proofs.walk.salvage.Goals as goal

pub returns-in-Ok-salvage_from-clause-kept : goal.returns-in-Ok-salvage_from-clause-kept
returns-in-Ok-salvage_from-clause-kept g c = so_too _ _ _ _ _ _ c.in-Ok-salvage_from.ensures.kept (λ cells shows events its.
    let root = c.in-Ok-take_root.ensures.root cells shows in (
      marks_of c.in-Ok.seen,
      marks_of c.take_root.new.seen,
      its.2,
      root.0,
      root.1,
      c.in-Ok-take_root.node,
      its.0,
      its.1,
      c.in-Ok.ensures.unset,
      root.4,
      root.2,
      root.3,
      its.3,
      its.4,
      its.5,
    ))
