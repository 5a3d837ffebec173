use Rattle.std.proofs.Common.{length, refl, inl, inr, arith, ap}
use Rattle.hive_cells.specs.Bins.{Bins}
use Rattle.hive_cells.specs.Starts.{HasStartBits}
use Rattle.hive_cells.proofs.Outcomes.{allocated, no_place}
use Rattle.hive_cells.proofs.image.Image.alloc.Goals as goal

pub returns-then-len-gt-MOST_BINS_BYTES-clause-allocated : goal.returns-then-len-gt-MOST_BINS_BYTES-clause-allocated
returns-then-len-gt-MOST_BINS_BYTES-clause-allocated c =
    let k : HasStartBits c.args.self.now.bytes c.self.inside.starts.items = rw (← c.self.view_is) c.self.invariant.indexed.cells in (
      refl,
      elim c.then-len-gt-MOST_BINS_BYTES.either [
        | inl long ↦ inl (omega (arith, c.len.ensures, c.self.inside.bytes.ok.0, ap (λ (b : Bins). length b.bytes) c.self.view_is))
        | inr over ↦ no_place _ _ _ k over.1
      ],
    )

pub overflow_cast-result : goal.overflow_cast-result
overflow_cast-result c = omega (arith, c.in_ok-at.ensures.0.within, c.in_ok-at.ensures.0.limit)

pub returns-clause-allocated : goal.returns-clause-allocated
returns-clause-allocated c = allocated _ _ _ c.args.len c.size_for-size.result c.in_ok-at.at c.size_for-size.ensures.size c.in_ok-at.ensures.0 c.take.ensures.taken
