use Rattle.std.proofs.Common.{◌≡◌, ◌*◌, true, false, arith, refl, sym}
use Rattle.hive_cells.specs.Tiles.{is_allocated}
use Rattle.hive_cells.proofs.Lookups.{last_begins, most_on, most_all}
use Rattle.hive_cells.proofs.image.lookup.free_in_page.Goals as goal

pub loop-slot-preserved-else-size-has : goal.loop-slot-preserved-else-size-has
loop-slot-preserved-else-size-has c = (
  omega (arith, c.in-Some.ensures.before, c.loop-slot.invariant.0),
  omega (arith, c.max-most.ensures, c.if-size-has.false, c.loop-slot.invariant.1),
  most_on _ _ c.requires.kept _ c.loop-slot.end _ c.in-Some.slot c.loop-slot.most c.max-most.result c.loop-slot.invariant.0 c.in-Some.ensures c.loop-slot.invariant.2 (omega (arith, c.max-most.ensures)) (λ free. omega (arith, c.max-most.ensures, c.cell_size-has.ensures.size)),
)

pub loop-slot-preserved : goal.loop-slot-preserved
loop-slot-preserved c = (
  omega (arith, c.in-Some.ensures.before, c.loop-slot.invariant.0),
  c.loop-slot.invariant.1,
  most_on _ _ c.requires.kept _ c.loop-slot.end _ c.in-Some.slot c.loop-slot.most c.loop-slot.most c.loop-slot.invariant.0 c.in-Some.ensures c.loop-slot.invariant.2 (omega arith)
      (λ free. absurd (let kind : is_allocated c.args.bytes.now (8 * c.in-Some.slot) ≡ false = free.1 in let is : true ≡ is_allocated c.args.bytes.now (8 * c.in-Some.slot) = c.if-not-is_allocated.ensures in let no : ⊥ = cc in no)),
)

pub returns-then-size-has : goal.returns-then-size-has
returns-then-size-has c = ((last_begins _ _ c.requires.kept _ _ c.in-Some.slot c.in-Some.ensures, sym c.if-not-is_allocated.ensures), omega (arith, c.if-size-has.true, c.cell_size-has.ensures.size))

pub returns : goal.returns
returns c = (c.loop-slot.invariant.1, λ at free in_page. most_all _ _ c.requires.kept _ c.loop-slot.end c.loop-slot.most c.args.page at refl c.in_default.ensures c.loop-slot.invariant.2 free in_page)
