use Rattle.std.proofs.Common.{◌≡◌, sym, ap, subst, ◌∙◌, arith}
use Rattle.base_block.specs.declared.block.TheConstants.{MINOR_VERSION}
use Rattle.hive_cells.specs.Bins.{Bins}
use Rattle.hive_records.specs.Images.{BinsEncodeTree}
use Rattle.hive_savepoint.specs.Savepoints.{SavedBytes}
use Rattle.hive_edit.proofs.image_edit.rebuild.Goals as goal

pub returns-clause-stands : goal.returns-clause-stands
returns-clause-stands c =
    let made = c.in_ok-made.made in
    let same = ap (λ (b : Bins). b.bytes) c.bytes-2.follows.holds-at-none in
    let put : c.replace.new.self.bytes ≡ made.image.bytes = ap (λ (s : SavedBytes). s.bytes) c.replace.ensures ∙ same in
    subst (λ bytes. BinsEncodeTree bytes made.root MINOR_VERSION c.args.tree.now) (sym put) (c.in_ok-made.ensures.stands MINOR_VERSION (omega arith))
