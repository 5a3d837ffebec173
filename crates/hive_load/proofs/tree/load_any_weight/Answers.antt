use Rattle.std.proofs.Common.{◌≡◌, sym, subst}
use Rattle.reg_tree.specs.Maps.{TreeMap}
use Rattle.hive_records.specs.Images.{BinsEncodeTree}
use Rattle.hive_load.specs.Limits.{IsShallowTree}
use Rattle.hive_load.proofs.Ends.{refused_for, stands_for, is_encodable, is_shallow}
use Rattle.hive_load.proofs.tree.load_any_weight.Goals as goal

pub returns-in-Err-clause-refused : goal.returns-in-Err-clause-refused
returns-in-Err-clause-refused c =
    let shown = c.tiles.ensures.shown in
    refused_for c.args.image.now.bytes c.args.root c.args.minor c.has_segments-split.result c.has_segments-split.ensures shown.0 shown.1 c.in-Err.refusal (c.in-Err.ensures.answers shown.0 shown.1)

pub from_root-requires : goal.from_root-requires
from_root-requires c =
    let shown = c.tiles.ensures.shown in
    is_encodable c.args.image.now.bytes c.args.root c.args.minor c.has_segments-split.result c.has_segments-split.ensures shown.0 shown.1 c.in-Ok.node (c.in-Ok.ensures.answers shown.0 shown.1) c.in-Ok.ensures.node c.tiles.ensures.bytes

pub returns-clause-stands : goal.returns-clause-stands
returns-clause-stands c =
    let shown = c.tiles.ensures.shown in
    subst (λ (tree : TreeMap). BinsEncodeTree c.args.image.now.bytes c.args.root c.args.minor tree) (sym c.in_ok-from_root.ensures)
    (stands_for c.args.image.now.bytes c.args.root c.args.minor c.has_segments-split.result c.has_segments-split.ensures shown.0 shown.1 c.in-Ok.node (c.in-Ok.ensures.answers shown.0 shown.1) c.in-Ok.ensures.node c.tiles.ensures.tiles)

pub returns-clause-shallow : goal.returns-clause-shallow
returns-clause-shallow c =
    let shown = c.tiles.ensures.shown in
    subst (λ (tree : TreeMap). IsShallowTree tree) (sym c.in_ok-from_root.ensures)
    (is_shallow c.args.image.now.bytes c.args.root c.args.minor c.has_segments-split.result c.has_segments-split.ensures shown.0 shown.1 c.in-Ok.node (c.in-Ok.ensures.answers shown.0 shown.1) c.in-Ok.ensures.node)
