-- What is copied is a file that holds the tree.
use Rattle.std.proofs.Common.{inl, replicate, ◌++◌, ◌∙◌}
use Rattle.regtx_c.proofs.WholeFiles.{parts_hold}
use Rattle.regtx_c.proofs.files.write.Goals as goal

pub returns : goal.returns
returns c =
    let base = c.base_of-base.result in
    let bins = c.deref.result.now in
    let made = c.in-Ok.emitted in
    let said = c.base_of-base.ensures.sector in
    let holds = parts_hold base bins made.image.bytes said.0 (replicate 16 0) made.root c.len.result c.args.tree.now
    (c.deref.ensures.value ∙ c.into_bytes-bins.ensures) c.len.ensures said.1 said.2 said.3 c.in-Ok.ensures.size c.in-Ok.ensures.limit c.in-Ok.ensures.stands in
    inl (base ++ bins, holds, c.copy_parts.ensures)
