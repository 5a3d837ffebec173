use Rattle.std.proofs.Common.{◌≡◌, ℕ, List, ◌++◌, take, drop, sym, ◌∙◌, ap, subst, arith}
use Rattle.hive_file_reader.specs.Hives.{FileHasBlock, FileLacksBins, IsFilePrefix}
use Rattle.hive_file_reader.proofs.Files.{cut_short}
use Rattle.hive_file_reader.proofs.Fronts.{moved_bins, whole_file}
use Rattle.hive_file_reader.proofs.file.bins_of.Goals as goal

pub returns-then-len-end : goal.returns-then-len-end
returns-then-len-end c =
    let file = c.args.file.items in
    let same : c.deref.result.now ≡ file = cc in
    let has : FileHasBlock file c.in-Ok.block = (c.in-Ok.ensures file (subst (λ (l : List ℕ). IsFilePrefix l file) (sym same) (whole_file file))).0 in
    subst (FileLacksBins file) (sym c.from.ensures) (cut_short file c.in-Ok.block has (omega (arith, c.if-len-end.true, c.len.ensures)))

pub returns : goal.returns
returns c =
    let file = c.args.file.items in
    let same : c.deref.result.now ≡ file = cc in
    let has : FileHasBlock file c.in-Ok.block = (c.in-Ok.ensures file (subst (λ (l : List ℕ). IsFilePrefix l file) (sym same) (whole_file file))).0 in
    moved_bins file c.truncate-2.new.self.items c.in-Ok.block has (omega (arith, c.if-len-end.false, c.len.ensures))
    (c.truncate-2.ensures.items ∙ ap (take c.in-Ok.block.bins_size) (c.rotate_left.ensures.items ∙ ap (λ (l : List ℕ). drop 4096 l ++ take 4096 l) c.truncate.ensures.items))
