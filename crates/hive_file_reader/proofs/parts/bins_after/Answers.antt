use Rattle.std.proofs.Common.{◌≡◌, ◌<◌, ◌≤◌, length, arith}
use Rattle.hive_file_reader.proofs.Files.{read_block, read_own, read_short, read_whole, short_bins}
use Rattle.hive_file_reader.proofs.parts.bins_after.Goals as goal

pub returns-then-len-size : goal.returns-then-len-size
returns-then-len-size g c = λ known read end.
    let mid = g.R.Read.remaining c.args.reader.now in
    let now = g.R.Read.remaining c.read_part.new.reader in
    let head = c.args.head.now in
    let block = c.in-Ok.block in
    let whole : 4096 ≤ length head = read_whole head block c.in-Ok.ensures in
    let long : length head ≡ 4096 = omega (arith, whole, c.requires) in
    let short : length c.in-Ok-read_part.bins.items < block.bins_size = omega (arith, c.if-len-size.true, c.len.ensures) in
    short_bins known c.from.result c.from.ensures
    (read_short known mid now head c.in-Ok-read_part.bins.items block read c.in-Ok-read_part.ensures.bytes long short (c.in-Ok-read_part.ensures.end short) (read_block known mid head block read end c.in-Ok.ensures))

pub returns : goal.returns
returns g c = λ known read end.
    let mid = g.R.Read.remaining c.args.reader.now in
    let now = g.R.Read.remaining c.read_part.new.reader in
    let head = c.args.head.now in
    let block = c.in-Ok.block in
    let whole : 4096 ≤ length head = read_whole head block c.in-Ok.ensures in
    let long : length head ≡ 4096 = omega (arith, whole, c.requires) in
    let size : length c.in-Ok-read_part.bins.items ≡ block.bins_size = omega (arith, c.if-len-size.false, c.len.ensures, c.in-Ok-read_part.ensures.within) in
    read_own known mid now head c.in-Ok-read_part.bins.items block read c.in-Ok-read_part.ensures.bytes long size (read_block known mid head block read end c.in-Ok.ensures)
