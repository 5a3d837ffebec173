use Rattle.std.proofs.Common.{◌≡◌, length, take, length-take-le, arith, rules}
use Rattle.hive_file_reader.proofs.Files.{sector_read}
use Rattle.hive_file_reader.proofs.parts.read_parts.Goals as goal

pub returns-clause-sector : goal.returns-clause-sector
returns-clause-sector g c =
    let known = g.R.Read.remaining c.args.reader.now in
    let mid = g.R.Read.remaining c.fill.new.reader in
    let count = c.in_ok-count.count in
    let buffer = c.fill.new.buffer in
    let room : length buffer ≡ 4096 = search rules in
    let long : length (take count buffer) ≡ count = length-take-le count buffer c.in_ok-count.ensures.within in
    sector_read known mid (take count buffer) c.first_sector.result c.in_ok-count.ensures.bytes (λ less. c.in_ok-count.ensures.end (omega (arith, less, long, room))) c.first_sector.ensures

pub returns-clause-bins : goal.returns-clause-bins
returns-clause-bins g c =
    let known = g.R.Read.remaining c.args.reader.now in
    let count = c.in_ok-count.count in
    let buffer = c.fill.new.buffer in
    let room : length buffer ≡ 4096 = search rules in
    let long : length (take count buffer) ≡ count = length-take-le count buffer c.in_ok-count.ensures.within in
    c.in_ok-bins.ensures known c.in_ok-count.ensures.bytes (λ less. c.in_ok-count.ensures.end (omega (arith, less, long, room)))
