use Rattle.std.proofs.Common.{◌≡◌, inr, ℕ, ◌≤◌, List, length, ap, subst, arith}
use Rattle.std.specs.Io.{appended_bytes}
use Rattle.std.specs.Io.KnownBytes.{Consumes}
use Rattle.hive_file_reader.specs.Hives.{FileHasBlock, FileLacksBins, IsFilePrefix}
use Rattle.hive_file_reader.proofs.Files.{read_whole}
use Rattle.hive_file_reader.proofs.Fronts.{enough_refused, enough_read, read_twice, block_stays}
use Rattle.hive_file_reader.proofs.file.read_file.Goals as goal

pub returns-in_default-clause-front : goal.returns-in_default-clause-front
returns-in_default-clause-front g c =
    let known = g.R.Read.remaining c.args.reader.now in
    let now = g.R.Read.remaining c.append_part.new.reader in
    let head = c.append_part.new.bytes.items in
    let why = c.in_default.field-0 in
    let same : c.deref.result.now ≡ head = cc in
    enough_refused known now head why
    (subst (λ (l : List ℕ). Consumes known now (appended_bytes l head)) c.new-front.ensures.items c.in_ok-append_part.ensures.bytes)
    (λ less. c.in_ok-append_part.ensures.end (omega (arith, less, ap (λ (l : List ℕ). length l) c.new-front.ensures.items)))
    (subst (λ (l : List ℕ). (file : List ℕ) → IsFilePrefix l file → FileLacksBins file why) same c.in_default.ensures)

pub returns-in_default-clause-rest : goal.returns-in_default-clause-rest
returns-in_default-clause-rest g c =
    let known = g.R.Read.remaining c.args.reader.now in
    let now = g.R.Read.remaining c.append_part.new.reader in
    subst (λ (l : List ℕ). Consumes known now (appended_bytes l c.append_part.new.bytes.items)) c.new-front.ensures.items c.in_ok-append_part.ensures.bytes

pub returns-clause-front : goal.returns-clause-front
returns-clause-front g c =
    let known = g.R.Read.remaining c.args.reader.now in
    let mid = g.R.Read.remaining c.append_part.new.reader in
    let now = g.R.Read.remaining c.append_part-2.new.reader in
    let head = c.append_part.new.bytes.items in
    let front = c.append_part-2.new.bytes.items in
    let block = c.in-Ok.block in
    let same : c.deref.result.now ≡ head = cc in
    let told = subst (λ (l : List ℕ). (file : List ℕ) → IsFilePrefix l file → FileHasBlock file block × (4096 ≤ length l)) same c.in-Ok.ensures in
    let whole : 4096 ≤ length head = read_whole head block told in
    let read = subst (λ (l : List ℕ). Consumes known mid (appended_bytes l head)) c.new-front.ensures.items c.in_ok-append_part.ensures.bytes in
    enough_read known now front block
    (read_twice known mid now head front read c.in_ok-append_part-2.ensures.appends c.in_ok-append_part-2.ensures.bytes)
    (block_stays head front block told c.in_ok-append_part-2.ensures.appends)
    (λ less. c.in_ok-append_part-2.ensures.end (omega (arith, less, whole)))

pub returns-clause-within : goal.returns-clause-within
returns-clause-within g c =
    let head = c.append_part.new.bytes.items in
    let front = c.append_part-2.new.bytes.items in
    let block = c.in-Ok.block in
    let same : c.deref.result.now ≡ head = cc in
    let told = subst (λ (l : List ℕ). (file : List ℕ) → IsFilePrefix l file → FileHasBlock file block × (4096 ≤ length l)) same c.in-Ok.ensures in
    let most : length head ≤ 4096 = omega (arith, c.in_ok-append_part.ensures.within, ap (λ (l : List ℕ). length l) c.new-front.ensures.items) in
    inr (block, block_stays head front block told c.in_ok-append_part-2.ensures.appends, omega (arith, most, c.in_ok-append_part-2.ensures.within))

pub returns-clause-rest : goal.returns-clause-rest
returns-clause-rest g c =
    let known = g.R.Read.remaining c.args.reader.now in
    let mid = g.R.Read.remaining c.append_part.new.reader in
    let now = g.R.Read.remaining c.append_part-2.new.reader in
    let head = c.append_part.new.bytes.items in
    let read = subst (λ (l : List ℕ). Consumes known mid (appended_bytes l head)) c.new-front.ensures.items c.in_ok-append_part.ensures.bytes in
    read_twice known mid now head c.append_part-2.new.bytes.items read c.in_ok-append_part-2.ensures.appends c.in_ok-append_part-2.ensures.bytes
