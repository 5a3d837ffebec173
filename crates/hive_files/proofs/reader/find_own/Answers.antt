use Rattle.std.proofs.Common.{◌+◌, ◌<◌, ℕ, List, length, drop, inr, refl, sym, ap, subst, arith, rules}
use Rattle.std.proofs.lemmas.List.{length-take, length-drop}
use Rattle.refusals.specs.declared.refusal.Refusal.{Refusal}
use Rattle.hive_files.specs.Contents.{IsHiveRefusal}
use Rattle.hive_files.proofs.reader.find_own.Goals as goal

pub returns-then-len-size-clause-fails : goal.returns-then-len-size-clause-fails
returns-then-len-size-clause-fails g c = inr (inr (
  subst (λ (r : Refusal). IsHiveRefusal r) (sym c.from.ensures) refl,
  λ faithful.
      let seen = (g.D.Disk.state_at c.args.disk.now (g.D.Disk.clock c.args.disk.now) c.args.file).seen in
      let size = c.args.block.bins_size in
      let bytes = ap (λ (l : List ℕ). length l) (c.in-Ok-read_part.ensures.bytes faithful) in
      let short : length seen < 4096 + size = omega (arith, bytes, length-take size (drop 4096 seen), length-drop 4096 seen, c.len.ensures, c.if-len-size.true) in
      record { none = λ judged long. omega (arith, short, long); tells = inr (c.from.ensures, c.in-Ok.ensures.ok.0 (search rules), short) },
))

pub returns-clause-bins : goal.returns-clause-bins
returns-clause-bins g c = λ faithful.
    let seen = (g.D.Disk.state_at c.args.disk.now (g.D.Disk.clock c.args.disk.now) c.args.file).seen in
    let size = c.args.block.bins_size in
    let judged = c.in-Ok.ensures.ok.0 (search rules) in
    let bytes = c.in-Ok-read_part.ensures.bytes faithful in
    record {
      long = omega (arith, ap (λ (l : List ℕ). length l) bytes, length-take size (drop 4096 seen), length-drop 4096 seen, c.len.ensures, c.if-len-size.false, judged.0.bins_size.1);
      part = bytes;
    }
