use Rattle.std.proofs.Common.{ℕ, sym, ap}
use Rattle.reg_tree.specs.Maps.{TreeMap}
use Rattle.hive_flush.specs.HiveStates.{durable_of, memory_of}
use Rattle.hive_flush.proofs.Going.{now_stands, same_pair}
use Rattle.hive_flush.proofs.hive.HiveFile.applied.Goals as goal

pub returns : goal.returns
returns c =
    let f = c.args.self.now in
    ap (λ (x : TreeMap × ℕ). x.1) (sym (now_stands f.writer.stage (durable_of f) (memory_of f) (λ not. same_pair f.held.value f.tree f.writer.base f.writer.block (f.steady not).1 (f.steady not).0)))
