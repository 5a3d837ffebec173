use Rattle.std.proofs.Common.{ℕ, List, ◌++◌, length, ap, ◌∙◌}
use Rattle.std.proofs.lemmas.Result.{on_ok_weaker}
use Rattle.base_block.specs.Layout.{zeros}
use Rattle.hive_files.proofs.Anew.{base_long, rested}
use Rattle.hive_files.proofs.creation.write_anew.Goals as goal

pub returns-clause-made : goal.returns-clause-made
returns-clause-made g c = on_ok_weaker c.sync.result (λ syncs faithful.
    let sector = c.sector.result in
    let appended = c.sync.ensures.faithful faithful in
    let base = c.in_ok-write_base.ensures.seen (c.in_ok-append.ensures.faithful appended) in
    let long = ap (λ (l : List ℕ). length l) base ∙ base_long sector c.sector.ensures.long in
    let seen = c.in_ok-append.ensures.seen appended long ∙ ap (λ (l : List ℕ). l ++ c.args.bins.now) (base ∙ ap (λ (l : List ℕ). l ++ zeros 3584) c.sector.ensures.encoding) in
    let old = g.D.Disk.state_at c.append.new.disk (g.D.Disk.clock c.append.new.disk) c.args.file in
    let new = g.D.Disk.state_at c.sync.new.self (g.D.Disk.clock c.sync.new.self) c.args.file in
    rested _ old new seen (syncs faithful)) c.sync.ensures.synced
