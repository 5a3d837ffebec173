use Rattle.std.proofs.Common.{◌≡◌, ◌∙◌, ◌≤◌, ◌-◌, ◌++◌, ℕ, List, length, min, take, drop, ap, sym, arith}
use Rattle.std.proofs.lemmas.List.{length-drop}
use Rattle.salvage_report.proofs.OpenedBins.{front, nothing_after}
use Rattle.salvage_report.proofs.damaged_hive.bins_of.Goals as goal

pub returns-then-len-le-HEAD_BYTES : goal.returns-then-len-le-HEAD_BYTES
returns-then-len-le-HEAD_BYTES c =
    let l = c.args.file.items in
    let short : length l ≤ 4096 = omega (arith, c.if-len-le-HEAD_BYTES.true, c.len.ensures) in
    c.clear.ensures.items ∙ sym (nothing_after 4096 c.args.size l short)

pub returns : goal.returns
returns c =
    let l = c.args.file.items in
    let size = c.args.size in
    let count : c.min.result ≡ min (length (drop 4096 l)) size = c.min.ensures ∙ ap (λ (n : ℕ). min n size) (omega (arith, c.len-there.ensures, length-drop 4096 l)) in
    c.truncate.ensures.items ∙ (ap (λ (n : ℕ). take n c.rotate_left.new.self.items) count ∙ (ap (take (min (length (drop 4096 l)) size)) c.rotate_left.ensures.items ∙ front (drop 4096 l) (take 4096 l) size))
