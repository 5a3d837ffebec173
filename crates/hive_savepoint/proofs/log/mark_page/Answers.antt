use Rattle.std.proofs.Common.{◌≡◌, ℕ, ◌+◌, ◌*◌, ◌-◌, List, take, drop, ap, sym, ◌∙◌, arith}
use Rattle.std.proofs.lemmas.Bool.{not-false}
use Rattle.std.proofs.lemmas.Slice.Eq.{bytes_eq-Decides}
use Rattle.hive_savepoint.proofs.log.mark_page.Goals as goal

pub returns-else-ne-clause-same : goal.returns-else-ne-clause-same
returns-else-ne-clause-same c = λ clean.
    let long : (from : ℕ) → from + 512 - from ≡ 512 = λ from. omega arith in
    let part : (from : ℕ) (l : List ℕ) → take (from + 512 - from) (drop from l) ≡ take 512 (drop from l) = λ from l. ap (λ (n : ℕ). take n (drop from l)) (long from) in
    sym (part (512 * c.args.page) c.args.now.now) ∙ (bytes_eq-Decides _ _).0 (not-false _ (sym c.if-ne.ensures)) ∙ part (512 * c.args.place) c.args.saved.now
