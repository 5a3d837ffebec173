use Rattle.std.proofs.Common.{◌≡◌, ℕ, ◌+◌, ◌*◌, ◌-◌, List, take, drop, ap, sym, ◌∙◌, arith}
use Rattle.std.proofs.lemmas.Bool.{not-false}
use Rattle.std.proofs.lemmas.Slice.Eq.{bytes_eq-Decides}
use Rattle.dirty_vector.proofs.page_diff.mark_page.Goals as goal

pub returns-else-ne-clause-same : goal.returns-else-ne-clause-same
returns-else-ne-clause-same c = λ clean.
    let start = 512 * c.args.page in
    let long : start + 512 - start ≡ 512 = omega arith in
    let part : (l : List ℕ) → take (start + 512 - start) (drop start l) ≡ take 512 (drop start l) = λ l. ap (λ (n : ℕ). take n (drop start l)) long in
    sym (part c.args.new.now) ∙ sym ((bytes_eq-Decides _ _).0 (not-false _ (sym c.if-ne.ensures))) ∙ part c.args.old.now
