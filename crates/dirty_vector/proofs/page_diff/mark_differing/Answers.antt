use Rattle.std.proofs.Common.{◌≡◌, ℕ, ◌/◌, false, ⊎_elim, subst, arith, rules}
use Rattle.std.proofs.lemmas.Bool.{cases_eq}
use Rattle.dirty_vector.specs.Pages.{is_dirty}
use Rattle.dirty_vector.proofs.Alike.{alike_in_page}
use Rattle.dirty_vector.proofs.page_diff.mark_differing.Goals as goal

pub pages-preserved : goal.pages-preserved
pages-preserved c =
    let new = c.mark_page.new.pages in
    record {
      size = search rules;
      within = omega (arith, c.pages-test.true);
      kept = λ page clean. c.pages.invariant.kept page (c.mark_page.ensures.kept page clean);
      same = λ i lt clean. ⊎_elim
          (λ here. alike_in_page c.args.old.now c.args.new.now c.pages.page i here
          (c.mark_page.ensures.same (subst (λ (p : ℕ). is_dirty new p ≡ false) here clean)))
          (λ other. c.pages.invariant.same i (omega (arith, lt, other)) (c.mark_page.ensures.kept (i / 512) clean))
          (cases_eq (i / 512) c.pages.page);
    }
