use Rattle.std.proofs.Common.{◌≡◌, ◌*◌, ◌/◌, ◌%◌, inl, inr, ⊎_elim, arith, refl, length}
use Rattle.std.proofs.lemmas.Bool.{cases_lt, false_from_ne_true, eqb-true, and_parts}
use Rattle.dirty_vector.specs.Pages.{is_dirty}
use Rattle.dirty_vector.proofs.Alike.{true_false}
use Rattle.dirty_vector.proofs.page_diff.mark_changes.Goals as goal

pub mark_differing-requires-clause-whole : goal.mark_differing-requires-clause-whole
mark_differing-requires-clause-whole c = omega (arith, c.requires.old_size, c.bins_size.ensures.whole, c.bins_size.ensures.value)

pub returns-clause-marks : goal.returns-clause-marks
returns-clause-marks c =
    let old = c.args.pages.now in
    let grown = c.grow.new.self in
    let new = c.mark_differing.new.pages in
    let whole : length c.args.new.now % 4096 ≡ 0 = eqb-true (length c.args.new.now % 4096) 0 (and_parts _ _ (and_parts _ _ c.requires.new_size).0).0 in
    let sizes : new.bins_size ≡ grown.bins_size = c.mark_differing.ensures.size in
    record {
      whole = omega (arith, sizes, c.grow.ensures.size, whole);
      within = λ page lt clean. ⊎_elim (λ below. below) (λ past. absurd (true_false (is_dirty grown page)
          ((c.grow.ensures.pages page).1 (inr (512 * page, omega (arith, past), omega (arith, lt, sizes, c.grow.ensures.size), omega arith)))
          (c.mark_differing.ensures.kept page clean)))
          (cases_lt page (old.bins_size / 512));
      kept = λ page clean. false_from_ne_true _ (λ dirty. true_false (is_dirty grown page) ((c.grow.ensures.pages page).1 (inl dirty)) (c.mark_differing.ensures.kept page clean));
      same = λ i lt clean. ⊎_elim (λ below. c.mark_differing.ensures.same i below clean) (λ past. absurd (true_false (is_dirty grown (i / 512))
          ((c.grow.ensures.pages (i / 512)).1 (inr (i, omega (arith, past, c.requires.old_size), omega (arith, lt, sizes, c.grow.ensures.size), refl)))
          (c.mark_differing.ensures.kept (i / 512) clean)))
          (cases_lt i (length c.args.old.now));
    }
