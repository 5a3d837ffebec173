use Rattle.std.proofs.Common.{◌≡◌, ◌≤◌, ℕ, List, length, refl, sym, ap, subst, ◌∙◌, arith}
use Rattle.base_block.specs.declared.block.TheConstants.{MINOR_VERSION}
use Rattle.dirty_vector.specs.Changes.{ChangesAreMarked}
use Rattle.hive_cells.specs.Bins.{Bins}
use Rattle.hive_emit.specs.Forms.{IsFormed}
use Rattle.hive_load.specs.Limits.{BinsEncodeTreeInLimits}
use Rattle.hive_flush.proofs.renewal.in_written_version.Goals as goal

pub returns-then-block-eq-MINOR_VERSION-clause-made : goal.returns-then-block-eq-MINOR_VERSION-clause-made
returns-then-block-eq-MINOR_VERSION-clause-made c =
    let block = c.args.block.now in
    let same : block.minor ≡ MINOR_VERSION = c.if-block-eq-MINOR_VERSION.true in
    record {
      stands = subst (λ (m : ℕ). BinsEncodeTreeInLimits c.args.image.bytes block.root m c.args.tree.now) same c.requires.stands;
      size = c.requires.size;
      marks = record {
        whole = omega (arith, c.bins_size.ensures.whole, c.bins_size.ensures.value);
        within = λ page lt off. lt;
        kept = λ page off. off;
        same = λ i lt off. refl;
      };
      kept = λ version. (refl, refl, refl);
      renewed = λ other. absurd (other same);
    }

pub returns-clause-made : goal.returns-clause-made
returns-clause-made c =
    let tree = c.args.tree.now in
    let old = c.args.image.bytes in
    let made = c.in_ok-made.made.image.bytes in
    let root = c.in_ok-made.made.root in
    let lent = c.bytes-2.follows.lender-at-none.bytes in
    let before = c.args.pages.now in
    let pages = c.mark_changes.new.pages in
    let same : lent ≡ made = ap (λ (b : Bins). b.bytes) c.bytes-2.follows.holds-at-none in
    let shown : c.bytes-2.result.now ≡ lent = c.bytes-2.ensures.all ∙ sym same in
    record {
      stands = subst (λ (l : List ℕ). BinsEncodeTreeInLimits l root MINOR_VERSION tree) (sym same) c.in_ok-made.ensures.stands;
      size = ap (λ (l : List ℕ). length l) (sym shown) ∙ sym c.mark_changes.ensures.size;
      marks = subst (λ (l : List ℕ). ChangesAreMarked old before l pages) shown (subst (λ (l : List ℕ). ChangesAreMarked l before c.bytes-2.result.now pages) c.bytes.ensures.all c.mark_changes.ensures.marks);
      kept = λ version. absurd (c.if-block-eq-MINOR_VERSION.false version);
      renewed = λ other. (omega (arith, c.in_ok-made.ensures.least, c.len.ensures, ap (λ (l : List ℕ). length l) same), subst (λ (l : List ℕ). IsFormed l root tree) (sym same) c.in_ok-made.ensures.formed);
    }
