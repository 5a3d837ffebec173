use Rattle.std.proofs.Common.{◌≡◌, ◌%◌, ◌/◌, ◌≤◌, ℕ, length, ap, sym, ◌∙◌, arith, rules}
use Rattle.std.specs.Prelude.{replicate}
use Rattle.std.proofs.lemmas.Bool.{le-leb, eq-eqb, and_from}
use Rattle.refusals.specs.declared.limits.TheConstants.{MOST_BINS_BYTES}
use Rattle.dirty_vector.proofs.vector.blank_words.Goals as goal

pub returns-clause-ok : goal.returns-clause-ok
returns-clause-ok c =
    let words = c.in_ok-vec.field-0 in
    let long : length words.items ≡ MOST_BINS_BYTES / 512 / 64 = omega (arith, c.in_ok-vec.ensures.len, words.ok.0) in
    let pages : c.args.bins_size % 4096 ≡ 0 = search rules in
    let most : c.args.bins_size ≤ MOST_BINS_BYTES = c.if-bins_size-gt-MOST_BINS_BYTES.false in
    record {
      good = and_from _ _ (and_from _ _ (eq-eqb _ 0 pages) (le-leb 4096 _ c.if-bins_size-lt-BIN_BYTES.false)) (le-leb _ MOST_BINS_BYTES most);
      room = omega arith;
      long = long;
      zeros = c.in_ok-vec.ensures.items_if_clones_equal (search rules) ∙ ap (λ (n : ℕ). replicate n 0) (sym long);
    }
