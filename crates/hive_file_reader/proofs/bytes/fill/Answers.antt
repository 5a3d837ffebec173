use Rattle.std.proofs.Common.{◌≡◌, ℕ, ◌+◌, ◌-◌, ◌≤◌, List, ◌++◌, rules, arith, length, take, slice_range, sym, ap, ◌∙◌, subst, le_refl, drop_at, length-take-le}
use Rattle.std.proofs.lemmas.Slice.{take-put_mid_below}
use Rattle.std.specs.Io.KnownBytes.{Consumes}
use Rattle.std.proofs.KnownBytes.{Consumes-trans, Consumes-kept}
use borrow.Rule.Slice.PartMut.{put_mid, post_of}
use lib.Seq.{take-add, take-append-le}
use Rattle.hive_file_reader.proofs.bytes.fill.Goals as goal
use Rattle.hive_file_reader.proofs.bytes.fill.Goals.{in-Ok, in-Err+else-ne}

take_split : (a b : ℕ) (old new : List ℕ) → a ≤ b → take a new ≡ take a old → take a old ++ slice_range new a b ≡ take b new
take_split a b old new h front =
    let same : a + (b - a) ≡ b = omega arith in
    ap (λ l. l ++ slice_range new a b) (sym front) ∙ sym (take-add a (b - a) new) ∙ ap (λ n. take n new) same

slice_range-put_mid : (a k n : ℕ) (xs ys : List ℕ) → a ≤ length xs → n ≤ length ys → slice_range (put_mid a k xs ys) a (a + n) ≡ take n ys
slice_range-put_mid a k n xs ys within fits =
    let same : (a + n) - a ≡ n = omega arith in
    let after = post_of a k xs in
    ap (take ((a + n) - a)) (drop_at (take a xs) (ys ++ after) a (length-take-le a xs within)) ∙ ap (λ m. take m (ys ++ after)) same ∙ take-append-le n ys after fits

pub reads-preserved : goal.reads-preserved
reads-preserved g c =
    let from = c.reads.count in
    let room = length c.reads.buffer - from in
    let within = c.reads.invariant.within in
    let new = put_mid from room c.reads.buffer c.read.new.buf in
    elim c.match-read.branch [
      | in-Ok w ↦
          let part = slice_range-put_mid from room w.in-Ok.more c.reads.buffer c.read.new.buf within w.in-Ok.ensures.bound.0 in
          let joined = take_split from (from + w.in-Ok.more) c.reads.buffer new (omega arith) (take-put_mid_below _ _ _ _ _ (le_refl _) within) in
          record {
            size = search rules;
            within = search rules;
            bytes = subst (λ (n : ℕ). Consumes (g.R.Read.remaining c.args.reader.now) (g.R.Read.remaining c.read.new.self) (take n new)) (sym w.count-is)
                (subst (Consumes _ _) (ap (λ l. take from c.reads.buffer ++ l) (sym part) ∙ joined) (Consumes-trans _ _ _ _ _ c.reads.invariant.bytes w.in-Ok.ensures.bytes.0));
          }
      | in-Err+else-ne w ↦ record {
        size = search rules;
        within = search rules;
        bytes = subst (λ (n : ℕ). Consumes (g.R.Read.remaining c.args.reader.now) (g.R.Read.remaining c.read.new.self) (take n new)) (sym w.count-is)
            (subst (Consumes _ _) (sym (take-put_mid_below _ _ _ _ _ (le_refl _) within)) (Consumes-kept _ _ _ _ c.reads.invariant.bytes w.in-Err.ensures.bytes));
      }
    ]
