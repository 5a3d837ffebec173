use Rattle.std.proofs.Common.{◌≡◌, ℕ, ◌<◌, true, length, slice_index}
use Rattle.commit_outcomes.specs.Units.{is_text_unit}
use Rattle.commit_outcomes.proofs.units.lower_text.Given as goal

abbrev pub invariant-loop-place : goal.invariant-loop-place
invariant-loop-place l = record {
  long : length l.bytes ≡ 36;
  same : (k : ℕ) → k < l.place → slice_index l.bytes k ≡ slice_index l.text k;
  pass : (k : ℕ) → k < l.place → is_text_unit (slice_index l.text k) ≡ true;
}
