-- Each of the three crashes leaves what a crash may leave.
use Rattle.std.proofs.Common.{◌≡◌, inl, inr, ⊎_elim, ℕ, ◌+◌, ◌-◌, ◌<◌, ◌≤◌, Bool, true, false, List, [], ◌∷◌, length, get_or, refl, sym, ◌∙◌, ap, subst, arith}
use Rattle.std.specs.Prelude.{◌&&◌, nat_le, nat_lt, if◌then◌else◌}
use Rattle.std.proofs.lemmas.Bool.{cases_lt}
use Rattle.std.proofs.lemmas.Bool.Decides.{nat_tests}
use Rattle.disk_model.specs.FileState.{WrittenRange, FileState, Covers, IsWritten, Leaves, IsSound}
use Rattle.disk_model.specs.Tear.{ends_newest, IsTorn, LeftBy, IsCrashOf}
use Rattle.disk_model.specs.declared.tear.Tear.{Tear}
use Rattle.disk_model.specs.declared.tear.Tear.TheVariants.{Old, New, Torn}

pub uncovered : (range : WrittenRange) (p : ℕ) → (Covers range p → ⊥) → (nat_le range.from p && nat_lt p (range.from + length range.bytes)) ≡ false
uncovered range p out = ⊎_elim before (λ from. behind (⊎_elim (λ lt. absurd (out (from, lt))) (λ le. le) (cases_lt p (range.from + length range.bytes)))) (cases_lt p range.from)
  where
    before : p < range.from → (nat_le range.from p && nat_lt p (range.from + length range.bytes)) ≡ false
    before lt = grind (arith, nat_tests)

    behind : range.from + length range.bytes ≤ p → (nat_le range.from p && nat_lt p (range.from + length range.bytes)) ≡ false
    behind le = grind (arith, nat_tests)

ends_newest-free : (ranges : List WrittenRange) (p : ℕ) → (IsWritten ranges p → ⊥) → ends_newest ranges p ≡ false
ends_newest-free [] p free = refl
ends_newest-free (range ∷ ranges) p free = rw (uncovered range p (λ covers. free (inl covers))) (ends_newest-free ranges p (λ written. free (inr written)))

leaves_of_torn : (file : FileState) (bytes : List ℕ) → IsSound file → IsTorn file bytes → Leaves file bytes
leaves_of_torn file bytes sound torn = record {
  no_shorter = omega (arith, torn.size, sound.left.no_shorter);
  no_longer = omega (arith, torn.size, sound.left.no_longer);
  kept = λ p below free. let in_seen : p < length file.seen = omega (arith, sound.left.no_shorter) in
      torn.each p in_seen
      ∙ ap (λ (b : Bool). if b then 255 - get_or file.seen p 0 else get_or file.seen p 0) (ends_newest-free file.ranges p free)
      ∙ sound.left.kept p below free;
}

leaves_of_left : (tear : Tear) (file : FileState) (bytes : List ℕ) → IsSound file → LeftBy tear file bytes → Leaves file bytes
leaves_of_left Old file bytes sound left = subst (Leaves file) (sym left) (record { no_shorter = sound.was_longer; no_longer = sound.was_no_longer; kept = λ p below free. refl })
leaves_of_left New file bytes sound left = subst (Leaves file) (sym left) sound.left
leaves_of_left Torn file bytes sound left = leaves_of_torn file bytes sound left

pub leaves_of_crash : (tear : Tear) (old new : FileState) → IsSound old → IsCrashOf tear old new → Leaves old new.seen
leaves_of_crash tear old new sound crash = subst (λ (s : FileState). Leaves old s.seen) (sym crash.2) (leaves_of_left tear old crash.0 sound crash.1)

pub covered : (range : WrittenRange) (p : ℕ) → Covers range p → (nat_le range.from p && nat_lt p (range.from + length range.bytes)) ≡ true
covered range p covers =
    let from : range.from ≤ p = covers.0 in
    let below : p < range.from + length range.bytes = covers.1 in
    grind (arith, nat_tests)
