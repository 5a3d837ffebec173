-- Each step of a disk in memory is done whole.
use Rattle.std.proofs.Common.{◌≡◌, ⊎_elim, ℕ, ◌+◌, ◌-◌, ◌<◌, Bool, List, ◌∷◌, length, get_or, sym, ◌∙◌, ap, subst, arith}
use Rattle.std.specs.Prelude.{if◌then◌else◌}
use Rattle.std.proofs.lemmas.Bool.{cases_lt}
use Rattle.disk_model.specs.FileState.{WrittenRange, FileState, Covers, IsSound, put, Writes}
use Rattle.disk_model.specs.ReadGives.{shown, ReadGivesLastWrites}
use Rattle.disk_model.proofs.Put.{get_or-put_outside, get_or-put_inside}
use Rattle.disk_model.proofs.Left.{uncovered, covered}

pub whole-writes : (old new : FileState) (offset : ℕ) (bytes : List ℕ) → IsSound old → ReadGivesLastWrites old → Writes offset bytes old new → ReadGivesLastWrites new
whole-writes old new offset bytes sound whole done = subst ReadGivesLastWrites (sym done) after
  where
    range : WrittenRange
    range = record { from = offset; bytes = bytes }

    after : (p : ℕ) → p < old.least → get_or (put old.seen offset bytes) p 0 ≡ shown (range ∷ old.ranges) old.synced p
    after p below = ⊎_elim
        (λ lt. outside (λ covers. omega (arith, covers.0)))
        (λ from. ⊎_elim (λ lt. inside (from, lt)) (λ past. outside (λ covers. omega (arith, covers.1))) (cases_lt p (offset + length bytes)))
        (cases_lt p offset)
      where
        inside : Covers range p → get_or (put old.seen offset bytes) p 0 ≡ shown (range ∷ old.ranges) old.synced p
        inside covers = get_or-put_inside old.seen offset bytes p covers.0 covers.1 ∙ ap (λ (b : Bool). if b then get_or bytes (p - offset) 0 else shown old.ranges old.synced p) (sym (covered range p covers))

        outside : (Covers range p → ⊥) → get_or (put old.seen offset bytes) p 0 ≡ shown (range ∷ old.ranges) old.synced p
        outside out = get_or-put_outside old.seen offset bytes p (omega (arith, sound.left.no_shorter)) out ∙ whole p below ∙ ap (λ (b : Bool). if b then get_or bytes (p - offset) 0 else shown old.ranges old.synced p) (sym (uncovered range p out))
