-- Each step keeps it: what a read gives is one of the contents that a crash may leave.
use Rattle.std.proofs.Common.{inl, inr, ℕ, ◌<◌, List, length, sym, ◌∙◌, subst, arith}
use Rattle.disk_model.specs.FileState.{FileState, IsSound, put, resized, PutsPart, after_write, after_cut, Writes, Cuts, MayCut}
use Rattle.disk_model.proofs.Put.{length-resized, get_or-resized, get_or-put_outside}
use Rattle.disk_model.proofs.Steps.{puts_all}

pub sound-after_write : (old : FileState) (offset : ℕ) (bytes seen : List ℕ) → IsSound old → PutsPart offset bytes old.seen seen → IsSound (after_write old offset bytes seen)
sound-after_write old offset bytes seen sound puts = record {
  left = record {
    no_shorter = omega (arith, sound.left.no_shorter, puts.no_shorter);
    no_longer = omega (arith, puts.no_longer);
    kept = λ p below free. let in_seen : p < length old.seen = omega (arith, sound.left.no_shorter) in
        puts.elsewhere p (omega (arith, puts.no_shorter)) (λ covers. free (inl covers))
        ∙ get_or-put_outside old.seen offset bytes p in_seen (λ covers. free (inl covers))
        ∙ sound.left.kept p below (λ written. free (inr written));
  };
  was_longer = sound.was_longer;
  was_no_longer = omega (arith, sound.was_no_longer);
}

pub sound-writes : (old new : FileState) (offset : ℕ) (bytes : List ℕ) → IsSound old → Writes offset bytes old new → IsSound new
sound-writes old new offset bytes sound done =
    subst IsSound (sym done) (sound-after_write old offset bytes (put old.seen offset bytes) sound (puts_all old.seen offset bytes))

sound-after_cut_seen : (old : FileState) (len : ℕ) → IsSound old → IsSound (after_cut old len old.seen)
sound-after_cut_seen old len sound = record {
  left = record {
    no_shorter = omega (arith, sound.left.no_shorter);
    no_longer = omega (arith, sound.left.no_longer);
    kept = λ p below free. sound.left.kept p (omega arith) free;
  };
  was_longer = omega (arith, sound.was_longer);
  was_no_longer = omega (arith, sound.was_no_longer);
}

sound-after_cut_resized : (old : FileState) (len : ℕ) → IsSound old → IsSound (after_cut old len (resized old.seen len))
sound-after_cut_resized old len sound = record {
  left = record {
    no_shorter = omega (arith, length-resized old.seen len);
    no_longer = omega (arith, length-resized old.seen len);
    kept = λ p below free. get_or-resized old.seen len p 0 (omega arith) (omega (arith, sound.left.no_shorter)) ∙ sound.left.kept p (omega arith) free;
  };
  was_longer = omega (arith, sound.was_longer);
  was_no_longer = omega (arith, sound.was_no_longer);
}

pub sound-cuts : (old new : FileState) (len : ℕ) → IsSound old → Cuts len old new → IsSound new
sound-cuts old new len sound done = subst IsSound (sym done) (sound-after_cut_resized old len sound)

pub sound-may_cut : (old new : FileState) (len : ℕ) → IsSound old → MayCut len old new → IsSound new
sound-may_cut old new len sound (inl same) = subst IsSound (sym same) sound
sound-may_cut old new len sound (inr (seen, inl stays, is)) = subst IsSound (sym is) (subst (λ (s : List ℕ). IsSound (after_cut old len s)) (sym stays) (sound-after_cut_seen old len sound))
sound-may_cut old new len sound (inr (seen, inr shorter, is)) = subst IsSound (sym is) (subst (λ (s : List ℕ). IsSound (after_cut old len s)) (sym shorter) (sound-after_cut_resized old len sound))
