-- What a sync has to copy.
use Rattle.std.proofs.Common.{◌≡◌, ◌⊎◌, inl, inr, ⊎_elim, ℕ, ◌<◌, List, [], ◌∷◌, ◌++◌, length, get_or, ◌∙◌, subst, arith}
use Rattle.std.specs.Prelude.{reverse}
use Rattle.std.proofs.lemmas.List.{same_lists, get_or_default, reverse-append}
use Rattle.disk_model.specs.FileState.{WrittenRange, FileState, IsWritten, IsSound}
use Rattle.disk_model.specs.PendingWrites.{IsApart}

written-append : (a b : List WrittenRange) (p : ℕ) → IsWritten (a ++ b) p → IsWritten a p ⊎ IsWritten b p
written-append [] b p here = inr here
written-append (range ∷ a) b p (inl here) = inl (inl here)
written-append (range ∷ a) b p (inr there) = ⊎_elim (λ in_a. inl (inr in_a)) (λ in_b. inr in_b) (written-append a b p there)

written-reverse : (ranges : List WrittenRange) (p : ℕ) → IsWritten (reverse ranges) p → IsWritten ranges p
written-reverse [] p here = here
written-reverse (range ∷ ranges) p here =
    ⊎_elim (λ behind. inr (written-reverse ranges p behind)) (λ first. ⊎_elim (λ covers. inl covers) (λ none. absurd none) first)
    (written-append (reverse ranges) (range ∷ []) p (subst (λ (l : List WrittenRange). IsWritten l p) (reverse-append (range ∷ []) ranges) here))

-- what a sound file was synced with differs from what a read gives only at offsets that were
-- written since
pub apart_of_sound : (file : FileState) (ranges : List WrittenRange) → file.ranges ≡ reverse ranges → IsSound file → IsApart ranges file.least file.synced file.seen
apart_of_sound file ranges is sound = record {
  in_synced = sound.was_longer;
  in_seen = sound.left.no_shorter;
  same = λ p below free. sound.left.kept p below (λ written. free (written-reverse ranges p (subst (λ (l : List WrittenRange). IsWritten l p) is written)));
}

-- once all of that is copied
pub caught_up : (synced seen : List ℕ) → length synced ≡ length seen → ((p : ℕ) → p < length seen → get_or synced p 0 ≡ get_or seen p 0) → synced ≡ seen
caught_up synced seen size same =
    same_lists synced seen size (λ k d h. get_or_default synced k d 0 h ∙ same k (omega (arith, size)) ∙ get_or_default seen k 0 d (omega (arith, size)))
