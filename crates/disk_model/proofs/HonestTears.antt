-- Each of the three crashes leaves an honest first sector, if first sectors are written by themselves and with the
-- right sum.
use Rattle.std.proofs.Common.{◌≡◌, ◌⊎◌, inl, inr, ℕ, zero, suc, ◌+◌, ◌-◌, ◌*◌, ◌<◌, ◌≤◌, Bool, true, false, List, [], ◌∷◌, length, get_or, take, refl, sym, ◌∙◌, ap, subst, arith, length-take}
use Rattle.std.specs.Prelude.{Some, if◌then◌else◌, ◌==◌, ◌&&◌, nat_le, nat_lt, bit_xor}
use Rattle.std.proofs.lemmas.Bool.Decides.{nat_tests}
use Rattle.std.proofs.lemmas.List.{same_lists, get_or-take, get_or_default, take_all}
use Rattle.disk_model.specs.FileState.{WrittenRange, FileState, IsSound}
use Rattle.disk_model.specs.Sector.{word_at, xor_of_words, stored, sum_of, HasRightSum, last_sector, IsHonest}
use Rattle.disk_model.specs.ReadGives.{shown, ReadGivesLastWrites}
use Rattle.disk_model.specs.Tear.{ends_newest, torn_byte, LeftBy, IsCrashOf, AllWholeSectors, WritesWholeSectors}
use Rattle.disk_model.specs.declared.tear.Tear.{Tear}
use Rattle.disk_model.specs.declared.tear.Tear.TheVariants.{Old, New, Torn}
use Rattle.disk_model.proofs.Left.{uncovered, covered}

-- no range has a byte of the first sector
record NoSector (ranges : List WrittenRange) (synced : List ℕ) : Type 0 where
  shows : (p : ℕ) → p < 512 → shown ranges synced p ≡ get_or synced p 0
  ends : (p : ℕ) → p < 512 → ends_newest ranges p ≡ false

-- the newest range that has one is this sector
record HasSector (ranges : List WrittenRange) (synced sector : List ℕ) : Type 0 where
  last : last_sector ranges ≡ Some sector
  size : length sector ≡ 512
  right : HasRightSum sector
  shows : (p : ℕ) → p < 512 → shown ranges synced p ≡ get_or sector p 0
  ends : (p : ℕ) → p < 512 → ends_newest ranges p ≡ (p + 1 == 512)

first_sector : (ranges : List WrittenRange) (synced : List ℕ) → AllWholeSectors ranges → NoSector ranges synced ⊎ ((sector : List ℕ) × HasSector ranges synced sector)
first_sector [] synced all = inl (record { shows = λ p below. refl; ends = λ p below. refl })
first_sector (range ∷ ranges) synced (inl far, all) = further (first_sector ranges synced all)
  where
    out : (p : ℕ) → p < 512 → (nat_le range.from p && nat_lt p (range.from + length range.bytes)) ≡ false
    out p below = uncovered range p (λ covers. omega (arith, covers.0))

    begins : ((range.from == 0) && nat_le 512 (length range.bytes)) ≡ false
    begins = grind (arith, nat_tests)

    skip : (p : ℕ) → p < 512 → shown (range ∷ ranges) synced p ≡ shown ranges synced p
    skip p below = ap (λ (b : Bool). if b then get_or range.bytes (p - range.from) 0 else shown ranges synced p) (out p below)

    skip_end : (p : ℕ) → p < 512 → ends_newest (range ∷ ranges) p ≡ ends_newest ranges p
    skip_end p below = ap (λ (b : Bool). if b then (p + 1 == range.from + length range.bytes) else ends_newest ranges p) (out p below)

    further : NoSector ranges synced ⊎ ((sector : List ℕ) × HasSector ranges synced sector) → NoSector (range ∷ ranges) synced ⊎ ((sector : List ℕ) × HasSector (range ∷ ranges) synced sector)
    further (inl none) = inl (record { shows = λ p below. skip p below ∙ none.shows p below; ends = λ p below. skip_end p below ∙ none.ends p below })
    further (inr (sector, has)) = inr (
      sector,
      record {
        last = ap (λ (b : Bool). if b then Some (take 512 range.bytes) else last_sector ranges) begins ∙ has.last;
        size = has.size;
        right = has.right;
        shows = λ p below. skip p below ∙ has.shows p below;
        ends = λ p below. skip_end p below ∙ has.ends p below;
      },
    )
first_sector (range ∷ ranges) synced (inr (start, size, right), all) = inr (
  range.bytes,
  record {
    last = ap (λ (b : Bool). if b then Some (take 512 range.bytes) else last_sector ranges) begins ∙ ap (λ (l : List ℕ). Some l) (take_all 512 range.bytes (omega (arith, size)));
    size = size;
    right = right;
    shows = λ p below. ap (λ (b : Bool). if b then get_or range.bytes (p - range.from) 0 else shown ranges synced p) (inside p below) ∙ ap (λ (i : ℕ). get_or range.bytes i 0) (omega (arith, start));
    ends = λ p below. ap (λ (b : Bool). if b then (p + 1 == range.from + length range.bytes) else ends_newest ranges p) (inside p below) ∙ ap (λ (n : ℕ). p + 1 == n) (omega (arith, start, size));
  },
)
  where
    inside : (p : ℕ) → p < 512 → (nat_le range.from p && nat_lt p (range.from + length range.bytes)) ≡ true
    inside p below = covered range p (omega (arith, start), omega (arith, start, size))

    begins : ((range.from == 0) && nat_le 512 (length range.bytes)) ≡ true
    begins = grind (arith, nat_tests)

same_front : (n : ℕ) (a b : List ℕ) → n ≤ length a → n ≤ length b → ((p : ℕ) → p < n → get_or a p 0 ≡ get_or b p 0) → take n a ≡ take n b
same_front n a b in_a in_b each =
    same_lists _ _ (omega (arith, length-take n a, length-take n b))
    (λ k d h. let below : k < n = omega (arith, length-take n a) in
    get_or-take n a k d below ∙ get_or_default a k d 0 (omega arith) ∙ each k below ∙ get_or_default b k 0 d (omega arith) ∙ sym (get_or-take n b k d below))

same_word : (a b : List ℕ) (p n : ℕ) → p + 4 ≤ n → ((q : ℕ) → q < n → get_or a q 0 ≡ get_or b q 0) → word_at a p ≡ word_at b p
same_word a b p n in_both same =
    omega (arith, same p (omega arith), same (p + 1) (omega arith), same (p + 2) (omega arith), same (p + 3) (omega arith))

same_words : (n : ℕ) (a b : List ℕ) → ((q : ℕ) → q < 4 * n → get_or a q 0 ≡ get_or b q 0) → xor_of_words n a ≡ xor_of_words n b
same_words zero a b same = refl
same_words (suc n) a b same =
    ap (λ (x : ℕ). bit_xor x (word_at a (4 * n))) (same_words n a b (λ q below. same q (omega arith)))
    ∙ ap (λ (w : ℕ). bit_xor (xor_of_words n b) w) (same_word a b (4 * n) (4 * suc n) (omega arith) same)

same_sum : (a b : List ℕ) → ((q : ℕ) → q < 508 → get_or a q 0 ≡ get_or b q 0) → sum_of a ≡ sum_of b
unfolding sum_of
same_sum a b same = ap stored (same_words 127 a b same)

-- with its last byte inverted a sector's sum is wrong
torn_tells : (sector torn : List ℕ) → HasRightSum sector → ((p : ℕ) → p < 511 → get_or torn p 0 ≡ get_or sector p 0) → get_or torn 511 0 ≡ 255 - get_or sector 511 0
    → HasRightSum torn → ⊥
torn_tells sector torn right same last wrong =
    let sums : sum_of torn ≡ sum_of sector = same_sum torn sector (λ q below. same q (omega arith)) in
    let equal : word_at torn 508 ≡ word_at sector 508 = wrong.sum ∙ sums ∙ sym right.sum in
    omega (arith, equal, same 508 (omega arith), same 509 (omega arith), same 510 (omega arith), last)

module _ (file : FileState) (sound : IsSound file) (whole : ReadGivesLastWrites file) (sectors : WritesWholeSectors file) where
  honest_of : (bytes : List ℕ) → 512 ≤ length bytes → ((p : ℕ) → p < 512 → get_or bytes p 0 ≡ torn_byte file.ranges file.seen p) ⊎ ((p : ℕ) → p < 512 → get_or bytes p 0 ≡ get_or file.seen p 0) → IsHonest file bytes
  honest_of bytes size is = by_sector is (first_sector file.ranges file.synced sectors.1)
    where
      seen_is : (p : ℕ) → p < 512 → get_or file.seen p 0 ≡ shown file.ranges file.synced p
      seen_is p below = whole p (omega (arith, sectors.0))

      in_synced : 512 ≤ length file.synced
      in_synced = omega (arith, sectors.0, sound.was_longer)

      old : ((p : ℕ) → p < 512 → get_or bytes p 0 ≡ get_or file.synced p 0) → IsHonest file bytes
      old same = inl (same_front 512 bytes file.synced size in_synced same)

      new : (sector : List ℕ) → HasSector file.ranges file.synced sector → ((p : ℕ) → p < 512 → get_or bytes p 0 ≡ get_or sector p 0) → IsHonest file bytes
      new sector has same =
          let is_sector : take 512 bytes ≡ sector = same_front 512 bytes sector size (omega (arith, has.size)) same ∙ take_all 512 sector (omega (arith, has.size)) in
          inr (inl (has.last ∙ ap (λ (l : List ℕ). Some l) (sym is_sector)))

      by_sector : ((p : ℕ) → p < 512 → get_or bytes p 0 ≡ torn_byte file.ranges file.seen p) ⊎ ((p : ℕ) → p < 512 → get_or bytes p 0 ≡ get_or file.seen p 0)
          → NoSector file.ranges file.synced ⊎ ((sector : List ℕ) × HasSector file.ranges file.synced sector) → IsHonest file bytes
      by_sector (inr plain) (inl none) = old (λ p below. plain p below ∙ seen_is p below ∙ none.shows p below)
      by_sector (inr plain) (inr (sector, has)) = new sector has (λ p below. plain p below ∙ seen_is p below ∙ has.shows p below)
      by_sector (inl torn) (inl none) =
          old (λ p below. torn p below ∙ ap (λ (b : Bool). if b then 255 - get_or file.seen p 0 else get_or file.seen p 0) (none.ends p below) ∙ seen_is p below ∙ none.shows p below)
      by_sector (inl torn) (inr (sector, has)) = inr (inr (torn_tells sector (take 512 bytes) has.right front last))
        where
          byte : (p : ℕ) → p < 512 → get_or (take 512 bytes) p 0 ≡ (if p + 1 == 512 then 255 - get_or sector p 0 else get_or sector p 0)
          byte p below =
              get_or-take 512 bytes p 0 below
              ∙ torn p below
              ∙ ap (λ (b : Bool). if b then 255 - get_or file.seen p 0 else get_or file.seen p 0) (has.ends p below)
              ∙ ap (λ (n : ℕ). if p + 1 == 512 then 255 - n else n) (seen_is p below ∙ has.shows p below)

          front : (p : ℕ) → p < 511 → get_or (take 512 bytes) p 0 ≡ get_or sector p 0
          front p below =
              let test : (p + 1 == 512) ≡ false = grind (arith, nat_tests) in
              byte p (omega arith) ∙ ap (λ (b : Bool). if b then 255 - get_or sector p 0 else get_or sector p 0) test

          last : get_or (take 512 bytes) 511 0 ≡ 255 - get_or sector 511 0
          last = byte 511 (omega arith)

  pub honest_left : (tear : Tear) (bytes : List ℕ) → LeftBy tear file bytes → IsHonest file bytes
  honest_left Old bytes left = inl (ap (λ (l : List ℕ). take 512 l) left)
  honest_left New bytes left =
      subst (IsHonest file) (sym left) (honest_of file.seen (omega (arith, sectors.0, sound.left.no_shorter)) (inr (λ p below. refl)))
  honest_left Torn bytes torn =
      let long : 512 ≤ length file.seen = omega (arith, sectors.0, sound.left.no_shorter) in
      honest_of bytes (omega (arith, torn.size)) (inl (λ p below. torn.each p (omega arith)))

pub honest_of_crash : (tear : Tear) (old new : FileState) → IsSound old → ReadGivesLastWrites old → IsCrashOf tear old new → WritesWholeSectors old → IsHonest old new.seen
honest_of_crash tear old new sound whole crash sectors = subst (λ (s : FileState). IsHonest old s.seen) (sym crash.2) (honest_left old sound whole sectors tear crash.0 crash.1)
