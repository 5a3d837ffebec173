-- The sum of a first sector, in the disk's words and in the base block's.
use Rattle.std.proofs.Common.{◌≡◌, ◌≤◌, ℕ, zero, suc, ◌+◌, ◌*◌, List, length, take, refl, sym, ap, ◌∙◌, arith, bit_xor, length-take}
use Rattle.std.specs.Prelude.{◌↔◌, IsTrue, ◌==◌}
use Rattle.std.proofs.lemmas.List.{get_or-drop, get_or-take}
use Rattle.std.proofs.lemmas.Bool.Decides.{nat_tests}
use Rattle.disk_model.specs.Sector as disk
use Rattle.base_block.specs.Sums as base
use Rattle.base_block.specs.Layout.{number_at}

pub word_same : (s : List ℕ) (p : ℕ) → disk.word_at s p ≡ number_at p 4 s
word_same s p =
    let a = get_or-drop p s 0 0 in
    let b = get_or-drop p s 1 0 in
    let c = get_or-drop p s 2 0 in
    let d = get_or-drop p s 3 0 in
    let z : p + 0 ≡ p = omega arith in
    rw (a, b, c, d, z) (omega arith)

xor_same : (n : ℕ) (s : List ℕ) → disk.xor_of_words n s ≡ base.xor_of_words n s
xor_same zero s = refl
xor_same (suc n) s = ap (λ (x : ℕ). bit_xor x (disk.word_at s (4 * n))) (xor_same n s) ∙ ap (λ (x : ℕ). bit_xor (base.xor_of_words n s) x) (word_same s (4 * n))

sum_same : (s : List ℕ) → disk.sum_of s ≡ base.sum_of s
unfolding disk.sum_of base.sum_of
sum_same s = ap disk.stored (xor_same 127 s)

pub same : (s : List ℕ) → 512 ≤ length s → disk.HasRightSum s ↔ IsTrue (number_at 508 4 s == base.sum_of s)
same s long = (to, from)
  where
    w : disk.word_at s 508 ≡ number_at 508 4 s
    w = word_same s 508

    to : disk.HasRightSum s → IsTrue (number_at 508 4 s == base.sum_of s)
    to h = let e : number_at 508 4 s ≡ base.sum_of s = sym w ∙ h.sum ∙ sum_same s in grind (arith, nat_tests, e)

    from : IsTrue (number_at 508 4 s == base.sum_of s) → disk.HasRightSum s
    from h = let e : number_at 508 4 s ≡ base.sum_of s = grind (arith, nat_tests, h) in record { whole = long; sum = w ∙ e ∙ sym (sum_same s) }

-- the words below 512 of a file's front are the file's
word_front : (s : List ℕ) (p : ℕ) → p + 4 ≤ 512 → disk.word_at (take 512 s) p ≡ disk.word_at s p
word_front s p le =
    let a = get_or-take 512 s p 0 (omega arith) in
    let b = get_or-take 512 s (p + 1) 0 (omega arith) in
    let c = get_or-take 512 s (p + 2) 0 (omega arith) in
    let d = get_or-take 512 s (p + 3) 0 (omega arith) in
    rw (a, b, c, d) refl

xor_front : (n : ℕ) (s : List ℕ) → n ≤ 127 → disk.xor_of_words n (take 512 s) ≡ disk.xor_of_words n s
xor_front zero s le = refl
xor_front (suc n) s le =
    ap (λ (x : ℕ). bit_xor x (disk.word_at (take 512 s) (4 * n))) (xor_front n s (omega arith)) ∙ ap (λ (x : ℕ). bit_xor (disk.xor_of_words n s) x) (word_front s (4 * n) (omega arith))

sum_front : (s : List ℕ) → disk.sum_of (take 512 s) ≡ disk.sum_of s
unfolding disk.sum_of
sum_front s = ap disk.stored (xor_front 127 s (omega arith))

pub front : (s : List ℕ) → 512 ≤ length s → disk.HasRightSum (take 512 s) ↔ IsTrue (number_at 508 4 s == base.sum_of s)
front s long = (
  λ h. (same s long).0 (record { whole = long; sum = sym (word_front s 508 (omega arith)) ∙ h.sum ∙ sum_front s }),
  λ h. let r = (same s long).1 h in record { whole = omega (arith, length-take 512 s); sum = word_front s 508 (omega arith) ∙ r.sum ∙ sym (sum_front s) },
)
