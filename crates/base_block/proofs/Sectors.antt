-- A sector: its fields as they are read, and as they are put into zeros in rising order.
use Rattle.std.proofs.Common.{◌≡◌, ◌<◌, ◌*◌, ◌^◌, zero, suc, ℕ, Bool, true, eqb, ◌+◌, ◌≤◌, List, [], ◌++◌, length, take, drop, refl, sym, ap, ◌∙◌, append_assoc, arith, length-append, eq-eqb}
use Rattle.std.proofs.Math.ListN.{replicate, replicate-append-replicate, length-replicate}
use Rattle.std.proofs.lemmas.List.{take_at, drop_at, append-nil, drop-append-le, length-drop}
use Rattle.base_block.specs.declared.block.BaseBlock.{BaseBlock}
use Rattle.base_block.specs.Sums.{word_at, xor_of_words, stored_sum, sum_of}
use Rattle.base_block.specs.Layout.{number_at, block_at, zeros, put_at, head_of, body_of, sector_of, AllFit}
use Rattle.byteorder.specs.Endian.{little_number, little_bytes}
use Rattle.byteorder.specs.Numbers.{little_number-reads_back, little_from-append}

abbrev pub block : ℕ → ℕ → ℕ → ℕ → ℕ → ℕ → ℕ → ℕ → ℕ → ℕ → List ℕ → ℕ → Bool → BaseBlock
block signature primary secondary last_written major minor file_type format root bins_size store applied sum_is_right =
    record {
      signature = record { 0 = signature };
      primary = record { 0 = primary };
      secondary = record { 0 = secondary };
      last_written = last_written;
      major = major;
      minor = minor;
      file_type = record { 0 = file_type };
      format = format;
      root = root;
      bins_size = bins_size;
      store = store;
      applied = record { 0 = applied };
      sum_is_right = sum_is_right;
    }

-- what is put so far, and the zeros after it
pub record Laid (sector front : List ℕ) (at rest : ℕ) : Type 0 where
  pub parts : sector ≡ front ++ zeros rest
  pub len : length front ≡ at

-- nothing is put yet
pub laid_none : (n : ℕ) (sector : List ℕ) → sector ≡ zeros n → Laid sector [] 0 n
laid_none n sector e = record { parts = e; len = refl }

-- zeros that stay
pub laid_gap : (sector front : List ℕ) (at gap rest : ℕ) → Laid sector front at (gap + rest) → Laid sector (front ++ zeros gap) (at + gap) rest
unfolding zeros
laid_gap sector front at gap rest h =
    record {
      parts = h.parts ∙ ap (λ (z : List ℕ). front ++ z) (sym (replicate-append-replicate gap rest 0)) ∙ sym (append_assoc front (zeros gap) (zeros rest));
      len = length-append front (zeros gap) ∙ rw (h.len, length-replicate {A = ℕ} gap 0) refl;
    }

-- one field more
pub laid_more : (old new front bytes : List ℕ) (at w rest : ℕ) → new ≡ put_at at bytes old → length bytes ≡ w → Laid old front at (w + rest) → Laid new (front ++ bytes) (at + w) rest
unfolding zeros put_at
laid_more old new front bytes at w rest put wide h =
    let front_is : take at old ≡ front = ap (take at) h.parts ∙ take_at front (zeros (w + rest)) at h.len in
    let rest_is : drop (at + length bytes) old ≡ zeros rest =
    ap (drop (at + length bytes)) (h.parts ∙ ap (λ (z : List ℕ). front ++ z) (sym (replicate-append-replicate w rest 0)) ∙ sym (append_assoc front (replicate w 0) (replicate rest 0)))
    ∙ drop_at (front ++ replicate w 0) (replicate rest 0) (at + length bytes) (length-append front (replicate w 0) ∙ rw (h.len, length-replicate {A = ℕ} w 0, wide) refl) in
    record {
      parts = put ∙ rw (front_is, rest_is) (sym (append_assoc front bytes (zeros rest)));
      len = length-append front bytes ∙ rw (h.len, wide) refl;
    }

-- a block of the numbers that are at the offsets
pub read_as : (bytes store : List ℕ) (signature primary secondary last_written major minor file_type format root bins_size applied sum whole : ℕ)
    → signature ≡ number_at 0 4 bytes → primary ≡ number_at 4 4 bytes → secondary ≡ number_at 8 4 bytes → last_written ≡ number_at 12 8 bytes
    → major ≡ number_at 20 4 bytes → minor ≡ number_at 24 4 bytes → file_type ≡ number_at 28 4 bytes → format ≡ number_at 32 4 bytes
    → root ≡ number_at 36 4 bytes → bins_size ≡ number_at 40 4 bytes → store ≡ take 16 (drop 176 bytes) → applied ≡ number_at 192 8 bytes
    → sum ≡ number_at 508 4 bytes → whole ≡ sum_of bytes
    → block signature primary secondary last_written major minor file_type format root bins_size store applied (eqb sum whole) ≡ block_at bytes
read_as bytes store signature primary secondary last_written major minor file_type format root bins_size applied sum whole e0 e1 e2 e3 e4 e5 e6 e7 e8 e9 e10 e11 e12 e13 =
    rw (e0, e1, e2, e3, e4, e5, e6, e7, e8, e9, e10, e11, e12, e13)

-- ---- the sum

word_front : (i : ℕ) (front rest : List ℕ) → 4 * i + 4 ≤ length front → word_at i (front ++ rest) ≡ word_at i front
word_front i front rest h =
    ap (little_number 4) (drop-append-le (4 * i) front rest (omega arith)) ∙ little_from-append 4 (drop (4 * i) front) rest (omega (arith, length-drop (4 * i) front))

xor_front : (n : ℕ) (front rest : List ℕ) → 4 * n ≤ length front → xor_of_words n (front ++ rest) ≡ xor_of_words n front
xor_front zero front rest h = refl
xor_front (suc n) front rest h =
    rw (xor_front n front rest (omega arith), word_front n front rest (omega arith))

-- the sum reads the first 508 bytes alone
pub sum_front : (front rest : List ℕ) → length front ≡ 508 → sum_of (front ++ rest) ≡ sum_of front
unfolding sum_of
sum_front front rest h = ap stored_sum (xor_front 127 front rest (omega arith))

-- ---- what was written is read again

length-zeros : (n : ℕ) → length (zeros n) ≡ n
unfolding zeros
length-zeros n = length-replicate {A = ℕ} n 0

length-head : (b : BaseBlock) → length (head_of b) ≡ 48
unfolding head_of
length-head b = refl

-- the bytes after the head
tail_of : BaseBlock → List ℕ
tail_of b = little_bytes 8 b.applied.0 ++ (zeros 308 ++ little_bytes 4 (sum_of (body_of b)))

regrouped : (b : BaseBlock) → sector_of b ≡ (head_of b ++ zeros 128) ++ (b.store ++ tail_of b)
unfolding sector_of body_of tail_of
regrouped b = simp append_assoc

store_again : (b : BaseBlock) → length b.store ≡ 16 → take 16 (drop 176 (sector_of b)) ≡ b.store
store_again b h =
    let front : length (head_of b ++ zeros 128) ≡ 176 = length-append (head_of b) (zeros 128) ∙ rw (length-head b, length-zeros 128) refl in
    rw (regrouped b, drop_at (head_of b ++ zeros 128) (b.store ++ tail_of b) 176 front, take_at b.store (tail_of b) 16 h)

applied_again : (b : BaseBlock) → length b.store ≡ 16 → b.applied.0 < 2 ^ 64 → number_at 192 8 (sector_of b) ≡ b.applied.0
unfolding tail_of
applied_again b h fits =
    let regrouped_more : sector_of b ≡ ((head_of b ++ zeros 128) ++ b.store) ++ tail_of b = regrouped b ∙ sym (append_assoc (head_of b ++ zeros 128) b.store (tail_of b)) in
    let front : length ((head_of b ++ zeros 128) ++ b.store) ≡ 192 =
    length-append (head_of b ++ zeros 128) b.store ∙ rw (length-append, length-head b, length-zeros 128, h) refl in
    ap (number_at 192 8) regrouped_more
    ∙ ap (little_number 8) (drop_at ((head_of b ++ zeros 128) ++ b.store) (tail_of b) 192 front)
    ∙ little_number-reads_back 8 b.applied.0 (zeros 308 ++ little_bytes 4 (sum_of (body_of b))) fits

sum_again : (b : BaseBlock) → length (body_of b) ≡ 508 → sum_of (body_of b) < 2 ^ 32 → number_at 508 4 (sector_of b) ≡ sum_of (body_of b)
unfolding sector_of
sum_again b h fits =
    ap (little_number 4) (drop_at (body_of b) (little_bytes 4 (sum_of (body_of b))) 508 h ∙ sym (append-nil (little_bytes 4 (sum_of (body_of b)))))
    ∙ little_number-reads_back 4 (sum_of (body_of b)) [] fits

whole_sum : (b : BaseBlock) → length (body_of b) ≡ 508 → sum_of (sector_of b) ≡ sum_of (body_of b)
unfolding sector_of
whole_sum b h = sum_front (body_of b) (little_bytes 4 (sum_of (body_of b))) h

-- the fields of the sector that was written of a block are the block's, and its sum is right
pub read_again : (b : BaseBlock) → AllFit b → length (body_of b) ≡ 508 → sum_of (body_of b) < 2 ^ 32 → block_at (sector_of b) ≡ record b { sum_is_right = true }
unfolding sector_of body_of head_of
read_again b fits long small =
    let sum = sum_of (body_of b) in
    let same = read_as (sector_of b) b.store b.signature.0 b.primary.0 b.secondary.0 b.last_written b.major b.minor b.file_type.0 b.format b.root b.bins_size b.applied.0 sum sum
    (sym (little_number-reads_back 4 b.signature.0 [] fits.signature))
    (sym (little_number-reads_back 4 b.primary.0 [] fits.primary))
    (sym (little_number-reads_back 4 b.secondary.0 [] fits.secondary))
    (sym (little_number-reads_back 8 b.last_written [] fits.last_written))
    (sym (little_number-reads_back 4 b.major [] fits.major))
    (sym (little_number-reads_back 4 b.minor [] fits.minor))
    (sym (little_number-reads_back 4 b.file_type.0 [] fits.file_type))
    (sym (little_number-reads_back 4 b.format [] fits.format))
    (sym (little_number-reads_back 4 b.root [] fits.root))
    (sym (little_number-reads_back 4 b.bins_size [] fits.bins_size))
    (sym (store_again b fits.store)) (sym (applied_again b fits.store fits.applied)) (sym (sum_again b long small)) (sym (whole_sum b long)) in
    sym same ∙ ap (λ (right : Bool). block b.signature.0 b.primary.0 b.secondary.0 b.last_written b.major b.minor b.file_type.0 b.format b.root b.bins_size b.store b.applied.0 right) (eq-eqb sum sum refl)

-- ---- the sum that is written last

pub written : (b : BaseBlock) (fields sector : List ℕ) (sum : ℕ) → length (body_of b) ≡ 508 → fields ≡ body_of b ++ zeros 4 → sum ≡ sum_of fields → sector ≡ put_at 508 (little_bytes 4 sum) fields → sector ≡ sector_of b
unfolding sector_of zeros
written b fields sector sum long before sum_is put =
    let sum_of_body : sum ≡ sum_of (body_of b) = sum_is ∙ ap sum_of before ∙ sum_front (body_of b) (zeros 4) long in
    let laid : Laid fields (body_of b) 508 4 = record { parts = before; len = long } in
    let whole : Laid sector (body_of b ++ little_bytes 4 sum) 512 0 = laid_more fields sector (body_of b) (little_bytes 4 sum) 508 4 0 put refl laid in
    whole.parts ∙ append-nil (body_of b ++ little_bytes 4 sum) ∙ ap (λ (n : ℕ). body_of b ++ little_bytes 4 n) sum_of_body
