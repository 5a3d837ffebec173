-- The first sector of a recovered hive is clean.
use Rattle.std.proofs.Common.{◌≡◌, ◌<◌, ◌≤◌, ◌^◌, ℕ, zero, suc, ◌+◌, ◌*◌, ◌-◌, Bool, true, ◌&&◌, eqb, bit_xor, List, ◌++◌, length, take, drop, slice_index, refl, sym, ◌∙◌, ap, arith, length-append, length-drop, eq-eqb, subst}
use Rattle.std.proofs.lemmas.List.{drop_at, drop-append-le, take-append-drop, get_or_append_left, length-take-le}
use Rattle.byteorder.specs.Endian.{little_from, little_number, little_bytes}
use Rattle.byteorder.specs.Numbers.{little_number-reads_back, length-bytes_low_first}
use Rattle.base_block.specs.Sums.{word_at, xor_of_words, stored_sum, sum_of}
use Rattle.base_block.specs.Layout.{number_at, block_at, put_at, is_clean_block}
use Rattle.hive_recovery.specs.Sectors.{recovered_sector, recovered_body}

number_from : (i n : ℕ) (bytes more : List ℕ) → i + n ≤ length bytes → little_from i n (bytes ++ more) ≡ little_from i n bytes
number_from i zero bytes more long = refl
number_from i (suc n) bytes more long =
    ap (λ b. b + 256 * little_from (suc i) n (bytes ++ more)) (get_or_append_left bytes more 0 i (omega (arith, long)))
    ∙ ap (λ b. slice_index bytes i + 256 * b) (number_from (suc i) n bytes more (omega (arith, long)))

number_stays : (offset n : ℕ) (bytes more : List ℕ) → offset + n ≤ length bytes → number_at offset n (bytes ++ more) ≡ number_at offset n bytes
number_stays offset n bytes more long =
    ap (little_number n) (drop-append-le offset bytes more (omega (arith, long)))
    ∙ number_from 0 n (drop offset bytes) more (let left : length (drop offset bytes) ≡ length bytes - offset = length-drop offset bytes in omega (arith, left, long))

-- a put leaves the length, and the numbers before it
put_length : (offset n : ℕ) (old : List ℕ) → offset + 4 ≤ length old → length (put_at offset (little_bytes 4 n) old) ≡ length old
unfolding put_at
put_length offset n old long =
    let four : length (little_bytes 4 n) ≡ 4 = length-bytes_low_first 0 4 n in
    let front : length (take offset old) ≡ offset = length-take-le offset old (omega (arith, long)) in
    let back : length (drop (offset + length (little_bytes 4 n)) old) ≡ length old - (offset + length (little_bytes 4 n)) = length-drop (offset + length (little_bytes 4 n)) old in
    let inner : length (little_bytes 4 n ++ drop (offset + length (little_bytes 4 n)) old) ≡ length (little_bytes 4 n) + length (drop (offset + length (little_bytes 4 n)) old) = length-append (little_bytes 4 n) (drop (offset + length (little_bytes 4 n)) old) in
    let all : length (take offset old ++ (little_bytes 4 n ++ drop (offset + length (little_bytes 4 n)) old)) ≡ length (take offset old) + length (little_bytes 4 n ++ drop (offset + length (little_bytes 4 n)) old) = length-append (take offset old) (little_bytes 4 n ++ drop (offset + length (little_bytes 4 n)) old) in
    omega (arith, long, four, front, back, inner, all)

put_before : (place offset : ℕ) (bytes old : List ℕ) → place + 4 ≤ offset → offset ≤ length old → number_at place 4 (put_at offset bytes old) ≡ number_at place 4 old
unfolding put_at
put_before place offset bytes old less long =
    let front : length (take offset old) ≡ offset = length-take-le offset old long in
    let within : place + 4 ≤ length (take offset old) = omega (arith, front, less) in
    number_stays place 4 (take offset old) (bytes ++ drop (offset + length bytes) old) within
    ∙ sym (number_stays place 4 (take offset old) (drop offset old) within)
    ∙ ap (number_at place 4) (take-append-drop offset old)

-- what is put is read
put_here : (offset n : ℕ) (old : List ℕ) → n < 2 ^ 32 → offset ≤ length old → number_at offset 4 (put_at offset (little_bytes 4 n) old) ≡ n
unfolding put_at
put_here offset n old fits long =
    ap (little_number 4) (drop_at (take offset old) (little_bytes 4 n ++ drop (offset + length (little_bytes 4 n)) old) offset (length-take-le offset old long))
    ∙ little_number-reads_back 4 n (drop (offset + length (little_bytes 4 n)) old) (omega (arith, fits))

words_stay : (n : ℕ) (bytes more : List ℕ) → 4 * n ≤ length bytes → xor_of_words n (bytes ++ more) ≡ xor_of_words n bytes
words_stay zero bytes more long = refl
words_stay (suc n) bytes more long =
    ap (λ x. bit_xor x (word_at n (bytes ++ more))) (words_stay n bytes more (omega (arith, long)))
    ∙ ap (λ x. bit_xor (xor_of_words n bytes) x) (number_stays (4 * n) 4 bytes more (omega (arith, long)))

-- the sum is of the first 508 bytes
sum_stays : (bytes body : List ℕ) → 508 ≤ length body → sum_of (put_at 508 bytes body) ≡ sum_of (take 508 body)
unfolding put_at sum_of
sum_stays bytes body long =
    let front : length (take 508 body) ≡ 508 = length-take-le 508 body long in
    ap stored_sum (words_stay 127 (take 508 body) (bytes ++ drop (508 + length bytes) body) (omega (arith, front)))

and_both : (a b : Bool) → a ≡ true → b ≡ true → (a && b) ≡ true
and_both a b p q = rw p q

-- what is put into a sector
record Body (sector : List ℕ) (number size : ℕ) : Type 0 where
  long : length (recovered_body sector number size) ≡ 512
  first : number_at 4 4 (recovered_body sector number size) ≡ number
  second : number_at 8 4 (recovered_body sector number size) ≡ number

body_has : (sector : List ℕ) (number size : ℕ) → length sector ≡ 512 → number < 2 ^ 32 → Body sector number size
unfolding recovered_body
body_has sector number size long fits =
    let one = put_at 4 (little_bytes 4 number) sector in
    let two = put_at 8 (little_bytes 4 number) one in
    let three = put_at 28 (little_bytes 4 0) two in
    let long1 : length one ≡ 512 = put_length 4 number sector (omega (arith, long)) ∙ long in
    let long2 : length two ≡ 512 = put_length 8 number one (omega (arith, long1)) ∙ long1 in
    let long3 : length three ≡ 512 = put_length 28 0 two (omega (arith, long2)) ∙ long2 in
    record {
      long = put_length 40 size three (omega (arith, long3)) ∙ long3;
      first = put_before 4 40 (little_bytes 4 size) three (omega arith) (omega (arith, long3)) ∙ put_before 4 28 (little_bytes 4 0) two (omega arith) (omega (arith, long2))
          ∙ put_before 4 8 (little_bytes 4 number) one (omega arith) (omega (arith, long1)) ∙ put_here 4 number sector fits (omega (arith, long));
      second = put_before 8 40 (little_bytes 4 size) three (omega arith) (omega (arith, long3)) ∙ put_before 8 28 (little_bytes 4 0) two (omega arith) (omega (arith, long2))
          ∙ put_here 8 number one fits (omega (arith, long1));
    }

pub recovered_clean : (sector : List ℕ) (number size : ℕ) → length sector ≡ 512 → number < 2 ^ 32 → sum_of (take 508 (recovered_body sector number size)) < 2 ^ 32 → is_clean_block (block_at (recovered_sector sector number size)) ≡ true
unfolding recovered_sector
recovered_clean sector number size long fits small =
    let body = recovered_body sector number size in
    let sum = sum_of (take 508 body) in
    let made = put_at 508 (little_bytes 4 sum) body in
    let has = body_has sector number size long fits in
    let its_long : length body ≡ 512 = has.long in
    let stored : number_at 508 4 made ≡ sum_of made = put_here 508 sum body small (omega (arith, its_long)) ∙ sym (sum_stays (little_bytes 4 sum) body (omega (arith, its_long))) in
    let first : number_at 4 4 made ≡ number = put_before 4 508 (little_bytes 4 sum) body (omega arith) (omega (arith, its_long)) ∙ has.first in
    let second : number_at 8 4 made ≡ number = put_before 8 508 (little_bytes 4 sum) body (omega arith) (omega (arith, its_long)) ∙ has.second in
    and_both (eqb (number_at 508 4 made) (sum_of made)) (eqb (number_at 4 4 made) (number_at 8 4 made)) (eq-eqb (number_at 508 4 made) (sum_of made) stored) (eq-eqb (number_at 4 4 made) (number_at 8 4 made) (first ∙ sym second))

-- the same of a sector that was made step by step
pub made_clean : (sector : List ℕ) (number size : ℕ) (body bytes made : List ℕ) (sum : ℕ) → length sector ≡ 512 → number < 2 ^ 32 → body ≡ recovered_body sector number size → bytes ≡ take 508 body → sum ≡ sum_of bytes → sum < 2 ^ 32 → made ≡ put_at 508 (little_bytes 4 sum) body → is_clean_block (block_at made) ≡ true
unfolding recovered_sector
made_clean sector number size body bytes made sum long fits is_body is_bytes is_sum small is_made =
    let own = recovered_body sector number size in
    let same : sum ≡ sum_of (take 508 own) = is_sum ∙ ap sum_of (is_bytes ∙ ap (take 508) is_body) in
    let all : made ≡ put_at 508 (little_bytes 4 (sum_of (take 508 own))) own = is_made ∙ ap (λ k. put_at 508 (little_bytes 4 k) body) same ∙ ap (put_at 508 (little_bytes 4 (sum_of (take 508 own)))) is_body in
    let Clean : List ℕ → Type 0 = λ sector. is_clean_block (block_at sector) ≡ true in
    subst Clean (sym all) (recovered_clean sector number size long fits (omega (arith, same, small)))

-- the number that is put is the first one
pub made_numbered : (sector : List ℕ) (number size : ℕ) (body made : List ℕ) (sum : ℕ) → length sector ≡ 512 → number < 2 ^ 32 → body ≡ recovered_body sector number size → made ≡ put_at 508 (little_bytes 4 sum) body → (block_at made).primary.0 ≡ number
made_numbered sector number size body made sum long fits is_body is_made =
    let own = recovered_body sector number size in
    let has = body_has sector number size long fits in
    let its_long : length own ≡ 512 = has.long in
    ap (number_at 4 4) (is_made ∙ ap (put_at 508 (little_bytes 4 sum)) is_body) ∙ put_before 4 508 (little_bytes 4 sum) own (omega arith) (omega (arith, its_long)) ∙ has.first
