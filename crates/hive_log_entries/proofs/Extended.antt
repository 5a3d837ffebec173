-- A log with bytes behind it keeps its entries.
use Rattle.std.proofs.Common.{◌≡◌, ◌≤◌, ℕ, zero, suc, ◌+◌, ◌*◌, ◌-◌, Bool, true, false, ◌&&◌, not, nat_lt, nat_le, if◌then◌else◌, List, [], ◌∷◌, ◌++◌, ◌==◌, Option, Some, length, take, drop, slice_index, Result, Ok, Err, refl, sym, ◌∙◌, ap, subst, inl, inr, arith, length-append, length-drop}
use Rattle.std.proofs.lemmas.Bool.{le-ltb, ltb-false, le-leb}
use Rattle.std.proofs.lemmas.List.{take-append-le, drop-append-le, get_or_append_left}
use Rattle.base_block.specs.declared.fields.SequenceNumber.{SequenceNumber}
use Rattle.hive_log_entries.specs.Entries.{has_letters, is_entry_size, size_at_front, judged_entry, first_entry, entry_at, number_of}
use Rattle.hive_log_entries.specs.Logs.{next_at, next_in, EntriesFrom}
use Rattle.hive_log_entries.specs.declared.entry_end.EntryEnd.{EntryEnd}
use Rattle.hive_log_entries.specs.declared.entry_end.EntryEnd.TheVariants.{NoLetters, WrongSize, Cut}
use Rattle.hive_log_entries.specs.declared.entry_end.LogEnd.{LogEnd}
use Rattle.hive_log_entries.specs.declared.entry_end.LogEnd.TheVariants.{NoEntry}
use Rattle.hive_log_entries.proofs.Readings.{ok_or_err, same_ok, not_both}
use Rattle.hive_log_entries.proofs.Stops.{and_right}
use Rattle.byteorder.specs.Endian.{little_from, little_number}
use Rattle.base_block.specs.Layout.{number_at}

number_from : (i n : ℕ) (bytes more : List ℕ) → i + n ≤ length bytes → little_from i n (bytes ++ more) ≡ little_from i n bytes
number_from i zero bytes more long = refl
number_from i (suc n) bytes more long =
    ap (λ b. b + 256 * little_from (suc i) n (bytes ++ more)) (get_or_append_left bytes more 0 i (omega (arith, long)))
    ∙ ap (λ b. slice_index bytes i + 256 * b) (number_from (suc i) n bytes more (omega (arith, long)))

-- a number that is there whole stays
pub number_stays : (offset n : ℕ) (bytes more : List ℕ) → offset + n ≤ length bytes → number_at offset n (bytes ++ more) ≡ number_at offset n bytes
number_stays offset n bytes more long =
    ap (little_number n) (drop-append-le offset bytes more (omega (arith, long)))
    ∙ number_from 0 n (drop offset bytes) more (let left : length (drop offset bytes) ≡ length bytes - offset = length-drop offset bytes in omega (arith, left, long))

-- the tests of a size, in their order
abbrev tested : Bool → Bool → Bool → Bool → ℕ → Result ℕ EntryEnd
tested letters short good cut size = if not letters then Err NoLetters else (if short then Err Cut else (if not good then Err WrongSize else (if cut then Err Cut else Ok size)))

refuted : (why : EntryEnd) (size : ℕ) {P : Type 0} → Err why ≡ Ok size → P
refuted why size e = absurd (not_both (Err why) size why e refl)

all_passed : (letters short good cut : Bool) (found size : ℕ) → tested letters short good cut found ≡ Ok size → (letters ≡ true) × (short ≡ false) × (good ≡ true) × (cut ≡ false) × (found ≡ size)
all_passed false short good cut found size e = refuted NoLetters size e
all_passed true true good cut found size e = refuted Cut size e
all_passed true false false cut found size e = refuted WrongSize size e
all_passed true false true true found size e = refuted Cut size e
all_passed true false true false found size e = (refl, refl, refl, refl, same_ok (Ok size) found size (sym e) refl)

passed : (letters short good cut : Bool) (found size : ℕ) → letters ≡ true → short ≡ false → good ≡ true → cut ≡ false → found ≡ size → tested letters short good cut found ≡ Ok size
passed letters short good cut found size a b c d e = rw a (rw b (rw c (rw d (ap Ok e))))

and_both : (a b : Bool) → a ≡ true → b ≡ true → (a && b) ≡ true
and_both a b p q = rw p q

-- what a size says of bytes
pub record HasSize (bytes : List ℕ) (size : ℕ) : Type 0 where
  pub letters : has_letters bytes ≡ true
  pub long : 8 ≤ length bytes
  pub good : is_entry_size (number_at 4 4 bytes) ≡ true
  pub there : size ≤ length bytes
  pub same : number_at 4 4 bytes ≡ size

pub has_size : (bytes : List ℕ) (size : ℕ) → size_at_front bytes ≡ Ok size → HasSize bytes size
unfolding size_at_front
has_size bytes size e =
    let all = all_passed (has_letters bytes) (nat_lt (length bytes) 8) (is_entry_size (number_at 4 4 bytes)) (nat_lt (length bytes) (number_at 4 4 bytes)) (number_at 4 4 bytes) size e in
    let there : number_at 4 4 bytes ≤ length bytes = ltb-false (length bytes) (number_at 4 4 bytes) all.3 in
    let P : ℕ → Type 0 = λ n. n ≤ length bytes in
    record { letters = all.0; long = ltb-false (length bytes) 8 all.1; good = all.2; there = subst P all.4 there; same = all.4 }

letters_stay : (bytes more : List ℕ) → 8 ≤ length bytes → has_letters bytes ≡ true → has_letters (bytes ++ more) ≡ true
letters_stay bytes more long letters =
    let joined : length (bytes ++ more) ≡ length bytes + length more = length-append bytes more in
    let P : ℕ → Type 0 = λ n. (n == 0x454c_7648) ≡ true in
    and_both (nat_le 4 (length (bytes ++ more))) (number_at 0 4 (bytes ++ more) == 0x454c_7648) (le-leb 4 (length (bytes ++ more)) (omega (arith, joined, long)))
    (subst P (sym (number_stays 0 4 bytes more (omega (arith, long)))) (and_right (nat_le 4 (length bytes)) (number_at 0 4 bytes == 0x454c_7648) letters))

size_stays : (bytes more : List ℕ) (size : ℕ) → HasSize bytes size → size_at_front (bytes ++ more) ≡ Ok size
unfolding size_at_front
size_stays bytes more size has =
    let joined : length (bytes ++ more) ≡ length bytes + length more = length-append bytes more in
    let number : number_at 4 4 (bytes ++ more) ≡ size = number_stays 4 4 bytes more has.long ∙ has.same in
    let G : ℕ → Type 0 = λ n. is_entry_size n ≡ true in
    passed (has_letters (bytes ++ more)) (nat_lt (length (bytes ++ more)) 8) (is_entry_size (number_at 4 4 (bytes ++ more))) (nat_lt (length (bytes ++ more)) (number_at 4 4 (bytes ++ more))) (number_at 4 4 (bytes ++ more)) size
    (letters_stay bytes more has.long has.letters)
    (le-ltb (length (bytes ++ more)) 8 (let h = has.long in omega (arith, joined, h)))
    (subst G (has.same ∙ sym number) has.good)
    (le-ltb (length (bytes ++ more)) (number_at 4 4 (bytes ++ more)) (let h = has.there in omega (arith, joined, number, h)))
    number

-- an entry stays where it is
entry_stays : (log more : List ℕ) (at : ℕ) (entry : List ℕ) → entry_at log at ≡ Ok entry → entry_at (log ++ more) at ≡ Ok entry
unfolding entry_at
entry_stays log more at entry stands =
    elim (ok_or_err (size_at_front (drop at log))) [
      | inl found ↦
          let has = has_size (drop at log) found.0 found.1 in
          let left : length (drop at log) ≡ length log - at = length-drop at log in
          let inside : at ≤ length log = (let h = has.long in omega (arith, left, h)) in
          let behind : drop at (log ++ more) ≡ drop at log ++ more = drop-append-le at log more inside in
          let own : judged_entry (take found.0 (drop at log)) ≡ Ok entry = sym (ap (λ s. first_entry s (drop at log)) found.1) ∙ stands in
          ap (λ rest. first_entry (size_at_front rest) rest) behind
          ∙ ap (λ s. first_entry s (drop at log ++ more)) (size_stays (drop at log) more found.0 has)
          ∙ ap judged_entry (take-append-le found.0 (drop at log) more has.there)
          ∙ own
      | inr none ↦ absurd (not_both (first_entry (size_at_front (drop at log)) (drop at log)) entry none.0 stands (ap (λ s. first_entry s (drop at log)) none.1))
    ]

next_stays : (log more : List ℕ) (at : ℕ) (before : Option SequenceNumber) (entry : List ℕ) → next_at log at before ≡ Ok entry → next_at (log ++ more) at before ≡ Ok entry
unfolding next_at
next_stays log more at before entry stands =
    elim (ok_or_err (entry_at log at)) [
      | inl found ↦ ap (λ read. next_in before read) (entry_stays log more at found.0 found.1) ∙ sym (ap (λ read. next_in before read) found.1) ∙ stands
      | inr none ↦ absurd (not_both (next_in before (entry_at log at)) entry (NoEntry none.0) stands (ap (λ read. next_in before read) none.1))
    ]

-- a log that goes on has the entries that it had, and perhaps more
pub goes_on_from : (log more : List ℕ) (at : ℕ) (before : Option SequenceNumber) (entries others : List (List ℕ)) (ended_at other_at : ℕ) (end other : LogEnd) →
    EntriesFrom log at before entries ended_at end → EntriesFrom (log ++ more) at before others other_at other → (rest : List (List ℕ)) × (others ≡ entries ++ rest)
goes_on_from log more at before [] others ended_at other_at end other one two = (others, refl)
goes_on_from log more at before (entry ∷ rest) [] ended_at other_at end other one two = absurd (not_both (next_at (log ++ more) at before) entry other (next_stays log more at before entry one.0) two.0)
goes_on_from log more at before (entry ∷ rest) (entry' ∷ rest') ended_at other_at end other one two =
    let same : entry' ≡ entry = same_ok (next_at (log ++ more) at before) entry' entry two.0 (next_stays log more at before entry one.0) in
    let P : List ℕ → Type 0 = λ e. EntriesFrom (log ++ more) (at + length e) (Some (number_of e)) rest' other_at other in
    let below = goes_on_from log more (at + length entry) (Some (number_of entry)) rest rest' ended_at other_at end other one.1 (subst P same two.1) in
    (below.0, ap (λ e. e ∷ rest') same ∙ ap (λ r. entry ∷ r) below.1)
