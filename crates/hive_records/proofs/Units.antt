-- The units that bytes decode to, and hashes of names.
use Rattle.std.proofs.Common.{◌≡◌, ◌≢◌, ℕ, zero, suc, ◌+◌, ◌*◌, ◌/◌, ◌%◌, ◌<◌, ◌^◌, List, [], ◌∷◌, length, drop, get_or, refl, ◌∙◌, ap, sym, Bool, true, false, ◌||◌, eqb, arith}
use Rattle.std.specs.List.{list_any}
use Rattle.std.proofs.lemmas.Bool.{eq-eqb, ne_eqb}
use Rattle.std.proofs.Math.Seq.{drop-cons}
use Rattle.reg_names.specs.Names.{fold_unit, folded}
use Rattle.hive_records.specs.Numbers.{u16_at}
use Rattle.hive_records.specs.Names.{pairs}
use Rattle.hive_records.specs.ListEncodings.{hash_from}

pub length_pairs : (bytes : List ℕ) → length (pairs bytes) ≡ length bytes / 2
length_pairs [] = refl
length_pairs (a ∷ []) = refl
length_pairs (a ∷ b ∷ rest) = omega (arith, length_pairs rest)

pub pair_at : (bytes : List ℕ) (i : ℕ) → i < length (pairs bytes) → get_or (pairs bytes) i 0 ≡ u16_at bytes (2 * i)
unfolding u16_at
pair_at [] i h = absurd (omega arith)
pair_at (a ∷ []) i h = absurd (omega arith)
pair_at (a ∷ b ∷ rest) zero h = refl
pair_at (a ∷ b ∷ rest) (suc i) h =
    let at : 2 * suc i ≡ suc (suc (2 * i)) = omega arith in
    let next : suc (suc (2 * i)) + 1 ≡ suc (suc (2 * i + 1)) = omega arith in
    pair_at rest i (omega arith)
    ∙ sym (ap (λ (n : ℕ). get_or (a ∷ b ∷ rest) n 0 + 0x100 * get_or (a ∷ b ∷ rest) (n + 1) 0) at ∙ ap (λ (n : ℕ). get_or rest (2 * i) 0 + 0x100 * get_or (a ∷ b ∷ rest) n 0) next)

pub any_none : (units : List ℕ) (unit : ℕ) → ((k : ℕ) → k < length units → get_or units k 0 ≢ unit) → list_any (λ u. eqb u unit) units ≡ false
any_none [] unit h = refl
any_none (u ∷ units) unit h = ap (λ (b : Bool). b || list_any (λ v. eqb v unit) units) (ne_eqb u unit (h 0 (omega arith))) ∙ any_none units unit (λ k below. h (suc k) (omega arith))

either_true : (b : Bool) → (b || true) ≡ true
either_true true = refl
either_true false = refl

pub any_some : (units : List ℕ) (unit k : ℕ) → k < length units → get_or units k 0 ≡ unit → list_any (λ u. eqb u unit) units ≡ true
any_some [] unit k h e = absurd (omega arith)
any_some (u ∷ units) unit zero h e = ap (λ (b : Bool). b || list_any (λ v. eqb v unit) units) (eq-eqb u unit e)
any_some (u ∷ units) unit (suc k) h e = ap (λ (b : Bool). eqb u unit || b) (any_some units unit k (omega arith) e) ∙ either_true (eqb u unit)

-- one unit more of a name whose hash is made
pub hash_on : (name : List ℕ) (i hash : ℕ) → i < length name → hash_from hash (folded (drop i name)) ≡ hash_from ((37 * hash + fold_unit (get_or name i 0)) % 2 ^ 32) (folded (drop (i + 1) name))
hash_on name i hash h =
    let next : suc i ≡ i + 1 = omega arith in
    ap (λ (xs : List ℕ). hash_from hash (folded xs)) (drop-cons name i 0 h) ∙ ap (λ (n : ℕ). hash_from ((37 * hash + fold_unit (get_or name i 0)) % 2 ^ 32) (folded (drop n name))) next
