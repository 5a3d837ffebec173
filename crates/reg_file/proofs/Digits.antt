-- Numbers of a few hex digits stay small.
use Rattle.std.proofs.Common.{◌≡◌, ℕ, zero, suc, ◌+◌, ◌-◌, ◌*◌, ◌^◌, ◌<◌, ◌≤◌, refl, arith}

-- a number with room for one more digit
pub one_digit_more : (left number digit : ℕ) → left ≤ 7 → (left ≡ 0 → ⊥) → number < 16 ^ (8 - left) → digit < 16 → (16 * number + digit < 2 ^ 32) × (left - 1 ≤ 7) × (16 * number + digit < 16 ^ (8 - (left - 1)))
one_digit_more zero number digit l n b d = absurd (n refl)
one_digit_more (suc zero) number digit l n b d = (omega (arith, b, d), omega arith, omega (arith, b, d))
one_digit_more (suc (suc zero)) number digit l n b d = (omega (arith, b, d), omega arith, omega (arith, b, d))
one_digit_more (suc (suc (suc zero))) number digit l n b d = (omega (arith, b, d), omega arith, omega (arith, b, d))
one_digit_more (suc (suc (suc (suc zero)))) number digit l n b d = (omega (arith, b, d), omega arith, omega (arith, b, d))
one_digit_more (suc (suc (suc (suc (suc zero))))) number digit l n b d = (omega (arith, b, d), omega arith, omega (arith, b, d))
one_digit_more (suc (suc (suc (suc (suc (suc zero)))))) number digit l n b d = (omega (arith, b, d), omega arith, omega (arith, b, d))
one_digit_more (suc (suc (suc (suc (suc (suc (suc zero))))))) number digit l n b d = (omega (arith, b, d), omega arith, omega (arith, b, d))
one_digit_more (suc (suc (suc (suc (suc (suc (suc (suc more)))))))) number digit l n b d = absurd (omega (arith, l))
