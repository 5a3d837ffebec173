-- The date of a moment.
use Rattle.std.proofs.Common.{◌≡◌, ℕ, Bool, false, ◌++◌, Option, Some, ◌∙◌, ap, codes}
use Rattle.std.specs.Prelude.{◌^◌, ◌<◌, ℤ, pos, ◌-ℤ◌, ◌*ℤ◌}
use Rattle.std.specs.Int.{w128}
use Rattle.std.proofs.Common.{to_z, of_z, SFits, arith}
use Rattle.std.proofs.lemmas.Int.{ints, to_z-of_z}
use Rattle.reg_export.specs.Moments.{nanos_of}
use Rattle.jiff_core.specs.declared.civil.datetime.DateTime.{DateTime}
use Rattle.jiff_fmt.specs.Text.{datetime_text, zulu_text}

abbrev Options : Type 0
Options = Bool × ℕ × Option ℕ

pub shown : (dt : DateTime) (one two : Options) (places : Option ℕ) → two ≡ (one.0, one.1, Some 7) → one ≡ (false, 84, places) → datetime_text two.0 two.1 two.2 dt ++ zulu_text two.0 ≡ datetime_text false 84 (Some 7) dt ++ codes "Z"
shown dt one two places e f =
    ap (λ (o : Options). datetime_text o.0 o.1 o.2 dt ++ zulu_text o.0) e ∙ ap (λ (o : Options). datetime_text o.0 o.1 (Some 7) dt ++ zulu_text o.0) f

-- sums of numbers of 64 bits fit 128 bits
pub nanos : (time : ℕ) (wide : ℤ) → time < 2 ^ 64 → wide ≡ pos time → to_z w128 (of_z w128 (to_z w128 (of_z w128 (to_z w128 (of_z w128 wide) -ℤ pos 116_444_736_000_000_000)) *ℤ pos 100)) ≡ nanos_of time
nanos time wide small e =
    let c = pos 116_444_736_000_000_000 in
    let f1 : SFits w128 (pos time) = omega (arith, ints) in
    let f2 : SFits w128 (pos time -ℤ c) = omega (arith, ints) in
    let f3 : SFits w128 ((pos time -ℤ c) *ℤ pos 100) = omega (arith, ints) in
    ap (λ z. to_z w128 (of_z w128 (to_z w128 (of_z w128 (to_z w128 (of_z w128 z) -ℤ c)) *ℤ pos 100))) e
    ∙ ap (λ z. to_z w128 (of_z w128 (to_z w128 (of_z w128 (z -ℤ c)) *ℤ pos 100))) (to_z-of_z w128 (pos time) f1)
    ∙ ap (λ z. to_z w128 (of_z w128 (z *ℤ pos 100))) (to_z-of_z w128 (pos time -ℤ c) f2)
    ∙ to_z-of_z w128 ((pos time -ℤ c) *ℤ pos 100) f3
