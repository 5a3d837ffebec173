use Rattle.std.proofs.Common.{◌∷◌, ap, ◌∙◌, arith, inl, inr, sym, ◌<◌, ◌≤◌, ◌⊎◌}
use Rattle.std.specs.Char.{InScalarRange}
use Rattle.std.specs.Char.Utf16.{utf16_chars}
use Rattle.std.proofs.lemmas.Str.{utf16_chars-nil}
use Rattle.reg_export.specs.ByteUnits.{units_of}
use Rattle.reg_export.specs.CharLaws.{it_is, plain, second, apart, last, pair}
use Rattle.value_syntax.proofs.characters.first_char.Goals as goal

pub returns-in_default-clause-chars : goal.returns-in_default-clause-chars
returns-in_default-clause-chars c = ap utf16_chars c.in_default.ensures.parts ∙ utf16_chars-nil

pub returns-then-high-lt55296-clause-chars : goal.returns-then-high-lt55296-clause-chars
returns-then-high-lt55296-clause-chars c =
    let u = c.code_of-high.result in
    let bound : u < 0x1_0000 = c.code_of-high.ensures.bound in
    let either : (u < 0xd800) ⊎ (0xe000 ≤ u) = elim c.then-high-lt55296.either [ inl low ↦ inl low | inr high ↦ inr high.1 ] in
    let scalar : InScalarRange u = elim either [ inl low ↦ inl low | inr high ↦ inr (high, omega arith) ] in
    ap utf16_chars (c.in-Some.ensures.parts ∙ ap (λ unit. unit ∷ units_of c.in-Some.rest.now) (sym c.code_of-high.ensures.same))
    ∙ plain u (units_of c.in-Some.rest.now) c.from_u32.result either (it_is _ c.from_u32.result u c.from_u32.ensures.value c.from_u32.ensures.cases scalar)

pub returns-then-high-ge56320-clause-chars : goal.returns-then-high-ge56320-clause-chars
returns-then-high-ge56320-clause-chars c =
    ap utf16_chars (c.in-Some.ensures.parts ∙ ap (λ unit. unit ∷ units_of c.in-Some.rest.now) (sym c.code_of-high.ensures.same))
    ∙ second c.code_of-high.result (units_of c.in-Some.rest.now) (omega arith) (omega arith)

pub returns-then-low-lt56320-clause-chars : goal.returns-then-low-lt56320-clause-chars
returns-then-low-lt56320-clause-chars c =
    let v = c.code_of-low.result in
    let either : (v < 0xdc00) ⊎ (0xe000 ≤ v) = elim c.then-low-lt56320.either [ inl low ↦ inl low | inr high ↦ inr high.1 ] in
    ap utf16_chars (c.in-Some.ensures.parts ∙ ap (λ unit. unit ∷ units_of c.in-Some.rest.now) (sym c.code_of-high.ensures.same))
    ∙ apart c.code_of-high.result v (units_of c.in-Some.rest.now) (units_of c.in-Some-first_unit.others.now) (omega arith) (omega arith)
    (c.in-Some-first_unit.ensures.parts ∙ ap (λ unit. unit ∷ units_of c.in-Some-first_unit.others.now) (sym c.code_of-low.ensures.same)) either

pub returns-else-low-ge57344-clause-chars : goal.returns-else-low-ge57344-clause-chars
returns-else-low-ge57344-clause-chars c =
    let u = c.code_of-high.result in
    let v = c.code_of-low.result in
    let from : 0xd800 ≤ u = omega arith in
    let below : u < 0xdc00 = omega arith in
    let low : 0xdc00 ≤ v = omega arith in
    let high : v < 0xe000 = omega arith in
    let found = it_is _ c.from_u32-in-Some-first_unit.result _ c.from_u32-in-Some-first_unit.ensures.value c.from_u32-in-Some-first_unit.ensures.cases (inr (omega arith, omega arith)) in
    ap utf16_chars (c.in-Some.ensures.parts ∙ ap (λ unit. unit ∷ units_of c.in-Some.rest.now) (sym c.code_of-high.ensures.same))
    ∙ pair u v (units_of c.in-Some.rest.now) (units_of c.in-Some-first_unit.others.now) c.from_u32-in-Some-first_unit.result from below low high
    (c.in-Some-first_unit.ensures.parts ∙ ap (λ unit. unit ∷ units_of c.in-Some-first_unit.others.now) (sym c.code_of-low.ensures.same)) found

pub returns-in-None-clause-chars : goal.returns-in-None-clause-chars
returns-in-None-clause-chars c =
    ap utf16_chars (c.in-Some.ensures.parts ∙ ap (λ unit. unit ∷ units_of c.in-Some.rest.now) (sym c.code_of-high.ensures.same))
    ∙ last c.code_of-high.result (units_of c.in-Some.rest.now) (omega arith) (omega arith) c.in-None.ensures.parts
