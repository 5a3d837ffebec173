use Rattle.std.proofs.Common.{◌&&◌, Bool, sym, ap, ◌∙◌}
use Rattle.reg_export.specs.NameTests.{are_chars}
use Rattle.reg_export.specs.CharLaws.{are_chars_none}
use Rattle.reg_export.proofs.Singles.{first_decides}
use Rattle.reg_export.proofs.characters.are_chars.Goals as goal

pub returns-then-not-is_char : goal.returns-then-not-is_char
returns-then-not-is_char c =
    let others = c.in-Some.others.now in
    ap (λ (b : Bool). b && are_chars others) c.if-not-is_char.ensures ∙ sym (first_decides c.in-Some.first others c.in-Some.ensures.first c.in-Some.ensures.whole)
    ∙ ap are_chars c.in-Some.ensures.parts ∙ c.loop-first.invariant

pub loop-first-preserved : goal.loop-first-preserved
loop-first-preserved c =
    let others = c.in-Some.others.now in
    ap (λ (b : Bool). b && are_chars others) c.if-not-is_char.ensures ∙ sym (first_decides c.in-Some.first others c.in-Some.ensures.first c.in-Some.ensures.whole)
    ∙ ap are_chars c.in-Some.ensures.parts ∙ c.loop-first.invariant

pub returns : goal.returns
returns c = sym (ap are_chars c.in_default.ensures.parts ∙ are_chars_none) ∙ c.loop-first.invariant
