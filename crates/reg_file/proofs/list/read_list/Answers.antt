use Rattle.std.proofs.Common.{◌∙◌, sym, ap, ◌∷◌, true, false}
use Rattle.reg_file.proofs.Scans.{list_more, list_behind}
use Rattle.reg_file.proofs.list.read_list.Goals as goal

pub returns-then-ends_statement-2 : goal.returns-then-ends_statement-2
returns-then-ends_statement-2 c =
    list_behind c.loop-unit.bytes c.push.new.self c.in-Some.unit.now c.in-Some-pair.byte c.in-Some-split_first.comma.now c.in-Some.others.now c.loop-unit.rest.now c.in-Some-pair.behind.now c.in-Some-split_first.more.now true
    (c.in-Some.ensures.cases).0 (sym c.is_blank.ensures ∙ c.if-is_blank.false) c.if-unit-eq92.false (sym c.in-Some-pair.ensures.found) c.in_ok-push.ensures (c.in-Some-split_first.ensures.cases).0 c.if-comma-ne44.true c.if-ends_statement-2.ensures
    ∙ c.loop-unit.invariant

pub returns-else-ends_statement-2 : goal.returns-else-ends_statement-2
returns-else-ends_statement-2 c =
    list_behind c.loop-unit.bytes c.push.new.self c.in-Some.unit.now c.in-Some-pair.byte c.in-Some-split_first.comma.now c.in-Some.others.now c.loop-unit.rest.now c.in-Some-pair.behind.now c.in-Some-split_first.more.now false
    (c.in-Some.ensures.cases).0 (sym c.is_blank.ensures ∙ c.if-is_blank.false) c.if-unit-eq92.false (sym c.in-Some-pair.ensures.found) c.in_ok-push.ensures (c.in-Some-split_first.ensures.cases).0 c.if-comma-ne44.true c.if-ends_statement-2.ensures
    ∙ c.loop-unit.invariant

pub loop-unit-preserved : goal.loop-unit-preserved
loop-unit-preserved c =
    list_more c.loop-unit.bytes c.push.new.self c.in-Some.unit.now c.in-Some-pair.byte c.in-Some.others.now c.loop-unit.rest.now c.in-Some-pair.behind.now c.in-Some-split_first.more.now
    (c.in-Some.ensures.cases).0 (sym c.is_blank.ensures ∙ c.if-is_blank.false) c.if-unit-eq92.false (sym c.in-Some-pair.ensures.found) c.in_ok-push.ensures ((c.in-Some-split_first.ensures.cases).0 ∙ ap (λ unit. unit ∷ c.in-Some-split_first.more.now) c.if-comma-ne44.false)
    ∙ c.loop-unit.invariant
