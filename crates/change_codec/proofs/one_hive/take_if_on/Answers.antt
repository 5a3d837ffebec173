use Rattle.std.proofs.Common.{◌∙◌, sym}
use Rattle.change_codec.proofs.OneHive.{of_other, of_hive}
use Rattle.change_codec.proofs.one_hive.take_if_on.Goals as goal

pub returns-then-hive_in-hive : goal.returns-then-hive_in-hive
returns-then-hive_in-hive c =
    let got = c.in-Some.ensures in
    (got.0, got.1, of_other c.args.hive got.0 c.args.made.now.items (λ here. c.if-hive_in-hive.true (c.hive_in.ensures got.0 c.in-Some.rest.now got.1 ∙ here)))

pub returns-in_ok-push-in-Ok : goal.returns-in_ok-push-in-Ok
returns-in_ok-push-in-Ok c =
    let got = c.in-Ok.ensures in
    let here = sym (c.hive_in.ensures c.in-Ok.op c.in-Ok.rest.now got) ∙ c.if-hive_in-hive.false in
    (c.in-Ok.op, got, of_hive c.args.hive c.in-Ok.op c.args.made.now.items c.push.new.self.items here c.in_ok-push-in-Ok.ensures.items)
