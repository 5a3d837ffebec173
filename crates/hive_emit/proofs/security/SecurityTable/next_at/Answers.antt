use Rattle.std.proofs.Common.{◌≡◌, ◌<◌, length, ap, ◌∙◌, arith}
use Rattle.hive_emit.specs.KeyCosts.{securities_cost}
use Rattle.hive_emit.proofs.KeySums.{one_within}
use Rattle.hive_emit.proofs.security.SecurityTable.next_at.Goals as goal

pub security_len-requires : goal.security_len-requires
security_len-requires c =
    let h = c.in-Some.ensures.lookup in
    let same : securities_cost c.deref.result.now ≡ securities_cost c.args.self.now = ap securities_cost (c.deref.ensures.value ∙ c.self.view_is) in
    let inside : c.args.index < length c.deref.result.now = h.3.0 in
    omega (arith, one_within c.deref.result.now c.args.index c.in-Some.security.now inside h.1, same, c.requires)
