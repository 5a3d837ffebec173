use Rattle.std.proofs.Common.{◌+◌, ◌-◌, arith}
use Rattle.change_codec.proofs.OneHive.{none_yet, there_is, one_more, all_made}
use Rattle.change_codec.proofs.one_hive.take_ops_on.Goals as goal

pub loop-taken-init : goal.loop-taken-init
loop-taken-init c = none_yet c.args.hive c.args.count c.args.bytes.now (c.args.count - 0) _ (omega arith) c.new-made.ensures.items

pub take_if_on-requires : goal.take_if_on-requires
take_if_on-requires c =
    let l = c.loop-taken in
    there_is c.args.hive c.args.count c.args.bytes.now (c.args.count - l._taken) (c.args.count - (l._taken + 1)) l.rest.now l.made.items l.invariant (omega arith) c.requires

pub loop-taken-preserved : goal.loop-taken-preserved
loop-taken-preserved c =
    let l = c.loop-taken in
    let got = c.in_ok-rest.ensures in
    one_more c.args.hive c.args.count c.args.bytes.now (c.args.count - l._taken) (c.args.count - (l._taken + 1)) l.rest.now l.made.items l.invariant (omega arith) got.0 c.in_ok-rest.rest.now c.take_if_on.new.made.items got.1 got.2

pub returns : goal.returns
returns c =
    let l = c.loop-taken in
    λ ops has. all_made c.args.hive c.args.count c.args.bytes.now (c.args.count - l._taken) l.rest.now l.made.items ops l.invariant (omega arith) has
