use Rattle.std.proofs.Common.{◌≡◌, length, rules}
use Rattle.hive_recovery.proofs.Clean.{made_clean, made_numbered}
use Rattle.hive_recovery.proofs.sector.recovered.Goals as goal

pub returns-clause-clean : goal.returns-clause-clean
returns-clause-clean c =
    let long : length c.args.sector.now ≡ 512 = first_of (search (rules, c.told-sector), search (rules, c.fits-sector), search rules) in
    made_clean c.args.sector.now c.args.number.0 c.args.bins_size c.put_fields.new.made c.summed.result c.put_u32.new.made c.sum-its_sum.result long c.put_fields.ensures.fits c.put_fields.ensures.put c.summed.ensures c.sum-its_sum.ensures c.put_u32.ensures.fits c.put_u32.ensures.put

pub returns-clause-numbered : goal.returns-clause-numbered
returns-clause-numbered c =
    let long : length c.args.sector.now ≡ 512 = first_of (search (rules, c.told-sector), search (rules, c.fits-sector), search rules) in
    made_numbered c.args.sector.now c.args.number.0 c.args.bins_size c.put_fields.new.made c.put_u32.new.made c.sum-its_sum.result long c.put_fields.ensures.fits c.put_fields.ensures.put c.put_u32.ensures.put
