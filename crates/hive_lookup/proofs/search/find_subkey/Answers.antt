use Rattle.std.proofs.Common.{inl, inr}
use Rattle.reg_names.specs.Names.{folded}
use Rattle.hive_lookup.specs.declared.list_kind.ListKind.TheVariants.{Subkeys}
use Rattle.hive_lookup.specs.Lookups.{ListsNone, SearchBreaks}
use Rattle.hive_lookup.proofs.Searches.{still_read, tells}
use Rattle.hive_lookup.proofs.search.find_subkey.Goals as goal

pub returns-in-Err-record_name : goal.returns-in-Err-record_name
returns-in-Err-record_name c = λ cells shows.
    let name = folded c.args.name.now in
    tells (ListsNone Subkeys cells c.args.key name) (SearchBreaks Subkeys cells c.args.key name) c.in-Ok.at c.in-Err-record_name.refusal c.refused_at.result c.refused_at.ensures
    (elim (c.in-Err-record_name.ensures cells shows) [
      | inl e ↦ inl e
      | inr e ↦ absurd (still_read Subkeys cells c.args.key name c.in-Ok.at c.in-Err-record_name.refusal (c.in-Ok.ensures cells shows) e)
    ])

pub returns-in-Ok-record_name : goal.returns-in-Ok-record_name
returns-in-Ok-record_name c = λ cells shows. (c.in-Ok.ensures cells shows, c.in-Ok-record_name.ensures cells shows)
