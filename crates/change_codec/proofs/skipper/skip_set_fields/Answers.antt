use Rattle.change_codec.specs.Readers.{both, number_at, string_at}
use Rattle.change_codec.specs.Encoding.{value_name_at}
use Rattle.change_codec.proofs.Taken.{both_some}
use Rattle.change_codec.proofs.skipper.skip_set_fields.Goals as goal

pub returns : goal.returns
returns c =
    let name = c.in_ok-rest in
    let kind = c.in_ok-rest-2 in
    let bytes = c.in_ok-rest-3 in (
      (name.field-0-0.now, (kind.field-0-0, bytes.field-0-0.now)),
      both_some value_name_at (both (number_at 4) (string_at 4)) c.args.bytes.now name.field-0-0.now name.rest.now _ bytes.rest.now name.ensures
          (both_some (number_at 4) (string_at 4) name.rest.now kind.field-0-0 kind.rest.now bytes.field-0-0.now bytes.rest.now kind.ensures bytes.ensures),
    )
