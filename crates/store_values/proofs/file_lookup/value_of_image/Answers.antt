use Rattle.std.proofs.Common.{inr}
use Rattle.store_values.proofs.file_lookup.value_of_image.Goals as goal

pub returns-in-Err-read_value : goal.returns-in-Err-read_value
returns-in-Err-read_value c = λ cells shows. inr (c.in-Ok.key, (c.in-Ok.ensures cells shows).0, c.in-Err-read_value.error, c.in-Err-read_value.ensures cells shows, c.refusal_of-in-Err-read_value.ensures)
