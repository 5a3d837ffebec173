use Rattle.std.proofs.Common.{inl, inr}
use Rattle.store_values.proofs.file_lookup.key_of_image.Goals as goal

pub returns-in-Err-subkey_names : goal.returns-in-Err-subkey_names
returns-in-Err-subkey_names c = λ cells shows. inr (c.in-Ok.at, (c.in-Ok.ensures cells shows).0, c.in-Err-subkey_names.error, inl (c.in-Err-subkey_names.ensures cells shows), c.refusal_of-in-Err-subkey_names.ensures)

pub returns-in-Err-read_key : goal.returns-in-Err-read_key
returns-in-Err-read_key c = λ cells shows. inr (c.in-Ok.at, (c.in-Ok.ensures cells shows).0, c.in-Err-read_key.error, inr (c.in-Err-read_key.ensures cells shows), c.refusal_of-in-Err-read_key.ensures)
