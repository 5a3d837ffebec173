use Rattle.std.proofs.Common.{Bool, List, ℕ, [], ap, if◌then◌else◌, ◌++◌, codes, refl}
use Rattle.hex.specs.Hex.{encode_lower}
use Rattle.reply_lines.proofs.Written.{appends_both}
use Rattle.key_walk.proofs.Rows.{on_ok}
use Rattle.reg_export.proofs.json_key.write_descriptor.Goals as goal

pub returns : goal.returns
returns g c =
    let text : List ℕ = codes ",\"descriptor\":\"" ++ encode_lower c.args.bytes.now ++ codes "\"" in
    let fields = appends_both _ _ _ _ _ _ c.in_ok-write_all.ensures.bytes c.in_ok-write_hex.ensures refl in
    on_ok c.write_all-2.result (λ end. appends_both _ _ _ _ _ _ fields end (ap (λ (empty : Bool). if empty then [] else text) c.if-is_empty.ensures)) c.write_all-2.ensures.bytes
