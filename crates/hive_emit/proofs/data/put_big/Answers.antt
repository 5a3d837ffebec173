use Rattle.std.proofs.Common.{◌≡◌, ◌+◌, ◌*◌, ◌++◌, ℕ, length, arith, ◌∙◌, ap, subst}
use Rattle.hive_records.specs.Fields.{u16_bytes, u32_bytes}
use Rattle.hive_records.specs.ListEncodings.{offsets_bytes}
use Rattle.hive_emit.specs.CellWrites.{Makes, Puts, cell_cost}
use Rattle.hive_emit.proofs.Datas.{in_big}
use Rattle.hive_records.proofs.WordsAgain.{offsets_length}
use Rattle.hive_emit.specs.CellCosts.{segments_cost, apart_cost}
use Rattle.hive_emit.proofs.NewCells.{uses_more, both_used, lands_used, stops_later, stops_more}
use Rattle.hive_emit.proofs.Sums.{big_cost, segments_most}
use Rattle.hive_emit.proofs.data.put_big.Goals as goal

pub returns-in-Ok-put_cell-2-clause-made : goal.returns-in-Ok-put_cell-2-clause-made
returns-in-Ok-put_cell-2-clause-made c =
    let listing : c.deref-2.result.now ≡ offsets_bytes c.in-Ok.cell_offsets.items = c.deref-2.ensures.value ∙ c.in_ok-put_offsets.ensures ∙ ap (λ xs. xs ++ offsets_bytes c.deref.result.now) c.clear.ensures.items ∙ ap offsets_bytes c.deref.ensures.value in
    let leads : c.deref-3.result.now ≡ u16_bytes 0x6264 ++ u16_bytes (length c.in-Ok.cell_offsets.items) ++ u32_bytes c.in-Ok-put_cell.at = c.deref-3.ensures.value ∙ c.in_ok-put_big_data.ensures ∙ ap (λ xs. xs ++ (u16_bytes 0x6264 ++ u16_bytes c.len-2.result ++ u32_bytes c.in-Ok-put_cell.at)) c.clear-2.ensures.items ∙ ap (λ n. u16_bytes 0x6264 ++ u16_bytes n ++ u32_bytes c.in-Ok-put_cell.at) (omega (arith, c.len-2.ensures)) in
    in_big c.args.image.now.bytes c.put_segments.new.image.bytes c.put_cell.new.image.bytes c.put_cell-2.new.image.bytes c.in-Ok.cell_offsets.items c.args.content.now c.in-Ok-put_cell.at c.in-Ok-put_cell-2.to c.deref-3.result.now
    c.requires.many c.requires.few c.in-Ok.ensures.count leads c.in-Ok.ensures.made
    (subst (λ t. Makes c.put_segments.new.image.bytes c.put_cell.new.image.bytes (Puts c.in-Ok-put_cell.at t)) listing c.in-Ok-put_cell.ensures.0)
    c.in-Ok-put_cell-2.ensures.0

pub returns-in-Ok-put_cell-2-clause-uses : goal.returns-in-Ok-put_cell-2-clause-uses
returns-in-Ok-put_cell-2-clause-uses c =
    let len : ℕ = length c.args.content.now in
    let list : c.len.result ≡ 4 * length c.in-Ok.cell_offsets.items = omega (arith, c.len.ensures, ap length (c.in_ok-put_offsets.ensures ∙ ap (λ xs. xs ++ offsets_bytes c.deref.result.now) c.clear.ensures.items ∙ ap offsets_bytes c.deref.ensures.value), offsets_length c.in-Ok.cell_offsets.items) in
    let leads : c.len-3.result ≡ 8 = omega (arith, c.len-3.ensures, ap length (c.in_ok-put_big_data.ensures ∙ ap (λ xs. xs ++ (u16_bytes 0x6264 ++ u16_bytes c.len-2.result ++ u32_bytes c.in-Ok-put_cell.at)) c.clear-2.ensures.items)) in
    let most = big_cost len (length c.in-Ok.cell_offsets.items) c.requires.many c.in-Ok.ensures.count in
    uses_more c.args.image.now.bytes c.put_cell-2.new.image.bytes (segments_cost len + cell_cost c.len.result + cell_cost c.len-3.result) (apart_cost len) (omega (arith, most, list, leads))
    (both_used c.args.image.now.bytes c.put_cell.new.image.bytes c.put_cell-2.new.image.bytes (segments_cost len + cell_cost c.len.result) (cell_cost c.len-3.result)
    (both_used c.args.image.now.bytes c.put_segments.new.image.bytes c.put_cell.new.image.bytes (segments_cost len) (cell_cost c.len.result) c.in-Ok.ensures.uses (lands_used c.put_segments.new.image.bytes c.put_cell.new.image.bytes c.in-Ok-put_cell.at (cell_cost c.len.result) c.in-Ok-put_cell.ensures.1))
    (lands_used c.put_cell.new.image.bytes c.put_cell-2.new.image.bytes c.in-Ok-put_cell-2.to (cell_cost c.len-3.result) c.in-Ok-put_cell-2.ensures.1))

pub returns-in-Err-clause-stops : goal.returns-in-Err-clause-stops
returns-in-Err-clause-stops c = stops_more c.args.image.now.bytes (segments_cost (length c.args.content.now)) (apart_cost (length c.args.content.now)) c.in-Err.why (segments_most (length c.args.content.now) c.requires.many) c.in-Err.ensures.stops

pub returns-in-Err-put_cell-clause-stops : goal.returns-in-Err-put_cell-clause-stops
returns-in-Err-put_cell-clause-stops c =
    let len : ℕ = length c.args.content.now in
    let list : c.len.result ≡ 4 * length c.in-Ok.cell_offsets.items = omega (arith, c.len.ensures, ap length (c.in_ok-put_offsets.ensures ∙ ap (λ xs. xs ++ offsets_bytes c.deref.result.now) c.clear.ensures.items ∙ ap offsets_bytes c.deref.ensures.value), offsets_length c.in-Ok.cell_offsets.items) in
    let most = big_cost len (length c.in-Ok.cell_offsets.items) c.requires.many c.in-Ok.ensures.count in
    stops_later c.args.image.now.bytes c.put_segments.new.image.bytes (segments_cost len) (cell_cost c.len.result) (apart_cost len) c.in-Err-put_cell.why (omega (arith, most, list)) c.in-Ok.ensures.uses c.in-Err-put_cell.ensures

pub returns-clause-stops : goal.returns-clause-stops
returns-clause-stops c =
    let len : ℕ = length c.args.content.now in
    let list : c.len.result ≡ 4 * length c.in-Ok.cell_offsets.items = omega (arith, c.len.ensures, ap length (c.in_ok-put_offsets.ensures ∙ ap (λ xs. xs ++ offsets_bytes c.deref.result.now) c.clear.ensures.items ∙ ap offsets_bytes c.deref.ensures.value), offsets_length c.in-Ok.cell_offsets.items) in
    let leads : c.len-3.result ≡ 8 = omega (arith, c.len-3.ensures, ap length (c.in_ok-put_big_data.ensures ∙ ap (λ xs. xs ++ (u16_bytes 0x6264 ++ u16_bytes c.len-2.result ++ u32_bytes c.in-Ok-put_cell.at)) c.clear-2.ensures.items)) in
    let most = big_cost len (length c.in-Ok.cell_offsets.items) c.requires.many c.in-Ok.ensures.count in
    stops_later c.args.image.now.bytes c.put_cell.new.image.bytes (segments_cost len + cell_cost c.len.result) (cell_cost c.len-3.result) (apart_cost len) c.in-Err-put_cell-2.why (omega (arith, most, list, leads))
    (both_used c.args.image.now.bytes c.put_segments.new.image.bytes c.put_cell.new.image.bytes (segments_cost len) (cell_cost c.len.result) c.in-Ok.ensures.uses (lands_used c.put_segments.new.image.bytes c.put_cell.new.image.bytes c.in-Ok-put_cell.at (cell_cost c.len.result) c.in-Ok-put_cell.ensures.1))
    c.in-Err-put_cell-2.ensures
