use Rattle.std.proofs.Common.{◌≡◌, ◌∙◌, ◌+◌, ◌++◌, List, ℕ, length, ap, arith}
use Rattle.std.specs.List.{flat_map}
use Rattle.byteorder.specs.Endian.{little_bytes}
use Rattle.change_codec.specs.Encoding.{element_bytes}
use Rattle.commit_journal.proofs.Batches.{as_many, encodings_length}
use Rattle.commit_journal.proofs.body.encode.Goals as goal

pub overflow_cast-elements : goal.overflow_cast-elements
overflow_cast-elements c = omega (arith, as_many c.args.elements.now, c.requires.size, c.requires.most)

pub returns-clause-encoding : goal.returns-clause-encoding
returns-clause-encoding c =
    let es = c.args.elements.now in
    let all = flat_map element_bytes es in
    let size : c.args.size ≡ 16 + length all = omega (arith, c.requires.size, encodings_length es) in
    c.in_ok-write_all.ensures.encoding
    ∙ ap (λ (b : List ℕ). b ++ all) (c.in_ok-put_u32-2.ensures ∙ ap (λ (b : List ℕ). b ++ little_bytes 4 (length es)) (c.in_ok-put_u64.ensures
    ∙ ap (λ (b : List ℕ). b ++ little_bytes 8 c.args.first) (c.in_ok-put_u32.ensures ∙ ap (λ (b : List ℕ). b ++ little_bytes 4 c.args.size) c.in_ok-body.ensures.items)))
    ∙ ap (λ (n : ℕ). little_bytes 4 n ++ little_bytes 8 c.args.first ++ little_bytes 4 (length es) ++ all) size
