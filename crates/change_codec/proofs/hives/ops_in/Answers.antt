use Rattle.std.proofs.Common.{◌≡◌, ◌∙◌, ap, sym, ℕ, List, Some}
use Rattle.std.proofs.lemmas.Option.{none-some}
use Rattle.change_codec.specs.Readers.{repeat, number_at}
use Rattle.change_codec.specs.Encoding.{op_at}
use Rattle.change_codec.specs.Changes.{change_in}
use Rattle.change_codec.proofs.ChangeBytes.{Fields, fields_of, one_reading}
use Rattle.change_codec.proofs.hives.ops_in.Goals as goal

pub unreachable-requires : goal.unreachable-requires
unreachable-requires c = let f = fields_of c.args.encoding.now c.requires in none-some _ (sym c.in_default.ensures ∙ f.is_len)

pub unreachable-requires-in_default-first_u64 : goal.unreachable-requires-in_default-first_u64
unreachable-requires-in_default-first_u64 c =
    let f = fields_of c.args.encoding.now c.requires in
    let second = ap (λ (p : ℕ × List ℕ). number_at 8 p.1) (one_reading _ _ _ c.in-Some.ensures f.is_len) in
    none-some _ (sym c.in_default-first_u64.ensures ∙ second ∙ f.is_moment)

-- what is read after the length and the moment
behind : (bytes : List ℕ) (f : Fields bytes) (x y : ℕ × List ℕ) → number_at 4 bytes ≡ Some x → number_at 8 x.1 ≡ Some y → number_at 4 y.1 ≡ Some (f.count, f.encodings)
behind bytes f x y one two =
    let second = ap (λ (p : ℕ × List ℕ). number_at 8 p.1) (one_reading _ _ _ one f.is_len) in
    ap (λ (p : ℕ × List ℕ). number_at 4 p.1) (one_reading _ _ _ two (second ∙ f.is_moment)) ∙ f.is_count

pub unreachable-requires-in_default-first_u32 : goal.unreachable-requires-in_default-first_u32
unreachable-requires-in_default-first_u32 c =
    let f = fields_of c.args.encoding.now c.requires in
    none-some _ (sym c.in_default-first_u32.ensures ∙ behind c.args.encoding.now f _ _ c.in-Some.ensures c.in-Some-first_u64.ensures)

-- the operations that are read there
read : (bytes : List ℕ) (f : Fields bytes) (x y z : ℕ × List ℕ) → number_at 4 bytes ≡ Some x → number_at 8 x.1 ≡ Some y → number_at 4 y.1 ≡ Some z → repeat z.0 (op_at 256) z.1 ≡ Some ((change_in bytes).ops, f.behind)
read bytes f x y z one two three =
    ap (λ (p : ℕ × List ℕ). repeat p.0 (op_at 256) p.1) (one_reading _ _ _ three (behind bytes f x y one two)) ∙ f.are_ops

pub returns : goal.returns
returns c =
    let f = fields_of c.args.encoding.now c.requires in
    (f.behind, read c.args.encoding.now f _ _ _ c.in-Some.ensures c.in-Some-first_u64.ensures c.in-Some-first_u32.ensures)
