use Rattle.std.proofs.Common.{◌∙◌, List, ℕ, ap, sym}
use Rattle.std.proofs.lemmas.Option.{none-some}
use Rattle.change_codec.specs.Readers.{number_at}
use Rattle.change_codec.proofs.ChangeBytes.{fields_of, one_reading}
use Rattle.change_codec.proofs.hives.moment_in.Goals as goal

pub unreachable-requires : goal.unreachable-requires
unreachable-requires c = let f = fields_of c.args.encoding.now c.requires in none-some _ (sym c.in_default.ensures ∙ f.is_len)

pub unreachable-requires-in_default-first_u64 : goal.unreachable-requires-in_default-first_u64
unreachable-requires-in_default-first_u64 c =
    let f = fields_of c.args.encoding.now c.requires in
    let second = ap (λ (p : ℕ × List ℕ). number_at 8 p.1) (one_reading _ _ _ c.in-Some.ensures f.is_len) in
    none-some _ (sym c.in_default-first_u64.ensures ∙ second ∙ f.is_moment)

pub returns : goal.returns
returns c =
    let f = fields_of c.args.encoding.now c.requires in
    let second = ap (λ (p : ℕ × List ℕ). number_at 8 p.1) (one_reading _ _ _ c.in-Some.ensures f.is_len) in
    ap (λ (p : ℕ × List ℕ). p.0) (one_reading _ _ _ c.in-Some-first_u64.ensures (second ∙ f.is_moment)) ∙ f.of_moment
