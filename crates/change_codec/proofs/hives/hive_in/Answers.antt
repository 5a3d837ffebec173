use Rattle.std.proofs.Common.{◌∙◌, List, ℕ, ap, sym}
use Rattle.change_codec.specs.Readers.{both, number_at}
use Rattle.change_codec.specs.Encoding.{hive_at, path_at, head_at, by_kind}
use Rattle.change_codec.proofs.Operations.{kind_law}
use Rattle.change_codec.proofs.ChangeBytes.{split, both_split, one_reading}
use Rattle.change_codec.proofs.hives.hive_in.Goals as goal

pub returns : goal.returns
returns c = λ op rest got.
    let (head, behind, is_head, is_tail) = split (head_at 256) (λ x. by_kind x.0 x.1.0 x.1.1) c.args.bytes.now (op, rest) got in
    let kind = both_split (number_at 1) (both (hive_at 256) path_at) c.args.bytes.now (head, behind) is_head in
    let hive = both_split (hive_at 256) path_at kind.0 (head.1, behind) kind.2 in
    let there = ap (λ (p : ℕ × List ℕ). hive_at 256 p.1) (one_reading _ _ _ c.in-Some.ensures kind.1) in
    ap (λ (p : ℕ × List ℕ). p.0) (one_reading _ _ _ c.in-Some-first_hive.ensures (there ∙ hive.1))
    ∙ sym (ap (λ (x : ℕ × (ℕ × List (List ℕ))). x.1.0) ((kind_law head.0 head.1.0 head.1.1).back behind op rest is_tail).1.0)
