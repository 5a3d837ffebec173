use Rattle.std.proofs.Common.{◌≡◌, ◌∙◌, ◌++◌, [], ◌∷◌, ℕ, ◌+◌, ◌^◌, ◌<◌, List, length, ap, sym, refl, arith, append_assoc, length-append}
use Rattle.std.specs.List.{AllByRecursion, flat_map}
use Rattle.std.proofs.lemmas.Result.{on_ok_weaker}
use Rattle.std.proofs.lemmas.List.Concat.{flat_map-append}
use Rattle.byteorder.specs.Endian.{little_bytes}
use Rattle.reg_tree.specs.declared.op.Op.{Op}
use Rattle.reg_tree.specs.Operations.{hive_of}
use Rattle.reg_tree.specs.Encodings.{ops_encoded_len}
use Rattle.change_codec.specs.Encoding.{op_bytes, HasEncoding, Fits}
use Rattle.change_codec.proofs.Lengths.{as_many, ops_in_two}
use Rattle.change_codec.proofs.May.{may_fit, in_a_byte}
use Rattle.change_codec.proofs.encoder.write_change.Goals as goal

joined : (a l m c f g b1 b2 b3 b4 b5 : List ℕ) → b1 ≡ a ++ l → b2 ≡ b1 ++ m → b3 ≡ b2 ++ c → b4 ≡ b3 ++ f → b5 ≡ b4 ++ g → b5 ≡ a ++ (l ++ (m ++ (c ++ (f ++ g))))
joined a l m c f g b1 b2 b3 b4 b5 p q r s t =
    t ∙ ap (λ (x : List ℕ). x ++ g) s ∙ ap (λ (x : List ℕ). x ++ f ++ g) r ∙ ap (λ (x : List ℕ). x ++ c ++ f ++ g) q ∙ ap (λ (x : List ℕ). x ++ m ++ c ++ f ++ g) p
    ∙ append_assoc (a ++ l ++ m ++ c) f g ∙ append_assoc (a ++ l ++ m) c (f ++ g) ∙ append_assoc (a ++ l) m (c ++ (f ++ g)) ∙ append_assoc a l (m ++ (c ++ (f ++ g)))

both : {X : Type 0} (P : X → Type 0) (xs ys : List X) → AllByRecursion P xs → AllByRecursion P ys → AllByRecursion P (xs ++ ys)
both P [] ys a b = b
both P (x ∷ xs) ys a b = (a.0, both P xs ys a.1 b)

-- how many operations both lists have
few : (ops more : List Op) (len : ℕ) → len ≡ 16 + ops_encoded_len (ops ++ more) → len < 2 ^ 32 → length ops + length more < 2 ^ 32
few ops more len is short = omega (arith, is, short, ops_in_two ops more, as_many ops, as_many more)

many : (ops more : List Op) → length (ops ++ more) ≡ length ops + length more
many ops more = length-append ops more

pub overflow_add-ops : goal.overflow_add-ops
overflow_add-ops c = omega (arith, few c.args.ops.now c.args.more.now c.args.len c.requires.len c.ranges.len.fits)

pub overflow_cast-ops : goal.overflow_cast-ops
overflow_cast-ops c = omega (arith, few c.args.ops.now c.args.more.now c.args.len c.requires.len c.ranges.len.fits)

pub returns-clause-encoding : goal.returns-clause-encoding
returns-clause-encoding c =
    let ops = c.args.ops.now in
    let more = c.args.more.now in
    on_ok_weaker c.write_ops-2.result (λ encoding.
    joined c.args.bytes.now.items (little_bytes 4 (16 + ops_encoded_len (ops ++ more))) (little_bytes 8 c.args.moment) (little_bytes 4 (length (ops ++ more))) (flat_map op_bytes ops) (flat_map op_bytes more) _ _ _ _ _
    (c.in_ok-put_u32.ensures ∙ ap (λ (n : ℕ). c.args.bytes.now.items ++ little_bytes 4 n) c.requires.len)
    c.in_ok-put_u64.ensures
    (c.in_ok-put_u32-2.ensures ∙ ap (λ (n : ℕ). c.put_u64.new.bytes.items ++ little_bytes 4 n) (sym (many ops more)))
    c.in_ok-write_ops.ensures.encoding
    encoding
    ∙ ap (λ (x : List ℕ). c.args.bytes.now.items ++ (little_bytes 4 (16 + ops_encoded_len (ops ++ more)) ++ (little_bytes 8 c.args.moment ++ (little_bytes 4 (length (ops ++ more)) ++ x)))) (sym (flat_map-append op_bytes ops more)))
    c.write_ops-2.ensures.encoding

fit : (moment : ℕ) (ops : List Op) (hives : ℕ) → 0 < length ops → AllByRecursion HasEncoding ops → AllByRecursion (λ op. hive_of op < hives) ops → moment < 256 ^ 8 → 16 + ops_encoded_len ops < 256 ^ 4 → Fits hives (record { moment = moment; ops = ops })
fit moment ops hives some has there small short = may_fit hives (record { moment = moment; ops = ops }) (omega (arith, some)) has there small short

some : (ops more : List Op) → 0 < length ops → 0 < length (ops ++ more)
some ops more is = omega (arith, is, many ops more)

pub returns-clause-fits : goal.returns-clause-fits
returns-clause-fits c =
    let ops = c.args.ops.now in
    let more = c.args.more.now in
    on_ok_weaker c.write_ops-2.result (λ has hives there. fit c.args.moment (ops ++ more) hives (some ops more c.requires.some) (both HasEncoding ops more c.in_ok-write_ops.ensures.has has) there (omega arith) (omega (arith, c.requires.len, c.ranges.len.fits))) c.write_ops-2.ensures.has

pub returns-clause-all : goal.returns-clause-all
returns-clause-all c =
    let ops = c.args.ops.now in
    let more = c.args.more.now in
    on_ok_weaker c.write_ops-2.result (λ has. let had = both HasEncoding ops more c.in_ok-write_ops.ensures.has has in fit c.args.moment (ops ++ more) 256 (some ops more c.requires.some) had (in_a_byte (ops ++ more) had) (omega arith) (omega (arith, c.requires.len, c.ranges.len.fits))) c.write_ops-2.ensures.has
