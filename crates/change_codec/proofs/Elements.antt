-- The encoding of an accepted change.
use Rattle.std.proofs.Common.{sym, ◌≡◌, ℕ, ◌+◌, ◌^◌, ◌<◌, ◌≤◌, Bool, true, List, ◌++◌, length, ap, subst, ◌∙◌, arith, length-append, Option, Some, None}
use Rattle.std.specs.Prelude.{if◌then◌else◌, ◌==◌, ◌&&◌, nat_le}
use Rattle.std.specs.Option.{option_and_then}
use Rattle.std.specs.List.{AllByRecursion}
use Rattle.std.proofs.lemmas.Bool.{le-leb, leb-true, eqb-true, eq-eqb, and_parts, and_from}
use Rattle.std.proofs.lemmas.Option.{same_Some, option_and_then_some}
use Rattle.byteorder.specs.Endian.{little_bytes}
use Rattle.reg_tree.specs.declared.op.Op.{Op}
use Rattle.reg_tree.specs.declared.element.Element.{Element}
use Rattle.reg_tree.specs.Encodings.{element_encoded_len}
use Rattle.change_codec.specs.Readers.{both, number_at, counted_at, IsEncoding}
use Rattle.change_codec.specs.Encoding.{counted, op_bytes, element_bytes, OpFits, Fits, op_at, fields_at, made, whole, element_at}
use Rattle.change_codec.proofs.Numbers.{number, let_through}
use Rattle.change_codec.proofs.Combined.{both_law, counted_law}
use Rattle.change_codec.proofs.Operations.{op_law}
use Rattle.change_codec.proofs.Lengths.{fields_length, element_length, as_many}

abbrev Fields : Type 0
Fields = ℕ × (ℕ × List Op)

abbrev fields_bytes : Fields → List ℕ
fields_bytes x = little_bytes 4 x.0 ++ (little_bytes 8 x.1.0 ++ counted 4 op_bytes x.1.1)

module _ (hives : ℕ) (most : hives ≤ 256) where
  abbrev FieldsFit : Fields → Type 0
  FieldsFit x = (x.0 < 256 ^ 4) × ((x.1.0 < 256 ^ 8) × ((length x.1.1 < 256 ^ 4) × AllByRecursion (OpFits hives) x.1.1))

  fields_law : IsEncoding (fields_at hives) fields_bytes FieldsFit
  fields_law = both_law (number_at 4) (both (number_at 8) (counted_at 4 (op_at hives))) (little_bytes 4) (λ x. little_bytes 8 x.0 ++ counted 4 op_bytes x.1) (λ n. n < 256 ^ 4)
      (λ x. (x.0 < 256 ^ 8) × ((length x.1 < 256 ^ 4) × AllByRecursion (OpFits hives) x.1)) (number 4)
      (both_law (number_at 8) (counted_at 4 (op_at hives)) (little_bytes 8) (counted 4 op_bytes) (λ n. n < 256 ^ 8) (λ ops. (length ops < 256 ^ 4) × AllByRecursion (OpFits hives) ops) (number 8)
      (counted_law (op_at hives) op_bytes (OpFits hives) (op_law hives most) 4))

  element_again : (e : Element) (rest : List ℕ) → Fits hives e → element_at hives (element_bytes e ++ rest) ≡ Some (e, rest)
  unfolding element_at
  element_again e rest fits =
      let x : Fields = (element_encoded_len e, (e.moment, e.ops)) in
      let bytes : List ℕ = element_bytes e ++ rest in
      let read : fields_at hives bytes ≡ Some (x, rest) = fields_law.again x rest (fits.size, (fits.moment, (omega (arith, fits.size, as_many e.ops), fits.ops))) in
      let long : length bytes ≡ element_encoded_len e + length rest = omega (arith, length-append (element_bytes e) rest, element_length e) in
      let test : (nat_le 1 (length e.ops) && (length bytes == (element_encoded_len e + length rest))) ≡ true
      = and_from (nat_le 1 (length e.ops)) _ (le-leb 1 (length e.ops) fits.some) (eq-eqb (length bytes) (element_encoded_len e + length rest) long) in
      ap (λ (o : Option (Fields × List ℕ)). option_and_then (whole bytes) o) read ∙ ap (λ (b : Bool). if b then Some (made x, rest) else None) test

  element_back : (bytes : List ℕ) (e : Element) (rest : List ℕ) → element_at hives bytes ≡ Some (e, rest) → (bytes ≡ element_bytes e ++ rest) × Fits hives e
  unfolding element_at
  element_back bytes e rest h = option_and_then_some (whole bytes) (fields_at hives bytes) (e, rest) h (λ got first second.
      let x : Fields = got.0 in
      let t = let_through (nat_le 1 (length x.1.1) && (length bytes == (x.0 + length got.1))) (Some (made x, got.1)) (e, rest) second in
      let parts = and_parts (nat_le 1 (length x.1.1)) (length bytes == (x.0 + length got.1)) t.0 in
      let size : length bytes ≡ x.0 + length got.1 = eqb-true (length bytes) (x.0 + length got.1) parts.1 in
      let b = fields_law.back bytes x got.1 first in
      let is : x.0 ≡ element_encoded_len (made x) = omega (arith, size, ap (λ (l : List ℕ). length l) b.0, length-append (fields_bytes x) got.1, fields_length x.0 x.1.0 x.1.1) in
      let whole_is : bytes ≡ element_bytes (made x) ++ got.1 = b.0 ∙ ap (λ (n : ℕ). (little_bytes 4 n ++ (little_bytes 8 x.1.0 ++ counted 4 op_bytes x.1.1)) ++ got.1) is in
      let fit : Fits hives (made x) = record { some = leb-true 1 (length x.1.1) parts.0; ops = b.1.1.1.1; moment = b.1.1.0; size = omega (arith, is, b.1.0) } in
      subst (λ (y : Element × List ℕ). (bytes ≡ element_bytes y.0 ++ y.1) × Fits hives y.0) (same_Some (made x, got.1) (e, rest) t.1) (whole_is, fit))

  pub element_law : IsEncoding (element_at hives) element_bytes (Fits hives)
  element_law = record { again = λ e rest fits. element_again e rest fits; back = λ bytes e rest h. element_back bytes e rest h }

  pub element_exact : (bytes : List ℕ) (e : Element) (rest : List ℕ) → element_at hives bytes ≡ Some (e, rest) → (chunk : List ℕ) × (bytes ≡ chunk ++ rest) × ((r : List ℕ) → element_at hives (chunk ++ r) ≡ Some (e, r))
  element_exact bytes e rest h = let b = element_back bytes e rest h in (element_bytes e, b.0, λ r. element_again e r b.1)

  pub element_apart : (e f : Element) (rest more : List ℕ) → Fits hives e → Fits hives f → element_bytes e ++ rest ≡ element_bytes f ++ more → (e ≡ f) × (rest ≡ more)
  element_apart e f rest more a b same =
      let is : ◌≡◌ {A = Element × List ℕ} (e, rest) (f, more) = same_Some (e, rest) (f, more) (sym (element_again e rest a) ∙ ap (element_at hives) same ∙ element_again f more b) in
      (ap (λ (p : Element × List ℕ). p.0) is, ap (λ (p : Element × List ℕ). p.1) is)
