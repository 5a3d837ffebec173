-- What is known of the bytes that a change is kept as.
use Rattle.std.proofs.Common.{◌≡◌, ℕ, suc, ◌+◌, ◌<◌, ◌≤◌, List, [], ◌∷◌, length, take, refl, sym, ap, subst, ◌∙◌, arith, length-append, Option, Some, None}
use Rattle.std.specs.Option.{option_and_then}
use Rattle.std.specs.List.{AllByRecursion}
use Rattle.std.proofs.lemmas.List.{append-nil, take_at}
use Rattle.std.proofs.lemmas.Option.{same_Some, option_and_then_some}
use Rattle.reg_tree.specs.declared.op.Op.{Op}
use Rattle.reg_tree.specs.declared.element.Element.{Element}
use Rattle.reg_tree.specs.Operations.{hive_of}
use Rattle.change_codec.specs.Readers.{Reader, give, then_by, both, repeat, number_at, counted_at}
use Rattle.change_codec.specs.Encoding.{element_bytes, OpFits, Fits, op_at, fields_at, made, whole, element_at}
use Rattle.change_codec.specs.Changes.{change_in, change_or_none, EncodesOneChange, AreOps, hives_read, hives_in}
use Rattle.change_codec.proofs.Elements.{element_law}
use Rattle.change_codec.proofs.Numbers.{let_through}
use Rattle.change_codec.proofs.Taken.{then_none}

-- bytes that are the encoding of a change that fits decode to that change
pub stands_for : (e : Element) (bytes : List ℕ) → Fits 256 e → bytes ≡ element_bytes e → (EncodesOneChange bytes) × (change_in bytes ≡ e)
stands_for e bytes fits is =
    let read : element_at 256 bytes ≡ Some (e, []) = ap (element_at 256) (is ∙ sym (append-nil (element_bytes e))) ∙ (element_law 256 (omega arith)).again e [] fits in
    let same : change_in bytes ≡ e = ap change_or_none read in
    (read ∙ ap (λ (x : Element). Some (x, [])) (sym same), same)

-- and these bytes are its encoding
pub is_encoding : (bytes : List ℕ) → EncodesOneChange bytes → (bytes ≡ element_bytes (change_in bytes)) × Fits 256 (change_in bytes)
is_encoding bytes is =
    let b = (element_law 256 (omega arith)).back bytes (change_in bytes) [] is in
    (b.0 ∙ append-nil (element_bytes (change_in bytes)), b.1)

ops_within : (few many : ℕ) (ops : List Op) → AllByRecursion (OpFits many) ops → AllByRecursion (λ op. hive_of op < few) ops → AllByRecursion (OpFits few) ops
ops_within few many [] fit there = tt
ops_within few many (op ∷ ops) fit there = (record { hive = there.0; path = fit.0.path; tail = fit.0.tail }, ops_within few many ops fit.1 there.1)

-- a change fits a number of hives if its operations are on hives below it
pub fits_within : (few many : ℕ) (e : Element) → Fits many e → AllByRecursion (λ op. hive_of op < few) e.ops → Fits few e
fits_within few many e fits there = record { some = fits.some; ops = ops_within few many e.ops fits.ops there; moment = fits.moment; size = fits.size }

each_more : (few many : ℕ) → few ≤ many → (ops : List Op) → AllByRecursion (OpFits few) ops → AllByRecursion (λ op. hive_of op < many) ops
each_more few many le [] fit = tt
each_more few many le (op ∷ ops) fit = (omega (arith, le, fit.0.hive), each_more few many le ops fit.1)

-- the encoding of a change that bytes begin with
pub cut : (hives : ℕ) → hives ≤ 256 → (bytes : List ℕ) (e : Element) (rest : List ℕ) → element_at hives bytes ≡ Some (e, rest) → (n : ℕ) → n + length rest ≡ length bytes → (EncodesOneChange (take n bytes)) × (change_in (take n bytes) ≡ e)
cut hives le bytes e rest got n is =
    let b = (element_law hives le).back bytes e rest got in
    let encoding : take n bytes ≡ element_bytes e = ap (take n) b.0 ∙ take_at (element_bytes e) rest n (omega (arith, is, ap (λ (l : List ℕ). length l) b.0, length-append (element_bytes e) rest)) in
    stands_for e (take n bytes) (fits_within 256 hives e b.1 (each_more hives 256 le e.ops b.1.ops)) encoding

pub no_longer : (hives : ℕ) → hives ≤ 256 → (bytes : List ℕ) (e : Element) (rest : List ℕ) → element_at hives bytes ≡ Some (e, rest) → length rest ≤ length bytes
no_longer hives le bytes e rest got =
    let b = (element_law hives le).back bytes e rest got in
    omega (arith, ap (λ (l : List ℕ). length l) b.0, length-append (element_bytes e) rest)

-- what one reader reads of the same bytes is one thing
pub one_reading : {A : Type 0} (o : Option (A × List ℕ)) (x y : A × List ℕ) → o ≡ Some x → o ≡ Some y → x ≡ y
one_reading o x y first second = same_Some x y (sym first ∙ second)

-- what one reader, and another after it, read
pub split : {A B : Type 0} (r : Reader A) (f : A → Reader B) (bytes : List ℕ) (y : B × List ℕ) → then_by r f bytes ≡ Some y → (a : A) × (rest : List ℕ) × (r bytes ≡ Some (a, rest)) × (f a rest ≡ Some y)
split r f bytes y e = option_and_then_some (λ got. f got.0 got.1) (r bytes) y e (λ got first second. (got.0, got.1, first, second))

pub both_split : {A B : Type 0} (r : Reader A) (s : Reader B) (bytes : List ℕ) (y : (A × B) × List ℕ) → both r s bytes ≡ Some y → (rest : List ℕ) × (r bytes ≡ Some (y.0.0, rest)) × (s rest ≡ Some (y.0.1, y.1))
both_split {A = A} {B = B} r s bytes y e =
    let (a, rest, first, more) = split r (λ x. then_by s (λ z. give (x, z))) bytes y e in
    let (b, behind, second, is) = split s (λ z. give (a, z)) rest y more in
    let same = same_Some ((a, b), behind) y is in
    let p = subst (λ (z : (A × B) × List ℕ). (r bytes ≡ Some (z.0.0, rest)) × (s rest ≡ Some (z.0.1, z.1))) same (first, second) in
    (rest, p.0, p.1)

-- the fields of an encoded change: its length, its moment, how many operations it has, and these
pub record Fields (bytes : List ℕ) : Type 0 where
  pub len : ℕ
  pub moment : ℕ
  pub count : ℕ
  pub second : List ℕ
  pub third : List ℕ
  pub encodings : List ℕ
  pub behind : List ℕ
  pub of_moment : moment ≡ (change_in bytes).moment
  pub is_len : number_at 4 bytes ≡ Some (len, second)
  pub is_moment : number_at 8 second ≡ Some (moment, third)
  pub is_count : number_at 4 third ≡ Some (count, encodings)
  pub are_ops : repeat count (op_at 256) encodings ≡ Some ((change_in bytes).ops, behind)

pub fields_of : (bytes : List ℕ) → EncodesOneChange bytes → Fields bytes
unfolding element_at
fields_of bytes is = option_and_then_some (whole bytes) (fields_at 256 bytes) (change_in bytes, []) is (λ got first second.
    let f = both_split (number_at 4) (both (number_at 8) (counted_at 4 (op_at 256))) bytes got first in
    let g = both_split (number_at 8) (counted_at 4 (op_at 256)) f.0 (got.0.1, got.1) f.2 in
    let h = split (number_at 4) (λ n. repeat n (op_at 256)) g.0 (got.0.1.1, got.1) g.2 in
    let t = let_through _ (Some (made got.0, got.1)) (change_in bytes, []) second in
    let ops : got.0.1.1 ≡ (change_in bytes).ops = ap (λ (x : Element × List ℕ). x.0.ops) (same_Some (made got.0, got.1) (change_in bytes, []) t.1) in
    record {
      len = got.0.0;
      moment = got.0.1.0;
      count = h.0;
      second = f.0;
      third = g.0;
      encodings = h.1;
      behind = got.1;
      of_moment = ap (λ (x : Element × List ℕ). x.0.moment) (same_Some (made got.0, got.1) (change_in bytes, []) t.1);
      is_len = f.1;
      is_moment = g.1;
      is_count = h.2;
      are_ops = h.3 ∙ ap (λ (ops : List Op). Some (ops, got.1)) ops;
    })

-- the hives of operations, the first of which was read
module _ (op : Op) where
  abbrev before : Option (List Op × List ℕ) → Option (List Op × List ℕ)
  before got = option_and_then (λ more. Some (op ∷ more.0, more.1)) got

  first_hive : (got : Option (List Op × List ℕ)) → ¬ (before got ≡ None) → hives_read (before got) ≡ hive_of op ∷ hives_read got
  first_hive None some = absurd (some refl)
  first_hive (Some got) some = refl

  pub one_hive : (left more : ℕ) (bytes rest : List ℕ) → left ≡ suc more → op_at 256 bytes ≡ Some (op, rest) → AreOps left bytes → hives_in left bytes ≡ hive_of op ∷ hives_in more rest
  one_hive left more bytes rest is got some =
      let read : repeat left (op_at 256) bytes ≡ before (repeat more (op_at 256) rest) = ap (λ (n : ℕ). repeat n (op_at 256) bytes) is
      ∙ ap (λ (o : Option (Op × List ℕ)). option_and_then (λ one. then_by (repeat more (op_at 256)) (λ ops. give (one.0 ∷ ops)) one.1) o) got in
      ap hives_read read ∙ first_hive (repeat more (op_at 256) rest) (λ none. some (read ∙ none))

-- the hive of the last operation
pub last_hive : (left : ℕ) (bytes : List ℕ) (hive : ℕ) → left ≡ 1 → AreOps left bytes → ((op : Op) (rest : List ℕ) → op_at 256 bytes ≡ Some (op, rest) → hive ≡ hive_of op) → hives_in left bytes ≡ hive ∷ []
last_hive left bytes hive is some told = by_read (op_at 256 bytes) refl
  where
    by_read : (o : Option (Op × List ℕ)) → op_at 256 bytes ≡ o → hives_in left bytes ≡ hive ∷ []
    by_read None e = absurd (some (ap (λ (n : ℕ). repeat n (op_at 256) bytes) is ∙ then_none (op_at 256) (λ x. then_by (repeat 0 (op_at 256)) (λ xs. give (x ∷ xs))) bytes e))
    by_read (Some got) e = one_hive got.0 left 0 bytes got.1 is e some ∙ ap (λ (h : ℕ). h ∷ []) (sym (told got.0 got.1 e))
