-- The numbers and the body of a batch.
use Rattle.std.proofs.Common.{◌≡◌, ℕ, zero, suc, ◌+◌, ◌-◌, ◌*◌, ◌^◌, ◌<◌, ◌≤◌, List, [], ◌∷◌, ◌++◌, length, take, map, refl, sym, ◌∙◌, ap, subst, arith, length-append, Some, Option}
use Rattle.std.specs.Prelude.{sum_by, option_map}
use Rattle.std.specs.List.{flat_map, AllByRecursion}
use Rattle.std.proofs.lemmas.List.{length-map}
use Rattle.std.proofs.lemmas.List.Concat.{length-flat_map}
use Rattle.std.proofs.lemmas.List.Sums.{sum_by-cons, sum_by-append}
use Rattle.reg_tree.specs.declared.op.Op.{Op}
use Rattle.reg_tree.specs.declared.element.Element.{Element}
use Rattle.reg_tree.specs.Encodings.{op_encoded_len, ops_encoded_len, element_encoded_len}
use Rattle.crash_model.specs.Changes as law
use Rattle.crash_model.specs.Promises.{Content, floor, floor_of, top}
use Rattle.change_codec.specs.Encoding.{element_bytes, Fits}
use Rattle.change_codec.proofs.Elements.{element_law}
use Rattle.change_codec.proofs.Lengths.{element_length}
use Rattle.change_codec.specs.ModelChanges.{TimedOp, timed, timed_element, timed_elements}
use Rattle.commit_journal.specs.declared.layout.TheConstants.{MOST_BODY_BYTES}
use Rattle.commit_journal.specs.Encoding.{IsBody, body_bytes}
use Rattle.commit_journal.specs.OnDisk.{with_elements}
use Rattle.commit_journal.specs.Store.{encodings_after, timed_at, timed_len, room_of}
use Rattle.commit_journal.specs.Extent.{ExtentMatches}
use Rattle.commit_journal.specs.Handed.{OnHives, FitsIfThere}
use Rattle.commit_journal.proofs.BodyBytes.{is_body}

same_ops_len : (m : ℕ) (ops : List Op) → sum_by (λ (o : ℕ × TimedOp). op_encoded_len o.1.1) (map (timed m) ops) ≡ ops_encoded_len ops
same_ops_len m [] = refl
same_ops_len m (op ∷ ops) =
    sum_by-cons (λ (o : ℕ × TimedOp). op_encoded_len o.1.1) (timed m op) (map (timed m) ops) ∙ ap (λ (n : ℕ). op_encoded_len op + n) (same_ops_len m ops) ∙ sym (sum_by-cons op_encoded_len op ops)

same_len : (e : Element) → timed_len (timed_element e) ≡ element_encoded_len e
same_len e = ap (λ (n : ℕ). 16 + n) (same_ops_len e.moment e.ops)

-- the room of changes, by their lengths
pub room_is : (es : List Element) → room_of (timed_elements es) ≡ 17 * length es + sum_by element_encoded_len es
room_is [] = refl
room_is (e ∷ es) =
    omega (arith, sum_by-cons (λ (x : law.Element TimedOp). 17 + timed_len x) (timed_element e) (timed_elements es), same_len e, room_is es, sum_by-cons element_encoded_len e es)

pub room_sum : (es : List Element) → sum_by (λ e. 17 + element_encoded_len e) es ≡ 17 * length es + sum_by element_encoded_len es
room_sum [] = refl
room_sum (e ∷ es) = omega (arith, sum_by-cons (λ (x : Element). 17 + element_encoded_len x) e es, room_sum es, sum_by-cons element_encoded_len e es)

-- each change has bytes
pub as_many : (es : List Element) → length es ≤ sum_by element_encoded_len es
as_many [] = omega arith
as_many (e ∷ es) = omega (arith, as_many es, sum_by-cons element_encoded_len e es)

sums_same : {X : Type 0} (f g : X → ℕ) → ((x : X) → f x ≡ g x) → (xs : List X) → sum_by f xs ≡ sum_by g xs
sums_same f g same [] = refl
sums_same f g same (x ∷ xs) = omega (arith, sum_by-cons f x xs, sum_by-cons g x xs, same x, sums_same f g same xs)

pub encodings_length : (es : List Element) → length (flat_map element_bytes es) ≡ sum_by element_encoded_len es
encodings_length es = length-flat_map element_bytes es ∙ sums_same (λ e. length (element_bytes e)) element_encoded_len element_length es

top_some : (durable below : ℕ) (es : List (law.Element TimedOp)) → 0 < length es → floor_of durable below es ≡ below
top_some durable below [] some = absurd (omega (arith, some))
top_some durable below (e ∷ es) some = refl

-- the content with one more batch has these numbers
pub longer_kept : (gate last used : ℕ) (s : Content TimedOp) (first size : ℕ) (es : List Element) → ExtentMatches gate last used s → 0 < length es → 1 ≤ first
    → top (first - 1) s ≡ first - 1 → size ≡ 16 + sum_by element_encoded_len es
    → ExtentMatches (gate + 1 + size) (first - 1 + length es) (used + 17 * length es + (size - 16)) (with_elements s (first - 1) (timed_elements es))
longer_kept gate last used s first size es kept some number ends is =
    let more : 0 < length (timed_elements es) = omega (arith, some, length-map es timed_element) in
    let all : length (s.elements ++ timed_elements es) ≡ length s.elements + length es = omega (arith, length-append s.elements (timed_elements es), length-map es timed_element) in
    let full : 0 < length (s.elements ++ timed_elements es) = omega (arith, all, some) in
    record {
      last_is = omega (arith, top_some 0 (floor (first - 1) s) (s.elements ++ timed_elements es) full, all, ends);
      used_is = omega (arith, kept.used_is, is, room_is es, sum_by-append (λ (x : law.Element TimedOp). 17 + timed_len x) s.elements (timed_elements es));
      within = omega (arith, kept.within, is, some);
    }

-- the number before the durable content, by its last number
pub floor_here : (durable last gate used : ℕ) (s : Content TimedOp) → ExtentMatches gate last used s → 0 < last → floor durable s ≡ s.below
floor_here durable last gate used s kept some = by_elements s.below s.elements (omega (arith, kept.last_is, some))
  where
    by_elements : (below : ℕ) (es : List (law.Element TimedOp)) → 0 < floor_of 0 below es + length es → floor_of durable below es ≡ below
    by_elements below [] more = absurd (omega (arith, more))
    by_elements below (e ∷ es) more = refl

pub floor_none : (durable last gate used : ℕ) (s : Content TimedOp) → ExtentMatches gate last used s → last ≡ 0 → floor durable s ≡ durable
floor_none durable last gate used s kept none = by_elements s.below s.elements (omega (arith, kept.last_is, none))
  where
    by_elements : (below : ℕ) (es : List (law.Element TimedOp)) → floor_of 0 below es + length es ≡ 0 → floor_of durable below es ≡ durable
    by_elements below [] more = refl
    by_elements below (e ∷ es) more = absurd (omega (arith, more))

-- changes that fit stores with their hives, on hives of the store
pub all_fit : (hives : ℕ) (es : List Element) → AllByRecursion FitsIfThere es → AllByRecursion (OnHives hives) es → AllByRecursion (Fits hives) es
all_fit hives [] fit there = tt
all_fit hives (e ∷ es) fit there = (fit.0.fits hives there.0, all_fit hives es fit.1 there.1)

pub all_taken : {X : Type 0} (P : X → Type 0) (n : ℕ) (xs : List X) → AllByRecursion P xs → AllByRecursion P (take n xs)
all_taken P zero xs all = tt
all_taken P (suc n) [] all = tt
all_taken P (suc n) (x ∷ xs) all = (all.0, all_taken P n xs all.1)

module _ (hives : ℕ) (le : hives ≤ 256) where
  -- a change that fits is read as an element of the journal, whatever follows
  pub reads : (e : Element) (rest : List ℕ) → Fits hives e → timed_at hives (element_bytes e ++ rest) ≡ Some (timed_element e, rest)
  reads e rest fits = ap (λ (o : Option (Element × List ℕ)). option_map (λ got. (timed_element got.0, got.1)) o) ((element_law hives le).again e rest fits)

  abbrev Fitting : Type 0
  Fitting = (e : Element) × Fits hives e

  abbrev with_proofs : (es : List Element) → AllByRecursion (Fits hives) es → List Fitting
  with_proofs [] fit = []
  with_proofs (e ∷ es) fit = (e, fit.0) ∷ with_proofs es fit.1

  same_count : (es : List Element) (fit : AllByRecursion (Fits hives) es) → length (with_proofs es fit) ≡ length es
  same_count [] fit = refl
  same_count (e ∷ es) fit = ap suc (same_count es fit.1)

  same_encoding : (es : List Element) (fit : AllByRecursion (Fits hives) es) → flat_map (λ (x : Fitting). element_bytes x.0) (with_proofs es fit) ≡ flat_map element_bytes es
  same_encoding [] fit = refl
  same_encoding (e ∷ es) fit = ap (λ (l : List ℕ). element_bytes e ++ l) (same_encoding es fit.1)

  same_elements : (es : List Element) (fit : AllByRecursion (Fits hives) es) → map (λ (x : Fitting). timed_element x.0) (with_proofs es fit) ≡ timed_elements es
  same_elements [] fit = refl
  same_elements (e ∷ es) fit = ap (λ (l : List (law.Element TimedOp)). timed_element e ∷ l) (same_elements es fit.1)

  abbrev MadeOf : List ℕ → ℕ → ℕ → List ℕ → List (law.Element TimedOp) → Type 0
  MadeOf header first count encoding elements = IsBody (encodings_after header hives) (body_bytes first count encoding) (record { first = first; elements = elements })

  -- the bytes of a body of changes that fit are that body's
  pub body_is : (header : List ℕ) (first : ℕ) (es : List Element) → AllByRecursion (Fits hives) es → first < 256 ^ 8 → 16 + sum_by element_encoded_len es ≤ MOST_BODY_BYTES
      → MadeOf header first (length es) (flat_map element_bytes es) (timed_elements es)
  body_is header first es fit small short =
      let xs = with_proofs es fit in
      let n = same_count es fit in
      let t = same_encoding es fit in
      let size = encodings_length es in
      let whole : MadeOf header first (length xs) (flat_map (λ (x : Fitting). element_bytes x.0) xs) (map (λ (x : Fitting). timed_element x.0) xs)
      = is_body (encodings_after header hives) (λ (x : Fitting). element_bytes x.0) (λ (x : Fitting). timed_element x.0) (λ x rest. reads x.0 rest x.1) first xs small
      (omega (arith, n, as_many es, short)) (omega (arith, ap (λ (l : List ℕ). length l) t, size, short)) (omega (arith, ap (λ (l : List ℕ). length l) t, size, short)) in
      subst (λ (l : List (law.Element TimedOp)). MadeOf header first (length es) (flat_map element_bytes es) l) (same_elements es fit)
      (subst (λ (l : List ℕ). MadeOf header first (length es) l (map (λ (x : Fitting). timed_element x.0) xs)) t
      (subst (λ (k : ℕ). MadeOf header first k (flat_map (λ (x : Fitting). element_bytes x.0) xs) (map (λ (x : Fitting). timed_element x.0) xs)) n whole))
