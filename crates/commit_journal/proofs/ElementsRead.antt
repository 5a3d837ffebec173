-- An element at the front of bytes: what is read of it, and when nothing is.
use Rattle.std.proofs.Common.{◌≡◌, ℕ, ◌+◌, ◌-◌, ◌≤◌, List, [], ◌∷◌, ◌++◌, length, take, drop, refl, sym, ◌∙◌, ap, arith, append_assoc, length-append, length-take, take-append-drop, Some, None}
use Rattle.std.proofs.lemmas.List.{take_at, append-nil, drop-take, take-take}
use Rattle.std.proofs.lemmas.Option.{none-some}
use Rattle.byteorder.specs.Endian.{little_number, little_bytes}
use Rattle.byteorder.specs.Numbers.{little_from-take, little_number-reads_back}
use Rattle.reg_tree.specs.declared.element.Element.{Element}
use Rattle.reg_tree.specs.Encodings.{element_encoded_len}
use Rattle.crash_model.specs.Changes as law
use Rattle.change_codec.specs.Encoding.{counted, op_bytes, element_bytes, Fits, element_at}
use Rattle.change_codec.proofs.Elements.{element_law}
use Rattle.change_codec.proofs.Lengths.{element_length}
use Rattle.change_codec.specs.ModelChanges.{TimedOp, timed_element}
use Rattle.commit_journal.specs.Store.{timed_at}
use Rattle.commit_journal.proofs.Opening.{map_back}
use Rattle.commit_journal.proofs.Batches.{reads}
use Rattle.commit_journal.proofs.Parts.{never}

no_bytes : (l : List ℕ) → length l ≡ 0 → l ≡ []
no_bytes [] is = refl
no_bytes (b ∷ l) is = absurd (omega (arith, is))

pub cut_front : (k n : ℕ) (l : List ℕ) → k ≤ n → drop k (take n l) ≡ take (n - k) (drop k l)
cut_front k n l le = let e : n ≡ k + (n - k) = omega (arith, le) in ap (λ (m : ℕ). drop k (take m l)) e ∙ drop-take k (n - k) l

-- the length in front of an encoding
length_read : (hives : ℕ) (e : Element) (rest bytes : List ℕ) → Fits hives e → bytes ≡ element_bytes e ++ rest → little_number 4 bytes ≡ element_encoded_len e
length_read hives e rest bytes fits is =
    let behind = little_bytes 8 e.moment ++ counted 4 op_bytes e.ops in
    ap (little_number 4) (is ∙ append_assoc (little_bytes 4 (element_encoded_len e)) behind rest)
    ∙ little_number-reads_back 4 (element_encoded_len e) (behind ++ rest) fits.size

module _ (hives : ℕ) (le : hives ≤ 256) where
  pub element_fits : (bytes : List ℕ) (e : Element) (rest : List ℕ) → element_at hives bytes ≡ Some (e, rest) → Fits hives e
  element_fits bytes e rest h = ((element_law hives le).back bytes e rest h).1

  pub element_size : (bytes : List ℕ) (e : Element) (rest : List ℕ) → element_at hives bytes ≡ Some (e, rest) → length bytes ≡ element_encoded_len e + length rest
  element_size bytes e rest h =
      let b = (element_law hives le).back bytes e rest h in
      omega (arith, ap (λ (l : List ℕ). length l) b.0, length-append (element_bytes e) rest, element_length e)

  pub record Begins (bytes : List ℕ) : Type 0 where
    pub low : 16 ≤ little_number 4 bytes
    pub there : little_number 4 bytes ≤ length bytes
    pub element : Element
    pub read : element_at hives (take (little_number 4 bytes) bytes) ≡ Some (element, [])

  -- if an element is read, its length is in front of it, and it is read of so many bytes
  pub begins : (bytes : List ℕ) (one : law.Element TimedOp × List ℕ) → timed_at hives bytes ≡ Some one → Begins bytes
  begins bytes one h = map_back (λ got. (timed_element got.0, got.1)) (element_at hives bytes) one h (λ got read made.
      let b = (element_law hives le).back bytes got.0 got.1 read in
      let n = length_read hives got.0 got.1 bytes b.1 b.0 in
      let long = element_length got.0 in
      let prefix : take (little_number 4 bytes) bytes ≡ element_bytes got.0 ++ []
      = ap (λ (k : ℕ). take k bytes) n ∙ ap (λ (l : List ℕ). take (element_encoded_len got.0) l) b.0 ∙ take_at (element_bytes got.0) got.1 (element_encoded_len got.0) long ∙ sym (append-nil (element_bytes got.0)) in
      record {
        low = omega (arith, n);
        there = omega (arith, n, ap (λ (l : List ℕ). length l) b.0, length-append (element_bytes got.0) got.1, long);
        element = got.0;
        read = ap (element_at hives) prefix ∙ (element_law hives le).again got.0 [] b.1;
      })

  -- an element that was read of as many bytes as its length says is also read of more bytes
  pub whole : (bytes : List ℕ) (len : ℕ) (e : Element) (rest : List ℕ) → little_number 4 bytes ≡ len → 16 ≤ len → len ≤ length bytes → element_at hives (take len bytes) ≡ Some (e, rest)
      → (rest ≡ []) × ((left : ℕ) → len ≤ left → timed_at hives (take left bytes) ≡ Some (timed_element e, take (left - len) (drop len bytes)))
  whole bytes len e rest is low there h =
      let b = (element_law hives le).back (take len bytes) e rest h in
      let n : element_encoded_len e ≡ len = sym (length_read hives e rest (take len bytes) b.1 b.0) ∙ little_from-take 0 4 len bytes (omega (arith, low)) ∙ is in
      let none : rest ≡ [] = no_bytes rest (omega (arith, n, element_size (take len bytes) e rest h, length-take len bytes, there)) in
      let encoding : take len bytes ≡ element_bytes e = b.0 ∙ ap (λ (l : List ℕ). element_bytes e ++ l) none ∙ append-nil (element_bytes e) in (
        none,
        λ left more.
            let parts : take left bytes ≡ element_bytes e ++ take (left - len) (drop len bytes)
            = sym (take-append-drop len (take left bytes)) ∙ ap (λ (l : List ℕ). l ++ drop len (take left bytes)) (take-take len left bytes more ∙ encoding) ∙ ap (λ (l : List ℕ). element_bytes e ++ l) (cut_front len left bytes more) in
            ap (timed_at hives) parts ∙ reads hives le e (take (left - len) (drop len bytes)) b.1,
      )

  -- an element that is read of bytes is read of as many of them as their length says, and has so many
  pub read_front : (bytes : List ℕ) (len : ℕ) (e : Element) (rest : List ℕ) → little_number 4 bytes ≡ len → element_at hives bytes ≡ Some (e, rest) → (element_at hives (take len bytes) ≡ Some (e, [])) × (element_encoded_len e ≡ len)
  read_front bytes len e rest is h =
      let b = (element_law hives le).back bytes e rest h in
      let n : element_encoded_len e ≡ len = sym (length_read hives e rest bytes b.1 b.0) ∙ is in
      let prefix : take len bytes ≡ element_bytes e ++ []
      = ap (λ (l : List ℕ). take len l) b.0 ∙ take_at (element_bytes e) rest len (element_length e ∙ n) ∙ sym (append-nil (element_bytes e)) in
      (ap (element_at hives) prefix ∙ (element_law hives le).again e [] b.1, n)

  -- if bytes begin with no element, none is read of the first of them
  pub none_front : (bytes : List ℕ) (len : ℕ) → element_at hives bytes ≡ None → element_at hives (take len bytes) ≡ None
  none_front bytes len none = never (element_at hives (take len bytes)) (λ one h.
      let b = (element_law hives le).back (take len bytes) one.0 one.1 h in
      let whole : bytes ≡ element_bytes one.0 ++ (one.1 ++ drop len bytes)
      = sym (take-append-drop len bytes) ∙ ap (λ (l : List ℕ). l ++ drop len bytes) b.0 ∙ append_assoc (element_bytes one.0) one.1 (drop len bytes) in
      none-some (one.0, one.1 ++ drop len bytes) (sym none ∙ ap (element_at hives) whole ∙ (element_law hives le).again one.0 (one.1 ++ drop len bytes) b.1))
