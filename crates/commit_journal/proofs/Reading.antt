-- What bytes decode to: the decoder reads what the grammar says.
use Rattle.std.proofs.Common.{◌≡◌, ◌≢◌, ℕ, zero, suc, ◌<◌, ◌≤◌, Bool, true, false, List, [], ◌∷◌, ◌++◌, length, drop, refl, sym, ◌∙◌, ap, arith, append_assoc, length-append, Some, Option}
use Rattle.std.specs.Prelude.{if◌then◌else◌, ◌==◌, nat_eq, option_map}
use Rattle.std.specs.List.{starts_with}
use Rattle.std.proofs.lemmas.Slice.Eq.{starts_is}
use Rattle.std.proofs.lemmas.Bool.Decides.{Decides-eqb}
use Rattle.std.specs.Option.{option_and_then}
use Rattle.std.proofs.lemmas.List.{drop_at, append-nil}
use Rattle.std.proofs.lemmas.Bool.{ne_eqb}
use Rattle.crash_model.specs.Promises.{Content}
use Rattle.commit_journal.specs.Encoding.{Encodings, Body, read_gates, content_of_bodies, decoded, IsBody, AreGated, PrefixEncodes}

pub choose : {A : Type 0} (b : Bool) (x y : A) → b ≡ false → (if b then x else y) ≡ y
choose b x y e = ap (λ (c : Bool). if c then x else y) e

pub chosen : {A : Type 0} (b : Bool) (x y : A) → b ≡ true → (if b then x else y) ≡ x
chosen b x y e = ap (λ (c : Bool). if c then x else y) e

-- bytes that begin with a header, and what is after it
pub begins : (header rest : List ℕ) → starts_with nat_eq (header ++ rest) header ≡ true
begins header rest = (starts_is Decides-eqb (header ++ rest) header (starts_with nat_eq (header ++ rest) header) refl).1 rest refl

pub begun_with : (bytes header : List ℕ) → starts_with nat_eq bytes header ≡ true → bytes ≡ header ++ drop (length header) bytes
begun_with bytes header test = (starts_is Decides-eqb bytes header (starts_with nat_eq bytes header) refl).0 test

module _ {Op : Type 0} (t : Encodings Op) where
  -- one gate and body, in front of what else there is
  one_gate : (n : ℕ) (chunk rest : List ℕ) (b : Body Op) (bs : List (Body Op)) → IsBody t chunk b → read_gates t n rest ≡ Some bs
      → read_gates t (suc n) (0xc3 ∷ chunk ++ rest) ≡ Some (b ∷ bs)
  one_gate n chunk rest b bs body more =
      ap (λ (o : Option (Body Op × List ℕ)). option_and_then (λ got. option_map (λ tail. got.0 ∷ tail) (read_gates t n got.1)) o) (body rest)
      ∙ ap (λ (o : Option (List (Body Op))). option_map (λ tail. b ∷ tail) o) more

  pub fewer : (bytes : List ℕ) (bs : List (Body Op)) → AreGated t bytes bs → length bs ≤ length bytes
  fewer bytes [] is = omega arith
  fewer bytes (b ∷ bs) gated =
      omega (arith, ap (λ (l : List ℕ). length l) gated.2, length-append gated.0 gated.1, fewer gated.1 bs gated.4)

  -- gated bodies are read up to a gate that isn't open, whatever is after it
  pub reads : (n : ℕ) (prefix tail : List ℕ) (gate : ℕ) (bs : List (Body Op)) → AreGated t prefix bs → gate ≢ 0xc3 → length bs < n
      → read_gates t n (prefix ++ gate ∷ tail) ≡ Some bs
  reads zero prefix tail gate bs gated shut below = absurd (omega arith)
  reads (suc n) prefix tail gate [] is shut below =
      ap (λ (l : List ℕ). read_gates t (suc n) (l ++ gate ∷ tail)) is ∙ choose (gate == 0xc3) _ _ (ne_eqb gate 0xc3 shut)
  reads (suc n) prefix tail gate (b ∷ bs) gated shut below =
      let more : read_gates t n (gated.1 ++ gate ∷ tail) ≡ Some bs = reads n gated.1 tail gate bs gated.4 shut (omega arith) in
      ap (λ (l : List ℕ). read_gates t (suc n) (l ++ gate ∷ tail)) gated.2
      ∙ ap (λ (l : List ℕ). read_gates t (suc n) (0xc3 ∷ l)) (append_assoc gated.0 gated.1 (gate ∷ tail))
      ∙ one_gate n gated.0 (gated.1 ++ gate ∷ tail) b bs gated.3 more

  -- one more body
  pub gated_push : (prefix chunk : List ℕ) (bs : List (Body Op)) (b : Body Op) → AreGated t prefix bs → IsBody t chunk b → AreGated t (prefix ++ 0xc3 ∷ chunk) (bs ++ b ∷ [])
  gated_push prefix chunk [] b is body = (chunk, [], ap (λ (l : List ℕ). l ++ 0xc3 ∷ chunk) is ∙ ap (λ (l : List ℕ). 0xc3 ∷ l) (sym (append-nil chunk)), body, refl)
  gated_push prefix chunk (c ∷ bs) b gated body = (
    gated.0,
    gated.1 ++ 0xc3 ∷ chunk,
    ap (λ (l : List ℕ). l ++ 0xc3 ∷ chunk) gated.2 ∙ ap (λ (l : List ℕ). 0xc3 ∷ l) (append_assoc gated.0 gated.1 (0xc3 ∷ chunk)),
    gated.3,
    gated_push gated.1 chunk bs b gated.4 body,
  )

  -- the durable content is decoded, whatever is after the gate that isn't open
  pub extent_decodes : (now : Content Op) (used : ℕ) (prefix tail : List ℕ) (gate : ℕ) → PrefixEncodes t now used prefix → gate ≢ 0xc3 → decoded t (prefix ++ gate ∷ tail) ≡ Some now
  unfolding decoded
  extent_decodes now used prefix tail gate on_device shut =
      let bytes = t.header ++ (on_device.chain ++ gate ∷ tail) in
      let is : prefix ++ gate ∷ tail ≡ bytes = ap (λ (l : List ℕ). l ++ gate ∷ tail) on_device.is ∙ append_assoc t.header on_device.chain (gate ∷ tail) in
      let rest : drop 64 bytes ≡ on_device.chain ++ gate ∷ tail = drop_at t.header (on_device.chain ++ gate ∷ tail) 64 on_device.head in
      let enough : length on_device.bodies < length bytes = omega (arith, fewer on_device.chain on_device.bodies on_device.gated, length-append t.header (on_device.chain ++ gate ∷ tail), length-append on_device.chain (gate ∷ tail)) in
      let got : read_gates t (length bytes) (drop 64 bytes) ≡ Some on_device.bodies
      = ap (λ (l : List ℕ). read_gates t (length bytes) l) rest ∙ reads (length bytes) on_device.chain tail gate on_device.bodies on_device.gated shut enough in
      ap (decoded t) is
      ∙ chosen (starts_with nat_eq bytes t.header) _ _ (begins t.header (on_device.chain ++ gate ∷ tail))
      ∙ ap (λ (o : Option (List (Body Op))). option_and_then (content_of_bodies t.most) o) got
      ∙ on_device.numbered
