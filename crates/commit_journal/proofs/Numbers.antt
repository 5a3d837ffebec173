-- One more body continues from the last number, and its bytes.
use Rattle.std.proofs.Common.{◌≡◌, ◌⊎◌, inl, inr, ℕ, ◌+◌, ◌-◌, ◌≤◌, Bool, true, false, List, [], ◌∷◌, ◌++◌, length, refl, sym, ◌∙◌, ap, arith, append_assoc, length-append, Some, None, Option}
use Rattle.std.specs.Prelude.{if◌then◌else◌, ◌==◌, nat_le}
use Rattle.std.proofs.lemmas.List.{append-nil}
use Rattle.std.proofs.lemmas.Option.{same_Some, none-some}
use Rattle.std.proofs.lemmas.Bool.{and_from, and_parts, eq-eqb, le-leb, leb-true}
use Rattle.crash_model.specs.Changes.{Element}
use Rattle.crash_model.specs.Promises.{Content, nothing, floor_of, floor, top}
use Rattle.commit_journal.specs.Encoding.{Encodings, Body, continue_at, elements_of, are_numbered, content_of_bodies, IsBody, AreGated, PrefixEncodes}
use Rattle.commit_journal.proofs.Reading.{gated_push}

-- what a test let through
pub picked : {A : Type 0} (b : Bool) (x y : A) → (if b then Some x else None) ≡ Some y → (b ≡ true) × (x ≡ y)
picked true x y e = (refl, same_Some x y e)
picked false x y e = absurd (none-some y e)

module _ {Op : Type 0} where
  pub elements_push : (bs : List (Body Op)) (b : Body Op) → elements_of (bs ++ b ∷ []) ≡ elements_of bs ++ b.elements
  elements_push [] b = append-nil b.elements
  elements_push (c ∷ bs) b = ap (λ (l : List (Element Op)). c.elements ++ l) (elements_push bs b) ∙ sym (append_assoc c.elements (elements_of bs) b.elements)

  pub follow_push : (next : ℕ) (bs : List (Body Op)) (b : Body Op) → continue_at next bs ≡ true → b.first ≡ next + length (elements_of bs) → 1 ≤ length b.elements → continue_at next (bs ++ b ∷ []) ≡ true
  follow_push next [] b on is some = and_from (b.first == next) _ (eq-eqb b.first next (omega (arith, is))) (and_from (nat_le 1 (length b.elements)) true (le-leb 1 (length b.elements) some) refl)
  follow_push next (c ∷ bs) b on is some =
      let p = and_parts (c.first == next) _ on in
      let q = and_parts (nat_le 1 (length c.elements)) _ p.1 in
      and_from (c.first == next) _ p.0 (and_from (nat_le 1 (length c.elements)) _ q.0
      (follow_push (next + length c.elements) bs b q.1 (omega (arith, is, length-append c.elements (elements_of bs))) some))

  pub floor_some : (durable below : ℕ) (es : List (Element Op)) → 1 ≤ length es → floor_of durable below es ≡ below
  floor_some durable below [] some = absurd (omega arith)
  floor_some durable below (e ∷ es) some = refl

  -- numbers of one more body
  numbered_push : (most : ℕ) (c : Body Op) (bs : List (Body Op)) (b : Body Op) → are_numbered most c bs ≡ true → b.first ≡ c.first + length (elements_of (c ∷ bs)) → 1 ≤ length b.elements
      → b.first + length b.elements ≤ most + 1 → are_numbered most c (bs ++ b ∷ []) ≡ true
  numbered_push most c bs b numbered is some room =
      let p = and_parts (nat_le 1 c.first) _ numbered in
      let q = and_parts (continue_at c.first (c ∷ bs)) _ p.1 in
      and_from (nat_le 1 c.first) _ p.0 (and_from (continue_at c.first (c ∷ bs ++ b ∷ [])) _ (follow_push c.first (c ∷ bs) b q.0 is some)
      (le-leb _ (most + 1) (omega (arith, is, room, ap (λ (l : List (Element Op)). length l) (elements_push (c ∷ bs) b), length-append (elements_of (c ∷ bs)) b.elements))))

  same_decoded : (a b : ℕ) (es fs : List (Element Op)) → a ≡ b → es ≡ fs → ◌≡◌ {A = Option (Content Op)} (Some (record { below = a; elements = es })) (Some (record { below = b; elements = fs }))
  same_decoded a b es fs p q = ap (λ (n : ℕ). Some (record { below = n; elements = es })) p ∙ ap (λ (l : List (Element Op)). Some (record { below = b; elements = l })) q

  pub content_push : (most durable : ℕ) (bs : List (Body Op)) (b : Body Op) (now : Content Op) → content_of_bodies most bs ≡ Some now → top durable now ≡ durable → b.first ≡ durable + 1
      → 1 ≤ length b.elements → durable + length b.elements ≤ most
      → content_of_bodies most (bs ++ b ∷ []) ≡ Some (record { below = floor durable now; elements = now.elements ++ b.elements })
  content_push most durable [] b now is ends first some room =
      let none : nothing ≡ now = same_Some nothing now is in
      let numbered : are_numbered most b [] ≡ true
      = and_from (nat_le 1 b.first) _ (le-leb 1 b.first (omega (arith, first))) (and_from (continue_at b.first (b ∷ [])) _ (follow_push b.first [] b refl (omega arith) some)
      (le-leb _ (most + 1) (omega (arith, first, room, length-append b.elements [])))) in
      ap (λ (x : Bool). if x then Some (record { below = b.first - 1; elements = b.elements ++ [] }) else None) numbered
      ∙ same_decoded (b.first - 1) durable (b.elements ++ []) b.elements (omega (arith, first)) (append-nil b.elements)
      ∙ ap (λ (s : Content Op). Some (record { below = floor durable s; elements = s.elements ++ b.elements })) none
  content_push most durable (c ∷ bs) b now is ends first some room =
      let p = picked (are_numbered most c bs) (record { below = c.first - 1; elements = elements_of (c ∷ bs) }) now is in
      let q = and_parts (nat_le 1 c.first) _ p.0 in
      let one : 1 ≤ c.first = leb-true 1 c.first q.0 in
      let u = and_parts (continue_at c.first (c ∷ bs)) _ q.1 in
      let v = and_parts (c.first == c.first) _ u.0 in
      let w = and_parts (nat_le 1 (length c.elements)) _ v.1 in
      let full : 1 ≤ length (elements_of (c ∷ bs)) = omega (arith, leb-true 1 (length c.elements) w.0, length-append c.elements (elements_of bs)) in
      let low : floor_of durable (c.first - 1) (elements_of (c ∷ bs)) ≡ c.first - 1 = floor_some durable (c.first - 1) (elements_of (c ∷ bs)) full in
      let tops : floor_of durable (c.first - 1) (elements_of (c ∷ bs)) + length (elements_of (c ∷ bs)) ≡ durable = ap (top durable) p.1 ∙ ends in
      let numbered : are_numbered most c (bs ++ b ∷ []) ≡ true = numbered_push most c bs b p.0 (omega (arith, first, tops, low, one)) some (omega (arith, first, room)) in
      ap (λ (x : Bool). if x then Some (record { below = c.first - 1; elements = elements_of (c ∷ bs ++ b ∷ []) }) else None) numbered
      ∙ same_decoded (c.first - 1) (floor_of durable (c.first - 1) (elements_of (c ∷ bs))) (elements_of (c ∷ bs ++ b ∷ [])) (elements_of (c ∷ bs) ++ b.elements) (sym low) (elements_push (c ∷ bs) b)
      ∙ ap (λ (s : Content Op). Some (record { below = floor durable s; elements = s.elements ++ b.elements })) p.1

  -- the prefix with one more body
  pub prefix_push : (t : Encodings Op) (now : Content Op) (used durable : ℕ) (prefix chunk : List ℕ) (b : Body Op) → PrefixEncodes t now used prefix → IsBody t chunk b → top durable now ≡ durable → b.first ≡ durable + 1
      → 1 ≤ length b.elements → durable + length b.elements ≤ t.most
      → PrefixEncodes t (record { below = floor durable now; elements = now.elements ++ b.elements }) (used + 1 + length chunk) (prefix ++ 0xc3 ∷ chunk)
  prefix_push t now used durable prefix chunk b on_device body ends first some room = record {
    head = on_device.head;
    bodies = on_device.bodies ++ b ∷ [];
    chain = on_device.chain ++ 0xc3 ∷ chunk;
    is = ap (λ (l : List ℕ). l ++ 0xc3 ∷ chunk) on_device.is ∙ append_assoc t.header on_device.chain (0xc3 ∷ chunk);
    gated = gated_push t on_device.chain chunk on_device.bodies b on_device.gated body;
    numbered = content_push t.most durable on_device.bodies b now on_device.numbered ends first some room;
    size = omega (arith, on_device.size, length-append prefix (0xc3 ∷ chunk));
  }

  -- a header without a body decodes to no element
  pub empty_prefix : (t : Encodings Op) → length t.header ≡ 64 → PrefixEncodes t nothing 64 t.header
  empty_prefix t head = record { head = head; bodies = []; chain = []; is = sym (append-nil t.header); gated = refl; numbered = refl; size = sym head }

  -- a prefix that decodes to no element is the header alone, and else its first gate is open
  by_bodies : (t : Encodings Op) (prefix chain : List ℕ) (bodies : List (Body Op)) (now : Content Op) → prefix ≡ t.header ++ chain → AreGated t chain bodies → content_of_bodies t.most bodies ≡ Some now
      → ((now ≡ nothing) × (prefix ≡ t.header)) ⊎ ((rest : List ℕ) × (prefix ≡ t.header ++ 0xc3 ∷ rest))
  by_bodies t prefix chain [] now is gated numbered = inl (sym (same_Some nothing now numbered), is ∙ ap (λ (l : List ℕ). t.header ++ l) gated ∙ append-nil t.header)
  by_bodies t prefix chain (b ∷ bs) now is gated numbered = inr (gated.0 ++ gated.1, is ∙ ap (λ (l : List ℕ). t.header ++ l) gated.2)

  pub first_gate : (t : Encodings Op) (now : Content Op) (used : ℕ) (prefix : List ℕ) → PrefixEncodes t now used prefix
      → ((now ≡ nothing) × (prefix ≡ t.header)) ⊎ ((rest : List ℕ) × (prefix ≡ t.header ++ 0xc3 ∷ rest))
  first_gate t now used prefix on_device = by_bodies t prefix on_device.chain on_device.bodies now on_device.is on_device.gated on_device.numbered
