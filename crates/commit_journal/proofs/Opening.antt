-- The decoder takes what the grammar says: so a file that is at rest, and decodes to some content, is that of a journal
-- at rest.
use Rattle.std.proofs.Common.{◌≡◌, ◌≢◌, ℕ, zero, suc, ◌≤◌, Bool, true, false, List, [], ◌∷◌, ◌++◌, length, take, drop, refl, sym, ◌∙◌, ap, subst, arith, append_assoc, length-append, length-take, take-append-drop, Some, None, Option}
use Rattle.std.specs.Prelude.{if◌then◌else◌, ◌==◌, nat_le, nat_eq, option_map}
use Rattle.std.specs.Option.{option_and_then}
use Rattle.std.specs.List.{starts_with}
use Rattle.std.proofs.lemmas.Option.{same_Some, none-some, option_and_then_some}
use Rattle.std.proofs.lemmas.List.{take_at, drop_at}
use Rattle.std.proofs.lemmas.Bool.{eqb-true, eqb-false, and_parts, and_from, le-leb, leb-true}
use Rattle.byteorder.specs.Endian.{little_number}
use Rattle.byteorder.specs.Numbers.{little_from-append, little_from-take}
use Rattle.crash_model.specs.Promises.{Content, nothing}
use Rattle.disk_model.specs.FileState.{at_rest}
use Rattle.commit_journal.specs.declared.layout.TheConstants.{MOST_BODY_BYTES}
use Rattle.commit_journal.specs.Encoding.{Encodings, Body, body_of, is_body_length, read_body, read_gates, content_of_bodies, decoded, IsBody, AreGated, PrefixEncodes}
use Rattle.commit_journal.proofs.Reading.{begun_with}
use Rattle.commit_journal.proofs.Numbers.{empty_prefix}
use Rattle.commit_journal.specs.OnDisk.{is_on, view_at, Phase.AtRest}

pub map_back : {A B P : Type 0} (f : A → B) (o : Option A) (y : B) → option_map f o ≡ Some y → ((x : A) → o ≡ Some x → f x ≡ y → P) → P
map_back f None y e k = absurd (none-some y e)
map_back f (Some x) y e k = k x refl (same_Some (f x) y e)

pub let_through : {A : Type 0} (b : Bool) (o : Option A) (y : A) → (if b then o else None) ≡ Some y → (b ≡ true) × (o ≡ Some y)
let_through true o y e = (refl, e)
let_through false o y e = absurd (none-some y e)

-- a body may have the length that it has
pub length_fits : (len : ℕ) (bytes : List ℕ) → 16 ≤ len → len ≤ MOST_BODY_BYTES → len ≤ length bytes → is_body_length len bytes ≡ true
length_fits len bytes low high there =
    and_from (nat_le 16 len) _ (le-leb 16 len low) (and_from (nat_le len MOST_BODY_BYTES) (nat_le len (length bytes)) (le-leb len MOST_BODY_BYTES high) (le-leb len (length bytes) there))

module _ {Op : Type 0} (t : Encodings Op) where
  -- bytes that are a body's, with their length before them, are read as that body, whatever follows
  pub body_read : (chunk : List ℕ) (b : Body Op) → little_number 4 chunk ≡ length chunk → 16 ≤ length chunk → length chunk ≤ MOST_BODY_BYTES → body_of t chunk ≡ Some b → IsBody t chunk b
  body_read chunk b len low high is rest =
      let bytes = chunk ++ rest in
      let n : little_number 4 bytes ≡ length chunk = little_from-append 4 chunk rest (omega arith) ∙ len in
      let test : is_body_length (length chunk) bytes ≡ true = length_fits (length chunk) bytes low high (omega (arith, length-append chunk rest)) in
      ap (λ (m : ℕ). if is_body_length m bytes then option_map (λ body. (body, drop m bytes)) (body_of t (take m bytes)) else None) n
      ∙ ap (λ (x : Bool). if x then option_map (λ body. (body, drop (length chunk) bytes)) (body_of t (take (length chunk) bytes)) else None) test
      ∙ ap (λ (l : List ℕ). option_map (λ body. (body, drop (length chunk) bytes)) (body_of t l)) (take_at chunk rest (length chunk) refl)
      ∙ ap (λ (o : Option (Body Op)). option_map (λ body. (body, drop (length chunk) bytes)) o) is
      ∙ ap (λ (l : List ℕ). Some (b, l)) (drop_at chunk rest (length chunk) refl)

  pub body_back : (bytes : List ℕ) (got : Body Op × List ℕ) → read_body t bytes ≡ Some got → (chunk : List ℕ) × (bytes ≡ chunk ++ got.1) × IsBody t chunk got.0
  body_back bytes got e =
      let len = little_number 4 bytes in
      let p = let_through (is_body_length len bytes) (option_map (λ body. (body, drop len bytes)) (body_of t (take len bytes))) got e in
      let q = and_parts (nat_le 16 len) _ p.0 in
      let r = and_parts (nat_le len MOST_BODY_BYTES) (nat_le len (length bytes)) q.1 in
      let low : 16 ≤ len = leb-true 16 len q.0 in
      let high : len ≤ MOST_BODY_BYTES = leb-true len MOST_BODY_BYTES r.0 in
      let there : len ≤ length bytes = leb-true len (length bytes) r.1 in
      let chunk = take len bytes in
      let size : length chunk ≡ len = omega (arith, length-take len bytes, there) in
      let same : little_number 4 chunk ≡ length chunk = little_from-take 0 4 len bytes (omega (arith, low)) ∙ sym size in
      map_back (λ body. (body, drop len bytes)) (body_of t chunk) got p.1 (λ b is made. (
        chunk,
        sym (take-append-drop len bytes) ∙ ap (λ (x : Body Op × List ℕ). chunk ++ x.1) made,
        subst (λ (x : Body Op × List ℕ). IsBody t chunk x.0) made (body_read chunk b same (omega (arith, size, low)) (omega (arith, size, high)) is),
      ))

  abbrev Split : List ℕ → List (Body Op) → Type 0
  Split bytes bodies = (prefix : List ℕ) × (gate : ℕ) × (tail : List ℕ) × (bytes ≡ prefix ++ gate ∷ tail) × (gate ≢ 0xc3) × AreGated t prefix bodies

  gates_back : (n : ℕ) (bytes : List ℕ) (bodies : List (Body Op)) → read_gates t n bytes ≡ Some bodies → Split bytes bodies
  gates_back zero bytes bodies e = absurd (none-some bodies e)
  gates_back (suc n) [] bodies e = absurd (none-some bodies e)
  gates_back (suc n) (gate ∷ bytes) bodies e = by_gate (λ l bs. gates_back n l bs) (gate == 0xc3) refl e
    where
      behind : ((l : List ℕ) (bs : List (Body Op)) → read_gates t n l ≡ Some bs → Split l bs) → gate ≡ 0xc3 → (got : Body Op × List ℕ) (more : List (Body Op)) → read_body t bytes ≡ Some got → read_gates t n got.1 ≡ Some more → got.0 ∷ more ≡ bodies → Split (gate ∷ bytes) bodies
      behind later opened got more body rest is =
          let a = body_back bytes got body in
          let b = later got.1 more rest in (
            0xc3 ∷ a.0 ++ b.0,
            b.1,
            b.2,
            ap (λ (g : ℕ). g ∷ bytes) opened ∙ ap (λ (l : List ℕ). 0xc3 ∷ l) (a.1 ∙ ap (λ (l : List ℕ). a.0 ++ l) b.3 ∙ sym (append_assoc a.0 b.0 (b.1 ∷ b.2))),
            b.4,
            subst (λ (l : List (Body Op)). AreGated t (0xc3 ∷ a.0 ++ b.0) l) is (a.0, b.0, refl, a.2, b.5),
          )

      by_gate : ((l : List ℕ) (bs : List (Body Op)) → read_gates t n l ≡ Some bs → Split l bs) → (test : Bool) → (gate == 0xc3) ≡ test → (if test then option_and_then (λ got. option_map (λ more. got.0 ∷ more) (read_gates t n got.1)) (read_body t bytes) else Some []) ≡ Some bodies → Split (gate ∷ bytes) bodies
      by_gate later true is f =
          option_and_then_some (λ got. option_map (λ more. got.0 ∷ more) (read_gates t n got.1)) (read_body t bytes) bodies f (λ got body others.
          map_back (λ more. got.0 ∷ more) (read_gates t n got.1) bodies others (λ more rest same. behind later (eqb-true gate 0xc3 is) got more body rest same))
      by_gate later false is f = ([], gate, bytes, refl, eqb-false gate 0xc3 is, subst (λ (l : List (Body Op)). AreGated t [] l) (same_Some [] bodies f) refl)

  module _ (head : length t.header ≡ 64) where
    pub decoded_back : (c : List ℕ) (s : Content Op) → decoded t c ≡ Some s → (prefix : List ℕ) × (gate : ℕ) × (tail : List ℕ) × (c ≡ prefix ++ gate ∷ tail) × (gate ≢ 0xc3) × PrefixEncodes t s (length prefix) prefix
    unfolding decoded
    decoded_back c s e =
        let test = let_through (starts_with nat_eq c t.header) (option_and_then (content_of_bodies t.most) (read_gates t (length c) (drop 64 c))) s e in
        let whole : c ≡ t.header ++ drop 64 c = begun_with c t.header test.0 ∙ ap (λ (n : ℕ). t.header ++ drop n c) head in
        option_and_then_some (content_of_bodies t.most) (read_gates t (length c) (drop 64 c)) s test.1 (λ bodies read numbered.
        let b = gates_back (length c) (drop 64 c) bodies read in (
          t.header ++ b.0,
          b.1,
          b.2,
          whole ∙ ap (λ (l : List ℕ). t.header ++ l) b.3 ∙ sym (append_assoc t.header b.0 (b.1 ∷ b.2)),
          b.4,
          record { head = head; bodies = bodies; chain = b.0; is = refl; gated = b.5; numbered = numbered; size = refl },
        ))

    -- what an opening may rely on
    pub found : (c : List ℕ) (s any : Content Op) → decoded t c ≡ Some s → (gate : ℕ) × ((ahead : ℕ) → is_on t (view_at s any gate ahead AtRest) (at_rest c))
    unfolding is_on
    found c s any e =
        let b = decoded_back c s e in
        (length b.0, λ ahead. record { prefix = b.0; closed = b.1; tail = b.2; none = refl; on_device = b.5; shut = b.4; is = ap at_rest b.3 })

    -- a header and a gate that isn't open are a journal that decodes to no element
    pub created : (closed ahead : ℕ) (tail : List ℕ) (any : Content Op) → closed ≢ 0xc3 → is_on t (view_at nothing any 64 ahead AtRest) (at_rest (t.header ++ closed ∷ tail))
    unfolding is_on
    created closed ahead tail any shut = record { prefix = t.header; closed = closed; tail = tail; none = refl; on_device = empty_prefix t head; shut = shut; is = refl }
