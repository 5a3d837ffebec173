-- Bodies after the durable content, read from left to right.
use Rattle.std.proofs.Common.{◌≡◌, ◌≢◌, ℕ, zero, suc, ◌+◌, ◌-◌, ◌<◌, ◌≤◌, Bool, true, false, List, [], ◌∷◌, ◌++◌, length, take, drop, refl, sym, ◌∙◌, ap, subst, arith, append_assoc, length-append, length-take, length-drop, Some, None, Option}
use Rattle.std.specs.Prelude.{if◌then◌else◌, ◌==◌, nat_le, nat_eq, option_map}
use Rattle.std.specs.List.{starts_with}
use Rattle.std.specs.Option.{option_and_then}
use Rattle.std.proofs.lemmas.List.{drop_at, append-nil, drop-take, drop-drop}
use Rattle.std.proofs.lemmas.Option.{same_Some, none-some, option_and_then_some}
use Rattle.std.proofs.lemmas.Bool.{and_parts, leb-true, eqb-true}
use Rattle.byteorder.specs.Endian.{little_number}
use Rattle.byteorder.specs.Numbers.{little_from-take}
use Rattle.crash_model.specs.Changes.{Element}
use Rattle.crash_model.specs.Promises.{Content, nothing, floor_of, top}
use Rattle.disk_model.specs.FileState.{at_rest}
use Rattle.commit_journal.specs.declared.layout.TheConstants.{MOST_BODY_BYTES}
use Rattle.commit_journal.specs.Encoding.{Encodings, Body, read_elements, whole_body, body_of, is_body_length, read_body, read_gates, continue_at, elements_of, are_numbered, content_of_bodies, decoded, AreGated, PrefixEncodes}
use Rattle.commit_journal.specs.OnDisk.{is_on, view_at, with_elements, Phase.AtRest}
use Rattle.commit_journal.specs.Reading.{AtGate, finished, rest_of_body, InBody, BodyMayFollow}
use Rattle.commit_journal.proofs.Reading.{begins, chosen, fewer, extent_decodes}
use Rattle.commit_journal.proofs.Numbers.{picked, floor_some, prefix_push}
use Rattle.commit_journal.proofs.Opening.{map_back, let_through, length_fits, body_back}

-- what is never something is nothing
pub never : {A : Type 0} (o : Option A) → ((x : A) → o ≡ Some x → ⊥) → o ≡ None
never None no_way = refl
never (Some x) no_way = absurd (no_way x refl)

map_none : {A : Type 0} (o : Option (List A)) → o ≡ option_map (λ more. [] ++ more) o
map_none None = refl
map_none (Some x) = refl

map_more : {A : Type 0} (b : A) (bs : List A) (o : Option (List A)) → option_map (λ more. b ∷ more) (option_map (λ more. bs ++ more) o) ≡ option_map (λ more. (b ∷ bs) ++ more) o
map_more b bs None = refl
map_more b bs (Some x) = refl

then_map : {A B C : Type 0} (f : B → Option C) (g : A → B) (o : Option A) → option_and_then f (option_map g o) ≡ option_and_then (λ x. f (g x)) o
then_map f g None = refl
then_map f g (Some x) = refl

module _ {Op : Type 0} where
  elements_append : (bs more : List (Body Op)) → length (elements_of (bs ++ more)) ≡ length (elements_of bs) + length (elements_of more)
  elements_append [] more = omega arith
  elements_append (b ∷ bs) more =
      omega (arith, length-append b.elements (elements_of (bs ++ more)), length-append b.elements (elements_of bs), elements_append bs more)

  follow_back : (next : ℕ) (bs : List (Body Op)) (b : Body Op) (more : List (Body Op)) → continue_at next (bs ++ b ∷ more) ≡ true → (b.first ≡ next + length (elements_of bs)) × (1 ≤ length b.elements)
  follow_back next [] b more on =
      let p = and_parts (b.first == next) _ on in
      let q = and_parts (nat_le 1 (length b.elements)) _ p.1 in
      (omega (arith, eqb-true b.first next p.0), leb-true 1 (length b.elements) q.0)
  follow_back next (c ∷ bs) b more on =
      let p = and_parts (c.first == next) _ on in
      let q = and_parts (nat_le 1 (length c.elements)) _ p.1 in
      let r = follow_back (next + length c.elements) bs b more q.1 in
      (omega (arith, r.0, length-append c.elements (elements_of bs)), r.1)

  -- a body among others after bodies continues from what they decode to
  pub continues : (most : ℕ) (bs : List (Body Op)) (b : Body Op) (more : List (Body Op)) (now x : Content Op) → content_of_bodies most bs ≡ Some now → content_of_bodies most (bs ++ b ∷ more) ≡ Some x → BodyMayFollow most now b.first (length b.elements)
  continues most [] b more now x is all =
      let none : nothing ≡ now = same_Some nothing now is in
      let p = picked (are_numbered most b more) (record { below = b.first - 1; elements = elements_of (b ∷ more) }) x all in
      let q = and_parts (nat_le 1 b.first) _ p.0 in
      let r = and_parts (continue_at b.first (b ∷ more)) _ q.1 in
      let f = follow_back b.first [] b more r.0 in
      let high : b.first + length (elements_of (b ∷ more)) ≤ most + 1 = leb-true (b.first + length (elements_of (b ∷ more))) (most + 1) r.1 in
      record {
        one = leb-true 1 b.first q.0;
        ends = ap (top (b.first - 1)) (sym none) ∙ (omega arith);
        some = f.1;
        room = omega (arith, high, length-append b.elements (elements_of more));
      }
  continues most (c ∷ cs) b more now x is all =
      let s = picked (are_numbered most c cs) (record { below = c.first - 1; elements = elements_of (c ∷ cs) }) now is in
      let s1 = and_parts (nat_le 1 c.first) _ s.0 in
      let s2 = and_parts (continue_at c.first (c ∷ cs)) _ s1.1 in
      let s3 = and_parts (c.first == c.first) _ s2.0 in
      let s4 = and_parts (nat_le 1 (length c.elements)) _ s3.1 in
      let one : 1 ≤ c.first = leb-true 1 c.first s1.0 in
      let full : 1 ≤ length (elements_of (c ∷ cs)) = omega (arith, leb-true 1 (length c.elements) s4.0, length-append c.elements (elements_of cs)) in
      let p = picked (are_numbered most c (cs ++ b ∷ more)) (record { below = c.first - 1; elements = elements_of (c ∷ cs ++ b ∷ more) }) x all in
      let q = and_parts (nat_le 1 c.first) _ p.0 in
      let r = and_parts (continue_at c.first (c ∷ cs ++ b ∷ more)) _ q.1 in
      let f = follow_back c.first (c ∷ cs) b more r.0 in
      let high : c.first + length (elements_of (c ∷ cs ++ b ∷ more)) ≤ most + 1 = leb-true (c.first + length (elements_of (c ∷ cs ++ b ∷ more))) (most + 1) r.1 in
      let tops : floor_of (b.first - 1) (c.first - 1) (elements_of (c ∷ cs)) ≡ c.first - 1 = floor_some (b.first - 1) (c.first - 1) (elements_of (c ∷ cs)) full in
      record {
        one = omega (arith, one, f.0);
        ends = ap (top (b.first - 1)) (sym s.1) ∙ (omega (arith, tops, f.0, one, full));
        some = f.1;
        room = omega (arith, high, f.0, elements_append (c ∷ cs) (b ∷ more), length-append b.elements (elements_of more));
      }

module _ {Op : Type 0} (t : Encodings Op) where
  gates_on : (n k : ℕ) (chain rest : List ℕ) (bs : List (Body Op)) → AreGated t chain bs → n ≡ length bs + k → read_gates t n (chain ++ rest) ≡ option_map (λ more. bs ++ more) (read_gates t k rest)
  gates_on n k chain rest [] is e = ap (λ (l : List ℕ). read_gates t n (l ++ rest)) is ∙ ap (λ (m : ℕ). read_gates t m rest) (omega (arith, e)) ∙ map_none (read_gates t k rest)
  gates_on zero k chain rest (b ∷ bs) gated e = absurd (omega (arith, e))
  gates_on (suc n) k chain rest (b ∷ bs) gated e =
      ap (λ (l : List ℕ). read_gates t (suc n) (l ++ rest)) gated.2
      ∙ ap (λ (l : List ℕ). read_gates t (suc n) (0xc3 ∷ l)) (append_assoc gated.0 gated.1 rest)
      ∙ ap (λ (o : Option (Body Op × List ℕ)). option_and_then (λ got. option_map (λ tail. got.0 ∷ tail) (read_gates t n got.1)) o) (gated.3 (gated.1 ++ rest))
      ∙ ap (λ (o : Option (List (Body Op))). option_map (λ tail. b ∷ tail) o) (gates_on n k gated.1 rest bs gated.4 (omega (arith, e)))
      ∙ map_more b bs (read_gates t k rest)

  -- what is decoded after a prefix: its content, with the bodies that are read after it
  pub decoded_on : (now : Content Op) (at : ℕ) (prefix rest : List ℕ) (s : PrefixEncodes t now at prefix)
      → (n : ℕ) × (length rest < n) × (decoded t (prefix ++ rest) ≡ option_and_then (λ more. content_of_bodies t.most (s.bodies ++ more)) (read_gates t n rest))
  unfolding decoded
  decoded_on now at prefix rest s =
      let bytes = t.header ++ (s.chain ++ rest) in
      let is : prefix ++ rest ≡ bytes = ap (λ (l : List ℕ). l ++ rest) s.is ∙ append_assoc t.header s.chain rest in
      let behind : drop 64 bytes ≡ s.chain ++ rest = drop_at t.header (s.chain ++ rest) 64 s.head in
      let k = length bytes - length s.bodies in
      let long : length bytes ≡ 64 + (length s.chain + length rest) = omega (arith, s.head, length-append t.header (s.chain ++ rest), length-append s.chain rest) in
      let few : length s.bodies ≤ length s.chain = fewer t s.chain s.bodies s.gated in (
        k,
        omega (arith, long, few),
        ap (decoded t) is
            ∙ chosen (starts_with nat_eq bytes t.header) _ _ (begins t.header (s.chain ++ rest))
            ∙ ap (λ (o : Option (List (Body Op))). option_and_then (content_of_bodies t.most) o) (ap (λ (l : List ℕ). read_gates t (length bytes) l) behind ∙ gates_on (length bytes) k s.chain rest s.bodies s.gated (omega (arith, long, few)))
            ∙ then_map (content_of_bodies t.most) (λ more. s.bodies ++ more) (read_gates t k rest),
      )

  gates_none : (n : ℕ) → read_gates t n [] ≡ None
  gates_none zero = refl
  gates_none (suc n) = refl

  -- a file that ends where a gate is to be decodes to nothing
  pub no_gate : (file : List ℕ) (now : Content Op) (at : ℕ) → AtGate t file now at [] → decoded t file ≡ None
  no_gate file now at here =
      let p = decoded_on now at here.prefix [] here.on_device in
      ap (decoded t) here.is ∙ p.2 ∙ ap (λ (o : Option (List (Body Op))). option_and_then (λ more. content_of_bodies t.most (here.on_device.bodies ++ more)) o) (gates_none p.0)

  -- what is decoded begins, after an open gate, with a body that continues the durable content
  abbrev Opens : Content Op → List ℕ → Type 0
  Opens now bytes = (b : Body Op) × (rest : List ℕ) × (read_body t bytes ≡ Some (b, rest)) × BodyMayFollow t.most now b.first (length b.elements)

  opens_by : (n : ℕ) (now x : Content Op) (bytes : List ℕ) (bs : List (Body Op)) → content_of_bodies t.most bs ≡ Some now → length (0xc3 ∷ bytes) < n
      → option_and_then (λ more. content_of_bodies t.most (bs ++ more)) (read_gates t n (0xc3 ∷ bytes)) ≡ Some x → Opens now bytes
  opens_by zero now x bytes bs is below e = absurd (omega (arith, below))
  opens_by (suc n) now x bytes bs is below e =
      option_and_then_some (λ more. content_of_bodies t.most (bs ++ more)) (read_gates t (suc n) (0xc3 ∷ bytes)) x e (λ all read numbered.
      option_and_then_some (λ got. option_map (λ more. got.0 ∷ more) (read_gates t n got.1)) (read_body t bytes) all read (λ got body others.
      map_back (λ more. got.0 ∷ more) (read_gates t n got.1) all others (λ more rest same.
      (got.0, got.1, body, continues t.most bs got.0 more now x is (ap (λ (l : List (Body Op)). content_of_bodies t.most (bs ++ l)) same ∙ numbered)))))

  pub opens : (file : List ℕ) (now x : Content Op) (at : ℕ) (bytes : List ℕ) → AtGate t file now at (0xc3 ∷ bytes) → decoded t file ≡ Some x → Opens now bytes
  opens file now x at bytes here e =
      let p = decoded_on now at here.prefix (0xc3 ∷ bytes) here.on_device in
      opens_by p.0 now x bytes here.on_device.bodies here.on_device.numbered p.1 (sym p.2 ∙ ap (decoded t) (sym here.is) ∙ e)

  -- all is found at a gate that isn't open
  pub found_at : (file : List ℕ) (now : Content Op) (at gate : ℕ) (tail : List ℕ) → AtGate t file now at (gate ∷ tail) → gate ≢ 0xc3
      → (decoded t file ≡ Some now) × ((any : Content Op) (ahead : ℕ) → is_on t (view_at now any at ahead AtRest) (at_rest file))
  unfolding is_on
  found_at file now at gate tail here shut = (
    ap (decoded t) here.is ∙ extent_decodes t now at here.prefix tail gate here.on_device shut,
    λ any ahead. record { prefix = here.prefix; closed = gate; tail = tail; none = refl; on_device = here.on_device; shut = shut; is = ap at_rest here.is },
  )

  -- ---- a body

  cut_front : (k n : ℕ) (l : List ℕ) → k ≤ n → drop k (take n l) ≡ take (n - k) (drop k l)
  cut_front k n l le = let e : n ≡ k + (n - k) = omega (arith, le) in ap (λ (m : ℕ). drop k (take m l)) e ∙ drop-take k (n - k) l

  whole_is : (first : ℕ) (behind : List ℕ) (o : Option (List (Element Op) × List ℕ)) → option_map (λ body. (body, behind)) (option_and_then (whole_body first) o) ≡ option_and_then (finished first [] behind) o
  whole_is first behind None = refl
  whole_is first behind (Some got) = by_test (length got.1 == 0)
    where
      by_test : (b : Bool) → ◌≡◌ {A = Option (Body Op × List ℕ)} (option_map (λ body. (body, behind)) (if b then Some (record { first = first; elements = got.0 }) else None)) (if b then Some (record { first = first; elements = got.0 }, behind) else None)
      by_test true = refl
      by_test false = refl

  -- a body after its head, none of whose elements is read
  pub body_begins : (bytes : List ℕ) (len first count : ℕ) → len ≡ little_number 4 bytes → first ≡ little_number 8 (drop 4 bytes) → count ≡ little_number 4 (drop 12 bytes) → 16 ≤ len → len ≤ MOST_BODY_BYTES → len ≤ length bytes
      → read_body t bytes ≡ rest_of_body t first [] (len - 16) count (drop 16 bytes)
  body_begins bytes len first count len_is first_is count_is low high there =
      let first_same : little_number 8 (drop 4 (take len bytes)) ≡ first
      = ap (little_number 8) (cut_front 4 len bytes (omega (arith, low))) ∙ little_from-take 0 8 (len - 4) (drop 4 bytes) (omega (arith, low)) ∙ sym first_is in
      let count_same : little_number 4 (drop 12 (take len bytes)) ≡ count
      = ap (little_number 4) (cut_front 12 len bytes (omega (arith, low))) ∙ little_from-take 0 4 (len - 12) (drop 12 bytes) (omega (arith, low)) ∙ sym count_is in
      let behind : drop len bytes ≡ drop (len - 16) (drop 16 bytes) = ap (λ (n : ℕ). drop n bytes) (omega (arith, low)) ∙ sym (drop-drop (len - 16) 16 bytes) in
      ap (λ (n : ℕ). if is_body_length n bytes then option_map (λ body. (body, drop n bytes)) (body_of t (take n bytes)) else None) (sym len_is)
      ∙ chosen (is_body_length len bytes) _ _ (length_fits len bytes low high there)
      ∙ ap (λ (n : ℕ). option_map (λ body. (body, drop len bytes)) (option_and_then (whole_body n) (read_elements t.read (little_number 4 (drop 12 (take len bytes))) (drop 16 (take len bytes))))) first_same
      ∙ ap (λ (n : ℕ). option_map (λ body. (body, drop len bytes)) (option_and_then (whole_body first) (read_elements t.read n (drop 16 (take len bytes))))) count_same
      ∙ ap (λ (l : List ℕ). option_map (λ body. (body, drop len bytes)) (option_and_then (whole_body first) (read_elements t.read count l))) (cut_front 16 len bytes low)
      ∙ whole_is first (drop len bytes) (read_elements t.read count (take (len - 16) (drop 16 bytes)))
      ∙ ap (λ (l : List ℕ). option_and_then (finished first [] l) (read_elements t.read count (take (len - 16) (drop 16 bytes)))) behind

  read_count : (n : ℕ) (l : List ℕ) (got : List (Element Op) × List ℕ) → read_elements t.read n l ≡ Some got → length got.0 ≡ n
  read_count zero l got e = ap (λ (g : List (Element Op) × List ℕ). length g.0) (sym (same_Some ([], l) got e))
  read_count (suc n) l got e =
      option_and_then_some (λ one. option_map (λ more. (one.0 ∷ more.0, more.1)) (read_elements t.read n one.1)) (t.read l) got e (λ one read others.
      map_back (λ more. (one.0 ∷ more.0, more.1)) (read_elements t.read n one.1) got others (λ more rest made.
      ap (λ (g : List (Element Op) × List ℕ). length g.0) (sym made) ∙ ap suc (read_count n one.1 more rest)))

  -- what the head of a body says that continues the durable content
  pub record HeadSays (now : Content Op) (bytes : List ℕ) (len first count : ℕ) : Type 0 where
    pub low : 16 ≤ len
    pub high : len ≤ MOST_BODY_BYTES
    pub there : len ≤ length bytes
    pub goes : BodyMayFollow t.most now first count

  pub head_says : (file : List ℕ) (now x : Content Op) (at : ℕ) (bytes : List ℕ) (len first count : ℕ) → len ≡ little_number 4 bytes → first ≡ little_number 8 (drop 4 bytes) → count ≡ little_number 4 (drop 12 bytes)
      → AtGate t file now at (0xc3 ∷ bytes) → decoded t file ≡ Some x → HeadSays now bytes len first count
  head_says file now x at bytes len first count len_is first_is count_is here e =
      let o = opens file now x at bytes here e in
      let p = let_through (is_body_length (little_number 4 bytes) bytes) (option_map (λ body. (body, drop (little_number 4 bytes) bytes)) (body_of t (take (little_number 4 bytes) bytes))) (o.0, o.1) o.2 in
      let q = and_parts (nat_le 16 (little_number 4 bytes)) _ p.0 in
      let r = and_parts (nat_le (little_number 4 bytes) MOST_BODY_BYTES) (nat_le (little_number 4 bytes) (length bytes)) q.1 in
      let low : 16 ≤ len = omega (arith, leb-true 16 (little_number 4 bytes) q.0, len_is) in
      let high : len ≤ MOST_BODY_BYTES = omega (arith, leb-true (little_number 4 bytes) MOST_BODY_BYTES r.0, len_is) in
      let there : len ≤ length bytes = omega (arith, leb-true (little_number 4 bytes) (length bytes) r.1, len_is) in
      let begun : rest_of_body t first [] (len - 16) count (drop 16 bytes) ≡ Some (o.0, o.1) = sym (body_begins bytes len first count len_is first_is count_is low high there) ∙ o.2 in
      option_and_then_some (finished first [] (drop (len - 16) (drop 16 bytes))) (read_elements t.read count (take (len - 16) (drop 16 bytes))) (o.0, o.1) begun (λ got read made.
      let test = let_through (length got.1 == 0) (Some (record { first = first; elements = [] ++ got.0 }, drop (len - 16) (drop 16 bytes))) (o.0, o.1) made in
      let same : ◌≡◌ {A = Body Op × List ℕ} (record { first = first; elements = [] ++ got.0 }, drop (len - 16) (drop 16 bytes)) (o.0, o.1) = same_Some _ _ test.1 in
      let counted : length o.0.elements ≡ count = sym (ap (λ (x : Body Op × List ℕ). length x.0.elements) same) ∙ read_count count (take (len - 16) (drop 16 bytes)) got read in
      let numbered : o.0.first ≡ first = sym (ap (λ (x : Body Op × List ℕ). x.0.first) same) in
      record { low = low; high = high; there = there; goes = subst (λ (n : ℕ). BodyMayFollow t.most now first n) counted (subst (λ (n : ℕ). BodyMayFollow t.most now n (length o.0.elements)) numbered o.3) })

  one_more : (first : ℕ) (es : List (Element Op)) (e : Element Op) (behind : List ℕ) (o : Option (List (Element Op) × List ℕ))
      → option_and_then (finished first es behind) (option_map (λ more. (e ∷ more.0, more.1)) o) ≡ option_and_then (finished first (es ++ e ∷ []) behind) o
  one_more first es e behind None = refl
  one_more first es e behind (Some got) =
      ap (λ (l : List (Element Op)). if length got.1 == 0 then Some (record { first = first; elements = l }, behind) else None) (sym (append_assoc es (e ∷ []) got.0))

  -- one more element of it is read
  pub body_goes_on : (first : ℕ) (es : List (Element Op)) (e : Element Op) (left count more len : ℕ) (rest : List ℕ) → count ≡ suc more → len ≤ left → t.read (take left rest) ≡ Some (e, take (left - len) (drop len rest))
      → rest_of_body t first es left count rest ≡ rest_of_body t first (es ++ e ∷ []) (left - len) more (drop len rest)
  body_goes_on first es e left count more len rest is le reads =
      let behind : drop left rest ≡ drop (left - len) (drop len rest) = ap (λ (n : ℕ). drop n rest) (omega (arith, le)) ∙ sym (drop-drop (left - len) len rest) in
      ap (λ (n : ℕ). option_and_then (finished first es (drop left rest)) (read_elements t.read n (take left rest))) is
      ∙ ap (λ (o : Option (Element Op × List ℕ)). option_and_then (finished first es (drop left rest)) (option_and_then (λ one. option_map (λ got. (one.0 ∷ got.0, got.1)) (read_elements t.read more one.1)) o)) reads
      ∙ one_more first es e (drop left rest) (read_elements t.read more (take (left - len) (drop len rest)))
      ∙ ap (λ (l : List ℕ). option_and_then (finished first (es ++ e ∷ []) l) (read_elements t.read more (take (left - len) (drop len rest)))) behind

  -- all of it is read
  pub body_ends : (first : ℕ) (es : List (Element Op)) (rest : List ℕ) → rest_of_body t first es 0 0 rest ≡ Some (record { first = first; elements = es }, rest)
  body_ends first es rest = ap (λ (l : List (Element Op)). Some (record { first = first; elements = l }, rest)) (append-nil es)

  module _ (file : List ℕ) (now : Content Op) (at size first : ℕ) (es : List (Element Op)) (left count : ℕ) (rest : List ℕ) (here : InBody t file now at size first es left count rest) where
    decodes_body : (x : Content Op) → decoded t file ≡ Some x → (b : Body Op) × (behind : List ℕ) × (rest_of_body t first es left count rest ≡ Some (b, behind))
    decodes_body x e = let o = opens file now x at here.bytes here.gate e in (o.0, o.1, sym here.reads ∙ o.2)

    -- a body with bytes left and no element is none
    pub no_end : count ≡ 0 → 0 < left → decoded t file ≡ None
    no_end none more = never (decoded t file) (λ x e.
        let b = decodes_body x e in
        let is : finished first es (drop left rest) ([], take left rest) ≡ Some (b.0, b.1) = ap (λ (n : ℕ). rest_of_body t first es left n rest) (sym none) ∙ b.2 in
        let test = let_through (length (take left rest) == 0) (Some (record { first = first; elements = es ++ [] }, drop left rest)) (b.0, b.1) is in
        omega (arith, eqb-true (length (take left rest)) 0 test.0, length-take left rest, here.there, more))

    -- a body whose next element can't be read is none
    pub no_element : 1 ≤ count → t.read (take left rest) ≡ None → decoded t file ≡ None
    no_element some none = never (decoded t file) (λ x e.
        let b = decodes_body x e in
        let more = count - 1 in
        let is : count ≡ suc more = omega (arith, some) in
        let nothing_read : rest_of_body t first es left count rest ≡ None
        = ap (λ (n : ℕ). option_and_then (finished first es (drop left rest)) (read_elements t.read n (take left rest))) is
        ∙ ap (λ (o : Option (Element Op × List ℕ)). option_and_then (finished first es (drop left rest)) (option_and_then (λ one. option_map (λ got. (one.0 ∷ got.0, got.1)) (read_elements t.read more one.1)) o)) none in
        none-some (b.0, b.1) (sym nothing_read ∙ b.2))

    -- one more element is read
    pub in_body_on : (e : Element Op) (len more : ℕ) → count ≡ suc more → len ≤ left → t.read (take left rest) ≡ Some (e, take (left - len) (drop len rest))
        → InBody t file now at size first (es ++ e ∷ []) (left - len) more (drop len rest)
    in_body_on e len more is le reads = record {
      bytes = here.bytes;
      gate = here.gate;
      reads = here.reads ∙ body_goes_on first es e left count more len rest is le reads;
      there = omega (arith, length-drop len rest, here.there, le);
      length_is = omega (arith, length-drop len rest, here.there, here.length_is, le);
    }

  -- all of the body is read: its elements are added
  pub body_done : (file : List ℕ) (now : Content Op) (at size first : ℕ) (es : List (Element Op)) (rest : List ℕ) → InBody t file now at size first es 0 0 rest → BodyMayFollow t.most now first (length es)
      → AtGate t file (with_elements now (first - 1) es) (at + 1 + size) rest
  body_done file now at size first es rest here goes =
      let b = body_back t here.bytes (record { first = first; elements = es }, rest) (here.reads ∙ body_ends first es rest) in
      let chunk = b.0 in
      let long : length chunk ≡ size = omega (arith, ap (λ (l : List ℕ). length l) b.1, length-append chunk rest, here.length_is) in
      let on_device = prefix_push t now at (first - 1) here.gate.prefix chunk (record { first = first; elements = es }) here.gate.on_device b.2 goes.ends (omega (arith, goes.one)) goes.some (omega (arith, goes.room, goes.one)) in
      record {
        prefix = here.gate.prefix ++ 0xc3 ∷ chunk;
        is = here.gate.is ∙ ap (λ (l : List ℕ). here.gate.prefix ++ 0xc3 ∷ l) b.1 ∙ sym (append_assoc here.gate.prefix (0xc3 ∷ chunk) rest);
        on_device = subst (λ (n : ℕ). PrefixEncodes t (with_elements now (first - 1) es) n (here.gate.prefix ++ 0xc3 ∷ chunk)) (omega (arith, long)) on_device;
      }

  -- a file that is too short for a gate, or for a head, decodes to nothing
  pub short_gate : (file : List ℕ) (now : Content Op) (at : ℕ) (rest : List ℕ) → AtGate t file now at rest → length rest < 1 → decoded t file ≡ None
  short_gate file now at [] here few = no_gate file now at here
  short_gate file now at (b ∷ rest) here few = absurd (omega (arith, few))

  pub short_head : (file : List ℕ) (now : Content Op) (at : ℕ) (rest : List ℕ) → AtGate t file now at (0xc3 ∷ rest) → length rest < 16 → decoded t file ≡ None
  short_head file now at rest here few = never (decoded t file) (λ x e.
      let h = head_says file now x at rest (little_number 4 rest) (little_number 8 (drop 4 rest)) (little_number 4 (drop 12 rest)) refl refl refl here e in
      omega (arith, h.low, h.there, few))
