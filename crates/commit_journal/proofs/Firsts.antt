-- What was read is the first part of what the file decodes to.
use Rattle.std.proofs.Common.{◌≡◌, ℕ, zero, suc, ◌+◌, ◌-◌, ◌<◌, ◌≤◌, List, [], ◌∷◌, ◌++◌, length, take, drop, refl, sym, ◌∙◌, ap, subst, arith, append_assoc, length-append, take-append-drop, Some}
use Rattle.std.specs.Prelude.{◌==◌, nat_le, option_map}
use Rattle.std.specs.Option.{option_and_then}
use Rattle.std.proofs.lemmas.List.{append-nil, length-map, map-append}
use Rattle.std.proofs.lemmas.Option.{same_Some, option_and_then_some}
use Rattle.std.proofs.lemmas.Bool.{and_parts, leb-true}
use Rattle.reg_tree.specs.declared.element.Element.{Element}
use Rattle.crash_model.specs.Changes as law
use Rattle.crash_model.specs.Promises.{Content, nothing, floor}
use Rattle.change_codec.specs.ModelChanges.{TimedOp, timed_element, timed_elements}
use Rattle.commit_journal.specs.Encoding.{Encodings, Body, read_elements, read_body, read_gates, continue_at, elements_of, are_numbered, content_of_bodies, decoded}
use Rattle.commit_journal.specs.Store.{encodings_after}
use Rattle.commit_journal.specs.Journals.{content_of}
use Rattle.commit_journal.specs.Numbered.{numbered, timed_changes}
use Rattle.commit_journal.specs.Scans.{AreFirstOf, DecodeFirst}
use Rattle.commit_journal.specs.Reading.{AtGate, InBody, finished, in_partial_body, reading_at, encodings_for, IsReading, ElementsAreSound, PartialIsSound, IsLastOfPartial, sound_at, numbers_agree_at, numbered_to, read_by, taken_by}
use Rattle.commit_journal.specs.declared.extent.Extent.{Extent}
use Rattle.commit_journal.specs.declared.reader.PartialBody.{PartialBody}
use Rattle.commit_journal.specs.declared.reader.NextField.{NextField}
use Rattle.commit_journal.specs.declared.reader.NextField.TheVariants.{Gate, Head, Size, Encoding, Done}
use Rattle.commit_journal.specs.declared.reader.Reader.{Reader}
use Rattle.commit_journal.proofs.Numbers.{picked, floor_some}
use Rattle.commit_journal.proofs.Opening.{map_back, let_through}
use Rattle.commit_journal.proofs.Parts.{decoded_on}

-- ---- numbers

pub numbered_append : {A : Type 0} (base : ℕ) (xs ys : List A) → numbered base (xs ++ ys) ≡ numbered base xs ++ numbered (base + length xs) ys
numbered_append base [] ys = ap (λ n. numbered n ys) (omega arith)
numbered_append base (x ∷ xs) ys = ap (λ l. (base + 1, x) ∷ l) (numbered_append (base + 1) xs ys ∙ ap (λ n. numbered (base + 1) xs ++ numbered n ys) (omega arith))

pub timed_numbered : (base : ℕ) (es : List Element) → numbered base (timed_elements es) ≡ timed_changes (numbered base es)
timed_numbered base [] = refl
timed_numbered base (e ∷ es) = ap (λ l. (base + 1, timed_element e) ∷ l) (timed_numbered (base + 1) es)

-- one more element
pub one_more : (last : ℕ) (es xs : List Element) (e : Element) → length es ≤ last → xs ≡ es ++ e ∷ [] → numbered_to (last + 1) xs ≡ numbered_to last es ++ (last + 1, e) ∷ []
one_more last es xs e few is =
    ap (numbered_to (last + 1)) is
    ∙ ap (λ n. numbered n (es ++ e ∷ [])) (omega (arith, few, length-append es (e ∷ [])))
    ∙ numbered_append (last - length es) es (e ∷ [])
    ∙ ap (λ n. numbered (last - length es) es ++ (n + 1, e) ∷ []) (omega (arith, few))

-- ---- bodies

module _ {Op : Type 0} where
  elements_all : (bs more : List (Body Op)) → elements_of (bs ++ more) ≡ elements_of bs ++ elements_of more
  elements_all [] more = refl
  elements_all (b ∷ bs) more = ap (λ l. b.elements ++ l) (elements_all bs more) ∙ sym (append_assoc b.elements (elements_of bs) (elements_of more))

  elements_are : (most : ℕ) (bs : List (Body Op)) (x : Content Op) → content_of_bodies most bs ≡ Some x → x.elements ≡ elements_of bs
  elements_are most [] x e = ap (λ (s : Content Op). s.elements) (sym (same_Some nothing x e))
  elements_are most (b ∷ bs) x e = ap (λ (s : Content Op). s.elements) (sym (picked (are_numbered most b bs) (record { below = b.first - 1; elements = elements_of (b ∷ bs) }) x e).1)

  below_is : (most : ℕ) (b : Body Op) (bs : List (Body Op)) (x : Content Op) → content_of_bodies most (b ∷ bs) ≡ Some x → x.below ≡ b.first - 1
  below_is most b bs x e = ap (λ (s : Content Op). s.below) (sym (picked (are_numbered most b bs) (record { below = b.first - 1; elements = elements_of (b ∷ bs) }) x e).1)

  some_element : (most : ℕ) (b : Body Op) (bs : List (Body Op)) (x : Content Op) → content_of_bodies most (b ∷ bs) ≡ Some x → 1 ≤ length x.elements
  some_element most b bs x e =
      let p = picked (are_numbered most b bs) (record { below = b.first - 1; elements = elements_of (b ∷ bs) }) x e in
      let q = and_parts (nat_le 1 b.first) _ p.0 in
      let r = and_parts (continue_at b.first (b ∷ bs)) _ q.1 in
      let u = and_parts (b.first == b.first) _ r.0 in
      let v = and_parts (nat_le 1 (length b.elements)) _ u.1 in
      omega (arith, leb-true 1 (length b.elements) v.0, ap length (elements_are most (b ∷ bs) x e), length-append b.elements (elements_of bs))

  -- bodies, and others after them: the elements of the former are the first, and any number before them is theirs
  after_bodies : (most : ℕ) (bs more : List (Body Op)) (now x : Content Op) → content_of_bodies most bs ≡ Some now → content_of_bodies most (bs ++ more) ≡ Some x
      → (x.elements ≡ now.elements ++ elements_of more) × (x.below ≡ floor x.below now)
  after_bodies most [] more now x is all =
      let none : nothing ≡ now = same_Some nothing now is in
      (elements_are most more x all ∙ ap (λ (s : Content Op). s.elements ++ elements_of more) none, ap (λ (s : Content Op). floor x.below s) none)
  after_bodies most (c ∷ cs) more now x is all = (
    elements_are most (c ∷ cs ++ more) x all ∙ elements_all (c ∷ cs) more ∙ ap (λ l. l ++ elements_of more) (sym (elements_are most (c ∷ cs) now is)),
    below_is most c (cs ++ more) x all ∙ sym (below_is most c cs now is) ∙ sym (floor_some x.below now.below now.elements (some_element most c cs now is)),
  )

  -- the number before all, if one of the others is known
  below_body : (most : ℕ) (bs : List (Body Op)) (b : Body Op) (more : List (Body Op)) (now x : Content Op) → content_of_bodies most bs ≡ Some now → content_of_bodies most (bs ++ b ∷ more) ≡ Some x
      → x.below ≡ floor (b.first - 1) now
  below_body most [] b more now x is all = below_is most b more x all ∙ ap (λ (s : Content Op). floor (b.first - 1) s) (same_Some nothing now is)
  below_body most (c ∷ cs) b more now x is all =
      below_is most c (cs ++ b ∷ more) x all ∙ sym (below_is most c cs now is) ∙ sym (floor_some (b.first - 1) now.below now.elements (some_element most c cs now is))

module _ {Op : Type 0} (t : Encodings Op) where
  -- at a gate
  pub first_at_gate : (file : List ℕ) (now x : Content Op) (at : ℕ) (rest : List ℕ) → AtGate t file now at rest → decoded t file ≡ Some x
      → (more : List (law.Element Op)) × (x.elements ≡ now.elements ++ more) × (x.below ≡ floor x.below now)
  first_at_gate file now x at rest here e =
      let p = decoded_on t now at here.prefix rest here.on_device in
      option_and_then_some (λ more. content_of_bodies t.most (here.on_device.bodies ++ more)) (read_gates t p.0 rest) x (sym p.2 ∙ ap (decoded t) (sym here.is) ∙ e) (λ all read made.
      let a = after_bodies t.most here.on_device.bodies all now x here.on_device.numbered made in
      (elements_of all, a.0, a.1))

  abbrev Followed : Content Op → Content Op → ℕ → List (law.Element Op) → Type 0
  Followed now x first es = (more : List (law.Element Op)) × (x.elements ≡ now.elements ++ (es ++ more)) × (x.below ≡ floor (first - 1) now)

  by_gates : (n : ℕ) (now x : Content Op) (bytes : List ℕ) (bs : List (Body Op)) (first : ℕ) (es : List (law.Element Op)) (left count : ℕ) (rest : List ℕ) → content_of_bodies t.most bs ≡ Some now → length (0xc3 ∷ bytes) < n
      → read_body t bytes ≡ option_and_then (finished first es (drop left rest)) (read_elements t.read count (take left rest))
      → option_and_then (λ more. content_of_bodies t.most (bs ++ more)) (read_gates t n (0xc3 ∷ bytes)) ≡ Some x → Followed now x first es
  by_gates zero now x bytes bs first es left count rest is below reads e = absurd (omega (arith, below))
  by_gates (suc n) now x bytes bs first es left count rest is below reads e =
      option_and_then_some (λ more. content_of_bodies t.most (bs ++ more)) (read_gates t (suc n) (0xc3 ∷ bytes)) x e (λ all read made.
      option_and_then_some (λ got. option_map (λ more. got.0 ∷ more) (read_gates t n got.1)) (read_body t bytes) all read (λ got body others.
      map_back (λ more. got.0 ∷ more) (read_gates t n got.1) all others (λ more behind same.
      option_and_then_some (finished first es (drop left rest)) (read_elements t.read count (take left rest)) got (sym reads ∙ body) (λ g elements whole.
      let test = let_through (length g.1 == 0) (Some (record { first = first; elements = es ++ g.0 }, drop left rest)) got whole in
      let is_body : ◌≡◌ {A = Body Op × List ℕ} (record { first = first; elements = es ++ g.0 }, drop left rest) got = same_Some _ _ test.1 in
      let all_is : content_of_bodies t.most (bs ++ got.0 ∷ more) ≡ Some x = ap (λ (l : List (Body Op)). content_of_bodies t.most (bs ++ l)) same ∙ made in
      let a = after_bodies t.most bs (got.0 ∷ more) now x is all_is in
      let b = below_body t.most bs got.0 more now x is all_is in (
        g.0 ++ elements_of more,
        a.0 ∙ ap (λ (c : Body Op × List ℕ). now.elements ++ (c.0.elements ++ elements_of more)) (sym is_body) ∙ ap (λ l. now.elements ++ l) (append_assoc es g.0 (elements_of more)),
        b ∙ ap (λ (c : Body Op × List ℕ). floor (c.0.first - 1) now) (sym is_body),
      )))))

  -- in a body
  pub first_in_body : (file : List ℕ) (now x : Content Op) (at size first : ℕ) (es : List (law.Element Op)) (left count : ℕ) (rest : List ℕ) → InBody t file now at size first es left count rest → decoded t file ≡ Some x
      → Followed now x first es
  first_in_body file now x at size first es left count rest here e =
      let p = decoded_on t now at here.gate.prefix (0xc3 ∷ here.bytes) here.gate.on_device in
      by_gates p.0 now x here.bytes here.gate.on_device.bodies first es left count rest here.gate.on_device.numbered p.1 here.reads (sym p.2 ∙ ap (decoded t) (sym here.gate.is) ∙ e)

-- ---- what a reader has read

-- elements at the front of a content, with the number before them
firsts : (s : Content TimedOp) (es : List Element) (more : List (law.Element TimedOp)) (base : ℕ) → s.elements ≡ timed_elements es ++ more → s.below ≡ base → AreFirstOf (numbered base es) s
firsts s es more base are below = (
  numbered (base + length (timed_elements es)) more,
  ap (λ n. numbered n s.elements) below ∙ ap (numbered base) are ∙ numbered_append base (timed_elements es) more ∙ ap (λ l. l ++ numbered (base + length (timed_elements es)) more) (timed_numbered base es),
)

pub first_partial : (header : List ℕ) (hives : ℕ) (file : List ℕ) (now : Extent) (es : List Element) (partial_body : PartialBody) (rest : List ℕ) (last : ℕ) → ElementsAreSound hives now (take partial_body.start es) es → PartialIsSound now es partial_body → IsLastOfPartial last es partial_body
    → in_partial_body (encodings_after header hives) file now es partial_body rest → DecodeFirst (numbered_to last es) (encodings_after header hives) file
first_partial header hives file now es partial_body rest last keeps part tied here s decodes =
    let body = drop partial_body.start es in
    let before = take partial_body.start es in
    let f = first_in_body (encodings_after header hives) file (content_of now) s now.gate partial_body.size partial_body.first (timed_elements body) partial_body.left partial_body.count rest here decodes in
    let whole : timed_elements before ++ timed_elements body ≡ timed_elements es = sym (map-append timed_element before body) ∙ ap timed_elements (take-append-drop partial_body.start es) in
    let are : s.elements ≡ timed_elements es ++ f.0
    = f.1 ∙ ap (λ l. l ++ (timed_elements body ++ f.0)) keeps.ghost_log ∙ sym (append_assoc (timed_elements before) (timed_elements body) f.0) ∙ ap (λ l. l ++ f.0) whole in
    firsts s es f.0 (last - length es) are (omega (arith, f.2, part.ends, tied, part.number, ap length keeps.ghost_log, length-map before timed_element, ap length (take-append-drop partial_body.start es), length-append before body))

pub first_read : (header file rest : List ℕ) (hives : ℕ) (now : Extent) (es : List Element) (next : NextField) (last : ℕ) → sound_at hives now es next → numbers_agree_at last now es next → reading_at (encodings_after header hives) file now es next rest
    → DecodeFirst (numbered_to last es) (encodings_after header hives) file
first_read header file rest hives now es next last keeps tied here s decodes = by_next next keeps tied here
  where
    t : Encodings TimedOp
    t = encodings_after header hives

    at_gate : ElementsAreSound hives now es es → last ≡ now.last → (at : List ℕ) → AtGate t file (content_of now) now.gate at → AreFirstOf (numbered_to last es) s
    at_gate sound same at gate = by_elements es refl
      where
        f : (more : List (law.Element TimedOp)) × (s.elements ≡ (content_of now).elements ++ more) × (s.below ≡ floor s.below (content_of now))
        f = first_at_gate t file (content_of now) s now.gate at gate decodes

        are : s.elements ≡ timed_elements es ++ f.0
        are = f.1 ∙ ap (λ l. l ++ f.0) sound.ghost_log

        by_elements : (l : List Element) → es ≡ l → AreFirstOf (numbered_to last es) s
        by_elements [] is = subst (λ (l : List Element). AreFirstOf (numbered_to last l) s) (sym is) (numbered s.below s.elements, refl)
        by_elements (x ∷ xs) is =
            let long : 1 ≤ length (content_of now).elements = omega (arith, ap length sound.ghost_log, length-map es timed_element, ap length is) in
            firsts s es f.0 (last - length es) are (omega (arith, f.2, floor_some s.below now.below (content_of now).elements long, floor_some 0 now.below (content_of now).elements long, same, now.kept.last_is, ap length sound.ghost_log, length-map es timed_element))

    by_next : (n : NextField) → sound_at hives now es n → numbers_agree_at last now es n → reading_at t file now es n rest → AreFirstOf (numbered_to last es) s
    by_next Gate k n h = at_gate k n rest h
    by_next Head k n h = at_gate k n (0xc3 ∷ rest) h
    by_next (Size partial_body) k n h = first_partial header hives file now es partial_body rest last k.0 k.1.0 n h s decodes
    by_next (Encoding partial_body len) k n h = first_partial header hives file now es partial_body rest last k.0 k.1.0 n h.0 s decodes
    by_next Done k n h = by_elements es refl
      where
        is : s ≡ content_of now
        is = same_Some s (content_of now) (sym decodes ∙ h.decodes)

        are : s.elements ≡ timed_elements es ++ []
        are = ap (λ (c : Content TimedOp). c.elements) is ∙ k.ghost_log ∙ sym (append-nil (timed_elements es))

        by_elements : (l : List Element) → es ≡ l → AreFirstOf (numbered_to last es) s
        by_elements [] none = subst (λ (l : List Element). AreFirstOf (numbered_to last l) s) (sym none) (numbered s.below s.elements, refl)
        by_elements (x ∷ xs) some =
            let long : 1 ≤ length (content_of now).elements = omega (arith, ap length k.ghost_log, length-map es timed_element, ap length some) in
            firsts s es [] (last - length es) are (omega (arith, ap (λ (c : Content TimedOp). c.below) is, floor_some 0 now.below (content_of now).elements long, n, now.kept.last_is, ap length k.ghost_log, length-map es timed_element))

-- the same of a reader
pub first_of_reader : (header file rest : List ℕ) (r : Reader) → sound_at r.hives r.on_device (read_by r) r.next → numbers_agree_at r.last r.on_device (read_by r) r.next → IsReading header file r rest → DecodeFirst (taken_by r) (encodings_for header r) file
first_of_reader header file rest r = first_read header file rest r.hives r.on_device (read_by r) r.next r.last

-- the numbers of all that was read, at the end
pub all_numbered : (hives : ℕ) (now : Extent) (es : List Element) (last : ℕ) → ElementsAreSound hives now es es → last ≡ now.last → numbered_to last es ≡ numbered (content_of now).below es
all_numbered hives now es last sound same = by_elements es refl
  where
    by_elements : (l : List Element) → es ≡ l → numbered_to last es ≡ numbered (content_of now).below es
    by_elements [] none = ap (numbered_to last) none ∙ sym (ap (numbered (content_of now).below) none)
    by_elements (x ∷ xs) some =
        let long : 1 ≤ length (content_of now).elements = omega (arith, ap length sound.ghost_log, length-map es timed_element, ap length some) in
        ap (λ n. numbered n es) (omega (arith, floor_some 0 now.below (content_of now).elements long, same, now.kept.last_is, ap length sound.ghost_log, length-map es timed_element))

-- before anything is taken
pub none_first : (t : Encodings TimedOp) (file : List ℕ) → DecodeFirst [] t file
none_first t file s is = (numbered s.below s.elements, refl)
