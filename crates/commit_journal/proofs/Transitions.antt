-- Each step of a reading, in the words of what is still to be read.
use Rattle.std.proofs.Common.{◌≡◌, ◌≢◌, inl, inr, ⊎_elim, ℕ, ◌+◌, ◌-◌, ◌<◌, ◌≤◌, List, [], ◌∷◌, ◌++◌, length, take, drop, get_or, refl, sym, ◌∙◌, ap, subst, arith, length-append, length-take, length-drop, drop_of_length-le, Some, None}
use Rattle.std.proofs.lemmas.List.{take-append-le, drop-append-le, drop-drop, take_all, take-take, map-append, length-map}
use Rattle.std.proofs.lemmas.Option.{none-some}
use Rattle.std.specs.Prelude.{Result, Ok, Err, OnOk, IfErr, sum_by}
use Rattle.std.specs.List.{AllByRecursion}
use Rattle.std.proofs.lemmas.List.Sums.{sum_by-cons, sum_by-append}
use Rattle.refusals.specs.Answers.{RefusedFor}
use Rattle.refusals.specs.declared.refusal.Refusal.{Refusal}
use Rattle.reg_tree.specs.Encodings.{element_encoded_len}
use Rattle.byteorder.specs.Endian.{little_number}
use Rattle.byteorder.specs.Numbers.{little_from-take, little_from-append}
use Rattle.refusals.specs.declared.limits.TheConstants.{GREATEST_NUMBER}
use Rattle.reg_tree.specs.declared.element.Element.{Element}
use Rattle.crash_model.specs.Changes as law
use Rattle.crash_model.specs.Promises.{Content, nothing, floor, top}
use Rattle.change_codec.specs.Encoding.{element_at, Fits}
use Rattle.change_codec.specs.ModelChanges.{TimedOp, timed_element, timed_elements}
use Rattle.commit_journal.specs.declared.layout.TheConstants.{MOST_BODY_BYTES}
use Rattle.commit_journal.specs.Encoding.{Encodings, decoded}
use Rattle.commit_journal.specs.Store.{encodings_after, timed_at}
use Rattle.commit_journal.specs.OnDisk.{with_elements}
use Rattle.commit_journal.specs.Journals.{content_of}
use Rattle.commit_journal.specs.Reading.{AtGate, InBody, FileDecodesTo, BodyMayFollow, in_partial_body, ElementsAreSound, PartialIsSound}
use Rattle.commit_journal.specs.declared.extent.Extent.{Extent}
use Rattle.commit_journal.specs.declared.reader.PartialBody.{PartialBody}
use Rattle.commit_journal.proofs.Parts.{never, found_at, head_says, body_begins, no_end, no_element, in_body_on, body_done}
use Rattle.commit_journal.proofs.Numbers.{floor_some}
use Rattle.commit_journal.proofs.ElementsRead.{begins, none_front, read_front, whole}

-- what is said of an answer, weakened
pub ok_on : {X E : Type 0} (r : Result X E) (P Q : Type 0) → (P → Q) → OnOk r P → OnOk r Q
ok_on (Ok x) P Q f p = f p
ok_on (Err e) P Q f p = tt

pub refused_on : {X : Type 0} (r : Result X Refusal) (why : Refusal) (P Q : Type 0) → (P → Q) → IfErr r (RefusedFor why P) → IfErr r (RefusedFor why Q)
refused_on (Ok x) why P Q f p = tt
refused_on (Err e) why P Q f p = ⊎_elim (λ a. inl (a.0, f a.1)) (λ b. inr b) p

all_push : {X : Type 0} (P : X → Type 0) (xs : List X) (x : X) → AllByRecursion P xs → P x → AllByRecursion P (xs ++ x ∷ [])
all_push P [] x all here = (here, tt)
all_push P (y ∷ xs) x all here = (all.0, all_push P xs x all.1 here)

-- one more element is kept
pub keeps_more : (hives : ℕ) (now : Extent) (start : ℕ) (es xs : List Element) (e : Element) → ElementsAreSound hives now (take start es) es → start ≤ length es → Fits hives e → xs ≡ es ++ e ∷ [] → ElementsAreSound hives now (take start xs) xs
keeps_more hives now start es xs e keeps inside fits is = subst (λ (l : List Element). ElementsAreSound hives now (take start l) l) (sym is) (record {
  are = keeps.are ∙ sym (take-append-le start es (e ∷ []) inside);
  ghost_log = keeps.ghost_log ∙ ap timed_elements (sym (take-append-le start es (e ∷ []) inside));
  fit = all_push (Fits hives) es e keeps.fit fits;
  last = keeps.last;
})

pub part_more : (now : Extent) (es xs : List Element) (e : Element) (partial_body : PartialBody) (used : ℕ) → PartialIsSound now es partial_body → 1 ≤ partial_body.count → used ≤ partial_body.left → element_encoded_len e ≡ used → xs ≡ es ++ e ∷ []
    → PartialIsSound now xs (record { first = partial_body.first; size = partial_body.size; left = partial_body.left - used; count = partial_body.count - 1; start = partial_body.start })
part_more now es xs e partial_body used keeps some inside is made =
    let body : drop partial_body.start xs ≡ drop partial_body.start es ++ e ∷ [] = ap (drop partial_body.start) made ∙ drop-append-le partial_body.start es (e ∷ []) keeps.start in
    let count : length (drop partial_body.start xs) ≡ length (drop partial_body.start es) + 1 = omega (arith, ap (λ (l : List Element). length l) body, length-append (drop partial_body.start es) (e ∷ [])) in
    let sum : sum_by element_encoded_len (drop partial_body.start xs) ≡ sum_by element_encoded_len (drop partial_body.start es) + element_encoded_len e
    = ap (λ (l : List Element). sum_by element_encoded_len l) body ∙ sum_by-append element_encoded_len (drop partial_body.start es) (e ∷ []) ∙ ap (λ (n : ℕ). sum_by element_encoded_len (drop partial_body.start es) + n) (omega (arith, sum_by-cons element_encoded_len e [])) in
    record {
      start = omega (arith, keeps.start, ap (λ (l : List Element). length l) made, length-append es (e ∷ []));
      number = keeps.number;
      ends = keeps.ends;
      some = omega (arith, count);
      most = omega (arith, count, keeps.most, some);
      size = omega (arith, keeps.size, sum, is, inside);
      short = keeps.short;
    }

-- the first of some bytes
pub gate_front : (bytes : List ℕ) → 1 ≤ length bytes → bytes ≡ get_or bytes 0 0 ∷ drop 1 bytes
gate_front [] some = absurd (omega (arith, some))
gate_front (b ∷ bytes) some = refl

-- the last number with one more body
pub last_is : (s : Content TimedOp) (d : ℕ) (es : List (law.Element TimedOp)) → 0 < length es → top d s ≡ d → top 0 (with_elements s d es) ≡ d + length es
last_is s d es some ends =
    let all : length (s.elements ++ es) ≡ length s.elements + length es = length-append s.elements es in
    omega (arith, floor_some 0 (floor d s) (s.elements ++ es) (omega (arith, all, some)), all, ends)

-- a number in the front of bytes, whatever follows them
pub number_front : (n k : ℕ) (bytes behind : List ℕ) → n + k ≤ length bytes → little_number k (drop n bytes) ≡ little_number k (drop n (bytes ++ behind))
number_front n k bytes behind long =
    sym (ap (little_number k) (drop-append-le n bytes behind (omega (arith, long))) ∙ little_from-append k (drop n bytes) behind (omega (arith, long, length-drop n bytes)))

-- the bytes from an offset on, to the end of all
pub rest_is : (n : ℕ) (bytes : List ℕ) → take (length bytes - n) (drop n bytes) ≡ drop n bytes
rest_is n bytes = take_all (length bytes - n) (drop n bytes) (omega (arith, length-drop n bytes))

-- the bytes further on
pub rest_on : (n k : ℕ) (bytes : List ℕ) → drop k (take (length bytes - n) (drop n bytes)) ≡ drop (n + k) bytes
rest_on n k bytes = ap (drop k) (rest_is n bytes) ∙ drop-drop k n bytes ∙ ap (λ (m : ℕ). drop m bytes) (omega arith)

module _ (header : List ℕ) (hives : ℕ) (le : hives ≤ 256) (file : List ℕ) (now : Extent) where
  abbrev t : Encodings TimedOp
  t = encodings_after header hives

  -- a gate
  pub gate_shut : (bytes behind : List ℕ) (gate : ℕ) (tail : List ℕ) → bytes ≡ gate ∷ tail → gate ≢ 0xc3 → AtGate t file (content_of now) now.gate (bytes ++ behind) → FileDecodesTo t file now
  gate_shut bytes behind gate tail is shut here =
      let f = found_at t file (content_of now) now.gate gate (tail ++ behind) (subst (λ (l : List ℕ). AtGate t file (content_of now) now.gate (l ++ behind)) is here) shut in
      record { decodes = f.0; on = f.1 nothing now.gate }

  pub gate_open : (bytes behind : List ℕ) (gate : ℕ) (tail : List ℕ) → bytes ≡ gate ∷ tail → gate ≡ 0xc3 → AtGate t file (content_of now) now.gate (bytes ++ behind) → AtGate t file (content_of now) now.gate (0xc3 ∷ tail ++ behind)
  gate_open bytes behind gate tail is opened here = subst (λ (l : List ℕ). AtGate t file (content_of now) now.gate (l ++ behind)) (is ∙ ap (λ (g : ℕ). g ∷ tail) opened) here

  module _ (es : List Element) (bytes behind : List ℕ) (size first count left : ℕ) (long : 16 ≤ length bytes) (size_is : size ≡ little_number 4 bytes) (first_is : first ≡ little_number 8 (drop 4 bytes)) (count_is : count ≡ little_number 4 (drop 12 bytes))
      (left_is : left ≡ length bytes + length behind) (here : AtGate t file (content_of now) now.gate (0xc3 ∷ bytes ++ behind)) where
    all : List ℕ
    all = bytes ++ behind

    a : size ≡ little_number 4 (bytes ++ behind)
    a = size_is ∙ number_front 0 4 bytes behind (omega (arith, long))

    b : first ≡ little_number 8 (drop 4 (bytes ++ behind))
    b = first_is ∙ number_front 4 8 bytes behind (omega (arith, long))

    c : count ≡ little_number 4 (drop 12 (bytes ++ behind))
    c = count_is ∙ number_front 12 4 bytes behind (omega (arith, long))

    -- a head
    pub head_on : (start : ℕ) → start ≡ length es → 16 ≤ size → size ≤ MOST_BODY_BYTES → size ≤ left
        → in_partial_body t file now es (record { first = first; size = size; left = size - 16; count = count; start = start }) (drop 16 bytes ++ behind)
    head_on start is low high there =
        let rest : drop 16 (bytes ++ behind) ≡ drop 16 bytes ++ behind = drop-append-le 16 bytes behind long in
        let none : timed_elements (drop start es) ≡ [] = ap timed_elements (drop_of_length-le es (omega (arith, is))) in
        let body : InBody t file (content_of now) now.gate size first [] (size - 16) count (drop 16 (bytes ++ behind)) = record {
          bytes = bytes ++ behind;
          gate = here;
          reads = body_begins t (bytes ++ behind) size first count a b c low high (omega (arith, left_is, there, length-append bytes behind));
          there = omega (arith, length-drop 16 (bytes ++ behind), length-append bytes behind, left_is, there);
          length_is = omega (arith, length-drop 16 (bytes ++ behind), length-append bytes behind, left_is, there, low, long);
        } in
        subst (λ (l : List (law.Element TimedOp)). InBody t file (content_of now) now.gate size first l (size - 16) count (drop 16 bytes ++ behind)) (sym none)
        (subst (λ (l : List ℕ). InBody t file (content_of now) now.gate size first [] (size - 16) count l) rest body)

    pub head_none : ((16 ≤ size) → (size ≤ MOST_BODY_BYTES) → (size ≤ left) → BodyMayFollow GREATEST_NUMBER (content_of now) first count → ⊥) → decoded t file ≡ None
    head_none no_way = never (decoded t file) (λ x e.
        let h = head_says t file (content_of now) x now.gate (bytes ++ behind) size first count a b c here e in
        no_way h.low h.high (omega (arith, h.there, left_is, length-append bytes behind)) h.goes)

  module _ (es : List Element) (partial_body : PartialBody) (rest : List ℕ) (here : in_partial_body t file now es partial_body rest) where
    abbrev taken : List (law.Element TimedOp)
    taken = timed_elements (drop partial_body.start es)

    unread : 1 ≤ partial_body.count → ((one : law.Element TimedOp × List ℕ) → timed_at hives (take partial_body.left rest) ≡ Some one → ⊥) → decoded t file ≡ None
    unread some no_way = no_element t file (content_of now) now.gate partial_body.size partial_body.first taken partial_body.left partial_body.count rest here some (never (timed_at hives (take partial_body.left rest)) no_way)

    long : length (take partial_body.left rest) ≡ partial_body.left
    long = omega (arith, length-take partial_body.left rest, here.there)

    pub part_none : 1 ≤ partial_body.count → partial_body.left < 16 → decoded t file ≡ None
    part_none some few = unread some (λ one h. let g = begins hives le (take partial_body.left rest) one h in omega (arith, g.low, g.there, long, few))

    pub size_none : 1 ≤ partial_body.count → 16 ≤ partial_body.left → (16 ≤ little_number 4 rest → little_number 4 rest ≤ partial_body.left → ⊥) → decoded t file ≡ None
    size_none some enough no_way = unread some (λ one h.
        let g = begins hives le (take partial_body.left rest) one h in
        let n : little_number 4 (take partial_body.left rest) ≡ little_number 4 rest = little_from-take 0 4 partial_body.left rest (omega (arith, enough)) in
        no_way (omega (arith, n, g.low)) (omega (arith, n, g.there, long)))

    pub end_none : partial_body.count ≡ 0 → 0 < partial_body.left → decoded t file ≡ None
    end_none none more = no_end t file (content_of now) now.gate partial_body.size partial_body.first taken partial_body.left partial_body.count rest here none more

    pub end_on : partial_body.count ≡ 0 → partial_body.left ≡ 0 → PartialIsSound now es partial_body → (then : Extent) → content_of then ≡ with_elements (content_of now) (partial_body.first - 1) taken → then.gate ≡ now.gate + 1 + partial_body.size → AtGate t file (content_of then) then.gate rest
    end_on none empty keeps then decodes gate =
        let body : InBody t file (content_of now) now.gate partial_body.size partial_body.first taken 0 0 rest
        = subst (λ (n : ℕ). InBody t file (content_of now) now.gate partial_body.size partial_body.first taken 0 n rest) none (subst (λ (n : ℕ). InBody t file (content_of now) now.gate partial_body.size partial_body.first taken n partial_body.count rest) empty here) in
        let count : length taken ≡ length (drop partial_body.start es) = length-map (drop partial_body.start es) timed_element in
        let goes : BodyMayFollow GREATEST_NUMBER (content_of now) partial_body.first (length taken)
        = record { one = keeps.number; ends = keeps.ends; some = omega (arith, keeps.some, count, none); room = omega (arith, keeps.most, count, none) } in
        subst (λ (s : Content TimedOp). AtGate t file s then.gate rest) (sym decodes)
        (subst (λ (n : ℕ). AtGate t file (with_elements (content_of now) (partial_body.first - 1) taken) n rest) (sym gate)
        (body_done t file (content_of now) now.gate partial_body.size partial_body.first taken rest body goes))

  module _ (es : List Element) (partial_body : PartialBody) (len : ℕ) (bytes behind : List ℕ) (here : in_partial_body t file now es partial_body (bytes ++ behind)) (len_is : little_number 4 bytes ≡ len) (some : 1 ≤ partial_body.count) (low : 16 ≤ len) (high : len ≤ partial_body.left) (there : len ≤ length bytes) where
    prefix : take len (bytes ++ behind) ≡ take len bytes
    prefix = take-append-le len bytes behind there

    number : little_number 4 (bytes ++ behind) ≡ len
    number = sym (number_front 0 4 bytes behind (omega (arith, low, there))) ∙ len_is

    pub encoding_none : element_at hives bytes ≡ None → decoded t file ≡ None
    encoding_none none = unread es partial_body (bytes ++ behind) here some (λ one h.
        let g = begins hives le (take partial_body.left (bytes ++ behind)) one h in
        let n : little_number 4 (take partial_body.left (bytes ++ behind)) ≡ len = little_from-take 0 4 partial_body.left (bytes ++ behind) (omega (arith, low, high)) ∙ number in
        let same : take (little_number 4 (take partial_body.left (bytes ++ behind))) (take partial_body.left (bytes ++ behind)) ≡ take len bytes
        = ap (λ (k : ℕ). take k (take partial_body.left (bytes ++ behind))) n ∙ take-take len partial_body.left (bytes ++ behind) high ∙ prefix in
        none-some (g.element, []) (sym (none_front hives le bytes len none) ∙ ap (element_at hives) (sym same) ∙ g.read))

    pub encoding_on : (e : Element) (over : List ℕ) (xs : List Element) → element_at hives bytes ≡ Some (e, over) → partial_body.start ≤ length es → xs ≡ es ++ e ∷ []
        → in_partial_body t file now xs (record { first = partial_body.first; size = partial_body.size; left = partial_body.left - len; count = partial_body.count - 1; start = partial_body.start }) (drop len bytes ++ behind)
    encoding_on e over xs read start is =
        let f = read_front hives le bytes len e over len_is read in
        let w = whole hives le (bytes ++ behind) len e [] number low (omega (arith, there, length-append bytes behind)) (ap (element_at hives) prefix ∙ f.0) in
        let more = partial_body.count - 1 in
        let on = in_body_on t file (content_of now) now.gate partial_body.size partial_body.first (timed_elements (drop partial_body.start es)) partial_body.left partial_body.count (bytes ++ behind) here (timed_element e) len more (omega (arith, some)) high (w.1 partial_body.left high) in
        let rest : drop len (bytes ++ behind) ≡ drop len bytes ++ behind = drop-append-le len bytes behind there in
        let taken : timed_elements (drop partial_body.start es) ++ timed_element e ∷ [] ≡ timed_elements (drop partial_body.start xs)
        = sym (ap timed_elements (ap (drop partial_body.start) is ∙ drop-append-le partial_body.start es (e ∷ []) start) ∙ map-append timed_element (drop partial_body.start es) (e ∷ [])) in
        subst (λ (l : List (law.Element TimedOp)). InBody t file (content_of now) now.gate partial_body.size partial_body.first l (partial_body.left - len) more (drop len bytes ++ behind)) taken
        (subst (λ (l : List ℕ). InBody t file (content_of now) now.gate partial_body.size partial_body.first (timed_elements (drop partial_body.start es) ++ timed_element e ∷ []) (partial_body.left - len) more l) rest on)
