-- The operations that a hive lacks of numbered changes, and those above its number of what a journal decodes to.
use Rattle.std.proofs.Common.{◌≡◌, ◌⊎◌, inl, inr, ℕ, suc, ◌+◌, ◌-◌, ◌<◌, ◌≤◌, Bool, true, false, cond, List, [], ◌∷◌, map, drop, refl, sym, ◌∙◌, ap, arith}
use Rattle.std.specs.Prelude.{nat_lt}
use Rattle.std.specs.List.{filter}
use Rattle.std.proofs.lemmas.Bool.{cases_lt, lt-ltb, le-ltb}
use Rattle.reg_tree.specs.declared.element.Element.{Element}
use Rattle.crash_model.specs.Changes as law
use Rattle.crash_model.specs.Changes.{ops_on}
use Rattle.crash_model.specs.Promises.{Content}
use Rattle.crash_model.specs.Recovery.{above}
use Rattle.crash_model.proofs.Lists.{drop_nil}
use Rattle.change_codec.specs.ModelChanges.{TimedOp, timed_element, timed_elements}
use Rattle.commit_journal.specs.Numbered.{NumberedChange, numbered, changes_in, timed_changes}
use Rattle.recovery.specs.Replays.{ops_lacked}
use Rattle.recovery.specs.Retained.{above_number}

-- changes as a journal's content
abbrev pub content_with : ℕ → List Element → Content TimedOp
content_with base es = record { below = base; elements = timed_elements es }

-- the items with numbers above one
abbrev pub items_above : {A : Type 0} → ℕ → List (ℕ × A) → List A
items_above {A} k items = map (λ (c : ℕ × A). c.1) (filter (λ (c : ℕ × A). nat_lt k c.0) items)

pub items_numbered : {A : Type 0} (k base : ℕ) (xs : List A) → items_above k (numbered base xs) ≡ drop (k - base) xs
items_numbered {A} k base [] = sym (drop_nil {A = A} (k - base))
items_numbered {A} k base (x ∷ xs) = by_order (cases_lt k (base + 1)) (items_numbered k (base + 1) xs)
  where
    rest : List (ℕ × A)
    rest = filter (λ (c : ℕ × A). nat_lt k c.0) (numbered (base + 1) xs)

    picked : (b : Bool) → nat_lt k (base + 1) ≡ b → items_above k (numbered base (x ∷ xs)) ≡ map (λ (c : ℕ × A). c.1) (cond b ((base + 1, x) ∷ rest) rest)
    picked b e = ap (λ (d : Bool). map (λ (c : ℕ × A). c.1) (cond d ((base + 1, x) ∷ rest) rest)) e

    by_order : (k < base + 1) ⊎ (base + 1 ≤ k) → items_above k (numbered (base + 1) xs) ≡ drop (k - (base + 1)) xs → items_above k (numbered base (x ∷ xs)) ≡ drop (k - base) (x ∷ xs)
    by_order (inl lt) later =
        let all : k - (base + 1) ≡ 0 = omega (arith, lt) in
        let own : 0 ≡ k - base = omega (arith, lt) in
        picked true (lt-ltb k (base + 1) lt) ∙ ap (λ (l : List A). x ∷ l) (later ∙ ap (λ (n : ℕ). drop n xs) all) ∙ ap (λ (n : ℕ). drop n (x ∷ xs)) own
    by_order (inr ge) later =
        let next : suc (k - (base + 1)) ≡ k - base = omega (arith, ge) in
        picked false (le-ltb k (base + 1) ge) ∙ later ∙ ap (λ (n : ℕ). drop n (x ∷ xs)) next

pub items_timed : (k : ℕ) (changes : List NumberedChange) → items_above k (timed_changes changes) ≡ timed_elements (changes_in (above_number k changes))
items_timed k [] = refl
items_timed k (c ∷ cs) = by_test (nat_lt k c.0) (items_timed k cs)
  where
    by_test : (b : Bool) → items_above k (timed_changes cs) ≡ timed_elements (changes_in (above_number k cs))
        → map (λ (d : ℕ × law.Element TimedOp). d.1) (cond b ((c.0, timed_element c.1) ∷ filter (λ (d : ℕ × law.Element TimedOp). nat_lt k d.0) (timed_changes cs)) (filter (λ (d : ℕ × law.Element TimedOp). nat_lt k d.0) (timed_changes cs)))
        ≡ timed_elements (changes_in (cond b (c ∷ above_number k cs) (above_number k cs)))
    by_test true same = ap (λ (l : List (law.Element TimedOp)). timed_element c.1 ∷ l) same
    by_test false same = same

-- the operations that a hive lacks of all changes of a journal
pub ops_numbered : (i k base : ℕ) (es : List Element) → ops_lacked i k (numbered base es) ≡ ops_on i (above k (content_with base es))
ops_numbered i k base es =
    ap (ops_on i) (sym (items_timed k (numbered base es)) ∙ ap (items_above k) (sym (timed base es)) ∙ items_numbered k base (timed_elements es))
  where
    timed : (b : ℕ) (l : List Element) → numbered b (timed_elements l) ≡ timed_changes (numbered b l)
    timed b [] = refl
    timed b (e ∷ l) = ap (λ x. (b + 1, timed_element e) ∷ x) (timed (b + 1) l)
