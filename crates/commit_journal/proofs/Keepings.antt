-- Numbers and elements of what was read.
use Rattle.std.proofs.Common.{◌≡◌, ◌⊎◌, inl, inr, ℕ, ◌+◌, ◌-◌, ◌*◌, ◌≤◌, List, [], ◌∷◌, ◌++◌, length, take, drop, refl, sym, ◌∙◌, ap, subst, arith}
use Rattle.std.proofs.lemmas.List.{length-append, length-map, map-append, drop-append-le, take_all}
use Rattle.std.proofs.Math.ListN.{drop_of_length-le}
use Rattle.reg_tree.specs.declared.element.Element.{Element}
use Rattle.crash_model.specs.Changes as law
use Rattle.crash_model.specs.Promises.{top}
use Rattle.std.proofs.lemmas.List.Sums.{sum_by-cons}
use Rattle.refusals.specs.declared.limits.TheConstants.{GREATEST_NUMBER}
use Rattle.reg_tree.specs.Encodings.{element_encoded_len}
use Rattle.std.specs.Prelude.{sum_by}
use Rattle.change_codec.specs.ModelChanges.{TimedOp, timed_element, timed_elements}
use Rattle.commit_journal.specs.GhostLog.{logged_changes, logged_elements}
use Rattle.commit_journal.specs.declared.layout.TheConstants.{MOST_BODY_BYTES}
use Rattle.commit_journal.specs.declared.extent.Extent.{Extent}
use Rattle.commit_journal.specs.declared.reader.PartialBody.{PartialBody}
use Rattle.commit_journal.specs.Journals.{content_of}
use Rattle.commit_journal.specs.Reading.{BodyMayFollow, IsLastOfPartial, ElementsAreSound, PartialIsSound, numbered_to}
use Rattle.commit_journal.proofs.Numbers.{floor_some}
use Rattle.commit_journal.specs.declared.ghost_log.GhostLog.{GhostLog, Nothing, Then', Same'}

-- the logged changes, as the crash model sees them
pub logged_are : (ghost_log : GhostLog) → logged_elements ghost_log ≡ timed_elements (logged_changes ghost_log)
logged_are Nothing = refl
logged_are (Then' shape before element) = ap (λ (l : List (law.Element TimedOp)). l ++ timed_element element.value ∷ []) (logged_are before) ∙ sym (map-append timed_element (logged_changes before) (element.value ∷ []))
logged_are (Same' shape before) = logged_are before

-- a number after the durable content continues what was read
pub follows_on : (now : Extent) (es : List Element) (last first : ℕ) → logged_elements now.ghost_log ≡ timed_elements es → last ≡ now.last → 1 ≤ first → top (first - 1) (content_of now) ≡ first - 1 → (es ≡ []) ⊎ (last + 1 ≡ first)
follows_on now [] last first ghost_log same some ends = inl refl
follows_on now (x ∷ xs) last first ghost_log same some ends =
    let long : 1 ≤ length (logged_elements now.ghost_log) = omega (arith, ap length ghost_log) in
    inr (omega (arith, same, now.kept.last_is, ends, some, floor_some 0 now.below (logged_elements now.ghost_log) long, floor_some (first - 1) now.below (logged_elements now.ghost_log) long))

-- then the numbers of what was read stay
pub same_numbers : (es : List Element) (last first : ℕ) → (es ≡ []) ⊎ (last + 1 ≡ first) → numbered_to (first - 1) es ≡ numbered_to last es
same_numbers es last first (inl none) = ap (numbered_to (first - 1)) none ∙ sym (ap (numbered_to last) none)
same_numbers es last first (inr next) = let e : first - 1 ≡ last = omega (arith, next) in ap (λ n. numbered_to n es) e

pub head_keeps : (hives : ℕ) (now : Extent) (es xs : List Element) (start : ℕ) → xs ≡ es → start ≡ length es → ElementsAreSound hives now es es → ElementsAreSound hives now (take start xs) xs
head_keeps hives now es xs start same is keeps = subst (λ (l : List Element). ElementsAreSound hives now (take start l) l) (sym same) (subst (λ (l : List Element). ElementsAreSound hives now l es) (sym (take_all start es (omega (arith, is)))) keeps)

pub head_part : (now : Extent) (es : List Element) (first size count start : ℕ) → start ≡ length es → BodyMayFollow GREATEST_NUMBER (content_of now) first count → 16 ≤ size → size ≤ MOST_BODY_BYTES
    → PartialIsSound now es (record { first = first; size = size; left = size - 16; count = count; start = start })
head_part now es first size count start is goes low high =
    let none : drop start es ≡ [] = drop_of_length-le es (omega (arith, is)) in
    record {
      start = omega (arith, is);
      number = goes.one;
      ends = goes.ends;
      some = omega (arith, goes.some);
      most = omega (arith, goes.room, ap length none);
      size = omega (arith, low, ap (λ (l : List Element). sum_by element_encoded_len l) none);
      short = high;
    }

pub tied_more : (last new : ℕ) (es xs : List Element) (e : Element) (partial_body : PartialBody) (left count : ℕ) → partial_body.start ≤ length es → xs ≡ es ++ e ∷ [] → new ≡ last + 1 → IsLastOfPartial last es partial_body
    → IsLastOfPartial new xs (record { first = partial_body.first; size = partial_body.size; left = left; count = count; start = partial_body.start })
tied_more last new es xs e partial_body left count inside made up tied =
    let body : drop partial_body.start xs ≡ drop partial_body.start es ++ e ∷ [] = ap (drop partial_body.start) made ∙ drop-append-le partial_body.start es (e ∷ []) inside in
    omega (arith, up, tied, ap (λ (l : List Element). length l) body, length-append (drop partial_body.start es) (e ∷ []))

pub no_changes : (l : List Element) → length l ≡ 0 → l ≡ []
no_changes [] is = refl
no_changes (x ∷ l) is = absurd (omega (arith, is))

-- each element has at least 16 bytes
pub least : (es : List Element) → 16 * length es ≤ sum_by element_encoded_len es
least [] = omega arith
least (e ∷ es) = let rest = least es in omega (arith, rest, sum_by-cons element_encoded_len e es)

pub none_logged : (ghost_log : GhostLog) → logged_elements ghost_log ≡ [] → logged_changes ghost_log ≡ []
none_logged ghost_log is = no_changes (logged_changes ghost_log) (omega (arith, ap length (sym (logged_are ghost_log) ∙ is), length-map (logged_changes ghost_log) timed_element))
