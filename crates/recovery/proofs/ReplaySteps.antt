-- One change, replayed on the hives that lack it.
use Rattle.std.proofs.Common.{◌≡◌, ◌⊎◌, inl, inr, ℕ, ◌+◌, ◌<◌, ◌≤◌, true, false, cond, List, [], ◌∷◌, ◌++◌, length, get_or, refl, sym, ◌∙◌, ap, subst, arith, Result, Ok, Err}
use Rattle.std.specs.Prelude.{OnErr}
use Rattle.std.specs.List.{filter}
use Rattle.std.proofs.lemmas.Bool.{cases_lt, le-ltb, lt-ltb}
use Rattle.std.proofs.lemmas.List.{append-nil}
use Rattle.reg_tree.specs.Maps.{TreeMap}
use Rattle.reg_tree.specs.declared.element.Element.{Element}
use Rattle.crash_model.specs.Changes as law
use Rattle.crash_model.specs.Changes.{on_hive, ops_on, replay}
use Rattle.change_codec.specs.ModelChanges.{TimedOp, tree_rules, timed_element, timed_elements}
use Rattle.commit_journal.specs.LastChangePerHive.{AreLastIn, HasCounted}
use Rattle.commit_journal.specs.Numbered.{NumberedChange, numbered, changes_in}
use Rattle.recovery.specs.Replays.{NamesFollow, TreesFollow, ops_lacked}
use Rattle.recovery.specs.Retained.{is_lacked}
use Rattle.recovery.proofs.NumberedChanges.{none_on}

pub always_err : {X E : Type 0} (r : Result X E) (P : Type 0) → P → OnErr r P
always_err (Ok x) P p = tt
always_err (Err e) P p = p

pub names_one : (number : ℕ) (change : Element) (old new : List ℕ) → length new ≡ length old → ((below : ℕ) → number ≡ below + 1 → HasCounted old below (change ∷ []) new) → NamesFollow ((number, change) ∷ []) old new
names_one number change old new many counts = record { many = many; each = each }
  where
    each : (base : ℕ) (known : List (law.Element TimedOp)) (es : List Element) → (number, change) ∷ [] ≡ numbered (base + length known) es → AreLastIn base known old → AreLastIn base (known ++ timed_elements es) new
    each base known [] is was = absurd (omega (arith, ap length is))
    each base known (e ∷ f ∷ es) is was = absurd (omega (arith, ap length is))
    each base known (e ∷ []) is was =
        let head : (number, change) ≡ (base + length known + 1, e) = ap (λ (l : List NumberedChange). get_or l 0 (number, change)) is in
        let at : number ≡ base + length known + 1 = ap (λ (c : NumberedChange). c.0) head in
        let same : change ≡ e = ap (λ (c : NumberedChange). c.1) head in
        subst (λ (x : Element). AreLastIn base (known ++ timed_elements (x ∷ [])) new) same ((counts (base + length known) at).last base known refl was)

-- a change that no hive lacks leaves all trees
pub trees_held : (numbers : List ℕ) (change : NumberedChange) (trees : List TreeMap) → is_lacked numbers change ≡ false → TreesFollow numbers (change ∷ []) trees trees
trees_held numbers (n, e) trees held = record {
  many = refl;
  each = λ i was is a b. ap (λ (ops : List TimedOp). replay tree_rules ops was) (none i (cases_lt (get_or numbers i 0) n)) ∙ sym a ∙ b;
}
  where
    none : (i : ℕ) → (get_or numbers i 0 < n) ⊎ (n ≤ get_or numbers i 0) → ops_lacked i (get_or numbers i 0) ((n, e) ∷ []) ≡ []
    none i (inl lt) = ap (λ b. ops_on i (timed_elements (changes_in (cond b ((n, e) ∷ []) [])))) (lt-ltb (get_or numbers i 0) n lt) ∙ append-nil (on_hive i (timed_element e)) ∙ none_on numbers i n e.moment e.ops lt held
    none i (inr le) = ap (λ b. ops_on i (timed_elements (changes_in (cond b ((n, e) ∷ []) [])))) (le-ltb (get_or numbers i 0) n le)

pub kept_lacked : (numbers : List ℕ) (change : NumberedChange) (before : List NumberedChange) → is_lacked numbers change ≡ true → before ++ change ∷ [] ≡ before ++ filter (is_lacked numbers) (change ∷ [])
kept_lacked numbers change before lacked = ap (λ b. before ++ cond b (change ∷ []) []) (sym lacked)

pub kept_held : (numbers : List ℕ) (change : NumberedChange) (before : List NumberedChange) → is_lacked numbers change ≡ false → before ≡ before ++ filter (is_lacked numbers) (change ∷ [])
kept_held numbers change before held = sym (append-nil before) ∙ ap (λ b. before ++ cond b (change ∷ []) []) (sym held)
