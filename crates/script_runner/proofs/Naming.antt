-- The transactions that labels name, after room for one was made, and after one more was begun.
use Rattle.std.proofs.Common.{◌≡◌, ◌≢◌, ℕ, Bool, true, false, cond, List, Option, Some, None, refl, sym, ◌∙◌, ap, subst}
use Rattle.std.specs.Prelude.{is_some}
use Rattle.std.specs.Option.{option_and_then}
use Rattle.std.specs.Ordering.{nat_cmp}
use Rattle.std.specs.Cmp.Lexicographic.{slice_cmp}
use Rattle.std.specs.Str.{bytes_eq}
use Rattle.std.specs.BTreeMap.{Updates}
use Rattle.std.proofs.lemmas.Map.Text.{is_eq-slice_cmp}
use Rattle.std.proofs.lemmas.Slice.Eq.{bytes_eq-Decides}
use Rattle.store_model.specs.declared.handle.Tx.{Tx}
use Rattle.script_runner.specs.Scripts.{Names, SameNames}
use Rattle.script_runner.specs.Labels.{named_by, label_entry}
use Rattle.script_runner.specs.declared.labels.Labels.{Labels}

other_by : (test : Bool) (label other : List ℕ) → bytes_eq label other ≡ test → other ≢ label → test ≡ false
other_by true label other e h = absurd (h (sym ((bytes_eq-Decides label other).0 e)))
other_by false label other e h = refl

-- an entry written under a label is its transaction, and the others stay
pub names : (old new : Labels) (parsed label : List ℕ) (tx : Tx) → parsed ≡ label → Updates (slice_cmp nat_cmp) old.named new.named parsed (Some (Some tx)) → Names (named_by old) (named_by new) label tx
names old new parsed label tx e updated = subst (λ l. Names (named_by old) (named_by new) l tx) e (record {
  named = ap (option_and_then (λ tx. tx)) updated.1;
  others = λ other h. ap (option_and_then (λ tx. tx)) (updated.2 other (is_eq-slice_cmp parsed other ∙ other_by (bytes_eq parsed other) parsed other refl h));
})

empty_place : (test : Bool) (label other : List ℕ) (old new : Option (Option Tx)) → bytes_eq label other ≡ test → (bytes_eq label other ≡ true → old ≡ None) → new ≡ cond test (Some None) old → option_and_then (λ tx. tx) new ≡ option_and_then (λ tx. tx) old
empty_place true label other old new e absent written = ap (option_and_then (λ tx. tx)) written ∙ sym (ap (option_and_then (λ tx. tx)) (absent e))
empty_place false label other old new e absent written = ap (option_and_then (λ tx. tx)) written

-- an empty entry under a label that had none names nothing
pub same_names : (old new : Labels) (label : List ℕ) → Updates (slice_cmp nat_cmp) old.named new.named label (Some None) → label_entry old.named label ≡ None → SameNames (named_by old) (named_by new)
same_names old new label updated absent other =
    empty_place (bytes_eq label other) label other (label_entry old.named other) (label_entry new.named other) refl
    (λ e. ap (label_entry old.named) (sym ((bytes_eq-Decides label other).0 e)) ∙ absent)
    (updated.0 other ∙ ap (λ test. cond test (Some None) (label_entry old.named other)) (is_eq-slice_cmp label other))

-- what isn't there is nothing
pub none_there : (there : Bool) (key_ref : Option (Option Tx)) → there ≡ is_some key_ref → there ≡ false → key_ref ≡ None
none_there there None e h = refl
none_there there (Some tx) e h = absurd (bad (sym h ∙ e))
  where
    bad : false ≡ true → ⊥
    bad h = cc
