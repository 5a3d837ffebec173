-- Hives of a list, and the crash model's view of them.
use Rattle.std.proofs.Common.{◌≡◌, ◌≢◌, inl, inr, ℕ, zero, suc, ◌<◌, List, [], ◌∷◌, ◌++◌, length, map, refl, sym, ◌∙◌, ap, subst, arith, Option, Some, None, slice_get, option_map}
use Rattle.std.specs.Prelude.{slice_set}
use Rattle.std.proofs.lemmas.Bool.{cases_eq}
use Rattle.std.proofs.lemmas.Option.{none-some, same_Some, slice_get_cases, slice_get_within, slice_get-map}
use Rattle.disk_model.specs.FileState.{FileState}
use Rattle.disk_model.specs.StoreFiles.{IsFileOfHive, primary_file, log_file, journal_file}
use Rattle.commit_journal.specs.OnDisk.{is_on}
use Rattle.commit_journal.specs.Journals.{encodings_of, journal_view}
use Rattle.commit_journal.specs.declared.journal.Journal.{Journal}
use Rattle.hive_flush.specs.HiveStates.{FilesMatchHive}
use Rattle.hive_flush.specs.declared.hive.HiveFile.{HiveFile}
use Rattle.engine_invariant.specs.States.{HiveView}
use Rattle.engine_invariant.specs.Prefixes.{AreOnDisk, view_of}

-- the entry at an index of the list
pub at_slot : {X : Type 0} (xs : List X) (i : ℕ) → i < length xs → (x : X) × (slice_get xs i ≡ Some x)
at_slot xs i lt = elim ((slice_get_cases xs i).1) [ inl it ↦ (it.0, it.2) | inr past ↦ absurd (omega (arith, lt, past.0)) ]

-- the view of a hive, and the hive that a view is of
pub view_at : (hives : List HiveFile) (i : ℕ) (hive : HiveFile) → slice_get hives i ≡ Some hive → slice_get (map view_of hives) i ≡ Some (view_of hive)
view_at hives i hive is = slice_get-map view_of hives i ∙ ap (option_map view_of) is

pub viewed : (hives : List HiveFile) (i : ℕ) (view : HiveView) → slice_get (map view_of hives) i ≡ Some view → (hive : HiveFile) × (slice_get hives i ≡ Some hive) × (view_of hive ≡ view)
viewed hives i view e = of_slot (slice_get hives i) (sym (slice_get-map view_of hives i) ∙ e)
  where
    of_slot : (o : Option HiveFile) → option_map view_of o ≡ Some view → (hive : HiveFile) × (o ≡ Some hive) × (view_of hive ≡ view)
    of_slot None e = absurd (none-some view e)
    of_slot (Some hive) e = (hive, refl, same_Some (view_of hive) view e)

-- an entry that was set, and the others
pub get_same : {A : Type 0} (hs : List A) (i : ℕ) (v : A) → i < length hs → slice_get (slice_set hs i v) i ≡ Some v
get_same [] i v lt = absurd (omega (arith, lt))
get_same (h ∷ hs) zero v lt = refl
get_same (h ∷ hs) (suc i) v lt = get_same hs i v (omega (arith, lt))

pub get_other : {A : Type 0} (hs : List A) (i j : ℕ) (v : A) → j ≢ i → slice_get (slice_set hs i v) j ≡ slice_get hs j
get_other [] i j v ne = refl
get_other (h ∷ hs) zero zero v ne = absurd (ne refl)
get_other (h ∷ hs) zero (suc j) v ne = refl
get_other (h ∷ hs) (suc i) zero v ne = refl
get_other (h ∷ hs) (suc i) (suc j) v ne = get_other hs i j v (λ e. ne (ap suc e))

-- what holds of a new hive at an index and of all others
pub each_hive : (hives : List HiveFile) (k : ℕ) (old new : HiveFile) → slice_get hives k ≡ Some old → (P : ℕ → HiveFile → Type 0) → P k new → ((j : ℕ) (h : HiveFile) → j ≢ k → slice_get hives j ≡ Some h → P j h)
    → (j : ℕ) (h : HiveFile) → slice_get (slice_set hives k new) j ≡ Some h → P j h
each_hive hives k old new is P own others j h at = elim (cases_eq j k) as (λ z. P j h) [
  | inl e ↦ let there : slice_get (slice_set hives k new) k ≡ Some h = subst (λ n. slice_get (slice_set hives k new) n ≡ Some h) e at in
      subst (λ n. P n h) (sym e) (subst (P k) (same_Some new h (sym (get_same hives k new (slice_get_within hives k old is)) ∙ there)) own)
  | inr ne ↦ others j h ne (sym (get_other hives k j new ne) ∙ at)
]

-- what holds of each entry and of one more at the end
pub each_pushed : {X : Type 0} (xs : List X) (last : X) (P : ℕ → X → Type 0) → ((i : ℕ) (x : X) → slice_get xs i ≡ Some x → P i x) → P (length xs) last
    → (i : ℕ) (x : X) → slice_get (xs ++ last ∷ []) i ≡ Some x → P i x
each_pushed [] last P each its zero x is = subst (P 0) (same_Some last x is) its
each_pushed [] last P each its (suc i) x is = absurd cc
each_pushed (y ∷ ys) last P each its zero x is = each 0 x is
each_pushed (y ∷ ys) last P each its (suc i) x is = each_pushed ys last (λ j z. P (suc j) z) (λ j z at. each (suc j) z at) its i x is

-- a call on a hive's files leaves all others on the disk
pub hive_writes : (journal : Journal) (hives : List HiveFile) (k : ℕ) (old new : HiveFile) (a b : ℕ → FileState) → slice_get hives k ≡ Some old → AreOnDisk journal hives a → ((f : ℕ) → ¬ (IsFileOfHive k f) → b f ≡ a f)
    → FilesMatchHive new (b (primary_file k)) (b (log_file k)) → AreOnDisk journal (slice_set hives k new) b
hive_writes journal hives k old new a b is on others own = record {
  decodes = subst (is_on (encodings_of journal) (journal_view journal)) (sym (others journal_file (λ f. elim (f) [ inl e ↦ omega (arith, e) | inr e ↦ omega (arith, e) ]))) on.decodes;
  each = each_hive hives k old new is (λ j h. FilesMatchHive h (b (primary_file j)) (b (log_file j))) own
      (λ j h ne at. subst (λ (s : FileState). FilesMatchHive h s (b (log_file j))) (sym (others (primary_file j) (λ f. elim (f) [ inl e ↦ absurd (ne (omega (arith, e))) | inr e ↦ omega (arith, e) ])))
      (subst (λ (s : FileState). FilesMatchHive h (a (primary_file j)) s) (sym (others (log_file j) (λ f. elim (f) [ inl e ↦ omega (arith, e) | inr e ↦ absurd (ne (omega (arith, e))) ]))) (on.each j h at)));
}
