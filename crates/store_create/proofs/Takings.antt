-- One more file of an import.
use Rattle.std.proofs.Common.{◌≡◌, ℕ, ◌+◌, List, [], ◌∷◌, ◌++◌, length, sym, ◌∙◌, ap, subst, arith, inl, inr, Option, Some, IfSome, Ok, Err, length-append}
use Rattle.std.proofs.lemmas.Option.{slice_get_within}
use Rattle.refusals.specs.declared.refusal.Refusal.{Refusal}
use Rattle.refusals.specs.declared.refusal.Refusal.TheVariants.{NoMemory}
use Rattle.hive_file_reader.specs.Hives.{IsEnoughOf}
use Rattle.recovery.proofs.ListEntries.{got_end, got_front, got_push}
use Rattle.store_create.specs.Imports.{AreFrontsOf, HasTaken, IsOutcomeOfFiles, Taken}

module _ (files : List (Option (List ℕ))) (known : Option (List ℕ)) where
  -- the first bytes of files, and those of one more
  fronts_more : (fronts : List (List ℕ)) (front : List ℕ) → AreFrontsOf files fronts → IfSome known (IsEnoughOf front) → AreFrontsOf (files ++ known ∷ []) (fronts ++ front ∷ [])
  fronts_more fronts front old enough = record {
    many = length-append fronts (front ∷ []) ∙ ap (λ n. n + 1) old.many ∙ sym (length-append files (known ∷ []));
    enough = λ i file own at there. elim (got_push files known i (Some file) at) [
      | inl before ↦ old.enough i file own before (sym (got_front fronts (front ∷ []) i (omega (arith, slice_get_within files i (Some file) before, old.many))) ∙ there)
      | inr last ↦ subst (λ (f : List ℕ). IsEnoughOf f file) (got_end fronts front [] i own (last.0 ∙ sym old.many) there) (subst (λ (o : Option (List ℕ)). IfSome o (IsEnoughOf front)) last.1 enough)
    ];
  }

module _ (files : List (Option (List ℕ))) (known : Option (List ℕ)) (old new : Taken) (has : HasTaken files old) (next : new.count ≡ old.count + 1) where
  more : new.count ≡ length (files ++ known ∷ [])
  more = next ∙ ap (λ n. n + 1) has.many ∙ sym (length-append files (known ∷ []))

  -- memory was wanting before
  pub taken_after : (why : Refusal) → old.outcome ≡ Err why → new.outcome ≡ Err why → HasTaken (files ++ known ∷ []) new
  taken_after why before now = record {
    many = more;
    tells = subst (IsOutcomeOfFiles (files ++ known ∷ [])) (sym now) (subst (IsOutcomeOfFiles files) before has.tells);
  }

  -- it is wanting for this file
  pub taken_without_memory : (why : Refusal) → why ≡ NoMemory → new.outcome ≡ Err why → HasTaken (files ++ known ∷ []) new
  taken_without_memory why memory now = record {
    many = more;
    tells = subst (IsOutcomeOfFiles (files ++ known ∷ [])) (sym now) memory;
  }

  -- the first bytes are kept, as of each file before
  pub taken_kept : (fronts : List (List ℕ)) (front : List ℕ) → old.outcome ≡ Ok fronts → new.outcome ≡ Ok (fronts ++ front ∷ []) → IfSome known (IsEnoughOf front) → HasTaken (files ++ known ∷ []) new
  taken_kept fronts front before now enough = record {
    many = more;
    tells = subst (IsOutcomeOfFiles (files ++ known ∷ [])) (sym now) (fronts_more files known fronts front (subst (IsOutcomeOfFiles files) before has.tells) enough);
  }
