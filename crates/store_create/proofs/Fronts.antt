-- What the first bytes of files say of the files.
use Rattle.std.proofs.Common.{◌≡◌, ℕ, zero, suc, List, [], ◌∷◌, length, refl, sym, ◌∙◌, ap, subst, arith, inl, inr, Option, None, Some, slice_get, append-nil}
use Rattle.std.specs.Prelude.{unwrap_or}
use Rattle.std.proofs.lemmas.Option.{none-some, same_Some, slice_get_within}
use Rattle.refusals.specs.declared.refusal.Refusal.{Refusal}
use Rattle.reg_tree.specs.Maps.{TreeMap}
use Rattle.hive_file_reader.specs.Hives.{FileHoldsHive, IsEnoughOf}
use Rattle.hive_file_reader.specs.Readings.{FileRefusedAs}
use Rattle.engine_invariant.proofs.HiveLists.{at_slot}
use Rattle.recovery.specs.FileCopies.{AreRefusedFor, FilesHoldTrees}
use Rattle.store_create.specs.Imports.{AreFrontsOf, AreHeldBy, IsRefusedImport, MayBeBytesOf}

-- the bytes of files, or the first of them if they are not known
pub bytes_of : List (Option (List ℕ)) → List (List ℕ) → List (List ℕ)
bytes_of [] fronts = []
bytes_of (known ∷ files) [] = unwrap_or known [] ∷ bytes_of files []
bytes_of (known ∷ files) (front ∷ fronts) = unwrap_or known front ∷ bytes_of files fronts

-- they may be the files'
pub may_be : (files : List (Option (List ℕ))) (fronts : List (List ℕ)) → MayBeBytesOf files (bytes_of files fronts)
unfolding bytes_of
may_be files fronts = record { many = many files fronts; known = each files fronts }
  where
    many : (files : List (Option (List ℕ))) (fronts : List (List ℕ)) → length (bytes_of files fronts) ≡ length files
    many [] fronts = refl
    many (known ∷ files) [] = ap suc (many files [])
    many (known ∷ files) (front ∷ fronts) = ap suc (many files fronts)

    each : (files : List (Option (List ℕ))) (fronts : List (List ℕ)) (i : ℕ) (file own : List ℕ) → slice_get files i ≡ Some (Some file) → slice_get (bytes_of files fronts) i ≡ Some own → own ≡ file
    each [] fronts i file own is at = absurd (none-some (Some file) is)
    each (known ∷ files) [] zero file own is at = sym (same_Some _ own at) ∙ ap (λ (o : Option (List ℕ)). unwrap_or o []) (same_Some known (Some file) is)
    each (known ∷ files) [] (suc i) file own is at = each files [] i file own is at
    each (known ∷ files) (front ∷ fronts) zero file own is at = sym (same_Some _ own at) ∙ ap (λ (o : Option (List ℕ)). unwrap_or o front) (same_Some known (Some file) is)
    each (known ∷ files) (front ∷ fronts) (suc i) file own is at = each files fronts i file own is at

-- bytes are enough of themselves
whole : (bytes : List ℕ) → IsEnoughOf bytes bytes
whole bytes = record { rest = []; begins = sym (append-nil bytes); enough = inl refl }

-- the first bytes are enough of what may be the files' bytes
enough_at : (files : List (Option (List ℕ))) (fronts : List (List ℕ)) (i : ℕ) (front own : List ℕ) → ((file : List ℕ) → slice_get files i ≡ Some (Some file) → IsEnoughOf front file) → slice_get fronts i ≡ Some front
    → slice_get (bytes_of files fronts) i ≡ Some own → IsEnoughOf front own
unfolding bytes_of
enough_at [] fronts i front own each is at = absurd (none-some own at)
enough_at (known ∷ files) [] i front own each is at = absurd (none-some front is)
enough_at (None ∷ files) (first ∷ fronts) zero front own each is at = subst (IsEnoughOf front) (sym (same_Some first front is) ∙ same_Some first own at) (whole front)
enough_at (Some file ∷ files) (first ∷ fronts) zero front own each is at = subst (IsEnoughOf front) (same_Some file own at) (each file refl)
enough_at (known ∷ files) (first ∷ fronts) (suc i) front own each is at = enough_at files fronts i front own each is at

-- what the first bytes hold, and why they are refused, goes for the file
abbrev pub HoldsLaw : Type 0
HoldsLaw = (front file : List ℕ) (tree : TreeMap) → IsEnoughOf front file → FileHoldsHive front tree → FileHoldsHive file tree

abbrev pub RefusedLaw : Type 0
RefusedLaw = (hive : ℕ) (front file : List ℕ) (why : Refusal) → IsEnoughOf front file → FileRefusedAs hive front why → FileRefusedAs hive file why

module _ (files : List (Option (List ℕ))) (fronts : List (List ℕ)) (are : AreFrontsOf files fronts) where
  pub enough_of : (i : ℕ) (front own : List ℕ) → slice_get fronts i ≡ Some front → slice_get (bytes_of files fronts) i ≡ Some own → IsEnoughOf front own
  enough_of i front own is at = enough_at files fronts i front own (λ file there. are.enough i file front there is) is at

  -- the first bytes of the file that may have these bytes
  pub front_of : (i : ℕ) (own : List ℕ) → slice_get (bytes_of files fronts) i ≡ Some own → (front : List ℕ) × (slice_get fronts i ≡ Some front)
  front_of i own at = at_slot fronts i (omega (arith, slice_get_within (bytes_of files fronts) i own at, (may_be files fronts).many, are.many))

  -- the trees that they hold are the files'
  pub held_by : HoldsLaw → (trees : List TreeMap) → FilesHoldTrees fronts trees → AreHeldBy files trees
  held_by law trees hold = record {
    many = hold.many ∙ are.many;
    held = λ i file tree at is.
        let front = at_slot fronts i (omega (arith, slice_get_within files i (Some file) at, are.many)) in
        law front.0 file tree (are.enough i file front.0 at front.1) (hold.held i front.0 tree front.1 is);
  }

  -- a refusal of them is one of the files
  pub refused_import : HoldsLaw → RefusedLaw → (why : Refusal) → AreRefusedFor fronts why → IsRefusedImport files why
  refused_import holds refused why (inl memory) = (bytes_of files fronts, may_be files fronts, inl memory)
  refused_import holds refused why (inr one) =
      let file = at_slot (bytes_of files fronts) one.index (omega (arith, slice_get_within fronts one.index one.file one.at, (may_be files fronts).many, are.many)) in (
        bytes_of files fronts,
        may_be files fronts,
        inr (record {
          index = one.index;
          file = file.0;
          at = file.1;
          refused = refused one.index one.file file.0 why (enough_of one.index one.file file.0 one.at file.1) one.refused;
          before = λ i other lt at.
              let front = front_of i other at in
              let tree = one.before i front.0 lt front.1 in
              (tree.0, holds front.0 other tree.0 (enough_of i front.0 other front.1 at) tree.1);
        }),
      )
