-- A search along a list.
use Rattle.std.proofs.Common.{◌≡◌, ◌⊎◌, ◌<◌, ◌+◌, inl, inr, ℕ, zero, suc, List, [], ◌∷◌, ◌++◌, length, take, drop, get_or, refl, ◌∙◌, ap, sym, subst, true, false, cond, Option, Some, None, Ok, Err, Result, IsOk, is_some, arith}
use Rattle.std.specs.List.{All}
use Rattle.std.proofs.lemmas.List.{take_more, take-append-drop, length-append}
use Rattle.std.proofs.lemmas.List.Elements.{filter_more, filter-append, filter_passes, All-append, All-nil, All-cons}
use Rattle.refusals.specs.declared.refusal.Refusal.{Refusal}
use Rattle.refusals.specs.declared.refusal.Refusal.TheVariants as refusal
use Rattle.hive_cells.specs.Bins.{Cells}
use Rattle.hive_tree_model.specs.Lists.{IsIn}
use Rattle.hive_tree_model.proofs.Basics.{never}
use Rattle.hive_lookup.specs.declared.errors.LookupError.{LookupError}
use Rattle.hive_lookup.specs.declared.errors.LookupError.TheVariants.{NoMemory, NotFound, Damaged}
use Rattle.hive_lookup.specs.declared.list_kind.ListKind.{ListKind}
use Rattle.hive_lookup.specs.Errors.{TellsAt}
use Rattle.hive_lookup.specs.Records.{record_at, AreRecords, has_name, is_named, offsets_named}
use Rattle.hive_lookup.specs.Lookups.{ErrorTells, KeyLists, ListsNone, ListsOne, one_or_none}

-- the error of a refusal tells what the refusal says
pub tells : (absent : Type 0) (breaks : ℕ → Refusal → Type 0) (at : ℕ) (why : Refusal) (error : LookupError) → TellsAt at why error → (why ≡ refusal.NoMemory) ⊎ breaks at why → ErrorTells absent breaks error
tells absent breaks at why NoMemory h g = tt
tells absent breaks at why NotFound h g = absurd h
tells absent breaks at why (Damaged refused to) h (inl e) = absurd (h.0 e)
tells absent breaks at why (Damaged refused to) h (inr b) = subst (λ z. breaks z refused) (sym h.2) (subst (λ (r : Refusal). breaks at r) (sym h.1) b)

-- an error that tells less tells more
pub told_as : (absent other : Type 0) (breaks wider : ℕ → Refusal → Type 0) (error : LookupError) → ErrorTells absent breaks error → (absent → other) → ((at : ℕ) (why : Refusal) → breaks at why → wider at why) → ErrorTells other wider error
told_as absent other breaks wider NoMemory h f g = tt
told_as absent other breaks wider NotFound h f g = f h
told_as absent other breaks wider (Damaged why at) h f g = g at why h

pub in_list : (l : List ℕ) (i : ℕ) → i < length l → IsIn (get_or l i 0) l
in_list [] i h = absurd (omega (arith, h))
in_list (x ∷ l) zero h = inl refl
in_list (x ∷ l) (suc i) h = inr (in_list l i (omega (arith, h)))

pub none_yet : (found : Option ℕ) → is_some found ≡ false → one_or_none found ≡ []
none_yet None e = refl
none_yet (Some at) e = never (sym e)

module _ (kind : ListKind) (cells : Cells) (listed : List ℕ) (i : ℕ) (within : i < length listed) where
  -- the first records, and one more
  pub records_more : AreRecords kind cells (take i listed) → IsOk (record_at kind cells (get_or listed i 0)) → AreRecords kind cells (take (i + 1) listed)
  records_more before here = subst (λ (l : List ℕ). AreRecords kind cells l) (sym (take_more listed i 0 within))
      (All-append (λ z. IsOk (record_at kind cells z)) (take i listed) (get_or listed i 0 ∷ []) before (All-cons (λ z. IsOk (record_at kind cells z)) (get_or listed i 0) [] here (All-nil (λ z. IsOk (record_at kind cells z)))))

  module _ (name : List ℕ) where
    named_next : offsets_named kind cells name (take (i + 1) listed) ≡ offsets_named kind cells name (take i listed) ++ cond (is_named kind cells name (get_or listed i 0)) (get_or listed i 0 ∷ []) []
    named_next = filter_more (is_named kind cells name) listed i 0 within

    -- it hasn't the name
    pub named_same : (found : Option ℕ) → offsets_named kind cells name (take i listed) ≡ one_or_none found → is_named kind cells name (get_or listed i 0) ≡ false → offsets_named kind cells name (take (i + 1) listed) ≡ one_or_none found
    named_same None before not_it = named_next ∙ ap (λ b. offsets_named kind cells name (take i listed) ++ cond b (get_or listed i 0 ∷ []) []) not_it ∙ ap (λ (l : List ℕ). l ++ []) before
    named_same (Some other) before not_it = named_next ∙ ap (λ b. offsets_named kind cells name (take i listed) ++ cond b (get_or listed i 0 ∷ []) []) not_it ∙ ap (λ (l : List ℕ). l ++ []) before

    -- it is the first of that name
    pub named_first : offsets_named kind cells name (take i listed) ≡ [] → is_named kind cells name (get_or listed i 0) ≡ true → offsets_named kind cells name (take (i + 1) listed) ≡ get_or listed i 0 ∷ []
    named_first before has_it = named_next ∙ ap (λ b. offsets_named kind cells name (take i listed) ++ cond b (get_or listed i 0 ∷ []) []) has_it ∙ ap (λ (l : List ℕ). l ++ get_or listed i 0 ∷ []) before

    counted : length (offsets_named kind cells name listed) ≡ length (offsets_named kind cells name (take (i + 1) listed)) + length (offsets_named kind cells name (drop (i + 1) listed))
    counted = ap (λ (l : List ℕ). length (offsets_named kind cells name l)) (sym (take-append-drop (i + 1) listed))
        ∙ ap length (filter-append (is_named kind cells name) (take (i + 1) listed) (drop (i + 1) listed))
        ∙ length-append (offsets_named kind cells name (take (i + 1) listed)) (offsets_named kind cells name (drop (i + 1) listed))

    -- it is the second
    pub named_twice : (found : Option ℕ) → is_some found ≡ true → offsets_named kind cells name (take i listed) ≡ one_or_none found → is_named kind cells name (get_or listed i 0) ≡ true → 1 < length (offsets_named kind cells name listed)
    named_twice None e before has_it = never e
    named_twice (Some other) e before has_it =
        let two : length (offsets_named kind cells name (take (i + 1) listed)) ≡ 2 = ap length (named_next ∙ ap (λ b. offsets_named kind cells name (take i listed) ++ cond b (get_or listed i 0 ∷ []) []) has_it ∙ ap (λ (l : List ℕ). l ++ get_or listed i 0 ∷ []) before) in
        let all = counted in
        omega (arith, all, two)

-- what has a name is read
ok_if_named : (kind : ListKind) (name : List ℕ) (r : Result (List ℕ) Refusal) → has_name kind name r ≡ true → IsOk r
ok_if_named kind name (Ok bytes) e = refl
ok_if_named kind name (Err why) e = never e

pub one_is_read : (kind : ListKind) (cells : Cells) (key : ℕ) (name : List ℕ) (at : ℕ) → ListsOne kind cells key name at → IsOk (record_at kind cells at)
one_is_read kind cells key name at one = ok_if_named kind name (record_at kind cells at)
    ((subst (λ (l : List ℕ). All (λ z. is_named kind cells name z ≡ true) l) one.3 (filter_passes (is_named kind cells name) one.0)) 0 0 (omega arith))

pub still_read : (kind : ListKind) (cells : Cells) (key : ℕ) (name : List ℕ) (at : ℕ) (why : Refusal) → ListsOne kind cells key name at → record_at kind cells at ≡ Err why → ⊥
still_read kind cells key name at why one e = never (subst (λ (r : Result (List ℕ) Refusal). IsOk r) e (one_is_read kind cells key name at one))

-- the record that was found among those that a key lists, or none
pub found_one : (kind : ListKind) (cells : Cells) (key : ℕ) (name listed : List ℕ) (found : Option ℕ) (at : ℕ) → KeyLists kind cells key listed → AreRecords kind cells listed × (offsets_named kind cells name listed ≡ one_or_none found) → found ≡ Some at → ListsOne kind cells key name at
found_one kind cells key name listed found at lists its is = (listed, lists, its.0, its.1 ∙ ap one_or_none is)

pub found_none : (kind : ListKind) (cells : Cells) (key : ℕ) (name listed : List ℕ) (found : Option ℕ) → KeyLists kind cells key listed → AreRecords kind cells listed × (offsets_named kind cells name listed ≡ one_or_none found) → found ≡ None → ListsNone kind cells key name
found_none kind cells key name listed found lists its is = (listed, lists, its.0, its.1 ∙ ap one_or_none is)
