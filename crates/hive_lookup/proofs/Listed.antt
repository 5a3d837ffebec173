-- The list of a key.
use Rattle.std.proofs.Common.{◌≡◌, ◌⊎◌, ◌*◌, ◌==◌, nat_le, inl, inr, ℕ, Bool, true, false, List, [], length, refl, ◌∙◌, ap, sym, subst, Option, Some, None, Ok, Err, Result, MatchResult}
use Rattle.refusals.specs.declared.refusal.Refusal.{Refusal}
use Rattle.refusals.specs.declared.refusal.Refusal.TheVariants as refusal
use Rattle.refusals.specs.declared.refusal.Cause.TheVariants as cause
use Rattle.hive_cells.specs.Bins.{Cells}
use Rattle.hive_tree_model.proofs.Basics.{never}
use Rattle.hive_records.specs.Readers.{Read, Reader, done, refuse, joined_if, own_if, look, choice, rule, ◌⟫◌}
use Rattle.hive_records.specs.Numbers.{words_from}
use Rattle.hive_records.specs.Heads.{hive_damage}
use Rattle.hive_records.proofs.RecordReaders.{rule_on, looked_as, looked_out}
use Rattle.hive_lookup.specs.declared.list_kind.ListKind.{ListKind}
use Rattle.hive_lookup.specs.declared.list_kind.ListKind.TheVariants.{Subkeys}
use Rattle.hive_lookup.specs.Records.{record_at, value_offsets_at, list_in_node}
use Rattle.hive_lookup.specs.Lookups.{IsUnreadFor, KeyLists, ListIsUnread}

module _ {A : Type 0} where
  chosen : (b : Bool) (m n : Reader A) → b ≡ true → choice b m n ≡ m
  unfolding choice
  chosen true m n e = refl
  chosen false m n e = never e

  not_chosen : (b : Bool) (m n : Reader A) → b ≡ false → choice b m n ≡ n
  unfolding choice
  not_chosen true m n e = never (sym e)
  not_chosen false m n e = refl

  says_done : (x : A) (cells : Cells) → (done x cells).says ≡ Ok x
  unfolding done
  says_done x cells = refl

  -- a cell that isn't there
  no_look : (at : ℕ) (cells : Cells) (f : List ℕ → Reader A) → cells at ≡ None → ((look at ⟫ f) cells).says ≡ Err (hive_damage cause.BadOffset)
  unfolding look ◌⟫◌
  no_look at cells f e = ap (λ (o : Option (List ℕ)). (joined_if (own_if at o).own (own_if at o).lent (own_if at o).says (λ x. f x cells)).says) e

module _ (count at : ℕ) (cells : Cells) where
  abbrev behind : List ℕ → Reader (List ℕ)
  behind bytes = rule (nat_le (4 * count) (length bytes)) cause.BadRecord ⟫ λ _. done (words_from bytes 0 4 count)

  pub no_offsets : (count == 0) ≡ true → (value_offsets_at count at cells).says ≡ Ok []
  no_offsets e = ap (λ (m : Reader (List ℕ)). (m cells).says) (chosen (count == 0) (done []) (look at ⟫ behind) e) ∙ says_done [] cells

  module _ (some : (count == 0) ≡ false) where
    after_look : value_offsets_at count at cells ≡ (look at ⟫ behind) cells
    after_look = ap (λ (m : Reader (List ℕ)). m cells) (not_chosen (count == 0) (done []) (look at ⟫ behind) some)

    pub offsets_missing : cells at ≡ None → (value_offsets_at count at cells).says ≡ Err (hive_damage cause.BadOffset)
    offsets_missing e = ap (λ (r : Read (List ℕ)). r.says) after_look ∙ no_look at cells behind e

    pub offsets_short : (bytes : List ℕ) → cells at ≡ Some bytes → nat_le (4 * count) (length bytes) ≡ false → (value_offsets_at count at cells).says ≡ Err (hive_damage cause.BadRecord)
    offsets_short bytes e short = ap (λ (r : Read (List ℕ)). r.says) (after_look ∙ looked_out at cells bytes behind (hive_damage cause.BadRecord) e
        (rule_on (nat_le (4 * count) (length bytes)) cause.BadRecord (λ _. done (words_from bytes 0 4 count)) refl ∙ not_chosen (nat_le (4 * count) (length bytes)) (done (words_from bytes 0 4 count)) (refuse (hive_damage cause.BadRecord)) short))

    pub offsets_read : (bytes : List ℕ) → cells at ≡ Some bytes → nat_le (4 * count) (length bytes) ≡ true → (value_offsets_at count at cells).says ≡ Ok (words_from bytes 0 4 count)
    offsets_read bytes e fits = ap (λ (r : Read (List ℕ)). r.says) (after_look ∙ looked_as at cells bytes behind e)
        ∙ ap (λ (m : Reader (List ℕ)). (m cells).says) (rule_on (nat_le (4 * count) (length bytes)) cause.BadRecord (λ _. done (words_from bytes 0 4 count)) refl ∙ chosen (nat_le (4 * count) (length bytes)) (done (words_from bytes 0 4 count)) (refuse (hive_damage cause.BadRecord)) fits)
        ∙ says_done (words_from bytes 0 4 count) cells

-- the list whose count and offset the key's node says
pub list_of_node : {V : Type 0} (kind : ListKind) (cells : Cells) (key : ℕ) (bytes : List ℕ) → record_at Subkeys cells key ≡ Ok bytes → (m : Reader (List ℕ)) → m ≡ list_in_node kind bytes → (items : V → List ℕ) (r : Result V Refusal) →
    MatchResult r (λ listed. (m cells).says ≡ Ok (items listed)) (λ why. (why ≡ refusal.NoMemory) ⊎ IsUnreadFor (m cells) why) →
    MatchResult r (λ listed. KeyLists kind cells key (items listed)) (λ why. (why ≡ refusal.NoMemory) ⊎ ListIsUnread kind cells key why)
list_of_node kind cells key bytes node m same items (Ok listed) h = (bytes, node, ap (λ (z : Reader (List ℕ)). (z cells).says) (sym same) ∙ h)
list_of_node kind cells key bytes node m same items (Err why) (inl e) = inl e
list_of_node kind cells key bytes node m same items (Err why) (inr u) = inr (inr (bytes, node, subst (λ (z : Reader (List ℕ)). IsUnreadFor (z cells) why) same u))
