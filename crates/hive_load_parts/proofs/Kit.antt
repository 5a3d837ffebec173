-- Steps of readers that look at no cell.
use Rattle.std.proofs.Common.{◌≡◌, ◌<◌, ◌≤◌, inl, inr, ℕ, List, length, take, refl, ◌∙◌, ap, sym, subst, Bool, true, false, Ok, Err, Result, rules}
use Rattle.std.specs.Prelude.{nat_le}
use Rattle.refusals.specs.declared.refusal.Cause.TheVariants as cause
use Rattle.hive_records.specs.Values.{cell_prefix}
use Rattle.refusals.specs.declared.refusal.Refusal.{Refusal}
use Rattle.refusals.specs.declared.refusal.Refusal.TheVariants as refusal
use Rattle.refusals.specs.declared.refusal.Cause.{Cause}
use Rattle.hive_tree_model.specs.Loads.{CellMarks}
use Rattle.hive_tree_model.proofs.Loading.{none_marked}
use Rattle.hive_records.specs.Readers.{Reader, done, refuse, choice, rule, look, ◌⟫◌}
use Rattle.hive_records.specs.Follows.{Follows}
use Rattle.hive_cells.specs.Bins.{Cells}
use Rattle.hive_records.proofs.Follow.{follows_on, follows_out, with_read, as_read}

pub done_follows : {A : Type 0} (x y : A) (cells : Cells) (m : CellMarks) → x ≡ y → Follows (done x) cells m m (Ok y)
unfolding done
done_follows x y cells m e = (ap Ok e, none_marked m)

rule_yes : (b : Bool) (c : Cause) (cells : Cells) (m : CellMarks) → b ≡ true → Follows (rule b c) cells m m (Ok tt)
unfolding rule choice done
rule_yes b c cells m e = subst (λ z. Follows (rule z c) cells m m (Ok tt)) (sym e) (refl, none_marked m)

rule_no : (b : Bool) (c : Cause) (cells : Cells) (m n : CellMarks) → b ≡ false → Follows (rule b c) cells m n (Err (refusal.HiveDamaged 0 c))
unfolding rule choice refuse
rule_no b c cells m n e = subst (λ z. Follows (rule z c) cells m n (Err (refusal.HiveDamaged 0 c))) (sym e) (inr (inl refl))

pub rule_kept : {B : Type 0} (b : Bool) (c : Cause) (g : Unit {0} → Reader B) (cells : Cells) (m n : CellMarks) (r : Result B Refusal) → b ≡ true → Follows (g tt) cells m n r → Follows (rule b c ⟫ g) cells m n r
rule_kept b c g cells m n r e h = follows_on (rule b c) g cells m m n tt r (rule_yes b c cells m e) h

pub rule_broken : {B : Type 0} (b : Bool) (c : Cause) (g : Unit {0} → Reader B) (cells : Cells) (m n : CellMarks) → b ≡ false → Follows (rule b c ⟫ g) cells m n (Err (refusal.HiveDamaged 0 c))
rule_broken b c g cells m n e = follows_out (rule b c) g cells m m n (refusal.HiveDamaged 0 c) (rule_no b c cells m m e)

-- the first bytes of a cell
pub piece_refused : (size at : ℕ) (cells : Cells) (old new : CellMarks) (r : Refusal) → Follows (look at) cells old new (Err r) → Follows (cell_prefix size at) cells old new (Err r)
piece_refused size at cells old new r h = follows_out (look at) (λ bytes. rule (nat_le size (length bytes)) cause.BadRecord ⟫ λ _. done (take size bytes)) cells old new new r h

pub piece_short : (size at : ℕ) (cells : Cells) (old new : CellMarks) (bytes : List ℕ) → nat_le size (length bytes) ≡ false → Follows (look at) cells old new (Ok bytes) → Follows (cell_prefix size at) cells old new (Err (refusal.HiveDamaged 0 cause.BadRecord))
piece_short size at cells old new bytes e h = follows_on (look at) (λ bytes. rule (nat_le size (length bytes)) cause.BadRecord ⟫ λ _. done (take size bytes)) cells old new new bytes (Err (refusal.HiveDamaged 0 cause.BadRecord)) h
    (rule_broken (nat_le size (length bytes)) cause.BadRecord (λ _. done (take size bytes)) cells new new e)

pub piece_read : (size at : ℕ) (cells : Cells) (old new : CellMarks) (bytes : List ℕ) → nat_le size (length bytes) ≡ true → Follows (look at) cells old new (Ok bytes) → Follows (cell_prefix size at) cells old new (Ok (take size bytes))
piece_read size at cells old new bytes e h = follows_on (look at) (λ bytes. rule (nat_le size (length bytes)) cause.BadRecord ⟫ λ _. done (take size bytes)) cells old new new bytes (Ok (take size bytes)) h
    (rule_kept (nat_le size (length bytes)) cause.BadRecord (λ _. done (take size bytes)) cells new new (Ok (take size bytes)) e (done_follows (take size bytes) (take size bytes) cells new refl))

pub not_least : (a b : ℕ) → b < a → nat_le a b ≡ false
not_least a b h = search (rules, h)

pub least : (a b : ℕ) → a ≤ b → nat_le a b ≡ true
least a b h = search (rules, h)

-- the same of what is read otherwise, or of another name of the refusal
pub err_as : {A : Type 0} (m : Reader A) (cells : Cells) (old new : CellMarks) (r q : Refusal) → r ≡ q → Follows m cells old new (Err q) → Follows m cells old new (Err r)
err_as m cells old new r q e h = subst (λ (z : Refusal). Follows m cells old new (Err z)) (sym e) h

pub moved : {A : Type 0} (m n : Reader A) (cells : Cells) (old new : CellMarks) (r : Result A Refusal) → m cells ≡ n cells → Follows n cells old new r → Follows m cells old new r
moved m n cells old new r e h = with_read m cells (n cells) e old new r (as_read n cells old new r h)

pub says_err : {A : Type 0} (m : Reader A) (cells : Cells) (old new : CellMarks) (r : Refusal) (own lent : List ℕ) → m cells ≡ record { own = own; lent = lent; says = Err r } → Follows m cells old new (Err r)
says_err m cells old new r own lent e = inr (inl (ap (λ z. z.says) e))

pub ok_as : {A : Type 0} (m : Reader A) (cells : Cells) (old new : CellMarks) (x y : A) → x ≡ y → Follows m cells old new (Ok y) → Follows m cells old new (Ok x)
ok_as m cells old new x y e h = (h.0 ∙ ap Ok (sym e), h.1)
