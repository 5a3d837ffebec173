-- A log is read one way.
use Rattle.std.proofs.Common.{◌≡◌, ◌⊎◌, ℕ, ◌+◌, List, [], ◌∷◌, length, Option, Some, Result, Ok, Err, refl, sym, ◌∙◌, ap, inl, inr, subst}
use Rattle.base_block.specs.declared.fields.SequenceNumber.{SequenceNumber}
use Rattle.hive_log_entries.specs.Entries.{EntryAt, NoEntryAt, entry_at, number_of}
use Rattle.hive_log_entries.specs.Logs.{EntriesFrom, next_at}
use Rattle.hive_log_entries.specs.declared.entry_end.EntryEnd.{EntryEnd}
use Rattle.hive_log_entries.specs.declared.entry_end.LogEnd.{LogEnd}

-- an answer is one of the two
pub ok_or_err : {T E : Type 0} (answer : Result T E) → ((x : T) × (answer ≡ Ok x)) ⊎ ((why : E) × (answer ≡ Err why))
ok_or_err (Ok x) = inl (x, refl)
ok_or_err (Err why) = inr (why, refl)

pub some_reading : (log : List ℕ) (at : ℕ) → ((entry : List ℕ) × EntryAt log at entry) ⊎ ((why : EntryEnd) × NoEntryAt log at why)
some_reading log at = ok_or_err (entry_at log at)

pub same_ok : {T E : Type 0} (answer : Result T E) (x y : T) → answer ≡ Ok x → answer ≡ Ok y → x ≡ y
same_ok answer x y one other = cc

same_err : {T E : Type 0} (answer : Result T E) (x y : E) → answer ≡ Err x → answer ≡ Err y → x ≡ y
same_err answer x y one other = cc

pub not_both : {T E : Type 0} (answer : Result T E) (x : T) (y : E) → answer ≡ Ok x → answer ≡ Err y → ⊥
not_both answer x y one other = cc

pub one_entry : (log : List ℕ) (at : ℕ) (entry other : List ℕ) → EntryAt log at entry → EntryAt log at other → entry ≡ other
one_entry log at entry other one two = same_ok (entry_at log at) entry other one two

pub one_end : (log : List ℕ) (at : ℕ) (why other : EntryEnd) → NoEntryAt log at why → NoEntryAt log at other → why ≡ other
one_end log at why other one two = same_err (entry_at log at) why other one two

pub no_both : (log : List ℕ) (at : ℕ) (entry : List ℕ) (why : EntryEnd) → EntryAt log at entry → NoEntryAt log at why → ⊥
no_both log at entry why one two = not_both (entry_at log at) entry why one two

pub one_list : (log : List ℕ) (at : ℕ) (before : Option SequenceNumber) (entries others : List (List ℕ)) (ended_at other_at : ℕ) (end other : LogEnd) →
    EntriesFrom log at before entries ended_at end → EntriesFrom log at before others other_at other → (entries ≡ others) × (ended_at ≡ other_at) × (end ≡ other)
one_list log at before [] [] ended_at other_at end other one two = (refl, one.1 ∙ sym two.1, same_err (next_at log at before) end other one.0 two.0)
one_list log at before [] (entry ∷ rest) ended_at other_at end other one two = absurd (not_both (next_at log at before) entry end two.0 one.0)
one_list log at before (entry ∷ rest) [] ended_at other_at end other one two = absurd (not_both (next_at log at before) entry other one.0 two.0)
one_list log at before (entry ∷ rest) (entry' ∷ rest') ended_at other_at end other one two =
    let same : entry ≡ entry' = same_ok (next_at log at before) entry entry' one.0 two.0 in
    let P : List ℕ → Type 0 = λ e. EntriesFrom log (at + length e) (Some (number_of e)) rest' other_at other in
    let below = one_list log (at + length entry) (Some (number_of entry)) rest rest' ended_at other_at end other one.1 (subst P (sym same) two.1) in
    (ap (λ e. e ∷ rest) same ∙ ap (λ r. entry' ∷ r) below.0, below.1, below.2)
