-- What the statements of a registration file ask of the trees of a store.
use Rattle.std.specs.Prelude.{◌≡◌, ◌⊎◌, ℕ, nat_le, if◌then◌else◌, List, [], ◌∷◌, ◌++◌, Option, Some, None, Result, Ok, Err}
use Rattle.refusals.specs.declared.refusal.Refusal.{Refusal}
use Rattle.refusals.specs.declared.refusal.Refusal.TheVariants.{NoMemory}
use Rattle.reg_names.specs.Names.{is_value_name, name_if, path_of}
use Rattle.reg_prefixes.specs.declared.prefix.Prefix.{Prefix}
use Rattle.reg_prefixes.specs.Places.{place_in}
use Rattle.reg_tree.specs.declared.op.Op.TheVariants as op
use Rattle.change_plan.specs.declared.edit.Edit.{Edit}
use Rattle.change_plan.specs.declared.edit.Edit.TheVariants as edit
use Rattle.change_plan.specs.Plans.{NotTaken, Planned, TakesEdit}
use Rattle.reg_file.specs.declared.statement.Statement.{Statement}
use Rattle.reg_file.specs.declared.statement.Statement.TheVariants.{CreateKey, DeleteKey, SetValue, DeleteValue}
use Rattle.reg_file.specs.declared.statement.NumberedStatement.{NumberedStatement}
use Rattle.reg_apply.specs.declared.place.Place.{Place}
use Rattle.reg_apply.specs.declared.place.Denial.{Denial}
use Rattle.reg_apply.specs.declared.place.Denial.TheVariants.{NoHive, NoKey, Refused}

-- the key at a path of a hive, if the path is one
abbrev pub placed : ℕ → Result (List (List ℕ)) Refusal → Result Place Denial
placed hive (Ok path) = Ok (record { hive = hive; path = path })
placed hive (Err why) = Err (Refused why)

-- the key at the path of a hive to which a prefix leads, if the store has that hive
abbrev pub placed_in : ℕ → Option (ℕ × List ℕ) → Result Place Denial
placed_in hives None = Err NoHive
placed_in hives (Some place) = if nat_le hives place.0 then Err NoHive else placed place.0 (path_of place.1)

-- the key that a path's text names, in a store with this many hives
abbrev pub resolved : List Prefix → ℕ → List ℕ → Result Place Denial
resolved prefixes hives text = placed_in hives (place_in prefixes text)

-- what is asked of a key, if there is one
abbrev pub with_key : Result Place Denial → (Place → Result (Edit × Option Place) Denial) → Result (Edit × Option Place) Denial
with_key (Ok place) ask = ask place
with_key (Err denial) ask = Err denial

-- the current key
abbrev pub current_key : Option Place → Result Place Denial
current_key None = Err NoKey
current_key (Some place) = Ok place

-- what is asked of a value of the current key, if the units are a value's name
abbrev pub with_name : Result (List ℕ) Refusal → (List ℕ → Result (Edit × Option Place) Denial) → Result (Edit × Option Place) Denial
with_name (Ok name) ask = ask name
with_name (Err why) ask = Err (Refused why)

abbrev pub value_name : List ℕ → Result (List ℕ) Refusal
value_name units = name_if (is_value_name units) units

-- the edit that a statement asks for, and the key that is current after it; or why it asks for none
abbrev pub asked : List Prefix → ℕ → Option Place → Statement → Result (Edit × Option Place) Denial
asked prefixes hives current (CreateKey path) =
    with_key (resolved prefixes hives path) (λ place. Ok (edit.Operation (op.CreateKey place.hive place.path), Some place))
asked prefixes hives current (DeleteKey path) =
    with_key (resolved prefixes hives path) (λ place. Ok (edit.RemoveKey place.hive place.path, None))
asked prefixes hives current (SetValue name kind bytes) =
    with_key (current_key current) (λ place. with_name (value_name name) (λ named. Ok (edit.WriteValue place.hive place.path named kind bytes, Some place)))
asked prefixes hives current (DeleteValue name) =
    with_key (current_key current) (λ place. with_name (value_name name) (λ named. Ok (edit.RemoveValue place.hive place.path named, Some place)))

-- a plan takes the edit of a statement
abbrev pub TakesStatement : List Prefix → ℕ → Option Place → Planned → Statement → Option Place → Planned → Type 0
TakesStatement prefixes hives current old statement next new = (its : Edit) × (asked prefixes hives current statement ≡ Ok (its, next)) × TakesEdit old its new

-- A plan takes the edits of statements, one after another. The first key is the one that is current before them, the
-- last one is current after them.
abbrev pub TakesStatements : List Prefix → ℕ → Option Place → Planned → List NumberedStatement → Option Place → Planned → Type 0
TakesStatements prefixes hives first old [] last new = (last ≡ first) × (new ≡ old)
TakesStatements prefixes hives first old (numbered ∷ statements) last new =
    (next : Option Place) × (mid : Planned) × TakesStatement prefixes hives first old numbered.statement next mid × TakesStatements prefixes hives next mid statements last new

-- Why a plan doesn't take the edit of a statement: it asks for none, or its edit isn't taken, or memory is lacking.
abbrev pub DeniesStatement : List Prefix → ℕ → Option Place → Planned → Statement → Denial → Type 0
DeniesStatement prefixes hives current old statement denial =
    (asked prefixes hives current statement ≡ Err denial)
    ⊎ ((denial ≡ Refused NoMemory)
    ⊎ ((its : Edit) × (next : Option Place) × (why : Refusal) × (asked prefixes hives current statement ≡ Ok (its, next)) × NotTaken old its why × (denial ≡ Refused why)))

-- A statement is the first whose edit isn't taken, after those of the statements before it.
pub record StopsAt (prefixes : List Prefix) (hives : ℕ) (old : Planned) (statements : List NumberedStatement) (line : ℕ) (denial : Denial) : Type 0 where
  pub front : List NumberedStatement
  pub stop : NumberedStatement
  pub rest : List NumberedStatement
  pub current : Option Place
  pub mid : Planned
  pub all : statements ≡ front ++ stop ∷ rest
  pub takes : TakesStatements prefixes hives None old front current mid
  pub number : line ≡ stop.line
  pub denied : DeniesStatement prefixes hives current mid stop.statement denial
