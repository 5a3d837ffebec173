-- Statements that create keys and write values are taken in one way, and none is denied that is taken.
use Rattle.std.proofs.Common.{◌≡◌, ℕ, List, [], ◌∷◌, ◌++◌, map, Option, Some, None, Result, Ok, Err, sym, ◌∙◌, ap, subst, inl, inr, arith}
use Rattle.std.specs.Prelude.{⊤}
use Rattle.std.specs.List.{AllByRecursion, flat_map}
use Rattle.std.specs.FinMap as finite
use Rattle.refusals.specs.declared.refusal.Refusal.{Refusal}
use Rattle.refusals.specs.declared.refusal.Refusal.TheVariants.{NoMemory}
use Rattle.reg_tree_parts.specs.declared.value.Value.{Value}
use Rattle.reg_tree.specs.Judgement.{legal, applied}
use Rattle.reg_tree.specs.Maps.{TreeMap}
use Rattle.reg_tree.specs.declared.op.Op.{Op}
use Rattle.reg_tree.specs.declared.op.Op.TheVariants as op
use Rattle.reg_tree.specs.declared.op.Legality.{Legality}
use Rattle.reg_tree.specs.declared.op.Legality.TheVariants.{Legal, Opened}
use Rattle.key_walk.specs.KeyRows.{NamedRow}
use Rattle.reg_prefixes.specs.declared.prefix.Prefix.{Prefix}
use Rattle.reg_file.specs.declared.statement.Statement.{Statement}
use Rattle.reg_file.specs.declared.statement.Statement.TheVariants.{CreateKey, DeleteKey, SetValue, DeleteValue}
use Rattle.reg_file.specs.declared.statement.NumberedStatement.{NumberedStatement}
use Rattle.change_plan.specs.declared.edit.Edit.{Edit}
use Rattle.change_plan.specs.declared.edit.Edit.TheVariants as edit
use Rattle.change_plan.specs.Edits.{EditAsks, EditRefused, OperationAsks}
use Rattle.change_plan.specs.Plans.{Planned, ops_len, TakesEdit, NotTaken}
use Rattle.reg_apply.specs.Statements.{resolved, with_key, current_key, value_name, with_name, asked, TakesStatement, TakesStatements, DeniesStatement, StopsAt}
use Rattle.reg_round_trip.specs.Statements.{value_statement, key_statements, export_statements}
use Rattle.reg_round_trip.proofs.Units.{all_both, all_right}
use Rattle.reg_round_trip.proofs.Places.{Place, Denial, refused}

-- statements that add
abbrev pub IsAdding : Statement → Type 0
IsAdding (CreateKey path) = ⊤
IsAdding (DeleteKey path) = ⊥
IsAdding (SetValue name kind bytes) = ⊤
IsAdding (DeleteValue name) = ⊥

values_add : (values : List Value) → AllByRecursion IsAdding (map value_statement values)
values_add [] = tt
values_add (value ∷ values) = (tt, values_add values)

keys_add : (prefix : List ℕ) (keys : List NamedRow) → AllByRecursion IsAdding (flat_map (key_statements prefix) keys)
keys_add prefix [] = tt
keys_add prefix (key ∷ keys) = all_both IsAdding (key_statements prefix key) (flat_map (key_statements prefix) keys) (tt, values_add (finite.values (let its = key.1 in its.values))) (keys_add prefix keys)

pub export_adds : (hives : List (List ℕ × List NamedRow)) → AllByRecursion IsAdding (export_statements hives)
export_adds [] = tt
export_adds (hive ∷ hives) = all_both IsAdding (flat_map (key_statements hive.0) hive.1) (export_statements hives) (keys_add hive.0 hive.1) (export_adds hives)

-- what an answer has
abbrev pub of_ok : {A D : Type 0} → A → Result A D → A
of_ok d (Ok x) = x
of_ok d (Err e) = d

-- edits that add
abbrev IsAddingEdit : Edit → Type 0
IsAddingEdit (edit.Operation o) = ⊤
IsAddingEdit (edit.WriteValue hive path name kind bytes) = ⊤
IsAddingEdit (edit.RemoveValue hive path name) = ⊥
IsAddingEdit (edit.RemoveKey hive path) = ⊥

-- they ask for such edits
asks_adding : (prefixes : List Prefix) (hives : ℕ) (current : Option Place) (statement : Statement) (its : Edit) (next : Option Place) → IsAdding statement → asked prefixes hives current statement ≡ Ok (its, next) → IsAddingEdit its
asks_adding prefixes hives current (CreateKey path) its next adds e = by_place (resolved prefixes hives path) e
  where
    by_place : (r : Result Place Denial) → with_key r (λ place. Ok (edit.Operation (op.CreateKey place.hive place.path), Some place)) ≡ Ok (its, next) → IsAddingEdit its
    by_place (Ok place) p = subst IsAddingEdit (ap (λ (r : Result (Edit × Option Place) Denial). (of_ok (its, next) r).0) p) tt
    by_place (Err denial) p = cc
asks_adding prefixes hives current (DeleteKey path) its next adds e = absurd adds
asks_adding prefixes hives current (SetValue name kind bytes) its next adds e = by_place (current_key current) e
  where
    by_name : (place : Place) (r : Result (List ℕ) Refusal) → with_name r (λ named. Ok (edit.WriteValue place.hive place.path named kind bytes, Some place)) ≡ Ok (its, next) → IsAddingEdit its
    by_name place (Ok named) p = subst IsAddingEdit (ap (λ (r : Result (Edit × Option Place) Denial). (of_ok (its, next) r).0) p) tt
    by_name place (Err why) p = cc

    by_place : (r : Result Place Denial) → with_key r (λ place. with_name (value_name name) (λ named. Ok (edit.WriteValue place.hive place.path named kind bytes, Some place))) ≡ Ok (its, next) → IsAddingEdit its
    by_place (Ok place) p = by_name place (value_name name) p
    by_place (Err denial) p = cc
asks_adding prefixes hives current (DeleteValue name) its next adds e = absurd adds

-- an operation asks for one list of operations, and so does an edit that adds
same_asks : (trees : List TreeMap) (o : Op) (one two : List Op) → OperationAsks trees o one → OperationAsks trees o two → one ≡ two
same_asks trees o one two (inl a) (inl b) = a.1 ∙ sym b.1
same_asks trees o one two (inl a) (inr b) = absurd (apart (sym a.0 ∙ b.0))
  where
    apart : ◌≡◌ {A = Result Legality Refusal} (Ok Legal) (Ok Opened) → ⊥
    apart e = cc
same_asks trees o one two (inr a) (inl b) = absurd (apart (sym b.0 ∙ a.0))
  where
    apart : ◌≡◌ {A = Result Legality Refusal} (Ok Legal) (Ok Opened) → ⊥
    apart e = cc
same_asks trees o one two (inr a) (inr b) = a.1 ∙ sym b.1

same_edit_asks : (trees : List TreeMap) (moment : ℕ) (its : Edit) (one two : List Op) → IsAddingEdit its → EditAsks trees moment its one → EditAsks trees moment its two → one ≡ two
same_edit_asks trees moment (edit.Operation o) one two adds a b = same_asks trees o one two a b
same_edit_asks trees moment (edit.WriteValue hive path name kind bytes) one two adds (inl a) (inl b) = a.1 ∙ sym b.1
same_edit_asks trees moment (edit.WriteValue hive path name kind bytes) one two adds (inl a) (inr b) = absurd (b.0 a.0)
same_edit_asks trees moment (edit.WriteValue hive path name kind bytes) one two adds (inr a) (inl b) = absurd (a.0 b.0)
same_edit_asks trees moment (edit.WriteValue hive path name kind bytes) one two adds (inr a) (inr b) = same_asks trees (op.SetValue hive path name kind bytes) one two a.1 b.1
same_edit_asks trees moment (edit.RemoveValue hive path name) one two adds a b = absurd adds
same_edit_asks trees moment (edit.RemoveKey hive path) one two adds a b = absurd adds

same_edit : (old : Planned) (its : Edit) (one two : Planned) → IsAddingEdit its → TakesEdit old its one → TakesEdit old its two → one ≡ two
same_edit old its one two adds a b =
    let more = same_edit_asks old.view old.moment its a.more b.more adds a.asked b.asked in
    let views : one.view ≡ two.view = a.view ∙ ap (λ ops. applied old.view ops old.moment) more ∙ sym b.view in
    let ops : one.ops ≡ two.ops = a.ops ∙ ap (λ m. old.ops ++ m) more ∙ sym b.ops in
    let moments : one.moment ≡ two.moment = a.moment ∙ sym b.moment in
    let asides : one.aside ≡ two.aside = a.aside ∙ sym b.aside in
    λ i. record { view = views i; ops = ops i; moment = moments i; aside = asides i }

-- what is asked for isn't refused
not_refused : (trees : List TreeMap) (o : Op) (ops : List Op) (why : Refusal) → OperationAsks trees o ops → legal trees o ≡ Err why → ⊥
not_refused trees o ops why asks refused = by_asks asks
  where
    apart : (l : Legality) → ◌≡◌ {A = Result Legality Refusal} (Ok l) (Err why) → ⊥
    apart l e = cc

    by_asks : OperationAsks trees o ops → ⊥
    by_asks (inl a) = apart Legal (sym a.0 ∙ refused)
    by_asks (inr a) = apart Opened (sym a.0 ∙ refused)

not_edit_refused : (trees : List TreeMap) (moment : ℕ) (its : Edit) (ops : List Op) (why : Refusal) → IsAddingEdit its → EditAsks trees moment its ops → EditRefused trees moment its why → ⊥
not_edit_refused trees moment (edit.Operation o) ops why adds asks refused = not_refused trees o ops why asks refused
not_edit_refused trees moment (edit.WriteValue hive path name kind bytes) ops why adds (inl there) refused = refused.0 there.0
not_edit_refused trees moment (edit.WriteValue hive path name kind bytes) ops why adds (inr other) refused = not_refused trees (op.SetValue hive path name kind bytes) ops why other.1 refused.1
not_edit_refused trees moment (edit.RemoveValue hive path name) ops why adds asks refused = absurd adds
not_edit_refused trees moment (edit.RemoveKey hive path) ops why adds asks refused = absurd adds

-- so a statement is taken in one way
record SameStep (next : Option Place) (mid : Planned) (other : Option Place) (another : Planned) : Type 0 where
  place : next ≡ other
  plan : mid ≡ another

same_step : (prefixes : List Prefix) (hives : ℕ) (current : Option Place) (old : Planned) (statement : Statement) (next other : Option Place) (mid another : Planned) → IsAdding statement
    → TakesStatement prefixes hives current old statement next mid → TakesStatement prefixes hives current old statement other another → SameStep next mid other another
same_step prefixes hives current old statement next other mid another adds a b =
    let edits : a.0 ≡ b.0 = of_edit a.0 b.0 (sym a.1 ∙ b.1) in
    let places : next ≡ other = of_place a.0 b.0 (sym a.1 ∙ b.1) in
    let its = asks_adding prefixes hives current statement a.0 next adds a.1 in
    record { place = places; plan = same_edit old a.0 mid another its a.2 (subst (λ e. TakesEdit old e another) (sym edits) b.2) }
  where
    of_edit : (x y : Edit) → ◌≡◌ {A = Result (Edit × Option Place) Denial} (Ok (x, next)) (Ok (y, other)) → x ≡ y
    of_edit x y e = ap (λ (r : Result (Edit × Option Place) Denial). (of_ok (x, next) r).0) e

    of_place : (x y : Edit) → ◌≡◌ {A = Result (Edit × Option Place) Denial} (Ok (x, next)) (Ok (y, other)) → next ≡ other
    of_place x y e = ap (λ (r : Result (Edit × Option Place) Denial). (of_ok (x, next) r).1) e

abbrev pub AllAdd : List NumberedStatement → Type 0
AllAdd numbered = AllByRecursion (λ (n : NumberedStatement). IsAdding n.statement) numbered

pub one_plan : (prefixes : List Prefix) (hives : ℕ) (first : Option Place) (old : Planned) (numbered : List NumberedStatement) (last end : Option Place) (new other : Planned) → AllAdd numbered
    → TakesStatements prefixes hives first old numbered last new → TakesStatements prefixes hives first old numbered end other → other ≡ new
one_plan prefixes hives first old [] last end new other adds a b = b.1 ∙ sym a.1
one_plan prefixes hives first old (n ∷ numbered) last end new other adds a b =
    let same = same_step prefixes hives first old n.statement a.0 b.0 a.1 b.1 adds.0 a.2 b.2 in
    one_plan prefixes hives a.0 a.1 numbered last end new other adds.1 a.3 (subst (λ p. TakesStatements prefixes hives p a.1 numbered end other) (sym same.place) (subst (λ m. TakesStatements prefixes hives b.0 m numbered end other) (sym same.plan) b.3))

-- and behind those before it, the next one is taken too
abbrev pub TakenAt : List Prefix → ℕ → Option Place → Planned → Statement → Type 0
TakenAt prefixes hives current mid statement = (next : Option Place) × (new : Planned) × TakesStatement prefixes hives current mid statement next new

pub taken_at : (prefixes : List Prefix) (hives : ℕ) (first : Option Place) (old : Planned) (front : List NumberedStatement) (stop : NumberedStatement) (rest : List NumberedStatement) (last current : Option Place) (new mid : Planned) → AllAdd (front ++ stop ∷ rest)
    → TakesStatements prefixes hives first old (front ++ stop ∷ rest) last new → TakesStatements prefixes hives first old front current mid → TakenAt prefixes hives current mid stop.statement
taken_at prefixes hives first old [] stop rest last current new mid adds a b =
    subst (λ p. TakenAt prefixes hives p mid stop.statement) (sym b.0) (subst (λ m. TakenAt prefixes hives first m stop.statement) (sym b.1) (a.0, a.1, a.2))
taken_at prefixes hives first old (n ∷ front) stop rest last current new mid adds a b =
    let same = same_step prefixes hives first old n.statement a.0 b.0 a.1 b.1 adds.0 a.2 b.2 in
    taken_at prefixes hives a.0 a.1 front stop rest last current new mid adds.1 a.3 (subst (λ p. TakesStatements prefixes hives p a.1 front current mid) (sym same.place) (subst (λ m. TakesStatements prefixes hives b.0 m front current mid) (sym same.plan) b.3))

-- what is taken is denied for want of memory alone
pub denied_for_memory : (prefixes : List Prefix) (hives : ℕ) (current : Option Place) (old : Planned) (statement : Statement) (denial : Denial) → IsAdding statement → TakenAt prefixes hives current old statement → DeniesStatement prefixes hives current old statement denial → denial ≡ refused NoMemory
denied_for_memory prefixes hives current old statement denial adds t (inl asks) = absurd (apart (t.2.0, t.0) (sym t.2.1 ∙ asks))
  where
    apart : (x : Edit × Option Place) → ◌≡◌ {A = Result (Edit × Option Place) Denial} (Ok x) (Err denial) → ⊥
    apart x e = cc
denied_for_memory prefixes hives current old statement denial adds t (inr (inl memory)) = memory
denied_for_memory prefixes hives current old statement denial adds t (inr (inr d)) = d.5 ∙ ap refused (why_memory d.4)
  where
    same_edits : t.2.0 ≡ d.0
    same_edits = of_edit t.2.0 d.0 (sym t.2.1 ∙ d.3)
      where
        of_edit : (x y : Edit) → ◌≡◌ {A = Result (Edit × Option Place) Denial} (Ok (x, t.0)) (Ok (y, d.1)) → x ≡ y
        of_edit x y e = ap (λ (r : Result (Edit × Option Place) Denial). (of_ok (x, t.0) r).0) e

    its : IsAddingEdit t.2.0
    its = asks_adding prefixes hives current statement t.2.0 t.0 adds t.2.1

    made : TakesEdit old t.2.0 t.1
    made = t.2.2

    why_of : NotTaken old t.2.0 d.2 → d.2 ≡ NoMemory
    why_of (inl memory) = memory
    why_of (inr (inl refused)) = absurd (not_edit_refused old.view old.moment t.2.0 made.more d.2 its made.asked refused)
    why_of (inr (inr large)) =
        let more = same_edit_asks old.view old.moment t.2.0 large.1.0 made.more its large.1.1 made.asked in
        let long : ops_len (old.ops ++ large.1.0) ≡ ops_len t.1.ops = ap (λ m. ops_len (old.ops ++ m)) more ∙ ap ops_len (sym made.ops) in
        let short = made.short in
        let aside = made.aside in
        let over = large.1.2 in
        absurd (omega (arith, long, short, aside, over))

    why_memory : NotTaken old d.0 d.2 → d.2 ≡ NoMemory
    why_memory not_taken = why_of (subst (λ e. NotTaken old e d.2) (sym same_edits) not_taken)

-- so statements that are taken stop for want of memory alone
pub stops_for_memory : (prefixes : List Prefix) (hives : ℕ) (old : Planned) (numbered : List NumberedStatement) (last : Option Place) (new : Planned) (line : ℕ) (denial : Denial) → AllAdd numbered → TakesStatements prefixes hives None old numbered last new → StopsAt prefixes hives old numbered line denial → denial ≡ refused NoMemory
stops_for_memory prefixes hives old numbered last new line denial adds takes s =
    let these = subst AllAdd s.all adds in
    let taken = taken_at prefixes hives None old s.front s.stop s.rest last s.current new s.mid these (subst (λ ns. TakesStatements prefixes hives None old ns last new) s.all takes) s.takes in
    let stop = s.stop in
    let adding = (all_right (λ (n : NumberedStatement). IsAdding n.statement) s.front (s.stop ∷ s.rest) these).0 in
    denied_for_memory prefixes hives s.current s.mid stop.statement denial adding taken s.denied
