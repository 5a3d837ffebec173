-- An export restores what it shows.
use Rattle.std.proofs.Common.{◌≡◌, ℕ, zero, suc, ◌+◌, ◌≤◌, true, List, [], ◌∷◌, length, Option, None, refl, sym, ◌∙◌, ap, subst, arith}
use Rattle.std.specs.List.{AllByRecursion, AllZip}
use Rattle.std.proofs.lemmas.List.{length-map}
use Rattle.refusals.specs.declared.limits.TheConstants.{MOST_ELEMENT_BYTES, MOST_VALUE_BYTES}
use Rattle.reg_names.specs.Names.{is_value_name}
use Rattle.reg_tree_parts.specs.declared.value.Value.{Value}
use Rattle.reg_tree.specs.Maps.{TreeMap}
use Rattle.reg_tree.specs.Fresh.{fresh_tree}
use Rattle.reg_tree.specs.Judgement.{applied}
use Rattle.reg_tree.specs.declared.op.Op.{Op}
use Rattle.store_model.specs.Machine.{Machine, named_trees, outcome_bytes}
use Rattle.key_walk.specs.KeyRows.{NamedRow, tree_rows}
use Rattle.reg_prefixes.specs.declared.prefix.Prefix.{Prefix}
use Rattle.reg_export.specs.declared.encoding.Encoding.{Encoding}
use Rattle.reg_export.specs.RegFiles.{reg_text}
use Rattle.reg_file.specs.Files.{reg_file_of}
use Rattle.reg_file.specs.declared.file.RegFile.{RegFile}
use Rattle.reg_file.specs.declared.statement.Statement.{Statement}
use Rattle.reg_file.specs.declared.statement.NumberedStatement.{NumberedStatement}
use Rattle.change_plan.specs.Plans.{ops_len}
use Rattle.reg_apply.specs.Statements.{TakesStatements}
use Rattle.reg_apply.specs.Applied.{first_plan}
use Rattle.reg_round_trip.specs.Statements.{export_statements}
use Rattle.reg_round_trip.specs.Exports.{IsPrefixText, IsHiveOfLimits, AreReadAs}
use Rattle.reg_round_trip.specs.Contents.{SameContent}
use Rattle.reg_round_trip.specs.Operations.{new_trees, trees_ops}
use Rattle.reg_round_trip.specs.NewTrees.{IsCallValue, IsCallTree}
use Rattle.reg_round_trip.specs.Shown.{PrefixesAreApart, IsShowable}
use Rattle.reg_round_trip.specs.Restores.{FileRestores}
use Rattle.reg_round_trip.proofs.Units.{all_then, all_mapped}
use Rattle.reg_round_trip.proofs.AddedOps.{AreAdded}
use Rattle.reg_round_trip.proofs.Entries.{plain}
use Rattle.reg_round_trip.proofs.Reading.{ReadsText, export_is_read}
use Rattle.reg_round_trip.proofs.MadeTrees.{fresh_is_tree}
use Rattle.reg_round_trip.proofs.TreeLists.{all_added, all_same}
use Rattle.reg_round_trip.proofs.ShownHives.{AreShown}
use Rattle.reg_round_trip.proofs.ShownPlaces.{shown_all}
use Rattle.reg_round_trip.proofs.CallTrees.{IsCallShown, tree_shown, keys_limits, hives_fit}
use Rattle.reg_round_trip.proofs.Places.{Place}
use Rattle.reg_round_trip.proofs.Taken.{HasTrees, behind, IsCallRow, Takes, with_numbers, hives_taken}
use Rattle.reg_round_trip.proofs.OnePlan.{IsAdding, AllAdd, export_adds, one_plan}

-- the statements of bytes
abbrev pub statements_of : List ℕ → List NumberedStatement
statements_of bytes = let file = reg_file_of bytes in file.statements

-- bytes that are read as statements that add have such statements
pub bytes_add : (bytes : List ℕ) (statements : List Statement) → AreReadAs bytes statements → AllByRecursion IsAdding statements → AllAdd (statements_of bytes)
bytes_add bytes statements read adds = subst (λ (file : RegFile). AllAdd file.statements) (sym read.is_parsed) (all_mapped IsAdding plain read.numbered (subst (AllByRecursion IsAdding) (sym read.are_statements) adds))

-- they restore what their operations make
pub restores_by : (prefixes : List Prefix) (moment : ℕ) (bytes : List ℕ) (old : Machine) (ops : List Op) (AreGood : List TreeMap → Type 0) (statements : List Statement) → AreReadAs bytes statements → AllByRecursion IsAdding statements
    → (last : Option Place) → Takes prefixes (length (named_trees old)) None (first_plan old moment) statements last (behind (first_plan old moment) ops) → AreGood (applied (named_trees old) ops moment) → FileRestores prefixes moment bytes old ops AreGood
restores_by prefixes moment bytes old ops AreGood statements read adds last takes good =
    let hives = length (named_trees old) in
    let first = first_plan old moment in
    let plan = behind first ops in
    let numbered = with_numbers prefixes hives None first read.numbered last plan (subst (λ ss. Takes prefixes hives None first ss last plan) (sym read.are_statements) takes) in
    let whole : TakesStatements prefixes hives None first (statements_of bytes) last plan = subst (λ (file : RegFile). TakesStatements prefixes hives None first file.statements last plan) (sym read.is_parsed) numbered in
    record {
      no_fault = ap (λ (file : RegFile). file.fault) read.is_parsed;
      plan = plan;
      takes = (last, whole);
      by_ops = refl;
      good = good;
      only = λ other t. one_plan prefixes hives None first (statements_of bytes) last t.0 plan other (bytes_add bytes statements read adds) whole t.1;
    }

-- new hives have trees
new_has : (trees : List TreeMap) → HasTrees (length trees) (new_trees trees)
new_has [] hive within = absurd (omega (arith, within))
new_has (tree ∷ trees) zero within = (fresh_tree, refl, fresh_is_tree)
new_has (tree ∷ trees) (suc hive) within = new_has trees hive (omega (arith, within))

-- keys that are shown may be named
pub call_row : (key : NamedRow) → IsCallShown key → IsCallRow key
call_row key k = record { names = k.names; shallow = k.shallow; values = all_then (λ (v : Value). (name : List ℕ) × IsCallValue name v) (λ (v : Value). is_value_name v.name ≡ true) (λ v c. let its = c.1 in its.named) _ k.values }

abbrev pub AreShowable : List Prefix → Type 0
AreShowable prefixes = AllByRecursion IsShowable prefixes

abbrev Rows : Type 0
Rows = List (List ℕ × List NamedRow)

-- shown hives are within the limits of a registration file
limits : (prefixes : List Prefix) → AreShowable prefixes → (hive : ℕ) (trees : List TreeMap) (shown : Rows) → AreShown prefixes hive trees shown → AllByRecursion IsCallTree trees → AllByRecursion IsHiveOfLimits shown
limits prefixes texts hive [] shown are calls = subst (AllByRecursion IsHiveOfLimits) (sym are) tt
limits prefixes texts hive (tree ∷ trees) shown are calls =
    let its = shown_all (λ text. IsPrefixText text × (length text ≤ MOST_VALUE_BYTES)) prefixes texts hive are.0 are.2 in
    subst (AllByRecursion IsHiveOfLimits) (sym are.3) (keys_limits are.0 its.0 its.1 (tree_rows tree) (tree_shown tree calls.0), limits prefixes texts (hive + 1) trees are.1 are.4 calls.1)

shown_rows : (prefixes : List Prefix) (hive : ℕ) (trees : List TreeMap) (shown : Rows) → AreShown prefixes hive trees shown → AllByRecursion IsCallTree trees → AllByRecursion (λ its. AllByRecursion IsCallShown its.1) shown
shown_rows prefixes hive [] shown are calls = subst (AllByRecursion (λ its. AllByRecursion IsCallShown its.1)) (sym are) tt
shown_rows prefixes hive (tree ∷ trees) shown are calls = subst (AllByRecursion (λ its. AllByRecursion IsCallShown its.1)) (sym are.3) (tree_shown tree calls.0, shown_rows prefixes (hive + 1) trees are.1 are.4 calls.1)

call_rows : (trees : List TreeMap) → AllByRecursion IsCallTree trees → AllByRecursion (λ tree. AllByRecursion IsCallRow (tree_rows tree)) trees
call_rows trees calls = all_then IsCallTree (λ tree. AllByRecursion IsCallRow (tree_rows tree)) (λ tree call. all_then IsCallShown IsCallRow call_row (tree_rows tree) (tree_shown tree call)) trees calls

pub shown_read : ReadsText → (encoding : Encoding) (prefixes : List Prefix) (trees : List TreeMap) (shown : Rows) → AreShowable prefixes → AreShown prefixes 0 trees shown → AllByRecursion IsCallTree trees → AreReadAs (reg_text encoding shown) (export_statements shown)
shown_read r encoding prefixes trees shown texts are calls = export_is_read r encoding shown (limits prefixes texts 0 trees shown are calls) (hives_fit encoding shown (shown_rows prefixes 0 trees shown are calls))

-- in new hives the same content is made
pub made_same : (trees : List TreeMap) (moment : ℕ) (old : Machine) → AllByRecursion IsCallTree trees → named_trees old ≡ new_trees trees → AllZip SameContent trees (applied (named_trees old) (trees_ops 0 trees) moment)
made_same trees moment old calls is_new = subst (λ ts. AllZip SameContent trees (applied ts (trees_ops 0 trees) moment)) (sym is_new) (all_same trees moment calls)

pub export_restores : ReadsText → (encoding : Encoding) (prefixes : List Prefix) (trees : List TreeMap) (shown : Rows) (moment : ℕ) (old : Machine) → AreShowable prefixes → PrefixesAreApart prefixes → AreShown prefixes 0 trees shown → AllByRecursion IsCallTree trees
    → ops_len (trees_ops 0 trees) + outcome_bytes old ≤ MOST_ELEMENT_BYTES → named_trees old ≡ new_trees trees → FileRestores prefixes moment (reg_text encoding shown) old (trees_ops 0 trees) (AllZip SameContent trees)
export_restores r encoding prefixes trees shown moment old texts apart are calls short is_new =
    let count : length (named_trees old) ≡ length trees = ap length is_new ∙ length-map trees (λ _. fresh_tree) in
    let has : HasTrees (length (named_trees old)) (named_trees old) = subst (λ n. HasTrees n (named_trees old)) (sym count) (subst (HasTrees (length trees)) (sym is_new) (new_has trees)) in
    let added : AreAdded (named_trees old) (trees_ops 0 trees) moment = subst (λ ts. AreAdded ts (trees_ops 0 trees) moment) (sym is_new) (all_added trees moment calls) in
    let taken = hives_taken prefixes (length (named_trees old)) apart 0 trees shown are (omega (arith, count)) (call_rows trees calls) None (first_plan old moment) has added short in
    restores_by prefixes moment (reg_text encoding shown) old (trees_ops 0 trees) (AllZip SameContent trees) (export_statements shown) (shown_read r encoding prefixes trees shown texts are calls) (export_adds shown) taken.0 taken.1 (made_same trees moment old calls is_new)
