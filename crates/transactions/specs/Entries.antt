-- How a table keeps a transaction.
use Rattle.std.specs.Prelude.{◌≡◌, ◌≢◌, ◌⊎◌, ℕ, ◌+◌, ◌<◌, ◌≤◌, ◌++◌, ◌∷◌, [], List, map, length, vec_capacity, Contains, Option, IfSome, IsSome, false, Ok, Some, None, ⊤, true, ◌↔◌, slice_index_or, slice_set}
use Rattle.std.specs.Option.{option_map}
use Rattle.refusals.specs.declared.limits.TheConstants.{MOST_ELEMENT_BYTES}
use Rattle.refusals.specs.declared.refusal.Refusal.{Refusal}
use Rattle.refusals.specs.declared.refusal.Refusal.TheVariants.{NoSuchHandle, NoMemory, TooLarge, Conflict}
use Rattle.reg_tree.specs.Maps.{TreeMap}
use Rattle.reg_tree.specs.Encodings.{ops_encoded_len}
use Rattle.reg_tree.specs.Judgement.{applied, applied_one, legal, any_outweighs}
use Rattle.reg_tree.specs.Sequences.{AreTrees}
use Rattle.reg_tree.specs.Operations.{hive_of}
use Rattle.reg_tree.specs.Stamps.{time_in, touched_path_of, stamped}
use Rattle.reg_tree.specs.Times.{SameButTimes}
use Rattle.conflicts.specs.TreeOutlines.{AreCarriedOut, OpsDontConflict}
use Rattle.reg_tree.specs.TreeLists.{levels_made, info_in}
use Rattle.reg_tree.specs.declared.tree.Info.{Info}
use Rattle.reg_tree.specs.declared.op.Op.{Op}
use Rattle.reg_tree.specs.declared.op.Legality.TheVariants.{Legal, Opened}
use Rattle.conflicts.specs.Skeleton.{Claim}
use Rattle.conflicts.specs.Claims.{claim_of}
use Rattle.conflicts.specs.Holders.{HeldClaim}
use Rattle.store_model.specs.Transactions.{Transaction, TxSlots, SetsSlot, at, own, with_op, is_active, is_claimed, inactive_refusal, view}
use Rattle.store_model.specs.Invariant.{HivesAreNamable}
use Rattle.store_model.specs.declared.room.TheConstants.{MOST_OUTCOME_BYTES}
use Rattle.store_model.specs.Machine.{refusal_by, refused_if, first_of, too_long}
use Rattle.store_model.specs.declared.handle.Tx.{Tx}
use Rattle.transactions.specs.Tables.{Table}
use Rattle.transactions.specs.declared.table.TxWriteOutcome.{TxWriteOutcome}
use Rattle.transactions.specs.declared.table.TxWriteOutcome.TheVariants.{Added}
use Rattle.transactions.specs.declared.entry.TxEntry.{TxEntry}
use Rattle.transactions.specs.declared.entry.Committed.{Committed}
use Rattle.transactions.specs.declared.view.Judged.{Judged}
use Rattle.transactions.specs.declared.view.View.{View}
use Rattle.transactions.specs.declared.view.Known.{Known}
use Rattle.transactions.specs.declared.view.Known.TheVariants.{Nothing, Carried, Light}

-- the transaction that an entry keeps
abbrev pub transaction_of : TxEntry → Transaction
transaction_of e = record { session = e.session; id = e.id; generation = e.generation; outcome = e.outcome; ops = e.ops.items; moment = e.moment }

abbrev pub tx_slots_of : List (Option TxEntry) → TxSlots
tx_slots_of slots = map (option_map transaction_of) slots

-- The trees of a view are those of now with the operations applied at its moment; without a moment they are the same
-- but for times.
abbrev pub IsMade : List TreeMap → List Op → Option ℕ → List TreeMap → Type 0
IsMade now ops (Some moment) trees = trees ≡ applied now ops moment
IsMade now ops None trees = SameButTimes trees (applied now ops 0)

-- operations that can be carried out one after another, on trees that have their roots and parents
pub record AreCarried (now : List TreeMap) (ops : List Op) : Type 0 where
  pub are : AreTrees now
  pub carried : AreCarriedOut now ops 0

-- None of the operations leaves a tree too heavy at a view's moment. Without a moment nothing is said.
abbrev pub AreLight : List TreeMap → List Op → Option ℕ → Type 0
AreLight now ops None = ⊤
AreLight now ops (Some moment) = any_outweighs now ops moment ≡ false

-- the trees after operations that were carried out one after another
pub record AreAfter (now : List TreeMap) (ops : List Op) (moment : ℕ) (trees : List TreeMap) : Type 0 where
  pub made : trees ≡ applied now ops moment
  pub carried : AreCarriedOut now ops moment
  pub light : any_outweighs now ops moment ≡ false

-- what is known of the operations of a view at its moment
abbrev pub AreKnown : List TreeMap → List Op → Option ℕ → Known → Type 0
AreKnown now ops moment Nothing = ⊤
AreKnown now ops moment Carried = AreCarried now ops
AreKnown now ops moment Light = AreCarried now ops × AreLight now ops moment

-- a view of the trees of now
pub record IsViewNow (now : List TreeMap) (ops : List Op) (view : View) : Type 0 where
  pub made : IsMade now ops view.moment view.trees
  pub known : AreKnown now ops view.moment view.known

-- a view that was just made
pub record IsFresh (now : List TreeMap) (ops : List Op) (moment number : ℕ) (view : View) : Type 0 where
  pub is : IsViewNow now ops view
  pub numbered : view.number ≡ number
  pub trees : view.trees ≡ applied now ops moment

-- a view of the number of now is of the trees of now; any other is never used
pub record IsViewOf (now : List TreeMap) (number : ℕ) (ops : List Op) (view : View) : Type 0 where
  pub known : view.number ≤ number
  pub made : view.number ≡ number → IsViewNow now ops view

abbrev pub IsViewed : List TreeMap → ℕ → List Op → Option View → Type 0
IsViewed now number ops None = ⊤
IsViewed now number ops (Some view) = IsViewOf now number ops view

-- there is a view of now
abbrev pub HasView : List TreeMap → ℕ → List Op → Option View → Type 0
HasView now number ops None = ⊥
HasView now number ops (Some view) = (view.number ≡ number) × IsViewNow now ops view

-- there is one at this moment
abbrev pub HasViewAt : List TreeMap → ℕ → List Op → ℕ → Option View → Type 0
HasViewAt now number ops moment None = ⊥
HasViewAt now number ops moment (Some view) = (view.number ≡ number) × (view.trees ≡ applied now ops moment)

-- the moment at which a view's next operation is carried out: if the view has none, any will do
abbrev pub moment_of : Option ℕ → ℕ
moment_of None = 0
moment_of (Some moment) = moment

-- an operation is carried out on a view's trees at its moment, and makes this many keys
pub record IsWrittenTo (view : View) (op : Op) (written : Judged) : Type 0 where
  pub is_legal : legal view.trees op ≡ Ok Legal
  pub made : written.made ≡ record view { trees = applied_one view.trees op (moment_of view.moment); ops_since_read = written.made.ops_since_read }
  pub levels : written.levels ≡ levels_made view.trees op

-- or it opens a key
abbrev pub WritesView : View → Op → Option Judged → Type 0
WritesView view op None = legal view.trees op ≡ Ok Opened
WritesView view op (Some written) = IsWrittenTo view op written

-- A change is carried out at its moment on trees with operations at their own. Their times stay those that operations
-- make at that moment in three cases: both moments are one; the operations didn't write the key that the change writes
-- beside those that it makes; or they did, and it had another time before them, and then it gets their moment again.
abbrev pub KeepsTimes : List TreeMap → List TreeMap → Op → ℕ → ℕ → List TreeMap → Type 0
KeepsTimes seen now op moment own trees =
    let hive = hive_of op in
    let touched_path = touched_path_of op (levels_made seen op) in
    ((own ≡ moment) × (trees ≡ applied_one seen op moment))
    ⊎ ((time_in seen hive touched_path ≢ Some own) × (trees ≡ applied_one seen op moment))
    ⊎ ((time_in seen hive touched_path ≡ Some own) × (time_in now hive touched_path ≢ Some own) × (trees ≡ stamped (applied_one seen op moment) hive touched_path own))

-- without a moment the times say nothing
abbrev pub IsTimed : View → List TreeMap → Op → ℕ → Option ℕ → List TreeMap → Type 0
IsTimed view now op moment None trees = trees ≡ applied_one view.trees op moment
IsTimed view now op moment (Some own) trees = (view.moment ≡ Some own) × KeepsTimes view.trees now op moment own trees

-- a change is carried out on a view's trees, if it makes as many keys as on the trees of now
pub record IsRebasedBy (view : View) (now : List TreeMap) (op : Op) (moment number : ℕ) (after : View) : Type 0 where
  pub carried : view.known ≢ Nothing
  pub alike : levels_made view.trees op ≡ levels_made now op
  pub timed : IsTimed view now op moment after.moment after.trees
  pub known : after.known ≡ Carried
  pub numbered : after.number ≡ number

-- what was a view of operations is one after a change none of whose operations conflicts with a claim of theirs
abbrev pub StaysViewAfter : List TreeMap → List Op → ℕ → View → View → Type 0
StaysViewAfter now change moment view after = (ops : List Op) → IsViewNow now ops view → OpsDontConflict ops change → IsViewNow (applied now change moment) ops after

-- the trees after a transaction's operations, none of which leaves a tree too heavy
pub record IsCommitted (now : List TreeMap) (ops : List Op) (moment : ℕ) (made : Committed) : Type 0 where
  pub light : any_outweighs now ops moment ≡ false
  pub trees : made.trees ≡ applied now ops moment
  pub carried : made.carried ≡ true → AreCarriedOut now ops moment

-- A view shows this of a key for another moment: it is so of the trees of now with the operations applied at that
-- moment, whichever operations made the view.
abbrev pub ViewShows : View → List TreeMap → ℕ → List (List ℕ) → ℕ → Option Info → Type 0
ViewShows view now hive path moment told = (ops : List Op) → IsMade now ops view.moment view.trees → info_in (applied now ops moment) hive path ≡ told

-- what a view shows of a key that it has; it shows nothing only if it has no moment, or the trees of now have the key
-- with the view's moment as its time
abbrev pub ViewShowsInfo : View → List TreeMap → ℕ → List (List ℕ) → ℕ → Option Info → Type 0
ViewShowsInfo view now hive path moment None = (view.moment ≡ None) ⊎ (option_map (λ (info : Info). info.time) (info_in now hive path) ≡ view.moment)
ViewShowsInfo view now hive path moment (Some info) = ViewShows view now hive path moment (Some info)

-- if there are operations, there is room for two more: two may be added without memory to the operations that a commit
-- takes
abbrev pub HasTwoSpare : TxEntry → Type 0
HasTwoSpare e = 0 < length e.ops.items → length e.ops.items + 2 ≤ vec_capacity e.ops

-- what is so of an entry: its number was given, and its length is the length of its change and within the limit, with the
-- bytes that are set aside. There is room for two operations beside its own, which are on hives below a number, and its
-- view is one
pub record IsEntry (now : List TreeMap) (number begun hives aside : ℕ) (e : TxEntry) : Type 0 where
  pub known : e.generation ≤ begun
  pub counted : e.length ≡ 16 + ops_encoded_len e.ops.items
  pub short : e.length + aside ≤ MOST_ELEMENT_BYTES
  pub spare : HasTwoSpare e
  pub named : HivesAreNamable hives e.ops.items
  pub viewed : IsViewed now number e.ops.items e.view

-- a claim of the active transaction in a slot
pub record Claims (tx_slots : TxSlots) (slot : ℕ) (claim : Claim) : Type 0 where
  pub one : Transaction
  pub there : at tx_slots slot ≡ Some one
  pub active : is_active one ≡ true
  pub made : Contains (map claim_of one.ops) claim

-- what is so of all: each entry is sound, and the claims are those of active transactions; no more bytes are set aside
-- than a commit may add
pub record EntriesAreSound (now : List TreeMap) (number begun hives aside : ℕ) (slots : List (Option TxEntry)) (claims : List HeldClaim) : Type 0 where
  pub entries : (slot : ℕ) (e : TxEntry) → slice_index_or slots slot None ≡ Some e → IsEntry now number begun hives aside e
  pub claimed : (slot : ℕ) (claim : Claim) → Contains claims (record { owner = slot; claim = claim }) ↔ Claims (tx_slots_of slots) slot claim
  pub few : aside ≤ MOST_OUTCOME_BYTES

-- an operation was judged: it is legal by the view and its change not too long, and this is the view after it, or it
-- opens a key
pub record IsLegalIn (aside : ℕ) (now : List TreeMap) (number : ℕ) (one : Transaction) (op : Op) (judged : Judged) : Type 0 where
  pub is_legal : legal (view now one) op ≡ Ok Legal
  pub short : too_long aside one op ≡ false
  pub made : judged.levels ≡ levels_made (view now one) op
  pub numbered : judged.made.number ≡ number
  pub seen : IsViewNow now (one.ops ++ op ∷ []) judged.made

abbrev pub IsJudged : ℕ → List TreeMap → ℕ → Transaction → Op → Option Judged → Type 0
IsJudged aside now number one op None = legal (view now one) op ≡ Ok Opened
IsJudged aside now number one op (Some judged) = IsLegalIn aside now number one op judged

-- they differ in the room for operations alone, and there is no less of it
abbrev pub IsSameEntry : TxEntry → TxEntry → Type 0
IsSameEntry old new = (new ≡ record old { ops = new.ops }) × (new.ops.items ≡ old.ops.items) × (vec_capacity old.ops ≤ vec_capacity new.ops)

-- there is room for one operation more, and two besides
abbrev pub HasRoom : TxEntry → Type 0
HasRoom e = length e.ops.items + 2 < vec_capacity e.ops

-- an operation of a handle's transaction was judged
pub record IsJudgedBy (aside : ℕ) (trees : List TreeMap) (number : ℕ) (op : Op) (judged : Option Judged) (one : Transaction) : Type 0 where
  pub active : is_active one ≡ true
  pub told : IsJudged aside trees number one op judged

abbrev pub IsJudgedOf : Table → ℕ → Tx → Op → Option Judged → Type 0
IsJudgedOf table session tx op judged = IfSome (own table.tx_slots session tx) (IsJudgedBy table.aside table.trees table.number op judged) × IsSome (own table.tx_slots session tx)

-- why it is not: the transaction is not there or not active, or the operation is not legal or makes its change too long
abbrev pub illegal : ℕ → List TreeMap → Op → Transaction → Option Refusal
illegal aside trees op one = refusal_by (legal (view trees one) op) (refused_if (too_long aside one op) TooLarge)

abbrev pub judge_refusal : ℕ → List TreeMap → Op → Option Transaction → Option Refusal
judge_refusal aside trees op None = Some NoSuchHandle
judge_refusal aside trees op (Some one) = first_of (inactive_refusal (Some one)) (illegal aside trees op one)

-- an operation may be added to the active transaction in a slot, and this is the view after it
pub record MayAdd (table : Table) (slot : ℕ) (op : Op) (made : View) : Type 0 where
  pub one : Transaction
  pub there : at table.tx_slots slot ≡ Some one
  pub active : is_active one ≡ true
  pub short : too_long table.aside one op ≡ false
  pub named : hive_of op < table.hives
  pub numbered : made.number ≡ table.number
  pub seen : IsViewNow table.trees (one.ops ++ op ∷ []) made

-- it was added
abbrev pub with_op_if : Op → ℕ → Option Transaction → Option Transaction
with_op_if op moment None = None
with_op_if op moment (Some one) = Some (with_op one op moment)

abbrev pub IsAdded : TxSlots → ℕ → Op → ℕ → TxSlots → Type 0
IsAdded old slot op moment new = SetsSlot old new slot (with_op_if op moment (at old slot))

abbrev pub AddsTo : Table → ℕ → ℕ → Op → Option ℕ → Table → TxWriteOutcome → Type 0
AddsTo old slot moment op levels new written = (written ≡ Added levels) × (is_claimed old.tx_slots slot (claim_of op) ≡ false) × (new ≡ record old { tx_slots = new.tx_slots }) × IsAdded old.tx_slots slot op moment new.tx_slots

-- or not, since another active transaction's claim conflicts, or there is no memory
abbrev pub IsNotAdded : Table → ℕ → Op → Refusal → Type 0
IsNotAdded old slot op why = (why ≡ NoMemory) ⊎ ((why ≡ Conflict) × (is_claimed old.tx_slots slot (claim_of op) ≡ true))

-- the views after a change, by the slots of their transactions; nothing if one is to be made again
abbrev pub IsRebasedTo : List TreeMap → ℕ → Option Transaction → Option View → Type 0
IsRebasedTo now number None rebased = ⊤
IsRebasedTo now number (Some one) rebased = IsViewed now number one.ops rebased

abbrev pub AreRebased : List TreeMap → ℕ → TxSlots → List (Option View) → Type 0
AreRebased now number tx_slots rebased = (slot : ℕ) → IsRebasedTo now number (at tx_slots slot) (slice_index_or rebased slot None)

-- a view with another tree of a hive
abbrev pub with_other_tree : ℕ → TreeMap → View → View
with_other_tree hive tree view = record view { trees = slice_set view.trees hive tree }
