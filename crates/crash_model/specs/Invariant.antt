-- What an engine keeps of its life, its journal and its hives, and what a crash then leaves.
use Rattle.std.specs.Prelude.{◌≡◌, ℕ, ◌<◌, ◌≤◌, [], IsTrue, Some}
use Rattle.std.specs.List.{AllByRecursion}
use Rattle.crash_model.specs.Changes.{Rules, AreLegal, ops_on, replay}
use Rattle.crash_model.specs.Promises.{Choice, Leaves, settled, Content, floor, top}
use Rattle.crash_model.specs.Recovery.{Recovers}
use Rattle.crash_model.specs.Life.{Life, opened_number, last_number, known_elements, elements_in, ops_in, tree_at, NamesHive, opened_life}

-- The life is in order. The durable number is between the opened and the last one, and the last is within the limit.
-- What was accepted is legal hive by hive, and each known element names a hive. After each number from the opened one
-- on each tree is allowed.
pub record LifeFits {T Op : Type 0} (rules : Rules T Op) (most hives : ℕ) (life : Life T Op)
    (durable : ℕ) : Type 0 where
  pub from_opened : opened_number life ≤ durable
  pub to_last : durable ≤ last_number life
  pub limit : last_number life ≤ most
  pub legal : (i : ℕ) → i < hives → AreLegal rules (ops_on i life.accepted) (life.trees i)
  pub named : AllByRecursion (NamesHive hives) (known_elements life)
  pub allowed : (n : ℕ) → opened_number life ≤ n → n ≤ last_number life → (i : ℕ) → i < hives
      → IsTrue (rules.allows i n (tree_at rules life n i))

-- A journal that a crash may leave: it decodes to a run of the known elements that reaches at least to the durable
-- number.
pub record JournalFits {T Op : Type 0} (life : Life T Op) (durable : ℕ) (s : Content Op) : Type 0 where
  pub low : life.base ≤ floor durable s
  pub holds_durable : durable ≤ top durable s
  pub high : top durable s ≤ last_number life
  pub piece : s.elements ≡ elements_in life (floor durable s) (top durable s)

-- What a crash may leave of hive i: a number that is not above the durable one, and a tree. The known elements above
-- that number, up to the durable one, lead legally from the tree to the hive's tree at the durable one.
pub record HiveFits {T Op : Type 0} (rules : Rules T Op) (life : Life T Op) (durable : ℕ) (i : ℕ)
    (held : T × ℕ) : Type 0 where
  pub not_above : held.1 ≤ durable
  pub tree : replay rules (ops_in life i held.1 durable) held.0 ≡ Some (tree_at rules life durable i)

-- The engine's invariant: whatever a crash may leave of the journal and of each hive fits. The durable content of the
-- journal ends at the durable number. What is under way to a hive has no lower number than its durable content. The
-- durable content of each hive has every operation on it of the elements below what the journal decodes to. If the
-- journal may decode to no element, some hive's durable content has the durable number.
pub record EngineFits {T Op : Type 0} (rules : Rules T Op) (most hives : ℕ) (life : Life T Op)
    (durable : ℕ) (journal : Choice (Content Op)) (files : ℕ → Choice (T × ℕ)) : Type 0 where
  pub fits : LifeFits rules most hives life durable
  pub journal_fits : (s : Content Op) → Leaves journal s → JournalFits life durable s
  pub ends : top durable journal.now ≡ durable
  pub hive_fits : (i : ℕ) → i < hives → (x : T × ℕ) → Leaves (files i) x → HiveFits rules life durable i x
  pub rises : (i : ℕ) → i < hives → (x : T × ℕ) → Leaves (files i) x → (files i).now.1 ≤ x.1
  pub covered : (s : Content Op) → Leaves journal s → (i : ℕ) → i < hives
      → ops_in life i (files i).now.1 (floor durable s) ≡ []
  pub carried : (s : Content Op) → Leaves journal s → s.elements ≡ [] → (i : ℕ) × (i < hives)
      × ((files i).now.1 ≡ durable)

-- The crash model's view of an engine: its life, the durable number, and what a crash may leave of the journal and of
-- each hive.
pub record State (T Op : Type 0) : Type 0 where
  pub life : Life T Op
  pub durable : ℕ
  pub journal : Choice (Content Op)
  pub files : ℕ → Choice (T × ℕ)

-- The state has the engine's invariant.
abbrev pub InvariantHolds : {T Op : Type 0} → Rules T Op → ℕ → ℕ → State T Op → Type 0
InvariantHolds rules most hives s = EngineFits rules most hives s.life s.durable s.journal s.files

-- A journal and the hives' trees and numbers are one prefix of the accepted changes: some n, not below the durable
-- number and not above the last, is recovered from them, with each hive's tree after n.
abbrev pub IsPrefix : {T Op : Type 0} → Rules T Op → ℕ → ℕ → Life T Op → ℕ → Content Op → (ℕ → T × ℕ) → Type 0
IsPrefix rules most hives life durable s held = (n : ℕ) × (durable ≤ n) × (n ≤ last_number life)
    × Recovers rules most hives s held n (tree_at rules life n)

-- Whatever a crash leaves now, of the journal and independently of each hive, is one prefix.
abbrev pub IsSafe : {T Op : Type 0} → Rules T Op → ℕ → ℕ → State T Op → Type 0
IsSafe {T = T} {Op = Op} rules most hives s = (j : Content Op) → Leaves s.journal j → (held : ℕ → T × ℕ)
    → ((i : ℕ) → i < hives → Leaves (s.files i) (held i)) → IsPrefix rules most hives s.life s.durable j held

-- The state with which an opening begins: what was found is durable, and nothing is under way.
abbrev pub opened_state : {T Op : Type 0} → ℕ → (ℕ → T) → Content Op → (ℕ → T × ℕ) → State T Op
opened_state n trees decoded held = record {
  life = opened_life n trees decoded;
  durable = n;
  journal = settled decoded;
  files = λ i. settled (held i);
}
