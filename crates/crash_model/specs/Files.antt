-- Recovery and the prefix, said of files: number 0 is the journal's, 1 + 2i and 2 + 2i are the primary file and the log
-- of hive i. What bytes decode to is given from outside.
use Rattle.std.specs.Prelude.{◌≡◌, ℕ, ◌+◌, ◌*◌, ◌<◌, ◌≤◌, List, [], ◌∷◌, length, IsTrue, Option, Some}
use Rattle.crash_model.specs.Changes.{Rules, Element, ops_on, replay}
use Rattle.crash_model.specs.Promises.{Leaves, Content}
use Rattle.crash_model.specs.Recovery.{above}
use Rattle.crash_model.specs.Life.{last_number, tree_at}
use Rattle.crash_model.specs.Invariant.{State}

-- A journal's bytes decode to the decoder's result.
abbrev pub DecodesBy : {Op : Type 0} → (List ℕ → Option (Content Op)) → List ℕ → Content Op → Type 0
DecodesBy decoded c s = decoded c ≡ Some s

-- A hive's primary file and log together decode to the decoder's result.
abbrev pub HoldsBy : {T : Type 0} → (List ℕ → List ℕ → Option (T × ℕ)) → List ℕ → List ℕ → T × ℕ → Type 0
HoldsBy held p l x = held p l ≡ Some x

-- n is the number of the last element, or a number of some hive if there is no element.
abbrev pub IsLastNumberOf : {Op : Type 0} → ((i k : ℕ) → Type 0) → ℕ → ℕ → List (Element Op) → ℕ → Type 0
IsLastNumberOf has hives below [] n = (i : ℕ) × (i < hives) × has i n
IsLastNumberOf has hives below (e ∷ es) n = n ≡ below + length (e ∷ es)

-- Hive i's files decode to a tree and a number not above n, from which the journal leads legally to this tree, which is
-- allowed after n.
pub record HiveRecovers {T Op : Type 0} (rules : Rules T Op) (holds : T × ℕ
    → Type 0) (journal : Content Op) (i n : ℕ) (tree : T) : Type 0 where
  pub held : T × ℕ
  pub holds_it : holds held
  pub not_above : held.1 ≤ n
  pub replayed : replay rules (ops_on i (above held.1 journal)) held.0 ≡ Some tree
  pub allowed : IsTrue (rules.allows i n tree)

-- The files recover n and these trees: the journal's file decodes to some content, n is its last number or else the
-- number of some hive, within the limit, and each hive's files recover its tree.
pub record FilesRecover {T Op : Type 0} (rules : Rules T Op) (decodes : List ℕ → Content Op
    → Type 0) (holds : List ℕ → List ℕ → T × ℕ → Type 0) (most hives : ℕ) (files : ℕ
    → List ℕ) (n : ℕ) (trees : ℕ → T) : Type 0 where
  pub journal : Content Op
  pub decoded : decodes (files 0) journal
  pub last : IsLastNumberOf (λ i k. (t : T)
      × holds (files (1 + 2 * i)) (files (2 + 2 * i)) (t, k)) hives journal.below journal.elements n
  pub limit : n ≤ most
  pub each : (i : ℕ) → i < hives
      → HiveRecovers rules (holds (files (1 + 2 * i)) (files (2 + 2 * i))) journal i n (trees i)

-- The files decode to what a crash may leave of this state.
pub record FilesLeft {T Op : Type 0} (decodes : List ℕ → Content Op → Type 0)
    (holds : List ℕ → List ℕ → T × ℕ → Type 0) (hives : ℕ) (s : State T Op) (files : ℕ → List ℕ) : Type 0 where
  pub journal : (j : Content Op) × Leaves s.journal j × decodes (files 0) j
  pub each : (i : ℕ) → i < hives
      → (x : T × ℕ) × Leaves (s.files i) x × holds (files (1 + 2 * i)) (files (2 + 2 * i)) x

-- The files are one prefix of the accepted changes: some n, not below the durable number and not above the last, is
-- recovered from them, with each hive's tree after n.
abbrev pub FilesPrefix : {T Op : Type 0} → Rules T Op → (List ℕ → Content Op → Type 0)
    → (List ℕ → List ℕ → T × ℕ → Type 0) → ℕ → ℕ → State T Op → (ℕ → List ℕ) → Type 0
FilesPrefix rules decodes holds most hives s files = (n : ℕ) × (s.durable ≤ n) × (n ≤ last_number s.life)
    × FilesRecover rules decodes holds most hives files n (tree_at rules s.life n)
