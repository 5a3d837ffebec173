-- What an opening makes of a journal and of each hive's tree and number.
use Rattle.std.specs.Prelude.{◌≡◌, ℕ, ◌+◌, ◌-◌, ◌<◌, ◌≤◌, List, [], ◌∷◌, length, drop, IsTrue, Some}
use Rattle.crash_model.specs.Changes.{Rules, Element, ops_on, replay}
use Rattle.crash_model.specs.Promises.{Content}

-- The decoded elements that are numbered above k.
abbrev pub above : {Op : Type 0} → ℕ → Content Op → List (Element Op)
above k s = drop (k - s.below) s.elements

-- n is the number of the last element, or the number of some hive if there is no element.
abbrev pub IsLastNumber : {Op : Type 0} → ℕ → (ℕ → ℕ) → ℕ → List (Element Op) → ℕ → Type 0
IsLastNumber hives numbers below [] n = (i : ℕ) × (i < hives) × (numbers i ≡ n)
IsLastNumber hives numbers below (e ∷ es) n = n ≡ below + length (e ∷ es)

-- The number n and the trees are recovered. n is the last number and within the limit, and no hive has a greater one.
-- Each tree is the stored one with the operations on its hive of the elements numbered above the hive's own number
-- replayed in order, each legal. Each tree is allowed after n. Since no number is above n, the number of some hive is
-- the greatest of all if the journal decodes to no element.
pub record Recovers {T Op : Type 0} (rules : Rules T Op) (most hives : ℕ) (journal : Content Op)
    (held : ℕ → T × ℕ) (n : ℕ) (trees : ℕ → T) : Type 0 where
  pub last : IsLastNumber hives (λ i. (held i).1) journal.below journal.elements n
  pub limit : n ≤ most
  pub not_above : (i : ℕ) → i < hives → (held i).1 ≤ n
  pub tree : (i : ℕ) → i < hives → replay rules (ops_on i (above (held i).1 journal)) (held i).0 ≡ Some (trees i)
  pub allowed : (i : ℕ) → i < hives → IsTrue (rules.allows i n (trees i))
