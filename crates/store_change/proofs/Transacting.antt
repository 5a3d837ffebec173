-- A transaction of session 0, step by step.
use Rattle.std.proofs.Common.{◌≡◌, ℕ, ◌+◌, ◌≤◌, ◌==◌, ◌&&◌, Bool, true, false, cond, List, [], ◌∷◌, ◌++◌, length, Option, Some, None, Ok, refl, sym, ◌∙◌, ap, arith, length-append}
use Rattle.std.proofs.lemmas.Bool.Decides.{nat_tests}
use Rattle.std.specs.List.{list_any}
use Rattle.std.specs.Prelude.{nat_lt}
use Rattle.reg_tree.specs.Judgement.{applied, applied_one, legal}
use Rattle.store_model.specs.Invariant.{AreLegalChanges}
use Rattle.reg_tree.specs.Maps.{TreeMap}
use Rattle.reg_tree.specs.Sequences.{after_elements}
use Rattle.reg_tree.specs.declared.element.Element.{Element}
use Rattle.reg_tree.specs.declared.op.Op.{Op}
use Rattle.reg_tree.specs.declared.op.Legality.TheVariants.{Legal, Opened}
use Rattle.store_model.specs.Transactions.{Transaction, TxSlots, at, fresh_transaction, inactive_refusal, own, own_if, view, with_op}
use Rattle.commit_outcomes.specs.Commits.{Commit}
use Rattle.commit_outcomes.specs.Operations.{outcome_ops}
use Rattle.commit_outcomes.specs.Units.{unit_name}
use Rattle.store_model.specs.Machine.{Machine, commit_change, commit_ops, found_in, is_open, last_number, next_commit, outcome_bytes, outcome_tree, trees_now}
use Rattle.store_model.specs.Acts.{AddsOp, OpensKey}
use Rattle.store_model.specs.Steps.{Begins, ChangesSlots, CommitsTx}
use Rattle.store_model.specs.declared.handle.Tx.{Tx}
use Rattle.store_change.specs.Commits.{AcceptsOps, InTransaction, KeepsAccepted, change_of, number_of}

-- a number equals itself
same_number : (n : ℕ) → (n == n) ≡ true
same_number n = grind (arith, nat_tests)

-- nothing was accepted
pub keeps_same : (old new : Machine) → new ≡ old → KeepsAccepted old new
keeps_same old new same = record { opened = ap (λ (m : Machine). m.opened) same; before = ap (λ (m : Machine). m.before) same; accepted = ap (λ (m : Machine). m.accepted) same; bounds = ap (λ (m : Machine). m.bounds) same }

pub keeps_on : (old mid new : Machine) → KeepsAccepted old mid → KeepsAccepted mid new → KeepsAccepted old new
keeps_on old mid new first later = record { opened = later.opened ∙ first.opened; before = later.before ∙ first.before; accepted = later.accepted ∙ first.accepted; bounds = later.bounds ∙ first.bounds }

keeps_slots : (old new : Machine) (tx_slots : TxSlots) → new ≡ record old { tx_slots = tx_slots } → KeepsAccepted old new
keeps_slots old new tx_slots next = record { opened = ap (λ (m : Machine). m.opened) next; before = ap (λ (m : Machine). m.before) next; accepted = ap (λ (m : Machine). m.accepted) next; bounds = ap (λ (m : Machine). m.bounds) next }

now_kept : (old new : Machine) → KeepsAccepted old new → trees_now new ≡ trees_now old
now_kept old new keeps = λ i. after_elements (keeps.opened i) (keeps.accepted i)

-- a transaction that is found in an open session is in its slot, under its session and its number
found_open : (opened : Bool) (o : Option Transaction) (one : Transaction) → cond opened o None ≡ Some one → (opened ≡ true) × (o ≡ Some one)
found_open true o one h = (refl, h)
found_open false o one h = absurd (let no : ⊥ = cc in no)

abbrev own_test : ℕ → Option Transaction → Bool
own_test generation None = false
own_test generation (Some it) = it.session == 0 && it.generation == generation

owned : (generation : ℕ) (o : Option Transaction) (one : Transaction) → own_if 0 generation o ≡ Some one → (one.session == 0 && one.generation == generation) ≡ true
owned generation None one h = absurd (let no : ⊥ = cc in no)
owned generation (Some other) one h = by_case (other.session == 0 && other.generation == generation) refl
  where
    by_case : (b : Bool) → (other.session == 0 && other.generation == generation) ≡ b → (one.session == 0 && one.generation == generation) ≡ true
    by_case false e = absurd (let no : ⊥ = let told : None ≡ Some one = ap (λ b. cond b (Some other) None) (sym e) ∙ h in cc in no)
    by_case true e = let same : Some other ≡ Some one = ap (λ b. cond b (Some other) None) (sym e) ∙ h in ap (own_test generation) (sym same) ∙ e

-- a transaction is found again, if it is put into its slot under the session and the number that it had
found_again : (old new : Machine) (tx : Tx) (one two : Transaction) → found_in old 0 tx ≡ Some one → new.sessions ≡ old.sessions → two.session ≡ one.session → two.generation ≡ one.generation → at new.tx_slots tx.slot ≡ Some two → found_in new 0 tx ≡ Some two
found_again old new tx one two found sessions session generation there =
    let parts = found_open (is_open old 0) (own old.tx_slots 0 tx) one found in
    let mine : (two.session == 0 && two.generation == tx.generation) ≡ true = (λ i. session i == 0 && generation i == tx.generation) ∙ owned tx.generation (at old.tx_slots tx.slot) one parts.1 in
    (λ i. cond (list_any (λ s. s == 0) (sessions i)) (own_if 0 tx.generation (there i)) None) ∙ ap (λ b. cond b (own_if 0 tx.generation (Some two)) None) parts.0 ∙ ap (λ b. cond b (Some two) None) mine

pub begun : (old new : Machine) (id : List ℕ) (tx : Tx) (moment : ℕ) → is_open old 0 ≡ true → Begins old 0 id tx new → InTransaction old id tx moment [] new
begun old new id tx moment session begins =
    let one : Transaction = fresh_transaction 0 id tx.generation in
    let keeps : KeepsAccepted old new = record { opened = ap (λ (m : Machine). m.opened) begins.next; before = ap (λ (m : Machine). m.before) begins.next; accepted = ap (λ (m : Machine). m.accepted) begins.next; bounds = ap (λ (m : Machine). m.bounds) begins.next } in
    record {
      keeps = keeps;
      one = one;
      found =
          (λ i. cond (list_any (λ s. s == 0) ((begins.next i).sessions)) (own_if 0 tx.generation (begins.starts.put.there i)) None)
          ∙ ap (λ b. cond b (own_if 0 tx.generation (Some one)) None) session ∙ ap (λ b. cond b (Some one) None) (same_number tx.generation);
      unit = refl;
      active = refl;
      same_ops = refl;
      seen = now_kept old new keeps;
    }

some_same : (a b : Transaction) → Some a ≡ Some b → a ≡ b
some_same a b h = cc

pub in_added : (first old new : Machine) (id : List ℕ) (tx : Tx) (moment : ℕ) (ops : List Op) (op : Op) (levels : Option ℕ) → InTransaction first id tx moment ops old
    → ChangesSlots old (AddsOp (outcome_bytes old) (trees_now old) old.tx_slots (found_in old 0 tx) tx.slot moment op levels new.tx_slots) new → InTransaction first id tx moment (ops ++ op ∷ []) new
in_added first old new id tx moment ops op levels has changes =
    let adds = changes.0 in
    let keeps : KeepsAccepted old new = keeps_slots old new new.tx_slots changes.1 in
    let same : adds.one ≡ has.one = some_same adds.one has.one (sym adds.found ∙ has.found) in
    let all : adds.one.ops ++ op ∷ [] ≡ ops ++ op ∷ [] = ap (λ (one : Transaction). one.ops ++ op ∷ []) same ∙ ap (λ (os : List Op). os ++ op ∷ []) has.same_ops in
    record {
      keeps = keeps_on first old new has.keeps keeps;
      one = with_op adds.one op moment;
      found = found_again old new tx adds.one (with_op adds.one op moment) adds.found (ap (λ (m : Machine). m.sessions) changes.1) refl refl adds.put.there;
      unit = ap (λ (one : Transaction). one.id) same ∙ has.unit;
      active = ap inactive_refusal (ap Some same) ∙ has.active;
      same_ops = all;
      seen = λ i. applied (now_kept first new (keeps_on first old new has.keeps keeps) i) (all i) moment;
    }

pub not_opened : (first old : Machine) (id : List ℕ) (tx : Tx) (moment : ℕ) (ops : List Op) (op : Op) → InTransaction first id tx moment ops old → legal (applied (trees_now first) ops moment) op ≡ Ok Legal
    → OpensKey (outcome_bytes old) (trees_now old) old.tx_slots (found_in old 0 tx) tx.slot op → ⊥
not_opened first old id tx moment ops op has is_legal opens =
    let same : Some opens.one ≡ Some has.one = sym opens.found ∙ has.found in
    let told : Ok Opened ≡ Ok Legal = sym opens.is_there ∙ ap (λ o. legal (seen_by o) op) same ∙ ap (λ trees. legal trees op) has.seen ∙ is_legal in
    cc
  where
    seen_by : Option Transaction → List TreeMap
    seen_by None = trees_now old
    seen_by (Some one) = view (trees_now old) one

-- the last number is that of the changes before
last_kept : (old new : Machine) → KeepsAccepted old new → last_number new ≡ last_number old
last_kept old new keeps = λ i. keeps.before i + length (keeps.accepted i)

-- what a commit does to the tree of outcomes is by the accepted changes, the bounds and the unit of work
same_ops : (first old : Machine) (one : Transaction) (id : List ℕ) → KeepsAccepted first old → old.bounds ≡ first.bounds → one.id ≡ id → commit_ops old one ≡ commit_ops first (fresh_transaction 0 id 0)
same_ops first old one id keeps bounds unit = λ i.
    cond (nat_lt ((bounds i).hives) (length (keeps.opened i)))
    (outcome_ops ((bounds i).hives) (outcome_tree (bounds i) (after_elements (keeps.opened i) (keeps.accepted i))) (keeps.before i + length (keeps.accepted i) + 1, unit_name (unit i)))
    []

accepts_by : (b : Bool) (old : Machine) (more : Element) (commits : List Commit) (room : ℕ) (tx_slots : TxSlots) (new : Machine)
    → new ≡ record (cond b old (record old { accepted = old.accepted ++ more ∷ []; commits = commits; room = room })) { tx_slots = tx_slots }
    → (new.opened ≡ old.opened) × (new.before ≡ old.before) × (new.accepted ≡ cond b old.accepted (old.accepted ++ more ∷ [])) × (new.bounds ≡ old.bounds)
accepts_by true old more commits room tx_slots new next = (ap (λ (m : Machine). m.opened) next, ap (λ (m : Machine). m.before) next, ap (λ (m : Machine). m.accepted) next, ap (λ (m : Machine). m.bounds) next)
accepts_by false old more commits room tx_slots new next = (ap (λ (m : Machine). m.opened) next, ap (λ (m : Machine). m.before) next, ap (λ (m : Machine). m.accepted) next, ap (λ (m : Machine). m.bounds) next)

pub accepted : (first old new : Machine) (id : List ℕ) (tx : Tx) (moment number : ℕ) (ops : List Op) → InTransaction first id tx moment ops old → CommitsTx old 0 tx moment number new → AcceptsOps first id moment ops new × (number ≡ number_of first ops)
accepted first old new id tx moment number ops has commits =
    let one : commits.one ≡ has.one = some_same commits.one has.one (sym commits.found ∙ has.found) in
    let same : commits.one.ops ≡ ops = ap (λ (it : Transaction). it.ops) one ∙ has.same_ops in
    let unit : commits.one.id ≡ id = ap (λ (it : Transaction). it.id) one ∙ has.unit in
    let more : commit_change old moment commits.one ≡ change_of first id moment ops = λ i. record { moment = moment; ops = same i ++ same_ops first old commits.one id has.keeps has.keeps.bounds unit i } in
    let made = accepts_by (length commits.one.ops == 0) old (commit_change old moment commits.one) (old.commits ++ next_commit old commits.one ∷ []) _ new.tx_slots new commits.next in (
      record {
        opened = made.0 ∙ has.keeps.opened;
        before = made.1 ∙ has.keeps.before;
        accepted = made.2 ∙ (λ i. cond (length (same i) == 0) (has.keeps.accepted i) (has.keeps.accepted i ++ more i ∷ []));
        bounds = made.3 ∙ has.keeps.bounds;
      },
      commits.numbered ∙ (λ i. cond (length (same i) == 0) 0 (last_kept first old has.keeps i + 1)),
    )

-- the number that a commit answers isn't above the last one
pub within : (old new : Machine) (tx : Tx) (moment number : ℕ) → CommitsTx old 0 tx moment number new → number ≤ last_number new
within old new tx moment number commits =
    by_case (length commits.one.ops == 0) (accepts_by (length commits.one.ops == 0) old (commit_change old moment commits.one) (old.commits ++ next_commit old commits.one ∷ []) _ new.tx_slots new commits.next) commits.numbered
  where
    by_case : (b : Bool) → (new.opened ≡ old.opened) × (new.before ≡ old.before) × (new.accepted ≡ cond b old.accepted (old.accepted ++ commit_change old moment commits.one ∷ [])) × (new.bounds ≡ old.bounds) → number ≡ cond b 0 (last_number old + 1) → number ≤ last_number new
    by_case true made numbered = omega (arith, numbered)
    by_case false made numbered =
        let long : length new.accepted ≡ length old.accepted + 1 = ap length made.2 ∙ length-append old.accepted (commit_change old moment commits.one ∷ []) in
        omega (arith, numbered, made.1, long)

-- an operation of a legal list is legal on the trees after those before it
pub legal_at : (trees : List TreeMap) (moment : ℕ) (front : List Op) (op : Op) (rest : List Op) → AreLegalChanges trees (front ++ op ∷ rest) moment → legal (applied trees front moment) op ≡ Ok Legal
legal_at trees moment [] op rest are_legal = are_legal.0
legal_at trees moment (first ∷ front) op rest are_legal = legal_at (applied_one trees first moment) moment front op rest are_legal.1

pub parted : {X : Type 0} (all front rest : List X) (x : X) (others : List X) → all ≡ front ++ rest → rest ≡ x ∷ others → all ≡ front ++ x ∷ others
parted all front rest x others whole first = whole ∙ ap (λ xs. front ++ xs) first

-- a list of no elements
pub none_left : {X : Type 0} (xs : List X) → length xs ≡ 0 → xs ≡ []
none_left [] none = refl
none_left (x ∷ xs) none = absurd (omega (arith, none))
