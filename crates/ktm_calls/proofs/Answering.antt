-- What a step of the machine says of the list after it.
use Rattle.std.proofs.Common.{◌≡◌, ◌<◌, ◌≤◌, ◌+◌, ◌-◌, ◌==◌, ℕ, Bool, true, false, cond, List, [], ◌∷◌, ◌++◌, length, slice_get, Some, Result, Ok, Err, refl, ap, sym, ◌∙◌, subst, arith, ◌⊎◌, inl, inr}
use Rattle.std.specs.Prelude.{nat_le}
use Rattle.std.proofs.lemmas.Bool.{true≢false}
use Rattle.std.proofs.lemmas.Bool.Decides.{nat_tests}
use mathlib.Core.List.{IsPrefix}
use Rattle.refusals.specs.declared.refusal.Refusal.{Refusal}
use Rattle.refusals.specs.declared.refusal.Refusal.TheVariants.{NoMemory, NotFound, NoSuchHandle, JournalFull, HistoryFull, Faulted}
use Rattle.reg_tree.specs.Maps.{TreeMap}
use Rattle.reg_tree.specs.Operations.{hive_of}
use Rattle.reg_tree.specs.Judgement.{legal}
use Rattle.reg_tree.specs.Sequences.{after_elements}
use Rattle.reg_tree.specs.declared.element.Element.{Element}
use Rattle.reg_tree.specs.declared.op.Op.{Op}
use Rattle.reg_tree.specs.declared.op.Legality.{Legality}
use Rattle.reg_tree.specs.declared.op.Legality.TheVariants.{Legal, Opened}
use Rattle.store_model.specs.Transactions.{Transaction}
use Rattle.store_model.specs.Machine.{Machine, change, commit_change, next_commit, first_of, last_number, refused_if, refusal_by, room_of, trees_now, write_refusal}
use Rattle.store_model.specs.declared.handle.Tx.{Tx}
use Rattle.store_model.specs.declared.event.Event.TheVariants as event
use Rattle.store_model.specs.declared.event.Reply.{Reply}
use Rattle.store_model.specs.declared.event.Reply.TheVariants as reply
use Rattle.store_model.proofs.Replies.{accepted_or, awaits_or}
use Rattle.published_trees.proofs.Prefixes.{prefix_length, prefix_get}
use Rattle.ktm_calls.specs.Moments.{IsAnswered}
use Rattle.ktm_calls.specs.Answers.{IsAt, WriteStands, IsIllegal, CommitStands, FlushesAll, HasMoment, is_of_operation}

get_last : (xs : List Element) (y : Element) → slice_get (xs ++ y ∷ []) (length xs) ≡ Some y
get_last [] y = refl
get_last (x ∷ xs) y = get_last xs y

-- the change that was accepted is after all that were there
stands : (old : Machine) (e : Element) (before number : ℕ) (list : List Element) → number ≡ last_number old + 1 → old.before ≡ before → old.accepted ++ e ∷ [] ≡ list → IsAt before list number e
stands old e before number list n b l =
    let at : number - before - 1 ≡ length old.accepted = omega arith in
    (omega arith, rw (at, sym l) (get_last old.accepted e))

-- another refusal is not about the operation
other : (w why : Refusal) → is_of_operation w ≡ false → Some w ≡ Some why → is_of_operation why ≡ true → ⊥
other w why f e q =
    let same : w ≡ why = cc e in
    true≢false (sym q ∙ (sym (ap is_of_operation same) ∙ f))

-- which refusals of a write are about its operation
illegal : (f o n a b : Bool) (l : Result Legality Refusal) (why : Refusal)
    → first_of (refused_if f Faulted) (first_of (first_of (refused_if o NoSuchHandle) (refused_if n NotFound)) (refusal_by l (first_of (refused_if a HistoryFull) (refused_if b JournalFull)))) ≡ Some why
    → is_of_operation why ≡ true → (l ≡ Err why) ⊎ ((why ≡ NotFound) × (n ≡ true))
illegal true o n a b l why e q = absurd (other Faulted why refl e q)
illegal false true n a b l why e q = absurd (other NoSuchHandle why refl e q)
illegal false false true a b l why e q = inr (sym (cc e), refl)
illegal false false false a b (Err r) why e q = inl (cc e)
illegal false false false a b (Ok Opened) why e q = absurd (cc e)
illegal false false false true b (Ok Legal) why e q = absurd (other HistoryFull why refl e q)
illegal false false false false true (Ok Legal) why e q = absurd (other JournalFull why refl e q)
illegal false false false false false (Ok Legal) why e q = absurd (cc e)

at_least : (hives hive : ℕ) → nat_le hives hive ≡ true → hives ≤ hive
at_least hives hive e = grind (arith, nat_tests)

-- a refused write names an operation that is illegal on the trees of now
refused : (old : Machine) (hives session moment : ℕ) (op : Op) (why : Refusal) → old.bounds.hives ≡ hives
    → ((write_refusal old session moment op ≡ Some why) ⊎ (why ≡ NoMemory)) → is_of_operation why ≡ true → IsIllegal hives (trees_now old) op why
refused old named s m op why hives (inl e) q =
    elim (illegal old.faulted _ _ _ _ (legal (trees_now old) op) why e q) [ inl l ↦ inl l | inr r ↦ inr (r.0, rw (sym hives) (at_least old.bounds.hives (hive_of op) r.1)) ]
refused old named s m op why hives (inr e) q = absurd (true≢false (sym q ∙ ap is_of_operation e))

pub write_stands : (trees : List TreeMap) (number hives : ℕ) (was is : List Element) (session moment : ℕ) (op : Op) (r : Reply)
    → IsAnswered trees number hives was is (event.Write session moment op) r → WriteStands trees number hives is moment op r
write_stands trees number hives was is s m op r h =
    accepted_or (λ r. WriteStands trees number hives is m op r) _ _ _ r h.step
    (λ levels n d. stands h.old (change m op) number n is d.numbered (sym (ap (λ (x : Machine). x.before) d.next) ∙ h.owner.before) (sym (ap (λ (x : Machine). x.accepted) d.next) ∙ h.list))
    (λ d. let ho : h.old.opened ≡ trees = sym (ap (λ (x : Machine). x.opened) d.next) ∙ h.owner.opened in
    let hl : h.old.accepted ≡ is = sym (ap (λ (x : Machine). x.accepted) d.next) ∙ h.list in
    rw (sym ho, sym hl) d.is_there)
    (λ why d of_op. let ho : h.old.opened ≡ trees = sym (ap (λ (x : Machine). x.opened) d.1) ∙ h.owner.opened in
    let hl : h.old.accepted ≡ is = sym (ap (λ (x : Machine). x.accepted) d.1) ∙ h.list in
    let hh : h.old.bounds.hives ≡ hives = sym (ap (λ (x : Machine). x.bounds.hives) d.1) ∙ h.owner.hives in
    let found : IsIllegal hives (trees_now h.old) op why = refused h.old hives s m op why hh d.0 of_op in
    subst (λ (t : List TreeMap). IsIllegal hives t op why) (ap (λ (t : List TreeMap). after_elements t h.old.accepted) ho ∙ ap (λ (l : List Element). after_elements trees l) hl) found)

-- a commit without operations has number 0; another is after all that were there
commit_at : (t : Bool) (old new : Machine) (moment : ℕ) (one : Transaction) (before n : ℕ) (list : List Element) → n ≡ cond t 0 (last_number old + 1)
    → new ≡ record (cond t old (record old { accepted = old.accepted ++ commit_change old moment one ∷ []; commits = old.commits ++ next_commit old one ∷ []; room = old.room + room_of (commit_change old moment one) })) { tx_slots = new.tx_slots }
    → new.before ≡ before → new.accepted ≡ list → 0 < n → HasMoment before list n moment
commit_at true old new m one before n list num next b l some = absurd (omega arith)
commit_at false old new m one before n list num next b l some =
    (commit_change old m one, stands old (commit_change old m one) before n list num (sym (ap (λ (x : Machine). x.before) next) ∙ b) (sym (ap (λ (x : Machine). x.accepted) next) ∙ l), refl)

pub commit_stands : (trees : List TreeMap) (number hives : ℕ) (was is : List Element) (session : ℕ) (tx : Tx) (moment : ℕ) (r : Reply)
    → IsAnswered trees number hives was is (event.CommitAccept session tx moment) r → CommitStands number is moment r
commit_stands trees number hives was is s tx m r h =
    awaits_or (λ r. CommitStands number is m r) _ _ r h.step
    (λ n d. commit_at (length d.one.ops == 0) h.old h.new m d.one number n is d.numbered d.next h.owner.before h.list)
    (λ why d. tt)

-- what is in a list is in each that it begins
pub commit_stays : (before : ℕ) (xs ys : List Element) (moment : ℕ) (r : Reply) → IsPrefix xs ys → CommitStands before xs moment r → CommitStands before ys moment r
commit_stays before xs ys moment (reply.Awaits number) p h = λ some. let k = h some in (k.0, (k.1.0, prefix_get xs ys (number - before - 1) k.0 p k.1.1), k.2)
commit_stays before xs ys moment (reply.Refused why) p h = tt
commit_stays before xs ys moment _ p h = absurd h

pub flushes_all : (trees : List TreeMap) (number hives : ℕ) (was is : List Element) (r : Reply) → IsAnswered trees number hives was is event.FlushAsk r → FlushesAll (number + length was) r
flushes_all trees number hives was is r h =
    awaits_or (λ r. FlushesAll (number + length was) r) _ _ r h.step
    (λ n d. let less : length was ≤ length h.old.accepted = prefix_length was h.old.accepted h.seen in
    let before : h.old.before ≡ number = sym (ap (λ (x : Machine). x.before) d.2) ∙ h.owner.before in
    omega (arith, d.1))
    (λ why d. tt)
