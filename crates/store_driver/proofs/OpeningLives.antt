-- What an opening of the store that is on a disk leaves, and a life of it.
use Rattle.std.proofs.Common.{◌≡◌, ℕ, zero, suc, ◌-◌, take, List, [], ◌∷◌, refl, sym, subst, arith, Bool, true, false, length}
use Rattle.store_driver.proofs.Later.{advances}
use Rattle.refusals.specs.declared.limits.TheConstants.{MOST_HISTORY}
use Rattle.store_model.specs.Machine.{Machine, bounds_for, opened_machine, with_history}
use Rattle.store_model.specs.declared.event.Event.TheVariants as event
use Rattle.store_model.specs.declared.event.Reply.TheVariants as reply
use Rattle.reg_tree.specs.Maps.{TreeMap}
use Rattle.reg_tree.specs.Sequences.{after_elements}
use Rattle.reg_tree.specs.declared.element.Element.{Element}
use Rattle.disk_model.specs.FileState.{FileState}
use Rattle.disk_model.specs.Crash.{LeavesHonest}
use Rattle.disk_model.specs.ReadOnly.{IsSyncedOrSame}
use Rattle.commit_journal.specs.Store.{Store, all_hives}
use Rattle.commit_journal.specs.declared.store_layout.Layout.TheVariants.{HivesAlone}
use Rattle.engine_invariant.specs.Prefixes.{IsPrimaryOf, Recover, trees_after}
use Rattle.engine.specs.Lives.{ReachedFromOpening, Life.Opened, Life.NeverOpened, ReadsSafely}
use Rattle.recovery.specs.Recovered.{IsRecovered, seen_in}
use Rattle.store_driver.specs.Later.{ReachedByEvents}
use Rattle.store_driver.specs.Openings.{BeginsAt, LifeReaches, HasLived, IsOpenedOn, LeavesLife, session_0}

-- Lives

-- a machine that begins was reached from the one that was opened
pub opened_came : (store : Store) (number room : ℕ) (trees : List TreeMap) (machine : Machine) → BeginsAt store.hives number trees room [] machine → ReachedFromOpening store number trees machine
opened_came store number room trees machine begins = record { room = room; limit = MOST_HISTORY; broken = false; events = []; replies = []; run = begins }

pub begun_came : (store : Store) (number room : ℕ) (trees : List TreeMap) (machine : Machine) → BeginsAt store.hives number trees room session_0 machine → ReachedFromOpening store number trees machine
begun_came store number room trees machine begins = record { room = room; limit = MOST_HISTORY; broken = false; events = event.StartSession 0 ∷ []; replies = reply.Done ∷ []; run = (machine, (refl, begins), refl) }

pub came_on : (store : Store) (number : ℕ) (trees : List TreeMap) (old new : Machine) → ReachedFromOpening store number trees old → ReachedByEvents old new → ReachedFromOpening store number trees new
came_on store number trees old new came later =
    let all = advances (with_history came.limit (record (opened_machine (bounds_for store.hives) trees number [] 0) { room = came.room; faulted = came.broken })) old new (came.events, came.replies, came.run) later in
    record { room = came.room; limit = came.limit; broken = came.broken; events = all.0; replies = all.1; run = all.2 }

-- what an opening that was refused leaves
pub left_unopened : (failed faithful : Type 0) (state end : ℕ → FileState) → (faithful → (f : ℕ) → IsSyncedOrSame (state f) (end f)) → LeavesLife failed faithful state end
left_unopened failed faithful state end same f = (record { id = []; hives = 0; layout = HivesAlone }, NeverOpened end, same f, refl, λ e. absurd cc)

-- what is left of a store that was opened and has made events
pub left_opened : (failed since faithful first : Type 0) (state end : ℕ → FileState) (store : Store) (number : ℕ) (trees : List TreeMap) → (since → failed) → (faithful → first) → (first → IsRecovered (seen_in state) store number trees)
    → (faithful → HasLived since store number trees end) → LeavesLife failed faithful state end
left_opened failed since faithful first state end store number trees rose was recovered lived f =
    let l = lived f in
    (store, Opened number trees l.0 end, (recovered (was f), l.1, l.2.safe, l.2.reads), refl, λ e. rose (l.2.why e))

pub left_begun : (failed since faithful first : Type 0) (state end : ℕ → FileState) (store : Store) (number : ℕ) (sessions : List ℕ) (machine : Machine) → (since → failed) → (faithful → first) → (opened : IsOpenedOn first (seen_in state) store number sessions machine)
    → ReachedFromOpening store number opened.trees machine → (faithful → (last : Machine) × ReachedByEvents machine last × LifeReaches since store last end) → LeavesLife failed faithful state end
left_begun failed since faithful first state end store number sessions machine rose was opened come on =
    left_opened failed since faithful first state end store number opened.trees rose was opened.recovered
    (λ f. let l = on f in (l.0, came_on store number opened.trees machine l.0 come l.1, l.2))

-- a store whose files recover what was found has lived, as it was opened
pub found_lives : (failed : Type 0) (broken : Bool) (store : Store) (number : ℕ) (trees : List TreeMap) (end : ℕ → FileState) → length trees ≡ all_hives store → ((files : ℕ → List ℕ) → LeavesHonest (IsPrimaryOf (all_hives store)) end files → IsRecovered files store number trees)
    → (broken ≡ false → ReadsSafely (all_hives store) end) → (broken ≡ true → failed) → HasLived failed store number trees end
found_lives failed broken store number trees end many recovered reads why = (
  machine,
  record { room = 0; limit = MOST_HISTORY; broken = broken; events = []; replies = []; run = refl },
  record {
    safe = λ files left.
        let r = recovered files (subst (λ n. LeavesHonest (IsPrimaryOf n) end files) many left) in (
          number,
          omega arith,
          omega arith,
          subst (λ hives. Recover store hives files number (trees_after machine number)) (sym many) (subst (λ elements. Recover store (all_hives store) files number (after_elements trees elements)) (sym (take_none (number - number))) r.recovers),
        );
    reads = λ e. subst (λ n. ReadsSafely n end) (sym many) (reads e);
    why = why;
  },
)
  where
    machine : Machine
    machine = record (opened_machine (bounds_for store.hives) trees number [] 0) { room = 0; faulted = broken }

    take_none : (n : ℕ) → take {A = Element} n [] ≡ []
    take_none zero = refl
    take_none (suc n) = refl
