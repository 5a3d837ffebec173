-- An engine's parts stay sound if the history may be longer or shorter.
use Rattle.std.proofs.Common.{◌≡◌, ℕ, ◌≤◌, ◌∙◌, List, length, map, sym, ap, subst, arith}
use Rattle.reg_tree.specs.declared.element.Element.{Element}
use Rattle.crash_model.specs.Promises.{Choice, Content}
use Rattle.change_codec.specs.ModelChanges.{TimedOp}
use Rattle.store_model.specs.Machine.{Machine, with_history}
use Rattle.store_model.specs.Invariant.{InvariantHolds}
use Rattle.transactions.specs.Stores.{StoreView}
use Rattle.commit_journal.specs.Journals.{choice_of}
use Rattle.engine_invariant.specs.States.{HiveView, IsConsistent}
use Rattle.engine_invariant.specs.Prefixes.{view_of}
use Rattle.recovery.specs.Retained.{numbered_changes}
use Rattle.engine.specs.EarlierChanges.{changes_before}
use Rattle.engine.specs.LastChangePerHive.{AreLastNaming}
use Rattle.engine.specs.Parts.{IsSound}
use Rattle.engine.specs.declared.parts.Parts.{Parts}
use Rattle.engine.proofs.RetainedChanges.{hand_steps}

machine_fits : (limit : ℕ) (m : Machine) → length m.accepted ≤ limit → InvariantHolds m → InvariantHolds (with_history limit m)
machine_fits limit m few k = record {
  trees = k.trees;
  known = k.known;
  carried = k.carried;
  apart = k.apart;
  named = k.named;
  within = record {
    opened = k.within.opened;
    known = k.within.known;
    numbers = k.within.numbers;
    changes = few;
    sessions = k.within.sessions;
    held = k.within.held;
    room = k.within.room;
  };
  history = k.history;
  outcomes = λ has.
      let kept = k.outcomes has in record {
        before = kept.before;
        opened = kept.opened;
        up_to = kept.up_to;
        now = kept.now;
        numbers = kept.numbers;
        since = kept.since;
        each = kept.each;
      };
}

consistent_fits : (limit : ℕ) (m : Machine) (base : ℕ) (opened : List Element) (journal : Choice (Content TimedOp)) (hives : List HiveView) → length m.accepted ≤ limit → IsConsistent m base opened journal hives → IsConsistent (with_history limit m) base opened journal hives
consistent_fits limit m base opened journal hives few i = record {
  kept = machine_fits limit m few i.kept;
  fits = i.fits;
  law = i.law;
  begun = i.begun;
  all = i.all;
  one_more = i.one_more;
  own = i.own;
  onward = i.onward;
  room = i.room;
}

pub limit_fits : {D : Type 0} (s : Parts D) (t : StoreView) (limit : ℕ) → length s.store.machine.accepted ≤ limit → t.machine ≡ with_history limit s.store.machine → t.retained ≡ s.store.retained → IsSound s → IsSound (record s { store = t })
limit_fits s t limit few is hand sound =
    let opened = changes_before s.earlier in
    let holds = sound.holds in
    record {
      holds = record {
        kept = subst (λ (m : Machine). IsConsistent m s.base opened (choice_of s.journal) (map view_of s.hives.items)) (sym is) (consistent_fits limit s.store.machine s.base opened (choice_of s.journal) (map view_of s.hives.items) few holds.kept);
        placed = holds.placed;
        some = holds.some;
        many = holds.many;
        named = ap (λ (m : Machine). m.bounds.hives) is ∙ holds.named;
        whole = holds.whole;
        journal_works = λ works. holds.journal_works (sym (ap (λ (m : Machine). m.faulted) is) ∙ works);
        hives_work = λ works. holds.hives_work (sym (ap (λ (m : Machine). m.faulted) is) ∙ works);
      };
      last_changes = subst (λ (m : Machine). AreLastNaming m s.base opened s.last_changes.last.items) (sym is) sound.last_changes;
      named = sound.named;
      retained = hand_steps s.store t s.base opened (numbered_changes s.opened) s.hives.items (ap (λ (m : Machine). m.before) is) (ap (λ (m : Machine). m.accepted) is) (omega (arith, ap (λ (m : Machine). m.durable) is)) hand sound.retained;
    }
