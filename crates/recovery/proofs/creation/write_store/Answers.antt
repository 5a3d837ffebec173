use Rattle.std.proofs.Common.{◌≡◌, ◌∙◌, ◌≤◌, ℕ, List, length, sym, ap, subst, arith}
use Rattle.disk_model.specs.FileState.{FileState, at_rest}
use Rattle.disk_model.specs.Sector.{IsHonest}
use Rattle.disk_model.specs.StoreFiles.{log_file, primary_file}
use Rattle.commit_journal.specs.Store.{IsStore, Store, created_bytes, encodings}
use Rattle.commit_journal.specs.declared.store_layout.Layout.{Layout}
use Rattle.engine_invariant.proofs.HiveLists.{at_slot}
use Rattle.recovery.specs.Created.{new_store}
use Rattle.recovery.specs.Recovered.{seen_in}
use Rattle.recovery.proofs.Creations.{durable_honest, recovers_durable, stays_off, written_stay}
use Rattle.recovery.proofs.creation.write_store.Goals as goal

store_is : (id own : List ℕ) (layout its : Layout) (named hives : ℕ) → own ≡ id → its ≡ layout → hives ≡ named → new_store own its hives ≡ new_store id layout named
store_is id own layout its named hives same kind is = λ i. record { id = same i; hives = is i; layout = kind i }

is_store : (id own : List ℕ) (layout : Layout) (named : ℕ) → own ≡ id → length own ≡ 16 → 1 ≤ named → named ≤ 16 → IsStore (new_store id layout named)
is_store id own layout named same size some few = record {
  id_is_whole = ap (λ (l : List ℕ). length l) (sym same) ∙ size;
  some_hives = some;
  few_hives = few;
}

pub returns-clause-made : goal.returns-clause-made
returns-clause-made g c = λ f.
    let D = g.D.Disk in
    let j = c.in_ok-journal in
    let store = c.in_ok-write.ensures.store ∙ store_is c.args.id j.journal.id c.args.layout j.journal.layout c.args.named j.journal.hives j.ensures.id j.ensures.layout j.ensures.hives in (
      c.in_ok-write.ensures.file f ∙ ap (λ (s : Store). at_rest (created_bytes s)) store,
      written_stay c.args.images.now (D.state_at c.write_hives.new.disk (D.clock c.write_hives.new.disk)) (D.state_at c.write.new.disk (D.clock c.write.new.disk))
          c.write.ensures.others (c.in_ok-write_hives.ensures.made (c.write.ensures.faithful f)),
    )

pub returns-clause-recovers : goal.returns-clause-recovers
returns-clause-recovers g c = λ f number trees limit same outcomes durable.
    let D = g.D.Disk in
    let new = D.state_at c.write.new.disk (D.clock c.write.new.disk) in
    let j = c.in_ok-journal in
    let store = c.in_ok-write.ensures.store ∙ store_is c.args.id j.journal.id c.args.layout j.journal.layout c.args.named j.journal.hives j.ensures.id j.ensures.layout j.ensures.hives in
    let whole = is_store c.args.id j.journal.id c.args.layout c.args.named j.ensures.id j.journal.size c.requires.some c.requires.few in
    let each = recovers_durable (λ v s state on. c.leaves.ensures (encodings s) v state on) c.in_ok-write.field-0 (new_store c.args.id c.args.layout c.args.named) number trees limit store c.in_ok-write.ensures.empty whole (same ∙ c.requires.many) outcomes new (c.in_ok-write.ensures.on f) durable in
    record {
      left = λ files left. each files left.0;
      seen = each (seen_in new) (λ k. (g.met.D.Disk.sound c.write.new.disk (D.clock c.write.new.disk) k f (omega arith)).left);
    }

pub returns-clause-shows : goal.returns-clause-shows
returns-clause-shows g c = λ f number trees durable.
    let D = g.D.Disk in
    let new : ℕ → FileState = D.state_at c.write.new.disk (D.clock c.write.new.disk) in (
      λ k. (g.met.D.Disk.sound c.write.new.disk (D.clock c.write.new.disk) k f (omega arith)).left,
      λ k (i, lt, is). let at = at_slot trees i lt in subst (λ n. IsHonest (new n) (new n).seen) (sym is) (durable_honest c.args.id number at.0 (new (primary_file i)) (new (log_file i)) (durable i at.0 at.1)),
    )

pub returns-clause-stays : goal.returns-clause-stays
returns-clause-stays g c =
    let D = g.D.Disk in
    stays_off (length c.args.images.now) (D.state_at c.args.disk.now) (D.state_at c.write_hives.new.disk) (D.state_at c.write.new.disk) (D.clock c.args.disk.now) (D.clock c.write_hives.new.disk) (D.clock c.write.new.disk)
    c.write_hives.ensures.stays c.write.ensures.time c.write.ensures.others
