use Rattle.std.proofs.Common.{inl, inr, refl}
use Rattle.commit_journal.specs.Journals.{changes_of, choice_of, store_of}
use Rattle.commit_journal.specs.Numbered.{numbered}
use Rattle.store_hive.proofs.journal_scan.scan_store.Goals as goal

-- the journal is of no other store than the one that its header named before
pub returns-then-not-is_of-clause-fails : goal.returns-then-not-is_of-clause-fails
returns-then-not-is_of-clause-fails g c =
    let j = c.in-Ok.journal in
    let e = c.in-Ok.ensures in
    let never : g.D.Disk.faithful c.scan.new.disk → ⊥
    = λ f. c.is_of.ensures.other c.if-not-is_of.true (c.requires.only (c.scan.ensures.faithful f) (store_of j) (choice_of j).now e.store (e.decodes f)) in
    record {
      taken = numbered (choice_of j).now.below (changes_of j);
      took = e.took;
      begins = λ f. absurd (never f);
      reason = inl (inr (inr (refl, λ f. absurd (never f))));
    }
