use Rattle.std.proofs.Common.{◌≡◌, ◌<◌, [], Err, inl, inr, refl, sym, subst}
use Rattle.std.proofs.lemmas.Result.{on_ok_weaker}
use Rattle.recovery.specs.FileCopies.{AreRefusedFor}
use Rattle.store_create.specs.Creations.{IsNotMade}
use Rattle.store_create.specs.Imports.{AreFrontsOf, AreHeldBy, HasTaken, IsImportedStore, IsOutcomeOfFiles, IsRefusedImport}
use Rattle.store_create.specs.Inside.{bytes_in, outcome_in}
use Rattle.store_create.proofs.Creations.{not_made_as, told_of}
use Rattle.store_create.proofs.Fronts.{bytes_of, enough_of, front_of, held_by, may_be, refused_import}
use Rattle.store_create.proofs.import.Import.make.Goals as goal

pub returns-in-Ok-clause-made : goal.returns-in-Ok-clause-made
returns-in-Ok-clause-made g c = λ files has.
    let D = g.D.Disk in
    let law = c.fronts_decide.ensures in
    let made = c.create_from-made in
    let fronts = bytes_in c.in-Ok.fronts.items in
    let inside : HasTaken files (record { count = c.self.inside.count; outcome = outcome_in c.self.inside.outcome }) = subst (HasTaken files) (sym c.self.view_is) has in
    let are : AreFrontsOf files fronts = subst (λ outcome. IsOutcomeOfFiles files (outcome_in outcome)) c.in-Ok.is inside.tells in
    told_of c.write_outcome.result made.result (g.W.Write.contents c.args.writer.now) (g.W.Write.contents c.write_outcome.new.writer)
    (λ any. AreHeldBy files any × (D.faithful made.new.disk → IsImportedStore c.args.id files any (D.state_at made.new.disk (D.clock made.new.disk))))
    (IsNotMade (D.failures c.args.disk.now < D.failures made.new.disk) (made.new.disk ≡ c.args.disk.now) (IsRefusedImport files))
    c.write_outcome.ensures.outcome
    (on_ok_weaker made.result (λ stored. (
      stored.0,
      (
        held_by files fronts are law.holds stored.0 stored.1,
        λ f. record {
          bytes = bytes_of files fronts;
          of_files = may_be files fronts;
          made = record {
            journal = (stored.2 f).0.journal;
            outcomes = (stored.2 f).0.outcomes;
            hives = λ i file tree at is.
                let front = front_of files fronts are i file at in
                let copy = (stored.2 f).0.hives i front.0 tree front.1 is in
                record {
                  block = copy.block;
                  bins = copy.bins;
                  has = law.bins front.0 file copy.block copy.bins (enough_of files fronts are i front.0 file front.1 at) copy.has;
                  made = copy.made;
                  holds = copy.holds;
                };
          };
          recovers = (stored.2 f).1;
        },
      ),
    )) made.ensures.made)
    (not_made_as made.result (D.failures c.args.disk.now < D.failures made.new.disk) (made.new.disk ≡ c.args.disk.now) (AreRefusedFor fronts) (IsRefusedImport files)
    (refused_import files fronts are law.holds law.refused) made.ensures.refused)

pub returns-in-Err-clause-made : goal.returns-in-Err-clause-made
returns-in-Err-clause-made g c = λ files has.
    let inside : HasTaken files (record { count = c.self.inside.count; outcome = outcome_in c.self.inside.outcome }) = subst (HasTaken files) (sym c.self.view_is) has in
    let memory = subst (λ outcome. IsOutcomeOfFiles files (outcome_in outcome)) c.in-Err.is inside.tells in
    (Err c.in-Err.why, c.write_outcome-in-Err.ensures.outcome, inr ((bytes_of files [], may_be files [], inl memory), refl))
