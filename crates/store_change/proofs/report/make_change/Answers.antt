use Rattle.std.proofs.Common.{◌≡◌, inl, inr, None, refl, sym, ap, subst, arith}
use Rattle.std.specs.Io.KnownBytes.{Appends}
use Rattle.store_driver.specs.Openings.{LeavesPrefix}
use Rattle.store_driver.proofs.Later.{later_on}
use Rattle.store_change.specs.Reports.{Finishes, report_text}
use Rattle.store_change.proofs.Accepted.{all_on}
use Rattle.store_change.proofs.Told.{begins_whole, refused_so, told_so}
use Rattle.store_change.proofs.report.make_change.Goals as goal

pub returns-in-Ok : goal.returns-in-Ok
returns-in-Ok g c =
    let D = g.D.Disk in
    let C = g.C.StoreChange in
    let first = c.in-Ok.engine in
    let mid = c.make-outcome.new.engine in
    let last = c.report_outcome-told.new.engine in
    let later = later_on D.faithful D.failures first mid last c.make-outcome.ensures.later c.report_outcome-told.ensures.later in
    let outcome = c.make-outcome.result in
    let was = g.W.Write.contents c.args.writer.now in
    let is = g.W.Write.contents c.report_outcome-told.new.writer in
    let told = told_so c.report_outcome-told.result (λ report. report.refused_step) (λ report. report.outcome ≡ outcome) (λ refused. Finishes (C.is_made outcome) refused mid.machine last.machine)
    (λ refused. Appends was is (report_text (C.line outcome) refused)) c.report_outcome-told.ensures.finishes c.report_outcome-told.ensures.printed in
    record {
      changes = (
        outcome,
        told.0,
        inr (record {
          first = first.disk;
          store = first.store;
          number = c.in-Ok.number;
          begun = first.machine;
          opened = c.in-Ok.ensures.ok;
          mid = mid.machine;
          ends = c.make-outcome.ensures.ends;
          last = last.machine;
          finishes = told.1;
          comes = c.report_outcome-told.ensures.later.comes;
          all = all_on (C.may_ask c.args.change) (C.moment c.args.change) first.machine mid.machine last.machine c.make-outcome.ensures.all c.report_outcome-told.ensures.kept;
          faulted = λ faulted. elim (later.faulted faulted) [
            | inl before ↦ absurd (begins_whole _ _ _ _ _ first.machine c.in-Ok.ensures.ok.begins before)
            | inr rose ↦ omega (arith, c.in-Ok.ensures.failures, rose, ap D.failures c.into_disk.ensures)
          ];
          since = λ f. later.faithful (subst D.faithful c.into_disk.ensures f);
          left = subst (λ store. LeavesPrefix (D.faithful c.into_disk.result) (D.state_at c.into_disk.result) (D.clock c.into_disk.result) store last.machine) later.store
              (subst (λ d. LeavesPrefix (D.faithful d) (D.state_at d) (D.clock d) last.store last.machine) (sym c.into_disk.ensures) (λ f. (c.keeps_a_prefix.ensures f, λ e. c.reads_a_prefix.ensures.prefix f (inl e))));
        }),
        told.2,
      );
    }

pub returns-in-Err : goal.returns-in-Err
returns-in-Err g c =
    let C = g.C.StoreChange in
    let why = c.in-Err.refusal in
    let was = g.W.Write.contents c.args.writer.now in
    let is = g.W.Write.contents c.report_refusal.new.writer in
    record {
      changes = (
        C.refusal_of why,
        None,
        inl (why, c.in-Err.ensures.err, refl, refl, c.in-Err.ensures.left),
        refused_so c.report_refusal.result (λ report. report.outcome) (λ report. report.refused_step) (C.refusal_of why) (λ outcome refused. Appends was is (report_text (C.line outcome) refused)) c.report_refusal.ensures.refused c.report_refusal.ensures.printed,
      );
    }
