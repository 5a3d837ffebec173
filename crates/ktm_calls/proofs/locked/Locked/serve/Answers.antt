use Rattle.std.proofs.Common.{◌≡◌, ◌∙◌, List, ap, arith, refl, subst, sym}
use mathlib.Core.List.{IsPrefix}
use Rattle.engine_invariant.specs.Engines.{EngineView}
use Rattle.histories.specs.Asked.{is_asked}
use Rattle.histories.specs.Permissions.{Right}
use Rattle.histories.specs.Points.{HistoryEntry, entry_of}
use Rattle.ktm_calls.specs.Moments.{AddsAtMost, Sight}
use Rattle.ktm_calls.proofs.Seen.{counts_one, counts_under, lacks, noted_more, says_if_refused, seen_alone, steps_lacking, steps_on}
use Rattle.ktm_calls.proofs.locked.Locked.serve.Goals as goal

pub returns-clause-told : goal.returns-clause-told
returns-clause-told g c =
    let E = g.E.StoreEngine in
    let old = c.audit.new.self.engine in
    let new = c.hold-told.new.self.engine in
    let was = c.mine.inside.seen in
    let is = c.note.new.self in
    let log = c.audit.new.self.history in
    let before : IsPrefix was.history log = subst (λ (s : Sight). IsPrefix was.history s.history) c.show.ensures.whole c.show.ensures.more.history in
    let alone = seen_alone g.O.Start.sole was.history log c.mine.inside.permission.asked before (λ so. c.audit.ensures.whole so c.mine.invariant.held) (omega (arith, c.mine.invariant.counted, c.mine.invariant.asked)) in
    let counts = counts_under was is c.show-2.new.mine log c.hold-told.new.self.history c.mine.inside.permission.asked c.audit.new.permission.asked c.hold-told.new.permission.asked c.note.ensures (ap (λ (s : Sight). s.history) c.show-2.ensures.whole) c.mine.invariant.counted (ap (λ (r : Right). r.asked) c.audit.ensures.same.1) c.hold-told.ensures.counts in
    let there = ap (λ (s : Sight). s.history) c.note.ensures ∙ (ap (λ (s : Sight). s.history) c.show-2.ensures.whole ∙ c.in_ok-told.ensures.history) in
    rw (← c.mine.view_is) record {
      kind = c.in_ok-told.ensures.kind;
      answered = record {
        old = (E.state old).machine;
        new = (E.state new).machine;
        step = c.in_ok-told.ensures.step;
        owner = c.show-2.ensures.owner;
        seen = subst (λ (s : Sight). IsPrefix was.list s.list) c.show.ensures.whole c.show.ensures.more.list;
        list = sym (ap (λ (s : Sight). s.list) c.note.ensures ∙ ap (λ (s : Sight). s.list) c.show-2.ensures.whole);
      };
      stands = record {
        past = log;
        after = E.state new;
        seen = before;
        there = there;
        old_is = ap (λ (p : EngineView). p.machine) c.keeps_history.ensures.now_is;
        new_is = refl;
      };
      counted = counts_one g.O.Start.sole was is log alone counts (entry_of c.args.event c.in_ok-told.told.reply (E.state new)) there (is_asked c.args.event) refl;
      alone = alone;
    }

pub returns-in_err-told-clause-lacked : goal.returns-in_err-told-clause-lacked
returns-in_err-told-clause-lacked g c =
    let was = c.mine.inside.seen in
    let is = c.note.new.self in
    let log = c.audit.new.self.history in
    let before : IsPrefix was.history log = subst (λ (s : Sight). IsPrefix was.history s.history) c.show.ensures.whole c.show.ensures.more.history in
    let alone = seen_alone g.O.Start.sole was.history log c.mine.inside.permission.asked before (λ so. c.audit.ensures.whole so c.mine.invariant.held) (omega (arith, c.mine.invariant.counted, c.mine.invariant.asked)) in
    let counts = counts_under was is c.show-2.new.mine log c.hold-told.new.self.history c.mine.inside.permission.asked c.audit.new.permission.asked c.hold-told.new.permission.asked c.note.ensures (ap (λ (s : Sight). s.history) c.show-2.ensures.whole) c.mine.invariant.counted (ap (λ (r : Right). r.asked) c.audit.ensures.same.1) c.hold-told.ensures.counts in
    let engine = g.E.StoreEngine.state c.hold-told.new.self.engine in
    let shown : is.history ≡ c.hold-told.new.self.history = ap (λ (s : Sight). s.history) c.note.ensures ∙ ap (λ (s : Sight). s.history) c.show-2.ensures.whole in
    let added : AddsAtMost log c.args.event engine is.history = subst (λ (h : List HistoryEntry). AddsAtMost log c.args.event engine h) (sym shown) c.in_err-told.ensures.lacked in
    says_if_refused c.from_residual.result _ (rw (← c.mine.view_is) (lacks g.O.Start.sole was is log alone counts c.args.event engine added))

pub returns-in_err-told-clause-unasked : goal.returns-in_err-told-clause-unasked
returns-in_err-told-clause-unasked g c unasked =
    let was = c.mine.inside.seen in
    let is = c.note.new.self in
    let log = c.audit.new.self.history in
    let before : IsPrefix was.history log = subst (λ (s : Sight). IsPrefix was.history s.history) c.show.ensures.whole c.show.ensures.more.history in
    let alone = seen_alone g.O.Start.sole was.history log c.mine.inside.permission.asked before (λ so. c.audit.ensures.whole so c.mine.invariant.held) (omega (arith, c.mine.invariant.counted, c.mine.invariant.asked)) in
    let counts = counts_under was is c.show-2.new.mine log c.hold-told.new.self.history c.mine.inside.permission.asked c.audit.new.permission.asked c.hold-told.new.permission.asked c.note.ensures (ap (λ (s : Sight). s.history) c.show-2.ensures.whole) c.mine.invariant.counted (ap (λ (r : Right). r.asked) c.audit.ensures.same.1) c.hold-told.ensures.counts in
    let engine = g.E.StoreEngine.state c.hold-told.new.self.engine in
    let shown : is.history ≡ c.hold-told.new.self.history = ap (λ (s : Sight). s.history) c.note.ensures ∙ ap (λ (s : Sight). s.history) c.show-2.ensures.whole in
    let added : AddsAtMost log c.args.event engine is.history = subst (λ (h : List HistoryEntry). AddsAtMost log c.args.event engine h) (sym shown) c.in_err-told.ensures.lacked in
    let more = noted_more was c.show.new.mine c.show-2.new.mine is c.hold-told.new.permission.asked c.note.ensures c.show.ensures.more c.show-2.ensures.more in
    rw (← c.mine.view_is) (steps_lacking g.O.Start.sole was is log alone counts c.args.event engine unasked more added)

pub returns-clause-unasked : goal.returns-clause-unasked
returns-clause-unasked g c unasked =
    let was = c.mine.inside.seen in
    let is = c.note.new.self in
    let log = c.audit.new.self.history in
    let before : IsPrefix was.history log = subst (λ (s : Sight). IsPrefix was.history s.history) c.show.ensures.whole c.show.ensures.more.history in
    let alone = seen_alone g.O.Start.sole was.history log c.mine.inside.permission.asked before (λ so. c.audit.ensures.whole so c.mine.invariant.held) (omega (arith, c.mine.invariant.counted, c.mine.invariant.asked)) in
    let counts = counts_under was is c.show-2.new.mine log c.hold-told.new.self.history c.mine.inside.permission.asked c.audit.new.permission.asked c.hold-told.new.permission.asked c.note.ensures (ap (λ (s : Sight). s.history) c.show-2.ensures.whole) c.mine.invariant.counted (ap (λ (r : Right). r.asked) c.audit.ensures.same.1) c.hold-told.ensures.counts in
    let more = noted_more was c.show.new.mine c.show-2.new.mine is c.hold-told.new.permission.asked c.note.ensures c.show.ensures.more c.show-2.ensures.more in
    let there = ap (λ (s : Sight). s.history) c.note.ensures ∙ (ap (λ (s : Sight). s.history) c.show-2.ensures.whole ∙ c.in_ok-told.ensures.history) in
    rw (← c.mine.view_is) (steps_on g.O.Start.sole was is log alone counts (entry_of c.args.event c.in_ok-told.told.reply (g.E.StoreEngine.state c.hold-told.new.self.engine)) unasked more there)

pub returns-clause-seen : goal.returns-clause-seen
returns-clause-seen g c =
    rw (← c.mine.view_is) (noted_more c.mine.inside.seen c.show.new.mine c.show-2.new.mine c.note.new.self c.hold-told.new.permission.asked c.note.ensures c.show.ensures.more c.show-2.ensures.more)
