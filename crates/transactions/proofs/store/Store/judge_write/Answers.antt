use Rattle.std.proofs.Common.{◌≡◌, ◌+◌, sym, ◌∙◌, ap, subst, refl, List, Some, None, Ok, Err}
use Rattle.reg_tree.specs.Maps.{TreeMap}
use Rattle.reg_tree.specs.Encodings.{element_encoded_len}
use Rattle.reg_tree.specs.declared.op.Legality.TheVariants.{Legal}
use Rattle.conflicts.specs.Claims.{claim_of}
use Rattle.store_model.specs.Transactions.{at}
use Rattle.transactions.specs.Tables.{holds_if}
use Rattle.reg_tree.specs.Judgement.{legal, applied_one, IsWritten}
use Rattle.reg_tree.specs.TreeLists.{levels_made}
use Rattle.store_model.specs.Machine.{change, is_open, room_refusal, unnamed_refusal, trees_now}
use Rattle.transactions.specs.Stores.{StoreView}
use Rattle.transactions.proofs.Stored.{closed_write, illegal_write, crowded_write, cut_change, uncut, unjudged_write, unnamed_write}
use Rattle.transactions.proofs.store.Store.judge_write.Goals as goal

pub returns-in_err-open : goal.returns-in_err-open
returns-in_err-open c =
    let m = c.args.self.now.machine in
    let why = c.in_err-open.field-0.0 in
    unjudged_write m c.args.session c.args.moment c.args.op.now c.from_residual.result why c.from_residual.ensures.1
    (closed_write m c.args.session why (Err why)
    (record { shut = ap (λ (v : StoreView). is_open v.machine c.args.session) (sym c.self.view_is) ∙ c.in_err-open.ensures.refused.0; named = c.in_err-open.ensures.refused.1 }) refl c.requires.free c.args.moment c.args.op.now)

pub returns-in_err-check_named : goal.returns-in_err-check_named
returns-in_err-check_named c =
    let m = c.args.self.now.machine in
    let why = c.in_err-check_named.field-0.0 in
    unjudged_write m c.args.session c.args.moment c.args.op.now c.from_residual-in_err-check_named.result why c.from_residual-in_err-check_named.ensures.1
    (unnamed_write m c.args.session why (Err why) (ap (λ (v : StoreView). is_open v.machine c.args.session) (sym c.self.view_is) ∙ c.in_ok-open.ensures.ok) refl c.requires.free c.args.moment c.args.op.now
    (subst (λ hive. unnamed_refusal m hive ≡ Some why) c.hive.ensures c.in_err-check_named.ensures.refused))

pub returns-in_err-trees : goal.returns-in_err-trees
returns-in_err-trees c =
    let m = c.args.self.now.machine in
    let why = c.in_err-trees.field-0.0 in
    unjudged_write m c.args.session c.args.moment c.args.op.now c.from_residual-in_err-trees.result why c.from_residual-in_err-trees.ensures.1
    (illegal_write m c.args.session c.args.moment c.args.op.now c.trees-now.result.now (Err why) why c.requires.free
    (ap (λ (v : StoreView). is_open v.machine c.args.session) (sym c.self.view_is) ∙ c.in_ok-open.ensures.ok) (subst (λ hive. unnamed_refusal m hive ≡ None) c.hive.ensures c.in_ok-check_named.ensures.ok) (c.trees-now.ensures ∙ c.self.invariant.0.trees ∙ ap (λ (v : StoreView). trees_now v.machine) c.self.view_is)
    c.in_err-trees.ensures.refused refl)

pub returns-in_err-room : goal.returns-in_err-room
returns-in_err-room c =
    let m = c.args.self.now.machine in
    let why = c.in_err-room.field-0.0 in
    let written = subst (IsWritten (legal c.trees-now.result.now c.args.op.now) (applied_one c.trees-now.result.now c.args.op.now c.args.moment, levels_made c.trees-now.result.now c.args.op.now)) c.in-Some.is c.in_ok-trees.ensures.ok in
    unjudged_write m c.args.session c.args.moment c.args.op.now c.from_residual-in_err-room.result why c.from_residual-in_err-room.ensures.1
    (crowded_write m c.args.session c.args.moment c.args.op.now c.trees-now.result.now (Err why) why c.saturating_add.result c.requires.free
    (ap (λ (v : StoreView). is_open v.machine c.args.session) (sym c.self.view_is) ∙ c.in_ok-open.ensures.ok) (subst (λ hive. unnamed_refusal m hive ≡ None) c.hive.ensures c.in_ok-check_named.ensures.ok) (c.trees-now.ensures ∙ c.self.invariant.0.trees ∙ ap (λ (v : StoreView). trees_now v.machine) c.self.view_is)
    written.0 (cut_change c.args.moment c.args.op.now c.text_len.result c.saturating_add.result c.text_len.ensures c.saturating_add.ensures) c.in_err-room.ensures.refused refl)

pub returns : goal.returns
returns c =
    let m = c.args.self.now.machine in
    let op = c.args.op.now in
    let moment = c.args.moment in
    let written = subst (IsWritten (legal c.trees-now.result.now op) (applied_one c.trees-now.result.now op moment, levels_made c.trees-now.result.now op)) c.in-Some.is c.in_ok-trees.ensures.ok in
    let now = c.trees-now.ensures ∙ c.self.invariant.0.trees ∙ ap (λ (v : StoreView). trees_now v.machine) c.self.view_is in
    let exact = uncut m (element_encoded_len (change moment op)) c.saturating_add.result c.in_ok-room.ensures.ok.0 (cut_change moment op c.text_len.result c.saturating_add.result c.text_len.ensures c.saturating_add.ensures) in
    record {
      there = ap (λ (v : StoreView). is_open v.machine c.args.session) (sym c.self.view_is) ∙ c.in_ok-open.ensures.ok;
      named = subst (λ hive. unnamed_refusal m hive ≡ None) c.hive.ensures c.in_ok-check_named.ensures.ok;
      is_legal = subst (λ (t : List TreeMap). legal t op ≡ Ok Legal) now written.0;
      roomy = subst (λ n. room_refusal m n ≡ None) exact c.in_ok-room.ensures.ok.0;
      short = c.change_is_short.ensures c.trees-now.result.now moment written.0;
      levels = ap (λ w. w.1) written.1 ∙ ap (λ (t : List TreeMap). levels_made t op) now;
      trees = ap (λ w. w.0) written.1 ∙ ap (λ (t : List TreeMap). applied_one t op moment) now;
      holders = λ slot. c.in_ok-holders.ensures slot ∙ ap (λ (v : StoreView). holds_if (claim_of op) (at v.machine.tx_slots slot)) c.self.view_is;
      room = c.in_ok-room.ensures.ok.1 ∙ ap (λ n. m.room + (17 + n)) exact;
    }
