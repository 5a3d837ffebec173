use Rattle.std.proofs.Common.{◌≡◌, ◌+◌, true, false, refl, sym, subst, arith}
use Rattle.hive_cells.specs.Restores.{HasPage}
use Rattle.hive_savepoint.specs.SavedPages.{SavedPages}
use Rattle.hive_savepoint.proofs.Logs.{Saving, page_there, page_saved}
use Rattle.hive_savepoint.proofs.log.UndoLog.save.Goals.{then-not-has+in_ok-push, else-not-has}
use Rattle.hive_savepoint.proofs.log.UndoLog.save.Goals as goal

pub returns-in_err-push-clause-kept : goal.returns-in_err-push-clause-kept
returns-in_err-push-clause-kept c = λ page h. subst (λ (log : SavedPages). HasPage log.order page) (sym c.in_err-push.ensures.err) (c.loop-page.invariant.kept page h)

pub loop-page-preserved : goal.loop-page-preserved
loop-page-preserved c =
    let bytes = c.args.bytes.now in
    let log = c.loop-page.self in
    let page = c.loop-page.page in
    elim c.if-not-has.branch [
      | then-not-has+in_ok-push w ↦ subst (λ (x : SavedPages). Saving bytes c.args.self.now x c.args.limit c.args.from (page + 1)) (sym w.self-is)
          (page_saved bytes c.args.self.now log w.push.new.self c.args.limit c.args.from page c.loop-page.invariant
          (λ h. (let no : false ≡ true = w.if-not-has.ensures.1 h in let bad : ⊥ = cc in bad))
          (omega (arith, c.loop-page-test.true, c.requires.pages, c.min.ensures, c.div_ceil-end.ensures)) w.in_ok-push.ensures.order w.in_ok-push.ensures.bytes)
      | else-not-has w ↦ subst (λ (x : SavedPages). Saving bytes c.args.self.now x c.args.limit c.args.from (page + 1)) (sym w.self-is)
          (page_there bytes c.args.self.now log c.args.limit c.args.from page c.loop-page.invariant (w.if-not-has.ensures.0 refl))
    ]
