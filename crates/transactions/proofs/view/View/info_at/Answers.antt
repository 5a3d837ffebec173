use Rattle.std.proofs.Common.{◌≡◌, ℕ, Option, Some, sym, ◌∙◌, ap, subst}
use Rattle.std.specs.Option.{option_map}
use Rattle.std.proofs.lemmas.Option.{none-some}
use Rattle.std.proofs.lemmas.Result.{err_from_is_err_and}
use Rattle.reg_names.specs.Names.{folded_path}
use Rattle.reg_tree.specs.Judgement.{applied}
use Rattle.reg_tree.specs.declared.tree.Info.{Info}
use Rattle.transactions.specs.Entries.{IsMade}
use Rattle.transactions.proofs.TimesAsRead.{other_told, moved_told, same_told}
use Rattle.transactions.proofs.view.View.info_at.Goals as goal
use Rattle.transactions.proofs.Views.{missing_seen}
use Rattle.transactions.proofs.view.View.info_at.Goals.{then-made_at-moment-via-then-made_at-moment, then-made_at-moment-via-else-made_at-moment+then-info-made_at}

pub returns-then-made_at-moment-clause-told : goal.returns-then-made_at-moment-clause-told
returns-then-made_at-moment-clause-told c = λ ops made.
    let at = c.in-Some.made_at in
    let trees = c.args.self.now.trees in
    let now = c.args.now.now in
    let made_then : trees ≡ applied now ops at = subst (λ (m : Option ℕ). IsMade now ops m trees) c.in-Some.is made in
    elim c.then-made_at-moment.branch [
      | then-made_at-moment-via-then-made_at-moment w ↦ same_told trees now ops at c.args.moment c.args.hive (folded_path c.args.path.now) c.in_ok-info.info made_then w.if-made_at-moment.true c.in_ok-info.ensures.ok
      | then-made_at-moment-via-else-made_at-moment+then-info-made_at w ↦ other_told trees now ops at c.args.moment c.args.hive (folded_path c.args.path.now) made_then c.in_ok-info.info c.in_ok-info.ensures.ok w.if-info-made_at.true
    ]

pub returns-in_default-query_info-clause-told : goal.returns-in_default-query_info-clause-told
returns-in_default-query_info-clause-told c = λ ops made.
    let at = c.in-Some.made_at in
    let trees = c.args.self.now.trees in
    let now = c.args.now.now in
    let made_then : trees ≡ applied now ops at = subst (λ (m : Option ℕ). IsMade now ops m trees) c.in-Some.is made in
    moved_told trees now ops at c.args.moment c.args.hive (folded_path c.args.path.now) made_then c.in_ok-info.info c.in_ok-info.ensures.ok c.if-info-made_at.false
    (λ same. let e : Some c.in-Ok.was.time ≡ Some at = ap (option_map (λ (x : Info). x.time)) (sym c.in-Ok.ensures.ok) ∙ same in c.if-was-made_at.false cc)

pub returns-in_default-query_info-2-clause-told : goal.returns-in_default-query_info-2-clause-told
returns-in_default-query_info-2-clause-told c = λ ops made.
    let at = c.in-Some.made_at in
    let trees = c.args.self.now.trees in
    let now = c.args.now.now in
    let made_then : trees ≡ applied now ops at = subst (λ (m : Option ℕ). IsMade now ops m trees) c.in-Some.is made in
    moved_told trees now ops at c.args.moment c.args.hive (folded_path c.args.path.now) made_then c.in_ok-info.info c.in_ok-info.ensures.ok c.if-info-made_at.false
    (λ same. none-some at (ap (option_map (λ (x : Info). x.time)) (sym c.in_default-query_info.ensures.refused.0) ∙ same))

pub returns-in_err-info-clause-refused : goal.returns-in_err-info-clause-refused
returns-in_err-info-clause-refused c =
    let p = err_from_is_err_and c.from_residual.result c.from_residual.ensures.1 in
    rw (p.1, p.2) (c.in_err-info.ensures.refused.1, λ ops made. missing_seen c.args.hive (folded_path c.args.path.now) c.args.now.now ops c.args.self.now.moment c.args.self.now.trees c.args.moment made c.in_err-info.ensures.refused.0)
