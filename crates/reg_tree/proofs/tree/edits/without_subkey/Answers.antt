use Rattle.std.proofs.Common.{◌≡◌, ◌-◌, [], ◌∷◌, length, drop, Some, sym, ◌∙◌, ap}
use Rattle.reg_tree.proofs.Ways.{last_of, found_is}
use Rattle.reg_tree.proofs.tree.edits.without_subkey.Goals as goal

pub returns-clause-legal : goal.returns-clause-legal
returns-clause-legal c =
    let last : drop (length c.args.path.now - 1) c.args.path.now ≡ c.in-Some.name.now ∷ [] =
    last_of c.args.path.now c.in-Some.field-0-1.now c.in-Some.name.now (sym c.names.ensures.names ∙ c.in-Some.ensures.cases.0) in
    found_is c.args.missing.now _ (rw last c.in_ok-check_deletable.ensures.legal) c.is_empty.result c.is_empty.ensures c.if-not-is_empty.false

pub returns-clause-edits : goal.returns-clause-edits
returns-clause-edits c =
    record {
      name = c.in-Some.name.now;
      further = [];
      names_are = last_of c.args.path.now c.in-Some.field-0-1.now c.in-Some.name.now (sym c.names.ensures.names ∙ c.in-Some.ensures.cases.0);
      row = c.key.result.now;
      was = c.key.ensures.here;
      here = c.in_ok-new.ensures.here ∙ ap Some c.in_ok-key.ensures;
      gone = c.in_ok-new.ensures.gone;
      kept = c.in_ok-new.ensures.others;
    }
