use Rattle.std.proofs.Common.{◌++◌, ◌∷◌, [], ◌-◌, length, take, drop, append-nil, sym, ◌∙◌, ap, arith}
use Rattle.std.proofs.lemmas.List.{take_all}
use Rattle.std.specs.Hash.DefaultHasher as sip
use Rattle.reg_names.specs.Names.{folded, folded_path}
use Rattle.conflicts.specs.IndexKeys.{name_text, path_text, hasher_after}
use Rattle.conflicts.proofs.PathIndexKeys.{text_more, gathered_more}
use Rattle.conflicts.proofs.IndexKeyRanges.{fed_on, fed_rest}
use Rattle.refusals.proofs.Refused.{none_made, none_done}
use Rattle.conflicts.proofs.index_keys.numbers_along.Goals as goal

pub loop-name-preserved : goal.loop-name-preserved
loop-name-preserved c = record {
  written = text_more c.args.names.now c.loop-name.name-index c.name-item.result c.loop-name-test.true c.name-item.is c.args.text.now.items c.loop-name.text.items c.loop-name.invariant.written c.write_name.new.text.items c.in_ok-write_name.ensures;
  hashed = c.hash_units-in-loop-name.ensures ∙ ap (λ h. hasher_after h (take (length c.deref-in-loop-name.result.now - c.len-written.result) (drop c.len-written.result c.deref-in-loop-name.result.now))) c.loop-name.invariant.hashed
      ∙ ap (λ xs. hasher_after (hasher_after sip.initial c.loop-name.text.items) (take (length xs - c.len-written.result) (drop c.len-written.result xs))) c.deref-in-loop-name.ensures.value
      ∙ fed_rest sip.initial c.loop-name.text.items (name_text (folded c.name-item.result)) c.write_name.new.text.items c.len-written.result (omega (arith, c.len-written.ensures, c.loop-name.text.ok)) c.in_ok-write_name.ensures;
  gathered = gathered_more c.args.names.now c.loop-name.name-index c.name-item.result c.loop-name-test.true c.name-item.is c.args.text.now.items c.loop-name.text.items c.loop-name.invariant.written c.args.hashes.now.keys c.hash_at_end.result c.loop-name.found.items c.push_numbers_under.new.found.items
      (c.hash_at_end.ensures ∙ ap (λ h. sip.finish (hasher_after h (0 ∷ []))) c.loop-name.invariant.hashed ∙ ap sip.finish (fed_on sip.initial c.loop-name.text.items (0 ∷ []))) c.in_ok-push_numbers_under.ensures c.loop-name.invariant.gathered;
}

pub returns-clause-found : goal.returns-clause-found
returns-clause-found c = λ number j small lt has. c.loop-name.invariant.gathered number j small (omega (arith, lt, c.loop-name-test.false)) has

pub loop-name-init : goal.loop-name-init
loop-name-init c = record {
  written = sym (append-nil c.args.text.now.items);
  hashed = c.hash_units.ensures ∙ ap (λ h. hasher_after h c.deref.result.now) c.new-hasher.ensures ∙ ap (hasher_after sip.initial) c.deref.ensures.value;
  gathered = λ number j small lt has. absurd (omega arith);
}

pub returns-clause-text : goal.returns-clause-text
returns-clause-text c = c.loop-name.invariant.written ∙ ap (λ names. c.args.text.now.items ++ path_text (folded_path names)) (take_all c.loop-name.name-index c.args.names.now c.loop-name-test.false)

pub returns-in_err-push_numbers_under : goal.returns-in_err-push_numbers_under
returns-in_err-push_numbers_under c =
    let r = c.from_residual.result in
    let err = c.from_residual.ensures.1 in
    record { text = none_done r _ _ err; found = none_made r _ _ err }

pub returns-in_err-write_name : goal.returns-in_err-write_name
returns-in_err-write_name c =
    let r = c.from_residual-in_err-write_name.result in
    let err = c.from_residual-in_err-write_name.ensures.1 in
    record { text = none_done r _ _ err; found = none_made r _ _ err }
