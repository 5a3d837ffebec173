use Rattle.std.proofs.Common.{◌∙◌, ◌+◌, ◌-◌, arith, inl, inr, ⊎_elim, ap, sym, List, ℕ}
use Rattle.std.specs.List.{list_all}
use Rattle.std.proofs.lemmas.Result.{err_from_is_err_and}
use Rattle.reg_names.specs.Names.{is_key_name}
use Rattle.change_codec.specs.Readers.{repeat}
use Rattle.change_codec.specs.Encoding.{key_name_at}
use Rattle.change_codec.proofs.Taken.{behind, goes_on, stops, ends, list_all_push}
use Rattle.change_codec.proofs.decoder.take_names.Goals as goal

pub loop-taken-preserved : goal.loop-taken-preserved
loop-taken-preserved c =
    let l = c.loop-taken in
    let more = c.in_ok-push.ensures.items in
    record {
      read = l.invariant.read
          ∙ goes_on key_name_at l.names.items (c.args.count - l._taken) (c.args.count - (l._taken + 1)) c.in_ok-name.name l.rest.now c.in_ok-name.behind.now (omega arith) c.in_ok-name.ensures.name
          ∙ ap (λ (names : List (List ℕ)). behind names (repeat (c.args.count - (l._taken + 1)) key_name_at c.in_ok-name.behind.now)) (sym more);
      keys = ap (λ (names : List (List ℕ)). list_all is_key_name names) more ∙ list_all_push is_key_name l.names.items c.in_ok-name.name l.invariant.keys c.in_ok-name.ensures.key;
      many = omega (arith, c.in_ok-push.ensures.len, l.invariant.many);
    }

pub returns-in_err-name-clause-names : goal.returns-in_err-name-clause-names
returns-in_err-name-clause-names c =
    let l = c.loop-taken in
    let p = err_from_is_err_and c.from_residual-in_err-name.result c.from_residual-in_err-name.ensures.1 in
    rw (p.1, p.2) (⊎_elim (λ h. inl (h.0, l.invariant.read ∙ stops key_name_at l.names.items (c.args.count - l._taken) (c.args.count - (l._taken + 1)) l.rest.now (omega arith) h.1)) (λ h. inr h) c.in_err-name.ensures.name)

pub returns-clause-names : goal.returns-clause-names
returns-clause-names c = let l = c.loop-taken in l.invariant.read ∙ ends key_name_at l.names.items (c.args.count - l._taken) l.rest.now (omega arith)
