use Rattle.std.proofs.Common.{◌≡◌, ◌++◌, ◌∷◌, [], Some, ap, sym, subst, ◌∙◌, ◌<◌, ℕ, arith, vec_len}
use Rattle.std.proofs.lemmas.List.{map-append}
use Rattle.std.specs.Prelude.{Contains}
use Rattle.std.specs.List.{list_any}
use Rattle.std.specs.Ordering.{nat_cmp}
use Rattle.std.specs.Map.{remove_entry}
use Rattle.std.specs.BTreeMap.{is_at}
use Rattle.std.specs.BTreeSet.{insert_key}
use Rattle.conflicts.specs.declared.table.IndexedClaim.{IndexedClaim}
use Rattle.conflicts.specs.Holders.{HeldClaim, blocks, OwnersDontConflict}
use Rattle.conflicts.specs.IndexKeys.{IndexKey, pair_order, index_key_text}
use Rattle.conflicts.specs.ClaimIndexes.{Numbered, claims_of, AreInIndexes}
use Rattle.conflicts.proofs.Apart.{one_more_apart}
use Rattle.conflicts.proofs.Indexing.{insert_keeps, pair_brought, put_last, take_last, widened, put_in}
use Rattle.conflicts.proofs.Listed.{listed_still, listed_now}
use Rattle.refusals.proofs.Refused.{none_done, holds_on}
use Rattle.conflicts.proofs.table.ClaimTable.put.Goals as goal

pub invariant_of-self-in_err-insert : goal.invariant_of-self-in_err-insert
invariant_of-self-in_err-insert c =
    record {
      in_indexes = widened (vec_len c.self.inside.added) (vec_len c.push.new.self) c.self.inside.index c.self.inside.index c.self.inside.owned.keys c.insert.new.self.keys c.self.inside.kept.entries c.self.invariant.in_indexes (omega (arith, c.in_ok-push.ensures.len)) (λ n claim lt h. h) (λ p h. subst (λ xs. Contains xs p) (sym c.in_err-insert.ensures.err) h);
      apart = c.self.invariant.apart;
    }

pub invariant_of-self-in_err-insert-2 : goal.invariant_of-self-in_err-insert-2
invariant_of-self-in_err-insert-2 c =
    record {
      in_indexes = subst (λ xs. AreInIndexes (vec_len c.push.new.self) c.self.inside.index c.insert.new.self.keys xs) (sym c.in_err-insert-2.ensures.err)
          (widened (vec_len c.self.inside.added) (vec_len c.push.new.self) c.self.inside.index c.self.inside.index c.self.inside.owned.keys c.insert.new.self.keys c.self.inside.kept.entries c.self.invariant.in_indexes (omega (arith, c.in_ok-push.ensures.len)) (λ n claim lt h. h) (λ p h. subst (λ xs. Contains xs p) (sym c.in_ok-insert.ensures.keys) (insert_keeps pair_order c.self.inside.owned.keys (c.args.owner.0, c.len.result) p h)));
      apart = subst (λ xs. OwnersDontConflict (claims_of xs)) (sym c.in_err-insert-2.ensures.err) c.self.invariant.apart;
    }

pub invariant_of-self-in-Err : goal.invariant_of-self-in-Err
invariant_of-self-in-Err c =
    let k : IndexedClaim = record { entry = c.in_ok-entry.entry; index_key = c.in_ok-index_key.index_key } in
    let below = λ (m : ℕ) (h : IndexedClaim) (has : Contains c.self.inside.kept.entries (m, h)). subst (λ n. m < n) (sym c.len.ensures) ((c.self.invariant.in_indexes.in_indexes m h has).below) in
    let back : c.remove.new.self.entries ≡ c.self.inside.kept.entries = c.remove.ensures.entries ∙ ap (remove_entry (is_at (nat_cmp c.len.result))) (c.in_ok-insert-2.ensures.entries ∙ put_last c.self.inside.kept.entries c.len.result k below) ∙ take_last c.self.inside.kept.entries c.len.result k below in
    record {
      in_indexes = subst (λ xs. AreInIndexes (vec_len c.push.new.self) c.put.new.self c.insert.new.self.keys xs) (sym back)
          (widened (vec_len c.self.inside.added) (vec_len c.push.new.self) c.self.inside.index c.put.new.self c.self.inside.owned.keys c.insert.new.self.keys c.self.inside.kept.entries c.self.invariant.in_indexes (omega (arith, c.in_ok-push.ensures.len)) (λ n claim lt h. c.in-Err.ensures.err n claim (λ same. omega (arith, lt, c.len.ensures, same)) h) (λ p h. subst (λ xs. Contains xs p) (sym c.in_ok-insert.ensures.keys) (insert_keeps pair_order c.self.inside.owned.keys (c.args.owner.0, c.len.result) p h)));
      apart = subst (λ xs. OwnersDontConflict (claims_of xs)) (sym back) c.self.invariant.apart;
    }

pub returns-in-Err-clause-err : goal.returns-in-Err-clause-err
returns-in-Err-clause-err c =
    let k : IndexedClaim = record { entry = c.in_ok-entry.entry; index_key = c.in_ok-index_key.index_key } in
    let below = λ (m : ℕ) (h : IndexedClaim) (has : Contains c.self.inside.kept.entries (m, h)). subst (λ n. m < n) (sym c.len.ensures) ((c.self.invariant.in_indexes.in_indexes m h has).below) in
    let back : c.remove.new.self.entries ≡ c.self.inside.kept.entries = c.remove.ensures.entries ∙ ap (remove_entry (is_at (nat_cmp c.len.result))) (c.in_ok-insert-2.ensures.entries ∙ put_last c.self.inside.kept.entries c.len.result k below) ∙ take_last c.self.inside.kept.entries c.len.result k below in
    ap claims_of back ∙ c.self.view_is

pub invariant_of-self-in-Ok : goal.invariant_of-self-in-Ok
invariant_of-self-in-Ok c =
    let k : IndexedClaim = record { entry = c.in_ok-entry.entry; index_key = c.in_ok-index_key.index_key } in
    let below = λ (m : ℕ) (h : IndexedClaim) (has : Contains c.self.inside.kept.entries (m, h)). subst (λ n. m < n) (sym c.len.ensures) ((c.self.invariant.in_indexes.in_indexes m h has).below) in
    let index_key : IndexKey = (c.in_ok-copy.field-0, c.len.result) in
    record {
      in_indexes = put_in (vec_len c.self.inside.added) (vec_len c.push.new.self) c.len.result c.self.inside.index c.put.new.self c.self.inside.owned.keys c.insert.new.self.keys c.self.inside.kept.entries c.insert-2.new.self.entries k c.self.invariant.in_indexes
          (omega (arith, c.in_ok-push.ensures.len)) (omega (arith, c.in_ok-push.ensures.len, c.len.ensures))
          (λ n claim lt h. listed_still c.self.inside.index c.put.new.self index_key c.in-Ok.ensures.index_keys c.in-Ok.ensures.hashes n claim h)
          (λ p h. subst (λ xs. Contains xs p) (sym c.in_ok-insert.ensures.keys) (insert_keeps pair_order c.self.inside.owned.keys (c.args.owner.0, c.len.result) p h))
          (c.in_ok-insert-2.ensures.entries ∙ put_last c.self.inside.kept.entries c.len.result k below)
          c.in_ok-insert-2.ensures.ordered
          (listed_now c.self.inside.index c.put.new.self index_key c.in-Ok.ensures.index_keys c.in-Ok.ensures.hashes k.entry.claim (c.in_ok-copy.ensures ∙ c.deref.ensures.value ∙ c.in_ok-index_key.ensures.text ∙ ap (λ (h : HeldClaim). index_key_text h.claim) (sym c.in_ok-entry.ensures)))
          (subst (λ xs. Contains xs (k.entry.owner, c.len.result)) (sym c.in_ok-insert.ensures.keys) (subst (λ o. Contains (insert_key pair_order c.self.inside.owned.keys (c.args.owner.0, c.len.result)) (o, c.len.result)) (ap (λ (h : HeldClaim). h.owner) (sym c.in_ok-entry.ensures)) (pair_brought c.self.inside.owned.keys (c.args.owner.0, c.len.result))))
          c.in_ok-index_key.ensures.number;
      apart = subst OwnersDontConflict
          (sym (ap claims_of (c.in_ok-insert-2.ensures.entries ∙ put_last c.self.inside.kept.entries c.len.result k below) ∙ map-append (λ (e : Numbered). e.1.entry) c.self.inside.kept.entries ((c.len.result, k) ∷ []) ∙ ap (λ h. claims_of c.self.inside.kept.entries ++ h ∷ []) c.in_ok-entry.ensures))
          (one_more_apart (claims_of c.self.inside.kept.entries) (record { owner = c.args.owner.0; claim = c.args.claim.now }) c.self.invariant.apart (ap (list_any (blocks (Some c.args.owner.0) c.args.claim.now)) c.self.view_is ∙ c.requires));
    }

pub returns-in-Ok-clause-ok : goal.returns-in-Ok-clause-ok
returns-in-Ok-clause-ok c =
    let k : IndexedClaim = record { entry = c.in_ok-entry.entry; index_key = c.in_ok-index_key.index_key } in
    let below = λ (m : ℕ) (h : IndexedClaim) (has : Contains c.self.inside.kept.entries (m, h)). subst (λ n. m < n) (sym c.len.ensures) ((c.self.invariant.in_indexes.in_indexes m h has).below) in
    ap claims_of (c.in_ok-insert-2.ensures.entries ∙ put_last c.self.inside.kept.entries c.len.result k below) ∙ map-append (λ (e : Numbered). e.1.entry) c.self.inside.kept.entries ((c.len.result, k) ∷ [])
    ∙ ap (λ xs. xs ++ c.in_ok-entry.entry ∷ []) c.self.view_is ∙ ap (λ h. c.args.self.now ++ h ∷ []) c.in_ok-entry.ensures

pub returns-in_err-entry-clause-ok : goal.returns-in_err-entry-clause-ok
returns-in_err-entry-clause-ok c = none_done c.from_residual.result _ _ c.from_residual.ensures.1

pub returns-in_err-index_key-clause-ok : goal.returns-in_err-index_key-clause-ok
returns-in_err-index_key-clause-ok c = none_done c.from_residual-in_err-index_key.result _ _ c.from_residual-in_err-index_key.ensures.1

pub returns-in_err-copy-clause-ok : goal.returns-in_err-copy-clause-ok
returns-in_err-copy-clause-ok c = none_done c.from_residual-in_err-copy.result _ _ c.from_residual-in_err-copy.ensures.1

pub returns-in_err-push-clause-ok : goal.returns-in_err-push-clause-ok
returns-in_err-push-clause-ok c = none_done c.from_residual-in_err-push.result _ _ c.from_residual-in_err-push.ensures.1

pub returns-in_err-insert-clause-ok : goal.returns-in_err-insert-clause-ok
returns-in_err-insert-clause-ok c = none_done c.from_residual-in_err-insert.result _ _ c.from_residual-in_err-insert.ensures.1

pub returns-in_err-insert-2-clause-ok : goal.returns-in_err-insert-2-clause-ok
returns-in_err-insert-2-clause-ok c = none_done c.from_residual-in_err-insert-2.result _ _ c.from_residual-in_err-insert-2.ensures.1

pub returns-in_err-push-clause-err : goal.returns-in_err-push-clause-err
returns-in_err-push-clause-err c = holds_on c.from_residual-in_err-push.result _ c.self.view_is

pub returns-in_err-insert-clause-err : goal.returns-in_err-insert-clause-err
returns-in_err-insert-clause-err c = holds_on c.from_residual-in_err-insert.result _ c.self.view_is

pub returns-in_err-insert-2-clause-err : goal.returns-in_err-insert-2-clause-err
returns-in_err-insert-2-clause-err c = holds_on c.from_residual-in_err-insert-2.result _ (ap claims_of c.in_err-insert-2.ensures.err ∙ c.self.view_is)
