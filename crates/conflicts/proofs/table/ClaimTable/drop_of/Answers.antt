use Rattle.std.proofs.Common.{refl, sym, subst, ap, ◌∙◌, vec_len, arith}
use Rattle.conflicts.specs.Holders.{without_owner, OwnersDontConflict}
use Rattle.conflicts.specs.ClaimIndexes.{claims_of}
use Rattle.conflicts.proofs.Apart.{fewer_apart}
use Rattle.conflicts.proofs.Indexing.{others_same, none_owned, filed_without, filed_still}
use Rattle.conflicts.proofs.Listed.{others_listed}
use Rattle.conflicts.proofs.table.ClaimTable.drop_of.Goals as goal

pub loop-listed-preserved-in-Some-take_own : goal.loop-listed-preserved-in-Some-take_own
loop-listed-preserved-in-Some-take_own c =
    let takes = c.in-Some-take_own.ensures.some in
    record {
      in_indexes = filed_without _ c.loop-listed.self-inside.index c.loop-listed.self-inside.owned.keys c.remove.new.self.keys c.loop-listed.self-inside.kept.entries c.take_own.new.kept.entries c.args.owner.0 c.in-Some.listed.1 c.in-Some.listed (c.in-Some.ensures.some).0 refl c.remove.ensures.keys c.loop-listed.invariant.in_indexes c.take.new.self c.in-Some-take_own.kept takes takes.rises (others_listed c.loop-listed.self-inside.index c.take.new.self c.in-Some-take_own.kept.index_key c.take.ensures.index_keys c.take.ensures.hashes);
      others = ap (λ xs. without_owner (claims_of xs) c.args.owner.0) takes.is ∙ others_same c.loop-listed.self-inside.kept.entries c.in-Some.listed.1 c.args.owner.0 c.in-Some-take_own.kept takes.was takes.own ∙ c.loop-listed.invariant.others;
    }

pub loop-listed-preserved : goal.loop-listed-preserved
loop-listed-preserved c =
    let leaves = c.in-None.ensures.none in
    record {
      in_indexes = filed_still _ c.loop-listed.self-inside.index c.loop-listed.self-inside.owned.keys c.remove.new.self.keys c.loop-listed.self-inside.kept.entries c.take_own.new.kept.entries c.args.owner.0 c.in-Some.listed.1 c.in-Some.listed (c.in-Some.ensures.some).0 refl c.remove.ensures.keys c.loop-listed.invariant.in_indexes leaves;
      others = ap (λ xs. without_owner (claims_of xs) c.args.owner.0) leaves.same ∙ c.loop-listed.invariant.others;
    }

pub invariant_of-self : goal.invariant_of-self
invariant_of-self c = record {
  in_indexes = c.loop-listed.invariant.in_indexes;
  apart = subst OwnersDontConflict
      (sym c.loop-listed.invariant.others ∙ none_owned (vec_len c.loop-listed.self-inside.added) c.loop-listed.self-inside.index c.loop-listed.self-inside.owned.keys c.loop-listed.self-inside.kept.entries c.args.owner.0 c.loop-listed.invariant.in_indexes (omega (arith, c.loop-listed.self-inside.added.small, c.loop-listed.self-inside.added.ok)) c.in_default.ensures.none)
      (fewer_apart (claims_of c.self.inside.kept.entries) c.args.owner.0 c.self.invariant.apart);
}

pub returns : goal.returns
returns c =
    sym (none_owned (vec_len c.loop-listed.self-inside.added) c.loop-listed.self-inside.index c.loop-listed.self-inside.owned.keys c.loop-listed.self-inside.kept.entries c.args.owner.0 c.loop-listed.invariant.in_indexes (omega (arith, c.loop-listed.self-inside.added.small, c.loop-listed.self-inside.added.ok)) c.in_default.ensures.none)
    ∙ c.loop-listed.invariant.others ∙ ap (λ hs. without_owner hs c.args.owner.0) c.self.view_is
