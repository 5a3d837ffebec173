use Rattle.std.proofs.Common.{◌≢◌, inl, inr, ⊎_elim, refl, sym, subst}
use Rattle.std.proofs.lemmas.Bool.{not-false, not-true}
use Rattle.std.proofs.lemmas.Slice.Eq.{bytes_eq-Decides}
use Rattle.refusals.specs.declared.refusal.Refusal.{Refusal}
use Rattle.refusals.specs.declared.refusal.Refusal.TheVariants.{NoMemory}
use Rattle.hive_flush.specs.Decoders.{RefusalNamesHive}
use Rattle.hive_flush.proofs.Opened.{found_agrees, found_holds, true_false}
use Rattle.hive_flush.proofs.Telling.{another_told, loaded_told}
use Rattle.store_hive.proofs.held_tree.of_contents.Goals as goal

pub returns-then-ne-clause-fails : goal.returns-then-ne-clause-fails
returns-then-ne-clause-fails c = inr (
  refl,
  λ primary log f.
      let other : c.args.found.block.store ≢ c.args.store = λ same. true_false _ ((bytes_eq-Decides c.args.found.block.store c.args.store).1 same) (not-true _ (sym c.if-ne.ensures)) in
      record {
        none = λ held h. other (found_agrees primary log c.args.found c.args.store held f h).0;
        tells = another_told c.args.hive c.args.store primary log c.args.found f other;
      },
)

pub returns-clause-held : goal.returns-clause-held
returns-clause-held c = λ primary log f.
    found_holds primary log c.args.found c.args.store c.in-Ok.tree c.args.found.block.applied.0 f ((bytes_eq-Decides _ _).0 (not-false _ (sym c.if-ne.ensures))) c.in-Ok.ensures.stands refl

pub returns-in-Err-clause-fails : goal.returns-in-Err-clause-fails
returns-in-Err-clause-fails c = ⊎_elim (λ none. inl none) (λ is. inr (
  is,
  λ primary log f.
      let block = c.args.found.block in
      let some : c.in-Err.why ≢ NoMemory = λ none. subst (λ (r : Refusal). RefusalNamesHive c.args.hive r) (c.hive_refusal.ensures.memory none) is in
      record {
        none = λ held h. c.refused_bins_exclude_trees.ensures c.args.found.bins.items block.root block.minor c.in-Err.why c.in-Err.ensures.refused some held.0 (found_agrees primary log c.args.found c.args.store held f h).1;
        tells = loaded_told c.args.hive c.args.store primary log c.args.found c.hive_refusal.result c.in-Err.why f c.hive_refusal.ensures.cause some c.in-Err.ensures.refused;
      },
)) c.hive_refusal.ensures.hive_refusal
