use Rattle.std.proofs.Common.{ℕ, List, drop, length, inl, inr, refl, sym, ap, subst, ◌∙◌, arith, ⊎_elim}
use Rattle.std.proofs.lemmas.Bool.{eqb-true, and_parts}
use Rattle.dirty_vector.specs.Pages.{Pages}
use Rattle.dirt_log.specs.WholeLog.{IsCovered, repaired}
use Rattle.hive_files.specs.Contents.{as_primary}
use Rattle.hive_files.proofs.Founding.{repaired_by_log}
use Rattle.hive_flush_model.proofs.Planning.{repaired_long}
use Rattle.hive_files.proofs.reader.repaired.Goals as goal

pub returns-in-Err-clause-fails : goal.returns-in-Err-clause-fails
returns-in-Err-clause-fails c = ⊎_elim
    (λ not. inl (
      not.0,
      λ primary file log part logged. not.1 (subst (λ (l : List ℕ). IsCovered (length l) c.args.log.vector) (sym part)
          ((c.repair_prefix_decides.ensures.covered (drop 4096 primary) c.args.log.vector c.args.log.vector.bins_size (omega arith)).1
          (subst (λ (v : Pages). IsCovered (length (drop 4096 primary)) v) (sym log.marked) logged.covered))),
    ))
    (λ none. inr none) c.in-Err.ensures.refused

pub invariant_of-result : goal.invariant_of-result
invariant_of-result c =
    let used = c.requires.used.0 in
    let b = c.args.log.base in
    record {
      sizes = ap (λ (l : List ℕ). length l) c.in-Ok.ensures.ok ∙ repaired_long c.args.bins.items c.args.log.vector c.args.log.pages.now;
      used = record {
        own = (record { signature = used.0.signature; bins_size = used.0.bins_size; within = used.0.within }, (used.2.0, omega (arith, used.2.1), omega (arith, used.2.1), used.2.2), refl);
        equal = eqb-true b.primary.0 b.secondary.0 (and_parts _ _ used.1).1;
        size = c.requires.used.1;
      };
      repaired = λ unclean. used.2.1;
    }

pub returns-clause-found : goal.returns-clause-found
returns-clause-found c = λ primary file log part.
    let v = c.args.log.vector in
    let n = v.bins_size in
    let law = c.repair_prefix_decides.ensures in
    record {
      repaired = repaired_by_log primary file c.args.bins.items c.args.log c.apply_to.new.image.items log
          ((law.covered (drop 4096 primary) v n (omega arith)).0 (subst (λ (l : List ℕ). IsCovered (length l) v) part c.in-Ok.ensures.covered))
          (c.in-Ok.ensures.ok ∙ ap (λ (l : List ℕ). repaired l v c.args.log.pages.now) part ∙ law.primary (drop 4096 primary) c.args.log.pages.now v n (omega arith));
      block = ap as_primary log.base;
      pages = log.marked;
    }
