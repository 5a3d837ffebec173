use Rattle.std.proofs.Common.{ℕ, List, refl, subst, arith}
use Rattle.hive_load_parts.specs.CellReads.{marks_of}
use Rattle.hive_load.specs.Answers.{LoadsKey}
use Rattle.hive_load.proofs.Ends.{root_loaded, root_lends}
use Rattle.hive_load.proofs.Bound.{few_looks}
use Rattle.hive_load.proofs.tree.load_root.Goals as goal

pub returns-then-are_apart-clause-answers : goal.returns-then-are_apart-clause-answers
returns-then-are_apart-clause-answers c = λ cells shows.
    root_loaded c.args.split cells (marks_of c.args.seen.now) (marks_of c.load_key.new.seen) c.args.root c.requires.unset c.load_key.new.known 513 c.in-Ok.node
    (subst (λ (had : List (ℕ × List ℕ)). LoadsKey c.args.split cells (marks_of c.args.seen.now) (marks_of c.load_key.new.seen) had c.load_key.new.known 513 c.args.root c.in-Ok.node) c.new-known.ensures (c.in-Ok.ensures.answers cells shows)) refl
    (λ at is. c.if-are_apart.ensures.apart refl at is)

pub returns-clause-answers : goal.returns-clause-answers
returns-clause-answers c = λ cells shows.
    let met = c.if-are_apart.ensures.met refl in
    root_lends c.args.split cells (marks_of c.args.seen.now) (marks_of c.load_key.new.seen) c.args.root c.requires.unset c.load_key.new.known 513 c.in-Ok.node
    (subst (λ (had : List (ℕ × List ℕ)). LoadsKey c.args.split cells (marks_of c.args.seen.now) (marks_of c.load_key.new.seen) had c.load_key.new.known 513 c.args.root c.in-Ok.node) c.new-known.ensures (c.in-Ok.ensures.answers cells shows))
    met.0 met.1 met.2 c.from.result c.from.ensures

pub returns-in-Err-clause-looks : goal.returns-in-Err-clause-looks
returns-in-Err-clause-looks c = few_looks c.args.image.now.bytes c.args.seen.now c.load_key.new.seen c.args.looks.now c.load_key.new.looks c.requires.unset c.in-Err.ensures.spreads c.in-Err.ensures.works

pub returns-then-are_apart-clause-looks : goal.returns-then-are_apart-clause-looks
returns-then-are_apart-clause-looks c = few_looks c.args.image.now.bytes c.args.seen.now c.load_key.new.seen c.args.looks.now c.load_key.new.looks c.requires.unset c.in-Ok.ensures.spreads (omega (arith, c.in-Ok.ensures.works))

pub returns-clause-looks : goal.returns-clause-looks
returns-clause-looks c = few_looks c.args.image.now.bytes c.args.seen.now c.load_key.new.seen c.args.looks.now c.load_key.new.looks c.requires.unset c.in-Ok.ensures.spreads (omega (arith, c.in-Ok.ensures.works))
