use Rattle.std.proofs.Common.{nat_lt, sym, ◌∙◌, ap, arith}
use Rattle.std.specs.List.{list_all}
use Rattle.commit_outcomes.specs.CommitLists.{number_of_data}
use Rattle.commit_outcomes.proofs.Lists.{data_number}
use Rattle.commit_outcomes.proofs.ReadTrees.{passes_from}
use Rattle.commit_outcomes.proofs.kept_commit.commit_in.Goals as goal

pub returns-then-number-most-clause-is : goal.returns-then-number-most-clause-is
returns-then-number-most-clause-is c =
    let value = c.args.value.now in
    let got = data_number value.«data» c.in_ok-number.number (c.in_ok-number.ensures.number ∙ ap number_of_data c.bytes.ensures) in
    sym (passes_from c.args.most value (record {
      unit = sym c.in_ok-unit.ensures.is;
      kind = c.if-value-eq-COMMIT_KIND.true;
      long = got.0;
      bytes = ap (list_all (λ b. nat_lt b 256)) (sym c.bytes.ensures) ∙ c.in_ok-number.ensures.bytes;
      above = omega (arith, got.1, c.if-number-ge1.true);
      most = omega (arith, got.1, c.if-number-most.true);
    }))
