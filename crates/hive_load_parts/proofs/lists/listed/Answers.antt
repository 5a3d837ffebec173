use Rattle.std.proofs.Common.{rules, ◌≡◌, true, false, ◌∙◌}
use Rattle.hive_load_parts.specs.CellReads.{marks_of}
use Rattle.hive_load_parts.proofs.ListSteps.{list_of_lists, list_plain}
use Rattle.hive_load_parts.proofs.lists.listed.Goals as goal

pub returns-then-not-list-clause-reads : goal.returns-then-not-list-clause-reads
returns-then-not-list-clause-reads c =
    let plain : c.args.list.now.is_indirect ≡ false = search (rules, c.if-not-list.true) in
    λ cells shows. list_plain c.args.list.now cells (marks_of c.args.seen.now) (marks_of c.args.seen.now) c.in_ok-found.found.items plain c.in_ok-found.ensures

pub returns-clause-reads : goal.returns-clause-reads
returns-clause-reads c =
    let lists : c.args.list.now.is_indirect ≡ true = search (rules, c.if-not-list.false) in
    λ cells shows. list_of_lists c.args.list.now cells (marks_of c.args.seen.now) (marks_of c.leaves.new.seen) (λ subkey_list. subkey_list.items) c.deref.result.now c.leaves.result lists (c.deref.ensures.value ∙ c.in_ok-found.ensures) (c.leaves.ensures.reads cells shows)
