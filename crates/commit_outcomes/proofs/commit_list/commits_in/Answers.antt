use Rattle.std.proofs.Common.{◌≡◌, ◌+◌, ◌<◌, ◌≤◌, nat_le, List, [], ◌∷◌, ◌++◌, length, map, take, sym, ◌∙◌, ap, subst, arith, length-take-le, vec_len}
use Rattle.std.specs.List.{list_all}
use Rattle.std.specs.FinMap as finite
use Rattle.std.proofs.lemmas.Bool.{and_from, and_right, le-leb}
use Rattle.std.proofs.lemmas.List.{take_all, length-map}
use Rattle.commit_outcomes.specs.Commits.{Commit}
use Rattle.commit_outcomes.specs.Trees.{commit_of, is_commit_value}
use Rattle.commit_outcomes.specs.CommitLists.{named_commit, named_commits}
use Rattle.commit_outcomes.specs.declared.commit_list.TheConstants.{MOST_COMMITS}
use Rattle.commit_outcomes.proofs.Roots.{take_one, there_is, map_more, all_more, one_fails, values_long}
use Rattle.commit_outcomes.proofs.commit_list.commits_in.Goals as goal

pub unreachable-requires : goal.unreachable-requires
unreachable-requires c =
    let lt : c.loop-index.index < length (finite.values c.args.values.now) = omega (arith, values_long c.args.values.now, c.len-index-end.ensures, c.loop-index-test.true) in
    there_is (finite.values c.args.values.now) c.loop-index.index lt (sym c.in_default.ensures)

pub returns-in_default-commit_in-clause-none : goal.returns-in_default-commit_in-clause-none
returns-in_default-commit_in-clause-none c =
    let values = finite.values c.args.values.now in
    and_right (nat_le (finite.len c.args.values.now) MOST_COMMITS) (list_all (is_commit_value c.args.most) values)
    (one_fails (is_commit_value c.args.most) values c.loop-index.index c.in-Some.value.now (sym c.in-Some.ensures) (sym c.in_default-commit_in.ensures.is))

pub push_reserved-requires : goal.push_reserved-requires
push_reserved-requires c =
    let values = finite.values c.args.values.now in
    let items = c.loop-index.commits.items in
    let count : length values ≡ c.len.result = values_long c.args.values.now ∙ sym c.len.ensures in
    let total : length values ≡ c.len-index-end.result = values_long c.args.values.now ∙ sym c.len-index-end.ensures in
    let long : length items ≡ c.loop-index.index =
    sym (length-map items named_commit) ∙ ap length c.loop-index.invariant.are ∙ length-map (take c.loop-index.index values) commit_of
    ∙ length-take-le c.loop-index.index values (omega (arith, total, c.loop-index-test.true)) in
    let is : length items ≡ vec_len c.loop-index.commits = sym c.loop-index.commits.ok.0 in
    omega (arith, long, is, count, total, c.loop-index-test.true, c.if-len-gt-MOST_COMMITS.false, c.loop-index.invariant.room)

pub loop-index-preserved : goal.loop-index-preserved
loop-index-preserved c =
    let values = finite.values c.args.values.now in
    let more : take (c.loop-index.index + 1) values ≡ take c.loop-index.index values ++ c.in-Some.value.now ∷ [] = take_one values c.loop-index.index c.in-Some.value.now (sym c.in-Some.ensures) in
    record {
      are = ap named_commits c.push_reserved.ensures.items ∙ map_more named_commit c.loop-index.commits.items c.in-Some-commit_in.commit
          ∙ ap (λ (l : List Commit). l ++ named_commit c.in-Some-commit_in.commit ∷ []) c.loop-index.invariant.are
          ∙ ap (λ (x : Commit). map commit_of (take c.loop-index.index values) ++ x ∷ []) c.in-Some-commit_in.ensures.commit
          ∙ sym (ap (map commit_of) more ∙ map_more commit_of (take c.loop-index.index values) c.in-Some.value.now);
      each = ap (list_all (is_commit_value c.args.most)) more ∙ all_more (is_commit_value c.args.most) (take c.loop-index.index values) c.in-Some.value.now c.loop-index.invariant.each (sym c.in-Some-commit_in.ensures.is);
      room = subst (λ n. MOST_COMMITS + 1 ≤ n) (sym c.push_reserved.ensures.capacity) c.loop-index.invariant.room;
    }

pub returns-clause-some : goal.returns-clause-some
returns-clause-some c =
    let values = finite.values c.args.values.now in
    let whole : take c.loop-index.index values ≡ values = take_all c.loop-index.index values (omega (arith, values_long c.args.values.now, c.len-index-end.ensures, c.loop-index-test.false)) in
    record {
      tell = and_from (nat_le (finite.len c.args.values.now) MOST_COMMITS) (list_all (is_commit_value c.args.most) values)
          (le-leb (finite.len c.args.values.now) MOST_COMMITS (omega (arith, c.len.ensures, c.if-len-gt-MOST_COMMITS.false)))
          (ap (list_all (is_commit_value c.args.most)) (sym whole) ∙ c.loop-index.invariant.each);
      are = c.loop-index.invariant.are ∙ ap (map commit_of) whole;
      room = c.loop-index.invariant.room;
    }
