use Rattle.std.proofs.Common.{rules, ◌≡◌, suc, ◌+◌, ◌<◌, [], ◌++◌, length, take, drop, Option, Ok, Err, OnSome, sym, ◌∙◌, ap, subst, arith}
use Rattle.std.specs.List.{remove}
use Rattle.std.specs.List.Sorted.{IsBinarySearchResult}
use Rattle.std.specs.Ordering.{nat_cmp}
use Rattle.std.proofs.lemmas.List.Sorted.{answers_always}
use Rattle.commit_outcomes.specs.CommitLists.{others_of}
use Rattle.commit_outcomes.specs.declared.kept_commit.KeptCommit.{KeptCommit}
use Rattle.commit_outcomes.proofs.Places.{rise_named, removed_at, none_at, found_at, not_found}
use Rattle.commit_outcomes.proofs.commit_list.remove_earlier.Goals as goal

pub returns-in-Ok-clause-items : goal.returns-in-Ok-clause-items
returns-in-Ok-clause-items c =
    let result : IsBinarySearchResult (λ (k : KeptCommit). nat_cmp k.number c.in-Some.number) c.args.commits.now.items (Ok c.in-Ok.place) =
    c.in-Ok.ensures.position (λ (k : KeptCommit). k.number) (answers_always _ _ _ (λ f a r g called. search rules)) in
    let items = c.args.commits.now.items in
    let d : KeptCommit = record { number = 0; unit = [] } in
    let within : c.in-Ok.place < length items = subst (λ n. c.in-Ok.place < n) c.args.commits.now.ok.0 c.in-Ok.ensures.bound in
    let done = c.remove.ensures.succeeds d c.in-Ok.ensures.bound in
    let removed : c.remove.new.self.items ≡ remove items c.in-Ok.place =
    subst (λ (o : Option KeptCommit). OnSome o (c.remove.new.self.items ≡ remove items c.in-Ok.place)) done c.remove.ensures.items in
    let next : suc c.in-Ok.place ≡ c.in-Ok.place + 1 = omega arith in
    removed
    ∙ ap (λ n. take c.in-Ok.place items ++ drop n items) next
    ∙ removed_at items c.in-Ok.place c.in-Some.number (rise_named items c.requires) within (found_at items c.in-Some.number c.in-Ok.place result)
    ∙ ap (λ e. others_of e items) (sym c.in-Some.is)

pub returns-in_default-binary_search_by_key-clause-items : goal.returns-in_default-binary_search_by_key-clause-items
returns-in_default-binary_search_by_key-clause-items c =
    let items = c.args.commits.now.items in
    let result : IsBinarySearchResult (λ (k : KeptCommit). nat_cmp k.number c.in-Some.number) items (Err c.in_default-binary_search_by_key.field-0) =
    c.in_default-binary_search_by_key.ensures.position (λ (k : KeptCommit). k.number) (answers_always _ _ _ (λ f a r g called. search rules)) in
    none_at items c.in-Some.number (not_found items c.in-Some.number c.in_default-binary_search_by_key.field-0 (rise_named items c.requires) result)
    ∙ ap (λ e. others_of e items) (sym c.in-Some.is)
