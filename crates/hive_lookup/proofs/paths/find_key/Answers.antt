use Rattle.std.proofs.Common.{◌≡◌, ◌<◌, ◌≤◌, ℕ, List, length, take, get_or, Option, ◌∙◌, ap, sym, subst}
use Rattle.std.proofs.lemmas.List.{take_all}
use Rattle.reg_names.specs.Names.{folded, folded_path}
use Rattle.hive_lookup.specs.declared.list_kind.ListKind.TheVariants.{Subkeys}
use Rattle.hive_lookup.specs.Lookups.{ErrorTells, LacksNext, NextBreaks, PathLeads}
use Rattle.hive_lookup.proofs.Searches.{one_is_read}
use Rattle.hive_lookup.proofs.Ways.{path_more, path_length, next_name, one_name_more}
use Rattle.hive_lookup.proofs.paths.find_key.Goals as goal

pub returns-in-Err-find_listed : goal.returns-in-Err-find_listed
returns-in-Err-find_listed c = λ cells shows.
    let names : List (List ℕ) = c.args.path.now in
    let i = c.loop-depth.depth in
    let name : List ℕ = c.index-names-depth.result in
    let lt : i < length names = subst (λ (l : List (List ℕ)). i < length l) c.names-names.ensures.names c.loop-depth-test.true in
    let is : name ≡ get_or names i name = c.index-names-depth.is ∙ ap (λ (l : List (List ℕ)). get_or l i name) c.names-names.ensures.names in (
      c.loop-depth.at,
      (c.loop-depth.invariant cells shows).0,
      subst (λ (o : Option (List ℕ)). ErrorTells (LacksNext cells c.loop-depth.at o) (NextBreaks cells c.loop-depth.at o) c.in-Err-find_listed.error) (sym (next_name names i name lt is)) (c.in-Err-find_listed.ensures cells shows),
    )

pub loop-depth-preserved : goal.loop-depth-preserved
loop-depth-preserved c = λ cells shows.
    let names : List (List ℕ) = c.args.path.now in
    let i = c.loop-depth.depth in
    let name : List ℕ = c.index-names-depth.result in
    let lt : i < length names = subst (λ (l : List (List ℕ)). i < length l) c.names-names.ensures.names c.loop-depth-test.true in
    let is : name ≡ get_or names i name = c.index-names-depth.is ∙ ap (λ (l : List (List ℕ)). get_or l i name) c.names-names.ensures.names in
    let one = c.in-Ok.ensures cells shows in (
      subst (λ (l : List (List ℕ)). PathLeads cells c.args.root l c.in-Ok.subkey) (sym (one_name_more names i name lt is))
          (path_more cells (take i (folded_path names)) (folded name) c.args.root c.loop-depth.at c.in-Ok.subkey (c.loop-depth.invariant cells shows).0 one),
      one_is_read Subkeys cells c.loop-depth.at (folded name) c.in-Ok.subkey one,
    )

pub returns : goal.returns
returns c = λ cells shows.
    let names : List (List ℕ) = c.args.path.now in
    let many : length names ≤ c.loop-depth.depth = subst (λ (l : List (List ℕ)). length l ≤ c.loop-depth.depth) c.names-names.ensures.names c.loop-depth-test.false in (
      subst (λ (l : List (List ℕ)). PathLeads cells c.args.root l c.loop-depth.at)
          (take_all c.loop-depth.depth (folded_path names) (subst (λ n. n ≤ c.loop-depth.depth) (sym (path_length names)) many)) (c.loop-depth.invariant cells shows).0,
      (c.loop-depth.invariant cells shows).1,
    )
