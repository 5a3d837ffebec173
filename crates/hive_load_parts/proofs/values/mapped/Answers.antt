use Rattle.std.proofs.Common.{◌≡◌, ◌<◌, ◌+◌, ◌++◌, ◌∷◌, [], ℕ, List, take, length, get_or, inr, refl, ◌∙◌, sym, ap, Option, Some, None, is_some, Bor}
use Rattle.std.specs.Option.{option_copied}
use Rattle.std.proofs.lemmas.List.{take_more}
use Rattle.reg_tree_parts.specs.declared.value.Value.{Value}
use Rattle.hive_records.specs.Names.{all_apart}
use Rattle.hive_records.specs.Values.{map_of}
use Rattle.hive_load_parts.specs.CellReads.{names_in}
use Rattle.hive_load_parts.proofs.Apart.{with_more, apart_more, alike, none_if}
use Rattle.hive_load_parts.proofs.values.mapped.Goals as goal

copied_is : {A : Type 0} (o : Option (Bor A)) → is_some (option_copied o) ≡ is_some o
copied_is None = refl
copied_is (Some x) = refl

next : (vs : List Value) (i : ℕ) (v : Value) → i < length vs → v ≡ get_or vs i v → take (i + 1) vs ≡ take i vs ++ v ∷ []
next vs i v h e = take_more vs i v h ∙ ap (λ (w : Value). take i vs ++ w ∷ []) (sym e)

pub returns-then-is_some : goal.returns-then-is_some
returns-then-is_some c = inr (
  c.from.ensures,
  alike c.args.found.now c.loop-value.value-index c.value-item.result c.loop-value.values c.loop-value-test.true (sym c.value-item.is) c.loop-value.invariant.map
      (ap is_some (sym c.get.ensures.found) ∙ copied_is c.get.result ∙ sym c.is_some.ensures ∙ c.if-is_some.true),
)

pub loop-value-preserved : goal.loop-value-preserved
loop-value-preserved c =
    let none = sym c.get.ensures.found ∙ none_if (option_copied c.get.result) (copied_is c.get.result ∙ sym c.is_some.ensures ∙ c.if-is_some.false) in
    record {
      map = c.in_ok-values.ensures ∙ with_more (take c.loop-value.value-index c.args.found.now) c.value-item.result c.loop-value.values c.loop-value.invariant.map none
          ∙ ap map_of (sym (next c.args.found.now c.loop-value.value-index c.value-item.result c.loop-value-test.true c.value-item.is));
      apart = ap (λ (vs : List Value). all_apart (names_in vs)) (next c.args.found.now c.loop-value.value-index c.value-item.result c.loop-value-test.true c.value-item.is)
          ∙ apart_more (take c.loop-value.value-index c.args.found.now) c.value-item.result c.loop-value.values c.loop-value.invariant.map c.loop-value.invariant.apart none;
    }
