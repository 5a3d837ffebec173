-- Which changes are retained.
use Rattle.std.proofs.Common.{◌≡◌, ◌∙◌, inl, inr, refl, ℕ, ◌<◌, ◌≤◌, List, [], Some, None, ap, arith, map, slice_get, subst, sym}
use Rattle.std.specs.Prelude.{max, Option}
use Rattle.std.specs.Option.{option_map}
use Rattle.std.proofs.lemmas.Bool.{cases_lt}
use Rattle.std.proofs.lemmas.Option.{none-some, slice_get-map}
use Rattle.std.proofs.Math.Nat.{max-eq_left, max-eq_right}
use Rattle.reg_tree.specs.declared.element.Element.{Element}
use Rattle.crash_model.specs.Life.{ops_in}
use Rattle.store_model.specs.Machine.{Machine, last_number}
use Rattle.hive_flush.specs.HiveStates.{memory_of}
use Rattle.hive_flush.specs.declared.hive.HiveFile.{HiveFile}
use Rattle.engine_invariant.specs.Prefixes.{view_of}
use Rattle.engine_invariant.specs.States.{HiveView, life_of}
use Rattle.engine.specs.Discards.{AreHeld, AreRetainedAfter}

-- what holds of each hive holds of what is seen of it
of_views : (P : HiveView → ℕ → Type 0) (hives : List HiveFile) → ((i : ℕ) (hive : HiveFile) → slice_get hives i ≡ Some hive → P (view_of hive) i) → (i : ℕ) (view : HiveView) → slice_get (map view_of hives) i ≡ Some view → P view i
of_views P hives each i view is = found (slice_get hives i) (each i) (sym (slice_get-map view_of hives i) ∙ is)
  where
    same : (x y : HiveView) → Some x ≡ Some y → x ≡ y
    same x y h = cc

    found : (at : Option HiveFile) → ((hive : HiveFile) → at ≡ Some hive → P (view_of hive) i) → option_map view_of at ≡ Some view → P view i
    found None holds there = absurd (none-some view there)
    found (Some hive) holds there = subst (λ (v : HiveView). P v i) (same (view_of hive) view there) (holds hive refl)

module _ (machine : Machine) (base : ℕ) (opened : List Element) (hives : List HiveFile) (number from gone : ℕ) where
  -- changes are retained after the greater of two numbers: that of the opening, and that up to which hives have them
  pub retained_after : number < from → from ≡ max machine.before gone → machine.before ≤ machine.durable → machine.durable ≤ last_number machine → gone ≤ machine.durable
      → ((i : ℕ) (hive : HiveFile) → slice_get hives i ≡ Some hive → ops_in (life_of machine base opened) i (memory_of hive).1 gone ≡ []) → AreRetainedAfter machine base opened (map view_of hives) number from
  retained_after above is early known high lacked = elim (cases_lt machine.before gone) [
    | inl later ↦
        let same : from ≡ gone = is ∙ max-eq_right (omega (arith, later)) in
        record {
          above = above;
          there = omega (arith, same, high, known);
          why = inr (record {
            durable = omega (arith, same, high);
            held = subst (λ (n : ℕ). (i : ℕ) (view : HiveView) → slice_get (map view_of hives) i ≡ Some view → ops_in (life_of machine base opened) i view.memory.1 n ≡ []) (sym same)
                (of_views (λ view i. ops_in (life_of machine base opened) i view.memory.1 gone ≡ []) hives lacked);
          });
        }
    | inr earlier ↦
        let same : from ≡ machine.before = is ∙ max-eq_left earlier in
        record { above = above; there = omega (arith, same, early, known); why = inl same }
  ]
