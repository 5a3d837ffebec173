use Rattle.std.proofs.Common.{◌≡◌, inl, inr, ◌==◌, ◌&&◌, true, length, Some, None, if◌then◌else◌, slice_index, slice_set, sym, ◌∙◌, ap, arith, length-set, get_or-set_same, get_or-set_other}
use Rattle.std.specs.List.{list_all}
use Rattle.std.proofs.lemmas.Bool.{cases_eq, and_from, eq-eqb}
use Rattle.std.proofs.lemmas.List.{get_or_default, same_lists}
use Rattle.commit_outcomes.specs.Units as units
use Rattle.commit_outcomes.proofs.UnitNames.{all_at}
use Rattle.commit_outcomes.proofs.units.lower_text.Goals as goal

pub loop-place-preserved : goal.loop-place-preserved
loop-place-preserved c = record {
  long = length-set c.loop-place.bytes c.loop-place.place (slice_index c.args.text.now c.loop-place.place) ∙ c.loop-place.invariant.long;
  same = λ k lt. elim (cases_eq k c.loop-place.place) [
    | inl is ↦ ap (slice_index (slice_set c.loop-place.bytes c.loop-place.place (slice_index c.args.text.now c.loop-place.place))) is
        ∙ get_or-set_same c.loop-place.bytes c.loop-place.place (slice_index c.args.text.now c.loop-place.place) 0 (omega arith) ∙ ap (slice_index c.args.text.now) (sym is)
    | inr other ↦ get_or-set_other c.loop-place.bytes c.loop-place.place k (slice_index c.args.text.now c.loop-place.place) 0 other ∙ c.loop-place.invariant.same k (omega (arith, lt, other))
  ];
  pass = λ k lt. elim (cases_eq k c.loop-place.place) [
    | inl is ↦ ap (λ i. units.is_text_unit (slice_index c.args.text.now i)) is ∙ sym c.is_text_unit.ensures ∙ c.if-not-is_text_unit.false
    | inr other ↦ c.loop-place.invariant.pass k (omega (arith, lt, other))
  ];
}

pub returns : goal.returns
returns c =
    let text = c.args.text.now in
    let bytes = c.loop-place.bytes in
    let long : length text ≡ 36 = c.if-text-ne-NAME_UNITS.false in
    let same : bytes ≡ text = same_lists bytes text (c.loop-place.invariant.long ∙ sym long) (λ k d lt.
    get_or_default bytes k d 0 lt ∙ c.loop-place.invariant.same k (omega (arith, lt, c.loop-place.invariant.long, c.loop-place-test.false)) ∙ sym (get_or_default text k d 0 (omega (arith, lt, long, c.loop-place.invariant.long)))) in
    let all : list_all units.is_text_unit text ≡ true = all_at units.is_text_unit text (λ k lt. c.loop-place.invariant.pass k (omega (arith, lt, long, c.loop-place-test.false))) in
    let both : ((length text == 36) && list_all units.is_text_unit text) ≡ true = and_from (length text == 36) (list_all units.is_text_unit text) (eq-eqb (length text) 36 long) all in
    ap (λ l. Some l) same ∙ sym (ap (λ b. if b then Some text else None) both)
