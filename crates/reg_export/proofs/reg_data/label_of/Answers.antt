use Rattle.std.proofs.Common.{◌≡◌, ℕ, false, List, ◌++◌, Some, sym, ap, subst, ◌∙◌, codes, append_assoc}
use Rattle.std.specs.Prelude.{◌==◌, if◌then◌else◌}
use Rattle.std.specs.Fmt.{digits, option_append, WritesText}
use Rattle.std.proofs.Common.{arith}
use Rattle.std.proofs.lemmas.Bool.Decides.{nat_tests}
use Rattle.std.proofs.lemmas.Fmt.{contents_after_writes}
use Rattle.arrayvec.specs.declared.array_string.ArrayString.{ArrayString}
use Rattle.reg_export.specs.RegTexts.{list_label}
use Rattle.reg_export.proofs.reg_data.label_of.Goals as goal

abbrev Takes : ArrayString 14 → List ℕ → ArrayString 14 → Type 0
Takes old bytes new = new.bytes ≡ old.bytes ++ bytes

not_three : (kind : ℕ) → (kind ≡ 3 → ⊥) → (kind == 3) ≡ false
not_three kind h = grind (arith, nat_tests)

pub returns-then-kind-eq-BINARY : goal.returns-then-kind-eq-BINARY
returns-then-kind-eq-BINARY c =
    contents_after_writes Takes (λ (s : ArrayString 14). s.bytes) (λ old bytes new e. e) c.new-label.result _ c.write.new.self c.in_ok-write.ensures.writes
    ∙ ap (λ (bytes : List ℕ). bytes ++ codes "hex:") c.new-label.ensures ∙ ap list_label (sym c.if-kind-eq-BINARY.true)

pub returns : goal.returns
returns c =
    let digit_list : List ℕ = digits 16 false c.args.kind in
    let writes = subst (λ o. WritesText Takes c.new-label.result (option_append (Some (codes "hex(")) (option_append o (Some (codes "):")))) c.write-2.new.self) c.in_radix.ensures c.in_ok-write-2.ensures.writes in
    contents_after_writes Takes (λ (s : ArrayString 14). s.bytes) (λ old bytes new e. e) c.new-label.result (codes "hex(" ++ (digit_list ++ codes "):")) c.write-2.new.self writes
    ∙ ap (λ (bytes : List ℕ). bytes ++ (codes "hex(" ++ (digit_list ++ codes "):"))) c.new-label.ensures
    ∙ sym (append_assoc (codes "hex(") digit_list (codes "):")) ∙ ap (λ b. if b then codes "hex:" else (codes "hex(" ++ digit_list) ++ codes "):") (sym (not_three c.args.kind c.if-kind-eq-BINARY.false))
