use Rattle.std.proofs.Common.{◌∷◌, ◌++◌, [], List, ℕ, Option, sym, ap, ◌∙◌, append_assoc}
use Rattle.std.specs.List.{flat_map}
use Rattle.std.proofs.lemmas.List.{append-nil}
use Rattle.std.proofs.lemmas.List.Concat.{flat_map-append}
use Rattle.reply_lines.proofs.Written.{appends_both}
use Rattle.value_syntax.specs.Printed.{char_text, text_chars}
use Rattle.value_syntax.proofs.printer.write_text.Goals as goal

pub loop-c-preserved : goal.loop-c-preserved
loop-c-preserved g c =
    let before = c.loop-c.invariant in
    let next = c.in-Some.c in
    let word = c.args.word.now in (
      before.0 ++ next ∷ [],
      appends_both _ _ _ _ _ _ before.1 c.in_ok-write_char.ensures (append_assoc word (flat_map char_text before.0) (char_text next)
          ∙ ap (λ (t : List ℕ). word ++ t) (ap (λ (t : List ℕ). flat_map char_text before.0 ++ t) (sym (append-nil (char_text next))) ∙ sym (flat_map-append char_text before.0 (next ∷ [])))),
      append_assoc before.0 (next ∷ []) (text_chars c.in-Some.others.now) ∙ ap (λ (cs : List (Option ℕ)). before.0 ++ cs) (sym c.in-Some.ensures.chars) ∙ before.2,
    )
