use Rattle.std.proofs.Common.{◌∷◌, ap, ◌∙◌}
use Rattle.std.specs.Option.{option_copied}
use Rattle.reg_file.specs.Lines.{lines_left}
use Rattle.reg_file.specs.declared.lines.Encoding.TheVariants.{Utf8}
use Rattle.reg_file.proofs.Texts.{text_line, no_text_line, utf8_first}
use Rattle.reg_file.proofs.lines.read_utf8.Goals as goal

pub returns-in_ok-push_text-in-Ok-clause-line : goal.returns-in_ok-push_text-in-Ok-clause-line
returns-in_ok-push_text-in-Ok-clause-line c =
    let text = c.in-Ok.ensures.cases in
    utf8_first c.args.bytes.now c.first_line.result.0.now (option_copied c.first_line.result.1) c.first_line.ensures.lines ∙ ap (λ line. line ∷ lines_left Utf8 (option_copied c.first_line.result.1))
    (text_line c.first_line.result.0.now c.in-Ok.text.now c.args.line.now.items c.push_text.new.line.items text.0 text.1 c.requires c.in_ok-push_text-in-Ok.ensures)

pub returns-in-Err-clause-line : goal.returns-in-Err-clause-line
returns-in-Err-clause-line c =
    utf8_first c.args.bytes.now c.first_line.result.0.now (option_copied c.first_line.result.1) c.first_line.ensures.lines
    ∙ ap (λ line. line ∷ lines_left Utf8 (option_copied c.first_line.result.1)) (no_text_line c.first_line.result.0.now (c.in-Err.ensures.cases).0)
