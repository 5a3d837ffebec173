use Rattle.std.proofs.Common.{◌∷◌, ◌∙◌, ap}
use Rattle.std.specs.Option.{option_copied}
use Rattle.word_syntax.specs.Parts.{parts_of}
use Rattle.script_syntax.proofs.WordLists.{not_one}
use Rattle.script_syntax.proofs.words.one_word.Goals as goal

pub returns-in_default-Some : goal.returns-in_default-Some
returns-in_default-Some c =
    not_one (parts_of 32 (option_copied c.args.rest)) c.in_ok-word.field-0.0.now c.in_default-Some.field-0-1.now
    (c.in_ok-word.ensures ∙ ap (λ rest. c.in_ok-word.field-0.0.now ∷ parts_of 32 (option_copied rest)) c.in_default-Some.is-1)
