use Rattle.std.proofs.Common.{◌≡◌, drop, map}
use Rattle.reg_prefixes.specs.Words.{meaning_of, word_meanings}
use Rattle.reg_prefixes.proofs.Meanings.{onto_front}
use Rattle.reg_prefixes.proofs.prefixes.word_prefixes.Given as goal

-- what the first words say, and then what the others do
abbrev pub invariant-loop-word : goal.invariant-loop-word
invariant-loop-word l = word_meanings l.words ≡ onto_front (map meaning_of l.list.items) (word_meanings (drop l.word-index l.words))
