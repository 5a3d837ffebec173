use Rattle.std.proofs.Common.{◌≡◌, ◌<◌, ◌≤◌, ◌+◌, ◌*◌, ◌++◌, ◌∷◌, [], ℕ, List, take, ◌∙◌, ap, sym, subst, arith}
use Rattle.std.proofs.lemmas.List.{take_more, take_all}
use Rattle.hive_cells.specs.Tiles.{u32_at}
use Rattle.hive_records.specs.Numbers.{words_from}
use Rattle.hive_load_parts.proofs.Loops.{length_words, get_word}
use Rattle.hive_lookup.proofs.lists.offsets_in.Goals as goal

zero_on : (k : ℕ) → 0 + k ≡ k
zero_on k = omega arith

next : (bytes : List ℕ) (n i at : ℕ) → i < n → at ≡ u32_at bytes (4 * i) → take (i + 1) (words_from bytes 0 4 n) ≡ take i (words_from bytes 0 4 n) ++ at ∷ []
next bytes n i at h e = take_more (words_from bytes 0 4 n) i 0 (subst (λ z. i < z) (sym (length_words bytes 0 4 n)) h)
    ∙ ap (λ z. take i (words_from bytes 0 4 n) ++ z ∷ []) (get_word bytes 0 4 n i h ∙ ap (u32_at bytes) (zero_on (4 * i)) ∙ sym e)

pub loop-index-preserved : goal.loop-index-preserved
loop-index-preserved c = c.in_ok-push.ensures.items ∙ ap (λ z. z ++ c.u32_at.result ∷ []) c.loop-index.invariant
    ∙ sym (next c.args.list.now c.args.count c.loop-index.index c.u32_at.result c.loop-index-test.true c.u32_at.ensures)

pub returns : goal.returns
returns c = c.loop-index.invariant ∙ take_all c.loop-index.index (words_from c.args.list.now 0 4 c.args.count) (subst (λ z. z ≤ c.loop-index.index) (sym (length_words c.args.list.now 0 4 c.args.count)) c.loop-index-test.false)
