use Rattle.std.proofs.Common.{◌≡◌, ap, ◌∙◌, sym, subst}
use Rattle.std.proofs.lemmas.Bool.{false≢true}
use Rattle.base_block.specs.declared.block.BaseBlock.{BaseBlock}
use Rattle.base_block.specs.Layout.{block_at}
use Rattle.base_block.specs.Judgements.{IsLog}
use Rattle.dirt_log.specs.WholeLog.{block_of}
use Rattle.dirt_log.proofs.reader.read_block.Goals as goal

pub returns-in-Err-clause-refused : goal.returns-in-Err-clause-refused
returns-in-Err-clause-refused c =
    let same : c.read-base.result ≡ block_of c.args.bytes.now = c.read-base.ensures ∙ ap block_at c.copy_from_slice.ensures.after in
    (c.in-Err.ensures.why, (λ w. false≢true (c.in-Err.ensures.ok.1 (subst (λ (b : BaseBlock). IsLog b) (sym same) w.0))))
