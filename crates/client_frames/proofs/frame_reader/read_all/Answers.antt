use Rattle.std.proofs.Common.{◌-◌, length, take, sym, subst, rules}
use Rattle.std.specs.Io.KnownBytes.{Consumes}
use Rattle.std.proofs.KnownBytes.{Consumes-trans}
use borrow.Rule.Slice.PartMut.{post_of}
use Rattle.client_frames.proofs.Cuts.{take_front}
use Rattle.client_frames.proofs.frame_reader.read_all.Goals as goal

pub reads-preserved : goal.reads-preserved
reads-preserved g c =
    let from = c.reads.from in
    let more = c.in_ok-more.more in
    let buffer = c.reads.buffer in
    let known = g.R.Read.remaining c.args.reader.now in
    let mid = g.R.Read.remaining c.reads.reader in
    let after = g.R.Read.remaining c.read_more.new.reader in
    record {
      within = search rules;
      bytes = subst (Consumes known after) (sym (take_front from more buffer c.read_more.new.buffer (post_of from (length buffer - from) buffer) c.reads.invariant.within c.in_ok-more.ensures.within))
          (Consumes-trans known mid after (take from buffer) (take more c.read_more.new.buffer) c.reads.invariant.bytes c.in_ok-more.ensures.bytes);
    }
