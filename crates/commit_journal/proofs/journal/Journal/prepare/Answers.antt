use Rattle.std.proofs.Common.{arith}
use Rattle.commit_journal.specs.Journals.{store_of}
use Rattle.commit_journal.proofs.Begins.{ready_of}
use Rattle.commit_journal.proofs.journal.Journal.prepare.Goals as goal

pub returns-clause-ready : goal.returns-clause-ready
returns-clause-ready c =
    let j = c.args.self.now in
    let f = c.longest_prefix-prefix in
    let h = c.requires.handed in
    ready_of (store_of j) j.few j.on_device c.args.first c.args.handed.now f.result.count f.result.size c.in_ok-bytes.bytes.items c.push.new.self.items c.with_elements-ahead.result _
    c.in_ok-bytes.ensures.encoding c.in_ok-bytes.ensures.fit (grind arith) (omega arith) (f.ensures.some c.requires.some) f.ensures.prefix h.there f.ensures.size
    c.in_ok-push.ensures.items c.with_elements-ahead.ensures.decodes c.with_elements-ahead.ensures.gate
