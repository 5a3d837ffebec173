use Rattle.std.proofs.Common.{ℕ, List, ◌<◌, ◌≡◌, ◌-◌, length, subst, sym, arith, length-drop}
use Rattle.hive_log_entries.specs.Pages.{page_count, page_start}
use Rattle.hive_log_entries.proofs.Stops.{reference_there, bytes_there}
use Rattle.hive_log_entries.proofs.entry.LogEntry.page.Goals as goal

pub reference-size-requires : goal.reference-size-requires
reference-size-requires c =
    let Inside : List ℕ → Type 0 = λ bytes. c.args.index < page_count bytes in
    reference_there c.self.inside.bytes.now c.args.index c.self.invariant.1 (subst Inside (sym c.self.view_is) c.requires.inside)

pub first_bytes-requires : goal.first_bytes-requires
first_bytes-requires c =
    let Inside : List ℕ → Type 0 = λ bytes. c.args.index < page_count bytes in
    let Starts : List ℕ → Type 0 = λ bytes. c.args.start ≡ page_start bytes c.args.index in
    let start : c.args.start ≡ page_start c.self.inside.bytes.now c.args.index = subst Starts (sym c.self.view_is) c.requires.start in
    let within = bytes_there c.self.inside.bytes.now c.args.index c.self.invariant.1 (subst Inside (sym c.self.view_is) c.requires.inside) in
    let long : length c.bytes_from.result.now ≡ length c.self.inside.bytes.now - c.args.start = rw c.bytes_from.ensures (length-drop c.args.start c.self.inside.bytes.now) in
    rw c.reference-size.ensures (omega (arith, start, within, long))
