use Rattle.std.proofs.Common.{◌≡◌, ◌≤◌, ◌++◌, ◌-◌, List, ℕ, length, take, drop}
use Rattle.commit_journal.specs.Reading.{in_partial_body, encodings_for, ElementsAreSound, PartialIsSound, read_by, IsLastOfPartial, TakesOn}
use Rattle.commit_journal.proofs.reader.Reader.encodings.Given as goal

abbrev pub invariant-elements : goal.invariant-elements
invariant-elements g l = record {
  elements : ElementsAreSound l.self.hives l.self.on_device (take l.partial_body.start (read_by l.self)) (read_by l.self);
  partial_body : PartialIsSound l.self.on_device (read_by l.self) l.partial_body;
  tied : IsLastOfPartial l.self.last (read_by l.self) l.partial_body;
  hives : l.self.hives ≡ l.fn.self.hives;
  takes : TakesOn g.S.ElementSink.Took l.fn.sink l.sink l.fn.self l.self;
  some : 1 ≤ l.taken;
  within : l.taken ≤ length l.bytes;
  reads : (header file behind : List ℕ) → in_partial_body (encodings_for header l.fn.self) file l.fn.self.on_device (read_by l.fn.self) l.fn.partial_body (l.bytes ++ behind) → in_partial_body (encodings_for header l.self) file l.self.on_device (read_by l.self) l.partial_body (drop l.taken l.bytes ++ behind);
}

abbrev pub decreases-elements : goal.decreases-elements
decreases-elements g l = length l.bytes - l.taken
