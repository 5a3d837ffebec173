use Rattle.std.proofs.Common.{◌≡◌, ℕ, ◌+◌, ◌-◌, ◌≤◌, List, ◌++◌, length, take, drop, sym, ◌∙◌, ap, subst, arith, drop_at}
use Rattle.std.specs.Io.KnownBytes.{Consumes}
use Rattle.std.proofs.KnownBytes.{Consumes-more}
use Rattle.std.proofs.Transfers.{starts_with_of_append, drop-appended}
use Rattle.std.proofs.lemmas.List.{append_assoc, take_all, take_at, take-take, take-append-le}
use borrow.Rule.Slice.PartMut.{put_mid, post_of}
use lib.Seq.{take-add}
use Rattle.hive_file_reader.proofs.bytes.append_part.Goals as goal

-- what a vector holds after bytes were made room for, a part of them was written, and the others were cut off
written : (from count k most size : ℕ) (part grown room zeros buffer tail new : List ℕ) → length part ≡ from → room ≡ grown → grown ≡ take (from + most) part ++ zeros → count ≤ length buffer → from + count ≤ size → new ≡ take (from + count) (take size (put_mid from k room buffer ++ tail))
    → new ≡ part ++ take count buffer
written from count k most size part grown room zeros buffer tail new long is zeroed within fits now =
    let after = post_of from k room ++ tail in
    let front : take from room ≡ part = ap (take from) (is ∙ zeroed ∙ ap (λ (l : List ℕ). l ++ zeros) (take_all (from + most) part (omega (arith, long)))) ∙ take_at part zeros from long in
    let same : put_mid from k room buffer ++ tail ≡ part ++ (buffer ++ after) = append_assoc (take from room) (buffer ++ post_of from k room) tail ∙ ap (λ (l : List ℕ). take from room ++ l) (append_assoc buffer (post_of from k room) tail)
    ∙ ap (λ (l : List ℕ). l ++ (buffer ++ after)) front in
    now ∙ take-take (from + count) size (put_mid from k room buffer ++ tail) fits ∙ ap (take (from + count)) same ∙ take-add from count (part ++ (buffer ++ after))
    ∙ ap (λ (l : List ℕ). l ++ take count (drop from (part ++ (buffer ++ after)))) (take_at part (buffer ++ after) from long)
    ∙ ap (λ (l : List ℕ). part ++ take count l) (drop_at part (buffer ++ after) from long)
    ∙ ap (λ (l : List ℕ). part ++ l) (take-append-le count buffer after within)

pub returns-then-count-most-clause-bytes : goal.returns-then-count-most-clause-bytes
returns-then-count-most-clause-bytes g c =
    let known = g.R.Read.remaining c.args.reader.now in
    let mid = g.R.Read.remaining c.pieces.reader in
    let now = g.R.Read.remaining c.fill.new.reader in
    let old = c.args.bytes.now.items in
    let part = c.pieces.bytes.items in
    let room = c.deref_mut.result.now in
    let from = c.len-from.result in
    let count = c.in_ok-count.count in
    let buffer = c.fill.new.buffer in
    let new = c.truncate.new.self.items in
    let held = c.make_room.new.part.items in
    let long : length held ≡ from = omega (arith, ap (λ (l : List ℕ). length l) c.make_room.ensures, c.len-from.ensures) in
    let fits : from + count ≤ c.resize.new.self.len = omega (arith, c.if-count-most.true, c.in_ok-resize.ensures.len) in
    let filled : new ≡ held ++ take count buffer = written from count (length room - from) c.min-most.result c.resize.new.self.len held c.resize.new.self.items room _ buffer (drop (length (put_mid from (length room - from) room buffer)) c.resize.new.self.items) new long
    c.deref_mut.ensures.value c.in_ok-resize.ensures.items c.in_ok-count.ensures.within fits c.truncate.ensures.items in
    let grown : new ≡ part ++ take count buffer = filled ∙ ap (λ (l : List ℕ). l ++ take count buffer) c.make_room.ensures in
    Consumes-more known mid now old part new c.pieces.invariant.appends (starts_with_of_append new part (take count buffer) grown) c.pieces.invariant.bytes
    (subst (Consumes mid now) (sym (drop-appended part new (take count buffer) grown)) c.in_ok-count.ensures.bytes)
