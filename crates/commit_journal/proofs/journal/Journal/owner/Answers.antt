use Rattle.std.proofs.Common.{◌≡◌, ◌∙◌, ◌<◌, List, ℕ, length, take, sym, ap, subst, arith}
use Rattle.disk_model.proofs.Unwritten.{no_change}
use Rattle.disk_model.specs.FileState.{FileState}
use Rattle.commit_journal.specs.ReadBuffers.{journal_bytes_at, rest_of}
use Rattle.commit_journal.proofs.HeaderRead.{none_short, none_without, only_one}
use Rattle.commit_journal.proofs.Pieces.{fails_on, value_of, refusal_of, front_there}
use Rattle.commit_journal.proofs.journal.Journal.owner.Goals as goal

pub returns-in-Err-clause-fails : goal.returns-in-Err-clause-fails
returns-in-Err-clause-fails g c =
    let file = journal_bytes_at (g.D.Disk.state_at c.args.disk.now) (g.D.Disk.clock c.args.disk.now) in
    let w = c.in_ok-buffer.buffer in
    let same : journal_bytes_at (g.D.Disk.state_at c.len.new.disk) (g.D.Disk.clock c.len.new.disk) ≡ file = ap (λ (s : FileState). s.seen) (no_change c.in_ok-end.ensures.no_change 0) in
    fails_on _ _ _ _ c.in-Err.why (λ f. omega (arith, f, c.in_ok-end.ensures.failures)) (λ short faithful.
    let end : w.end_of_file ≡ length file = c.in_ok-buffer.ensures.end ∙ c.in_ok-end.ensures.len (c.in-Err.ensures.faithful faithful) in
    let few : length (rest_of file w) < 64 = subst (λ (l : List ℕ). length (rest_of l w) < 64) same (short faithful (end ∙ ap (λ (l : List ℕ). length l) (sym same))) in
    none_short file (omega (arith, few, ap (λ (l : List ℕ). length l) (c.in_ok-buffer.ensures.rest file)))) c.in-Err.ensures.fails

pub returns-clause-fails : goal.returns-clause-fails
returns-clause-fails g c =
    let file = journal_bytes_at (g.D.Disk.state_at c.args.disk.now) (g.D.Disk.clock c.args.disk.now) in
    let w = c.fill.new.self in
    let same : journal_bytes_at (g.D.Disk.state_at c.len.new.disk) (g.D.Disk.clock c.len.new.disk) ≡ file = ap (λ (s : FileState). s.seen) (no_change c.in_ok-end.ensures.no_change 0) in
    refusal_of c.decode.result _ _ _ _ (λ none faithful.
    let end : c.in_ok-buffer.buffer.end_of_file ≡ length file = c.in_ok-buffer.ensures.end ∙ c.in_ok-end.ensures.len (c.in-Ok.ensures.faithful faithful) in
    let rest : rest_of file w ≡ file
    = subst (λ (l : List ℕ). rest_of l w ≡ rest_of l c.in_ok-buffer.buffer) same (c.in-Ok.ensures.rest faithful (end ∙ ap (λ (l : List ℕ). length l) (sym same))) ∙ c.in_ok-buffer.ensures.rest file in
    none_without file (λ store is begin_batch. none store is (ap (take 64) c.bytes.ensures ∙ front_there file w rest c.in-Ok.ensures.there ∙ begin_batch))) c.decode.ensures

pub returns-clause-header : goal.returns-clause-header
returns-clause-header g c = value_of c.decode.result _ _ _ (λ owner is faithful.
    let file = journal_bytes_at (g.D.Disk.state_at c.args.disk.now) (g.D.Disk.clock c.args.disk.now) in
    let w = c.fill.new.self in
    let same : journal_bytes_at (g.D.Disk.state_at c.len.new.disk) (g.D.Disk.clock c.len.new.disk) ≡ file = ap (λ (s : FileState). s.seen) (no_change c.in_ok-end.ensures.no_change 0) in
    let end : c.in_ok-buffer.buffer.end_of_file ≡ length file = c.in_ok-buffer.ensures.end ∙ c.in_ok-end.ensures.len (c.in-Ok.ensures.faithful faithful) in
    let rest : rest_of file w ≡ file
    = subst (λ (l : List ℕ). rest_of l w ≡ rest_of l c.in_ok-buffer.buffer) same (c.in-Ok.ensures.rest faithful (end ∙ ap (λ (l : List ℕ). length l) (sym same))) ∙ c.in_ok-buffer.ensures.rest file in
    sym (front_there file w rest c.in-Ok.ensures.there) ∙ ap (take 64) (sym c.bytes.ensures) ∙ is.1) c.decode.ensures

pub returns-clause-only : goal.returns-clause-only
returns-clause-only g c = value_of c.decode.result _ _ _ (λ owner is faithful store s is_store decodes.
    let file = journal_bytes_at (g.D.Disk.state_at c.args.disk.now) (g.D.Disk.clock c.args.disk.now) in
    let w = c.fill.new.self in
    let same : journal_bytes_at (g.D.Disk.state_at c.len.new.disk) (g.D.Disk.clock c.len.new.disk) ≡ file = ap (λ (s : FileState). s.seen) (no_change c.in_ok-end.ensures.no_change 0) in
    let end : c.in_ok-buffer.buffer.end_of_file ≡ length file = c.in_ok-buffer.ensures.end ∙ c.in_ok-end.ensures.len (c.in-Ok.ensures.faithful faithful) in
    let rest : rest_of file w ≡ file
    = subst (λ (l : List ℕ). rest_of l w ≡ rest_of l c.in_ok-buffer.buffer) same (c.in-Ok.ensures.rest faithful (end ∙ ap (λ (l : List ℕ). length l) (sym same))) ∙ c.in_ok-buffer.ensures.rest file in
    only_one file store _ s is_store is.0 decodes (sym (front_there file w rest c.in-Ok.ensures.there) ∙ ap (take 64) (sym c.bytes.ensures) ∙ is.1)) c.decode.ensures
