use Rattle.std.proofs.Common.{◌≡◌, inl, inr, ⊎_elim, ℕ, ◌+◌, ◌-◌, ◌%◌, ◌<◌, ◌≤◌, ◌++◌, List, length, take, drop, sym, ap, ◌∙◌, arith, rules}
use Rattle.std.proofs.lemmas.Bool.{cases_lt}
use Rattle.std.proofs.lemmas.Slice.{take-put_mid}
use Rattle.std.proofs.lemmas.List.{drop-drop, length-take, length-drop}
use Rattle.std.proofs.Math.Seq.{take-add}
use Rattle.disk_model.specs.FileState.{FileState}
use Rattle.disk_model.proofs.Unwritten.{reads_on, no_change}
use Rattle.hive_files.proofs.files.fill.Goals as goal

pub chunks-preserved : goal.chunks-preserved
chunks-preserved g c =
    let old = g.D.Disk.state_at c.args.disk.now (g.D.Disk.clock c.args.disk.now) c.args.file in
    let mid = g.D.Disk.state_at c.chunks.disk (g.D.Disk.clock c.chunks.disk) c.args.file in
    let at = c.chunks.at in
    let n = c.min.result in
    let rest = drop c.args.offset old.seen in
    let same : mid.seen ≡ old.seen = ap (λ (s : FileState). s.seen) (no_change c.chunks.invariant.reads c.args.file) in
    record {
      size = search rules;
      within = search rules;
      bytes = λ faithful whole.
          let mid_faithful = c.in_ok-read_chunk.ensures.faithful faithful in
          let part = take (at + n - at) (drop at c.chunks.bytes) in
          let long : length part ≡ n = omega (arith, length-take (at + n - at) (drop at c.chunks.bytes), length-drop at c.chunks.bytes, c.min.ensures, c.chunks.invariant.size, c.chunks.invariant.within) in
          let size : length c.read_chunk.new.chunk ≡ n = c.in_ok-read_chunk.ensures.size ∙ long in
          let inside : c.args.offset + at + length part ≤ length mid.seen = omega (arith, long, whole, ap (λ (l : List ℕ). length l) same, c.min.ensures, c.chunks.invariant.size, c.chunks.invariant.within) in
          let chunk : c.read_chunk.new.chunk ≡ take n (drop (c.args.offset + at) old.seen) =
          c.in_ok-read_chunk.ensures.bytes faithful inside
          ∙ ap (λ (k : ℕ). take k (drop (c.args.offset + at) mid.seen)) long ∙ ap (λ (l : List ℕ). take n (drop (c.args.offset + at) l)) same in
          take-put_mid at (at + n - at) c.chunks.bytes c.read_chunk.new.chunk (at + n) (omega (arith, size)) (omega (arith, c.chunks.invariant.size, c.chunks.invariant.within))
          ∙ ap (λ (l : List ℕ). l ++ c.read_chunk.new.chunk) (c.chunks.invariant.bytes mid_faithful whole)
          ∙ ap (λ (l : List ℕ). take at rest ++ l) (chunk ∙ ap (λ (l : List ℕ). take n l) (sym (drop-drop at c.args.offset old.seen)))
          ∙ sym (take-add at n rest);
      calls = ⊎_elim
          (λ (even : at % 65536 ≡ 0). omega (arith, even, c.min.ensures, c.chunks-test.true, c.chunks.invariant.calls, c.in_ok-read_chunk.ensures.call, c.chunks.invariant.size))
          (λ (end : at ≡ length c.args.bytes.now). absurd (omega (arith, end, c.chunks-test.true, c.chunks.invariant.size)))
          c.chunks.invariant.whole;
      whole = ⊎_elim
          (λ (even : at % 65536 ≡ 0). ⊎_elim
          (λ (last : n < 65536). inr (omega (arith, last, c.min.ensures, c.chunks.invariant.size, c.chunks.invariant.within)))
          (λ (full : 65536 ≤ n). inl (omega (arith, even, full, c.min.ensures)))
          (cases_lt n 65536))
          (λ (end : at ≡ length c.args.bytes.now). absurd (omega (arith, end, c.chunks-test.true, c.chunks.invariant.size)))
          c.chunks.invariant.whole;
      reads = reads_on _ _ _ _ _ _ c.chunks.invariant.reads c.in_ok-read_chunk.ensures.reads;
      failures = omega (arith, c.chunks.invariant.failures, c.in_ok-read_chunk.ensures.failures);
      faithful = λ faithful. c.chunks.invariant.faithful (c.in_ok-read_chunk.ensures.faithful faithful);
    }
