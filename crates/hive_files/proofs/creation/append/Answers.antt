use Rattle.std.proofs.Common.{◌≡◌, ℕ, ◌+◌, ◌-◌, ◌≤◌, ◌++◌, List, length, take, drop, sym, ap, ◌∙◌, arith, append_assoc, length-append, rules}
use Rattle.std.proofs.lemmas.List.{length-take}
use Rattle.std.proofs.Math.Seq.{take-add}
use Rattle.hive_files.proofs.Anew.{appended, stays_on, stays_once}
use Rattle.hive_files.proofs.Chunks.{chunks_on, chunks_written}
use Rattle.hive_files.proofs.creation.append.Goals as goal

pub chunks-preserved : goal.chunks-preserved
chunks-preserved g c =
    let bytes = c.args.bytes.now in
    let old = (g.D.Disk.state_at c.args.disk.now (g.D.Disk.clock c.args.disk.now) c.args.file).seen in
    let at = c.chunks.at in
    let n = c.min.result in
    let same : at + n - at ≡ n = omega arith in
    record {
      within = search rules;
      seen = λ faithful long.
          let mid = c.chunks.invariant.seen (c.in_ok-write_at.ensures.faithful faithful) long in
          let end = ap (λ (l : List ℕ). length l) mid ∙ length-append old (take at bytes) in
          appended (c.args.from + at) (take (at + n - at) (drop at bytes)) _ _ (c.in_ok-write_at.ensures.written faithful) (omega (arith, end, long, length-take at bytes, c.chunks.invariant.within))
          ∙ ap (λ (l : List ℕ). l ++ take (at + n - at) (drop at bytes)) mid
          ∙ append_assoc old (take at bytes) (take (at + n - at) (drop at bytes))
          ∙ ap (λ (k : ℕ). old ++ (take at bytes ++ take k (drop at bytes))) same
          ∙ ap (λ (l : List ℕ). old ++ l) (sym (take-add at n bytes));
      stays = stays_on _ _ _ _ _ _ _ c.chunks.invariant.stays (stays_once _ _ _ _ _ c.in_ok-write_at.ensures.time c.in_ok-write_at.ensures.others);
      chunks = λ faithful.
          let part = take (at + n - at) (drop at bytes) in
          let few : length part ≤ 65536 = omega (arith, c.min.ensures, length-take (at + n - at) (drop at bytes)) in
          let time = c.in_ok-write_at.ensures.time in
          let others = c.in_ok-write_at.ensures.others in
          chunks_on _ _ _ _ _ _ c.chunks.invariant.stays.time (stays_once c.args.file _ _ _ _ time others).time
          (c.chunks.invariant.chunks (c.in_ok-write_at.ensures.faithful faithful))
          (chunks_written c.args.file _ _ _ _ time others faithful c.write_at.result (c.args.from + at) part few c.write_at.ensures.written c.write_at.ensures.failed);
      failures = search rules;
      faithful = λ faithful. c.chunks.invariant.faithful (c.in_ok-write_at.ensures.faithful faithful);
    }
