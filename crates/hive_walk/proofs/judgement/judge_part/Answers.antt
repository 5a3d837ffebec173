use Rattle.std.proofs.Common.{◌+◌, ℕ, List, [], refl, sym, subst, arith}
use Rattle.hive_load_parts.specs.CellReads.{marks_of}
use Rattle.hive_load.proofs.Ends.{root_lends}
use Rattle.key_walk.specs.KeyPaths.{names_on}
use Rattle.hive_walk.specs.Judgements.{KeyIsRead}
use Rattle.hive_walk.proofs.Judged.{part_unread, part_below, part_lent, part_sound}
use Rattle.hive_walk.proofs.judgement.judge_part.Goals as goal

pub returns-in-Err-judge_below : goal.returns-in-Err-judge_below
returns-in-Err-judge_below c = λ cells shows.
    let read = c.in-Ok.ensures.answers cells shows in
    let lent = subst (λ (listed : List ℕ). KeyIsRead c.args.split cells (marks_of c.args.seen.now) (marks_of c.read_key.new.seen) c.new-known.result c.read_key.new.known c.args.at c.in-Ok.read.0 listed) (sym c.deref.ensures.value) read in
    part_below c.args.split cells (marks_of c.args.seen.now) (marks_of c.judge_below.new.seen) c.args.at c.requires.unset (names_on c.args.path.now) c.args.levels (c.args.levels + 1) c.in-Err-judge_below.error (omega arith)
    (c.in-Err-judge_below.ensures.answers cells shows (marks_of c.args.seen.now) c.new-known.result c.in-Ok.read.0 lent)

pub returns-then-are_apart : goal.returns-then-are_apart
returns-then-are_apart c = λ cells shows.
    let read = c.in-Ok.ensures.answers cells shows in
    let lent = subst (λ (had : List (ℕ × List ℕ)). KeyIsRead c.args.split cells (marks_of c.args.seen.now) (marks_of c.read_key.new.seen) had c.read_key.new.known c.args.at c.in-Ok.read.0 c.deref.result.now) c.new-known.ensures
    (subst (λ (listed : List ℕ). KeyIsRead c.args.split cells (marks_of c.args.seen.now) (marks_of c.read_key.new.seen) c.new-known.result c.read_key.new.known c.args.at c.in-Ok.read.0 listed) (sym c.deref.ensures.value) read) in
    let judged = c.in-Ok-judge_below.ensures.answers cells shows (marks_of c.args.seen.now) [] c.in-Ok.read.0 lent in
    part_sound c.args.split cells (marks_of c.args.seen.now) (marks_of c.judge_below.new.seen) c.args.at c.requires.unset (names_on c.args.path.now) c.args.levels c.judge_below.new.known (c.args.levels + 1) judged.0 judged.1 (omega arith)
    (λ cell is. c.if-are_apart.ensures.apart refl cell is)

pub returns : goal.returns
returns c = λ cells shows.
    let read = c.in-Ok.ensures.answers cells shows in
    let lent = subst (λ (had : List (ℕ × List ℕ)). KeyIsRead c.args.split cells (marks_of c.args.seen.now) (marks_of c.read_key.new.seen) had c.read_key.new.known c.args.at c.in-Ok.read.0 c.deref.result.now) c.new-known.ensures
    (subst (λ (listed : List ℕ). KeyIsRead c.args.split cells (marks_of c.args.seen.now) (marks_of c.read_key.new.seen) c.new-known.result c.read_key.new.known c.args.at c.in-Ok.read.0 listed) (sym c.deref.ensures.value) read) in
    let judged = c.in-Ok-judge_below.ensures.answers cells shows (marks_of c.args.seen.now) [] c.in-Ok.read.0 lent in
    let met = c.if-are_apart.ensures.met refl in
    part_lent c.args.split cells (marks_of c.args.seen.now) (marks_of c.judge_below.new.seen) c.args.at c.requires.unset (names_on c.args.path.now) c.args.levels c.from.result c.refused_at.result c.from.ensures
    (root_lends c.args.split cells (marks_of c.args.seen.now) (marks_of c.judge_below.new.seen) c.args.at c.requires.unset c.judge_below.new.known (c.args.levels + 1) judged.0 judged.1 met.0 met.1 met.2 c.from.result c.from.ensures)
    c.refused_at.ensures

pub returns-in-Err : goal.returns-in-Err
returns-in-Err c = λ cells shows. part_unread c.args.split cells (marks_of c.args.seen.now) (marks_of c.read_key.new.seen) c.args.at c.requires.unset (names_on c.args.path.now) c.args.levels c.in-Err.error (c.in-Err.ensures.answers cells shows)
