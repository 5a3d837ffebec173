use Rattle.std.proofs.Common.{◌≡◌, ◌<◌, ◌+◌, ◌^◌, ◌++◌, ℕ, List, length, length-append, take, sym, ap, ◌∙◌, subst, arith, refl}
use Rattle.hive_records.specs.KeyEncodings.{security_bytes}
use Rattle.hive_emit.specs.CellWrites.{Makes, Puts, Uses, cell_cost}
use Rattle.hive_emit.specs.declared.security.SecurityEntry.{SecurityEntry}
use Rattle.hive_emit.specs.EmittedKeys.{KeepsSecurityCells, Has, AreShort}
use Rattle.hive_emit.proofs.SecurityTables.{none_held, one_held, set_keeps, same_read, short_at, short_set, long_set, there_is, linked}
use Rattle.std.proofs.lemmas.List.{take_all}
use Rattle.hive_records.proofs.Sizes.{long_security}
use Rattle.hive_emit.proofs.NewCells.{none_used, lands_used, stops_later}
use Rattle.hive_emit.specs.KeyCosts.{security_cost, securities_cost}
use Rattle.hive_emit.specs.Forms.{behind}
use Rattle.hive_emit.specs.SecurityTables.{tallies, AreApart, planned_offset, Laid}
use Rattle.hive_emit.proofs.Counting.{tallies_set}
use Rattle.hive_emit.proofs.Filing.{filed_apart}
use Rattle.hive_emit.proofs.Ringing.{spot_next, spot_same, long_same, behind_next, laid_none, laid_next}
use Rattle.hive_emit.proofs.KeySums.{uses_put, cost_set, cost_within}
use Rattle.hive_emit.proofs.security.SecurityTable.put.Goals as goal

pub loop-index-preserved : goal.loop-index-preserved
loop-index-preserved c =
    let items : List SecurityEntry = c.self-in-loop-index.inside.cells.items in
    let view : items ≡ c.loop-index.self = c.self-in-loop-index.view_is in
    let inside : c.loop-index.index < length items = omega (arith, c.loop-index-test.true, c.len-count.ensures, ap length c.self.view_is, ap length view, c.loop-index.invariant.len) in
    let short : AreShort items = subst AreShort (sym view) c.loop-index.invariant.short in
    let few : length c.index_mut-security.result.now.descriptor < 2 ^ 32 = short_at items c.loop-index.index c.index_mut-security.result.now short inside c.index_mut-security.ensures.value in
    let twin : c.index-security.result.now ≡ c.index_mut-security.result.now = same_read items c.loop-index.index c.index-security.result.now c.index_mut-security.result.now inside c.index-security.ensures c.index_mut-security.ensures.value in
    let new : SecurityEntry = linked c.index_mut-security.result.now c.in-Ok.at c.next_at-next.result c.loop-index.previous in
    let same : c.bytes.result.now ≡ c.index_mut-security.result.now.descriptor = c.bytes.ensures ∙ ap (λ (s : SecurityEntry). s.descriptor) twin in
    let encoding : c.deref.result.now ≡ security_bytes c.next_at-next.result c.loop-index.previous c.index-security.result.now.count c.index_mut-security.result.now.descriptor =
    c.deref.ensures.value ∙ c.in_ok-put_security.ensures ∙ ap (λ xs. xs ++ security_bytes c.next_at-next.result c.loop-index.previous c.index-security.result.now.count c.bytes.result.now) c.clear.ensures.items ∙ ap (security_bytes c.next_at-next.result c.loop-index.previous c.index-security.result.now.count) same in
    let old_tallies : tallies items ≡ tallies c.args.self.now = ap tallies view ∙ c.loop-index.invariant.same in
    let within : c.loop-index.index < length c.args.self.now = omega (arith, inside, long_same items c.args.self.now old_tallies) in
    let size : c.len.result ≡ 20 + length c.bytes.result.now = omega (arith, c.len.ensures, ap length c.in_ok-put_security.ensures, ap length c.clear.ensures.items, long_security c.next_at-next.result c.loop-index.previous c.index-security.result.now.count c.bytes.result.now, length-append c.clear.new.self.items (security_bytes c.next_at-next.result c.loop-index.previous c.index-security.result.now.count c.bytes.result.now)) in
    let step : planned_offset c.args.self.now (c.loop-index.index + 1) ≡ planned_offset c.args.self.now c.loop-index.index + cell_cost c.len.result =
    sym (spot_same items c.args.self.now (c.loop-index.index + 1) old_tallies) ∙ spot_next items c.loop-index.index c.index_mut-security.result.now (there_is items c.loop-index.index c.index_mut-security.result.now inside c.index_mut-security.ensures.value) ∙ ap (λ (n : ℕ). n + security_cost c.index_mut-security.result.now) (spot_same items c.args.self.now c.loop-index.index old_tallies) ∙ (let same_size : planned_offset c.args.self.now c.loop-index.index + security_cost c.index_mut-security.result.now ≡ planned_offset c.args.self.now c.loop-index.index + cell_cost c.len.result = omega (arith, size, ap length same) in same_size) in
    let now_tallies : tallies c.loop-index.self ≡ tallies c.args.self.now = c.loop-index.invariant.same in
    let next_is : c.next_at-next.result ≡ planned_offset c.args.self.now (behind (length c.args.self.now) c.loop-index.index) =
    c.next_at-next.ensures (omega (arith, within, long_same c.loop-index.self c.args.self.now now_tallies)) (c.loop-index.invariant.next within ∙ sym (spot_same c.loop-index.self c.args.self.now c.loop-index.index now_tallies))
    ∙ ap (λ (n : ℕ). planned_offset c.loop-index.self (behind n c.loop-index.index)) (long_same c.loop-index.self c.args.self.now now_tallies) ∙ spot_same c.loop-index.self c.args.self.now (behind (length c.args.self.now) c.loop-index.index) now_tallies in
    record {
      made = one_held c.args.image.now.bytes c.loop-index.image.bytes c.put_cell.new.image.bytes items c.loop-index.index c.next_at-next.result c.loop-index.previous c.index-security.result.now.count c.in-Ok.at new inside refl refl refl (ap (λ (s : SecurityEntry). s.count) (sym twin)) few
          (subst (λ (s : List SecurityEntry). Makes c.args.image.now.bytes c.loop-index.image.bytes (KeepsSecurityCells (take c.loop-index.index s))) (sym view) c.loop-index.invariant.made)
          (subst (λ t. Makes c.loop-index.image.bytes c.put_cell.new.image.bytes (Puts c.in-Ok.at t)) encoding c.in-Ok.ensures.0);
      uses = uses_put c.args.image.now.bytes c.loop-index.image.bytes c.put_cell.new.image.bytes items c.loop-index.index c.len.result new c.index_mut-security.result.now.descriptor inside refl (omega (arith, c.len.ensures, ap length c.in_ok-put_security.ensures, ap length c.clear.ensures.items, long_security c.next_at-next.result c.loop-index.previous c.index-security.result.now.count c.bytes.result.now, ap length same, length-append c.clear.new.self.items (security_bytes c.next_at-next.result c.loop-index.previous c.index-security.result.now.count c.bytes.result.now)))
          (subst (λ (s : List SecurityEntry). Uses c.args.image.now.bytes c.loop-index.image.bytes (securities_cost (take c.loop-index.index s))) (sym view) c.loop-index.invariant.uses) (lands_used c.loop-index.image.bytes c.put_cell.new.image.bytes c.in-Ok.at (cell_cost c.len.result) c.in-Ok.ensures.1);
      cost = cost_set items c.loop-index.index c.index_mut-security.result.now new inside c.index_mut-security.ensures.value refl ∙ ap securities_cost view ∙ c.loop-index.invariant.cost;
      keeps = λ d has. set_keeps items c.loop-index.index c.index_mut-security.result.now new inside c.index_mut-security.ensures.value refl d (subst (λ (s : List SecurityEntry). Has s d) (sym view) (c.loop-index.invariant.keeps d has));
      short = short_set items c.loop-index.index new short few;
      len = long_set items c.loop-index.index new ∙ ap length view ∙ c.loop-index.invariant.len;
      same = tallies_set items c.loop-index.index c.index_mut-security.result.now new inside c.index_mut-security.ensures.value refl refl ∙ old_tallies;
      next = λ some. next_is ∙ ap (planned_offset c.args.self.now) (behind_next (length c.args.self.now) c.loop-index.index (λ e. omega (arith, some, e)));
      laid = λ more room. laid_next c.args.self.now items c.loop-index.image.bytes c.put_cell.new.image.bytes c.loop-index.index c.in-Ok.at c.next_at-next.result c.loop-index.previous (cell_cost c.len.result) more new old_tallies within step next_is c.in-Ok.ensures.1 refl refl refl
          (subst (λ (s : List SecurityEntry). Laid c.args.self.now s c.loop-index.image.bytes c.loop-index.index c.loop-index.previous more) (sym view) (c.loop-index.invariant.laid more room));
    }

pub next_at-next-requires : goal.next_at-next-requires
next_at-next-requires c = omega (arith, c.loop-index.invariant.cost, c.requires.fits)

pub returns-in-Err-clause-stops : goal.returns-in-Err-clause-stops
returns-in-Err-clause-stops c =
    let items : List SecurityEntry = c.self-in-loop-index.inside.cells.items in
    let view : items ≡ c.loop-index.self = c.self-in-loop-index.view_is in
    let inside : c.loop-index.index < length items = omega (arith, c.loop-index-test.true, c.len-count.ensures, ap length c.self.view_is, ap length view, c.loop-index.invariant.len) in
    let encoding : c.len.result ≡ 20 + length c.bytes.result.now = omega (arith, c.len.ensures, ap length c.in_ok-put_security.ensures, ap length c.clear.ensures.items, long_security c.next_at-next.result c.loop-index.previous c.index-security.result.now.count c.bytes.result.now, length-append c.clear.new.self.items (security_bytes c.next_at-next.result c.loop-index.previous c.index-security.result.now.count c.bytes.result.now)) in
    stops_later c.args.image.now.bytes c.loop-index.image.bytes (securities_cost (take c.loop-index.index items)) (cell_cost c.len.result) (securities_cost c.args.self.now) c.in-Err.why
    (omega (arith, cost_within items c.loop-index.index c.len.result c.index-security.result.now c.bytes.result.now inside c.index-security.ensures c.bytes.ensures encoding, ap securities_cost view, c.loop-index.invariant.cost))
    (subst (λ (s : List SecurityEntry). Uses c.args.image.now.bytes c.loop-index.image.bytes (securities_cost (take c.loop-index.index s))) (sym view) c.loop-index.invariant.uses) c.in-Err.ensures

pub returns-clause-uses : goal.returns-clause-uses
returns-clause-uses c =
    let all : take c.loop-index.index c.loop-index.self ≡ c.loop-index.self = take_all c.loop-index.index c.loop-index.self (omega (arith, c.loop-index-test.false, c.len-count.ensures, ap length c.self.view_is, c.loop-index.invariant.len)) in
    subst (Uses c.args.image.now.bytes c.loop-index.image.bytes) (ap securities_cost all ∙ c.loop-index.invariant.cost) c.loop-index.invariant.uses

pub loop-index-init : goal.loop-index-init
loop-index-init c = record { made = none_held c.args.image.now.bytes c.args.self.now; uses = none_used c.args.image.now.bytes; cost = refl; keeps = λ d has. has; short = c.requires.short; len = refl; same = refl; next = λ some. refl; laid = λ more room. laid_none c.args.self.now c.args.image.now.bytes c.last_at-previous.result more c.last_at-previous.ensures room }

pub returns-clause-apart : goal.returns-clause-apart
returns-clause-apart c = subst AreApart (ap tallies c.self.view_is ∙ sym c.loop-index.invariant.same) (filed_apart c.self.inside.indexes.entries c.self.inside.cells.items c.self.invariant)

pub returns-clause-ring : goal.returns-clause-ring
returns-clause-ring c = λ more room i s h e. (c.loop-index.invariant.laid more room).are i s (omega (arith, h, c.loop-index-test.false, c.len-count.ensures, ap length c.self.view_is)) e
