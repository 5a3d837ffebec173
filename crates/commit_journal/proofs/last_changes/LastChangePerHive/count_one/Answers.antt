use Rattle.std.proofs.Common.{◌≡◌, ◌∙◌, ◌++◌, ◌∷◌, [], sym, subst, arith, ℕ, List, cond, length, take, drop, ap, option_map, slice_get}
use Rattle.commit_journal.specs.LastChangePerHive.{names, AreLastIn}
use Rattle.change_codec.specs.ModelChanges.{timed_element}
use Rattle.commit_journal.proofs.Namings.{one_counted, written_back}
use Rattle.commit_journal.proofs.last_changes.LastChangePerHive.count_one.Goals as goal

pub returns-clause-named : goal.returns-clause-named
returns-clause-named c = λ i.
    let was = c.args.self.now.last.items in
    let is = c.name.new.last in
    let back : take c.args.self.now.last.len (is ++ drop (length is) was) ≡ is = written_back c.args.self.now.last.len is was (c.name.ensures.many ∙ c.deref_mut.ensures.len) in
    ap (λ (xs : List ℕ). slice_get xs i) back ∙ c.name.ensures.named i
    ∙ ap (λ (xs : List ℕ). option_map (λ m. cond (names i c.args.change.now.ops) c.args.number m) (slice_get xs i)) c.deref_mut.ensures.value

pub returns-clause-many : goal.returns-clause-many
returns-clause-many c =
    let was = c.args.self.now.last.items in
    let is = c.name.new.last in
    let back : take c.args.self.now.last.len (is ++ drop (length is) was) ≡ is = written_back c.args.self.now.last.len is was (c.name.ensures.many ∙ c.deref_mut.ensures.len) in
    ap (λ (xs : List ℕ). length xs) back ∙ c.name.ensures.many ∙ ap (λ (xs : List ℕ). length xs) c.deref_mut.ensures.value

pub returns-clause-counts : goal.returns-clause-counts
returns-clause-counts c = λ below first.
    let was = c.args.self.now.last.items in
    let is = c.name.new.last in
    let back : take c.args.self.now.last.len (is ++ drop (length is) was) ≡ is = written_back c.args.self.now.last.len is was (c.name.ensures.many ∙ c.deref_mut.ensures.len) in
    let each : (i : ℕ) → slice_get is i ≡ option_map (λ m. cond (names i c.args.change.now.ops) c.args.number m) (slice_get was i)
    = λ i. c.name.ensures.named i ∙ ap (λ (xs : List ℕ). option_map (λ m. cond (names i c.args.change.now.ops) c.args.number m) (slice_get xs i)) c.deref_mut.ensures.value in
    record {
      last = λ base known all last.
          subst (λ (xs : List ℕ). AreLastIn base (known ++ timed_element c.args.change.now ∷ []) xs) (sym back)
          (one_counted base known c.args.change.now c.args.number was is (omega (arith, first, all)) each last);
      many = ap (λ (xs : List ℕ). length xs) back ∙ c.name.ensures.many ∙ ap (λ (xs : List ℕ). length xs) c.deref_mut.ensures.value;
    }
