use Rattle.std.proofs.Common.{◌≡◌, ◌∙◌, ◌+◌, ◌++◌, ◌∷◌, [], ℕ, not, Bool, true, if◌then◌else◌, sym, ap, rules, refl, Ok, Err}
use Rattle.std.specs.Global.{Vec}
use Rattle.std.specs.Result.{is_ok}
use Rattle.std.proofs.lemmas.List.{map-append}
use Rattle.refusals.specs.declared.refusal.Refusal.TheVariants.{NoMemory}
use Rattle.store_create.specs.Imports.{Taken}
use Rattle.store_create.specs.Inside.{bytes_in, outcome_in}
use Rattle.store_create.proofs.Takings.{taken_after, taken_kept, taken_without_memory}
use Rattle.store_create.proofs.import.Import.keep.Goals as goal

pub returns-then-is_err-clause-taken : goal.returns-then-is_err-clause-taken
returns-then-is_err-clause-taken c = λ files known enough has.
    let now : c.match-self-2.self ≡ record { count = c.self.inside.count + 1; outcome = Err NoMemory } = search rules in
    taken_without_memory files known c.args.self.now c.match-self-2.self has (ap (λ (t : Taken). t.count) now ∙ ap (λ (t : Taken). t.count + 1) c.self.view_is) NoMemory refl (ap (λ (t : Taken). t.outcome) now)

pub returns-else-is_err-clause-taken : goal.returns-else-is_err-clause-taken
returns-else-is_err-clause-taken c = λ files known enough has.
    let fronts = c.in-Ok.fronts.items in
    let pushed : is_ok c.push.result ≡ true = c.is_err.ensures.negation ∙ ap not c.if-is_err.false in
    let items : c.push.new.self.items ≡ fronts ++ c.args.front ∷ [] = c.push.ensures.items ∙ ap (λ (b : Bool). if b then fronts ++ c.args.front ∷ [] else fronts) pushed in
    let bytes : bytes_in c.push.new.self.items ≡ bytes_in fronts ++ c.args.front.items ∷ [] = ap bytes_in items ∙ map-append (λ (f : Vec ℕ). f.items) fronts (c.args.front ∷ []) in
    taken_kept files known c.args.self.now _ has (ap (λ (t : Taken). t.count + 1) c.self.view_is) (bytes_in fronts) c.args.front.items
    (sym (ap (λ (t : Taken). t.outcome) c.self.view_is) ∙ ap outcome_in c.in-Ok.is) (ap Ok bytes) enough

pub returns-in_default-clause-taken : goal.returns-in_default-clause-taken
returns-in_default-clause-taken c = λ files known enough has.
    let outcome = ap outcome_in c.in_default.is in
    taken_after files known c.args.self.now _ has (ap (λ (t : Taken). t.count + 1) c.self.view_is) c.in_default.field-0 (sym (ap (λ (t : Taken). t.outcome) c.self.view_is) ∙ outcome) outcome
