-- What a parser of words answers.
use Rattle.std.specs.Prelude.{◌≡◌, ⊤, Option, Some, None, Result, Ok, Err}
use Rattle.word_syntax.specs.declared.parse_error.ParseError.{ParseError}
use Rattle.word_syntax.specs.declared.parse_error.ParseError.TheVariants.{NoMemory, NotUnderstood}

-- for lack of memory anything may be refused; else only what parses to nothing is refused
abbrev pub RefusedAs : {X : Type 0} → ParseError → Option X → Type 0
RefusedAs NoMemory wanted = ⊤
RefusedAs NotUnderstood wanted = wanted ≡ None

-- the answer, seen by view, is the one wanted, or memory was refused
abbrev pub ReadsAs : {X Y : Type 0} → (X → Y) → Result X ParseError → Option Y → Type 0
ReadsAs view (Ok x) wanted = wanted ≡ Some (view x)
ReadsAs view (Err parse_error) wanted = RefusedAs parse_error wanted

abbrev pub Reads : {X : Type 0} → Result X ParseError → Option X → Type 0
Reads result wanted = ReadsAs (λ x. x) result wanted
