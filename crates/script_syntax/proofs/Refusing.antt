-- What a parser refuses for another that it called.
use Rattle.std.proofs.Common.{◌≡◌, Option, None, Result, Ok, Err, sym, subst}
use Rattle.std.specs.Prelude.{IsErrAnd}
use Rattle.word_syntax.specs.Reads.{Reads, RefusedAs}
use Rattle.word_syntax.specs.declared.parse_error.ParseError.{ParseError}
use Rattle.word_syntax.specs.declared.parse_error.ParseError.TheVariants.{NoMemory, NotUnderstood}

-- a refusal of a part is one of the whole, if the whole parses to nothing when the part does
pub carried : {X Y : Type 0} (parse_error : ParseError) (part : Option X) (whole : Option Y) → (part ≡ None → whole ≡ None) → RefusedAs parse_error part → RefusedAs parse_error whole
carried NoMemory part whole h r = tt
carried NotUnderstood part whole h r = h r

-- a refusal that is handed on
pub handed_on : {X : Type 0} (result : Result X ParseError) (parse_error : ParseError) (wanted : Option X) → IsErrAnd result (λ e. e ≡ parse_error) → RefusedAs parse_error wanted → Reads result wanted
handed_on (Ok x) parse_error wanted h r = absurd h
handed_on (Err e) parse_error wanted h r = subst (λ u. RefusedAs u wanted) (sym h) r
