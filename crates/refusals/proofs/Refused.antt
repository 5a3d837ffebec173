-- What is said of a call that hands on the refusal of another: a proof cites it if the search would split each clause
-- into cases.
use Rattle.std.proofs.Common.{◌≡◌, Result, Ok, Err, IfOk, IfErr, OnOk, OnErr, sym, subst}
use Rattle.std.specs.Result.{IsErrAnd}

-- nothing is said of what it made
pub none_made : {A E : Type 0} (r : Result A E) (Q : E → Type 0) (P : A → Type 0) → IsErrAnd r Q → IfOk r P
none_made (Ok a) Q P refused = absurd refused
none_made (Err e) Q P refused = tt

-- nor if it is asked of success alone
pub none_done : {A E : Type 0} (r : Result A E) (Q : E → Type 0) (P : Type 0) → IsErrAnd r Q → OnOk r P
none_done (Ok a) Q P refused = absurd refused
none_done (Err e) Q P refused = tt

-- what is said of its refusal is said of the one handed on
pub handed_on : {A E : Type 0} (r : Result A E) (why : E) (P : E → Type 0) → IsErrAnd r (λ e. e ≡ why) → P why → IfErr r P
handed_on (Ok a) why P same told = tt
handed_on (Err e) why P same told = subst P (sym same) told

-- and what is so stays so if it is asked of refusal
pub holds_on : {A E : Type 0} (r : Result A E) (P : Type 0) → P → OnErr r P
holds_on (Ok a) P holds = tt
holds_on (Err e) P holds = holds
