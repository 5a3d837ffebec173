-- What follows of an answer, whichever it is.
use Rattle.std.proofs.Common.{Result, Ok, Err, OnOk, IfErr}

pub on_ok : {T E P Q : Type 0} (answer : Result T E) → (P → Q) → OnOk answer P → OnOk answer Q
on_ok (Ok x) f p = f p
on_ok (Err e) f p = tt

pub if_err : {T E : Type 0} {P Q : E → Type 0} (answer : Result T E) → ((e : E) → P e → Q e) → IfErr answer P → IfErr answer Q
if_err (Ok x) f p = tt
if_err (Err e) f p = f e p
