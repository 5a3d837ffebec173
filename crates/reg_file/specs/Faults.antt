-- The text of a fault: the line's number, and what is wrong there.
use Rattle.std.specs.Prelude.{ℕ, List, ◌++◌, codes}
use Rattle.std.specs.Fmt.{decimal}
use Rattle.reg_file.specs.declared.fault.Fault.{Fault}
use Rattle.reg_file.specs.declared.fault.FaultKind.{FaultKind}
use Rattle.reg_file.specs.declared.fault.FaultKind.TheVariants.{NoHeader, NotText, NotUnderstood, NoKey, TooLarge}

abbrev pub fault_name : FaultKind → List ℕ
fault_name NoHeader = codes "no header"
fault_name NotText = codes "not text"
fault_name NotUnderstood = codes "not understood"
fault_name NoKey = codes "no key"
fault_name TooLarge = codes "E6 TooLarge"

abbrev pub fault_text : Fault → List ℕ
fault_text fault = codes "line " ++ decimal fault.line ++ codes ": " ++ fault_name fault.kind
