use Rattle.std.proofs.Common.{◌≡◌, ◌∙◌, sym, ap, map, Option, Some, None, List, ℕ, refl}
use Rattle.std.specs.Prelude.{IfSome, ◌⊎◌}
use Rattle.std.proofs.lemmas.Result.{IfOk-weaker}
use Rattle.reg_file.specs.Files.{lines_file}
use Rattle.reg_file.specs.Lines.{file_lines}
use Rattle.reg_file.specs.Grammar.{IsFile, IsStopped, IsNoHeader}
use Rattle.reg_file.specs.declared.fault.Fault.{Fault}
use Rattle.reg_file.specs.declared.file.RegFile.{RegFile}
use Rattle.reg_file.proofs.FileLaws.{read_file, parsed_file, stopped_file}
use Rattle.reg_file.proofs.EncodedLines.{file_has_line}
use Rattle.reg_file.proofs.file.parse.Goals as goal

parsed_whole : (bytes : List ℕ) (file : RegFile) → file ≡ lines_file (file_lines bytes) → file.fault ≡ None → (lines : List (List ℕ)) × (file_lines bytes ≡ map Some lines) × IsFile lines file.statements
parsed_whole bytes file e none = parsed_file (file_lines bytes) file.statements (sym e ∙ ap (λ fault. record { statements = file.statements; fault = fault }) none)

parsed_fault : (bytes : List ℕ) (file : RegFile) → file ≡ lines_file (file_lines bytes) → IfSome file.fault (λ fault. IsStopped (file_lines bytes) file.statements fault ⊎ IsNoHeader (file_lines bytes) file.statements fault)
parsed_fault bytes file e = by_fault file.fault refl
  where
    by_fault : (found : Option Fault) → file.fault ≡ found → IfSome found (λ fault. IsStopped (file_lines bytes) file.statements fault ⊎ IsNoHeader (file_lines bytes) file.statements fault)
    by_fault None f = tt
    by_fault (Some fault) f = stopped_file (file_lines bytes) file.statements fault (file_has_line bytes) (sym e ∙ ap (λ found. record { statements = file.statements; fault = found }) f)

pub returns-clause-whole : goal.returns-clause-whole
returns-clause-whole c = IfOk-weaker c.parse_lines.result _ _ (λ file e. parsed_whole c.args.bytes.now file e) c.parse_lines.ensures

pub returns-clause-read : goal.returns-clause-read
returns-clause-read c = λ lines statements e f. IfOk-weaker c.parse_lines.result _ _ (λ file g. g ∙ ap lines_file e ∙ read_file lines statements f) c.parse_lines.ensures

pub returns-clause-fault : goal.returns-clause-fault
returns-clause-fault c = IfOk-weaker c.parse_lines.result _ _ (λ file e. parsed_fault c.args.bytes.now file e) c.parse_lines.ensures
