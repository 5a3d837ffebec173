-- The codes by which threads share what is shown.
use Rattle.std.specs.Prelude.{ℕ}
use Rattle.progress_line.specs.declared.work_stage.Work.{Work}
use Rattle.progress_line.specs.declared.work_stage.Work.TheVariants.{Play, Lab, Sweep, Opening, Run, Import}

abbrev pub code_of : Work → ℕ
code_of Play = 0
code_of Lab = 1
code_of Sweep = 2
code_of Opening = 3
code_of Run = 4
code_of Import = 5
