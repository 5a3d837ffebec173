-- What is said of a log of pages that isn't used.
use Rattle.std.specs.Prelude.{ℕ, List, ◌++◌, codes}
use Rattle.std.specs.Fmt.{decimal}
use Rattle.hive_page_logs.specs.declared.page_log.PageFault.{PageFault}
use Rattle.hive_page_logs.specs.declared.page_log.PageFault.TheVariants as fault

abbrev pub fault_text : PageFault → List ℕ
fault_text fault.OtherVersion = codes "no log: version"
fault_text (fault.Numbers first second) = codes "no log: numbers " ++ decimal first.0 ++ codes " and " ++ decimal second.0
fault_text fault.WrongBinsSize = codes "no log: bins size"
fault_text fault.NoLetters = codes "no log: no letters DIRT"
fault_text fault.BitmapCut = codes "no log: bitmap cut"
fault_text fault.PagesCut = codes "no log: pages cut"
