-- The first sector of a recovered hive (regf format, base block).
use Rattle.std.specs.Prelude.{ℕ, List, take}
use Rattle.byteorder.specs.Endian.{little_bytes}
use Rattle.base_block.specs.Layout.{put_at}
use Rattle.base_block.specs.Sums.{sum_of}

-- a sector with a number as both sequence numbers, the type of a primary file, and a size of bins data
unfoldable pub recovered_body : List ℕ → ℕ → ℕ → List ℕ
recovered_body sector number size =
    put_at 40 (little_bytes 4 size) (put_at 28 (little_bytes 4 0) (put_at 8 (little_bytes 4 number) (put_at 4 (little_bytes 4 number) sector)))

-- the same with its sum
unfoldable pub recovered_sector : List ℕ → ℕ → ℕ → List ℕ
recovered_sector sector number size = let body = recovered_body sector number size in put_at 508 (little_bytes 4 (sum_of (take 508 body))) body
