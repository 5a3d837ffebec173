-- The first 512 bytes of a primary file or of a log (regf format, base block).
use Rattle.std.specs.Prelude.{◌≡◌, ◌<◌, ◌^◌, ℕ, ◌+◌, length, Bool, ◌&&◌, ◌==◌, true, List, ◌++◌, replicate, take, drop}
use Rattle.byteorder.specs.Endian.{little_number, little_bytes}
use Rattle.base_block.specs.declared.block.BaseBlock.{BaseBlock}
use Rattle.base_block.specs.Sums.{sum_of}

-- the number in the w bytes from an offset on, the lowest byte first
abbrev pub number_at : ℕ → ℕ → List ℕ → ℕ
number_at offset w bytes = little_number w (drop offset bytes)

-- the fields of a sector, each at its offset; what no field names is not kept
abbrev pub block_at : List ℕ → BaseBlock
block_at bytes =
    record {
      signature = record { 0 = number_at 0 4 bytes };
      primary = record { 0 = number_at 4 4 bytes };
      secondary = record { 0 = number_at 8 4 bytes };
      last_written = number_at 12 8 bytes;
      major = number_at 20 4 bytes;
      minor = number_at 24 4 bytes;
      file_type = record { 0 = number_at 28 4 bytes };
      format = number_at 32 4 bytes;
      root = number_at 36 4 bytes;
      bins_size = number_at 40 4 bytes;
      store = take 16 (drop 176 bytes);
      applied = record { 0 = number_at 192 8 bytes };
      sum_is_right = number_at 508 4 bytes == sum_of bytes;
    }

-- a clean block of a primary file of a minor version of 1 and format 1, written at 0, with no change applied
abbrev pub fresh_primary : ℕ → ℕ → ℕ → ℕ → List ℕ → BaseBlock
fresh_primary number minor root bins_size store =
    record {
      signature = record { 0 = 0x6667_6572 };
      primary = record { 0 = number };
      secondary = record { 0 = number };
      last_written = 0;
      major = 1;
      minor = minor;
      file_type = record { 0 = 0 };
      format = 1;
      root = root;
      bins_size = bins_size;
      store = store;
      applied = record { 0 = 0 };
      sum_is_right = true;
    }

-- zero bytes
unfoldable pub zeros : ℕ → List ℕ
zeros n = replicate n 0

-- a list with some bytes put at an offset, over as many that were there
unfoldable pub put_at : ℕ → List ℕ → List ℕ → List ℕ
put_at offset bytes old = take offset old ++ (bytes ++ drop (offset + length bytes) old)

-- the fields from offset 0 to 48: signature, both numbers, time, versions, type, format, root, bins size and
-- the clustering factor 1
unfoldable pub head_of : BaseBlock → List ℕ
head_of b =
    little_bytes 4 b.signature.0 ++ little_bytes 4 b.primary.0 ++ little_bytes 4 b.secondary.0
    ++ little_bytes 8 b.last_written
    ++ little_bytes 4 b.major ++ little_bytes 4 b.minor ++ little_bytes 4 b.file_type.0 ++ little_bytes 4 b.format
    ++ little_bytes 4 b.root ++ little_bytes 4 b.bins_size ++ little_bytes 4 1

-- the first 508 bytes of the sector that is written of a block: the fields at their offsets, zeros elsewhere
unfoldable pub body_of : BaseBlock → List ℕ
body_of b = head_of b ++ zeros 128 ++ b.store ++ little_bytes 8 b.applied.0 ++ zeros 308

-- the sector that is written of a block: those 508 bytes, and their sum
unfoldable pub sector_of : BaseBlock → List ℕ
sector_of b = body_of b ++ little_bytes 4 (sum_of (body_of b))

-- a block is clean when its sum is right and its two numbers are equal
abbrev pub is_clean_block : BaseBlock → Bool
is_clean_block b = b.sum_is_right && (b.primary.0 == b.secondary.0)

-- the fields of a block have the widths of its types
pub record AllFit (b : BaseBlock) : Type 0 where
  pub signature : b.signature.0 < 2 ^ 32
  pub primary : b.primary.0 < 2 ^ 32
  pub secondary : b.secondary.0 < 2 ^ 32
  pub last_written : b.last_written < 2 ^ 64
  pub major : b.major < 2 ^ 32
  pub minor : b.minor < 2 ^ 32
  pub file_type : b.file_type.0 < 2 ^ 32
  pub format : b.format < 2 ^ 32
  pub root : b.root < 2 ^ 32
  pub bins_size : b.bins_size < 2 ^ 32
  pub store : length b.store ≡ 16
  pub applied : b.applied.0 < 2 ^ 64
