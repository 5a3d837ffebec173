-- What writing a hive's file answers, and what it leaves in a buffer of the caller.
use Rattle.std.specs.Prelude.{◌≡◌, ◌⊎◌, ℕ, List, Option, Some, None}
use Rattle.refusals.specs.declared.refusal.Refusal.{Refusal}
use Rattle.reg_tree.specs.Maps.{TreeMap, weight}
use Rattle.hive_emit.specs.EmittedKeys.{EmitRefused}
use Rattle.hive_file_reader.specs.Hives.{FileHoldsHive}
use Rattle.regtx_c.specs.declared.codes.TheConstants.{NOT_OPEN}
use Rattle.regtx_c.specs.declared.files.TheConstants.{LEAST_BINS_BYTES}
use Rattle.regtx_c.specs.Codes.{refusal_code}
use Rattle.regtx_c.specs.Buffers.{IsCopied}

-- why there is no file of a tree of a weight has this number: the tree is over the limit; or it isn't, and memory was not given
abbrev pub IsUnwritten : ℕ → ℕ → Type 0
IsUnwritten total code = (why : Refusal) × EmitRefused total LEAST_BINS_BYTES why × (code ≡ refusal_code why)

-- the bytes of a file that holds the tree are copied; or the number says why there are none, and nothing is written
abbrev pub CopiesFile : TreeMap → List ℕ → List ℕ → ℕ → ℕ → ℕ → Type 0
CopiesFile tree before after len_before len code =
    ((file : List ℕ) × FileHoldsHive file tree × IsCopied file before after len code)
    ⊎ (IsUnwritten (weight tree) code × (after ≡ before) × (len ≡ len_before))

-- the same of the tree that is open, if one is
abbrev pub CopiesOpen : Option TreeMap → List ℕ → List ℕ → ℕ → ℕ → ℕ → Type 0
CopiesOpen None before after len_before len code = (code ≡ NOT_OPEN) × (after ≡ before) × (len ≡ len_before)
CopiesOpen (Some tree) before after len_before len code = CopiesFile tree before after len_before len code
