-- The names of the types of values, as in winnt.h.
use Rattle.std.specs.Prelude.{ℕ, ◌==◌, if◌then◌else◌, false, List, ◌++◌, codes}
use Rattle.std.specs.Fmt.{digits}

-- the name of a type of this number, 0 to 11; another is its number in hexadecimal
abbrev pub type_name : ℕ → List ℕ
type_name kind =
    if kind == 0 then codes "REG_NONE" else (
    if kind == 1 then codes "REG_SZ" else (
    if kind == 2 then codes "REG_EXPAND_SZ" else (
    if kind == 3 then codes "REG_BINARY" else (
    if kind == 4 then codes "REG_DWORD" else (
    if kind == 5 then codes "REG_DWORD_BIG_ENDIAN" else (
    if kind == 6 then codes "REG_LINK" else (
    if kind == 7 then codes "REG_MULTI_SZ" else (
    if kind == 8 then codes "REG_RESOURCE_LIST" else (
    if kind == 9 then codes "REG_FULL_RESOURCE_DESCRIPTOR" else (
    if kind == 10 then codes "REG_RESOURCE_REQUIREMENTS_LIST" else (
    if kind == 11 then codes "REG_QWORD" else
    codes "0x" ++ digits 16 false kind)))))))))))
