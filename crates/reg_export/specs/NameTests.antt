-- What the names of keys and values mean for a registration file.
use Rattle.std.specs.Prelude.{ℕ, ◌==◌, Bool, not, is_some, ◌&&◌, ◌||◌, List}
use Rattle.std.specs.List.{list_all}
use Rattle.std.specs.Char.Utf16.{utf16_chars}
use Rattle.reg_export.specs.declared.encoding.Encoding.{Encoding}
use Rattle.reg_export.specs.declared.encoding.Encoding.TheVariants.{Utf8, Utf16}

-- a unit that no line can hold: 0, or a line's end
abbrev pub breaks_line : ℕ → Bool
breaks_line u = u == 0 || u == 10 || u == 13

-- a name has none of these units
abbrev pub fits_line : List ℕ → Bool
fits_line name = list_all (λ u. not (breaks_line u)) name

-- units are characters: no half of a pair of surrogates stands alone
abbrev pub are_chars : List ℕ → Bool
are_chars units = list_all is_some (utf16_chars units)

-- a file in this encoding can show names: none has a unit that no line can hold, and in UTF-8 all are characters
abbrev pub can_show : Encoding → List (List ℕ) → Bool
can_show Utf8 names = list_all fits_line names && list_all are_chars names
can_show Utf16 names = list_all fits_line names
