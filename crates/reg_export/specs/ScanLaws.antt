-- What a scan of names did.
use Rattle.std.proofs.Common.{◌≡◌, ℕ, Bool, true, false, ◌&&◌, List, [], ◌++◌, refl, sym, ◌∙◌, ap}
use Rattle.std.specs.List.{flat_map, list_all}
use Rattle.std.proofs.lemmas.List.Concat.{flat_map-append}
use Rattle.std.proofs.lemmas.List.Folds.{list_all-append}
use Rattle.key_walk.specs.KeyRows.{NamedRow}
use Rattle.reg_export.specs.declared.name_scan.NameScan.{NameScan}
use Rattle.reg_export.specs.NameTests.{are_chars, fits_line}
use Rattle.reg_export.specs.Scans.{scan_with, shown_names}

and_true : (b : Bool) → (b && true) ≡ b
and_true b = elim b as (λ v. (v && true) ≡ v) [ true ↦ refl | false ↦ refl ]

and_assoc : (a b c : Bool) → ((a && b) && c) ≡ (a && (b && c))
and_assoc a b c = elim a as (λ v. ((v && b) && c) ≡ (v && (b && c))) [ true ↦ refl | false ↦ refl ]

pub scan_nothing : (scan : NameScan) → scan ≡ scan_with scan []
scan_nothing scan = λ i. record { are_chars = sym (and_true scan.are_chars) i; fit_lines = sym (and_true scan.fit_lines) i }

both : (p : List ℕ → Bool) (b : Bool) (front back : List (List ℕ)) → ((b && list_all p front) && list_all p back) ≡ (b && list_all p (front ++ back))
both p b front back = and_assoc b (list_all p front) (list_all p back) ∙ ap (λ c. b && c) (sym (list_all-append p front back))

-- names were seen, and then others
pub scan_both : (scan : NameScan) (front back : List (List ℕ)) → scan_with (scan_with scan front) back ≡ scan_with scan (front ++ back)
scan_both scan front back = λ i. record { are_chars = both are_chars scan.are_chars front back i; fit_lines = both fits_line scan.fit_lines front back i }

pub scan_more : (before between after : NameScan) (front rest : List NamedRow) → between ≡ scan_with before (flat_map shown_names front) → after ≡ scan_with between (flat_map shown_names rest) → after ≡ scan_with before (flat_map shown_names (front ++ rest))
scan_more before between after front rest one two =
    two ∙ ap (λ scan. scan_with scan (flat_map shown_names rest)) one ∙ scan_both before (flat_map shown_names front) (flat_map shown_names rest)
    ∙ ap (scan_with before) (sym (flat_map-append shown_names front rest))
