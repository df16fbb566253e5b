-- A worked page and its file (this product): a consumption of 1,009.31 m3.
use Rattle.std.specs.Prelude.{ℕ, Bool, List, [], ◌∷◌, ◌++◌, codes}
use Rattle.mbdc_sheet.specs.Sheet.{is_sheet}

abbrev pub worked_file : List (List ℕ)
worked_file = codes "audit,2,2026-10" ∷ codes "of_user,1,1,cold water,m3,1009.31,measured"
    ∷ codes "of_user,1,2,cold water,m3,5.00,measured" ∷ []

-- a page of user 1, by what stands before the number, the line that its element names, and its text
abbrev pub worked_page : List ℕ → List ℕ → List ℕ → List ℕ
worked_page before line text =
    codes "<!doctype html>\n<html lang=\"en\">\n<head><main data-user=\"1\" data-label=\"2026-10\">" ++ before
    ++ codes "<span data-line=\"" ++ line ++ codes "\">" ++ text ++ codes "</span></main>"

-- whether such a page shows its file's numbers
abbrev pub is_worked : List ℕ → List ℕ → List ℕ → Bool
is_worked before line text = is_sheet (worked_page before line text) worked_file
