-- A page beside its file, by the answers about what was read of both.
use Rattle.std.proofs.Common.{◌≡◌, ◌∙◌, ℕ, Bool, true, false, List, sym, subst, ap}
use Rattle.std.specs.Prelude.{not}
use Rattle.std.proofs.lemmas.Bool.{true≢false}
use Rattle.mbdc_audit.specs.File.{IsRight}
use Rattle.mbdc_io.specs.Lines.{lines_of}
use Rattle.mbdc_sheet.specs.Sheet.{is_sheet}
use Rattle.mbdc.specs.Tasks.{ShowsRight}

-- a right file whose numbers the page shows
pub both : (page whole : List ℕ) → IsRight false (lines_of whole) → is_sheet page (lines_of whole) ≡ true → ShowsRight page whole
both page whole right shown = record { right = right; shown = shown }

-- what holds of all that is left of a source holds of the bytes that it was made of
pub of_source : {B : Type 0} (P : List ℕ → Type 0) (left : B → List ℕ) (source made : B) (whole text : List ℕ) → source ≡ made → whole ≡ text
    → left made ≡ whole → P (left source) → P text
of_source P left source made whole text is same all holds = subst P (ap left is ∙ all ∙ same) holds

-- the page of an answer without a fault is shown
pub is_shown : (result shown : Bool) → not result ≡ false → result ≡ shown → shown ≡ true
is_shown false shown well is = absurd (true≢false well)
is_shown true shown well is = sym is

-- an answer with a fault is none without
pub is_faulty : (result : Bool) → not result ≡ false → result ≡ false → ⊥
is_faulty false well is = true≢false well
is_faulty true well is = true≢false is
