-- The text of an input in a form, one frame and one line more.
use Rattle.std.proofs.Common.{◌≡◌, ℕ, ◌+◌, List, [], ◌∷◌, ◌++◌, Option, Some, None, refl, ap, ◌∙◌}
use Rattle.std.specs.Prelude.{codes, flat_map}
use Rattle.mbdc_decode.specs.Frames.{shown, frames_of, all_shown}
use Rattle.mbdc_decode.specs.Text.{decoded, decoded_text, line_text, lines_text}
use Rattle.mbdc_decode.specs.Form.{decoded_as, line_as, lines_as}
use Rattle.mbdc_decode.specs.declared.form.LineForm.{Ghosts}

pub no_frames : (f : List ℕ → List ℕ) → flat_map f [] ≡ []
no_frames f = refl

pub first_of_frames : (f : List ℕ → List ℕ) (text : List ℕ) (texts : List (List ℕ)) → flat_map f (text ∷ texts) ≡ f text ++ flat_map f texts
first_of_frames f text texts = refl

pub no_lines_as : {F : Type 0} (form : Ghosts F) (number : ℕ) → lines_as form number [] ≡ []
unfolding lines_as
no_lines_as form number = refl

pub first_lines_as : {F : Type 0} (form : Ghosts F) (number : ℕ) (line : List ℕ) (lines : List (List ℕ))
    → lines_as form number (line ∷ lines) ≡ line_as form number line ++ lines_as form (number + 1) lines
unfolding lines_as
first_lines_as form number line lines = refl

-- ---- a form whose pieces are those of `decode`

module _ {F : Type 0} (form : Ghosts F) (frames : (number : ℕ) → form.frame_text number ≡ shown) (fault : (number : ℕ) → form.fault_text number ≡ codes "HEX FAULT\n") where
  as_decoded : (number : ℕ) (d : Option (List ℕ)) → decoded_as form number d ≡ decoded_text d
  unfolding all_shown
  as_decoded number None = fault number
  as_decoded number (Some bytes) = ap (λ (f : List ℕ → List ℕ). flat_map f (frames_of bytes)) (frames number)

  pub as_lines_text : (number : ℕ) (lines : List (List ℕ)) → lines_as form number lines ≡ lines_text lines
  unfolding lines_as line_as lines_text line_text
  as_lines_text number [] = refl
  as_lines_text number (line ∷ lines) =
      ap (λ (t : List ℕ). t ++ lines_as form (number + 1) lines) (as_decoded number (decoded line))
      ∙ ap (λ (t : List ℕ). line_text line ++ t) (as_lines_text (number + 1) lines)
