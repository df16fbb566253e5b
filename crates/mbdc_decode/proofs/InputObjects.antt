-- The text of JSON lines is that of the objects, in order.
use Rattle.std.proofs.Common.{◌≡◌, ℕ, ◌+◌, List, [], ◌∷◌, ◌++◌, Option, Some, None, map, refl, ap, sym, ◌∙◌, append_assoc, append-nil}
use Rattle.std.specs.Prelude.{flat_map}
use Rattle.json.specs.Json.{Json}
use Rattle.mbdc_decode.specs.Frames.{frames_of}
use Rattle.mbdc_decode.specs.Text.{decoded}
use Rattle.mbdc_decode.specs.Form.{decoded_as, line_as, lines_as}
use Rattle.mbdc_decode.specs.declared.form.LineForm.{Ghosts}
use Rattle.mbdc_decode.specs.Frame.{text_json, hex_fault_json}
use Rattle.mbdc_decode.specs.JsonText.{value_line, lines_text, decoded_objects, line_objects, objects_from}

texts-append : (values more : List Json) → lines_text (values ++ more) ≡ lines_text values ++ lines_text more
unfolding lines_text
texts-append [] more = refl
texts-append (value ∷ values) more =
    ap (λ (text : List ℕ). value_line value ++ text) (texts-append values more) ∙ sym (append_assoc (value_line value) (lines_text values) (lines_text more))

mapped : (f : List ℕ → Json) (texts : List (List ℕ)) → flat_map (λ (text : List ℕ). value_line (f text)) texts ≡ lines_text (map f texts)
unfolding lines_text
mapped f [] = refl
mapped f (text ∷ texts) = ap (λ (t : List ℕ). value_line (f text) ++ t) (mapped f texts)

no_text : [] ≡ lines_text []
unfolding lines_text
no_text = refl

only : (value : Json) → value_line value ≡ lines_text (value ∷ [])
unfolding lines_text
only value = sym (append-nil (value_line value))

-- ---- a form whose pieces are those of `decode --json`

module _ {F : Type 0} (form : Ghosts F) (frames : (number : ℕ) → form.frame_text number ≡ (λ (text : List ℕ). value_line (text_json number text))) (fault : (number : ℕ) → form.fault_text number ≡ value_line (hex_fault_json number)) where
  as_decoded : (number : ℕ) (d : Option (List ℕ)) → decoded_as form number d ≡ lines_text (decoded_objects number d)
  as_decoded number None = fault number ∙ only (hex_fault_json number)
  as_decoded number (Some bytes) =
      ap (λ (f : List ℕ → List ℕ). flat_map f (frames_of bytes)) (frames number) ∙ mapped (text_json number) (frames_of bytes)

  pub as_lines_text : (number : ℕ) (lines : List (List ℕ)) → lines_as form number lines ≡ lines_text (objects_from number lines)
  unfolding lines_as line_as line_objects objects_from
  as_lines_text number [] = no_text
  as_lines_text number (line ∷ lines) =
      ap (λ (t : List ℕ). t ++ lines_as form (number + 1) lines) (as_decoded number (decoded line))
      ∙ ap (λ (t : List ℕ). lines_text (line_objects number line) ++ t) (as_lines_text (number + 1) lines)
      ∙ sym (texts-append (line_objects number line) (objects_from (number + 1) lines))
