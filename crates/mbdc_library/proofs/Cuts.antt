-- What is left of bytes after their first frame.
use Rattle.std.proofs.Common.{◌≡◌, ℕ, ◌+◌, ◌-◌, ◌≤◌, List, ◌∷◌, ◌++◌, length, take, drop, refl, sym, ap, ◌∙◌, arith, length-append, length-drop}
use Rattle.std.specs.List.{concat}
use Rattle.std.proofs.lemmas.List.{take_at, drop_at, drop-drop}
use Rattle.mbdc_decode.specs.Frames.{frames_of}
use Rattle.mbdc_decode.proofs.Turns.{whole}
use Rattle.mbdc_library.specs.Frames.{between}

joined : (bytes text rest : List ℕ) → frames_of bytes ≡ text ∷ frames_of rest → bytes ≡ text ++ rest
joined bytes text rest e = sym (whole bytes) ∙ ap concat e ∙ ap (λ (l : List ℕ). text ++ l) (whole rest)

pub cut : (bytes text rest : List ℕ) (at next : ℕ) → at ≤ length bytes → next ≡ length bytes - length rest → frames_of (drop at bytes) ≡ text ∷ frames_of rest
    → (between bytes at next ≡ text) × (drop next bytes ≡ rest)
cut bytes text rest at next within is e =
    let all : drop at bytes ≡ text ++ rest = joined (drop at bytes) text rest e in
    let size : length bytes - at ≡ length text + length rest = sym (length-drop at bytes) ∙ ap length all ∙ length-append text rest in
    let taken : next - at ≡ length text = omega arith in
    let placed : next ≡ at + length text = omega arith in (
      ap (λ (k : ℕ). take k (drop at bytes)) taken ∙ ap (λ (l : List ℕ). take (length text) l) all ∙ take_at text rest (length text) refl,
      ap (λ (k : ℕ). drop k bytes) placed ∙ sym (drop-drop (length text) at bytes) ∙ ap (λ (l : List ℕ). drop (length text) l) all
          ∙ drop_at text rest (length text) refl,
    )

pub told : (bytes text rest : List ℕ) (at : ℕ) → at ≤ length bytes → frames_of (drop at bytes) ≡ text ∷ frames_of rest
    → frames_of (drop at bytes) ≡ between bytes at (length bytes - length rest) ∷ frames_of (drop (length bytes - length rest) bytes)
told bytes text rest at within e =
    let c = cut bytes text rest at (length bytes - length rest) within refl e in
    e ∙ ap (λ (t : List ℕ). t ∷ frames_of rest) (sym c.0) ∙ ap (λ (l : List ℕ). between bytes at (length bytes - length rest) ∷ frames_of l) (sym c.1)
