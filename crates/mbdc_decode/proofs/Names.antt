-- The names of VIFEs are the first one's and the others'.
use Rattle.std.proofs.Common.{◌≡◌, refl, ℕ, zero, suc, ◌-◌, ◌≤◌, ◌<◌, Bool, List, [], ◌∷◌, ◌++◌, length, take, drop, get_or, map, ap, ◌∙◌, arith, append-nil}
use Rattle.json.specs.Json.{string}
use Rattle.json.specs.Token.{Token}
use Rattle.mbdc_reading.specs.Meaning.{is_extension, number_after}
use Rattle.mbdc_reading.specs.Names.{names_of}
use Rattle.mbdc_reading.specs.Vifes.{vife_at}
use Rattle.mbdc_decode.specs.Object.{values_tokens}

pub no_name : (after_fc : Bool) (vifes : List ℕ) → length vifes < 1 → [] ≡ values_tokens (map string (names_of after_fc vifes))
unfolding values_tokens names_of
no_name after_fc [] none = refl
no_name after_fc (vife ∷ others) none = absurd (omega arith)

all_of : (vifes : List ℕ) (n : ℕ) → n ≡ length vifes → take n vifes ≡ vifes
all_of [] zero is = refl
all_of [] (suc n) is = absurd (omega arith)
all_of (vife ∷ others) zero is = absurd (omega arith)
all_of (vife ∷ others) (suc n) is = ap (λ (r : List ℕ). vife ∷ r) (all_of others n (omega arith))

pub first_name : (after_fc : Bool) (vifes : List ℕ) → 1 ≤ length vifes
    → (Token.string (vife_at (number_after after_fc (get_or vifes 0 0))).name ∷ [])
    ++ (values_tokens (map string (names_of (is_extension after_fc (get_or vifes 0 0)) (take (length vifes - 1) (drop 1 vifes)))) ++ [])
    ≡ values_tokens (map string (names_of after_fc vifes))
unfolding values_tokens names_of
first_name after_fc [] some = absurd (omega arith)
first_name after_fc (vife ∷ others) some =
    ap (λ (ts : List Token). Token.string (vife_at (number_after after_fc vife)).name ∷ ts)
    (append-nil (values_tokens (map string (names_of (is_extension after_fc vife) (take (length (vife ∷ others) - 1) others))))
    ∙ ap (λ (r : List ℕ). values_tokens (map string (names_of (is_extension after_fc vife) r))) (all_of others (length (vife ∷ others) - 1) (omega arith)))
