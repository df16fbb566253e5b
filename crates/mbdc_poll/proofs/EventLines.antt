-- The lines of events, in pieces.
use Rattle.std.proofs.Common.{◌≡◌, ℕ, List, ◌++◌, codes, ap, ◌∙◌, append_assoc}
use Rattle.mbdc_io.specs.Words.{number_word}

-- a word, a meter and a number, and then the others
pub begun_as : (word : List ℕ) {text meter : List ℕ} {given number : ℕ} (rest : List ℕ) → text ≡ meter → given ≡ number
    → (word ++ (text ++ (number_word given ++ codes " "))) ++ rest ≡ word ++ (meter ++ (number_word number ++ (codes " " ++ rest)))
begun_as word {text} {meter} {given} {number} rest is same =
    append_assoc word (text ++ (number_word given ++ codes " ")) rest
    ∙ ap (λ (l : List ℕ). word ++ l) (append_assoc text (number_word given ++ codes " ") rest ∙ ap (λ (l : List ℕ). text ++ l) (append_assoc (number_word given) (codes " ") rest))
    ∙ ap (λ (t : List ℕ). word ++ (t ++ (number_word given ++ (codes " " ++ rest)))) is
    ∙ ap (λ (n : ℕ). word ++ (meter ++ (number_word n ++ (codes " " ++ rest)))) same
