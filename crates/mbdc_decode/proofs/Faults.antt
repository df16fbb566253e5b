-- Whether the lines of an input and the frames of a line have a fault, one more.
use Rattle.std.proofs.Common.{◌≡◌, ℕ, Bool, List, ◌∷◌, ap, sym, ◌∙◌}
use Rattle.std.specs.Prelude.{◌||◌}
use Rattle.mbdc_decode.specs.Frames.{is_bad, any_bad}
use Rattle.mbdc_decode.specs.Text.{is_bad_line, any_bad_line}
use Rattle.mbdc_io.proofs.Bools.{or_assoc}

pub one_fault_more : (found bad : Bool) (whole left others : List (List ℕ)) (text : List ℕ)
    → (found || any_bad left) ≡ any_bad whole → left ≡ text ∷ others → bad ≡ is_bad text
    → ((found || bad) || any_bad others) ≡ any_bad whole
unfolding any_bad
one_fault_more found bad whole left others text all is same =
    or_assoc found bad (any_bad others)
    ∙ ap (λ (b : Bool). found || (b || any_bad others)) same
    ∙ ap (λ (ts : List (List ℕ)). found || any_bad ts) (sym is) ∙ all

pub one_line_fault_more : (found bad : Bool) (whole left others : List (List ℕ)) (line : List ℕ)
    → (found || any_bad_line left) ≡ any_bad_line whole → left ≡ line ∷ others → bad ≡ is_bad_line line
    → ((found || bad) || any_bad_line others) ≡ any_bad_line whole
unfolding any_bad_line
one_line_fault_more found bad whole left others line all is same =
    or_assoc found bad (any_bad_line others)
    ∙ ap (λ (b : Bool). found || (b || any_bad_line others)) same
    ∙ ap (λ (ls : List (List ℕ)). found || any_bad_line ls) (sym is) ∙ all
