-- The names of VIFEs, one more of those that are gone through by index.
use Rattle.std.proofs.Common.{◌≡◌, ℕ, ◌+◌, ◌<◌, ◌≤◌, Bool, List, [], ◌++◌, length, drop, get_or, ap, sym, ◌∙◌}
use Rattle.std.proofs.lemmas.List.{drop_all, drop_more}
use Rattle.mbdc_reading.specs.Meaning.{is_extension, number_after}
use Rattle.mbdc_reading.specs.Names.{names_of}
use Rattle.mbdc_reading.specs.Vifes.{vife_at}
use Rattle.mbdc_json.specs.LatestValues.{name_words, names_words}

pub next_name : (after_fc : Bool) (vifes : List ℕ) (i : ℕ) (number : ℕ) (name : List ℕ) → i < length vifes → number ≡ number_after after_fc (get_or vifes i 0) → name ≡ (vife_at number).name
    → names_words after_fc (drop i vifes) ≡ name_words name ++ names_words (is_extension after_fc (get_or vifes i 0)) (drop (i + 1) vifes)
unfolding names_of
next_name after_fc vifes i number name within is at =
    ap (names_words after_fc) (drop_more vifes i 0 within)
    ∙ ap (λ (n : ℕ). name_words (vife_at n).name ++ names_words (is_extension after_fc (get_or vifes i 0)) (drop (i + 1) vifes)) (sym is)
    ∙ ap (λ (xs : List ℕ). name_words xs ++ names_words (is_extension after_fc (get_or vifes i 0)) (drop (i + 1) vifes)) (sym at)

pub no_names : (after_fc : Bool) (vifes : List ℕ) (i : ℕ) → length vifes ≤ i → names_words after_fc (drop i vifes) ≡ []
unfolding names_of
no_names after_fc vifes i past = ap (names_words after_fc) (drop_all i vifes past)
