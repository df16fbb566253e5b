-- A line is read one way, and an input has one text.
use Rattle.std.proofs.Common.{◌≡◌, ℕ, List, [], ◌∷◌, Bool, Option, None, Some, refl, sym, ap, ◌∙◌}
use Rattle.mbdc_change.specs.ChangeLine.{IsLineOf}
use Rattle.mbdc_change.specs.declared.change.Change.{Change}
use Rattle.dc_poller.specs.Fold.{IsReadAs, AreReadAs, IsFolded, any_unread, fold_text}
use Rattle.mbdc_io.specs.Lines.{lines_of}

-- a line spells one change
abbrev pub OneChange : Type 0
OneChange = (line : List ℕ) (a b : Change) → IsLineOf line a → IsLineOf line b → a ≡ b

pub one_read : OneChange → (line : List ℕ) (a b : Option Change) → IsReadAs line a → IsReadAs line b → a ≡ b
one_read one line None None is_a is_b = refl
one_read one line None (Some b) is_a is_b = absurd (is_a b is_b)
one_read one line (Some a) None is_a is_b = absurd (is_b a is_a)
one_read one line (Some a) (Some b) is_a is_b = ap Some (one line a b is_a is_b)

same_reads : OneChange → (lines : List (List ℕ)) (a b : List (Option Change)) → AreReadAs lines a → AreReadAs lines b → a ≡ b
same_reads one [] [] [] are_a are_b = refl
same_reads one [] [] (read ∷ b) are_a are_b = absurd are_b
same_reads one [] (read ∷ a) b are_a are_b = absurd are_a
same_reads one (line ∷ lines) [] b are_a are_b = absurd are_a
same_reads one (line ∷ lines) (read ∷ a) [] are_a are_b = absurd are_b
same_reads one (line ∷ lines) (read ∷ a) (other ∷ b) are_a are_b =
    let first = one_read one line read other are_a.0 are_b.0 in
    let rest = same_reads one lines a b are_a.1 are_b.1 in
    cc

pub one_text : OneChange → (input text other : List ℕ) (found found_2 : Bool) → IsFolded input text found → IsFolded input other found_2 → (text ≡ other) × (found ≡ found_2)
one_text one input text other found found_2 a b =
    let reads = same_reads one (lines_of input) a.reads b.reads a.lines_are b.lines_are in
    (a.text_is ∙ ap fold_text reads ∙ sym b.text_is, a.found_is ∙ ap any_unread reads ∙ sym b.found_is)
