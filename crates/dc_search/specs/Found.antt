-- The result of a search, as text (this product).
use Rattle.std.specs.Prelude.{ℕ, ◌+◌, List, [], ◌++◌, codes, flat_map, map}
use Rattle.dc_address.specs.Digits.{decimal_digits}
use Rattle.dc_address.specs.Text.{decimal_code, text_of}
use Rattle.dc_address.specs.declared.identity.Identity.{Identity}
use Rattle.mbdc_io.specs.Words.{number_word}
use Rattle.dc_search.specs.State.{SearchState, step_of}
use Rattle.dc_search.specs.declared.step.Step.{Step}
use Rattle.dc_search.specs.declared.step.Step.TheVariants.{Select, Request, Done, Budget}

-- the greatest budget of a search
abbrev pub greatest_budget : ℕ
greatest_budget = 4294967295

abbrev pub found_line : Identity → List ℕ
found_line meter = codes "FOUND " ++ text_of meter ++ codes "\n"

-- a number that more than one meter has, in eight digits
abbrev pub shared_line : ℕ → List ℕ
shared_line number = codes "SHARED " ++ map decimal_code (decimal_digits 8 number) ++ codes "\n"

-- a selection was due, and the budget was spent
abbrev pub budget_line : Step → List ℕ
budget_line (Select mask) = []
budget_line Request = []
budget_line Done = []
budget_line Budget = codes "BUDGET\n"

abbrev pub selections_line : ℕ → List ℕ
selections_line count = codes "SELECTIONS" ++ number_word count ++ codes "\n"

abbrev pub search_text : SearchState → List ℕ
search_text search = flat_map found_line search.found ++ (flat_map shared_line search.shared
    ++ (budget_line (step_of search) ++ selections_line search.selections))

-- the text of a search that follows another of this many selections, which are counted too
abbrev pub search_text_after : ℕ → SearchState → List ℕ
search_text_after before search =
    flat_map found_line search.found
    ++ (flat_map shared_line search.shared
    ++ (budget_line (step_of search) ++ selections_line (before + search.selections)))
