-- A bus as the list of its meters, and what a selection on it leads to (this product's model of a wired M-Bus).
-- A selection is met by silence where no meter matches; by an acknowledgement and then a telegram where one
-- does; by an acknowledgement and then bytes that are no frame where more do.
use Rattle.std.specs.Prelude.{◌≡◌, ◌+◌, ◌<◌, true, List, [], ◌∷◌, length}
use Rattle.dc_address.specs.declared.identity.Identity.{Identity}
use Rattle.dc_search.specs.State.{SearchState, after_collision, after_one, settled}
use Rattle.dc_search.specs.declared.bus.Matching.{Matching}
use Rattle.dc_search.specs.declared.bus.Matching.TheVariants.{Nobody, One, More}

-- none, one or more of the meters
abbrev pub IsMatching : Matching → List Identity → Type 0
IsMatching Nobody meters = meters ≡ []
IsMatching (One meter) meters = meters ≡ meter ∷ []
IsMatching More meters = 1 < length meters

-- the search after a selection that these meters match
abbrev pub visited : List Identity → SearchState → SearchState
visited [] s = settled (record s { selections = s.selections + 1 })
visited (meter ∷ []) s = after_one meter
    (record s { answered = true; selections = s.selections + 1 })
visited (meter ∷ other ∷ more) s =
    after_collision (record s { answered = true; selections = s.selections + 1 })
