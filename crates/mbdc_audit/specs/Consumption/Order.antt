-- Entries in order of moment (this product's rule): several may have one moment, as at an exchange.
use Rattle.std.specs.Prelude.{List}
use Rattle.std.specs.List.Sorted.{IsNonDecreasingBy}
use Rattle.mbdc_audit.specs.declared.consumption.entry.Entry.{Entry}

abbrev pub IsInOrder : List Entry → Type 0
IsInOrder entries = IsNonDecreasingBy (λ e. e.moment) entries
