use Rattle.std.proofs.Common.{◌≡◌, Some, take, map}
use Rattle.std.specs.Prelude.{All, slice_get}
use Rattle.mbdc_audit.specs.Amount.{known}
use Rattle.mbdc_audit.specs.File.{AsksNothing}
use Rattle.mbdc_audit.specs.House.{Span}
use Rattle.mbdc_audit.specs.Published.{MayAskOf}
use Rattle.mbdc_audit.specs.Sound.{IsWindow}
use Rattle.mbdc_audit.specs.View.{house_of, known_in, number_of, place_of, window_of}
use Rattle.mbdc_audit.proofs.Judge.{Only}
use Rattle.mbdc_audit.proofs.Nested.{SureAt}
use Rattle.mbdc_audit.proofs.teller.Teller.judge_window.Given as goal

-- the numbers so far are judged
abbrev pub invariant-numbers : goal.invariant-numbers
invariant-numbers g l = (s : Span) → slice_get (house_of l.house).spans l.window.span ≡ Some s → IsWindow (house_of l.house) (place_of l.place) (window_of l.window) s
    → known_in l.window.values.items ≡ known (window_of l.window).values
    → All (λ n. MayAskOf (house_of l.house) (place_of l.place) (window_of l.window) n.key) (map number_of l.window.numbers.items)
    → Only (All AsksNothing (map number_of l.window.numbers.items)) l.initial.self.counts l.self.counts
    (All (SureAt (house_of l.house) (place_of l.place) (window_of l.window)) (take l.number-index l.window.numbers.items))
