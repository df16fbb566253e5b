use Rattle.std.proofs.Common.{◌≡◌, option_map}
use Rattle.std.specs.Prelude.{◌&&◌}
use Rattle.std.specs.List.{list_all}
use Rattle.mbdc_sheet.specs.Parts.{left_parts, parts_of}
use Rattle.mbdc_sheet.specs.Sheet.{is_fine}
use Rattle.mbdc_sheet.specs.View.{known_of}
use Rattle.mbdc_sheet.proofs.Marks.{left_length}
use Rattle.mbdc_sheet.proofs.flaw.Known.check_parts.Given as goal

abbrev pub decreases-parts : goal.decreases-parts
decreases-parts g l = left_length l.left

abbrev pub invariant-parts : goal.invariant-parts
invariant-parts g l =
    ((l.is_fine && list_all (is_fine (known_of l.self)) (left_parts 60 (option_map (λ s. s.now) l.left)))
    ≡ list_all (is_fine (known_of l.self)) (parts_of 60 l.fn.page))
    × (g.W.Sink.put_failures l.out ≡ g.W.Sink.put_failures l.fn.out)
