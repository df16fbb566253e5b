use Rattle.std.proofs.Common.{List, length, ap, ◌∙◌, refl}
use Rattle.mbdc_audit.specs.View.{span_of, place_of}
use Rattle.std.proofs.Common.{filter, ◌==◌}
use Rattle.mbdc_audit.specs.declared.house.Window as window_type
use Rattle.mbdc_audit.specs.House.{at}
use Rattle.mbdc_audit.proofs.Windowed.{no_window, one_window}
use Rattle.mbdc_audit.proofs.Timed.{from_at, to_at}
use Rattle.mbdc_audit.proofs.sound.is_spanned.Goals as goal

pub returns-then-from-to : goal.returns-then-from-to
returns-then-from-to g c =
    one_window (place_of c.args.place.now) (span_of c.args.span.now) c.args.place.now.windows.items c.args.number c.windows_of-count.result
    c.reach-from.result.0 c.reach-from.result.1 refl
    (c.windows_of-count.ensures ∙ ap (λ (ws : List (window_type.Window _)). length (filter (λ w. w.span == c.args.number) ws)) c.as_slice.ensures.value)
    (c.reach-from.ensures.from ∙ from_at c.args.place.now.runs.items (at (span_of c.args.span.now).from))
    (c.reach-from.ensures.to ∙ to_at c.args.place.now.runs.items (at (span_of c.args.span.now).to)) c.if-from-to.true

pub returns-else-from-to : goal.returns-else-from-to
returns-else-from-to g c =
    no_window (place_of c.args.place.now) (span_of c.args.span.now) c.args.place.now.windows.items c.args.number c.windows_of-count.result
    c.reach-from.result.0 c.reach-from.result.1 refl
    (c.windows_of-count.ensures ∙ ap (λ (ws : List (window_type.Window _)). length (filter (λ w. w.span == c.args.number) ws)) c.as_slice.ensures.value)
    (c.reach-from.ensures.from ∙ from_at c.args.place.now.runs.items (at (span_of c.args.span.now).from))
    (c.reach-from.ensures.to ∙ to_at c.args.place.now.runs.items (at (span_of c.args.span.now).to)) c.if-from-to.false
