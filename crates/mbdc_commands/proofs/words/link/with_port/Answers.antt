use Rattle.std.proofs.Common.{◌≡◌, arith, true, false, refl, sym, ◌∙◌}
use Rattle.std.proofs.lemmas.Bool.Decides.{nat_tests}
use Rattle.mbdc_commands.proofs.Places.{split_at_last, only_place, none_without_colon}
use Rattle.mbdc_commands.proofs.words.link.with_port.Goals as goal
use Rattle.mbdc_commands.proofs.words.link.with_port.Goals.{in_default-via-in-Some+then-not-is_empty+else-is_port, in_default-via-in-Some+else-not-is_empty, in_default-via-in_default}

pub returns-in_default : goal.returns-in_default
returns-in_default c = (
  refl,
  elim c.in_default.branch [
    | in_default-via-in-Some+then-not-is_empty+else-is_port w ↦
        (let cut = w.in-Some.ensures.cases in
        let parts = split_at_last c.args.place.now w.in-Some.host.now w.in-Some.port.now cut.0 cut.1 cut.2 cut.3 cut.4 in
        only_place c.args.place.now w.in-Some.host.now w.in-Some.port.now parts.0 parts.1 (λ some is. absurd (let no : true ≡ false = sym (w.is_port.ensures.1 is) ∙ w.if-is_port.false in cc)))
    | in_default-via-in-Some+else-not-is_empty w ↦
        (let cut = w.in-Some.ensures.cases in
        let parts = split_at_last c.args.place.now w.in-Some.host.now w.in-Some.port.now cut.0 cut.1 cut.2 cut.3 cut.4 in
        only_place c.args.place.now w.in-Some.host.now w.in-Some.port.now parts.0 parts.1 (λ some is. absurd (grind (arith, nat_tests, w.if-not-is_empty.false, some))))
    | in_default-via-in_default w ↦
        (let none = rw w.in_default.is at c.rsplit_once.ensures.cases in
        none_without_colon c.args.place.now none)
  ],
)
