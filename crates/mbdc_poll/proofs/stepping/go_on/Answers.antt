use Rattle.std.proofs.Common.{◌≡◌, [], ◌∷◌, ◌≤◌, ◌-◌, ◌<◌, ℕ, List, drop, length, ap, sym, subst, ◌∙◌, arith}
use Rattle.dc_address.specs.declared.identity.Identity.{Identity}
use Rattle.mbdc_poll.specs.Keeping.{IsAsking}
use Rattle.mbdc_poll.specs.Station.{rounds_of}
use Rattle.mbdc_poll.proofs.Becoming.{free_pass, line_passed, passed_left, passed_phase, rounds_passed, sound_passed}
use Rattle.mbdc_poll.proofs.Queues.{steps_none, steps_both}
use Rattle.mbdc_poll.proofs.Running.{runs_as}
use Rattle.mbdc_poll.proofs.stepping.go_on.Goals as goal

pub returns-clause-went : goal.returns-clause-went
returns-clause-went g c =
    let some : 0 < length c.args.station.now.left.now = let count = ap length c.requires.first in omega (arith, count) in
    runs_as g.D.Disk _ _ c.args.concentrator.now c.prepare.new.concentrator c.prepare.ensures.went
    (λ core happened b. steps_both c.args.tries c.args.line IsAsking c.args.station.now c.pass_on.new.self c.prepare.new.station [] happened
    (steps_none c.args.tries c.args.line IsAsking c.args.station.now c.pass_on.new.self
    (line_passed g.B.HalfBus c.args.tries c.args.line c.args.station.now c.pass_on.new.self c.requires.free some c.requires.sound c.pass_on.ensures.after c.pass_on.ensures.brought)) b)

pub returns-clause-fewer : goal.returns-clause-fewer
returns-clause-fewer g c =
    let some : 0 < length c.args.station.now.left.now = let count = ap length c.requires.first in omega (arith, count) in
    subst (λ (n : ℕ). rounds_of g.B.HalfBus 0 0 0 c.args.tries c.prepare.new.station ≤ n - 1)
    (rounds_passed g.B.HalfBus 1 1 1 c.args.tries c.args.station.now c.pass_on.new.self c.requires.free some c.requires.sound c.pass_on.ensures.after)
    c.prepare.ensures.fewer

pub pass_on-requires : goal.pass_on-requires
pass_on-requires g c none =
    let count = ap length c.requires.first in
    let less = (free_pass g.B.HalfBus c.args.tries c.args.station.now c.requires.free c.requires.sound).3 (omega (arith, none, count)) in
    omega (arith, less, c.ranges.tries.fits)

pub prepare-requires-clause-sound : goal.prepare-requires-clause-sound
prepare-requires-clause-sound g c =
    let some : 0 < length c.args.station.now.left.now = let count = ap length c.requires.first in omega (arith, count) in
    (sound_passed g.B.HalfBus c.args.tries c.args.station.now c.pass_on.new.self c.requires.free some c.requires.sound c.pass_on.ensures.after).0

pub prepare-requires-clause-free : goal.prepare-requires-clause-free
prepare-requires-clause-free g c =
    let old = c.args.station.now in
    c.pass_on.ensures.after.phase ∙ passed_phase old.left.now old.due old.pass old.phase ∙ c.requires.free

pub prepare-requires-clause-due : goal.prepare-requires-clause-due
prepare-requires-clause-due g c =
    let some : 0 < length c.args.station.now.left.now = let count = ap length c.requires.first in omega (arith, count) in
    (sound_passed g.B.HalfBus c.args.tries c.args.station.now c.pass_on.new.self c.requires.free some c.requires.sound c.pass_on.ensures.after).1

pub prepare-requires-clause-first : goal.prepare-requires-clause-first
prepare-requires-clause-first g c =
    let old = c.args.station.now in
    let same = c.pass_on.ensures.after.left ∙ passed_left old.left.now old.due old.pass old.phase in
    subst (λ (xs : List Identity). xs ≡ c.args.meter ∷ drop 1 xs) (sym same) c.requires.first
