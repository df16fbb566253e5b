use Rattle.std.proofs.Common.{◌≡◌, ◌-◌, ◌/◌, ◌^◌, ◌++◌, drop}
use Rattle.dc_units.specs.Text.{last_digits}
use Rattle.dc_units.proofs.room.put_digits.Given as goal

abbrev pub invariant-digits : goal.invariant-digits
invariant-digits l = record {
  left : l.left ≡ l.n / l.base ^ l.i;
  text : last_digits l.base l.count l.n ++ drop l.end l.initial.room
      ≡ last_digits l.base (l.count - l.i) l.left ++ drop (l.end - l.i) l.room;
}
