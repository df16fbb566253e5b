use Rattle.std.proofs.Common.{map}
use Rattle.mbdc_decode.specs.Object.{values_tokens}
use Rattle.mbdc_decode.proofs.Rests.{Rest}
use Rattle.mbdc_decode.specs.Record.{record_json}
use Rattle.mbdc_shown.proofs.reported.put_listed.Given as goal

-- the tokens so far, and those of the records that are left, make the whole
abbrev pub invariant-records : goal.invariant-records
invariant-records g l = record {
  can : (goal.iterator-records g).can_next l.sent-iterator;
  ends : (goal.iterator-records g).is_finite l.sent-iterator;
  tokens : Rest g.W.Sink l.initial.out l.out (values_tokens (map record_json l.sent-iterator)) (values_tokens (map record_json l.fn.listed));
}
