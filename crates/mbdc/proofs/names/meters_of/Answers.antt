use Rattle.std.proofs.Common.{◌≡◌, length, eqb-true}
use Rattle.std.proofs.lemmas.List.{nil_from_length}
use Rattle.mbdc.proofs.names.meters_of.Goals as goal

pub returns-in-Ok-resolve_all-clause-named : goal.returns-in-Ok-resolve_all-clause-named
returns-in-Ok-resolve_all-clause-named g c = record {
  read = (_, c.in-Ok.field-0-1, c.in-Ok.ensures.read);
  meant = c.in-Ok-resolve_all.ensures.found;
  none = tt;
}

pub returns-in-Err-clause-named : goal.returns-in-Err-clause-named
returns-in-Err-clause-named g c =
    let none : length c.args.names.now ≡ 0 = eqb-true _ _ cc in
    record { read = tt; meant = tt; none = (nil_from_length c.args.names.now none, cc) }
