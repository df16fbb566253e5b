use Rattle.mbdc_log.proofs.Encoded.{same_reference, went_into, broken_reference, broke_off}
use Rattle.mbdc_log.proofs.writing.encode_into.Goals as goal

pub returns-in-Ok-clause-same_reference : goal.returns-in-Ok-clause-same_reference
returns-in-Ok-clause-same_reference g c =
    same_reference g.D.Disk c.args.sink.now c.encode.new.sink _ c.in-Ok.ensures.ok.chain

pub returns-in-Ok-clause-goes_into : goal.returns-in-Ok-clause-goes_into
returns-in-Ok-clause-goes_into g c =
    went_into g.D.Disk c.args.sink.now c.encode.new.sink _ c.in-Ok.ensures.ok.chain

pub returns-in-Err-clause-same_reference : goal.returns-in-Err-clause-same_reference
returns-in-Err-clause-same_reference g c =
    broken_reference g.D.Disk c.args.sink.now c.encode.new.sink _ c.in-Err.ensures.err.broken

pub returns-in-Err-clause-breaks_off : goal.returns-in-Err-clause-breaks_off
returns-in-Err-clause-breaks_off g c =
    broke_off g.D.Disk c.args.sink.now c.encode.new.sink _ c.in-Err.ensures.err.broken
