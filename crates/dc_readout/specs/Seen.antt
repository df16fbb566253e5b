-- What code answers, without where a telegram lies in memory.
use Rattle.dc_records.specs.Telegram.{parsed}
use Rattle.dc_readout.specs.declared.answers.Meaning as declared
use Rattle.dc_readout.specs.declared.answers.Meaning.TheVariants as code
use Rattle.dc_readout.specs.declared.heard.Heard.{Heard}
use Rattle.dc_readout.specs.declared.heard.Heard.TheVariants.{Again, Ready, New, Failed}
use Rattle.dc_readout.specs.Answer.{Meaning, acknowledged, answered, missed, broken}
use Rattle.dc_readout.specs.Summary.{Verdict, again, ready, new, failed}

abbrev pub meaning : declared.Meaning → Meaning
meaning code.Acknowledged = acknowledged
meaning (code.Answered telegram) = answered (parsed telegram)
meaning (code.Missed why) = missed why
meaning (code.Broken why) = broken why

abbrev pub verdict : Heard → Verdict
verdict Again = again
verdict Ready = ready
verdict (New part telegram) = new part (parsed telegram)
verdict (Failed why) = failed why
