use Rattle.json.proofs.Printed.Plain.{escape_on_plain}
use Rattle.mbdc_decode.proofs.tokens.plain.is_plain.Goals as goal

pub returns : goal.returns
returns c = escape_on_plain c.are_plain.result c.args.text.now c.are_plain.ensures
