use Rattle.std.proofs.Common.{arith}
use Rattle.dc_poller.proofs.Scripts.{one_line}
use Rattle.dc_poller.proofs.script_line.ScriptLine.parse.Goals as goal

pub returns-in-Some-clause-only : goal.returns-in-Some-clause-only
returns-in-Some-clause-only c = λ asked told. one_line c.args.text.now _ asked c.in-Some.ensures.found told

pub returns-in-Some-parse_start-clause-only : goal.returns-in-Some-parse_start-clause-only
returns-in-Some-parse_start-clause-only c = λ asked told. one_line c.args.text.now _ asked c.in-Some-parse_start.ensures.found told

pub returns-in-Some-parse_ask-clause-only : goal.returns-in-Some-parse_ask-clause-only
returns-in-Some-parse_ask-clause-only c = λ asked told. one_line c.args.text.now _ asked c.in-Some-parse_ask.ensures.found told

pub returns-in-Some-behind_office-clause-only : goal.returns-in-Some-behind_office-clause-only
returns-in-Some-behind_office-clause-only c = λ asked told.
    one_line c.args.text.now _ asked (record { fits = omega arith; has_bounds = tt; spells = c.in-Some-behind_office.ensures.found }) told

pub returns-in-Some-parse_poll-clause-only : goal.returns-in-Some-parse_poll-clause-only
returns-in-Some-parse_poll-clause-only c = λ asked told. one_line c.args.text.now _ asked c.in-Some-parse_poll.ensures.found told

pub returns-in-Some-parse_search-clause-only : goal.returns-in-Some-parse_search-clause-only
returns-in-Some-parse_search-clause-only c = λ asked told. one_line c.args.text.now _ asked c.in-Some-parse_search.ensures.found told

pub returns-clause-only : goal.returns-clause-only
returns-clause-only c = λ asked told. one_line c.args.text.now _ asked c.in_ok-line.ensures.found told
