use Rattle.mbdc_change.proofs.change_line.parse_body.Goals as goal

pub returns-clause-only : goal.returns-clause-only
returns-clause-only c = λ body is bytes_are.
    c.parse.ensures.only body is (cc (c.in_ok-count.ensures.value, bytes_are, c.split_at.ensures.front))
