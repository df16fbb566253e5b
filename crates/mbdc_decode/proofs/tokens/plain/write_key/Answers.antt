use Rattle.mbdc_decode.proofs.Keys.{key_put}
use Rattle.mbdc_decode.proofs.tokens.plain.write_key.Goals as goal

pub returns-clause-text : goal.returns-clause-text
returns-clause-text c =
    rw (c.copy_from_slice.ensures.after, c.copy_from_slice-2.ensures.after)
    (key_put c.split_at_mut-front.result.0.now c.split_at_mut-colon.result.0.now c.args.name.now c.args.after.now c.split_at_mut-place-2.result.1.now
    c.split_at_mut-front.ensures.front_len c.split_at_mut-colon.ensures.front_len)
