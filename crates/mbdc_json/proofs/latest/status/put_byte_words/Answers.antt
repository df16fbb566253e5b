use Rattle.std.proofs.Common.{◌≡◌, ◌++◌, List, codes, refl, subst, ℕ}
use Rattle.mbdc_io.specs.Written.{Wrote}
use Rattle.mbdc_json.specs.LatestValues.{byte_words, bits_words}
use Rattle.mbdc_json.proofs.latest.status.put_byte_words.Goals as goal

pub returns : goal.returns
unfolding byte_words bits_words
returns g c =
    let text : codes " " ++ (c.as_bytes.result.now ++ (c.bit_words.result.now ++ (c.bit_words-2.result.now ++ c.bit_words-3.result.now))) ≡ byte_words c.args.status =
    rw (c.as_bytes.ensures.value, c.application_name.ensures, c.bit_words.ensures, c.bit_words-2.ensures, c.bit_words-3.ensures) refl in
    subst (λ (bytes : List ℕ). Wrote g.W.Sink c.put_pieces.result c.args.out.now c.put_pieces.new.out bytes) text c.put_pieces.ensures
