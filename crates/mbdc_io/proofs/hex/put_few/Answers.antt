use Rattle.std.proofs.Common.{◌≡◌, ◌+◌, ◌*◌, ◌∷◌, ℕ, List, length, take, refl, ap, sym, ◌∙◌, arith}
use Rattle.std.proofs.lemmas.Grind.{common_steps}
use Rattle.mbdc_io.specs.Hex.{upper_hex}
use Rattle.mbdc_io.proofs.Digits.{hex_of_none, two_more}
use Rattle.mbdc_io.proofs.hex.put_few.Goals as goal

pub bytes-init : goal.bytes-init
bytes-init g c = record { room = refl; text = ap (λ (t : List ℕ). 32 ∷ t) (sym hex_of_none) }

pub bytes-preserved : goal.bytes-preserved
bytes-preserved g c = record {
  room = grind (arith, common_steps, c.bytes.invariant.room);
  text = rw c.pair_of.ensures (two_more c.bytes.text c.args.bytes.now c.bytes.i (omega arith) (omega (arith, c.bytes.invariant.room)) c.bytes.invariant.text);
}

pub returns : goal.returns
returns g c =
    let all : c.bytes.i ≡ length c.args.bytes.now = omega arith in
    let whole : take (length c.args.bytes.now) c.args.bytes.now ≡ c.args.bytes.now = grind (arith, common_steps) in
    let text : take (2 * length c.args.bytes.now + 1) c.bytes.text ≡ 32 ∷ upper_hex c.args.bytes.now =
    ap (λ (n : ℕ). take (2 * n + 1) c.bytes.text) (sym all) ∙ c.bytes.invariant.text ∙ ap (λ (n : ℕ). 32 ∷ upper_hex (take n c.args.bytes.now)) all
    ∙ ap (λ (t : List ℕ). 32 ∷ upper_hex t) whole in
    grind arith
