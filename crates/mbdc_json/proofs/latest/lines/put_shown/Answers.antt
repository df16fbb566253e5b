use Rattle.std.proofs.Common.{◌≡◌, ◌+◌, ◌∷◌, ◌∙◌, [], List, ℕ, ap, arith, drop, get_or, map, sym}
use Rattle.std.proofs.lemmas.List.{drop_more}
use Rattle.mbdc_io.specs.Stream.{PutsFront}
use Rattle.mbdc_json.specs.LatestValues.{shown}
use Rattle.mbdc_json.proofs.Fronts.{front_of_all}
use Rattle.mbdc_json.proofs.latest.lines.put_shown.Goals as goal

pub returns-in_err-put : goal.returns-in_err-put
returns-in_err-put g c =
    let all : List ℕ = c.args.text.now in
    let at = c.bytes.byte-index in
    let next : drop at all ≡ get_or all at 0 ∷ drop (at + 1) all = drop_more all at 0 (omega (arith, c.bytes-test.true)) in
    let piece = ap (map shown) next ∙ ap (λ (b : ℕ). b ∷ map shown (drop (at + 1) all)) (sym c.shown.ensures) in
    let front : PutsFront (g.W.Sink.written c.args.out.now) (g.W.Sink.written c.put.new.self) (map shown all)
    = front_of_all _ _ _ (c.shown.result ∷ []) (map shown (drop (at + 1) all)) _ _ piece c.bytes.invariant.text c.in_err-put.ensures.err in
    grind arith
