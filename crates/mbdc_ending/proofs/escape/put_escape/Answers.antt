use Rattle.std.proofs.Common.{arith, rules, ◌++◌, ◌∷◌, [], ap, sym, ◌∙◌, append_assoc}
use Rattle.std.specs.Char.Iter.{escape_rest}
use Rattle.std.specs.Char.Escape.{escape_default}
use Rattle.std.specs.Str.{encode_utf8_all}
use Rattle.mbdc_io.specs.Stream.{PutsFront}
use Rattle.mbdc_io.proofs.Pieces.{append_known-more, puts_front-within}
use Rattle.mbdc_ending.proofs.Escapes.{bytes_within, comes_first, one_more}
use Rattle.mbdc_ending.proofs.escape.put_escape.Goals as goal

pub loop-x-preserved : goal.loop-x-preserved
loop-x-preserved g c =
    let first = comes_first _ _ _ _ c.in-Some.is c.next.ensures.steps in
    let whole = append_assoc c.loop-x.yielded (c.in-Some.x ∷ []) (escape_rest c.next.new.self) ∙ ap (λ rest. c.loop-x.yielded ++ rest) (sym first) ∙ c.loop-x.invariant.whole in
    search (rules, append_known-more, one_more)

pub returns-in_err-put_char : goal.returns-in_err-put_char
returns-in_err-put_char g c =
    let first = comes_first _ _ _ _ c.in-Some.is c.next.ensures.steps in
    let whole = ap (λ rest. c.loop-x.yielded ++ rest) (sym first) ∙ c.loop-x.invariant.whole in
    let front : PutsFront (g.W.Sink.written c.args.out.now) (g.W.Sink.written c.put_char.new.out) (encode_utf8_all (escape_default c.args.c))
    = puts_front-within _ _ _ c.loop-x.invariant.text (bytes_within _ _ _ _ whole) c.in_err-put_char.ensures.2 in
    grind arith
