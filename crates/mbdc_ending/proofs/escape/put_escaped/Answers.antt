use Rattle.std.proofs.Common.{ap, sym, ◌∙◌, arith}
use Rattle.std.proofs.lemmas.Iterator.{YieldsList-from_chars}
use Rattle.std.proofs.lemmas.Iterator.Consumers.{YieldsList-end, YieldsList-so_far, YieldsList-turn}
use Rattle.std.proofs.lemmas.List.{map-id}
use Rattle.std.specs.Io.KnownBytes.{append_known}
use Rattle.std.specs.List.{flat_map}
use Rattle.std.specs.Str.{chars, encode_utf8_all}
use Rattle.mbdc_io.specs.Stream.{PutsFront}
use Rattle.mbdc_io.proofs.Pieces.{puts_front-within}
use Rattle.mbdc_ending.proofs.Escapes.{shown_within}
use Rattle.mbdc_ending.specs.Escape.{escaped, shown}
use Rattle.mbdc_ending.proofs.escape.put_escaped.Goals as goal

pub returns : goal.returns
unfolding escaped
returns g c =
    let all = YieldsList-end (YieldsList-from_chars c.args.text.now c.utf8.text cc) c.loop-c.yielded _ c.loop-c.yielded_by _ _ c.in-None.is c.next.ensures.steps in
    let chars = sym (map-id c.loop-c.yielded) ∙ all.0 in
    let text = c.loop-c.invariant.text ∙ ap (λ cs. append_known (g.W.Sink.written c.args.out.now) (encode_utf8_all (flat_map shown cs))) chars in
    (text, c.loop-c.invariant.ok, tt, tt)

pub returns-in_err-put_shown : goal.returns-in_err-put_shown
unfolding escaped
returns-in_err-put_shown g c =
    let list = YieldsList-from_chars c.args.text.now c.utf8.text cc in
    let so_far = YieldsList-so_far list c.loop-c.yielded _ c.loop-c.yielded_by in
    let turn = YieldsList-turn list c.loop-c.yielded _ c.loop-c.yielded_by _ _ c.in-Some.c c.in-Some.is c.next.ensures.steps in
    let front : PutsFront (g.W.Sink.written c.args.out.now) (g.W.Sink.written c.put_shown.new.out) (encode_utf8_all (flat_map shown (chars c.args.text.now)))
    = puts_front-within _ _ _ c.loop-c.invariant.text (shown_within (chars c.args.text.now) c.loop-c.yielded c.in-Some.c so_far turn.0 turn.1) c.in_err-put_shown.ensures.2 in
    grind arith
