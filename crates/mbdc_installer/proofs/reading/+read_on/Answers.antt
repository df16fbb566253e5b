use Rattle.std.proofs.Common.{◌≡◌, None, Some, Option, Result, Ok, Err, refl, sym, ◌∙◌, rules}
use Rattle.std.proofs.lemmas.Result.{err_from_is_err_and}
use Rattle.std.specs.Prelude.{option_map}
use Rattle.std.specs.Result.{OnErr}
use Rattle.dc_core.proofs.Requests.{request_is_short}
use Rattle.dc_linkframe.specs.Frame.{spelling}
use Rattle.dc_readout.specs.Summary.{asked_by}
use Rattle.mbdc_installer.proofs.Readouts.{ends_at_once, fails, goes_on, is_cut_off, is_cut_off_later}
use Rattle.mbdc_installer.proofs.Results.{each_ok}
use Rattle.mbdc_installer.proofs.reading.+read_on.Goals as goal

none_of : {X Y : Type 0} (o : Option X) (f : X → Y) → option_map f o ≡ None → o ≡ None
none_of None f is = refl
none_of (Some x) f is = cc

pub returns-in_default-clause-read : goal.returns-in_default-clause-read
returns-in_default-clause-read g t c =
    let none : option_map spelling (asked_by c.args.session) ≡ None = sym c.in_default.ensures.exact in
    ends_at_once g.B.Bus.asks c.args.bus.now c.args.session c.args.misses (g.W.Sink.written c.args.out.now) (none_of (asked_by c.args.session) spelling none)

pub exchange-requires-clause-short : goal.exchange-requires-clause-short
exchange-requires-clause-short g t c = request_is_short c.args.session (Some c.in-Some.request) c.in-Some.ensures.exact

pub returns-then-is_over-clause-read : goal.returns-then-is_over-clause-read
returns-then-is_over-clause-read g t c =
    let so = c.in_ok-is_over.ensures.exchanged in
    fails g.B.Bus.asks c.args.bus.now c.exchange.new.bus c.args.session c.exchange.new.session c.args.misses c.exchange.new.misses c.in-Some.request so.0
    (g.W.Sink.written c.args.out.now) (g.W.Sink.written c.exchange.new.out)
    so.1 (sym c.in-Some.ensures.exact) so.3.0 (sym so.2.1 ∙ (search rules)) so.2.2 c.in_ok-is_over.ensures.fewer

on_err : {X E P Q : Type 0} (r : Result X E) → (P → Q) → OnErr r P → OnErr r Q
on_err (Ok x) then p = tt
on_err (Err e) then p = then p

pub returns-clause-read : goal.returns-clause-read
returns-clause-read g t c =
    let so = c.in_ok-is_over.ensures.exchanged in
    each_ok c.read_on.result (λ readout more. goes_on g.B.Bus.asks readout c.args.bus.now c.exchange.new.bus c.read_on.new.bus c.args.session c.exchange.new.session
    c.args.misses c.exchange.new.misses c.in-Some.request so.0
    (g.W.Sink.written c.args.out.now) (g.W.Sink.written c.exchange.new.out) (g.W.Sink.written c.read_on.new.out) c.in_ok-is_over.ensures.fewer so.1 (sym c.in-Some.ensures.exact) so.2.0
    (sym so.2.1 ∙ (search rules)) so.2.2 so.3.0 more) c.read_on.ensures.read

pub returns-clause-unwritten : goal.returns-clause-unwritten
returns-clause-unwritten g t c =
    let so = c.in_ok-is_over.ensures.exchanged in
    on_err c.read_on.result (is_cut_off_later g.B.Bus.asks c.args.bus.now c.exchange.new.bus c.read_on.new.bus c.args.session c.exchange.new.session c.in-Some.request so.0
    (g.W.Sink.written c.args.out.now) (g.W.Sink.written c.exchange.new.out) (g.W.Sink.written c.read_on.new.out) so.1 (sym c.in-Some.ensures.exact) so.2.0 so.3.0) c.read_on.ensures.unwritten

pub returns-in_err-is_over-clause-unwritten : goal.returns-in_err-is_over-clause-unwritten
returns-in_err-is_over-clause-unwritten g t c =
    let so = c.in_err-is_over.ensures.exchanged in
    let failed = err_from_is_err_and c.from_residual.result c.from_residual.ensures.1 in
    let from : c.from_residual.result ≡ Err c.in_err-is_over.field-0.0 = cc (failed.1, failed.2) in
    rw from (is_cut_off g.B.Bus.asks c.args.bus.now c.exchange.new.bus c.args.session c.in-Some.request so.0 (g.W.Sink.written c.args.out.now) (g.W.Sink.written c.exchange.new.out)
    so.1 (sym c.in-Some.ensures.exact) so.3.2)
