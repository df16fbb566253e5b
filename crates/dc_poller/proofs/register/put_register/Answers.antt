use Rattle.std.proofs.Common.{◌≡◌, ◌++◌, ℕ, List, codes, length, refl, ap, ◌∙◌, subst, arith}
use Rattle.std.proofs.lemmas.Grind.{common_steps}
use Rattle.mbdc_change.specs.Size.{size_of}
use Rattle.mbdc_change.specs.State.{State}
use Rattle.mbdc_io.specs.Stream.{PutsFront}
use Rattle.mbdc_io.proofs.Pieces.{puts_front-first, puts_front-second}
use Rattle.mbdc_io.specs.Words.{number_word}
use Rattle.dc_upload.specs.Register.{meter_lines}
use Rattle.dc_poller.specs.Register.{register_text}
use Rattle.dc_poller.proofs.register.put_register.Goals as goal

-- the register's lines, with these numbers
abbrev counted : State → ℕ → ℕ → List ℕ
counted s count size = meter_lines s ++ (codes "READINGS" ++ (number_word count ++ (codes "\nSIZE" ++ (number_word size ++ codes "\n"))))

counted_is : (s : State) (count size : ℕ) → count ≡ length s.readings → size ≡ size_of s → counted s count size ≡ register_text s
unfolding register_text
counted_is s count size counts sizes = ap (λ (n : ℕ). counted s n size) counts ∙ ap (counted s (length s.readings)) sizes

pub returns-in_err-write_meters : goal.returns-in_err-write_meters
unfolding register_text
returns-in_err-write_meters g c =
    let s : State = c.args.house.now.state in
    let front : PutsFront (g.W.Sink.written c.args.out.now) (g.W.Sink.written c.write_meters.new.out) (register_text s) =
    puts_front-first (codes "READINGS" ++ (number_word (length s.readings) ++ (codes "\nSIZE" ++ (number_word (size_of s) ++ codes "\n")))) c.in_err-write_meters.ensures.2 in
    grind arith

pub returns-in_err-put : goal.returns-in_err-put
unfolding register_text
returns-in_err-put g c =
    let s : State = c.args.house.now.state in
    let front : PutsFront (g.W.Sink.written c.args.out.now) (g.W.Sink.written c.put.new.self) (register_text s) =
    puts_front-second (meter_lines s) c.in_ok-write_meters.ensures.0
    (puts_front-first (number_word (length s.readings) ++ (codes "\nSIZE" ++ (number_word (size_of s) ++ codes "\n"))) c.in_err-put.ensures.err) in
    grind arith

pub returns-in_err-put_number_word : goal.returns-in_err-put_number_word
returns-in_err-put_number_word g c =
    let s : State = c.args.house.now.state in
    let before = g.W.Sink.written c.args.out.now in
    let after = g.W.Sink.written c.put_number_word.new.out in
    let count : c.len.result ≡ length s.readings = grind (arith, common_steps) in
    let front : PutsFront before after (register_text s) = subst (PutsFront before after) (counted_is s c.len.result (size_of s) count refl)
    (puts_front-second (meter_lines s) c.in_ok-write_meters.ensures.0 (puts_front-second (codes "READINGS") c.in_ok-put.ensures.bytes
    (puts_front-first (codes "\nSIZE" ++ (number_word (size_of s) ++ codes "\n")) c.in_err-put_number_word.ensures.2))) in
    grind arith

pub returns-in_err-put-2 : goal.returns-in_err-put-2
returns-in_err-put-2 g c =
    let s : State = c.args.house.now.state in
    let before = g.W.Sink.written c.args.out.now in
    let after = g.W.Sink.written c.put-2.new.self in
    let count : c.len.result ≡ length s.readings = grind (arith, common_steps) in
    let front : PutsFront before after (register_text s) = subst (PutsFront before after) (counted_is s c.len.result (size_of s) count refl)
    (puts_front-second (meter_lines s) c.in_ok-write_meters.ensures.0 (puts_front-second (codes "READINGS") c.in_ok-put.ensures.bytes
    (puts_front-second (number_word c.len.result) c.in_ok-put_number_word.ensures.0
    (puts_front-first (number_word (size_of s) ++ codes "\n") c.in_err-put-2.ensures.err)))) in
    grind arith

pub returns-in_err-put_number_word-2 : goal.returns-in_err-put_number_word-2
returns-in_err-put_number_word-2 g c =
    let s : State = c.args.house.now.state in
    let before = g.W.Sink.written c.args.out.now in
    let after = g.W.Sink.written c.put_number_word-2.new.out in
    let count : c.len.result ≡ length s.readings = grind (arith, common_steps) in
    let size : c.from.result ≡ size_of s = c.from.ensures ∙ c.size.ensures.size in
    let front : PutsFront before after (register_text s) = subst (PutsFront before after) (counted_is s c.len.result c.from.result count size)
    (puts_front-second (meter_lines s) c.in_ok-write_meters.ensures.0 (puts_front-second (codes "READINGS") c.in_ok-put.ensures.bytes
    (puts_front-second (number_word c.len.result) c.in_ok-put_number_word.ensures.0 (puts_front-second (codes "\nSIZE") c.in_ok-put-2.ensures.bytes
    (puts_front-first (codes "\n") c.in_err-put_number_word-2.ensures.2))))) in
    grind arith

pub returns : goal.returns
unfolding register_text
returns g c = grind (arith, common_steps)
