use Rattle.std.proofs.Common.{◌≡◌, ◌≤◌, ◌∷◌, [], ◌++◌, length, take, OnErr, OnOk, ℕ, List, ap, ◌∙◌, subst, arith}
use Rattle.std.proofs.lemmas.List.{take_all}
use Rattle.mbdc_io.specs.Stream.{Puts, PutsFront}
use Rattle.mbdc_bus.specs.Blocks.{block, most_block}
use Rattle.mbdc_bus.specs.Limits.{most_answer}
use Rattle.mbdc_bus.proofs.blocks.block.put_block.Goals as goal

spelled : (bytes none first second : List ℕ) → length bytes ≤ most_block → none ≡ [] → first ≡ take most_answer (none ++ length bytes ∷ []) → second ≡ take most_answer (first ++ bytes) → second ≡ block bytes
spelled bytes none first second fits empty one both =
    both
    ∙ ap (λ (xs : List ℕ). take most_answer (xs ++ bytes)) (one ∙ ap (λ (xs : List ℕ). take most_answer (xs ++ length bytes ∷ [])) empty)
    ∙ take_all most_answer (length bytes ∷ bytes) (omega (arith, fits))

pub returns-clause-bytes : goal.returns-clause-bytes
returns-clause-bytes g c =
    let is = c.as_slice.ensures.bytes ∙ spelled c.args.bytes.now c.new-spelled.result c.append.new.self c.append-2.new.self c.requires c.new-spelled.ensures c.append.ensures c.append-2.ensures in
    subst (λ (xs : List ℕ). OnOk c.put.result (Puts (g.W.Sink.written c.args.writer.now) (g.W.Sink.written c.put.new.self) xs)) is c.put.ensures.bytes

pub returns-clause-step : goal.returns-clause-step
returns-clause-step g c =
    let is = c.as_slice.ensures.bytes ∙ spelled c.args.bytes.now c.new-spelled.result c.append.new.self c.append-2.new.self c.requires c.new-spelled.ensures c.append.ensures c.append-2.ensures in
    subst (λ (xs : List ℕ). OnOk c.put.result (g.W.Sink.puts c.args.writer.now xs c.put.new.self)) is c.put.ensures.step

pub returns-clause-front : goal.returns-clause-front
returns-clause-front g c =
    let is = c.as_slice.ensures.bytes ∙ spelled c.args.bytes.now c.new-spelled.result c.append.new.self c.append-2.new.self c.requires c.new-spelled.ensures c.append.ensures c.append-2.ensures in
    subst (λ (xs : List ℕ). OnErr c.put.result (PutsFront (g.W.Sink.written c.args.writer.now) (g.W.Sink.written c.put.new.self) xs)) is c.put.ensures.err
