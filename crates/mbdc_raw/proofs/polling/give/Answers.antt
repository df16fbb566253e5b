use Rattle.std.proofs.Common.{ℕ, ◌≡◌, List, ◌++◌, length, take, drop, subst, sym, ap, ◌∙◌, arith, true}
use Rattle.mbdc_raw.specs.Noise.{IsCut, begins_frame}
use Rattle.mbdc_raw.proofs.Begins.{cut_of, taken_front}
use Rattle.mbdc_raw.proofs.polling.give.Goals as goal

pub returns-clause-cut : goal.returns-clause-cut
returns-clause-cut c =
    let text : List ℕ = c.as_slice-text.result.now in
    let front : List ℕ = c.split_at-2.result.0.now in
    let back : List ℕ = c.split_at-2.result.1.now in
    let count : ℕ = c.min-count.result in
    let bytes : List ℕ = take count (c.copy_from_slice.new.self ++ drop count c.args.room.now) in
    let given : front ≡ bytes = taken_front front c.copy_from_slice.new.self (drop count c.args.room.now) count c.copy_from_slice.ensures.after c.split_at-2.ensures.front_len in
    let held : back ≡ c.copy_of-held-2.result =
    sym (c.copy_of-held-2.ensures (omega (arith, c.split_at-2.ensures.back_len, c.split_at.ensures.back_len, c.as_slice-text.ensures.fits, ap (λ (xs : List ℕ). length xs) c.as_slice-text.ensures.bytes))) in
    let parts : drop c.noise_len-noise.result text ≡ bytes ++ c.copy_of-held-2.result =
    sym c.split_at.ensures.back ∙ c.split_at-2.ensures.by_index.0 ∙ ap (λ (xs : List ℕ). xs ++ back) given ∙ ap (λ (xs : List ℕ). bytes ++ xs) held in
    subst (λ (t : List ℕ). IsCut c.args.awaits_ack c.args.takes_all t bytes c.copy_of-held-2.result) c.as_slice-text.ensures.bytes
    (cut_of c.args.awaits_ack c.args.takes_all text c.noise_len-noise.result bytes c.copy_of-held-2.result c.noise_len-noise.ensures.fits c.noise_len-noise.ensures.none c.noise_len-noise.ensures.first parts
    (λ one some. subst (λ (t : List ℕ). begins_frame c.args.awaits_ack t ≡ true) c.split_at.ensures.back (c.begins.ensures.frame c.in-Frame.is one)))
