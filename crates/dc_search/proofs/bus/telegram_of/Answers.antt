-- A frame is read as it was written, and its body's header has the meter's identity.
use Rattle.std.proofs.Common.{◌≡◌, ℕ, ◌+◌, List, [], ◌∷◌, ◌++◌, Some, take, drop, arith, ap, sym, ◌∙◌, refl, length-append}
use Rattle.std.proofs.Math.Seq.{take-append_seam, drop-append_seam}
use Rattle.dc_address.specs.Identity.{wire_of}
use Rattle.dc_address.proofs.Identities.{length-wire_of}
use Rattle.dc_address.specs.declared.identity.Identity.{Identity}
use Rattle.dc_linkframe.specs.Frame.{long}
use Rattle.dc_linkframe.proofs.Spellings.{frame_of-spelling}
use Rattle.dc_records.proofs.Spellings.Headers.{at_found}
use Rattle.dc_search.specs.Answer.{answer_of, identity_at, identity_in, identity_of}
use Rattle.dc_search.proofs.bus.telegram_of.Goals as goal

abbrev zeros : List ℕ
zeros = 0 ∷ 0 ∷ 0 ∷ 0 ∷ []

own_header : (meter : Identity) → identity_at (wire_of meter ++ zeros) ≡ Some meter
own_header meter =
    let wire : List ℕ = wire_of meter in
    let front : take 8 (wire ++ zeros) ≡ wire = ap (λ n. take n (wire ++ zeros)) (sym (length-wire_of meter)) ∙ take-append_seam wire zeros in
    let back : drop 8 (wire ++ zeros) ≡ zeros = ap (λ n. drop n (wire ++ zeros)) (sym (length-wire_of meter)) ∙ drop-append_seam wire zeros in
    ap identity_of
    (at_found (wire ++ zeros) wire zeros (record { identity = meter; access = 0; status = 0; config = 0 })
    (record { wire_is = sym front; rest_is = sym back; lengths = sym (length-append wire zeros ∙ ap (λ n. n + 4) (length-wire_of meter)) })
    (omega arith) refl refl refl refl)

pub returns : goal.returns
unfolding answer_of
returns c =
    ap answer_of c.write_long.ensures
    ∙ ap identity_in (frame_of-spelling (long 8 0 114 c.body_of.result))
    ∙ ap identity_at c.body_of.ensures
    ∙ own_header c.args.meter.now
