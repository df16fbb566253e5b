-- The first bytes of a word, where nothing follows them.
use Rattle.std.proofs.Common.{◌≡◌, ℕ, ◌+◌, ◌∙◌, List, length, take, map, ap, sym, arith}
use Rattle.std.proofs.lemmas.List.{length-map, take_all}
use Rattle.dc_address.specs.Text.{text_of}
use Rattle.dc_address.proofs.Texts.{length-text_of}
use Rattle.dc_address.specs.declared.identity.Identity.{Identity}
use Rattle.dc_meters.specs.Name.{capital, capitals}

-- a word that spells an identity has 18 bytes
pub length_spelled : (word : List ℕ) (meter : Identity) → capitals word ≡ text_of meter → length word ≡ 18
length_spelled word meter is = sym (length-map word capital) ∙ ap length is ∙ length-text_of meter

pub whole : (n : ℕ) (word first rest : List ℕ) → first ≡ take n word → length rest + n ≡ length word → length rest ≡ 0 → first ≡ word
whole n word first rest is long none = is ∙ take_all n word (omega (arith, long, none))
