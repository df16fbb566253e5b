-- The header that is read is spelled, the one that is spelled is read, and so with the faults.
use Rattle.std.proofs.Common.{◌≡◌, ℕ, ◌+◌, ◌*◌, ◌<◌, ◌≤◌, Bool, true, false, ltb, List, length, take, drop, Result, Ok, Err, refl, sym, ap, subst, ◌∙◌, arith, inl, inr}
use Rattle.std.specs.Prelude.{IfOk, IfErr, slice_index}
use Rattle.byteorder.specs.Endian.{little_from}
use Rattle.std.proofs.lemmas.Bool.{ltb-false, le-ltb, ltb-true}
use Rattle.std.proofs.lemmas.Bool.Decides.{nat_tests}
use Rattle.std.proofs.lemmas.List.{get_or-drop}
use Rattle.dc_address.specs.Identity.{IsWire, is_identity}
use Rattle.dc_address.proofs.Identities.{spelled_identity, same_from_wire, is_identity-wire_of}
use Rattle.dc_address.specs.declared.identity.Identity.{Identity}
use Rattle.dc_records.specs.declared.fault.BodyFault.{BodyFault}
use Rattle.dc_records.specs.declared.fault.BodyFault.TheVariants.{Short, BadIdentity}
use Rattle.dc_records.specs.declared.header.Header.{Header}
use Rattle.dc_records.specs.Header.{BeginsWithHeader, HasHeaderFault, short, bad_identity, header_with, header_by, header_at}
use Rattle.dc_records.proofs.Spellings.Fields.{chosen, ok_is}
use Rattle.dc_records.proofs.Spellings.Faults.{err_is}

-- the test is true of what an identity is written as
passes : (bytes : List ℕ) (identity : Identity) → IsWire bytes identity → is_identity bytes ≡ true
passes bytes identity is = ap is_identity is ∙ is_identity-wire_of identity

by_takes : (text : List ℕ) (test : Bool) (is : is_identity (take 8 text) ≡ test) (h : Header) → 12 ≤ length text → header_by text test is ≡ Ok h → BeginsWithHeader text h
by_takes text true is h enough e =
    let found = spelled_identity (take 8 text) is in
    subst (BeginsWithHeader text) (ok_is (header_with found.0 text) h e) (record { enough = enough; identity = found.1; access = refl; status = refl; config = refl })
by_takes text false is h enough e = absurd cc

by_again : (text : List ℕ) (test : Bool) (is : is_identity (take 8 text) ≡ test) (h : Header) → BeginsWithHeader text h → header_by text test is ≡ Ok h
by_again text true is h begins =
    let found = spelled_identity (take 8 text) is in
    let same : found.0 ≡ h.identity = same_from_wire (take 8 text) found.0 h.identity found.1 begins.identity in
    let made : header_with found.0 text ≡ record { identity = h.identity; access = h.access; status = h.status; config = h.config } = cc (same, begins.access, begins.status, begins.config) in
    ap (λ (x : Header). Ok x) made
by_again text false is h begins = absurd (let yes = passes (take 8 text) h.identity begins.identity in cc)

by_fails : (text : List ℕ) (test : Bool) (is : is_identity (take 8 text) ≡ test) (f : BodyFault) → header_by text test is ≡ Err f → (f ≡ BadIdentity) × ((identity : Identity) → IsWire (take 8 text) identity → ⊥)
by_fails text true is f e = absurd cc
by_fails text false is f e = (err_is BadIdentity f e, λ identity wire. let yes = passes (take 8 text) identity wire in cc)

by_fails_again : (text : List ℕ) (test : Bool) (is : is_identity (take 8 text) ≡ test) → ((identity : Identity) → IsWire (take 8 text) identity → ⊥) → header_by text test is ≡ Err BadIdentity
by_fails_again text true is none = let found = spelled_identity (take 8 text) is in absurd (none found.0 found.1)
by_fails_again text false is none = refl

pub header_takes : (text : List ℕ) (h : Header) → header_at text ≡ Ok h → BeginsWithHeader text h
unfolding header_at
header_takes text h e =
    elim (chosen (ltb (length text) 12) (Err Short) (header_by text (is_identity (take 8 text)) refl) (Ok h) e) [
      | inl p ↦ absurd (let w = p.1 in cc)
      | inr p ↦ by_takes text (is_identity (take 8 text)) refl h (ltb-false _ _ p.0) p.1
    ]

pub header_again : (text : List ℕ) (h : Header) → BeginsWithHeader text h → header_at text ≡ Ok h
unfolding header_at
header_again text h begins =
    let long : ltb (length text) 12 ≡ false = le-ltb _ _ begins.enough in
    rw long (by_again text (is_identity (take 8 text)) refl h begins)

pub header_fails : (text : List ℕ) (f : BodyFault) → header_at text ≡ Err f → HasHeaderFault text f
unfolding header_at
header_fails text f e =
    elim (chosen (ltb (length text) 12) (Err Short) (header_by text (is_identity (take 8 text)) refl) (Err f) e) [
      | inl p ↦ short (err_is Short f p.1) (ltb-true _ _ p.0)
      | inr p ↦ let q = by_fails text (is_identity (take 8 text)) refl f p.1 in bad_identity q.0 (ltb-false _ _ p.0) q.1
    ]

pub header_faults_again : (text : List ℕ) (f : BodyFault) → HasHeaderFault text f → header_at text ≡ Err f
unfolding header_at
header_faults_again text f (short fe h) = let l : ltb (length text) 12 ≡ true = grind (arith, nat_tests) in rw (fe, l) refl
header_faults_again text f (bad_identity fe long none) =
    let l : ltb (length text) 12 ≡ false = le-ltb _ _ long in
    rw (fe, l) (by_fails_again text (is_identity (take 8 text)) refl none)

-- ---- as the code meets it

-- eight bytes, and what follows them
pub record Parted (text wire rest : List ℕ) : Type 0 where
  pub wire_is : wire ≡ take 8 text
  pub rest_is : rest ≡ drop 8 text
  pub lengths : length rest + 8 ≡ length text

pub at_short : (text : List ℕ) → length text < 12 → header_at text ≡ Err Short
at_short text h = header_faults_again text Short (short refl h)

pub at_none : (text wire rest : List ℕ) → Parted text wire rest → 4 ≤ length rest → ((identity : Identity) → IsWire wire identity → ⊥) → header_at text ≡ Err BadIdentity
at_none text wire rest p enough none = header_faults_again text BadIdentity (bad_identity refl (omega (arith, p.lengths)) (subst (λ (w : List ℕ). (identity : Identity) → IsWire w identity → ⊥) p.wire_is none))

at : (text wire rest : List ℕ) → Parted text wire rest → (i : ℕ) → slice_index rest i ≡ slice_index text (8 + i)
at text wire rest p i = ap (λ (l : List ℕ). slice_index l i) p.rest_is ∙ get_or-drop 8 text i 0

pub at_found : (text wire rest : List ℕ) (h : Header) → Parted text wire rest → 4 ≤ length rest → IsWire wire h.identity → h.access ≡ slice_index rest 0 → h.status ≡ slice_index rest 1 → h.config ≡ little_from 2 2 rest → header_at text ≡ Ok h
at_found text wire rest h p enough identity access status config = header_again text h (record {
  enough = omega (arith, p.lengths);
  identity = subst (λ (w : List ℕ). IsWire w h.identity) p.wire_is identity;
  access = access ∙ at text wire rest p 0;
  status = status ∙ at text wire rest p 1;
  config = config ∙ ap (λ (n : ℕ). n + 256 * (slice_index rest 3 + 0)) (at text wire rest p 2) ∙ ap (λ (n : ℕ). slice_index text 10 + 256 * (n + 0)) (at text wire rest p 3);
})

-- ---- as the contract says it

pub is_found : (text : List ℕ) (r : Result Header BodyFault) → r ≡ header_at text → IfOk r (BeginsWithHeader text)
is_found text (Ok h) e = header_takes text h (sym e)
is_found text (Err f) e = tt

pub is_refused : (text : List ℕ) (r : Result Header BodyFault) → r ≡ header_at text → IfErr r (HasHeaderFault text)
is_refused text (Ok h) e = tt
is_refused text (Err f) e = header_fails text f (sym e)
