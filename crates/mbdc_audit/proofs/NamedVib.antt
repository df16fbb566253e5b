-- What a record counts by its code, or by the VIB that is named.
use Rattle.std.proofs.Common.{arith, ◌≡◌, ◌<◌, ℕ, List, [], ◌∷◌, length, true, false, sym, subst}
use Rattle.std.specs.Prelude.{◌==◌}
use Rattle.std.proofs.lemmas.Bool.Decides.{nat_tests}
use Rattle.dc_records.specs.Record.{Entry}
use Rattle.dc_units.specs.Point.{seen_of}
use Rattle.mbdc_audit.specs.Evidence.{Counts, IsAmount, bare, code_of}
use Rattle.mbdc_audit.specs.declared.uses.Counted.{Counted}
use Rattle.mbdc_audit.proofs.Bare.{length_bare, long_none}

pub long_one : (vib : List ℕ) (q : Counted) (e : Entry) (amount : ℕ) → true ≡ (length vib == 0) → 11 < length e.vib
    → Counts vib q e amount → ⊥
long_one (b ∷ vib) q e amount empty long a = absurd (grind (arith, nat_tests))
long_one [] q e amount empty long a =
    let more = length_bare e.vib in
    let none = long_none (bare e.vib) (omega (arith, more)) in
    let seen = a.is.seen_as in
    let other = rw none at seen in absurd cc

pub by_code : (vib : List ℕ) (q : Counted) (e : Entry) (amount : ℕ) (v : List ℕ) → true ≡ (length vib == 0) → v ≡ bare e.vib
    → Counts vib q e amount → IsAmount q (seen_of (record e { vib = v })) amount
by_code (b ∷ vib) q e amount v empty is a = absurd (grind (arith, nat_tests))
by_code [] q e amount v empty is a = subst (λ (x : List ℕ). IsAmount q (seen_of (record e { vib = x })) amount) (sym is) a.is

pub by_name : (vib : List ℕ) (q : Counted) (e : Entry) (amount : ℕ) (v : List ℕ) → false ≡ (length vib == 0) → v ≡ code_of vib
    → Counts vib q e amount → IsAmount q (seen_of (record e { vib = v })) amount
by_name [] q e amount v empty is a = absurd (grind (arith, nat_tests))
by_name (b ∷ vib) q e amount v empty is a = subst (λ (x : List ℕ). IsAmount q (seen_of (record e { vib = x })) amount) (sym is) a.is
