-- The telegrams of a readout's bodies, one after the other.
use Rattle.std.proofs.Common.{arith, ◌≡◌, ℕ, suc, List, [], ◌∷◌, ◌++◌, length, true, false, refl, sym, ap, ◌∙◌, drop, map, filter, flat_map, append_assoc, append-nil}
use Rattle.std.specs.Prelude.{All, ◌==◌, zip}
use Rattle.std.proofs.lemmas.Bool.Decides.{nat_tests}
use Rattle.std.proofs.lemmas.List.Elements.{filter-append, All-cons}
use Rattle.dc_address.specs.declared.identity.Identity.{Identity}
use Rattle.dc_records.specs.Body.{continues}
use Rattle.dc_records.specs.Record.{Entry}
use Rattle.dc_records.specs.Telegram.{Parsed}
use Rattle.mbdc_audit.specs.Evidence.{AreOf, IsOf, is_main, main}

-- ---- body by body

abbrev pub Continues : List (List ℕ) → Parsed → Type 0
Continues [] t = Unit {0}
Continues (b ∷ bodies) t = continues t.ending ≡ true

abbrev pub Reads : Identity → List (List ℕ) → List Parsed → Type 0
Reads meter [] [] = Unit {0}
Reads meter [] (t ∷ ts) = ⊥
Reads meter (b ∷ bodies) [] = ⊥
Reads meter (b ∷ bodies) (t ∷ ts) = IsOf meter b t × Continues bodies t × Reads meter bodies ts

goes_on : (meter : Identity) (bodies : List (List ℕ)) (t : Parsed) (ts : List Parsed) → length ts ≡ length bodies
    → All (λ p. continues p.0.ending ≡ true) (zip (t ∷ ts) ts) → Continues bodies t
goes_on meter [] t ts e adjacent = tt
goes_on meter (b ∷ bodies) t [] e adjacent = absurd (omega (arith, e))
goes_on meter (b ∷ bodies) t (u ∷ ts) e adjacent = adjacent 0 (t, u) (omega arith)

adjacent_rest : (t : Parsed) (ts : List Parsed) → All (λ p. continues p.0.ending ≡ true) (zip (t ∷ ts) ts)
    → All (λ p. continues p.0.ending ≡ true) (zip ts (drop 1 ts))
adjacent_rest t [] h = λ k d lt. absurd (omega (arith, lt))
adjacent_rest t (u ∷ ts) h = λ k d lt. h (suc k) d (omega (arith, lt))

pub to_reads : (meter : Identity) (bodies : List (List ℕ)) (ts : List Parsed) → AreOf meter bodies ts → Reads meter bodies ts
to_reads meter [] [] a = tt
to_reads meter [] (t ∷ ts) a = let e = a.all in absurd (omega (arith, e))
to_reads meter (b ∷ bodies) [] a = let e = a.all in absurd (omega (arith, e))
to_reads meter (b ∷ bodies) (t ∷ ts) a =
    let e : length ts ≡ length bodies = let e' = a.all in omega (arith, e') in (
      a.each 0 (b, t) (omega arith),
      goes_on meter bodies t ts e a.adjacent,
      to_reads meter bodies ts (record {
        all = e;
        each = λ k d lt. a.each (suc k) d (omega (arith, lt));
        adjacent = adjacent_rest t ts a.adjacent;
      }),
    )

adjacent_more : (meter : Identity) (bodies : List (List ℕ)) (t : Parsed) (ts : List Parsed) → Continues bodies t
    → Reads meter bodies ts → All (λ p. continues p.0.ending ≡ true) (zip ts (drop 1 ts))
    → All (λ p. continues p.0.ending ≡ true) (zip (t ∷ ts) ts)
adjacent_more meter bodies t [] c r h = λ k d lt. absurd (omega (arith, lt))
adjacent_more meter [] t (u ∷ ts) c r h = absurd r
adjacent_more meter (b ∷ bodies) t (u ∷ ts) c r h =
    All-cons (λ p. continues p.0.ending ≡ true) (t, u) (zip (u ∷ ts) ts) c h

pub from_reads : (meter : Identity) (bodies : List (List ℕ)) (ts : List Parsed) → Reads meter bodies ts → AreOf meter bodies ts
from_reads meter [] [] r = record {
  all = refl;
  each = λ k d lt. absurd (omega (arith, lt));
  adjacent = λ k d lt. absurd (omega (arith, lt));
}
from_reads meter [] (t ∷ ts) r = absurd r
from_reads meter (b ∷ bodies) [] r = absurd r
from_reads meter (b ∷ bodies) (t ∷ ts) r =
    let a = from_reads meter bodies ts r.2 in record {
      all = let e = a.all in omega (arith, e);
      each = All-cons (λ p. IsOf meter p.0 p.1) (b, t) (zip bodies ts) r.0 a.each;
      adjacent = adjacent_more meter bodies t ts r.1 r.2 a.adjacent;
    }

-- ---- records

main_more : (t : Parsed) (ts : List Parsed) → main (t ∷ ts) ≡ filter is_main t.records ++ main ts
main_more t ts = filter-append is_main t.records (flat_map (λ (u : Parsed). u.records) ts)

-- the records so far, and those of the bodies that are left, are those of all
pub record Walked (meter : Identity) (all left : List (List ℕ)) (records : List Entry) : Type 0 where
  pub there : (ts : List Parsed) → Reads meter left ts
      → (us : List Parsed) × Reads meter all us × (main us ≡ records ++ main ts)
  pub back : (us : List Parsed) → Reads meter all us
      → (ts : List Parsed) × Reads meter left ts × (main us ≡ records ++ main ts)

step_back : (meter : Identity) (b : List ℕ) (left : List (List ℕ)) (records : List Entry) (t : Parsed)
    → ((u : Parsed) → IsOf meter b u → t ≡ u) → (all : List Entry) (ts : List Parsed) → Reads meter (b ∷ left) ts
    → all ≡ records ++ main ts
    → (ts' : List Parsed) × Reads meter left ts' × (all ≡ (records ++ filter is_main t.records) ++ main ts')
step_back meter b left records t one all [] r e = absurd r
step_back meter b left records t one all (u ∷ ts) r e = (
  ts,
  r.2,
  e ∙ (ap (λ (xs : List Entry). records ++ xs) (main_more u ts)
      ∙ (sym (append_assoc records (filter is_main u.records) (main ts))
      ∙ ap (λ (x : Parsed). (records ++ filter is_main x.records) ++ main ts) (sym (one u r.0)))),
)

pub step : (meter : Identity) (all : List (List ℕ)) (b : List ℕ) (left : List (List ℕ)) (records : List Entry) (t : Parsed)
    → IsOf meter b t → ((u : Parsed) → IsOf meter b u → t ≡ u) → Continues left t → Walked meter all (b ∷ left) records
    → Walked meter all left (records ++ filter is_main t.records)
step meter all b left records t is one goes w = record {
  there = λ ts r. let h = w.there (t ∷ ts) (is, goes, r) in (
    h.0,
    h.1,
    h.2 ∙ (ap (λ (xs : List Entry). records ++ xs) (main_more t ts)
        ∙ sym (append_assoc records (filter is_main t.records) (main ts))),
  );
  back = λ us r. let h = w.back us r in step_back meter b left records t one (main us) h.0 h.1 h.2;
}

pub done : (meter : Identity) (all : List (List ℕ)) (records : List Entry) → Walked meter all [] records
    → (us : List Parsed) × AreOf meter all us × (records ≡ main us)
done meter all records w = let h = w.there [] tt in (h.0, from_reads meter all h.0 h.1, sym (h.2 ∙ append-nil records))

ended : (meter : Identity) (ts : List Parsed) (all records : List Entry) → Reads meter [] ts → all ≡ records ++ main ts → all ≡ records
ended meter [] all records r e = e ∙ append-nil records
ended meter (t ∷ ts) all records r e = absurd r

pub only_one : (meter : Identity) (all : List (List ℕ)) (records : List Entry) → Walked meter all [] records
    → (us : List Parsed) → AreOf meter all us → main us ≡ records
only_one meter all records w us a =
    let h = w.back us (to_reads meter all us a) in ended meter h.0 (main us) records h.1 h.2

refused : (meter : Identity) (b : List ℕ) (left : List (List ℕ)) (ts : List Parsed) → Reads meter (b ∷ left) ts
    → ((t : Parsed) → IsOf meter b t → Continues left t → ⊥) → ⊥
refused meter b left [] r never = absurd r
refused meter b left (t ∷ ts) r never = never t r.0 r.1

-- a body that is refused
pub none : (meter : Identity) (all : List (List ℕ)) (b : List ℕ) (left : List (List ℕ)) (records : List Entry)
    → Walked meter all (b ∷ left) records → ((t : Parsed) → IsOf meter b t → Continues left t → ⊥)
    → (us : List Parsed) → AreOf meter all us → ⊥
none meter all b left records w never us a =
    let h = w.back us (to_reads meter all us a) in refused meter b left h.0 h.1 never

-- ---- whether the next body follows

pub stops : {X : Type 0} (f : X → List ℕ) (rest : List X) (t : Parsed) → false ≡ (length rest == 0) → Continues (map f rest) t
    → continues t.ending ≡ true
stops f [] t some goes = absurd cc
stops f (x ∷ rest) t some goes = goes

pub goes_by : {X : Type 0} (f : X → List ℕ) (rest : List X) (t : Parsed) → continues t.ending ≡ true → Continues (map f rest) t
goes_by f [] t e = tt
goes_by f (x ∷ rest) t e = e

pub goes_none : {X : Type 0} (f : X → List ℕ) (rest : List X) (t : Parsed) → (length rest == 0) ≡ true → Continues (map f rest) t
goes_none f [] t e = tt
goes_none f (x ∷ rest) t e = absurd (grind (arith, nat_tests))
