-- Reading this many, one after the other, as a loop does.
use Rattle.std.proofs.Common.{◌≡◌, ℕ, suc, ◌-◌, ◌+◌, ◌≤◌, ◌<◌, List, [], ◌∷◌, ◌++◌, Option, Some, None, refl, sym, ap, ◌∙◌, append_assoc, append-nil, arith}
use Rattle.mbdc_change.specs.declared.decode_fault.DecodeFault.{DecodeFault}
use Rattle.mbdc_change.specs.declared.decode_fault.DecodeFault.TheVariants.{Bad, NoMemory}
use Rattle.mbdc_change.specs.Pieces.{Reader, Fails, ◌>>=◌, many}
use Rattle.mbdc_change.proofs.Exact.{some_is}

module _ {X : Type 0} where
  -- what was read before, and what is still read
  abbrev pub with_front : List X → Option (List X × List ℕ) → Option (List X × List ℕ)
  with_front front read = read >>= λ x. Some (front ++ x.0, x.1)

  regroup : (front : List X) (n : X) (read : Option (List X × List ℕ)) → with_front front (read >>= λ x. Some (n ∷ x.0, x.1)) ≡ with_front (front ++ n ∷ []) read
  regroup front n (Some x) = ap (λ (ns : List X). Some (ns, x.1)) (sym (append_assoc front (n ∷ []) x.0))
  regroup front n None = refl

  pub begins : (read : Option (List X × List ℕ)) → with_front [] read ≡ read
  begins (Some x) = refl
  begins None = refl

  pub begins_with : (at : Reader X) (count : ℕ) (bytes : List ℕ) → with_front [] (many at (count - 0) bytes) ≡ many at count bytes
  begins_with at count bytes = let whole : count - 0 ≡ count = omega arith in rw whole (begins (many at count bytes))

  pub goes_on : (at : Reader X) (front : List X) (count i : ℕ) (bytes : List ℕ) (n : X) (after : List ℕ) (total : Option (List X × List ℕ)) → i < count → at bytes ≡ Some (n, after)
      → with_front front (many at (count - i) bytes) ≡ total → with_front (front ++ n ∷ []) (many at (count - (i + 1)) after) ≡ total
  goes_on at front count i bytes n after total lt h so_far =
      let k : count - i ≡ suc (count - (i + 1)) = omega arith in
      let one : with_front front (many at (count - i) bytes) ≡ with_front (front ++ n ∷ []) (many at (count - (i + 1)) after) = rw (k, h) (regroup front n (many at (count - (i + 1)) after)) in
      sym one ∙ so_far

  pub ends : (at : Reader X) (e : DecodeFault) (front : List X) (count i : ℕ) (bytes : List ℕ) (total : Option (List X × List ℕ)) → i < count → Fails e (at bytes)
      → with_front front (many at (count - i) bytes) ≡ total → Fails e total
  ends at NoMemory front count i bytes total lt h so_far = tt
  ends at Bad front count i bytes total lt h so_far =
      let k : count - i ≡ suc (count - (i + 1)) = omega arith in
      let one : with_front front (many at (count - i) bytes) ≡ None = rw (k, h) refl in
      sym so_far ∙ one

  pub is_done : (at : Reader X) (front : List X) (count i : ℕ) (bytes : List ℕ) (total : Option (List X × List ℕ)) → count ≤ i → with_front front (many at (count - i) bytes) ≡ total → total ≡ Some (front, bytes)
  is_done at front count i bytes total le so_far =
      let k : count - i ≡ 0 = omega arith in
      let one : with_front front (many at (count - i) bytes) ≡ Some (front, bytes) = rw k (ap (λ (ns : List X). Some (ns, bytes)) (append-nil front)) in
      sym so_far ∙ one

  -- what was read before is a prefix of what is read
  pub front_of : (front : List X) (read : Option (List X × List ℕ)) (all : List X) (rest : List ℕ) → with_front front read ≡ Some (all, rest) → (more : List X) × (all ≡ front ++ more)
  front_of front (Some x) all rest e = (x.0, ap (λ (p : List X × List ℕ). p.0) (some_is (all, rest) (front ++ x.0, x.1) (sym e)))
  front_of front None all rest e = absurd cc
