-- How many requests the sessions on the lines may still make, where one of them is replaced.
use Rattle.std.proofs.Common.{◌≡◌, ◌≢◌, ◌<◌, ◌≤◌, ◌-◌, ℕ, zero, suc, List, [], ◌∷◌, Option, Some, None, get_or, refl, ap, arith}
use Rattle.std.proofs.Math.ListN.{set}
use Rattle.std.proofs.lemmas.List.{get_or-set_other}
use Rattle.dc_readout.specs.Bound.{requests_left}
use Rattle.dc_readout.specs.Summary.{Summary}
use Rattle.dc_core.specs.Lines.{on_line, put_on, requests_of, requests_on, NoMoreRequests}

-- a session that is replaced by one with no more requests
pub replaced : (lines : List (Option Summary)) (i : ℕ) (session was : Option Summary) → requests_of session ≤ requests_of (get_or lines i was)
    → (k : ℕ) → requests_of (get_or (set lines i session) k None) ≤ requests_of (get_or lines k None)
replaced [] i session was less k = omega arith
replaced (x ∷ xs) zero session was less zero = less
replaced (x ∷ xs) zero session was less (suc k) = omega arith
replaced (x ∷ xs) (suc i) session was less zero = omega arith
replaced (x ∷ xs) (suc i) session was less (suc k) = replaced xs i session was less k

pub put_no_more : (line : ℕ) (lines : List (Option Summary)) (session : Option Summary) → requests_of session ≤ requests_on line lines → NoMoreRequests lines (put_on line session lines)
put_no_more line lines session less other = replaced lines (line - 1) session None less (other - 1)

-- where a session was, the new one is
there : (lines : List (Option Summary)) (i : ℕ) (s : Summary) (session : Option Summary) → get_or lines i None ≡ Some s → get_or (set lines i session) i None ≡ session
there [] i s session is = absurd cc
there (x ∷ xs) zero s session is = refl
there (x ∷ xs) (suc i) s session is = there xs i s session is

pub put_fewer : (line : ℕ) (lines : List (Option Summary)) (s : Summary) (session : Option Summary) → on_line line lines ≡ Some s → requests_of session < requests_left s
    → requests_on line (put_on line session lines) < requests_on line lines
put_fewer line lines s session is less =
    let now : requests_on line (put_on line session lines) ≡ requests_of session = ap requests_of (there lines (line - 1) s session is) in
    let was : requests_on line lines ≡ requests_left s = ap requests_of is in
    omega (arith, less, now, was)

-- no more than those of the new one
set_at_most : (lines : List (Option Summary)) (i : ℕ) (session : Option Summary) → requests_of (get_or (set lines i session) i None) ≤ requests_of session
set_at_most [] i session = omega arith
set_at_most (x ∷ xs) zero session = omega arith
set_at_most (x ∷ xs) (suc i) session = set_at_most xs i session

pub put_at_most : (line : ℕ) (lines : List (Option Summary)) (session : Option Summary) → requests_on line (put_on line session lines) ≤ requests_of session
put_at_most line lines session = set_at_most lines (line - 1) session

-- another line stays as it was
pub put_elsewhere : (line other : ℕ) (lines : List (Option Summary)) (session : Option Summary) → 0 < line → 0 < other → other ≢ line → on_line other (put_on line session lines) ≡ on_line other lines
put_elsewhere line other lines session one two apart = get_or-set_other lines (line - 1) (other - 1) session None (λ same. apart (omega (arith, same, one, two)))
