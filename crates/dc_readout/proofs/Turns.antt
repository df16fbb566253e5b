-- A loop over the meters of a line that moves each in turn.
use Rattle.std.proofs.Common.{◌≡◌, ℕ, zero, suc, ◌+◌, ◌≤◌, ◌<◌, List, [], ◌∷◌, length, get_or, arith, refl, ◌∙◌, ap}
use Rattle.std.specs.Prelude.{slice_set}
use Rattle.dc_linkframe.specs.Control.{reset_to}
use Rattle.dc_linkframe.specs.Frame.{FrameSeen}
use Rattle.dc_readout.specs.Meter.{Meter, Position, moved_by, at_reset}
use Rattle.dc_readout.specs.World.{all_moved}

-- the first n have moved
abbrev pub moved_to : ℕ → FrameSeen → List Meter → List Position → List Position
moved_to zero frame ms ps = ps
moved_to (suc i) frame [] ps = ps
moved_to (suc i) frame (m ∷ ms) [] = []
moved_to (suc i) frame (m ∷ ms) (p ∷ ps) = moved_by frame m p ∷ moved_to i frame ms ps

pub length-moved_to : (i : ℕ) (frame : FrameSeen) (ms : List Meter) (ps : List Position) → length (moved_to i frame ms ps) ≡ length ps
length-moved_to zero frame ms ps = refl
length-moved_to (suc i) frame [] ps = refl
length-moved_to (suc i) frame (m ∷ ms) [] = refl
length-moved_to (suc i) frame (m ∷ ms) (p ∷ ps) = let rest = length-moved_to i frame ms ps in omega arith

pub next_stands : (i : ℕ) (frame : FrameSeen) (ms : List Meter) (ps : List Position) (d : Position) → get_or (moved_to i frame ms ps) i d ≡ get_or ps i d
next_stands zero frame ms ps d = refl
next_stands (suc i) frame [] ps d = refl
next_stands (suc i) frame (m ∷ ms) [] d = refl
next_stands (suc i) frame (m ∷ ms) (p ∷ ps) d = next_stands i frame ms ps d

one_more : (i : ℕ) (frame : FrameSeen) (ms : List Meter) (ps : List Position) (m : Meter) (p : Position) → i < length ms → i < length ps
    → get_or ms i m ≡ m → get_or ps i p ≡ p → moved_to (suc i) frame ms ps ≡ slice_set (moved_to i frame ms ps) i (moved_by frame m p)
one_more i frame [] ps m p a b at stands = absurd (omega arith)
one_more i frame (x ∷ ms) [] m p a b at stands = absurd (omega arith)
one_more zero frame (x ∷ ms) (y ∷ ps) m p a b at stands =
    let c : x ≡ m = at in
    let d : y ≡ p = stands in
    cc
one_more (suc i) frame (x ∷ ms) (y ∷ ps) m p a b at stands =
    ap (λ rest. moved_by frame x y ∷ rest) (one_more i frame ms ps m p (omega arith) (omega arith) at stands)

pub turn : (i next : ℕ) (frame : FrameSeen) (ms : List Meter) (ps : List Position) (m : Meter) (p : Position) → next ≡ i + 1 → i < length ms → i < length ps
    → get_or ms i m ≡ m → get_or ps i p ≡ p → moved_to next frame ms ps ≡ slice_set (moved_to i frame ms ps) i (moved_by frame m p)
turn i next frame ms ps m p is a b at stands =
    let e : next ≡ suc i = omega arith in
    ap (λ k. moved_to k frame ms ps) e ∙ one_more i frame ms ps m p a b at stands

pub all_turns : (i : ℕ) (frame : FrameSeen) (ms : List Meter) (ps : List Position) → length ps ≡ length ms → length ms ≤ i → moved_to i frame ms ps ≡ all_moved frame ms ps
all_turns zero frame [] [] same end = refl
all_turns (suc i) frame [] [] same end = refl
all_turns i frame [] (p ∷ ps) same end = absurd (omega arith)
all_turns i frame (m ∷ ms) [] same end = absurd (omega arith)
all_turns zero frame (m ∷ ms) (p ∷ ps) same end = absurd (omega arith)
all_turns (suc i) frame (m ∷ ms) (p ∷ ps) same end = ap (λ rest. moved_by frame m p ∷ rest) (all_turns i frame ms ps (omega arith) (omega arith))

pub moved_by-reset : (address : ℕ) (m : Meter) (p : Position) → moved_by (reset_to address) m p ≡ at_reset m.address address p
unfolding moved_by
moved_by-reset address m p = refl
