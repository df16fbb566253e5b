-- What begins a frame.
use Rattle.std.proofs.Common.{◌≡◌, ℕ, ◌+◌, ◌<◌, ◌≤◌, Bool, true, false, ◌&&◌, ◌==◌, List, [], ◌∷◌, ◌++◌, Option, None, Some, length, take, drop, is_some, nat_lt, ap, refl, sym, ◌∙◌, subst, arith, if◌then◌else◌}
use Rattle.std.proofs.lemmas.Bool.{eqb-true, false≢true}
use Rattle.std.proofs.lemmas.Bool.Decides.{Decides-ltb}
use Rattle.std.proofs.Math.Seq.{take-append_seam}
use Rattle.std.proofs.lemmas.List.{length-append, length-take-le, take_all, take-append-drop, take-append-le}
use Rattle.std.specs.Io.KnownBytes.{Consumes}
use Rattle.dc_linkframe.specs.Fault.{begins_ack, begins_short}
use Rattle.dc_linkframe.specs.Need.{need_of}
use Rattle.dc_linkframe.specs.Reading.{frame_of}
use Rattle.dc_linkframe.specs.declared.needs.Need.TheVariants.{Bad}
use Rattle.mbdc_bus.specs.Limits.{most_answer}
use Rattle.mbdc_raw.specs.declared.polling.Begun.{Begun}
use Rattle.mbdc_raw.specs.declared.polling.Begun.TheVariants.{Frame, Noise}
use Rattle.mbdc_raw.specs.Noise.{IsCut, IsNoise, begins_frame, is_begun}
use Rattle.mbdc_raw.proofs.Pieces.{stays_bad}

-- the three tests of a beginning
by_tests : (awaits : Bool) (text : List ℕ) (ack short : Bool) → begins_ack text ≡ ack → begins_short text ≡ short → begins_frame awaits text
    ≡ (if ack then awaits else if short then is_some (frame_of (take 5 text)) else nat_lt 4 (length text) && is_begun (need_of text))
by_tests awaits text ack short ack_is short_is =
    ap (λ (b : Bool). if b then awaits else if begins_short text then is_some (frame_of (take 5 text)) else nat_lt 4 (length text) && is_begun (need_of text)) ack_is
    ∙ ap (λ (b : Bool). if ack then awaits else if b then is_some (frame_of (take 5 text)) else nat_lt 4 (length text) && is_begun (need_of text)) short_is

pub frame_ack : (text : List ℕ) → begins_ack text ≡ true → begins_frame true text ≡ true
frame_ack text is = by_tests true text true (begins_short text) is refl

pub noise_ack : (text : List ℕ) → begins_ack text ≡ true → IsNoise false text
noise_ack [] is more = absurd (false≢true is)
noise_ack (x ∷ xs) is more = by_tests false (x ∷ (xs ++ more)) true (begins_short (x ∷ (xs ++ more))) is refl

not_both : (x : ℕ) → (x == 0x10) ≡ true → (x == 0xE5) ≡ false
not_both x is = ap (λ (y : ℕ). y == 0xE5) (eqb-true x 0x10 is)

short_first : (text : List ℕ) → begins_short text ≡ true → begins_ack text ≡ false
short_first [] is = absurd (false≢true is)
short_first (x ∷ xs) is = not_both x is

pub frame_short : (awaits : Bool) (text : List ℕ) → begins_short text ≡ true → is_some (frame_of (take 5 text)) ≡ true → begins_frame awaits text ≡ true
frame_short awaits text is whole = by_tests awaits text false true (short_first text is) is ∙ whole

pub noise_short : (awaits : Bool) (text : List ℕ) → begins_short text ≡ true → 5 ≤ length text → is_some (frame_of (take 5 text)) ≡ false → IsNoise awaits text
noise_short awaits [] is long none more = absurd (false≢true is)
noise_short awaits (x ∷ xs) is long none more =
    by_tests awaits (x ∷ (xs ++ more)) false true (not_both x is) is
    ∙ ap (λ (ys : List ℕ). is_some (frame_of ys)) (take-append-le 5 (x ∷ xs) more long) ∙ none

pub frame_long : (awaits : Bool) (text : List ℕ) → begins_ack text ≡ false → begins_short text ≡ false → 5 ≤ length text → is_begun (need_of text) ≡ true → begins_frame awaits text ≡ true
frame_long awaits text ack short long begun =
    by_tests awaits text false false ack short ∙ ap (λ (b : Bool). b && is_begun (need_of text)) ((Decides-ltb 4 (length text)).1 (omega (arith, long))) ∙ begun

not_begun : (long : Bool) (text : List ℕ) → need_of text ≡ Bad → (long && is_begun (need_of text)) ≡ false
not_begun true text bad = ap is_begun bad
not_begun false text bad = refl

pub noise_bad : (awaits : Bool) (text : List ℕ) → need_of text ≡ Bad → IsNoise awaits text
noise_bad awaits text bad more = go (text ++ more) (stays_bad text more bad)
  where
    go : (t : List ℕ) → need_of t ≡ Bad → begins_frame awaits t ≡ false
    go t is = by (begins_ack t) (begins_short t) refl refl
      where
        by : (ack short : Bool) → begins_ack t ≡ ack → begins_short t ≡ short → begins_frame awaits t ≡ false
        by true short ack_is short_is = absurd (grind (arith, is, ack_is))
        by false true ack_is short_is = absurd (grind (arith, is, ack_is, short_is))
        by false false ack_is short_is = by_tests awaits t false false ack_is short_is ∙ not_begun (nat_lt 4 (length t)) t is

-- a text without the noise at its front, of which these bytes are given
pub cut_of : (awaits takes : Bool) (text : List ℕ) (n : ℕ) (bytes ahead : List ℕ) → n ≤ length text → ((count : ℕ) → count < n → IsNoise awaits (drop count text)) → (takes ≡ true → n ≡ 0) → drop n text ≡ bytes ++ ahead
    → (takes ≡ false → 0 < length bytes → begins_frame awaits (drop n text) ≡ true) → IsCut awaits takes text bytes ahead
cut_of awaits takes text n bytes ahead fits none first is begins = record {
  noise = take n text;
  parts = sym (take-append-drop n text) ∙ ap (λ (ys : List ℕ). take n text ++ ys) is;
  none = λ count less. none count (omega (arith, less, length-take-le n text fits));
  begins = λ one some. subst (λ (ys : List ℕ). begins_frame awaits ys ≡ true) is (begins one some);
  first = λ all. ap (λ (k : ℕ). take k text) (first all);
}

-- nothing is read
pub none_read : (remaining : Option (List ℕ)) → Consumes remaining remaining []
none_read None = tt
none_read (Some bytes) = refl

pub next_noise : (awaits : Bool) (text : List ℕ) (n : ℕ) → ((k : ℕ) → k < n → IsNoise awaits (drop k text)) → IsNoise awaits (drop n text) → (k : ℕ) → k < n + 1 → IsNoise awaits (drop k text)
next_noise awaits text n before here k less = by (nat_lt k n) refl
  where
    by : (b : Bool) → nat_lt k n ≡ b → IsNoise awaits (drop k text)
    by true is = before k ((Decides-ltb k n).0 is)
    by false is =
        let past : (k < n) → ⊥ = λ earlier. false≢true (sym is ∙ (Decides-ltb k n).1 earlier) in
        let same : n ≡ k = omega (arith, past, less) in
        subst (λ (j : ℕ). IsNoise awaits (drop j text)) same here

pub never_both : (begun : Begun) → begun ≡ Frame → begun ≡ Noise → ⊥
never_both begun frame noise = let both : Frame ≡ Noise = sym frame ∙ noise in cc

-- bytes for which there is room are all kept
pub all_fit : (xs ys : List ℕ) (most : ℕ) → length xs + most ≤ most_answer → length ys ≤ most → take most_answer (xs ++ ys) ≡ xs ++ ys
all_fit xs ys most room few = take_all most_answer (xs ++ ys) (omega (arith, length-append xs ys, room, few))

-- what was copied to the front of a room
pub taken_front : (xs copy ys : List ℕ) (n : ℕ) → copy ≡ xs → length xs ≡ n → xs ≡ take n (copy ++ ys)
taken_front xs copy ys n same len = sym (ap (λ (zs : List ℕ). take n (zs ++ ys)) same ∙ ap (λ (k : ℕ). take k (xs ++ ys)) (sym len) ∙ take-append_seam xs ys)
