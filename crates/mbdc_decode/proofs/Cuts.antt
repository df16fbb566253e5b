-- The texts that bytes come apart into, one text more.
use Rattle.std.proofs.Common.{◌≡◌, ℕ, zero, suc, ◌+◌, ◌-◌, ◌<◌, ◌≤◌, List, [], ◌∷◌, ◌++◌, length, take, drop, refl, ap, arith, length-drop, Bool, true, false, cond, lit<}
use Rattle.std.specs.Prelude.{◌||◌, ◌==◌, nat_lt, slice_index, if◌then◌else◌}
use Rattle.std.proofs.lemmas.Bool.{ltb-false}
use Rattle.dc_linkframe.specs.declared.needs.Need.{Need}
use Rattle.dc_linkframe.specs.declared.needs.Need.TheVariants.{More, Whole, Bad}
use Rattle.dc_linkframe.specs.Fault.{begins_ack, begins_short, begins_long, lengths_agree}
use Rattle.dc_linkframe.specs.Need.{up_to, need_of_long, need_of}
use Rattle.mbdc_decode.specs.Frames.{len_by, front_len, cut, frames_of, shown, is_bad, all_shown, any_bad}

-- what is needed names a byte at least, and at most what there is
abbrev Fits : List ℕ → Need → Type 0
Fits bytes n = (0 < len_by bytes n) × (len_by bytes n ≤ length bytes)

cond_fits : (bytes : List ℕ) (b : Bool) (m n : Need) → (b ≡ true → Fits bytes m) → (b ≡ false → Fits bytes n) → Fits bytes (cond b m n)
cond_fits bytes true m n then_fits else_fits = then_fits refl
cond_fits bytes false m n then_fits else_fits = else_fits refl

up_to_fits : (whole : ℕ) (bytes : List ℕ) → 0 < whole → 0 < length bytes → Fits bytes (up_to whole bytes)
up_to_fits whole bytes low some =
    cond_fits bytes (nat_lt (length bytes) whole) (More (whole - length bytes)) (Whole whole) (λ _. (some, omega arith)) (λ ge. (low, ltb-false _ _ ge))

long_fits : (bytes : List ℕ) → 0 < length bytes → Fits bytes (need_of_long bytes)
long_fits bytes some =
    cond_fits bytes (nat_lt (length bytes) 4) (More (4 - length bytes)) (if lengths_agree bytes then up_to (slice_index bytes 1 + 6) bytes else Bad) (λ _. (some, omega arith))
    (λ _. cond_fits bytes (lengths_agree bytes) (up_to (slice_index bytes 1 + 6) bytes) Bad (λ _. up_to_fits (slice_index bytes 1 + 6) bytes (omega arith) some) (λ _. (some, omega arith)))

front_fits : (bytes : List ℕ) → 0 < length bytes → Fits bytes (need_of bytes)
front_fits bytes some =
    cond_fits bytes (length bytes == 0) (More 1) _ (λ _. (some, omega arith))
    (λ _. cond_fits bytes (begins_ack bytes) (Whole 1) _ (λ _. (lit< tt, some))
    (λ _. cond_fits bytes (begins_short bytes) (up_to 5 bytes) _ (λ _. up_to_fits 5 bytes (lit< tt) some)
    (λ _. cond_fits bytes (begins_long bytes) (need_of_long bytes) Bad (λ _. long_fits bytes some) (λ _. (some, omega arith)))))

pub front_some : (bytes : List ℕ) → 0 < length bytes → 0 < front_len bytes
front_some bytes some = (front_fits bytes some).0

pub front_within : (bytes : List ℕ) → 0 < length bytes → front_len bytes ≤ length bytes
front_within bytes some = (front_fits bytes some).1

-- turns to spare change nothing
spare : (turns more : ℕ) (bytes : List ℕ) → length bytes ≤ turns → turns ≤ more → cut more bytes ≡ cut turns bytes
spare zero zero [] all le = refl
spare zero (suc more) [] all le = refl
spare (suc turns) zero bytes all le = absurd (omega arith)
spare (suc turns) (suc more) [] all le = refl
spare zero more (b ∷ bytes) all le = absurd (omega arith)
spare (suc turns) (suc more) (b ∷ bytes) all le =
    let fits = front_fits (b ∷ bytes) (omega arith) in
    let left : length (drop (front_len (b ∷ bytes)) (b ∷ bytes)) ≤ turns = omega (arith, length-drop (front_len (b ∷ bytes)) (b ∷ bytes), fits.0) in
    ap (λ (rest : List (List ℕ)). take (front_len (b ∷ bytes)) (b ∷ bytes) ∷ rest) (spare turns more (drop (front_len (b ∷ bytes)) (b ∷ bytes)) left (omega arith))

pub first_cut : (bytes : List ℕ) → 0 < length bytes → frames_of bytes ≡ take (front_len bytes) bytes ∷ frames_of (drop (front_len bytes) bytes)
unfolding frames_of
first_cut [] some = absurd (omega arith)
first_cut (b ∷ bytes) some =
    let fits = front_fits (b ∷ bytes) some in
    let left : length (drop (front_len (b ∷ bytes)) (b ∷ bytes)) ≤ length bytes = omega (arith, length-drop (front_len (b ∷ bytes)) (b ∷ bytes), fits.0) in
    ap (λ (rest : List (List ℕ)). take (front_len (b ∷ bytes)) (b ∷ bytes) ∷ rest)
    (spare (length (drop (front_len (b ∷ bytes)) (b ∷ bytes))) (length bytes) (drop (front_len (b ∷ bytes)) (b ∷ bytes)) (omega arith) left)

pub no_cut : (bytes : List ℕ) → length bytes ≡ 0 → frames_of bytes ≡ []
unfolding frames_of
no_cut [] none = refl
no_cut (b ∷ bytes) none = absurd (omega arith)

pub ruleset cuts = (first_cut, front_some, front_within)

pub none_shown : all_shown [] ≡ []
unfolding all_shown
none_shown = refl

pub first_shown : (text : List ℕ) (texts : List (List ℕ)) → all_shown (text ∷ texts) ≡ shown text ++ all_shown texts
unfolding all_shown
first_shown text texts = refl

pub none_bad : any_bad [] ≡ false
unfolding any_bad
none_bad = refl

pub first_bad : (text : List ℕ) (texts : List (List ℕ)) → any_bad (text ∷ texts) ≡ (is_bad text || any_bad texts)
unfolding any_bad
first_bad text texts = refl

pub ruleset shows = (no_cut, none_shown, first_shown, none_bad, first_bad)
