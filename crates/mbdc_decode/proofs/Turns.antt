-- Frames that follow one another.
use Rattle.std.proofs.Common.{◌≡◌, ℕ, zero, suc, ◌<◌, ◌≤◌, List, [], ◌∷◌, ◌++◌, length, take, drop, map, refl, ap, ◌∙◌, arith, length-drop, take-append-drop}
use Rattle.std.specs.Prelude.{flat_map}
use Rattle.std.specs.List.{AllByRecursion, concat}
use Rattle.std.proofs.Math.Seq.{take-append_seam, drop-append_seam}
use Rattle.dc_linkframe.specs.declared.needs.Need.TheVariants.{Whole}
use Rattle.dc_linkframe.specs.Frame.{FrameSeen, ack, short, long, HasRoom, spelling, Spells}
use Rattle.dc_linkframe.specs.Need.{need_of}
use Rattle.dc_linkframe.proofs.Spellings.{frame_of-spelling}
use Rattle.mbdc_decode.specs.Frames.{len_by, front_len, frames_of, read_text, frame_text, shown, all_shown}
use Rattle.mbdc_decode.proofs.Cuts.{first_cut, front_some, no_cut, none_shown, first_shown}
use Rattle.mbdc_decode.proofs.Spelled.{frame_is_parsed}

whole_in : (turns : ℕ) (bytes : List ℕ) → length bytes ≤ turns → concat (frames_of bytes) ≡ bytes
whole_in turns [] few = ap concat (no_cut [] refl)
whole_in zero (b ∷ bytes) few = absurd (omega arith)
whole_in (suc turns) (b ∷ bytes) few =
    let some : 0 < length (b ∷ bytes) = omega arith in
    let n : ℕ = front_len (b ∷ bytes) in
    let left : length (drop n (b ∷ bytes)) ≤ turns = omega (arith, length-drop n (b ∷ bytes), front_some (b ∷ bytes) some) in
    ap concat (first_cut (b ∷ bytes) some) ∙ ap (λ (t : List ℕ). take n (b ∷ bytes) ++ t) (whole_in turns (drop n (b ∷ bytes)) left)
    ∙ take-append-drop n (b ∷ bytes)

pub whole : (bytes : List ℕ) → concat (frames_of bytes) ≡ bytes
whole bytes = whole_in (length bytes) bytes (omega arith)

some_spelled : (frame : FrameSeen) (rest : List ℕ) → 0 < length (spelling frame ++ rest)
some_spelled ack rest = omega arith
some_spelled (short control address) rest = omega arith
some_spelled (long control address ci body) rest = omega arith

module _ (found : (text further : List ℕ) (frame : FrameSeen) → Spells text frame → need_of (text ++ further) ≡ Whole (length text)) where
  first_spelled : (frame : FrameSeen) (rest : List ℕ) → HasRoom frame → frames_of (spelling frame ++ rest) ≡ spelling frame ∷ frames_of rest
  first_spelled frame rest room =
      let len : front_len (spelling frame ++ rest) ≡ length (spelling frame) = ap (len_by (spelling frame ++ rest)) (found (spelling frame) rest frame (record { spelled = refl; has_room = room })) in
      first_cut (spelling frame ++ rest) (some_spelled frame rest)
      ∙ ap (λ (n : ℕ). take n (spelling frame ++ rest) ∷ frames_of (drop n (spelling frame ++ rest))) len
      ∙ ap (λ (t : List ℕ). t ∷ frames_of (drop (length (spelling frame)) (spelling frame ++ rest))) (take-append_seam (spelling frame) rest)
      ∙ ap (λ (t : List ℕ). spelling frame ∷ frames_of t) (drop-append_seam (spelling frame) rest)

  pub spelled_in_turn : (frames : List FrameSeen) → AllByRecursion HasRoom frames → frames_of (flat_map spelling frames) ≡ map spelling frames
  spelled_in_turn [] rooms = no_cut [] refl
  spelled_in_turn (frame ∷ frames) rooms =
      first_spelled frame (flat_map spelling frames) rooms.0 ∙ ap (λ (t : List (List ℕ)). spelling frame ∷ t) (spelled_in_turn frames rooms.1)

shown_spelled : (frame : FrameSeen) → shown (spelling frame) ≡ frame_text frame
unfolding shown
shown_spelled frame = ap read_text (frame_is_parsed (spelling frame) frame (frame_of-spelling frame))

pub shown_in_turn : (frames : List FrameSeen) → all_shown (map spelling frames) ≡ flat_map frame_text frames
shown_in_turn [] = none_shown
shown_in_turn (frame ∷ frames) =
    first_shown (spelling frame) (map spelling frames) ∙ ap (λ (t : List ℕ). t ++ all_shown (map spelling frames)) (shown_spelled frame)
    ∙ ap (λ (t : List ℕ). frame_text frame ++ t) (shown_in_turn frames)
