-- What a line receives in several steps, and how it depends on the bytes.
use Rattle.std.proofs.Common.{◌≡◌, ℕ, ◌-◌, suc, ◌<◌, ◌≤◌, Bool, true, false, List, [], ◌∷◌, ◌++◌, length, take, drop, get_or, ◌==◌, Option, Some, None, refl, ap, sym, subst, ◌∙◌, arith, rules, if◌then◌else◌, append_assoc, append-nil, ◌⊎◌, inl, inr}
use Rattle.std.specs.List.{All, concat}
use Rattle.std.proofs.lemmas.Bool.{false≢true}
use Rattle.std.proofs.lemmas.Bool.Decides.{nat_tests}
use Rattle.std.proofs.lemmas.List.{length-append, take_all, take-append-le, length-take-le}
use Rattle.dc_linkframe.specs.declared.needs.Need.{Need}
use Rattle.dc_linkframe.specs.declared.needs.Need.TheVariants.{More, Whole, Bad}
use Rattle.dc_linkframe.specs.Need.{need_of}
use Rattle.mbdc_bus.specs.Limits.{most_answer}
use Rattle.mbdc_raw.specs.declared.line.Line.{Line}
use Rattle.mbdc_raw.specs.declared.wire.Wire.{Ghosts as WireGhosts}
use Rattle.mbdc_raw.specs.Wire.{Sound, AreHeard, bytes_in, bytes_of, pieces}
use Rattle.mbdc_raw.specs.Heard.{Answers, ComesFrom, Ends, Heard, Hearing, IsByte, IsFrame, Lasts, Waits, answer_of, begins, past_echo, heard_of, front_by, is_over, missing_of, missing_by, is_whole, is_silent, has_gap, is_late, still, still_none, still_some}
use Rattle.mbdc_raw.specs.Line.{Gives, GivesOver, Skips, a_copy, gives_all, gives_nothing, gives_now, gives_one, gives_then, gives_up, no_copy, one_answer, two_copies, waits_all, waits_held, waits_nothing, waits_one}
use Rattle.mbdc_raw.specs.Turn.{is_copy}
use Rattle.mbdc_raw.specs.declared.state.Kind.TheVariants.{One, All as Whole_window, Nobody}
use Rattle.mbdc_raw.proofs.Echoes.{begins_front, begins_same, past_plain, past_echoed, shorter_front}
use Rattle.mbdc_raw.proofs.Pieces.{heard-append, stays_bad}

-- ---- an answer that is over stays as it is, whatever comes after it

whole_length : (text : List ℕ) (n : ℕ) → need_of text ≡ Whole n → n ≤ length text
whole_length [] n e = absurd cc
whole_length (a ∷ rest) n e = grind (arith, nat_tests)

whole_stays : (text further : List ℕ) (n : ℕ) → need_of text ≡ Whole n → need_of (text ++ further) ≡ Whole n
whole_stays [] further n e = absurd cc
whole_stays (a ∷ []) further n e = grind (arith, nat_tests)
whole_stays (a ∷ b ∷ []) further n e = grind (arith, nat_tests)
whole_stays (a ∷ b ∷ c ∷ []) further n e = grind (arith, nat_tests)
whole_stays (a ∷ b ∷ c ∷ d ∷ rest) further n e = let len = length-append rest further in grind (arith, nat_tests)

more_some : (text : List ℕ) (n : ℕ) → need_of text ≡ More n → 0 < n
more_some [] n e = let one : n ≡ 1 = cc in omega arith
more_some (a ∷ rest) n e = grind (arith, nat_tests)

-- a frame of bytes isn't as long as is kept
more_short : (text : List ℕ) (n : ℕ) → get_or text 1 0 < 256 → need_of text ≡ More n → length text < most_answer
more_short [] n byte e = omega arith
more_short (a ∷ rest) n byte e = grind (arith, nat_tests)

none_of_eqb : (n : ℕ) → (n == 0) ≡ true → n ≡ 0
none_of_eqb n e = grind (arith, nat_tests)

-- what an answer that is over needs: nothing more, or it can begin no frame
data IsOver (answer : List ℕ) : Type 0 where
  whole_frame : need_of answer ≡ Whole (length answer) → IsOver answer
  no_frame : need_of answer ≡ Bad → most_answer ≤ length answer → IsOver answer

over_as : (answer : List ℕ) → get_or answer 1 0 < 256 → heard_of answer ≡ answer → is_over answer ≡ true → IsOver answer
over_as answer byte exact over = by_need (need_of answer) refl
  where
    none : missing_of answer ≡ 0
    none = none_of_eqb (missing_of answer) over

    by_need : (n : Need) → need_of answer ≡ n → IsOver answer
    by_need (Whole n) is =
        let cut : take n answer ≡ answer = sym (ap (λ (m : Need). front_by m answer) is) ∙ exact in
        let long : n ≡ length answer = sym (length-take-le n answer (whole_length answer n is)) ∙ ap length cut in
        whole_frame (is ∙ ap Whole long)
    by_need (More n) is =
        let short = more_short answer n byte is in
        let gone : missing_by (More n) (most_answer - length answer) ≡ 0 = sym (ap (λ (m : Need). missing_by m (most_answer - length answer)) is) ∙ none in
        let some = more_some answer n is in
        absurd (omega (arith, gone, short, some))
    by_need Bad is =
        let gone : most_answer - length answer ≡ 0 = sym (ap (λ (m : Need). missing_by m (most_answer - length answer)) is) ∙ none in
        no_frame is (omega (arith, gone))

over_stays : (answer rest : List ℕ) → heard_of answer ≡ answer → IsOver answer → heard_of (answer ++ rest) ≡ answer
over_stays answer rest exact (whole_frame is) =
    ap (λ (m : Need). front_by m (answer ++ rest)) (whole_stays answer rest (length answer) is) ∙ take-append-le (length answer) answer rest (omega arith) ∙ take_all (length answer) answer (omega arith)
over_stays answer rest exact (no_frame is long) =
    let cut : take most_answer answer ≡ answer = sym (ap (λ (m : Need). front_by m answer) is) ∙ exact in
    ap (λ (m : Need). front_by m (answer ++ rest)) (stays_bad answer rest is) ∙ take-append-le most_answer answer rest long ∙ cut

-- no prefix of a frame is over, but the whole
over_no_front : (answer more : List ℕ) → IsFrame (answer ++ more) → IsOver answer → more ≡ []
over_no_front answer [] frame over = refl
over_no_front answer (m ∷ more) frame (whole_frame is) =
    absurd (whole_not (sym frame ∙ whole_stays answer (m ∷ more) (length answer) is))
  where
    same_whole : (n k : ℕ) → Whole n ≡ Whole k → n ≡ k
    same_whole n k e = cc

    whole_not : Whole (length (answer ++ m ∷ more)) ≡ Whole (length answer) → ⊥
    whole_not e = let same = same_whole (length (answer ++ m ∷ more)) (length answer) e in omega (arith, same, length-append answer (m ∷ more))
over_no_front answer (m ∷ more) frame (no_frame is long) = let bad = stays_bad answer (m ∷ more) is in absurd cc

-- ---- bytes

second_byte : (bytes : List ℕ) → All IsByte bytes → get_or bytes 1 0 < 256
second_byte [] all = omega arith
second_byte (a ∷ []) all = omega arith
second_byte (a ∷ b ∷ more) all = all 1 0 (omega arith)

byte_front : (answer rest : List ℕ) → get_or (answer ++ rest) 1 0 < 256 → get_or answer 1 0 < 256
byte_front [] rest byte = omega arith
byte_front (a ∷ []) rest byte = omega arith
byte_front (a ∷ b ∷ more) rest byte = byte

all_right : (front back : List ℕ) → All IsByte (front ++ back) → All IsByte back
all_right [] back all = all
all_right (x ∷ front) back all = all_right front back (λ k d lt. all (suc k) d (omega (arith, lt)))

-- ---- the bytes alone

depends_over : (request bytes came rest answer : List ℕ) → IsFrame request → All IsByte bytes → bytes ≡ came ++ rest → answer ≡ past_echo request came → heard_of answer ≡ answer → is_over answer ≡ true → answer ≡ heard_of (past_echo request bytes)
depends_over request bytes came rest answer frame all parts heard exact over = by_echo (begins request came) refl
  where
    ends : (more : List ℕ) → All IsByte (answer ++ more) → IsOver answer
    ends more are = over_as answer (byte_front answer more (second_byte (answer ++ more) are)) exact over

    by_echo : (b : Bool) → begins request came ≡ b → answer ≡ heard_of (past_echo request bytes)
    by_echo true is =
        let front = begins_front request came is in
        let here : came ≡ request ++ answer = front ∙ ap (λ (xs : List ℕ). request ++ xs) (sym (heard ∙ ap (λ (b : Bool). if b then drop (length request) came else came) is)) in
        let whole : bytes ≡ request ++ (answer ++ rest) = parts ∙ ap (λ (xs : List ℕ). xs ++ rest) here ∙ append_assoc request answer rest in
        let are = all_right request (answer ++ rest) (subst (All IsByte) whole all) in
        sym (ap (λ (xs : List ℕ). heard_of (past_echo request xs)) whole ∙ ap heard_of (past_echoed request (answer ++ rest)) ∙ over_stays answer rest exact (ends rest are))
    by_echo false is =
        let same : answer ≡ came = heard ∙ past_plain request came is in
        let whole : bytes ≡ answer ++ rest = parts ∙ ap (λ (xs : List ℕ). xs ++ rest) (sym same) in
        let are = subst (All IsByte) whole all in
        let plain : begins request bytes ≡ false = no_echo same whole is (ends rest are) (begins request bytes) refl in
        sym (ap heard_of (past_plain request bytes plain ∙ whole) ∙ over_stays answer rest exact (ends rest are))
      where
        no_echo : answer ≡ came → bytes ≡ answer ++ rest → begins request came ≡ false → IsOver answer → (b : Bool) → begins request bytes ≡ b → begins request bytes ≡ false
        no_echo same whole is over false e = e
        no_echo same whole is over true e =
            let echo = begins_front request bytes e in
            by_order same is over (sym whole ∙ echo) (search rules)
          where
            by_order : answer ≡ came → begins request came ≡ false → IsOver answer → answer ++ rest ≡ request ++ drop (length request) bytes → (length answer ≤ length request) ⊎ (length request ≤ length answer) → begins request bytes ≡ false
            by_order same is over both (inr ge) =
                let front = shorter_front request (drop (length request) bytes) answer rest (sym both) ge in
                absurd (false≢true (sym is ∙ begins_same request came (drop (length request) answer) (sym same ∙ front)))
            by_order same is over both (inl le) =
                let front = shorter_front answer rest request (drop (length request) bytes) both le in
                let none = over_no_front answer (drop (length answer) request) (subst IsFrame front frame) over in
                let whole : request ≡ answer ++ [] = front ∙ ap (λ (xs : List ℕ). answer ++ xs) none in
                absurd (false≢true (sym is ∙ begins_same request came [] (sym same ∙ sym (append-nil answer) ∙ sym whole ∙ sym (append-nil request))))

pub heard_alone : (request bytes answer : List ℕ) (sounds : List Sound) → IsFrame request → All IsByte bytes → Heard request sounds answer → ComesFrom bytes sounds answer → answer ≡ heard_of (past_echo request bytes)
heard_alone request bytes answer sounds frame all heard comes = by_end (is_over answer) refl
  where
    by_end : (b : Bool) → is_over answer ≡ b → answer ≡ heard_of (past_echo request bytes)
    by_end true is = depends_over request bytes (bytes_in sounds) comes.rest answer frame all comes.came heard.heard heard.exact is
    by_end false is =
        let whole : bytes ≡ bytes_in sounds = comes.came ∙ ap (λ (xs : List ℕ). bytes_in sounds ++ xs) (comes.all is) ∙ append-nil (bytes_in sounds) in
        sym (ap (λ (xs : List ℕ). heard_of (past_echo request xs)) whole ∙ ap heard_of (sym heard.heard) ∙ heard.exact)

-- ---- several steps

bytes-append : (front back : List Sound) → bytes_in (front ++ back) ≡ bytes_in front ++ bytes_in back
bytes-append [] back = refl
bytes-append (sound ∷ front) back = ap (λ (xs : List ℕ). bytes_of sound ++ xs) (bytes-append front back) ∙ sym (append_assoc (bytes_of sound) (bytes_in front) (bytes_in back))

bytes_pieces : (bursts : List (List ℕ)) → bytes_in (pieces bursts) ≡ concat bursts
bytes_pieces [] = refl
bytes_pieces (burst ∷ bursts) = ap (λ (xs : List ℕ). burst ++ xs) (bytes_pieces bursts)

end_bytes : (answer : List ℕ) (end : List Sound) → Ends answer end → bytes_in end ≡ []
end_bytes answer end (is_whole over) = refl
end_bytes answer end (is_silent over) = refl
end_bytes answer end (has_gap over some) = refl
end_bytes answer end (is_late none) = refl

last_bytes : (answer : List ℕ) (last : Sound) → Lasts answer last → bytes_in (last ∷ []) ≡ []
last_bytes answer last still = refl
last_bytes answer last (still_none none) = refl
last_bytes answer last (still_some some) = refl

bursts_then : (bursts : List (List ℕ)) (end : List Sound) → bytes_in end ≡ [] → bytes_in (pieces bursts ++ end) ≡ concat bursts
bursts_then bursts end none =
    bytes-append (pieces bursts) end ∙ ap (λ (xs : List ℕ). bytes_in (pieces bursts) ++ xs) none ∙ append-nil (bytes_in (pieces bursts)) ∙ bytes_pieces bursts

-- what was received, of these bytes and then of what came
record Over {W : Type 0} (hears : W → Sound → W → Type 0) (old : W) (before : Hearing) (answer : List ℕ) (new : W) : Type 0 where
  sounds : List Sound
  gave : AreHeard hears old sounds new
  front : List Sound
  end : List Sound
  parts : sounds ≡ front ++ end
  heard : answer ≡ past_echo before.request (before.bytes ++ bytes_in sounds)
  exact : heard_of answer ≡ answer
  ends : Ends answer end

module _ {W : Type 0} (wire : WireGhosts W) where
  over_now : (old : W) (before : Hearing) (answer : List ℕ) (new : W) (after : Hearing) → Answers wire.hears old before answer new after → Over wire.hears old before answer new
  over_now old before answer new after a = record {
    sounds = pieces a.bursts ++ a.end;
    gave = a.gave;
    front = pieces a.bursts;
    end = a.end;
    parts = refl;
    heard = a.heard ∙ ap (λ (xs : List ℕ). past_echo before.request (before.bytes ++ xs)) (sym (bursts_then a.bursts a.end (end_bytes answer a.end a.ends)));
    exact = a.exact;
    ends = a.ends;
  }

  over_then : (old : W) (before : Hearing) (between : W) (after : Hearing) (new : W) (answer : List ℕ) → Waits wire.hears old before between after → Over wire.hears between after answer new → Over wire.hears old before answer new
  over_then old before between after new answer w o =
      let first : List Sound = pieces w.bursts ++ w.last ∷ [] in
      let came : bytes_in first ≡ concat w.bursts = bursts_then w.bursts (w.last ∷ []) (last_bytes (answer_of after) w.last w.lasts) in
      let all : before.bytes ++ bytes_in (first ++ o.sounds) ≡ (before.bytes ++ concat w.bursts) ++ bytes_in o.sounds =
      ap (λ (xs : List ℕ). before.bytes ++ xs) (bytes-append first o.sounds ∙ ap (λ (xs : List ℕ). xs ++ bytes_in o.sounds) came) ∙ sym (append_assoc before.bytes (concat w.bursts) (bytes_in o.sounds)) in
      record {
        sounds = first ++ o.sounds;
        gave = heard-append wire.hears old between new first o.sounds w.gave o.gave;
        front = first ++ o.front;
        end = o.end;
        parts = ap (λ (xs : List Sound). first ++ xs) o.parts ∙ sym (append_assoc first o.front o.end);
        heard = o.heard ∙ ap (λ (h : Hearing). past_echo h.request (h.bytes ++ bytes_in o.sounds)) w.kept ∙ ap (past_echo before.request) (sym all);
        exact = o.exact;
        ends = o.ends;
      }

  -- where no copy can come, none is dropped
  no_skip : {old between : Line W} → Skips wire old between → old.last ≡ None → between ≡ old
  no_skip (no_copy same) none = same
  no_skip {old} (a_copy copy heard is kept) none = absurd (let no : is_copy old.last copy ≡ false = ap (λ (last : Option (List ℕ)). is_copy last copy) none in let both : true ≡ false = sym is ∙ no in cc)

  by_gives : {old new : Line W} {answer : List ℕ} → Gives wire old answer new → old.held ≡ None → old.kind ≡ One → old.last ≡ None → Over wire.hears old.wire old.hearing answer new.wire
  by_gives {old} (gives_up held line is silent looks kept) none one plain = absurd (let both : Some held ≡ None = sym is ∙ none in cc)
  by_gives {old} (gives_one free kind (two_copies silent g)) none one plain =
      let same = no_skip g.skips plain in
      absurd (let no : is_copy g.between.last g.copy ≡ false = ap (λ (l : Line W). is_copy l.last g.copy) same ∙ ap (λ (last : Option (List ℕ)). is_copy last g.copy) plain in let both : true ≡ false = sym g.again ∙ no in cc)
  by_gives {old} {new} {answer} (gives_one free kind (one_answer g)) none one plain =
      let same = no_skip g.skips plain in
      over_now old.wire old.hearing answer new.wire new.hearing (subst (λ (l : Line W). Answers wire.hears l.wire l.hearing answer new.wire new.hearing) same g.heard)
  by_gives {old} (gives_all free kind g) none one plain = absurd (let both : Whole_window ≡ One = sym kind ∙ one in cc)
  by_gives {old} (gives_nothing free kind silent g) none one plain = absurd (let both : Nobody ≡ One = sym kind ∙ one in cc)

  over_all : {old new : Line W} {answer : List ℕ} → GivesOver wire old answer new → old.held ≡ None → old.kind ≡ One → old.last ≡ None → new.lost ≡ false → Over wire.hears old.wire old.hearing answer new.wire
  over_all (gives_now gives) none one plain well = by_gives (gives.given well) none one plain
  over_all {old} (gives_then (waits_held held gone runs is quiet looks) more) none one plain well = absurd (let both : Some held ≡ None = sym is ∙ none in cc)
  over_all {old} {new} {answer} (gives_then {between = between} (waits_one runs free kind w) more) none one plain well =
      let same = no_skip w.skips plain in
      over_then old.wire old.hearing between.wire between.hearing new.wire answer
      (subst (λ (l : Line W). Waits wire.hears l.wire l.hearing between.wire between.hearing) same w.waits)
      (over_all more (ap (λ (l : Line W). l.held) w.kept ∙ ap (λ (l : Line W). l.held) same ∙ none) (ap (λ (l : Line W). l.kind) w.kept ∙ ap (λ (l : Line W). l.kind) same ∙ one)
      (ap (λ (l : Line W). l.last) w.kept ∙ ap (λ (l : Line W). l.last) same ∙ plain) well)
  over_all {old} (gives_then (waits_all runs free kind w) more) none one plain well = absurd (let both : Whole_window ≡ One = sym kind ∙ one in cc)
  over_all {old} (gives_then (waits_nothing runs free kind w) more) none one plain well = absurd (let both : Nobody ≡ One = sym kind ∙ one in cc)

  pub gives_heard : (old new : Line W) (answer : List ℕ) → old.held ≡ None → old.kind ≡ One → old.last ≡ None → old.hearing.bytes ≡ [] → GivesOver wire old answer new → new.lost ≡ false → (sounds : List Sound) × AreHeard wire.hears old.wire sounds new.wire × Heard old.hearing.request sounds answer
  gives_heard old new answer sent one plain none gives well =
      let o = over_all gives sent one plain well in (
        o.sounds,
        o.gave,
        record {
          front = o.front;
          end = o.end;
          parts = o.parts;
          heard = o.heard ∙ ap (λ (xs : List ℕ). past_echo old.hearing.request (xs ++ bytes_in o.sounds)) none;
          exact = o.exact;
          ends = o.ends;
        },
      )
