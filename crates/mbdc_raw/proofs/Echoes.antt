-- The echo of a request, and what is wanted of an answer.
use Rattle.std.proofs.Common.{◌≡◌, ℕ, ◌+◌, ◌-◌, ◌<◌, ◌≤◌, Bool, true, false, List, [], ◌∷◌, ◌++◌, length, take, drop, min, ◌==◌, refl, ap, sym, subst, ◌∙◌, arith, if◌then◌else◌, append_assoc, append-nil, ◌⊎◌, inl, inr, rules}
use Rattle.std.proofs.lemmas.Bool.{false≢true, ne_eqb}
use Rattle.std.proofs.lemmas.Bool.Decides.{Decides-eqb}
use Rattle.std.proofs.lemmas.List.{length-append, take_all, take-append-le, take-append-drop}
use Rattle.std.proofs.lemmas.Slice.Eq.{starts_is}
use Rattle.std.proofs.Math.Seq.{drop-append_seam, take-append_seam}
use Rattle.dc_linkframe.specs.declared.needs.Need.{Need}
use Rattle.dc_linkframe.specs.declared.needs.Need.TheVariants.{More, Whole, Bad}
use Rattle.dc_linkframe.specs.Need.{need_of}
use Rattle.mbdc_bus.specs.Limits.{most_answer}
use Rattle.mbdc_raw.specs.Heard.{Hearing, IsKept, came_by, begins, echo_room, past_echo, missing_of, missing_by, wanted_of, heard_of}
use Rattle.mbdc_raw.proofs.Pieces.{exact_more}

-- ---- a list that is a prefix of another

pub begins_front : (front bytes : List ℕ) → begins front bytes ≡ true → bytes ≡ front ++ drop (length front) bytes
begins_front front bytes is = (starts_is Decides-eqb bytes front (begins front bytes) refl).0 is

pub front_begins : (front rest : List ℕ) → begins front (front ++ rest) ≡ true
front_begins front rest = (starts_is Decides-eqb (front ++ rest) front (begins front (front ++ rest)) refl).1 rest refl

pub begins_same : (front bytes rest : List ℕ) → bytes ≡ front ++ rest → begins front bytes ≡ true
begins_same front bytes rest is = subst (λ (xs : List ℕ). begins front xs ≡ true) (sym is) (front_begins front rest)

not_true : (b : Bool) → (b ≡ true → ⊥) → b ≡ false
not_true true other = absurd (other refl)
not_true false other = refl

-- of two prefixes of one list the shorter one is a prefix of the other
pub shorter_front : (xs ys us vs : List ℕ) → xs ++ ys ≡ us ++ vs → length xs ≤ length us → us ≡ xs ++ drop (length xs) us
shorter_front xs ys us vs same fits =
    let cut : xs ≡ take (length xs) us =
    sym (take-append_seam xs ys) ∙ ap (take (length xs)) same ∙ take-append-le (length xs) us vs fits in
    sym (take-append-drop (length xs) us) ∙ ap (λ (zs : List ℕ). zs ++ drop (length xs) us) (sym cut)

-- ---- the answer after the echo

pub past_echoed : (request answer : List ℕ) → past_echo request (request ++ answer) ≡ answer
past_echoed request answer =
    ap (λ (b : Bool). if b then drop (length request) (request ++ answer) else request ++ answer) (front_begins request answer) ∙ drop-append_seam request answer

pub past_plain : (request bytes : List ℕ) → begins request bytes ≡ false → past_echo request bytes ≡ bytes
past_plain request bytes is = ap (λ (b : Bool). if b then drop (length request) bytes else bytes) is

pub missing_room : (answer : List ℕ) → missing_of answer ≤ most_answer - length answer
missing_room answer = by_need (need_of answer) (most_answer - length answer)
  where
    by_need : (n : Need) (room : ℕ) → missing_by n room ≤ room
    by_need (Whole n) room = omega arith
    by_need (More n) room = omega arith
    by_need Bad room = omega arith

-- ---- how many bytes are wanted

room_echoed : (request answer : List ℕ) → echo_room request (request ++ answer) ≡ most_answer
room_echoed request answer =
    ap (λ (b : Bool). if b then most_answer else if begins (request ++ answer) request then length request - length (request ++ answer) else most_answer) (front_begins request answer)

room_plain : (request bytes : List ℕ) → begins request bytes ≡ false → echo_room request bytes ≡ (if begins bytes request then length request - length bytes else most_answer)
room_plain request bytes is =
    ap (λ (b : Bool). if b then most_answer else if begins bytes request then length request - length bytes else most_answer) is

room_begun : (request bytes : List ℕ) → begins request bytes ≡ false → begins bytes request ≡ true → echo_room request bytes ≡ length request - length bytes
room_begun request bytes is begun = room_plain request bytes is ∙ ap (λ (b : Bool). if b then length request - length bytes else most_answer) begun

room_other : (request bytes : List ℕ) → begins request bytes ≡ false → begins bytes request ≡ false → echo_room request bytes ≡ most_answer
room_other request bytes is other = room_plain request bytes is ∙ ap (λ (b : Bool). if b then length request - length bytes else most_answer) other

wanted_as : (request bytes answer : List ℕ) (room : ℕ) → past_echo request bytes ≡ answer → echo_room request bytes ≡ room → wanted_of request bytes ≡ min (missing_of answer) room
wanted_as request bytes answer room past is = ap (λ (xs : List ℕ). min (missing_of xs) (echo_room request bytes)) past ∙ ap (min (missing_of answer)) is

missing_all : (answer : List ℕ) → min (missing_of answer) most_answer ≡ missing_of answer
missing_all answer = let room = missing_room answer in omega (arith, room)

pub wanted_echoed : (request answer : List ℕ) → wanted_of request (request ++ answer) ≡ missing_of answer
wanted_echoed request answer =
    wanted_as request (request ++ answer) answer most_answer (past_echoed request answer) (room_echoed request answer) ∙ missing_all answer

pub wanted_begun : (request answer : List ℕ) → begins request answer ≡ false → begins answer request ≡ true → wanted_of request answer ≡ min (missing_of answer) (length request - length answer)
wanted_begun request answer is begun =
    wanted_as request answer answer (length request - length answer) (past_plain request answer is) (room_begun request answer is begun)

pub wanted_other : (request answer : List ℕ) → begins request answer ≡ false → begins answer request ≡ false → wanted_of request answer ≡ missing_of answer
wanted_other request answer is other =
    wanted_as request answer answer most_answer (past_plain request answer is) (room_other request answer is other) ∙ missing_all answer

-- something is wanted of an answer that isn't over
room_some : (request bytes : List ℕ) → 0 < echo_room request bytes
room_some request bytes = by_echo (begins request bytes) refl (begins bytes request) refl
  where
    by_echo : (b : Bool) → begins request bytes ≡ b → (c : Bool) → begins bytes request ≡ c → 0 < echo_room request bytes
    by_echo true is c begun =
        let room : echo_room request bytes ≡ most_answer =
        ap (λ (b : Bool). if b then most_answer else if begins bytes request then length request - length bytes else most_answer) is in
        omega (arith, room)
    by_echo false is false other = let room = room_other request bytes is other in omega (arith, room)
    by_echo false is true begun = by_rest (drop (length bytes) request) (begins_front bytes request begun)
      where
        by_rest : (rest : List ℕ) → request ≡ bytes ++ rest → 0 < echo_room request bytes
        by_rest [] same = absurd (false≢true (sym is ∙ begins_same request bytes [] (sym (append-nil bytes) ∙ sym same ∙ sym (append-nil request))))
        by_rest (r ∷ rest) same =
            let room = room_begun request bytes is begun in
            let longer = ap length same in
            omega (arith, room, longer, length-append bytes (r ∷ rest))

pub none_missing : (request bytes answer : List ℕ) → past_echo request bytes ≡ answer → wanted_of request bytes ≡ 0 → missing_of answer ≡ 0
none_missing request bytes answer past none =
    let is = wanted_as request bytes answer (echo_room request bytes) past refl in
    omega (arith, is, none, room_some request bytes)

pub some_missing : (request bytes answer : List ℕ) → past_echo request bytes ≡ answer → 0 < wanted_of request bytes → 0 < missing_of answer
some_missing request bytes answer past some =
    let is = wanted_as request bytes answer (echo_room request bytes) past refl in
    omega (arith, is, some)

-- ---- an answer that is kept without the echo

pub kept_past : (request answer : List ℕ) (echoed : Bool) → IsKept request answer echoed → past_echo request (came_by request answer echoed) ≡ answer
kept_past request answer true kept = past_echoed request answer
kept_past request answer false kept = past_plain request answer (kept.plain refl)

pub kept_none : (request : List ℕ) → (length request == 0) ≡ false → begins request [] ≡ false
kept_none [] some = absurd (false≢true (sym some))
kept_none (r ∷ rest) some = refl

pub kept_new : (request : List ℕ) (echoed : Bool) → echoed ≡ (length request == 0) → IsKept request [] echoed
kept_new request echoed is = record { fits = omega arith; exact = refl; plain = λ e. kept_none request (sym is ∙ e) }

pub none_came : (request : List ℕ) (echoed : Bool) → echoed ≡ (length request == 0) → came_by request [] echoed ≡ []
none_came [] true is = refl
none_came [] false is = refl
none_came (r ∷ rest) true is =
    let none : (length (r ∷ rest) == 0) ≡ false = ne_eqb (length (r ∷ rest)) 0 (λ z. omega arith) in absurd (false≢true (sym none ∙ sym is))
none_came (r ∷ rest) false is = refl

-- as many are wanted as the answer misses, and of what may be an echo at most what is missing of it
pub kept_wanted : (request answer : List ℕ) (echoed front : Bool) → IsKept request answer echoed → front ≡ begins answer request
    → wanted_of request (came_by request answer echoed) ≡ (if echoed then missing_of answer else if front then min (missing_of answer) (length request - length answer) else missing_of answer)
kept_wanted request answer true front kept is = wanted_echoed request answer
kept_wanted request answer false true kept is = wanted_begun request answer (kept.plain refl) (sym is)
kept_wanted request answer false false kept is = wanted_other request answer (kept.plain refl) (sym is)

pub wanted_missing : (request answer : List ℕ) (echoed : Bool) → IsKept request answer echoed → wanted_of request (came_by request answer echoed) ≤ missing_of answer
wanted_missing request answer echoed kept =
    let is = wanted_as request (came_by request answer echoed) answer (echo_room request (came_by request answer echoed)) (kept_past request answer echoed kept) refl in
    omega (arith, is)

pub kept_fits : (request answer : List ℕ) (echoed : Bool) → IsKept request answer echoed → length (came_by request answer echoed) + wanted_of request (came_by request answer echoed) ≤ length request + most_answer
kept_fits request answer true kept =
    let most = wanted_missing request answer true kept in
    let room = missing_room answer in
    omega (arith, most, room, kept.fits, length-append request answer)
kept_fits request answer false kept =
    let most = wanted_missing request answer false kept in
    let room = missing_room answer in
    omega (arith, most, room, kept.fits)

-- ---- more bytes

exact_all : (answer more : List ℕ) → heard_of answer ≡ answer → length answer ≤ most_answer → length more ≤ missing_of answer → heard_of (answer ++ more) ≡ answer ++ more
exact_all answer [] exact fits few = subst (λ (xs : List ℕ). heard_of xs ≡ xs) (sym (append-nil answer)) exact
exact_all answer (m ∷ more) exact fits few =
    exact_more answer (m ∷ more) (omega (arith, few)) few (let room = missing_room answer in omega (arith, room, few, fits, length-append answer (m ∷ more)))

pub all_kept : (request answer more after : List ℕ) (echoed : Bool) → IsKept request answer echoed → length more ≤ wanted_of request (came_by request answer echoed) → after ≡ take most_answer (answer ++ more) → after ≡ answer ++ more
all_kept request answer more after echoed kept few is =
    let most = wanted_missing request answer echoed kept in
    let room = missing_room answer in
    is ∙ take_all most_answer (answer ++ more) (omega (arith, most, room, few, kept.fits, length-append answer more))

plain_stays : (request answer more : List ℕ) → begins request answer ≡ false → length more ≤ echo_room request answer → (answer ++ more ≡ request → ⊥) → begins request (answer ++ more) ≡ false
plain_stays request answer more is few other =
    not_true (begins request (answer ++ more)) (λ echo. by_begun echo (begins answer request) refl)
  where
    by_begun : begins request (answer ++ more) ≡ true → (c : Bool) → begins answer request ≡ c → ⊥
    by_begun echo true begun =
        let whole = begins_front request (answer ++ more) echo in
        let room = room_begun request answer is begun in
        let front = begins_front answer request begun in
        let long = ap length whole in
        let longer = ap length front in
        by_rest (drop (length request) (answer ++ more)) whole
        (omega (arith, long, longer, room, few, length-append answer more, length-append answer (drop (length answer) request), length-append request (drop (length request) (answer ++ more))))
      where
        by_rest : (rest : List ℕ) → answer ++ more ≡ request ++ rest → length rest ≡ 0 → ⊥
        by_rest [] same none = other (same ∙ append-nil request)
        by_rest (r ∷ rest) same none = omega (arith, none)
    by_begun echo false begun =
        let whole = begins_front request (answer ++ more) echo in
        by_order whole (search rules)
      where
        by_order : answer ++ more ≡ request ++ drop (length request) (answer ++ more) → (length answer ≤ length request) ⊎ (length request ≤ length answer) → ⊥
        by_order whole (inl le) =
            let front = shorter_front answer more request (drop (length request) (answer ++ more)) whole le in
            false≢true (sym begun ∙ begins_same answer request (drop (length answer) request) front)
        by_order whole (inr ge) =
            let front = shorter_front request (drop (length request) (answer ++ more)) answer more (sym whole) ge in
            false≢true (sym is ∙ begins_same request answer (drop (length request) answer) front)

-- bytes after an echo, or that aren't one yet
pub kept_more : (request answer more after : List ℕ) (echoed : Bool) → IsKept request answer echoed → length more ≤ wanted_of request (came_by request answer echoed) → after ≡ take most_answer (answer ++ more)
    → (echoed ≡ false → after ≡ request → ⊥) → IsKept request after echoed
kept_more request answer more after echoed kept few is other =
    let all = all_kept request answer more after echoed kept few is in
    let most = wanted_missing request answer echoed kept in
    let room = missing_room answer in
    let long = ap length all in
    record {
      fits = omega (arith, most, room, few, kept.fits, long, length-append answer more);
      exact = subst (λ (xs : List ℕ). heard_of xs ≡ xs) (sym all) (exact_all answer more kept.exact kept.fits (omega (arith, most, few)));
      plain = λ e. subst (λ (xs : List ℕ). begins request xs ≡ false) (sym all) (stays e);
    }
  where
    stays : echoed ≡ false → begins request (answer ++ more) ≡ false
    stays e =
        let here : came_by request answer echoed ≡ answer = ap (λ (b : Bool). (if b then request else []) ++ answer) e in
        let room : length more ≤ wanted_of request answer = subst (λ (xs : List ℕ). length more ≤ wanted_of request xs) here few in
        plain_stays request answer more (kept.plain e) (omega (arith, room))
        (λ same. other e (all_kept request answer more after echoed kept few is ∙ same))

pub came_more : (request answer more after : List ℕ) (echoed : Bool) → after ≡ answer ++ more → came_by request after echoed ≡ came_by request answer echoed ++ more
came_more request answer more after true is = ap (λ (xs : List ℕ). request ++ xs) is ∙ sym (append_assoc request answer more)
came_more request answer more after false is = is

-- the echo is whole
pub kept_echo : (request : List ℕ) → IsKept request [] true
kept_echo request = record { fits = omega arith; exact = refl; plain = λ e. absurd (false≢true (sym e)) }

pub came_echo : (request answer more after : List ℕ) → after ≡ answer ++ more → after ≡ request → came_by request [] true ≡ came_by request answer false ++ more
came_echo request answer more after is echo = append-nil request ∙ sym echo ∙ is

-- ---- the same, of the model

abbrev pub hearing_of : List ℕ → List ℕ → Bool → Hearing
hearing_of request answer echoed = record { request = request; bytes = came_by request answer echoed }

pub hearing_answer : (h : Hearing) (request answer : List ℕ) (echoed : Bool) → hearing_of request answer echoed ≡ h → IsKept request answer echoed → answer ≡ past_echo h.request h.bytes
hearing_answer h request answer echoed is kept = sym (kept_past request answer echoed kept) ∙ ap (λ (h : Hearing). past_echo h.request h.bytes) is

pub hearing_wanted : (h : Hearing) (request answer : List ℕ) (echoed front : Bool) → hearing_of request answer echoed ≡ h → IsKept request answer echoed → front ≡ begins answer request
    → wanted_of h.request h.bytes ≡ (if echoed then missing_of answer else if front then min (missing_of answer) (length request - length answer) else missing_of answer)
hearing_wanted h request answer echoed front is kept begun = sym (ap (λ (h : Hearing). wanted_of h.request h.bytes) is) ∙ kept_wanted request answer echoed front kept begun

pub hearing_fits : (h : Hearing) (request answer : List ℕ) (echoed : Bool) → hearing_of request answer echoed ≡ h → IsKept request answer echoed → length h.bytes + wanted_of h.request h.bytes ≤ length h.request + most_answer
hearing_fits h request answer echoed is kept =
    subst (λ (h : Hearing). length h.bytes + wanted_of h.request h.bytes ≤ length h.request + most_answer) is (kept_fits request answer echoed kept)

module _ (h : Hearing) (request answer more after : List ℕ) where
  few_of : (echoed : Bool) → hearing_of request answer echoed ≡ h → length more ≤ wanted_of h.request h.bytes → length more ≤ wanted_of request (came_by request answer echoed)
  few_of echoed is few = subst (λ (h : Hearing). length more ≤ wanted_of h.request h.bytes) (sym is) few

  pub more_kept : (echoed : Bool) → hearing_of request answer echoed ≡ h → IsKept request answer echoed → length more ≤ wanted_of h.request h.bytes → after ≡ take most_answer (answer ++ more)
      → (echoed ≡ false → after ≡ request → ⊥) → IsKept request after echoed
  more_kept echoed is kept few cut other = kept_more request answer more after echoed kept (few_of echoed is few) cut other

  pub more_came : (echoed : Bool) → hearing_of request answer echoed ≡ h → IsKept request answer echoed → length more ≤ wanted_of h.request h.bytes → after ≡ take most_answer (answer ++ more)
      → hearing_of request after echoed ≡ record h { bytes = h.bytes ++ more }
  more_came echoed is kept few cut =
      ap (λ (xs : List ℕ). record { request = request; bytes = xs }) (came_more request answer more after echoed (all_kept request answer more after echoed kept (few_of echoed is few) cut))
      ∙ ap (λ (h : Hearing). record h { bytes = h.bytes ++ more }) is

  pub echo_came : hearing_of request answer false ≡ h → IsKept request answer false → length more ≤ wanted_of h.request h.bytes → after ≡ take most_answer (answer ++ more) → after ≡ request
      → hearing_of request [] true ≡ record h { bytes = h.bytes ++ more }
  echo_came is kept few cut echo =
      ap (λ (xs : List ℕ). record { request = request; bytes = xs }) (came_echo request answer more after (all_kept request answer more after false kept (few_of false is few) cut) echo)
      ∙ ap (λ (h : Hearing). record h { bytes = h.bytes ++ more }) is
