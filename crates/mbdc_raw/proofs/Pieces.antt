-- What is received, piece by piece.
use Rattle.std.proofs.Common.{◌≡◌, ℕ, ◌-◌, ◌<◌, ◌≤◌, Bool, true, false, not, List, [], ◌∷◌, ◌++◌, length, take, ◌==◌, refl, ap, sym, subst, ◌∙◌, arith, append_assoc, append-nil}
use Rattle.std.specs.List.{All, concat}
use Rattle.std.proofs.lemmas.Bool.{ne_eqb}
use Rattle.std.proofs.lemmas.List.Elements.{All-nil, All-push}
use Rattle.std.proofs.lemmas.Bool.Decides.{nat_tests}
use Rattle.std.proofs.lemmas.List.{length-append, take_all, take-append-le, length-take-le, map-append}
use Rattle.dc_linkframe.specs.declared.needs.Need.{Need}
use Rattle.dc_linkframe.specs.declared.needs.Need.TheVariants.{More, Whole, Bad}
use Rattle.dc_linkframe.specs.Need.{need_of, up_to}
use Rattle.mbdc_bus.specs.Limits.{most_answer}
use Rattle.mbdc_raw.specs.Wire.{Sound, AreHeard, piece, gap, overdue, silence, pieces}
use Rattle.mbdc_raw.specs.Heard.{Answers, Ends, Hearing, HasByte, Lasts, Waits, answer_of, and_bytes, heard_of, front_by, is_over, missing_of, missing_by, is_whole, is_silent, has_gap, is_late, ends_early}

-- ---- the bytes

-- a frame of which no more came than was missing is whole at its last byte
whole_at_last : (whole k : ℕ) (text : List ℕ) → length text ≤ whole → up_to whole text ≡ Whole k → k ≡ length text
whole_at_last whole k text fits e = grind (arith, nat_tests)

pub whole_at : (text further : List ℕ) (n k : ℕ) → need_of text ≡ More n → length further ≤ n → need_of (text ++ further) ≡ Whole k → k ≡ length (text ++ further)
whole_at [] [] n k e fewer w = cc
whole_at [] (b ∷ bs) n k e fewer w = let one : n ≡ 1 = cc in grind (arith, nat_tests)
whole_at (a ∷ []) further n k e fewer w = grind (arith, nat_tests)
whole_at (a ∷ b ∷ []) further n k e fewer w = grind (arith, nat_tests)
whole_at (a ∷ b ∷ c ∷ []) further n k e fewer w = grind (arith, nat_tests)
whole_at (a ∷ b ∷ c ∷ d ∷ rest) further n k e fewer w =
    let len = length-append rest further in grind (arith, nat_tests)

-- what begins no frame begins none with more after it
pub stays_bad : (text further : List ℕ) → need_of text ≡ Bad → need_of (text ++ further) ≡ Bad
stays_bad [] further e = cc
stays_bad (a ∷ []) further e = grind (arith, nat_tests)
stays_bad (a ∷ b ∷ []) further e = grind (arith, nat_tests)
stays_bad (a ∷ b ∷ c ∷ []) further e = grind (arith, nat_tests)
stays_bad (a ∷ b ∷ c ∷ d ∷ rest) further e = grind (arith, nat_tests)

-- with at most the missing bytes, every byte is received
pub exact_more : (bytes more : List ℕ) → 0 < missing_of bytes → length more ≤ missing_of bytes → length (bytes ++ more) ≤ most_answer → heard_of (bytes ++ more) ≡ bytes ++ more
exact_more bytes more some fewer fits = by_need (need_of bytes) refl (need_of (bytes ++ more)) refl
  where
    by_need : (before : Need) → need_of bytes ≡ before → (after : Need) → need_of (bytes ++ more) ≡ after → heard_of (bytes ++ more) ≡ bytes ++ more
    by_need (Whole n) is after so =
        let none : missing_of bytes ≡ 0 = ap (λ (n : Need). missing_by n (most_answer - length bytes)) is in absurd (omega (arith, none, some))
    by_need (More n) is (More k) so = ap (λ (n : Need). front_by n (bytes ++ more)) so ∙ take_all most_answer (bytes ++ more) fits
    by_need (More n) is Bad so = ap (λ (n : Need). front_by n (bytes ++ more)) so ∙ take_all most_answer (bytes ++ more) fits
    by_need (More n) is (Whole k) so =
        let wants : missing_of bytes ≡ missing_by (More n) (most_answer - length bytes) = ap (λ (n : Need). missing_by n (most_answer - length bytes)) is in
        let all : k ≡ length (bytes ++ more) = whole_at bytes more n k is (omega (arith, wants, fewer)) so in
        ap (λ (n : Need). front_by n (bytes ++ more)) so ∙ take_all k (bytes ++ more) (omega (arith, all))
    by_need Bad is (More k) so = ap (λ (n : Need). front_by n (bytes ++ more)) so ∙ take_all most_answer (bytes ++ more) fits
    by_need Bad is Bad so = ap (λ (n : Need). front_by n (bytes ++ more)) so ∙ take_all most_answer (bytes ++ more) fits
    by_need Bad is (Whole k) so = let bad = stays_bad bytes more is in absurd cc

pub is_over_at : (answer : List ℕ) → missing_of answer ≡ 0 → is_over answer ≡ true
is_over_at answer e = ap (λ (n : ℕ). n == 0) e

pub not_over_at : (answer : List ℕ) → 0 < missing_of answer → is_over answer ≡ false
not_over_at answer some = ne_eqb (missing_of answer) 0 (λ e. omega arith)

-- ---- what came on the wire

concat_push : (xs : List (List ℕ)) (burst : List ℕ) → concat (xs ++ burst ∷ []) ≡ concat xs ++ burst
concat_push [] burst = append-nil burst
concat_push (x ∷ xs) burst = ap (λ (ys : List ℕ). x ++ ys) (concat_push xs burst) ∙ sym (append_assoc x (concat xs) burst)

module _ {W : Type 0} (hears : W → Sound → W → Type 0) where
  pub heard-append : (old between new : W) (front back : List Sound) → AreHeard hears old front between → AreHeard hears between back new → AreHeard hears old (front ++ back) new
  heard-append old between new [] back same second = let P : W → Type 0 = λ w. AreHeard hears w back new in subst P same second
  heard-append old between new (sound ∷ front) back first second = (first.0, first.1, heard-append first.0 between new front back first.2 second)

  pub heard_one : (old between new : W) (front : List Sound) (sound : Sound) → AreHeard hears old front between → hears between sound new → AreHeard hears old (front ++ sound ∷ []) new
  heard_one old between new front sound first one = heard-append old between new front (sound ∷ []) first (new, one, refl)

  -- bytes that came in this step, after which more may come
  pub record SoFar (old : W) (before : Hearing) (now : W) (hearing : Hearing) : Type 0 where
    pub bursts : List (List ℕ)
    pub each : All HasByte bursts
    pub gave : AreHeard hears old (pieces bursts) now
    pub kept : hearing ≡ and_bytes before bursts

  pub far_none : (wire : W) (hearing : Hearing) → SoFar wire hearing wire hearing
  far_none wire hearing = record {
    bursts = [];
    each = All-nil HasByte;
    gave = refl;
    kept = ap (λ (xs : List ℕ). record hearing { bytes = xs }) (sym (append-nil hearing.bytes));
  }

  pub far_more : (old now new : W) (before hearing after : Hearing) (given : List ℕ) → SoFar old before now hearing → HasByte given → hears now (piece given) new → after ≡ record hearing { bytes = hearing.bytes ++ given } → SoFar old before new after
  far_more old now new before hearing after given so has gave is = record {
    bursts = so.bursts ++ given ∷ [];
    each = All-push HasByte so.bursts given so.each has;
    gave = subst (λ (xs : List Sound). AreHeard hears old xs new) (sym (map-append piece so.bursts (given ∷ []))) (heard_one old now new (pieces so.bursts) (piece given) so.gave gave);
    kept = is ∙ ap (λ (h : Hearing). record h { bytes = h.bytes ++ given }) so.kept
        ∙ ap (λ (xs : List ℕ). record before { bytes = xs }) (append_assoc before.bytes (concat so.bursts) given ∙ ap (λ (xs : List ℕ). before.bytes ++ xs) (sym (concat_push so.bursts given)));
  }

  -- it ends: over, silent, with a gap, or overdue
  abbrev pub Ended : W → Hearing → List ℕ → W → Hearing → Bool → Type 0
  Ended old before answer new after early = (is : Answers hears old before answer new after) × (early ≡ ends_early is.end)

  far_ends : (old now new : W) (before hearing after : Hearing) (answer : List ℕ) (end : List Sound) (so : SoFar old before now hearing) → answer ≡ answer_of hearing → heard_of answer ≡ answer
      → after ≡ record hearing { bytes = [] } → Ends answer end → AreHeard hears old (pieces so.bursts ++ end) new → Ended old before answer new after (ends_early end)
  far_ends old now new before hearing after answer end so heard exact kept ends gave = (
    record {
      bursts = so.bursts;
      each = so.each;
      end = end;
      gave = gave;
      heard = heard ∙ ap answer_of so.kept;
      exact = exact;
      ends = ends;
      kept = kept ∙ ap (λ (h : Hearing). record h { bytes = [] }) so.kept;
    },
    refl,
  )

  pub far_over : (old new : W) (before hearing after : Hearing) (answer : List ℕ) → SoFar old before new hearing → answer ≡ answer_of hearing → heard_of answer ≡ answer → after ≡ record hearing { bytes = [] }
      → missing_of (answer_of hearing) ≡ 0 → Ended old before answer new after false
  far_over old new before hearing after answer so heard exact kept none =
      far_ends old new new before hearing after answer [] so heard exact kept (is_whole (is_over_at answer (ap missing_of heard ∙ none)))
      (subst (λ (xs : List Sound). AreHeard hears old xs new) (sym (append-nil (pieces so.bursts))) so.gave)

  pub far_silent : (old now new : W) (before hearing after : Hearing) (answer : List ℕ) → SoFar old before now hearing → answer ≡ answer_of hearing → heard_of answer ≡ answer → after ≡ record hearing { bytes = [] }
      → 0 < missing_of (answer_of hearing) → hears now silence new → Ended old before answer new after false
  far_silent old now new before hearing after answer so heard exact kept some gave =
      far_ends old now new before hearing after answer (silence ∷ []) so heard exact kept
      (is_silent (not_over_at answer (subst (λ (xs : List ℕ). 0 < missing_of xs) (sym heard) some)))
      (heard_one old now new (pieces so.bursts) silence so.gave gave)

  pub far_gap : (old now new : W) (before hearing after : Hearing) (answer : List ℕ) → SoFar old before now hearing → answer ≡ answer_of hearing → heard_of answer ≡ answer → after ≡ record hearing { bytes = [] }
      → 0 < missing_of (answer_of hearing) → 0 < length (answer_of hearing) → hears now gap new → Ended old before answer new after false
  far_gap old now new before hearing after answer so heard exact kept some begun gave =
      far_ends old now new before hearing after answer (gap ∷ []) so heard exact kept
      (has_gap (not_over_at answer (subst (λ (xs : List ℕ). 0 < missing_of xs) (sym heard) some)) (subst (λ (xs : List ℕ). 0 < length xs) (sym heard) begun))
      (heard_one old now new (pieces so.bursts) gap so.gave gave)

  pub far_late : (old now new : W) (before hearing after : Hearing) (answer : List ℕ) → SoFar old before now hearing → answer ≡ answer_of hearing → heard_of answer ≡ answer → after ≡ record hearing { bytes = [] }
      → answer_of hearing ≡ [] → hears now overdue new → Ended old before answer new after true
  far_late old now new before hearing after answer so heard exact kept none gave =
      far_ends old now new before hearing after answer (overdue ∷ []) so heard exact kept (is_late (heard ∙ none))
      (heard_one old now new (pieces so.bursts) overdue so.gave gave)

  pub far_waits : (old now new : W) (before hearing : Hearing) (last : Sound) → SoFar old before now hearing → 0 < missing_of (answer_of hearing) → Lasts (answer_of hearing) last → hears now last new → Waits hears old before new hearing
  far_waits old now new before hearing last so some lasts gave = record {
    bursts = so.bursts;
    each = so.each;
    last = last;
    gave = heard_one old now new (pieces so.bursts) last so.gave gave;
    kept = so.kept;
    lasts = lasts;
    unfinished = not_over_at (answer_of hearing) some;
  }

pub no_length : (bytes : List ℕ) → (length bytes == 0) ≡ true → bytes ≡ []
no_length [] e = refl
no_length (byte ∷ bytes) e = let none : (length (byte ∷ bytes) == 0) ≡ false = ne_eqb (length (byte ∷ bytes)) 0 (λ z. omega arith) in absurd cc

pub has_length : (bytes : List ℕ) → (length bytes == 0) ≡ false → 0 < length bytes
has_length [] e = absurd cc
has_length (byte ∷ bytes) e = omega arith

-- ---- what a tape gives

pub front_given : (given room : List ℕ) (count : ℕ) → length given ≡ count → take count (given ++ room) ≡ given
front_given given room count is = take-append-le count given room (omega (arith, is)) ∙ take_all count given (omega (arith, is))

pub first_given : (copied room burst : List ℕ) (count : ℕ) → copied ≡ take count burst → count ≤ length burst → take count (copied ++ room) ≡ take count burst
first_given copied room burst count is fits = front_given copied room count (ap length is ∙ length-take-le count burst fits) ∙ is

pub not_of_true : (b : Bool) → not b ≡ true → b ≡ false
not_of_true true e = absurd cc
not_of_true false e = refl

pub not_false : (b : Bool) → not b ≡ false → b ≡ true
not_false true e = refl
not_false false e = absurd cc
