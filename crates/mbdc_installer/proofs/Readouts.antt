-- A readout, exchange by exchange.
use Rattle.std.proofs.Common.{◌≡◌, ℕ, ◌<◌, Bool, true, false, List, [], ◌∷◌, ◌++◌, Option, None, Some, refl, sym, ap, ◌∙◌, subst, append-nil, append_assoc, arith}
use Rattle.std.specs.Prelude.{option_map, ◌||◌, if◌then◌else◌}
use Rattle.dc_linkframe.specs.Frame.{spelling}
use Rattle.dc_readout.specs.Summary.{Summary, asked_by, verdict_by}
use Rattle.dc_readout.specs.Bound.{requests_left}
use Rattle.dc_readout.specs.Misses.{and_missed, misses_of}
use Rattle.dc_readout.specs.declared.misses.misses.Misses.{Misses}
use Rattle.dc_readout.proofs.Counting.{are_counted}
use Rattle.mbdc_io.specs.Stream.{Puts, PutsFront}
use Rattle.mbdc_io.proofs.Pieces.{puts-both, puts-none, puts_front-first, puts_front-second}
use Rattle.mbdc_installer.proofs.Failures.{over_after}
use Rattle.mbdc_installer.specs.Read.{IsReadOn, Reads, Tells, TellsFrom, after, and_heard, has_failed, is_failure, is_miss, missed_in, printed}
use Rattle.mbdc_installer.specs.declared.reading.Readout.{Readout}
use Rattle.mbdc_installer.specs.declared.reading.Readout.TheVariants.{Whole, Failed}

-- ---- what is told of it

-- what a failed try brought is counted
counted_if : (b : Bool) (answer : List ℕ) (before : List (List ℕ)) (misses : Misses) → misses ≡ misses_of before
    → (if b then and_missed answer misses else misses) ≡ misses_of (before ++ (if b then answer ∷ [] else []))
counted_if true answer before misses is = ap (and_missed answer) is ∙ are_counted before answer
counted_if false answer before misses is = is ∙ ap misses_of (sym (append-nil before))

-- after the first exchange
tells_later : (misses : Misses) (readout : Readout) (session : Summary) (answer : List ℕ) (missed : List (List ℕ)) (is_failed : Bool)
    → is_failure (verdict_by session answer) ≡ false
    → TellsFrom (and_heard (verdict_by session answer) answer misses) readout missed is_failed
    → TellsFrom misses readout ((if is_miss (verdict_by session answer) then answer ∷ [] else []) ++ missed) (is_failure (verdict_by session answer) || is_failed)
tells_later misses readout session answer missed is_failed goes_on told before is =
    let one = counted_if (is_miss (verdict_by session answer)) answer before misses is in
    let both = append_assoc before (if is_miss (verdict_by session answer) then answer ∷ [] else []) missed in
    let P : List (List ℕ) → Type 0 = λ all. Tells readout all (is_failure (verdict_by session answer) || is_failed) in
    let Q : Bool → Type 0 = λ b. Tells readout ((before ++ (if is_miss (verdict_by session answer) then answer ∷ [] else [])) ++ missed) (b || is_failed) in
    subst P both (subst Q (sym goes_on) (told (before ++ (if is_miss (verdict_by session answer) then answer ∷ [] else [])) one))

-- the last one
tells_last : (misses : Misses) (session : Summary) (answer : List ℕ) → is_failure (verdict_by session answer) ≡ true
    → TellsFrom misses (Failed (and_heard (verdict_by session answer) answer misses))
    ((if is_miss (verdict_by session answer) then answer ∷ [] else []) ++ []) (is_failure (verdict_by session answer) || false)
tells_last misses session answer fails before is =
    let one = counted_if (is_miss (verdict_by session answer)) answer before misses is in
    let none = append-nil (if is_miss (verdict_by session answer) then answer ∷ [] else []) in
    let P : Bool → Type 0 = λ b. (b || false) ≡ true in
    (subst P (sym fails) refl, one ∙ ap (λ (xs : List (List ℕ)). misses_of (before ++ xs)) (sym none))

module _ {B : Type 0} (asks : B → List ℕ → List ℕ → B → Type 0) where
  -- nothing is asked
  pub reads_none : (bus : B) (session : Summary) (held : Option (List ℕ)) → Reads asks bus bus session (Puts held held)
  reads_none bus session held = record { exchanges = []; happened = refl; text = []; last = session; are_read = (refl, refl); printed_it = puts-none held }

  pub ends_at_once : (bus : B) (session : Summary) (misses : Misses) (held : Option (List ℕ)) → asked_by session ≡ None
      → IsReadOn asks bus bus session (Puts held held) (TellsFrom misses Whole)
  unfolding reads_none
  ends_at_once bus session misses held ends = record { reads = reads_none bus session held; ended = ends; few = omega arith; told = λ before is. refl }

  -- one exchange
  one : (old new : B) (session : Summary) (request answer : List ℕ) (wrote : List ℕ → Type 0) → asks old request answer new
      → option_map spelling (asked_by session) ≡ Some request → wrote (printed (verdict_by session answer) answer ++ [])
      → Reads asks old new session wrote
  one old new session request answer wrote asked is text = record {
    exchanges = record { request = request; answer = answer } ∷ [];
    happened = (new, asked, refl);
    text = printed (verdict_by session answer) answer ++ [];
    last = after session answer;
    are_read = (is, [], refl, (refl, refl));
    printed_it = text;
  }

  pub fails : (old new : B) (session next : Summary) (misses counts : Misses) (request answer : List ℕ) (held now : Option (List ℕ)) → asks old request answer new
      → option_map spelling (asked_by session) ≡ Some request → Puts held now (printed (verdict_by session answer) answer)
      → is_failure (verdict_by session answer) ≡ true → counts ≡ and_heard (verdict_by session answer) answer misses
      → requests_left next < requests_left session → IsReadOn asks old new session (Puts held now) (TellsFrom misses (Failed counts))
  unfolding one
  fails old new session next misses counts request answer held now asked is text fails_so counted less = record {
    reads = one old new session request answer (Puts held now) asked is (puts-both held now now (printed (verdict_by session answer) answer) [] text (puts-none now));
    ended = over_after session answer fails_so;
    few = omega (arith, less);
    told = subst (λ (m : Misses). TellsFrom misses (Failed m) (missed_in session (record { request = request; answer = answer } ∷ []))
        (has_failed session (record { request = request; answer = answer } ∷ []))) (sym counted) (tells_last misses session answer fails_so);
  }

  pub is_cut_off : (old new : B) (session : Summary) (request answer : List ℕ) (held now : Option (List ℕ)) → asks old request answer new
      → option_map spelling (asked_by session) ≡ Some request → PutsFront held now (printed (verdict_by session answer) answer)
      → Reads asks old new session (PutsFront held now)
  is_cut_off old new session request answer held now asked is front = one old new session request answer (PutsFront held now) asked is (puts_front-first [] front)

  -- one exchange, and then others
  then_reads : (old mid new : B) (session : Summary) (request answer : List ℕ) (later wrote : List ℕ → Type 0) → asks old request answer mid
      → option_map spelling (asked_by session) ≡ Some request
      → (more : Reads asks mid new (after session answer) later)
      → wrote (printed (verdict_by session answer) answer ++ more.text)
      → Reads asks old new session wrote
  then_reads old mid new session request answer later wrote asked is more text = record {
    exchanges = record { request = request; answer = answer } ∷ more.exchanges;
    happened = (mid, asked, more.happened);
    text = printed (verdict_by session answer) answer ++ more.text;
    last = more.last;
    are_read = (is, more.text, refl, more.are_read);
    printed_it = text;
  }

  pub goes_on : (readout : Readout) (old mid new : B) (session next : Summary) (misses counts : Misses) (request answer : List ℕ) (held between now : Option (List ℕ))
      → requests_left next < requests_left session
      → asks old request answer mid → option_map spelling (asked_by session) ≡ Some request
      → next ≡ after session answer → is_failure (verdict_by session answer) ≡ false → counts ≡ and_heard (verdict_by session answer) answer misses
      → Puts held between (printed (verdict_by session answer) answer)
      → IsReadOn asks mid new next (Puts between now) (TellsFrom counts readout) → IsReadOn asks old new session (Puts held now) (TellsFrom misses readout)
  unfolding then_reads
  goes_on readout old mid new session next misses counts request answer held between now less asked is follows unfailed counted text more =
      let P : Summary → Type 0 = λ s. IsReadOn asks mid new s (Puts between now) (TellsFrom counts readout) in
      let Q : Misses → Type 0 = λ m. IsReadOn asks mid new (after session answer) (Puts between now) (TellsFrom m readout) in
      let rest = subst Q counted (subst P follows more) in
      let few = rest.few in
      let fewer = subst (λ (s : Summary). requests_left s < requests_left session) follows less in
      record {
        reads = then_reads old mid new session request answer (Puts between now) (Puts held now) asked is rest.reads
            (puts-both held between now (printed (verdict_by session answer) answer) rest.reads.text text rest.reads.printed_it);
        ended = rest.ended;
        few = omega (arith, few, fewer);
        told = tells_later misses readout session answer (missed_in (after session answer) rest.reads.exchanges)
            (has_failed (after session answer) rest.reads.exchanges) unfailed rest.told;
      }

  pub is_cut_off_later : (old mid new : B) (session next : Summary) (request answer : List ℕ) (held between now : Option (List ℕ))
      → asks old request answer mid → option_map spelling (asked_by session) ≡ Some request
      → next ≡ after session answer → Puts held between (printed (verdict_by session answer) answer)
      → Reads asks mid new next (PutsFront between now) → Reads asks old new session (PutsFront held now)
  is_cut_off_later old mid new session next request answer held between now asked is follows text more =
      let P : Summary → Type 0 = λ s. Reads asks mid new s (PutsFront between now) in
      let rest = subst P follows more in
      then_reads old mid new session request answer (PutsFront between now) (PutsFront held now) asked is rest
      (puts_front-second (printed (verdict_by session answer) answer) text rest.printed_it)

  -- a readout from its beginning: no try has failed before
  pub from_none : (old new : B) (session first : Summary) (misses : Misses) (readout : Readout) (wrote : List ℕ → Type 0) → session ≡ first → misses ≡ misses_of []
      → IsReadOn asks old new session wrote (TellsFrom misses readout) → IsReadOn asks old new first wrote (Tells readout)
  from_none old new session first misses readout wrote same none read =
      let P : Summary → Type 0 = λ s. IsReadOn asks old new s wrote (Tells readout) in
      subst P same (record { reads = read.reads; ended = read.ended; few = read.few; told = read.told [] none })
