-- What the calls of a file over another say, beside those of the inner file.
use Rattle.std.proofs.Common.{◌≡◌, ◌≤◌, ◌⊎◌, ⊎_elim, ℕ, Bool, true, false, ◌&&◌, ◌==◌, if◌then◌else◌, List, [], ◌∷◌, ◌++◌, length, refl, sym, ◌∙◌, ap, subst, arith, inl, inr, length-append}
use Rattle.std.specs.Prelude.{◌/◌, Contains, None}
use Rattle.std.proofs.lemmas.Bool.{false≢true}
use Rattle.std.proofs.lemmas.List.Elements.{Contains-append_left, Contains-append_right, Contains-append_cases}
use Rattle.dc_sectors.specs.declared.sector.Sector.TheVariants.{Bytes, Unreadable}
use Rattle.dc_sectors.specs.declared.event.Event.{Event}
use Rattle.dc_sectors.specs.declared.event.Event.TheVariants.{Write, Sync}
use Rattle.dc_sectors.specs.Disk.{Image, Choices, IsImage, settled, added, Elapses}
use Rattle.dc_sectors.specs.Images.{Within, image_within, within_added, settled_within}
use Rattle.dc_sectors.specs.Record.{reads_next, choices_next, reads_after, choices_after, ImageSince, reads_from-push, choices_from-push, elapses_push, reads_a_choice, counts_now, only_now}
use Rattle.dc_sectors.specs.FileCalls.{Call, Measured, Got, Put, Synced}
use Rattle.dc_sectors.specs.File.{is_all, noted, events_of, AnswersAs, KeepsRule}
use Rattle.dc_sectors.specs.Over.{Step, Passes, Fails, Looks, Refuses, Tries, Answers, is_durable, asked, told}

-- what is read

module _ (start : Image) where
  abbrev reads : List Event → Image
  reads events = reads_after start events

  abbrev choices : List Event → Choices
  choices events = choices_after start events

  reads_pushed : (a b : List Event) (e : Event) → reads a ≡ reads b → reads (a ++ e ∷ []) ≡ reads (b ++ e ∷ [])
  reads_pushed a b e same = reads_from-push start a e ∙ ap (λ (i : Image). reads_next i e) same ∙ sym (reads_from-push start b e)

  reads_noted : (a b : List Event) (call : Call) → reads a ≡ reads b → reads (noted a call) ≡ reads (noted b call)
  reads_noted a b (Measured n) same = same
  reads_noted a b (Got at n came) same = same
  reads_noted a b (Put at bytes taken) same = reads_pushed a b (Write (at / 512) bytes (is_all taken)) same
  reads_noted a b (Synced true) same = reads_pushed a b Sync same
  reads_noted a b (Synced false) same = same

  reads_synced : (a : List Event) (done : Bool) → reads (noted a (Synced done)) ≡ reads a
  reads_synced a true = reads_from-push start a Sync
  reads_synced a false = refl

  reads_refused : (a : List Event) (at : ℕ) (bytes : List ℕ) → reads (noted a (Put at bytes None)) ≡ reads a
  reads_refused a at bytes = reads_from-push start a (Write (at / 512) bytes false)

  pub reads_same : (steps : List Step) → reads (events_of (asked steps)) ≡ reads (events_of (told steps))
  reads_same [] = refl
  reads_same (Passes call ∷ steps) = reads_noted (events_of (asked steps)) (events_of (told steps)) call (reads_same steps)
  reads_same (Fails at n ∷ steps) = reads_same steps
  reads_same (Looks at n got ∷ steps) = reads_same steps
  reads_same (Refuses at bytes ∷ steps) = reads_same steps ∙ sym (reads_refused (events_of (told steps)) at bytes)
  reads_same (Tries done ∷ steps) = reads_synced (events_of (asked steps)) done ∙ reads_same steps
  reads_same (Answers done ∷ steps) = reads_same steps ∙ sym (reads_synced (events_of (told steps)) (done && is_durable steps))

  -- The rule is kept.

  pub kept : (steps : List Step) → KeepsRule start (asked steps) → KeepsRule start (told steps)
  kept [] keeps = tt
  kept (Passes call ∷ steps) keeps = (kept steps keeps.0, subst (λ (i : Image). AnswersAs i call) (reads_same steps) keeps.1)
  kept (Fails at n ∷ steps) keeps = (kept steps keeps.0, tt)
  kept (Looks at n got ∷ steps) keeps = kept steps keeps.0
  kept (Refuses at bytes ∷ steps) keeps = (kept steps keeps, tt)
  kept (Tries done ∷ steps) keeps = kept steps keeps.0
  kept (Answers done ∷ steps) keeps = (kept steps keeps, tt)

  -- Each possible content of a sector by the inner file's calls is one by the outer file's.

  within_both : (c d : Choices) (n : ℕ) (bytes : List ℕ) → Within c d → Within (added c n bytes) (added d n bytes)
  within_both c d n bytes within m s =
      let two = Bytes bytes ∷ Unreadable ∷ [] in
      elim (m == n) as (λ here. Contains (if here then c m ++ two else c m) s → Contains (if here then d m ++ two else d m) s) [
        | true ↦ λ is. ⊎_elim (λ old. Contains-append_left (d m) two s (within m s old)) (λ new. Contains-append_right (d m) two s new) (Contains-append_cases (c m) two s is)
        | false ↦ within m s
      ]

  within_pushed : (a b : List Event) (e : Event) → reads a ≡ reads b → Within (choices a) (choices b) → Within (choices (a ++ e ∷ [])) (choices (b ++ e ∷ []))
  within_pushed a b e same within =
      subst (λ (c : Choices). Within c (choices (b ++ e ∷ []))) (sym (choices_from-push start (settled start) a e))
      (subst (λ (d : Choices). Within (choices_next (reads a) (choices a) e) d) (sym (choices_from-push start (settled start) b e)) (next e))
    where
      next : (e : Event) → Within (choices_next (reads a) (choices a) e) (choices_next (reads b) (choices b) e)
      next (Write at bytes done) = within_both (choices a) (choices b) at bytes within
      next Sync = subst (λ (i : Image). Within (settled (reads a)) (settled i)) same (λ m s is. is)

  within_noted : (a b : List Event) (call : Call) → reads a ≡ reads b → Within (choices a) (choices b) → Within (choices (noted a call)) (choices (noted b call))
  within_noted a b (Measured n) same within = within
  within_noted a b (Got at n came) same within = within
  within_noted a b (Put at bytes taken) same within = within_pushed a b (Write (at / 512) bytes (is_all taken)) same within
  within_noted a b (Synced true) same within = within_pushed a b Sync same within
  within_noted a b (Synced false) same within = within

  within_refused : (c : Choices) (b : List Event) (at : ℕ) (bytes : List ℕ) → Within c (choices b) → Within c (choices (noted b (Put at bytes None)))
  within_refused c b at bytes within =
      subst (λ (d : Choices). Within c d) (sym (choices_from-push start (settled start) b (Write (at / 512) bytes false)))
      (λ m s is. within_added (choices b) (at / 512) bytes m s (within m s is))

  within_tried : (a b : List Event) (done : Bool) → reads a ≡ reads b → Within (choices a) (choices b) → Within (choices (noted a (Synced done))) (choices b)
  within_tried a b false same within = within
  within_tried a b true same within =
      subst (λ (c : Choices). Within c (choices b)) (sym (choices_from-push start (settled start) a Sync))
      (subst (λ (i : Image). Within (settled i) (choices b)) (sym same) (settled_within (choices b) (reads b) (reads_a_choice start b)))

  -- after a sync and looks one content is possible of each sector
  durable : (steps : List Step) → is_durable steps ≡ true → choices (events_of (asked steps)) ≡ settled (reads (events_of (asked steps)))
  durable [] is = absurd (false≢true is)
  durable (Passes call ∷ steps) is = absurd (false≢true is)
  durable (Fails at n ∷ steps) is = absurd (false≢true is)
  durable (Looks at n got ∷ steps) is = durable steps is
  durable (Refuses at bytes ∷ steps) is = absurd (false≢true is)
  durable (Tries true ∷ steps) is =
      let before = events_of (asked steps) in
      choices_from-push start (settled start) before Sync ∙ ap settled (sym (reads_from-push start before Sync))
  durable (Tries false ∷ steps) is = absurd (false≢true is)
  durable (Answers done ∷ steps) is = absurd (false≢true is)

  within_answered : (c : Choices) (i : Image) (b : List Event) (done settles : Bool) → (settles ≡ true → c ≡ settled i) → i ≡ reads b → Within c (choices b) → Within c (choices (noted b (Synced (done && settles))))
  within_answered c i b false settles is same within = within
  within_answered c i b true false is same within = within
  within_answered c i b true true is same within =
      subst (λ (d : Choices). Within c d) (sym (choices_from-push start (settled start) b Sync))
      (subst (λ (d : Choices). Within c d) (is refl ∙ ap settled same) (λ m s here. here))

  pub choices_within : (steps : List Step) → Within (choices (events_of (asked steps))) (choices (events_of (told steps)))
  choices_within [] = λ m s is. is
  choices_within (Passes call ∷ steps) = within_noted (events_of (asked steps)) (events_of (told steps)) call (reads_same steps) (choices_within steps)
  choices_within (Fails at n ∷ steps) = choices_within steps
  choices_within (Looks at n got ∷ steps) = choices_within steps
  choices_within (Refuses at bytes ∷ steps) = within_refused (choices (events_of (asked steps))) (events_of (told steps)) at bytes (choices_within steps)
  choices_within (Tries done ∷ steps) = within_tried (events_of (asked steps)) (events_of (told steps)) done (reads_same steps) (choices_within steps)
  choices_within (Answers done ∷ steps) =
      within_answered (choices (events_of (asked steps))) (reads (events_of (asked steps))) (events_of (told steps)) done (is_durable steps) (durable steps) (reads_same steps) (choices_within steps)

  -- the images since a moment, one event more

  abbrev Grows : List Event → List Event → Type 0
  Grows a b = (b ≡ a) ⊎ ((e : Event) × (b ≡ a ++ e ∷ []))

  grows_noted : (a : List Event) (call : Call) → Grows a (noted a call)
  grows_noted a (Measured n) = inl refl
  grows_noted a (Got at n came) = inl refl
  grows_noted a (Put at bytes taken) = inr (Write (at / 512) bytes (is_all taken), refl)
  grows_noted a (Synced true) = inr (Sync, refl)
  grows_noted a (Synced false) = inl refl

  grows_asked : (step : Step) (steps : List Step) → Grows (events_of (asked steps)) (events_of (asked (step ∷ steps)))
  grows_asked (Passes call) steps = grows_noted (events_of (asked steps)) call
  grows_asked (Fails at n) steps = inl refl
  grows_asked (Looks at n got) steps = inl refl
  grows_asked (Refuses at bytes) steps = inl refl
  grows_asked (Tries done) steps = grows_noted (events_of (asked steps)) (Synced done)
  grows_asked (Answers done) steps = inl refl

  grows_told : (step : Step) (steps : List Step) → Grows (events_of (told steps)) (events_of (told (step ∷ steps)))
  grows_told (Passes call) steps = grows_noted (events_of (told steps)) call
  grows_told (Fails at n) steps = inl refl
  grows_told (Looks at n got) steps = inl refl
  grows_told (Refuses at bytes) steps = grows_noted (events_of (told steps)) (Put at bytes None)
  grows_told (Tries done) steps = inl refl
  grows_told (Answers done) steps = grows_noted (events_of (told steps)) (Synced (done && is_durable steps))

  longer : (a b : List Event) → Grows a b → length a ≤ length b
  longer a b (inl same) = omega (arith, ap length same)
  longer a b (inr (e, same)) = omega (arith, ap length same, length-append a (e ∷ []))

  push : (a : List Event) (e : Event) → Elapses (length a) (length (a ++ e ∷ [])) (ImageSince start a) (ImageSince start (a ++ e ∷ [])) (IsImage (choices (a ++ e ∷ [])))
  push a e = elapses_push start a e (IsImage (choices (a ++ e ∷ []))) (λ image is. subst (λ (c : Choices). IsImage c image) (sym (choices_from-push start (settled start) a e)) is)

  back : (a b : List Event) (t : ℕ) (image : Image) → Grows a b → t ≤ length a → ImageSince start b t image → ImageSince start a t image ⊎ IsImage (choices b) image
  back a b t image (inl same) le since = inl (subst (λ (l : List Event). ImageSince start l t image) same since)
  back a b t image (inr (e, same)) le since =
      subst (λ (l : List Event). ImageSince start a t image ⊎ IsImage (choices l) image) (sym same)
      ((push a e).nothing_else t image le (subst (λ (l : List Event). ImageSince start l t image) same since))

  onwards : (a b : List Event) (t : ℕ) (image : Image) → Grows a b → t ≤ length a → ImageSince start a t image → ImageSince start b t image
  onwards a b t image (inl same) le since = subst (λ (l : List Event). ImageSince start l t image) (sym same) since
  onwards a b t image (inr (e, same)) le since = subst (λ (l : List Event). ImageSince start l t image) (sym same) ((push a e).keeps t image le since)

  module _ (before : List Step) where
    asked_longer : (later : List Step) → length (events_of (asked before)) ≤ length (events_of (asked (later ++ before)))
    asked_longer [] = omega arith
    asked_longer (step ∷ later) =
        omega (arith, asked_longer later, longer (events_of (asked (later ++ before))) (events_of (asked (step ∷ later ++ before))) (grows_asked step (later ++ before)))

    told_longer : (later : List Step) → length (events_of (told before)) ≤ length (events_of (told (later ++ before)))
    told_longer [] = omega arith
    told_longer (step ∷ later) =
        omega (arith, told_longer later, longer (events_of (told (later ++ before))) (events_of (told (step ∷ later ++ before))) (grows_told step (later ++ before)))

    here : (later : List Step) (image : Image) → IsImage (choices (events_of (asked (later ++ before)))) image
        → ImageSince start (events_of (told (later ++ before))) (length (events_of (told before))) image
    here later image is =
        let steps = later ++ before in
        counts_now start (events_of (told steps)) (length (events_of (told before))) image (told_longer later)
        (image_within (choices (events_of (asked steps))) (choices (events_of (told steps))) (choices_within steps) image is)

    pub left : (later : List Step) (image : Image)
        → ImageSince start (events_of (asked (later ++ before))) (length (events_of (asked before))) image
        → ImageSince start (events_of (told (later ++ before))) (length (events_of (told before))) image
    left [] image since = here [] image (only_now start (events_of (asked before)) image since)
    left (step ∷ later) image since =
        let steps = later ++ before in
        ⊎_elim
        (λ was. onwards (events_of (told steps)) (events_of (told (step ∷ steps))) (length (events_of (told before))) image (grows_told step steps) (told_longer later) (left later image was))
        (λ is. here (step ∷ later) image is)
        (back (events_of (asked steps)) (events_of (asked (step ∷ steps))) (length (events_of (asked before))) image (grows_asked step steps) (asked_longer later) since)
