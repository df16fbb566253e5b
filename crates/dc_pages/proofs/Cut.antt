-- For the crates above: where a sector doesn't fit, no group is complete, and at a place one sector is the first that doesn't.
use Rattle.std.proofs.Common.{◌≡◌, inl, inr, ⊎_elim, ℕ, ◌<◌, ◌≤◌, ◌+◌, ◌*◌, ◌-◌, List, length, drop, arith, ap, sym, subst, ◌∙◌, ◌≢◌, min}
use Rattle.std.proofs.lemmas.Bool.{cases_eq, cases_lt}
use Rattle.std.proofs.lemmas.List.{length-take, length-drop}
use Rattle.dc_sectors.specs.Disk.{Image}
use Rattle.dc_pages.specs.Group.{IsPage, IsCommit, IsComplete, commit_kind, piece}
use Rattle.dc_pages.specs.Reading.{IsCutAt}
use Rattle.dc_pages.proofs.Agree.{page_or_commit, one_content}
use Rattle.dc_pages.specs.declared.site.Site.{Site}

pub length_piece : (i : ℕ) (payload : List ℕ) → length (piece i payload) ≡ min 488 (length payload - 488 * i)
length_piece i payload = length-take 488 (drop (488 * i) payload) ∙ ap (min 488) (length-drop (488 * i) payload)

pub cut_incomplete : (site : Site) (n : ℕ) (image : Image) → site.kind ≢ commit_kind → IsCutAt site n image → IsComplete site image → ⊥
cut_incomplete site n image other cut complete =
    let group = complete.group in
    let fits = group.fits in
    let at = cut.at in
    ⊎_elim
    (λ (lt : complete.pages < cut.i). page_or_commit _ _ _ _ _ _ _ _ other (cut.begun.page complete.pages lt) group.commit)
    (λ (le : cut.i ≤ complete.pages). ⊎_elim
    (λ (e : cut.i ≡ complete.pages). cut.no_commit (omega arith) (some_pages e)
    (subst (λ (j : ℕ). IsCommit site cut.session cut.i (image j)) (sym at)
    (subst (λ (j : ℕ). IsCommit site cut.session j (image (site.first + j))) (sym e)
    (subst (λ (s : ℕ). IsCommit site s complete.pages (image (site.first + complete.pages))) (same_session (some_pages e)) group.commit))))
    (λ (not : cut.i ≡ complete.pages → ⊥). more (strictly le not))
    (cases_eq cut.i complete.pages))
    (cases_lt complete.pages cut.i)
  where
    some_pages : cut.i ≡ complete.pages → 0 < cut.i
    some_pages e = let some = complete.group.some in let all = complete.group.all in omega arith

    strictly : cut.i ≤ complete.pages → (cut.i ≡ complete.pages → ⊥) → cut.i < complete.pages
    strictly le not = ⊎_elim (λ (lt : cut.i < complete.pages). lt) (λ (ge : complete.pages ≤ cut.i). absurd (not (omega arith))) (cases_lt cut.i complete.pages)

    same_session : 0 < cut.i → complete.session ≡ cut.session
    same_session some =
        let small = complete.group.some in
        let all = complete.group.all in
        (one_content _ _ _ _ _ _ _ _ (image (site.first + 0)) (complete.group.page 0 (omega arith)) (cut.begun.page 0 some)).1

    full : cut.i < complete.pages → length cut.payload ≡ 488 * cut.i
    full lt = ⊎_elim
        (λ (none : cut.i ≡ 0). let all = cut.begun.all in omega arith)
        (λ (any : cut.i ≡ 0 → ⊥). whole lt (above any))
        (cases_eq cut.i 0)
      where
        above : (cut.i ≡ 0 → ⊥) → 0 < cut.i
        above any = ⊎_elim (λ (lt : 0 < cut.i). lt) (λ (ge : cut.i ≤ 0). absurd (any (omega arith))) (cases_lt 0 cut.i)

        whole : cut.i < complete.pages → 0 < cut.i → length cut.payload ≡ 488 * cut.i
        whole lt some =
            let last = cut.i - 1 in
            let same : piece last complete.payload ≡ piece last cut.payload = (one_content _ _ _ _ _ _ _ _ (image (site.first + last)) (complete.group.page last (omega arith)) (cut.begun.page last (omega arith))).0 in
            let a = length_piece last complete.payload in
            let b = length_piece last cut.payload in
            let long = ap length same in
            let small = complete.group.some in
            let all = cut.begun.all in
            omega arith

    more : cut.i < complete.pages → ⊥
    more lt =
        let fits = complete.group.fits in
        let at = cut.at in
        let small = complete.group.some in
        let a = length_piece cut.i complete.payload in
        cut.no_page (omega arith) (full lt) complete.session (piece cut.i complete.payload)
        (⊎_elim (λ (none : cut.i ≡ 0). inl none) (λ (any : cut.i ≡ 0 → ⊥). inr (same_session (above any))) (cases_eq cut.i 0))
        (omega arith) (omega arith)
        (subst (λ (j : ℕ). IsPage site complete.session cut.i (piece cut.i complete.payload) (image j)) (sym at) (complete.group.page cut.i lt))
      where
        above : (cut.i ≡ 0 → ⊥) → 0 < cut.i
        above any = ⊎_elim (λ (lt : 0 < cut.i). lt) (λ (ge : cut.i ≤ 0). absurd (any (omega arith))) (cases_lt 0 cut.i)

-- where a group is cut off, another that begins at the same place has no page
not_before : (site : Site) (n n' : ℕ) (image : Image) (a : IsCutAt site n image) (b : IsCutAt site n' image) → a.i < b.i → ⊥
not_before site n n' image a b lt =
    let at = a.at in
    let fits = b.begun.fits in
    let behind = long in
    let size = length_piece a.i b.payload in
    a.no_page (omega arith) full b.session (piece a.i b.payload)
    (⊎_elim (λ (none : a.i ≡ 0). inl none) (λ (any : a.i ≡ 0 → ⊥). inr (same_session (above any))) (cases_eq a.i 0))
    (omega arith) (omega arith)
    (subst (λ (j : ℕ). IsPage site b.session a.i (piece a.i b.payload) (image j)) (sym at) (b.begun.page a.i lt))
  where
    above : (a.i ≡ 0 → ⊥) → 0 < a.i
    above any = ⊎_elim (λ (some : 0 < a.i). some) (λ (ge : a.i ≤ 0). absurd (any (omega arith))) (cases_lt 0 a.i)

    long : 488 * a.i < length b.payload
    long = ⊎_elim (λ (none : b.i ≡ 0). absurd (omega arith)) (λ (some : 488 * (b.i - 1) < length b.payload). omega arith) b.begun.some

    same_session : 0 < a.i → b.session ≡ a.session
    same_session some = (one_content _ _ _ _ _ _ _ _ (image (site.first + 0)) (b.begun.page 0 (omega arith)) (a.begun.page 0 some)).1

    full : length a.payload ≡ 488 * a.i
    full = ⊎_elim (λ (none : a.i ≡ 0). let all = a.begun.all in omega arith) (λ (any : a.i ≡ 0 → ⊥). whole (above any)) (cases_eq a.i 0)
      where
        whole : 0 < a.i → length a.payload ≡ 488 * a.i
        whole some =
            let last = a.i - 1 in
            let same : piece last b.payload ≡ piece last a.payload = (one_content _ _ _ _ _ _ _ _ (image (site.first + last)) (b.begun.page last (omega arith)) (a.begun.page last (omega arith))).0 in
            let there = length_piece last b.payload in
            let here = length_piece last a.payload in
            let sizes = ap length same in
            let behind = long in
            let all = a.begun.all in
            omega arith

-- at a place one sector is the first that doesn't fit
pub one_cut : (site : Site) (n n' : ℕ) (image : Image) → site.kind ≢ commit_kind → IsCutAt site n image → IsCutAt site n' image → n ≡ n'
one_cut site n n' image other a b =
    let at = a.at in
    let at' = b.at in
    ⊎_elim
    (λ (lt : a.i < b.i). absurd (not_before site n n' image a b lt))
    (λ (le : b.i ≤ a.i). ⊎_elim
    (λ (lt : b.i < a.i). absurd (not_before site n' n image b a lt))
    (λ (ge : a.i ≤ b.i). omega arith)
    (cases_lt b.i a.i))
    (cases_lt a.i b.i)
