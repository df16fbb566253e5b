-- For the crates above: images that agree have the same groups, and a place has one group of a kind.
use Rattle.std.proofs.Common.{◌≡◌, ⊎_elim, ℕ, zero, suc, ◌<◌, ◌≤◌, ◌+◌, ◌*◌, List, ◌++◌, length, take, drop, slice_index, arith, ap, sym, subst, ◌∙◌, ◌≢◌}
use Rattle.std.proofs.lemmas.Bool.{cases_lt}
use Rattle.std.proofs.lemmas.List.{take-append-drop, drop-drop, length-drop, nil_from_length}
use Rattle.dc_sectors.specs.declared.sector.Sector.{Sector}
use Rattle.dc_sectors.specs.declared.sector.Sector.TheVariants.{Bytes, Unreadable}
use Rattle.dc_sectors.specs.Disk.{Image}
use Rattle.dc_pages.specs.Group.{IsPage, IsCommit, IsGroup, IsComplete, commit_kind, piece}
use Rattle.dc_sectors.specs.Fields.{field}
use Rattle.dc_sectors.proofs.Texts.{one_text}
use Rattle.dc_pages.specs.declared.site.Site.{Site}

-- what agrees up to its end has the same group
pub same_group : (site : Site) (session : ℕ) (payload : List ℕ) (pages : ℕ) (a b : Image)
    → ((m : ℕ) → site.first ≤ m → m ≤ site.first + pages → a m ≡ b m)
    → IsGroup site session payload pages a → IsGroup site session payload pages b
same_group site session payload pages a b same is = record {
  some = is.some;
  all = is.all;
  fits = is.fits;
  page = λ i lt. subst (IsPage site session i (piece i payload)) (same (site.first + i) (omega arith) (omega arith)) (is.page i lt);
  commit = subst (IsCommit site session pages) (same (site.first + pages) (omega arith) (omega arith)) is.commit;
}

-- what agrees up to the half's end has the same complete group
pub same_complete : (site : Site) (a b : Image) → ((m : ℕ) → site.first ≤ m → m < site.limit → a m ≡ b m) → IsComplete site a → IsComplete site b
same_complete site a b same is =
    let fits = is.group.fits in
    record {
      session = is.session;
      payload = is.payload;
      pages = is.pages;
      group = same_group site is.session is.payload is.pages a b (λ m le up. same m le (omega arith)) is.group;
    }

pub not_lost : (sector : Sector) (a : List ℕ) → sector ≡ Bytes a → sector ≡ Unreadable → ⊥
not_lost sector a left right = cc

pub page_or_commit : (a b : Site) (session index session' pages : ℕ) (content : List ℕ) (sector : Sector)
    → a.kind ≢ commit_kind → IsPage a session index content sector → IsCommit b session' pages sector → ⊥
page_or_commit a b session index session' pages content sector other page commit =
    let same = one_text sector page.bytes commit.bytes page.readable commit.readable in
    let at_page = page.head.kind_is in
    let at_commit = commit.head.kind_is in
    other (sym at_page ∙ ap (λ (bytes : List ℕ). slice_index bytes 0) same ∙ at_commit)

pub one_content : (a b : Site) (session index session' index' : ℕ) (content content' : List ℕ) (sector : Sector)
    → IsPage a session index content sector → IsPage b session' index' content' sector → (content ≡ content') × (session ≡ session')
one_content a b session index session' index' content content' sector page other =
    let same = one_text sector page.bytes other.bytes page.readable other.readable in
    let long : length content ≡ length content' = sym page.head.used_is ∙ ap (λ (bytes : List ℕ). field 2 2 bytes) same ∙ other.head.used_is in
    let text : take (length content) (drop 24 page.bytes) ≡ take (length content') (drop 24 other.bytes) = cc in (
      sym page.content_is ∙ text ∙ other.content_is,
      sym page.head.session_is ∙ ap (λ (bytes : List ℕ). field 8 8 bytes) same ∙ other.head.session_is,
    )

pub one_count : (a b : Site) (session session' : ℕ) (payload payload' : List ℕ) (pages pages' : ℕ) (image : Image) → b.kind ≢ commit_kind → a.first ≡ b.first
    → IsGroup a session payload pages image → IsGroup b session' payload' pages' image → pages' ≤ pages
one_count a b session session' payload payload' pages pages' image other same one two =
    ⊎_elim
    (λ (lt : pages < pages'). absurd (page_or_commit b a _ _ _ _ _ _ other (two.page pages lt) (subst (λ (n : ℕ). IsCommit a session pages (image (n + pages))) same one.commit)))
    (λ le. le) (cases_lt pages pages')

pub pieces_same : (n : ℕ) (a b : List ℕ) → length a ≤ 488 * n → length b ≤ 488 * n → ((i : ℕ) → i < n → piece i a ≡ piece i b) → a ≡ b
pieces_same zero a b up up' same = nil_from_length a (omega arith) ∙ sym (nil_from_length b (omega arith))
pieces_same (suc n) a b up up' same =
    let shift : (i : ℕ) (l : List ℕ) → piece i (drop 488 l) ≡ piece (suc i) l = λ i l. ap (take 488) (drop-drop (488 * i) 488 l ∙ ap (λ (k : ℕ). drop k l) (omega arith)) in
    let rest : drop 488 a ≡ drop 488 b = pieces_same n (drop 488 a) (drop 488 b) (omega (arith, length-drop 488 a)) (omega (arith, length-drop 488 b))
    (λ i lt. shift i a ∙ same (suc i) (omega arith) ∙ sym (shift i b)) in
    let first : take 488 a ≡ take 488 b = same 0 (omega arith) in
    sym (take-append-drop 488 a) ∙ ap (λ (l : List ℕ). l ++ drop 488 a) first ∙ ap (λ (l : List ℕ). take 488 b ++ l) rest ∙ take-append-drop 488 b

-- a group at a place has one payload, one number of pages and one session
pub one_group : (a b : Site) (session session' : ℕ) (payload payload' : List ℕ) (pages pages' : ℕ) (image : Image) → a.kind ≢ commit_kind → a.kind ≡ b.kind → a.first ≡ b.first
    → IsGroup a session payload pages image → IsGroup b session' payload' pages' image
    → (payload ≡ payload') × (pages ≡ pages') × (session ≡ session')
one_group a b session session' payload payload' pages pages' image other same_kind same_first one two =
    let le = one_count a b _ _ _ _ _ _ image (subst (λ (k : ℕ). k ≢ commit_kind) same_kind other) same_first one two in
    let ge = one_count b a _ _ _ _ _ _ image other (sym same_first) two one in
    let count : pages ≡ pages' = omega arith in
    let some = one.some in
    let up = one.all in
    let up' = two.all in (
      pieces_same pages payload payload' up (omega arith) (λ i lt. (one_content a b _ _ _ _ _ _ _ (one.page i lt) (moved i (omega arith))).0),
      count,
      (one_content a b _ _ _ _ _ _ _ (one.page 0 (omega arith)) (moved 0 (omega arith))).1,
    )
  where
    -- the other's pages, by the first's numbers
    moved : (i : ℕ) → i < pages' → IsPage b session' i (piece i payload') (image (a.first + i))
    moved i lt = subst (λ (n : ℕ). IsPage b session' i (piece i payload') (image (n + i))) (sym same_first) (two.page i lt)
