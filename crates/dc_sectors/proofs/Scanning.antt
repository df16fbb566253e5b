-- A record read event by event.
use Rattle.std.proofs.Common.{◌<◌, ℕ, ◌+◌, List, length, get_or, take, sym, ◌∙◌, ap, subst}
use Rattle.std.proofs.lemmas.List.{take_more}
use Rattle.dc_sectors.specs.declared.event.Event.{Event}
use Rattle.dc_sectors.specs.declared.pick.Pick.{Pick}
use Rattle.dc_sectors.specs.declared.scan.Scan.{Scan}
use Rattle.dc_sectors.specs.Disk.{Image, Choices, settled}
use Rattle.dc_sectors.specs.Record.{reads_next, choices_next, writes_next, reads_after, choices_after, writes_after, reads_from-push, choices_from-push, writes_from-push}
use Rattle.dc_sectors.specs.Scan.{IsScan}

pub scan_more : (start : Image) (events : List Event) (i : ℕ) (d : Event) (n : ℕ) (pick : Pick) (scan : Scan) → i < length events
    → IsScan (reads_next (reads_after start (take i events)) (get_or events i d)) (choices_next (reads_after start (take i events)) (choices_after start (take i events)) (get_or events i d)) (writes_next (writes_after (take i events)) (get_or events i d)) n pick scan
    → IsScan (reads_after start (take (i + 1) events)) (choices_after start (take (i + 1) events)) (writes_after (take (i + 1) events)) n pick scan
scan_more start events i d n pick scan lt is =
    let before = take i events in
    let event = get_or events i d in
    let more = take_more events i d lt in
    let r = ap (reads_after start) more ∙ reads_from-push start before event in
    let c = ap (choices_after start) more ∙ choices_from-push start (settled start) before event in
    let w = ap writes_after more ∙ writes_from-push (λ n. 0) before event in
    subst (λ (x : Image). IsScan x (choices_after start (take (i + 1) events)) (writes_after (take (i + 1) events)) n pick scan) (sym r)
    (subst (λ (x : Choices). IsScan (reads_next (reads_after start before) event) x (writes_after (take (i + 1) events)) n pick scan) (sym c)
    (subst (λ (x : ℕ → ℕ). IsScan (reads_next (reads_after start before) event) (choices_next (reads_after start before) (choices_after start before) event) x n pick scan) (sym w) is))
