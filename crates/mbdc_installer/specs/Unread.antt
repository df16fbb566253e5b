-- What is said of the answers of a search that can't be read (this product).
use Rattle.std.specs.Prelude.{ℕ, ◌==◌, Bool, ◌&&◌, not, List, [], ◌++◌, codes, decimal}
use Rattle.std.specs.Prelude.{if◌then◌else◌}
use Rattle.mbdc_installer.specs.declared.course.Course.{Course}

abbrev pub is_all_read : Course → Bool
is_all_read c = c.unreadable == 0 && c.collided == 0

-- what it points to: no frame came at all, answers of several meters, or a disturbed bus
abbrev pub hint : Course → List ℕ
hint c = if not c.is_understood then codes "are speed and parity right?\n"
    else if c.collided == 0 then codes "noise, or several meters acknowledged at once\n"
    else if c.selections == 0 then codes "two meters have one address, or the line is disturbed\n"
    else codes "several meters answered one wildcard\n"

unfoldable pub unread_line : ℕ → List ℕ → Course → List ℕ
unread_line count asked c = codes "mbdc: " ++ (decimal count ++ (asked ++ (decimal c.silent
    ++ (codes " silent, " ++ (decimal c.unreadable ++ (codes " unreadable, " ++ (decimal c.collided
    ++ (codes " collided: " ++ hint c))))))))

-- THE LINE; nothing where each answer could be read. A search by wildcards selects, one at primary addresses resets.
unfoldable pub unread_text : Course → List ℕ
unread_text c = if is_all_read c then []
    else if c.selections == 0 then unread_line c.resets (codes " resets: ") c
    else unread_line c.selections (codes " selections: ") c
