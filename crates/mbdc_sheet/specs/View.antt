-- What the program's own values say: for the contracts of private functions.
use Rattle.mbdc_io.specs.Lines.{lines_of}
use Rattle.mbdc_sheet.specs.declared.flaw.Known.{Known}
use Rattle.mbdc_sheet.specs.declared.parts.Piece.{Piece}
use Rattle.mbdc_sheet.specs.Parts.{Piece as ThePiece}
use Rattle.mbdc_sheet.specs.Sheet.{Known as TheKnown}

abbrev pub piece_at : Piece → ThePiece
piece_at p = record { tag = p.tag.now; text = p.text.now }

abbrev pub known_of : Known → TheKnown
known_of k = record { marks = k.marks; user = k.user.now; label = k.label.now; lines = lines_of k.file.now }
