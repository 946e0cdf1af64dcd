-- Refusal 12 (01, "Refused, and where"), and the parts of a sheet.
use Rattle.std.specs.Prelude.{ℕ, ◌+◌, Bool, not, ◌&&◌, List, length, take, drop, leb, eqb}
use Rattle.card.specs.Format.{byte_at, length_field, version, line_count, step_limit}
use Rattle.card.specs.Verdict.{Verdict, sheet, refuse}

-- "Length (2 bytes), version 1, step count k, T, then k steps, then T marks": length and version stand where the card has them
abbrev pub step_count : List ℕ → ℕ
step_count sh = byte_at sh 3

abbrev pub mark_count : List ℕ → ℕ
mark_count sh = byte_at sh 4

abbrev pub steps_of : List ℕ → List ℕ
steps_of sh = take (step_count sh) (drop 5 sh)

abbrev pub marks_in : List ℕ → List ℕ
marks_in sh = drop (5 + step_count sh) sh

-- none of: "sheet under 5 bytes, length field not the bytes lent, version not 1, T not the card's, length not 5 + k + T, or k above s"
unfoldable pub sheet_fits : List ℕ → List ℕ → Bool
sheet_fits bs sh =
    leb 5 (length sh)
    && (eqb (length_field sh) (length sh)
    && (eqb (version sh) 1
    && (eqb (mark_count sh) (line_count bs)
    && (eqb (5 + step_count sh + mark_count sh) (length sh) && leb (step_count sh) (step_limit bs)))))

unfoldable pub sheet_fault : List ℕ → List ℕ → Verdict
sheet_fault bs sh = refuse (not (sheet_fits bs sh)) 12 sheet
