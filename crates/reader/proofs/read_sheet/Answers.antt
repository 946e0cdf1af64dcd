-- `read_sheet` meets its contract: each check's refusal is the outcome, and where none refuses, acceptance is.
use Rattle.std.proofs.Common.{refl, arith}
use Rattle.std.proofs.lemmas.Result.{err_from_is_err_and}
use Rattle.card.proofs.CardChecked.{passed, sound_front}
use Rattle.sheet_front.proofs.SheetFits.{fitting}
use Rattle.reader.proofs.ReaderExits.{found_misfit, steps_room, marks_room, found_wrong, found_list, found_sure, found_mark, found_right}
use Rattle.reader.proofs.read_sheet.Goals as goal

pub front_check-requires : goal.front_check-requires
front_check-requires c = rw c.bytes-bytes.ensures.value (sound_front _ c.bytes-bytes.ensures.sound)

pub returns-in_err-front_check : goal.returns-in_err-front_check
returns-in_err-front_check c =
    let p = err_from_is_err_and c.from_residual.result c.from_residual.ensures.1 in
    rw (p.1, p.2) (found_misfit _ _ _ c.bytes-bytes.ensures.sound (rw c.bytes-bytes.ensures.value at c.in_err-front_check.ensures))

pub byte-k-requires : goal.byte-k-requires
byte-k-requires c = let f = fitting _ _ (passed _ _ refl (rw c.bytes-bytes.ensures.value at c.in_ok-front_check.ensures)) in omega arith

pub slice_bounds-steps-end : goal.slice_bounds-steps-end
slice_bounds-steps-end c = let f = fitting _ _ (passed _ _ refl (rw c.bytes-bytes.ensures.value at c.in_ok-front_check.ensures)) in omega arith

pub steps_check-requires : goal.steps_check-requires
steps_check-requires c =
    let fits = passed _ _ refl (rw c.bytes-bytes.ensures.value at c.in_ok-front_check.ensures) in
    let f = fitting _ _ fits in
    let room = steps_room _ _ _ c.bytes-bytes.ensures.sound fits c.byte-k.ensures.0 in
    rw c.bytes-bytes.ensures.value (record { sound = c.bytes-bytes.ensures.sound; k_in_bounds = room; k_bound = omega arith })

pub returns-in_err-sure : goal.returns-in_err-sure
returns-in_err-sure c =
    let p = err_from_is_err_and c.from_residual-in_err-sure.result c.from_residual-in_err-sure.ensures.1 in
    let fits = passed _ _ refl (rw c.bytes-bytes.ensures.value at c.in_ok-front_check.ensures) in
    rw (p.1, p.2) (found_wrong _ _ _ c.bytes-bytes.ensures.sound fits c.byte-k.ensures.0 _ (rw c.bytes-bytes.ensures.value at c.in_err-sure.ensures.following))

pub slice_bounds-marks_check-count : goal.slice_bounds-marks_check-count
slice_bounds-marks_check-count c =
    let f = fitting _ _ (passed _ _ refl (rw c.bytes-bytes.ensures.value at c.in_ok-front_check.ensures)) in omega arith

pub slice_bounds-marks_check-start : goal.slice_bounds-marks_check-start
slice_bounds-marks_check-start c =
    let f = fitting _ _ (passed _ _ refl (rw c.bytes-bytes.ensures.value at c.in_ok-front_check.ensures)) in omega arith

pub marks_check-requires : goal.marks_check-requires
marks_check-requires c =
    let s = c.bytes-bytes.ensures.sound in
    let fits = passed _ _ refl (rw c.bytes-bytes.ensures.value at c.in_ok-front_check.ensures) in
    rw c.bytes-bytes.ensures.value (record { framed = sound_front _ s; marked = marks_room _ _ _ s fits c.byte-k.ensures.0 })

pub returns-in_err-marks_check : goal.returns-in_err-marks_check
returns-in_err-marks_check c =
    let p = err_from_is_err_and c.from_residual-in_err-marks_check.result c.from_residual-in_err-marks_check.ensures.1 in
    let s = c.bytes-bytes.ensures.sound in
    let k = c.byte-k.ensures.0 in
    let fits = passed _ _ refl (rw c.bytes-bytes.ensures.value at c.in_ok-front_check.ensures) in
    let said = c.in_ok-sure.ensures in
    let same = c.bytes-bytes.ensures.value in
    let list = found_list _ _ _ s fits k _ (rw same at said.following) in
    let sure = found_sure _ _ _ s fits k _ (rw same at said.surely_follows) in
    rw (p.1, p.2) (found_mark _ _ _ s fits k list sure (rw same at c.in_err-marks_check.ensures) _ refl)

pub returns : goal.returns
returns c =
    let s = c.bytes-bytes.ensures.sound in
    let k = c.byte-k.ensures.0 in
    let fits = passed _ _ refl (rw c.bytes-bytes.ensures.value at c.in_ok-front_check.ensures) in
    let said = c.in_ok-sure.ensures in
    let same = c.bytes-bytes.ensures.value in
    let list = found_list _ _ _ s fits k _ (rw same at said.following) in
    let sure = found_sure _ _ _ s fits k _ (rw same at said.surely_follows) in
    found_right _ _ _ s fits k list sure (rw same at c.in_ok-marks_check.ensures) _ refl
