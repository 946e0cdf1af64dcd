-- The table, if it is settled; else there is none.
use native.Mathlib.Omega.{arith}
use mathlib.Core.Path.{◌≡◌, refl}
use mathlib.Core.Bool.{Bool, cond, true, false, false≢true}
use Rattle.bounds.proofs.CellsKept.{new_names, new_table}
use Prim.Native.Nat.{ℕ, ◌<◌}
use Rattle.search.proofs.+pruned.Goals as goal

-- without the table it calls itself no more
unasked : (b : Bool) {t : ℕ} → b ≡ true → cond b 1 0 ≡ t → 0 < t
unasked true e m = omega arith
unasked false e m = absurd (false≢true e)

pub prepare-settled-requires : goal.prepare-settled-requires
prepare-settled-requires t c = record { sound = c.requires.sound; names_held = new_names 1577 refl; table_held = new_table 66177 refl }

pub pruned-requires : goal.pruned-requires
pruned-requires t c =
    (unasked c.args.bounded c.if-not-bounded.false c.decreases, (c.requires.sound, c.requires.waiting))

pub remembering-requires-2 : goal.remembering-requires-2
remembering-requires-2 t c = record {
  sound = c.requires.sound;
  waiting = c.requires.waiting;
  settled = record { held = c.prepare-settled.ensures.held; settled = c.prepare-settled.ensures.settled.0 c.if-not-settled.false };
}
