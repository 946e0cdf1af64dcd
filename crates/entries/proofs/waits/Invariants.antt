use Rattle.std.proofs.Common.{ℕ, ◌<◌, ◌≡◌, length, get_or}
use Rattle.entries.proofs.MasksAreTwins.{Chained, mask_of}
use Rattle.entries.proofs.waits.Given as goal

abbrev pub invariant-loop-i : goal.invariant-loop-i
invariant-loop-i l = record {
  chained : Chained l.card l.last l.all l.musts l.i;
  room : length l.masks ≡ 64;
  masked : (k : ℕ) → k < l.i → get_or l.masks k 0 ≡ mask_of l.card k;
}
