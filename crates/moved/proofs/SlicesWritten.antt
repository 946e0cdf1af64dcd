-- A write over a part of a buffer, as a write at the part's start.
use Rattle.std.proofs.Common.{◌≡◌, ℕ, List, ◌++◌, length, take, append_assoc, sym, ◌∙◌, ap}
use borrow.Rule.Slice.PartMut.{put_mid}
use lib.Seq.{drop-drop}
use Rattle.joined.specs.Inner.Written.{Written}

pub slice_written : (s xs : List ℕ) (at k : ℕ) → k ≡ length xs → Written s (put_mid at k s xs) at xs
slice_written s xs at k e = record {
  bytes = rw e (ap (λ r. take at s ++ (xs ++ r)) (drop-drop (length xs) at s) ∙ sym (append_assoc (take at s) xs _));
}
