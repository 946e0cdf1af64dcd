-- A sheet to which 12 does not apply.
use Rattle.std.specs.Prelude.{ℕ, ◌+◌, ◌≤◌, ◌≡◌, List, length}
use Rattle.card.specs.Format.{length_field, version, line_count, step_limit}
use Rattle.sheet_front.specs.Front.{step_count, mark_count}

-- what later checks may ask of a sheet that fits
pub record Fitting (bs sh : List ℕ) : Type 0 where
  pub front : 5 ≤ length sh
  pub whole : length_field sh ≡ length sh
  pub first : version sh ≡ 1
  pub lines : mark_count sh ≡ line_count bs
  pub long : 5 + step_count sh + mark_count sh ≡ length sh
  pub few : step_count sh ≤ step_limit bs
