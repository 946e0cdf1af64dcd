-- What each change of a branch and of a summary is.
use Rattle.std.specs.Prelude.{ℕ, ◌+◌, ◌-◌, Bool, true, false, not, cond, ◌&&◌, ◌||◌, List, ◌≡◌}
use Rattle.card.specs.Format.{rule_count, line_count, depth_limit}
use Rattle.lines.specs.declared.LineSet.{LineSet}
use Rattle.lines.specs.Set.{member, is_empty_s, empty_s, add_s, take_s, cut_s, meet_s, join_s}
use Rattle.lines.specs.Count.{count_s}
use Rattle.lines.specs.Inner.Word.{empty_l, add_l, meet_l, join_l}
use Rattle.summary.specs.declared.Position.{Position}
use Rattle.summary.specs.declared.Summary.{Summary}

-- how many of the must lines are used, by a scan
abbrev pub scanned : LineSet → LineSet → ℕ
scanned strict used = count_s (meet_s strict used)

-- the running count goes on by what a scan of the must lines taken finds, where the items divided and no ⊤ takes more
abbrev pub MetCounted : LineSet → ℕ → Summary → Type 0
MetCounted strict before w = w.alive ≡ true → w.slack ≡ false → w.met ≡ before + scanned strict w.used

-- Where the walk of the card's goal along k steps begins.
unfoldable pub start_p : List ℕ → ℕ → Position
start_p bs k = record {
  rules = rule_count bs;
  given = k;
  at = 0;
  count = rule_count bs + line_count bs;
  depth = depth_limit bs;
  met = 0;
}

abbrev pub on_b : Position → ℕ → ℕ → Position
on_b b at met = record { rules = b.rules; given = b.given; at = at; count = b.count; depth = b.depth; met = met }

abbrev pub lent_p : Position → Position
lent_p b = record { rules = b.rules; given = b.given; at = b.at; count = b.count + 1; depth = b.depth; met = b.met }

abbrev pub stepped_b : Position → ℕ → Position
stepped_b b n = record { rules = b.rules; given = b.given; at = b.at + 1; count = b.count; depth = b.depth - n; met = b.met }

abbrev pub ended_w : Position → Bool → Bool → Summary
ended_w b slack alive = record { at = b.at; used = empty_s; slack = slack; alive = alive; met = b.met; sure = empty_l }

abbrev pub tensor_w : Summary → Summary → Summary
tensor_w w v = record {
  at = v.at;
  used = join_s w.used v.used;
  slack = w.slack || v.slack;
  alive = w.alive && v.alive && is_empty_s (meet_s w.used v.used);
  met = v.met;
  sure = join_l w.sure v.sure;
}

abbrev pub cover_w : Summary → Summary → Bool
cover_w w v = w.slack || is_empty_s (cut_s v.used w.used)

-- the count of a side without slack
unfoldable pub pick_w : Summary → Summary → ℕ
pick_w w v = cond w.slack v.met w.met

abbrev pub with_w : Summary → Summary → Summary
with_w w v = record {
  at = v.at;
  used = join_s w.used v.used;
  slack = w.slack && v.slack;
  alive = w.alive && v.alive && (cover_w w v && cover_w v w);
  met = pick_w w v;
  sure = meet_l w.sure v.sure;
}

abbrev pub without_s : Summary → ℕ → Summary
without_s w item = record {
  at = w.at;
  used = take_s w.used item;
  slack = w.slack;
  alive = w.alive && (w.slack || member w.used item);
  met = w.met;
  sure = w.sure;
}

abbrev pub using_w : Summary → ℕ → ℕ → Summary
using_w w item due = record {
  at = w.at;
  used = add_s w.used item;
  slack = w.slack;
  alive = w.alive && not (member w.used item);
  met = w.met + due;
  sure = add_l w.sure item;
}
