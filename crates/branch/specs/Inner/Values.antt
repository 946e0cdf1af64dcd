-- What each change of a branch, of a way and of a floor is.
use Rattle.std.specs.Prelude.{ℕ, ◌+◌, ◌-◌, ◌≡◌, Bool, true, false, cond, ◌&&◌, ◌||◌, ltb}
use Rattle.lines.specs.Count.{count_s}
use Rattle.lines.specs.Set.{member, is_empty_s, empty_s, add_s, take_s, cut_s, join_s}
use Rattle.lines.specs.Inner.Word.{add_l}
use Rattle.branch.specs.declared.Branch.{Branch}
use Rattle.branch.specs.declared.Way.{Way}
use Rattle.branch.specs.declared.Floor.{Floor}
use Rattle.branch.specs.declared.Outcome.{Outcome}
use Rattle.branch.specs.declared.Outcome.TheVariants.{Solved as IsSolved, Stuck as IsStuck, Tired as IsTired}

-- The invariant of a branch: its running count is what a scan of its strict items finds.
abbrev pub Counted : Branch → Type 0
Counted b = b.due ≡ count_s b.strict

-- What a search answers, with the way that it found.
pub data Answer : Type 0 where
  Solved : Way → Answer
  Stuck : Answer
  Tired : Answer

-- The answer of an outcome and of the place where the way found stands.
unfoldable pub answer_in : Outcome → Way → Answer
answer_in IsSolved w = Solved w
answer_in IsStuck w = Stuck
answer_in IsTired w = Tired

-- an answer past a step that keeps to the given steps or not
unfoldable pub followed : Bool → Answer → Answer
followed kept (Solved w) = Solved (record { at = w.at; used = w.used; seen = w.seen; slack = w.slack; kept = w.kept && kept })
followed kept Stuck = Stuck
followed kept Tired = Tired

-- the search has not given up
unfoldable pub Awake : Outcome → Type 0
Awake IsSolved = Unit {0}
Awake IsStuck = Unit {0}
Awake IsTired = ⊥

abbrev pub floor_of : ℕ → ℕ → Floor
floor_of fixed from = record { fixed = fixed; from = from }

unfoldable pub past_f : Floor → Bool → Floor
past_f f kept = cond kept f (record { fixed = 0; from = 0 })

abbrev pub dropped_b : Branch → Branch
dropped_b b = record {
  at = b.at;
  count = b.count;
  len = b.len - 1;
  limit = b.limit;
  due = b.due;
  strict = b.strict;
  lax = b.lax;
  used = b.used;
  seen = b.seen;
  slack = b.slack;
}

abbrev pub longer_b : Branch → Branch
longer_b b = record {
  at = b.at;
  count = b.count;
  len = b.len + 1;
  limit = b.limit;
  due = b.due;
  strict = b.strict;
  lax = b.lax;
  used = b.used;
  seen = b.seen;
  slack = b.slack;
}

abbrev pub sized_b : Branch → ℕ → Branch
sized_b b len = record {
  at = b.at;
  count = b.count;
  len = len;
  limit = b.limit;
  due = b.due;
  strict = b.strict;
  lax = b.lax;
  used = b.used;
  seen = b.seen;
  slack = b.slack;
}

abbrev pub chose_b : Branch → Branch
chose_b b = record {
  at = b.at + 1;
  count = b.count;
  len = b.len;
  limit = b.limit;
  due = b.due;
  strict = b.strict;
  lax = b.lax;
  used = b.used;
  seen = b.seen;
  slack = b.slack;
}

abbrev pub freed_b : Branch → Branch
freed_b b = record {
  at = b.at;
  count = b.count;
  len = b.len;
  limit = b.limit;
  due = 0;
  strict = empty_s;
  lax = join_s b.strict b.lax;
  used = b.used;
  seen = b.seen;
  slack = b.slack;
}

abbrev pub eased_b : Branch → Branch
eased_b b = record {
  at = b.at;
  count = b.count;
  len = b.len - 1;
  limit = b.limit;
  due = 0;
  strict = empty_s;
  lax = join_s b.strict b.lax;
  used = b.used;
  seen = b.seen;
  slack = true;
}

abbrev pub lead_b : Branch → Branch
lead_b b = record {
  at = b.at;
  count = b.count;
  len = 1;
  limit = b.limit;
  due = 0;
  strict = empty_s;
  lax = join_s b.strict b.lax;
  used = empty_s;
  seen = b.seen;
  slack = false;
}

abbrev pub own_b : Branch → Branch
own_b b = record {
  at = b.at;
  count = b.count;
  len = 1;
  limit = b.limit;
  due = b.due;
  strict = b.strict;
  lax = b.lax;
  used = empty_s;
  seen = b.seen;
  slack = false;
}

unfoldable pub past_tensor_b : Branch → Way → Branch
past_tensor_b b w = record {
  at = w.at;
  count = b.count;
  len = b.len - 1;
  limit = b.limit;
  due = cond w.slack 0 (count_s (cut_s b.strict w.used));
  strict = cond w.slack empty_s (cut_s b.strict w.used);
  lax = cond w.slack (cut_s (join_s b.strict b.lax) w.used) (cut_s b.lax w.used);
  used = join_s b.used w.used;
  seen = w.seen;
  slack = b.slack || w.slack;
}

unfoldable pub past_with_b : Branch → Way → Branch
past_with_b b w = record {
  at = w.at;
  count = b.count;
  len = 1;
  limit = b.limit;
  due = cond w.slack (count_s (join_s b.strict w.used)) (count_s w.used);
  strict = cond w.slack (join_s b.strict w.used) w.used;
  lax = cond w.slack (cut_s b.lax w.used) empty_s;
  used = empty_s;
  seen = w.seen;
  slack = false;
}

abbrev pub lent_b : Branch → ℕ → Branch
lent_b b item = record {
  at = b.at;
  count = b.count + 1;
  len = 1;
  limit = b.limit;
  due = b.due + 1;
  strict = add_s b.strict item;
  lax = b.lax;
  used = b.used;
  seen = b.seen;
  slack = b.slack;
}

unfoldable pub spent_b : Branch → ℕ → ℕ
spent_b b item = cond (member b.strict item) (b.due - 1) b.due

-- the item of an entry; past all items for a rule
unfoldable pub item_of : ℕ → ℕ → ℕ
item_of P e = cond (ltb e P) 192 (e - P)

unfoldable pub using_b : Branch → ℕ → ℕ → ℕ → ℕ → Branch
using_b b P T e len = record {
  at = b.at + 1;
  count = b.count;
  len = len;
  limit = b.limit;
  due = cond (ltb e P) b.due (spent_b b (e - P));
  strict = cond (ltb e P) b.strict (take_s b.strict (e - P));
  lax = cond (ltb e P) b.lax (take_s b.lax (e - P));
  used = cond (ltb e P) b.used (add_s b.used (e - P));
  seen = cond (ltb e P) b.seen (cond (ltb (e - P) T) (add_l b.seen (e - P)) b.seen);
  slack = b.slack;
}

unfoldable pub closed_a : Branch → Answer
closed_a b = cond (is_empty_s b.strict)
    (Solved (record { at = b.at; used = b.used; seen = b.seen; slack = b.slack; kept = true })) Stuck

abbrev pub joined_w : Branch → Way → Way
joined_w b w = record {
  at = w.at;
  used = join_s b.used w.used;
  seen = w.seen;
  slack = b.slack || w.slack;
  kept = w.kept;
}

abbrev pub beside_w : Way → Way → Way
beside_w w v = record { at = v.at; used = join_s w.used v.used; seen = v.seen; slack = w.slack && v.slack; kept = v.kept }

abbrev pub without_w : Way → ℕ → Way
without_w w item = record { at = w.at; used = take_s w.used item; seen = w.seen; slack = w.slack; kept = w.kept }

abbrev pub following_w : Way → Bool → Way
following_w w kept = record { at = w.at; used = w.used; seen = w.seen; slack = w.slack; kept = w.kept && kept }
