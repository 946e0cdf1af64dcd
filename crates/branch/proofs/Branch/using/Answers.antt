-- A rule is used as an item past all others: nothing is taken. Then by whether the item is a line.
use Rattle.std.proofs.Common.{ℕ, ◌-◌, ◌≤◌, ◌<◌, ◌≡◌, refl, sym, ap, subst, ◌∙◌, Bool, true, false, cond, ltb, arith}
use borrow.Author.Tests.{lt-ltb, le-ltb}
use Rattle.lines.specs.declared.LineSet.{LineSet}
use Rattle.lines.specs.declared.LineWord.{LineWord}
use Rattle.lines.specs.Set.{add_s, take_s}
use Rattle.lines.specs.Inner.Word.{add_l}
use Rattle.lines.proofs.MemberLaws.{member_past, add_past, take_past}
use Rattle.branch.specs.declared.Branch.{Branch}
use Rattle.branch.specs.Inner.Values.{Counted, item_of, spent_b, using_b}
use Rattle.branch.proofs.CountsKept.{counted_using}
use Rattle.branch.proofs.Branch.using.Goals as goal
use Rattle.branch.proofs.Branch.using.Goals.{then-item-lines, else-item-lines}

-- what is done with the item is done with e - P, and nothing for a rule
module _ (P e : ℕ) where
  taken : (s : LineSet) → take_s s (item_of P e) ≡ cond (ltb e P) s (take_s s (e - P))
  unfolding item_of
  taken s = go (ltb e P)
    where
      go : (v : Bool) → take_s s (cond v 192 (e - P)) ≡ cond v s (take_s s (e - P))
      go true = take_past s 192 (omega arith)
      go false = refl

  added : (s : LineSet) → add_s s (item_of P e) ≡ cond (ltb e P) s (add_s s (e - P))
  unfolding item_of
  added s = go (ltb e P)
    where
      go : (v : Bool) → add_s s (cond v 192 (e - P)) ≡ cond v s (add_s s (e - P))
      go true = add_past s 192 (omega arith)
      go false = refl

  left_due : (b : Branch) → spent_b b (item_of P e) ≡ cond (ltb e P) b.due (spent_b b (e - P))
  unfolding item_of spent_b
  left_due b = go (ltb e P)
    where
      go : (v : Bool) → spent_b b (cond v 192 (e - P)) ≡ cond v b.due (spent_b b (e - P))
      go true = ap (λ (x : Bool). cond x (b.due - 1) b.due) (member_past b.strict 192 (omega arith))
      go false = refl

  module _ (T : ℕ) (seen : LineWord) where
    abbrev lit : Bool → LineWord
    lit v = cond v seen (cond (ltb (e - P) T) (add_l seen (e - P)) seen)

    line_seen : T ≤ 64 → item_of P e < T → add_l seen (item_of P e) ≡ lit (ltb e P)
    unfolding item_of
    line_seen few h = go (ltb e P) h
      where
        go : (v : Bool) → cond v 192 (e - P) < T → add_l seen (cond v 192 (e - P)) ≡ lit v
        go true k = absurd (omega arith)
        go false k = rw (lt-ltb (e - P) T k) refl

    none_seen : T ≤ item_of P e → seen ≡ lit (ltb e P)
    unfolding item_of
    none_seen h = go (ltb e P) h
      where
        go : (v : Bool) → T ≤ cond v 192 (e - P) → seen ≡ lit v
        go true k = refl
        go false k = rw (le-ltb (e - P) T k) refl

pub returns-clause-value : goal.returns-clause-value
unfolding using_b
returns-clause-value c =
    let a = c.args in
    let b = a.self in
    let item = c.item_of-item.ensures in
    let seen : c.if-item-lines.seen ≡ lit a.rules a.e a.lines b.seen (ltb a.e a.rules) = elim c.if-item-lines.branch [
      | then-item-lines w ↦ w.seen-is ∙ w.add-seen.ensures ∙ ap (add_l b.seen) item
          ∙ line_seen a.rules a.e a.lines b.seen c.requires.few_lines (rw (sym item) w.if-item-lines.true)
      | else-item-lines w ↦ w.seen-is ∙ none_seen a.rules a.e a.lines b.seen (rw (sym item) w.if-item-lines.false)
    ] in
    λ i. record {
      at = (c.chose-b.ensures.value i).at;
      count = (c.chose-b.ensures.value i).count;
      len = a.len;
      limit = (c.chose-b.ensures.value i).limit;
      due = (c.spent.ensures ∙ ap (spent_b b) item ∙ left_due a.rules a.e b) i;
      strict = (c.take-b.ensures ∙ ap (take_s b.strict) item ∙ taken a.rules a.e b.strict) i;
      lax = (c.take-b-2.ensures ∙ ap (take_s b.lax) item ∙ taken a.rules a.e b.lax) i;
      used = (c.add-b.ensures ∙ ap (add_s b.used) item ∙ added a.rules a.e b.used) i;
      seen = seen i;
      slack = (c.chose-b.ensures.value i).slack;
    }

pub returns-clause-counted : goal.returns-clause-counted
returns-clause-counted c =
    let a = c.args in
    subst Counted (sym (returns-clause-value c)) (counted_using a.self a.rules a.lines a.e a.len c.requires.counted)
