-- Of the lines only those at hand can be used. What is left of a set of lines once its lowest is looked at.
use Prim.Native.Nat.{ℕ, ◌+◌, ◌-◌, ◌^◌, ◌≤◌, ◌<◌}
use native.Mathlib.Omega.{arith}
use mathlib.Core.Path.{◌≡◌, refl, sym, ap, ap₂, ◌∙◌}
use mathlib.Core.Bool.{Bool, true, false, not, ◌&&◌, ◌||◌, and-true, and-false}
use mathlib.Core.List.{List}
use lib.ListN.{get_or}
use lib.Dec.{ltb, eqb}
use borrow.Author.Tests.{lt-ltb, le-ltb, le-leb, ltb-false, eqb-true, not-true, not-false}
use Rattle.calculus.specs.Items.{◌∪◌}
use Rattle.calculus.proofs.SetLaws.{and_left, and_right}
use Rattle.card.specs.Format.{rule_count, line_count}
use Rattle.lines.specs.declared.LineWord.{LineWord}
use Rattle.lines.specs.Inner.Word.{line_in, is_empty_l, lowest_l, rest_l}
use Rattle.lines.proofs.LineLaws.{line_of, no_line, under_lowest, lowest_in, line_rest, rest_less}
use Rattle.scope.specs.Inner.Sets.{items}
use Rattle.entries.specs.Inner.Entries.{code_fits}
use Rattle.branch.specs.declared.Branch.{Branch}
use Rattle.choice.specs.Inner.Choice.{at_hand_by, open_to, takable_by, line_at_hand, HandFrom, ReachesAt}

module _ (bs waits heads : List ℕ) (b : Branch) (name : ℕ) where
  away : (e : ℕ) → open_to bs waits b e ≡ false → takable_by bs waits heads b name e ≡ false
  unfolding takable_by
  away e h = rw (h, and-false (code_fits bs (get_or heads e 0) name)) (and-false (ltb e b.count))

  -- an entry in scope
  pub takes : (e : ℕ) (r : Bool) → e < b.count → (code_fits bs (get_or heads e 0) name && open_to bs waits b e) ≡ r
      → takable_by bs waits heads b name e ≡ r
  unfolding takable_by
  takes e r h k = rw (lt-ltb e b.count h) k

  -- a line is at hand where one of the two sets has it
  hand_line : (x : ℕ) → x < 64 → at_hand_by (rule_count bs) (rule_count bs + x) b ≡ line_at_hand b x
  unfolding at_hand_by ◌∪◌ items
  hand_line x h =
      let q : rule_count bs + x - rule_count bs ≡ x = omega arith in
      rw (le-leb (rule_count bs) (rule_count bs + x) (omega arith), q)
      (ap₂ ◌||◌ (sym (line_of b.strict x h)) (sym (line_of b.lax x h)))

  line_gone : (x : ℕ) → x < 64 → line_at_hand b x ≡ false
      → takable_by bs waits heads b name (rule_count bs + x) ≡ false
  unfolding open_to
  line_gone x h g = away (rule_count bs + x) (rw (hand_line x h, g) refl)

  -- What a set of lines says that are still to be looked at, from the entry `from` on: of the others none can be used.
  pub record Left (from : ℕ) (hand : LineWord) : Type 0 where
    pub fits : hand.bits < 2 ^ 64
    pub above : (x : ℕ) → line_in hand x ≡ true → from ≤ rule_count bs + x
    pub others : (x : ℕ) → x < line_count bs → from ≤ rule_count bs + x → line_in hand x ≡ false
        → takable_by bs waits heads b name (rule_count bs + x) ≡ false

  -- all lines at hand
  pub left_all : {from : ℕ} {hand : LineWord} → rule_count bs ≤ from → line_count bs ≤ 64 → HandFrom b (from - rule_count bs) hand → Left from hand
  left_all {from} {hand} r t h = record {
    fits = h.fits;
    above = λ x s.
        let late = and_right (line_at_hand b x) (not (ltb x (from - rule_count bs))) (sym (h.line x) ∙ s) in
        let q = ltb-false x (from - rule_count bs) (not-true (ltb x (from - rule_count bs)) late) in
        omega arith;
    others = λ x k l s.
        line_gone x (omega arith)
        (sym (and-true (line_at_hand b x)) ∙ ap (λ (u : Bool). line_at_hand b x && not u) (sym (le-ltb x (from - rule_count bs) (omega arith)))
        ∙ sym (h.line x) ∙ s);
  }

  module _ {from : ℕ} {hand : LineWord} (L : Left from hand) (r : rule_count bs ≤ from) where
    abbrev low : ℕ
    low = lowest_l hand

    -- an entry from there on that is none of the lines
    unlit : (x : ℕ) → from ≤ x → x < rule_count bs + line_count bs → line_in hand (x - rule_count bs) ≡ false
        → takable_by bs waits heads b name x ≡ false
    unlit x h k s =
        let q : rule_count bs + (x - rule_count bs) ≡ x = omega arith in
        ap (takable_by bs waits heads b name) (sym q) ∙ L.others (x - rule_count bs) (omega arith) (omega arith) s

    -- those up to the lowest, and all where none is left
    pub left_passed : (e : ℕ) → e ≤ rule_count bs + low → e ≤ rule_count bs + line_count bs
        → (x : ℕ) → from ≤ x → x < e → takable_by bs waits heads b name x ≡ false
    left_passed e k t x h l = unlit x h (omega arith) (under_lowest hand (x - rule_count bs) (omega arith))

    pub left_none : is_empty_l hand ≡ true → (x : ℕ) → from ≤ x → x < rule_count bs + line_count bs → takable_by bs waits heads b name x ≡ false
    left_none z x h l = unlit x h l (no_line hand z (x - rule_count bs))

    -- those behind it, where it cannot be used either
    left_more : is_empty_l hand ≡ false → takable_by bs waits heads b name (rule_count bs + low) ≡ false → Left from (rest_l hand)
    left_more n g = record {
      fits = let l = L.fits in omega (arith, rest_less hand L.fits n);
      above = λ x s. L.above x (and_left (line_in hand x) (not (eqb x low)) (sym (line_rest hand L.fits n x) ∙ s));
      others = λ x k l s. go x k l (sym (line_rest hand L.fits n x) ∙ s) (line_in hand x) refl;
    }
      where
        go : (x : ℕ) → x < line_count bs → from ≤ rule_count bs + x → (line_in hand x && not (eqb x low)) ≡ false → (u : Bool)
            → line_in hand x ≡ u → takable_by bs waits heads b name (rule_count bs + x) ≡ false
        go x k l s true e =
            let q = eqb-true x low (not-false (eqb x low) (ap (λ (v : Bool). v && not (eqb x low)) (sym e) ∙ s)) in
            ap (λ (y : ℕ). takable_by bs waits heads b name (rule_count bs + y)) q ∙ g
        go x k l s false e = L.others x k l e

    -- the lowest is not passed
    pub line_reached : is_empty_l hand ≡ false → (e : ℕ) → e ≡ rule_count bs + low → e < rule_count bs + line_count bs
        → rule_count bs + line_count bs ≤ b.count
        → (get_or heads e 0 ≤ 1000 → (code_fits bs (get_or heads e 0) name && open_to bs waits b e) ≡ true)
        → ReachesAt bs waits heads b name from (rule_count bs + line_count bs) e
    line_reached n e q k s u = record {
      onward = let o = L.above low (lowest_in hand L.fits n) in omega arith;
      ends = k;
      reached = record { inside = omega arith; takable = λ p. takes e true (omega arith) (u p) };
      passed = left_passed e (omega arith) (omega arith);
    }

    -- the lowest is passed
    pub line_passed : is_empty_l hand ≡ false → (e : ℕ) → e ≡ rule_count bs + low → e < rule_count bs + line_count bs
        → rule_count bs + line_count bs ≤ b.count
        → (code_fits bs (get_or heads e 0) name && open_to bs waits b e) ≡ false → Left from (rest_l hand)
    line_passed n e q k s u = left_more n (rw q at (takes e false (omega arith) u))
