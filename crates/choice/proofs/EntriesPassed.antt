-- The entries from one on that cannot be used.
use Rattle.std.proofs.Common.{ℕ, ◌+◌, ◌≤◌, ◌<◌, ◌≡◌, ◌∙◌, ap, false, List, Option, None, Some, max, arith}
use native.Mathlib.Decide.{dec_lt}
use Rattle.branch.specs.declared.Branch.{Branch}
use Rattle.choice.specs.Inner.Choice.{takable_by, NoneTakable, Seeks}

module _ (bs waits heads : List ℕ) (b : Branch) (name from : ℕ) where
  -- one more that cannot be used
  pub none_more : {e : ℕ} → NoneTakable bs waits heads b name from e → takable_by bs waits heads b name e ≡ false
      → NoneTakable bs waits heads b name from (e + 1)
  none_more {e} w h x k l = at (dec_lt x e)
    where
      at : Dec (x < e) → takable_by bs waits heads b name x ≡ false
      at (yes m) = w x k m
      at (no m) = let r : x ≡ e = omega arith in ap (takable_by bs waits heads b name) r ∙ h

  -- none below k, nor behind
  pub none_joined : (k : ℕ) {m end : ℕ} → NoneTakable bs waits heads b name from k → m ≡ max from k
      → NoneTakable bs waits heads b name m end → NoneTakable bs waits heads b name from end
  none_joined k {m} {end} w q v x h l = at (dec_lt x k)
    where
      at : Dec (x < k) → takable_by bs waits heads b name x ≡ false
      at (yes g) = w x h g
      at (no g) = v x (omega arith) l

  -- what is sought behind entries that cannot be used
  pub seeks_past : {e : ℕ} (r : Option ℕ) → from ≤ e → NoneTakable bs waits heads b name from e
      → Seeks bs waits heads b name e r → Seeks bs waits heads b name from r
  unfolding Seeks
  seeks_past {e} (Some f) o w s = record {
    onward = let y = s.onward in omega arith;
    inside = s.inside;
    takable = s.takable;
    passed = λ x h k. at x h k (dec_lt x e);
  }
    where
      at : (x : ℕ) → from ≤ x → x < f → Dec (x < e) → takable_by bs waits heads b name x ≡ false
      at x h k (yes l) = w x h l
      at x h k (no l) = s.passed x (omega arith) k
  seeks_past {e} None o w s = λ x h k. at x h k (dec_lt x e)
    where
      at : (x : ℕ) → from ≤ x → x < b.count → Dec (x < e) → takable_by bs waits heads b name x ≡ false
      at x h k (yes l) = w x h l
      at x h k (no l) = s x (omega arith) k
