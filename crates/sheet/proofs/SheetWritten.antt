-- Laws of the sheet: what a buffer holds after each group of writes.
use Prim.Native.Nat.{ℕ, ◌+◌, ◌-◌, ◌≤◌}
use native.Mathlib.Omega.{arith}
use mathlib.Core.Path.{◌≡◌, refl, sym, ◌∙◌}
use mathlib.Core.List.{List, [], ◌∷◌, ◌++◌, append_assoc, append-nil}
use lib.ListN.{length, take, drop, length-append, length-drop}
use lib.Seq.{take_all, drop-length, take_at, drop_at, drop-drop}
use borrow.Rule.Slice.PartMut.{put_mid, Post-is}
use Rattle.calculus.specs.Items.{Items}
use Rattle.card.specs.Format.{line_count}
use Rattle.card.specs.Sheet.{marks_of, word, sheet_of}

-- a part of k from a on is set to q
pub part_set : (a k : ℕ) (xs q m : List ℕ) → m ≡ q → put_mid a (a + k - a) xs m ≡ take a xs ++ q ++ drop (a + k) xs
part_set a k xs q m e = let w : a + k - a ≡ k = omega arith in rw (w, e, drop-drop k a xs) (sym (append_assoc (take a xs) q (drop (a + k) xs)))

-- a part from a to the end is lent, and comes back with q at its front and the rest as it was
pub part_back : (a t : ℕ) (xs q m : List ℕ) → a ≤ length xs → m ≡ q ++ drop t (take (length xs - a) (drop a xs))
    → put_mid a (length xs - a) xs m ≡ take a xs ++ q ++ drop (a + t) xs
part_back a t xs q m h e =
    let all : take (length xs - a) (drop a xs) ≡ drop a xs = take_all (length xs - a) (drop a xs) (simp length-drop (omega arith)) in
    let none : drop (length xs - a) (drop a xs) ≡ [] = Post-is a (length xs) xs h ∙ drop-length xs in
    rw (none, append-nil, e, all, drop-drop t a xs) (sym (append_assoc (take a xs) q (drop (a + t) xs)))

-- q is written behind p, which was written before; what lies further on is as it was
behind : (p q s : List ℕ) (a b : ℕ) → length p ≡ a → take a (p ++ drop a s) ++ q ++ drop (a + b) (p ++ drop a s) ≡ p ++ q ++ drop (a + b) s
behind p q s a b e = rw (take_at p (drop a s) a e, ← drop-drop b a (p ++ drop a s), drop_at p (drop a s) a e, drop-drop b a s)

-- the front, the steps and the marks, written one after the other, are the sheet
pub whole_sheet : (bs : List ℕ) (U : Items) (l s s₁ s₂ s₃ : List ℕ) (k : ℕ) → length l ≡ k
    → s₁ ≡ word (5 + k + line_count bs) ++ (1 ∷ k ∷ line_count bs ∷ drop 5 s)
    → s₂ ≡ take 5 s₁ ++ l ++ drop (5 + k) s₁
    → s₃ ≡ take (5 + k) s₂ ++ marks_of bs U l ++ drop (5 + k + line_count bs) s₂
    → s₃ ≡ sheet_of bs U l ++ drop (5 + k + line_count bs) s
unfolding word sheet_of
whole_sheet bs U l s s₁ s₂ s₃ k long e₁ e₂ e₃ =
    let front : List ℕ = word (5 + k + line_count bs) ++ (1 ∷ k ∷ line_count bs ∷ []) in
    let d₂ : s₂ ≡ front ++ l ++ drop (5 + k) s = e₂ ∙ rw e₁ (behind front l s 5 k refl) in
    let n : length (front ++ l) ≡ 5 + k = omega (arith, length-append front l) in
    let d₃ : s₃ ≡ front ++ l ++ marks_of bs U l ++ drop (5 + k + line_count bs) s =
    e₃ ∙ rw d₂ (behind (front ++ l) (marks_of bs U l) s (5 + k) (line_count bs) n) in
    d₃ ∙ rw long refl
