-- "19 also where the walk passes 'never'" (02, #103): such a walk is right, and no derivation has its list.
use Prim.Native.Nat.{ℕ}
use mathlib.Core.Path.{◌≡◌, refl, sym, ap, subst, ◌∙◌}
use mathlib.Core.Bool.{true, false≢true}
use mathlib.Core.List.{List, [], ◌∷◌, ◌++◌, append-nil, append_assoc, head-eq_of_cons-eq, tail-eq_of_cons-eq}
use lib.ListN.{length}
use Rattle.calculus.specs.Formula.{zeroᴳ}
use Rattle.calculus.specs.Derivation.{Scope, clause_at}
use Rattle.calculus.specs.Walk.{ItemsDivide}
use Rattle.calculus.specs.Wanted.{Part, goal, meet, Both, parts_⊗, parts_&, parts_⊸, Side, side_⊕₁, side_⊕₂, side_&₁, side_&₂}
use Rattle.calculus.specs.Wanted.{still_0, Along, ends, in_turn, lends, chooses, uses}
use Rattle.calculus.specs.Inner.Trace.{Gathered, Trace, trace_1, trace_⊤, trace_0, trace_⊗, trace_&, trace_⊸, trace_side, trace_rule}
use Rattle.calculus.specs.Inner.Trace.{trace_item, trace_head, trace_recipe}
use Rattle.calculus.proofs.TraceExact.{begun, side_same}
use Rattle.calculus.proofs.WalkExact.{goes_along, retrace, divides_accounts}
use Rattle.card.specs.Verdict.{sound}
use Rattle.card.specs.Decode.{job_of}
use Rattle.card.proofs.NodesDecoded.{lines_bounded}
use Rattle.trace.specs.Steps.{steps_fault, PassesNever, never_here, never_first, never_second, never_lent, never_side, never_use}
use Rattle.trace.specs.Steps.{NeverPassed}
use Rattle.trace.proofs.StepsMean.{walked_right}

-- It is a walk.
never_along : {n : ℕ} {es : Scope} {p : Part} {l : List ℕ} → PassesNever n es p l → Along n es p l
never_along never_here = ends still_0
never_along (never_first b q x y) = in_turn b q (never_along x) y
never_along (never_second b q x y) = in_turn b q x (never_along y)
never_along (never_lent x) = lends (never_along x)
never_along (never_side o x) = chooses o (never_along x)
never_along (never_use u x) = uses u (never_along x)

-- What begins with the list of a walk that passes 0 does not divide.
record Undivided (g : Gathered) (l : List ℕ) : Type 0 where
  dead : (r t : List ℕ) → g.list ++ r ≡ l ++ t → g.alive ≡ true → ⊥

-- of two parts, by the first or by the second
in_parts : (k₁ k₂ l₁ l₂ : List ℕ) {k l : List ℕ} (r t : List ℕ) → k ≡ k₁ ++ k₂ → l ≡ l₁ ++ l₂ → k ++ r ≡ l ++ t
    → k₁ ++ (k₂ ++ r) ≡ l₁ ++ (l₂ ++ t)
in_parts k₁ k₂ l₁ l₂ r t s e h = sym (append_assoc k₁ k₂ r) ∙ begun r t s e h ∙ append_assoc l₁ l₂ t

by_first : {i j : ℕ} {es : Scope} {y : Part} {f g w : Gathered} {l k m : List ℕ} → w.list ≡ f.list ++ g.list → l ≡ k ++ m
    → (w.alive ≡ true → f.alive ≡ true) → Undivided f k → Trace i es y g → Along j es y m → Undivided w l
by_first {f} {g} {k} {m} s e a first c d = record {
  dead = λ r t h v. first.dead (g.list ++ r) (m ++ t) (in_parts f.list g.list k m r t s e h) (a v);
}

by_second : {i j : ℕ} {es : Scope} {x : Part} {f g w : Gathered} {l k m : List ℕ} → w.list ≡ f.list ++ g.list → l ≡ k ++ m
    → (w.alive ≡ true → g.alive ≡ true) → Trace i es x f → Along j es x k → Undivided g m → Undivided w l
by_second {f} {g} {k} {m} s e a c d second = record {
  dead = λ r t h v. second.dead r t (retrace c d (g.list ++ r) (m ++ t) (in_parts f.list g.list k m r t s e h)).1 (a v);
}

-- of a use or a choice
by_step : {i : ℕ} {es : Scope} {q : Part} {x w : Gathered} {c d : ℕ} {l : List ℕ} → w.list ≡ c ∷ x.list
    → (w.alive ≡ true → x.alive ≡ true) → Trace i es q x → (c ≡ d → Undivided x l) → Undivided w (d ∷ l)
by_step {x} {w} {c} {d} {l} s a k rest = record { dead = over }
  where
    over : (r t : List ℕ) → w.list ++ r ≡ (d ∷ l) ++ t → w.alive ≡ true → ⊥
    over r t h v =
        let g : c ∷ (x.list ++ r) ≡ d ∷ (l ++ t) = sym (ap (◌++ r) s) ∙ h in
        (rest (head-eq_of_cons-eq g)).dead r t (tail-eq_of_cons-eq g) (a v)

-- a choice is wanted neither at 0 nor at two parts in turn
no_side : {es : Scope} {q : Part} {c : ℕ} → Side es (goal zeroᴳ) c q → ⊥
no_side o = elim o [ ]

side_both : {es : Scope} {p q x y : Part} {c : ℕ} → Side es p c q → Both p x y → ⊥
side_both (side_⊕₁ e) b = elim b [ ]
side_both (side_⊕₂ e) b = elim b [ ]
side_both (side_&₁ e u) b = elim b [ ]
side_both (side_&₂ e u) b = elim b [ ]

undivided : {i n : ℕ} {es : Scope} {p : Part} {g : Gathered} {l : List ℕ} → Trace i es p g → PassesNever n es p l → Undivided g l
undivided (trace_0 e) never_here = record { dead = λ r t h v. false≢true (sym e.is_dead ∙ v) }
undivided (trace_1 e) (never_first b q x y) = elim b [ ]
undivided (trace_1 e) (never_second b q x y) = elim b [ ]
undivided (trace_1 e) (never_side o x) = elim o [ ]
undivided (trace_⊤ e) (never_first b q x y) = elim b [ ]
undivided (trace_⊤ e) (never_second b q x y) = elim b [ ]
undivided (trace_⊤ e) (never_side o x) = elim o [ ]
undivided (trace_head f e) (never_first b q x y) = elim b [ ]
undivided (trace_head f e) (never_second b q x y) = elim b [ ]
undivided (trace_head f e) (never_side o x) = elim o [ ]
undivided (trace_⊗ s c d) (never_first parts_⊗ q x y) = by_first s.lists q (λ v. (s.alives.0 v).0) (undivided c x) d y
undivided (trace_⊗ s c d) (never_second parts_⊗ q x y) = by_second s.lists q (λ v. (s.alives.0 v).1) c x (undivided d y)
undivided (trace_& s c d) (never_first parts_& q x y) = by_first s.lists q (λ v. (s.alives.0 v).0) (undivided c x) d y
undivided (trace_& s c d) (never_second parts_& q x y) = by_second s.lists q (λ v. (s.alives.0 v).1) c x (undivided d y)
undivided (trace_recipe s c d) (never_first parts_⊸ q x y) = by_first s.lists q (λ v. (s.alives.0 v).0) (undivided c x) d y
undivided (trace_recipe s c d) (never_second parts_⊸ q x y) = by_second s.lists q (λ v. (s.alives.0 v).1) c x (undivided d y)
undivided (trace_⊸ s c) (never_lent x) =
    record { dead = λ r t h v. (undivided c x).dead r t (sym (ap (◌++ r) s.lists) ∙ h) (s.alives.0 v).0 }
undivided (trace_side o s c) never_here = absurd (no_side o)
undivided (trace_side o s c) (never_first b q x y) = absurd (side_both o b)
undivided (trace_side o s c) (never_second b q x y) = absurd (side_both o b)
undivided {n} {es} (trace_side o s c) (never_side {l} i x) =
    by_step s.lists (λ v. sym s.alives ∙ v) c (λ e. undivided c (subst (λ q. PassesNever n es q l) (sym (side_same o i e)) x))
undivided {es} (trace_rule q s c) (never_use {n} {a} {l} u x) =
    by_step s.lists (λ v. sym s.alives ∙ v) c
    (λ e. undivided c (subst (λ f. PassesNever n es (meet a (clause_at es f)) l) (sym e) x))
undivided {es} (trace_item q s c) (never_use {n} {a} {l} u x) =
    by_step s.lists (λ v. (s.alives.0 v).0) c
    (λ e. undivided c (subst (λ f. PassesNever n es (meet a (clause_at es f)) l) (sym e) x))
undivided {n = n} {l = l} (trace_0 {es = es} {w = w} e) (never_first {k = k} {m = m} b q x y) = elim b [ ]
undivided {n = n} {l = l} (trace_0 {es = es} {w = w} e) (never_second {k = k} {m = m} b q x y) = elim b [ ]
undivided {n = n} (trace_0 {es = es} {w = w} e) (never_side {c = c} {l = l} o x) = elim o [ ]
undivided {n = n} (trace_⊗ {es = es} {G = G} {H = H} {w = w} {y = y} s c d) (never_side {l = l} o x) = elim o [ ]
undivided {n = n} (trace_& {es = es} {G = G} {H = H} {w = w} {y = y} s c d) (never_side {l = l} o x) = elim o [ ]
undivided {n = n} {l = l} (trace_⊸ {es = es} {D = D} {G = G} {w = w} s c) (never_first {k = k} {m = m} b q x y) = elim b [ ]
undivided {n = n} {l = l} (trace_⊸ {es = es} {D = D} {G = G} {w = w} s c) (never_second {k = k} {m = m} b q x y) = elim b [ ]
undivided {n = n} (trace_⊸ {es = es} {D = D} {G = G} {w = w} s c) (never_side {l = l} o x) = elim o [ ]
undivided {n = n} {l = l} (trace_side {es = es} {q = q} {w = w} o s c) (never_lent {D = D} {G = G} x) = elim o [ ]
undivided (trace_side {es = es} {q = q} {w = w} o s c) (never_use {n = n} {a = a} {e = e} {l = l} u x) = elim o [ ]
undivided {n = n} {l = l} (trace_rule {es = es} {a = a} {e = e} {w = w} q s c) (never_first {k = k} {m = m} b _ x y) = elim b [ ]
undivided {n = n} {l = l} (trace_rule {es = es} {a = a} {e = e} {w = w} q s c) (never_second {k = k} {m = m} b _ x y) = elim b [ ]
undivided {n = n} (trace_rule {es = es} {a = a} {e = e} {w = w} q s c) (never_side {l = l} o x) = elim o [ ]
undivided {n = n} {l = l} (trace_item {es = es} {a = a} {e = e} {w = w} q s c) (never_first {k = k} {m = m} b _ x y) = elim b [ ]
undivided {n = n} {l = l} (trace_item {es = es} {a = a} {e = e} {w = w} q s c) (never_second {k = k} {m = m} b _ x y) = elim b [ ]
undivided {n = n} (trace_item {es = es} {a = a} {e = e} {w = w} q s c) (never_side {l = l} o x) = elim o [ ]
undivided {n = n} (trace_recipe {es = es} {a = a} {G = G} {D = D} {w = w} {y = y} s c d) (never_side {l = l} o x) = elim o [ ]

-- THEOREM. Where the walk passes "never", 19: it is right, and the items do not divide.
pub never_divides : (bs l : List ℕ) → NeverPassed bs l → (steps_fault bs l ≡ sound) × (ItemsDivide (job_of bs) l → ⊥)
never_divides bs l x = (
  (walked_right bs l).1 ((goes_along (job_of bs) l (length l) []).1 (l, never_along x, append-nil l, refl)),
  λ d. let a = divides_accounts (job_of bs) l (lines_bounded bs) d in
      (undivided a.trace x).dead [] [] (append-nil a.gathered.list ∙ a.list ∙ sym (append-nil l)) a.alive,
)
